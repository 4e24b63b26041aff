use Rattle.std.proofs.Common.{rules, ◌≡◌, []}
use Rattle.sp_history.specs.Logs.{start_of}
use Rattle.sp_history.proofs.CutLemmas.{begins, begins_past, begins_there}
use Rattle.sp_history.proofs.history.History.new.Goals as goal

pub invariant_of-result : goal.invariant_of-result
invariant_of-result g c =
    let n = g.N.Setup.setting in
    let entries : c.new.result.items ≡ [] = search rules in
    let batches : c.new-2.result.items ≡ [] = search rules in
    let past = c.of.ensures in
    let before = c.of-2.ensures in (
      begins_there (λ t. g.S.Lender.is_space n t c.args.space) n c.of.result.value c.new.result.items past entries c.requires,
      begins n (start_of n c.of.result.value) c.of-2.result.value c.new.result.items c.new-2.result.items before entries batches,
      search rules,
      search rules,
      search rules,
      begins_past n c.of.result.value c.of-2.result.value past before,
      past,
      search rules,
      search rules,
    )
