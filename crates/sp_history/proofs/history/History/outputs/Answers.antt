use Rattle.std.proofs.Common.{rules, ◌≡◌, [], sym, subst}
use Rattle.sp_history.specs.Books.{Replays}
use Rattle.sp_history.specs.Entries.{outputs_in_all}
use Rattle.sp_history.specs.Logs.{start_of}
use Rattle.sp_history.proofs.BookLemmas.{replays_taken}
use Rattle.sp_history.proofs.EntryLemmas.{Entries}
use Rattle.sp_history.proofs.history.History.outputs.Goals as goal

pub invariant_of-self : goal.invariant_of-self
invariant_of-self g c =
    let n = g.N.Setup.setting in
    let start = start_of n c.self.inside.past.value in
    let before = c.self.inside.before.value in
    let h = c.self.inside.entries.items in
    let w = outputs_in_all c.self.inside.waiting.items in
    let items : c.replace.new.dest.items ≡ [] = search rules in (
      c.self.invariant.0,
      subst (λ l. Replays n start before (Entries h) (outputs_in_all l)) (sym items) (replays_taken n start before (Entries h) w c.self.invariant.1),
      search rules,
      search rules,
      search rules,
      c.self.invariant.5,
      c.self.invariant.6,
      c.self.invariant.7,
      c.self.invariant.8,
    )
