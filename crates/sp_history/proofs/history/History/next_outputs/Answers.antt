use Rattle.std.proofs.Common.{rules, arith, ◌≡◌, ◌<◌, ◌∷◌, length, map, ap, subst}
use Rattle.sp_outputs.specs.Notes.{output_of}
use Rattle.sp_history.specs.Books.{Replays}
use Rattle.sp_history.specs.Entries.{outputs_in_all}
use Rattle.sp_history.specs.Logs.{start_of}
use Rattle.sp_history.proofs.BookLemmas.{replays_less}
use Rattle.sp_history.proofs.EntryLemmas.{Entries, first_off}
use Rattle.sp_history.proofs.history.History.next_outputs.Goals as goal

pub invariant_of-self : goal.invariant_of-self
invariant_of-self g c =
    let n = g.N.Setup.setting in
    let start = start_of n c.self.inside.past.value in
    let before = c.self.inside.before.value in
    let h = c.self.inside.entries.items in
    let ws = c.self.inside.waiting.items in
    let batch = c.remove.result in
    let rest = c.remove.new.self.items in
    let some : 0 < length ws = omega (arith, c.remove.ensures.len, c.self.inside.waiting.ok.0) in
    let first : ws ≡ batch ∷ rest = first_off ws rest batch some c.remove.ensures.value c.remove.ensures.items in
    let waits = subst (λ l. Replays n start before (Entries h) l) (ap outputs_in_all first) c.self.invariant.1 in (
      c.self.invariant.0,
      replays_less n start before (Entries h) (map output_of batch.items) (outputs_in_all rest) waits,
      search rules,
      search rules,
      search rules,
      c.self.invariant.5,
      c.self.invariant.6,
      c.self.invariant.7,
      c.self.invariant.8,
    )
