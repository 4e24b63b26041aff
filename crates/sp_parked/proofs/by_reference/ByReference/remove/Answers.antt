use Rattle.std.proofs.Common.{◌≡◌, List, ℕ, filter, Some, sym, ◌∙◌}
use Rattle.std.specs.Prelude.{◌==◌, not}
use Rattle.std.specs.Map.{lookup}
use Rattle.indexmap.proofs.CallerLemmas.{updates-with_value_at}
use Rattle.dgc_client.specs.Kept.{is_same}
use Rattle.dgc_client.proofs.KeptLemmas.{same-laws}
use Rattle.rising_map.specs.Rows.{AreRows}
use Rattle.sp_parked.specs.ByReferences.{pairs}
use Rattle.sp_parked.proofs.TicketLemmas.{changed, emptied, entry-at, gone-then, none-first, pairs-removed, rises-pairs, there}
use Rattle.sp_parked.proofs.by_reference.ByReference.remove.Goals as goal

pub returns-then-is_empty : goal.returns-then-is_empty
returns-then-is_empty c = record {
  removed = λ holds a.
      let m = c.args.self.now.tickets in
      let x = c.index_mut-tickets.result.now in
      let r = c.args.reference.now in
      let left : List ℕ → List ℕ = λ l. filter (λ (t : ℕ). not (t == c.args.ticket)) l in
      let found : lookup (is_same r) m.entries ≡ Some x = sym c.in-Some.ensures.value ∙ c.index_mut-tickets.ensures.value in
      let entry = entry-at r m.entries c.in-Some.index x (sym c.in-Some.ensures.index) c.index_mut-tickets.ensures.value in
      let rows = there holds c.args.self.now r x found a in
      let rest : AreRows (pairs (left (holds r))) c.take.new.self = rw (← pairs-removed c.args.ticket (holds r) (rises-pairs (holds r) rows.rises)) (c.take.ensures.taken (pairs (holds r)) rows) in
      let none = none-first (left (holds r)) (sym (c.is_empty.ensures (pairs (left (holds r))) rest) ∙ c.if-is_empty.true) in
      emptied left holds c.args.self.now _ r
      (λ q. c.swap_remove.ensures.updates.0 q ∙ gone-then r q c.take.new.self _ (lookup (is_same q) m.entries) ((updates-with_value_at m c.in-Some.index c.take.new.self same-laws c.in-Some.ensures.unique r x entry).0 q)) none a;
}

pub returns-else-is_empty : goal.returns-else-is_empty
returns-else-is_empty c = record {
  removed = λ holds a.
      let m = c.args.self.now.tickets in
      let x = c.index_mut-tickets.result.now in
      let r = c.args.reference.now in
      let left : List ℕ → List ℕ = λ l. filter (λ (t : ℕ). not (t == c.args.ticket)) l in
      let found : lookup (is_same r) m.entries ≡ Some x = sym c.in-Some.ensures.value ∙ c.index_mut-tickets.ensures.value in
      let entry = entry-at r m.entries c.in-Some.index x (sym c.in-Some.ensures.index) c.index_mut-tickets.ensures.value in
      let rows = there holds c.args.self.now r x found a in
      let rest : AreRows (pairs (left (holds r))) c.take.new.self = rw (← pairs-removed c.args.ticket (holds r) (rises-pairs (holds r) rows.rises)) (c.take.ensures.taken (pairs (holds r)) rows) in
      changed left holds c.args.self.now _ r c.take.new.self (λ q. (updates-with_value_at m c.in-Some.index c.take.new.self same-laws c.in-Some.ensures.unique r x entry).0 q) rest a;
}
