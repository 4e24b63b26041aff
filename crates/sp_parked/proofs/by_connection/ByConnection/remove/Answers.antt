use Rattle.std.proofs.Common.{◌≡◌, List, ℕ, filter, Some, sym, ◌∙◌}
use Rattle.std.specs.Prelude.{◌==◌, not}
use Rattle.std.proofs.Common.{nat_eq}
use Rattle.std.specs.Map.{lookup}
use Rattle.indexmap.proofs.CallerLemmas.{updates-with_value_at}
use Rattle.std.specs.Cmp.{nat_eq_equiv}
use Rattle.rising_map.specs.Rows.{AreRows}
use Rattle.sp_parked.specs.ByReferences.{pairs}
use Rattle.sp_parked.proofs.ConnectionLemmas.{changed, emptied, entry-at, gone-then, there}
use Rattle.sp_parked.proofs.TicketLemmas.{none-first, pairs-removed, rises-pairs}
use Rattle.sp_parked.proofs.by_connection.ByConnection.remove.Goals as goal

pub returns-then-is_empty : goal.returns-then-is_empty
returns-then-is_empty c = record {
  removed = λ holds a.
      let m = c.args.self.now.tickets in
      let x = c.index_mut-tickets.result.now in
      let r = c.args.conn in
      let left : List ℕ → List ℕ = λ l. filter (λ (t : ℕ). not (t == c.args.ticket)) l in
      let found : lookup (nat_eq r) m.entries ≡ Some x = sym c.in-Some.ensures.value ∙ c.index_mut-tickets.ensures.value in
      let entry = entry-at r m.entries c.in-Some.index x (sym c.in-Some.ensures.index) c.index_mut-tickets.ensures.value in
      let rows = there holds c.args.self.now r x found a in
      let rest : AreRows (pairs (left (holds r))) c.take.new.self = rw (← pairs-removed c.args.ticket (holds r) (rises-pairs (holds r) rows.rises)) (c.take.ensures.taken (pairs (holds r)) rows) in
      let none = none-first (left (holds r)) (sym (c.is_empty.ensures (pairs (left (holds r))) rest) ∙ c.if-is_empty.true) in
      emptied left holds c.args.self.now _ r
      (λ q. c.swap_remove.ensures.updates.0 q ∙ gone-then r q c.take.new.self _ (lookup (nat_eq q) m.entries) ((updates-with_value_at m c.in-Some.index c.take.new.self nat_eq_equiv c.in-Some.ensures.unique r x entry).0 q)) none a;
}

pub returns-else-is_empty : goal.returns-else-is_empty
returns-else-is_empty c = record {
  removed = λ holds a.
      let m = c.args.self.now.tickets in
      let x = c.index_mut-tickets.result.now in
      let r = c.args.conn in
      let left : List ℕ → List ℕ = λ l. filter (λ (t : ℕ). not (t == c.args.ticket)) l in
      let found : lookup (nat_eq r) m.entries ≡ Some x = sym c.in-Some.ensures.value ∙ c.index_mut-tickets.ensures.value in
      let entry = entry-at r m.entries c.in-Some.index x (sym c.in-Some.ensures.index) c.index_mut-tickets.ensures.value in
      let rows = there holds c.args.self.now r x found a in
      let rest : AreRows (pairs (left (holds r))) c.take.new.self = rw (← pairs-removed c.args.ticket (holds r) (rises-pairs (holds r) rows.rises)) (c.take.ensures.taken (pairs (holds r)) rows) in
      changed left holds c.args.self.now _ r c.take.new.self (λ q. (updates-with_value_at m c.in-Some.index c.take.new.self nat_eq_equiv c.in-Some.ensures.unique r x entry).0 q) rest a;
}
