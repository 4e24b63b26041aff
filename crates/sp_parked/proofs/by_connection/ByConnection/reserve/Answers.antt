use Rattle.std.proofs.Common.{◌≡◌, [], List, ℕ, None, Some, subst, sym, ◌∙◌, arith}
use Rattle.std.proofs.Common.{nat_eq}
use Rattle.std.specs.Map.{lookup}
use Rattle.indexmap.proofs.CallerLemmas.{updates-with_value_at}
use Rattle.std.specs.Cmp.{nat_eq_equiv}
use Rattle.rising_map.specs.Rows.{AreRows}
use Rattle.sp_parked.specs.ByReferences.{pairs}
use Rattle.sp_parked.proofs.ConnectionLemmas.{absent, entry-at, kept, none-from, room-none, room-is, room-more, room-new, there}
use Rattle.sp_parked.proofs.TicketLemmas.{on-ok}
use Rattle.sp_parked.proofs.by_connection.ByConnection.reserve.Goals as goal

pub returns-in-Some-clause-ok : goal.returns-in-Some-clause-ok
returns-in-Some-clause-ok c =
    let m = c.args.self.now.tickets in
    let x = c.index_mut.result.now in
    let r = c.args.conn in
    let entry = entry-at r m.entries c.in-Some.index x (sym c.in-Some.ensures.index) c.index_mut.ensures.value in
    let at = room-new m.entries _ r c.reserve.new.self (λ q. (updates-with_value_at m c.in-Some.index c.reserve.new.self nat_eq_equiv c.in-Some.ensures.unique r x entry).0 q) in
    on-ok c.reserve.result _ _ (λ room. omega (arith, room, at)) c.reserve.ensures.ok

pub returns-in-Some-clause-same : goal.returns-in-Some-clause-same
returns-in-Some-clause-same c = λ holds a.
    let m = c.args.self.now.tickets in
    let x = c.index_mut.result.now in
    let r = c.args.conn in
    let found : lookup (nat_eq r) m.entries ≡ Some x = sym c.in-Some.ensures.value ∙ c.index_mut.ensures.value in
    let entry = entry-at r m.entries c.in-Some.index x (sym c.in-Some.ensures.index) c.index_mut.ensures.value in
    kept holds c.args.self.now _ r c.reserve.new.self (λ q. (updates-with_value_at m c.in-Some.index c.reserve.new.self nat_eq_equiv c.in-Some.ensures.unique r x entry).0 q)
    (c.reserve.ensures.same (pairs (holds r)) (there holds c.args.self.now r x found a)) a

pub returns-in-Some-clause-room : goal.returns-in-Some-clause-room
returns-in-Some-clause-room c = λ other.
    let m = c.args.self.now.tickets in
    let x = c.index_mut.result.now in
    let r = c.args.conn in
    let found : lookup (nat_eq r) m.entries ≡ Some x = sym c.in-Some.ensures.value ∙ c.index_mut.ensures.value in
    let entry = entry-at r m.entries c.in-Some.index x (sym c.in-Some.ensures.index) c.index_mut.ensures.value in
    let at = room-is m.entries r x found in
    room-more m.entries _ r other c.reserve.new.self (λ q. (updates-with_value_at m c.in-Some.index c.reserve.new.self nat_eq_equiv c.in-Some.ensures.unique r x entry).0 q) (omega (arith, at, c.reserve.ensures.room))

pub returns-in_ok-insert-in-None-clause-same : goal.returns-in_ok-insert-in-None-clause-same
returns-in_ok-insert-in-None-clause-same c = λ holds a.
    let m = c.args.self.now.tickets in
    let r = c.args.conn in
    let none : lookup (nat_eq r) m.entries ≡ None = none-from (lookup (nat_eq r) m.entries) c.in-None.ensures.found in
    let empty : holds r ≡ [] = absent holds c.args.self.now r none a in
    kept holds c.args.self.now _ r c.reserve-in-None.new.self (λ q. c.in_ok-insert-in-None.ensures.updates.0 q)
    (subst (λ (l : List ℕ). AreRows (pairs l) c.reserve-in-None.new.self) (sym empty) (c.in_ok-reserve-in-None.ensures.same [] c.new-tickets.ensures)) a

pub returns-in_ok-insert-in-None-clause-room : goal.returns-in_ok-insert-in-None-clause-room
returns-in_ok-insert-in-None-clause-room c = λ other.
    let m = c.args.self.now.tickets in
    let r = c.args.conn in
    let none = room-none m.entries r (none-from (lookup (nat_eq r) m.entries) c.in-None.ensures.found) in
    room-more m.entries _ r other c.reserve-in-None.new.self (λ q. c.in_ok-insert-in-None.ensures.updates.0 q) (omega (arith, none))
