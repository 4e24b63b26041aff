use Rattle.std.proofs.Common.{◌≡◌, ◌++◌, ◌∷◌, [], List, ℕ, Some, sym, subst, ◌∙◌}
use Rattle.std.specs.Map.{lookup, keys_of}
use Rattle.indexmap.proofs.CallerLemmas.{updates-with_value_at}
use Rattle.dgc_client.specs.Kept.{is_same}
use Rattle.dgc_client.proofs.KeptLemmas.{same-laws}
use Rattle.rising_map.specs.Rows.{AreBelow}
use Rattle.sp_parked.specs.ByReferences.{pairs}
use Rattle.sp_parked.proofs.TicketLemmas.{changed, entry-at, keys-pairs, pairs-more, room-other, there}
use Rattle.sp_parked.proofs.by_reference.ByReference.add_reserved.Goals as goal

pub returns-clause-room : goal.returns-clause-room
returns-clause-room c = λ other apart.
    let m = c.args.self.now.tickets in
    let x = c.index_mut.result.now in
    let r = c.args.reference.now in
    let entry = entry-at r m.entries c.in-Some.index x (sym c.in-Some.ensures.index) c.index_mut.ensures.value in
    room-other m.entries _ r other c.push_reserved.new.self (λ q. (updates-with_value_at m c.in-Some.index c.push_reserved.new.self same-laws c.in-Some.ensures.unique r x entry).0 q) apart

pub returns-clause-added : goal.returns-clause-added
returns-clause-added c = λ holds a below.
    let m = c.args.self.now.tickets in
    let x = c.index_mut.result.now in
    let r = c.args.reference.now in
    let found : lookup (is_same r) m.entries ≡ Some x = sym c.in-Some.ensures.value ∙ c.index_mut.ensures.value in
    let entry = entry-at r m.entries c.in-Some.index x (sym c.in-Some.ensures.index) c.index_mut.ensures.value in
    let low : AreBelow c.args.ticket (keys_of (pairs (holds r))) = subst (λ (l : List ℕ). AreBelow c.args.ticket l) (sym (keys-pairs (holds r))) below in
    changed (λ (l : List ℕ). l ++ c.args.ticket ∷ []) holds c.args.self.now _ r c.push_reserved.new.self (λ q. (updates-with_value_at m c.in-Some.index c.push_reserved.new.self same-laws c.in-Some.ensures.unique r x entry).0 q)
    (rw (← pairs-more (holds r) c.args.ticket) (c.push_reserved.ensures.pushed (pairs (holds r)) (there holds c.args.self.now r x found a) low)) a
