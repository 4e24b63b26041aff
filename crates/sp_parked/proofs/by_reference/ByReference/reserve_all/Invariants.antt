use Rattle.std.proofs.Common.{◌≡◌, ℕ, ◌<◌, true, List, take}
use Rattle.space_ids.specs.declared.ids.ForeignId.{ForeignId as Reference}
use Rattle.dgc_client.specs.Table.{is_among}
use Rattle.sp_parked.specs.ByReferences.{AreTickets, room_at}
use Rattle.sp_parked.proofs.by_reference.ByReference.reserve_all.Given as goal

-- there is room for the references so far
abbrev pub invariant-loop-reference : goal.invariant-loop-reference
invariant-loop-reference l =
    ((r : Reference) → is_among r (take l.reference-index l.references) ≡ true → 0 < room_at l.self r) × ((holds : Reference → List ℕ) → AreTickets holds l.initial.self → AreTickets holds l.self)
