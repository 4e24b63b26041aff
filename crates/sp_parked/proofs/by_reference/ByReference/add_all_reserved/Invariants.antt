use Rattle.std.proofs.Common.{◌≡◌, ℕ, ◌<◌, true, List, take, drop}
use Rattle.space_ids.specs.declared.ids.ForeignId.{ForeignId as Reference}
use Rattle.dgc_client.specs.Table.{is_among}
use Rattle.rising_map.specs.Rows.{AreBelow}
use Rattle.sp_parked.specs.ByReferences.{AreTickets, room_at, with_tickets}
use Rattle.sp_parked.proofs.by_reference.ByReference.add_all_reserved.Given as goal

-- the references so far have the ticket, the others have room for it
abbrev pub invariant-loop-reference : goal.invariant-loop-reference
invariant-loop-reference l =
    ((r : Reference) → is_among r (drop l.reference-index l.references) ≡ true → 0 < room_at l.self r)
    × ((holds : Reference → List ℕ) → AreTickets holds l.initial.self → ((r : Reference) → AreBelow l.ticket (holds r)) → AreTickets (with_tickets (take l.reference-index l.references) l.ticket holds) l.self)
