use Rattle.std.proofs.Common.{ℕ, List, take}
use Rattle.space_ids.specs.declared.ids.ForeignId.{ForeignId as Reference}
use Rattle.sp_parked.specs.ByReferences.{AreTickets, without_tickets}
use Rattle.sp_parked.proofs.by_reference.ByReference.remove_all.Given as goal

-- the references so far do not have the ticket
abbrev pub invariant-loop-reference : goal.invariant-loop-reference
invariant-loop-reference l = (holds : Reference → List ℕ) → AreTickets holds l.initial.self → AreTickets (without_tickets (take l.reference-index l.references) l.ticket holds) l.self
