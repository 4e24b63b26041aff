use Rattle.std.proofs.Common.{◌≡◌, List, take}
use Rattle.dgc_client.specs.History.{event_of}
use Rattle.dgc_client.specs.Table.{Told, IsAfter, room, on_each, references_at}
use Rattle.dgc_client.proofs.table.Clients.tell.Given as goal

-- the event has reached the references so far, and no number is given
abbrev pub invariant-loop-id : goal.invariant-loop-id
invariant-loop-id l =
    ((h : List Told) → IsAfter h l.initial.self → IsAfter (on_each (references_at l.group.peer (take l.id-index l.group.ids)) (event_of l.change) h) l.self)
    × (l.self.numbers ≡ l.initial.self.numbers) × (room l.self ≡ room l.initial.self)
