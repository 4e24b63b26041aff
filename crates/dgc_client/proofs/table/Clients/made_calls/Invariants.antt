use Rattle.std.proofs.Common.{◌≡◌, List, take}
use Rattle.dgc_client.specs.Table.{Told, IsAfter, room, made_each}
use Rattle.dgc_client.proofs.table.Clients.made_calls.Given as goal

-- the calls so far are made
abbrev pub invariant-loop-due : goal.invariant-loop-due
invariant-loop-due l =
    ((h : List Told) → IsAfter h l.initial.self → IsAfter (made_each (take l.due-index l.calls) l.call h) l.self)
    × (room l.self ≡ room l.initial.self)
