use Rattle.std.proofs.Common.{take}
use Rattle.space_ids.specs.declared.ids.ObjId.{ObjId}
use Rattle.dgc_list.specs.Clients.{IsSame}
use Rattle.dgc_list.specs.Objects.{clients_at, AreKnown}
use Rattle.dgc_list.proofs.calls.make_room.Given as goal

-- the client has room at the objects so far, and nothing else changed
abbrev pub invariant-loop-id : goal.invariant-loop-id
invariant-loop-id l =
    AreKnown l.client (take l.id-index l.ids) l.objects × ((other : ObjId) → IsSame (clients_at l.initial.objects other) (clients_at l.objects other))
