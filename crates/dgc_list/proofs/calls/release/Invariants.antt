use Rattle.std.proofs.Common.{◌≡◌, false, take}
use Rattle.std.specs.Prelude.{IsTrue}
use Rattle.space_ids.specs.declared.ids.ObjId.{ObjId}
use Rattle.dgc_list.specs.Remembered.{is_blank}
use Rattle.dgc_list.specs.Clients.{is_known, IsAlike}
use Rattle.dgc_list.specs.Objects.{clients_at, remembered_at, is_named}
use Rattle.dgc_list.proofs.calls.release.Given as goal

-- nothing that is remembered changed, and room was taken back at the objects so far
abbrev pub invariant-loop-id : goal.invariant-loop-id
invariant-loop-id l = record {
  alike : (other : ObjId) → IsAlike (clients_at l.initial.objects other) (clients_at l.objects other);
  taken : (other : ObjId) → IsTrue (is_named other (take l.id-index l.ids)) → IsTrue (is_blank (remembered_at l.initial.objects other l.client))
      → is_known (clients_at l.objects other) l.client ≡ false;
}
