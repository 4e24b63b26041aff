use Rattle.std.proofs.Common.{◌≡◌, take}
use Rattle.std.specs.Prelude.{◌||◌}
use Rattle.std.specs.List.{list_any}
use Rattle.indexmap.specs.IndexMap.{values}
use Rattle.space_ids.specs.declared.ids.ObjId.{ObjId}
use Rattle.sp_rules.specs.References.{is_id_in, own_ids, references_of}
use Rattle.sp_store.specs.Instances.{Remote}
use Rattle.sp_store.proofs.store.Store.insert_named.Given as goal

-- the ids that the fields of the objects so far have
abbrev pub invariant-loop-index : goal.invariant-loop-index
invariant-loop-index l =
    (id : ObjId) → is_id_in l.named id ≡ (is_id_in l.initial.named id || list_any (λ (x : Remote). is_id_in (own_ids l.self.own (references_of x.fields)) id) (take l.index (values l.self.objects)))
