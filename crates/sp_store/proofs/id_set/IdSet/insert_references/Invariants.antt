use Rattle.std.proofs.Common.{◌≡◌, take}
use Rattle.std.specs.Prelude.{◌||◌}
use Rattle.space_ids.specs.declared.ids.ObjId.{ObjId}
use Rattle.sp_rules.specs.References.{is_id_in, own_ids}
use Rattle.sp_store.proofs.id_set.IdSet.insert_references.Given as goal

-- the ids of the references so far
abbrev pub invariant-loop-reference : goal.invariant-loop-reference
invariant-loop-reference l =
    (id : ObjId) → is_id_in l.self id ≡ (is_id_in l.initial.self id || is_id_in (own_ids l.own (take l.reference-index l.references)) id)
