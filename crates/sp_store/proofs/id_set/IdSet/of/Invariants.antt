use Rattle.std.proofs.Common.{◌≡◌, take}
use Rattle.space_ids.specs.declared.ids.ObjId.{ObjId}
use Rattle.sp_rules.specs.References.{is_id_in}
use Rattle.sp_store.proofs.id_set.IdSet.of.Given as goal

-- the ids so far
abbrev pub invariant-loop-id : goal.invariant-loop-id
invariant-loop-id l = (id : ObjId) → is_id_in l.set id ≡ is_id_in (take l.id-index l.ids) id
