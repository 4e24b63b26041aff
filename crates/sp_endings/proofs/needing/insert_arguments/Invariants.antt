use Rattle.std.proofs.Common.{◌≡◌, take}
use Rattle.std.specs.Prelude.{◌||◌}
use Rattle.space_ids.specs.declared.ids.ObjId.{ObjId}
use Rattle.sp_rules.specs.References.{is_id_in, own_ids, references_of}
use Rattle.sp_endings.proofs.needing.insert_arguments.Given as goal

-- the ids of the values so far
abbrev pub invariant-loop-value : goal.invariant-loop-value
invariant-loop-value l =
    (id : ObjId) → is_id_in l.ids id ≡ (is_id_in l.initial.ids id || is_id_in (own_ids l.own (references_of (take l.value-index l.arguments))) id)
