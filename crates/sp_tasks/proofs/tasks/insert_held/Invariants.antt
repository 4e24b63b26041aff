use Rattle.std.proofs.Common.{◌≡◌, ◌++◌, map}
use Rattle.std.specs.Prelude.{◌||◌, ℕ}
use Rattle.std.specs.List.{list_any}
use Rattle.std.specs.Map.Iter.{deref_pair}
use Rattle.space_ids.specs.declared.ids.ObjId.{ObjId}
use Rattle.sp_rules.specs.References.{is_id_in, own_ids}
use Rattle.sp_tasks.specs.Rows.{TaskRow}
use Rattle.sp_tasks.proofs.tasks.insert_held.Given as goal

-- the ids that the tasks so far hold; the other tasks are left
abbrev pub invariant-loop-task : goal.invariant-loop-task
invariant-loop-task l =
    ((id : ObjId) → is_id_in l.ids id ≡ (is_id_in l.initial.ids id || list_any (λ (row : ℕ × TaskRow). is_id_in (own_ids l.own row.1.held) id) (map deref_pair l.yielded)))
    × (map deref_pair l.yielded ++ l.task-iterator ≡ l.rows.entries)
