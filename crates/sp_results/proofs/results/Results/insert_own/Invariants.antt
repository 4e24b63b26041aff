use Rattle.std.proofs.Common.{◌≡◌, ◌++◌, map}
use Rattle.std.specs.Prelude.{◌||◌, ℕ, Option}
use Rattle.std.specs.List.{list_any}
use Rattle.std.specs.Map.Iter.{deref_pair}
use Rattle.space_ids.specs.declared.ids.ObjId.{ObjId}
use Rattle.space_ids.specs.declared.value.Value.{Value}
use Rattle.sp_rules.specs.References.{is_id_in, own_ids, references_in}
use Rattle.sp_results.proofs.results.Results.insert_own.Given as goal

-- the ids that the results so far name; the other results are left
abbrev pub invariant-loop-value : goal.invariant-loop-value
invariant-loop-value l =
    ((id : ObjId) → is_id_in l.ids id ≡ (is_id_in l.initial.ids id || list_any (λ (row : ℕ × Option Value). is_id_in (own_ids l.own (references_in row.1)) id) (map deref_pair l.yielded)))
    × (map deref_pair l.yielded ++ l.value-iterator ≡ l.self)
