use Rattle.std.proofs.Common.{◌≡◌, ◌++◌, false, map}
use Rattle.std.specs.Prelude.{ℕ, Option}
use Rattle.std.specs.List.{list_any}
use Rattle.std.specs.Map.Iter.{deref_pair}
use Rattle.space_ids.specs.declared.value.Value.{Value}
use Rattle.sp_rules.specs.References.{is_reference_in, references_in}
use Rattle.sp_results.proofs.results.Results.has_reference.Given as goal

-- none of the results so far is; the other results are left
abbrev pub invariant-loop-value : goal.invariant-loop-value
invariant-loop-value l =
    (list_any (λ (row : ℕ × Option Value). is_reference_in (references_in row.1) l.reference) (map deref_pair l.yielded) ≡ false)
    × (map deref_pair l.yielded ++ l.value-iterator ≡ l.self)
