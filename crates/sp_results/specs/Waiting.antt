-- Results that wait to be acknowledged, with the tasks whose they are. (This project's own; the Java RMI specification, 3.3, has that what is referenced stays.)
use Rattle.std.specs.Prelude.{ℕ, ◌==◌, not, Bool, List, [], ◌∷◌, Option, None, Some, filter}
use Rattle.std.specs.List.{list_any}
use Rattle.space_ids.specs.declared.value.Value.{Value}

-- whether a result of the task waits
abbrev pub is_waiting : List (ℕ × Option Value) → ℕ → Bool
is_waiting rows task = list_any (λ (row : ℕ × Option Value). row.0 == task) rows

-- the results that are not of the task
abbrev pub without : ℕ → List (ℕ × Option Value) → List (ℕ × Option Value)
without task rows = filter (λ (row : ℕ × Option Value). not (row.0 == task)) rows

-- those that are
abbrev pub of_task : ℕ → List (ℕ × Option Value) → List (ℕ × Option Value)
of_task task rows = filter (λ (row : ℕ × Option Value). row.0 == task) rows

-- the result of the task, if it has one with this value
abbrev pub row_of : ℕ → Option (Option Value) → List (ℕ × Option Value)
row_of task None = []
row_of task (Some value) = (task, value) ∷ []
