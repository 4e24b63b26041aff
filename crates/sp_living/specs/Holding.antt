-- The references that tasks and values have. (This project's own.)
use Rattle.std.specs.Prelude.{ℕ, List, [], ◌∷◌, Option, None, Some, option_map, unwrap_or}
use Rattle.space_ids.specs.declared.ids.Ref.{Ref}
use Rattle.sp_tasks.specs.Rows.{TaskRow, row_of}
use Rattle.sp_living.specs.declared.living.Living.{Living}

-- what a task holds, if it lives
abbrev pub held_at : ℕ → Living → List Ref
held_at id l = unwrap_or (option_map (λ (row : TaskRow). row.held) (row_of id l.tasks.rows)) []

-- a reference, if there is one
abbrev pub listed : Option Ref → List Ref
listed None = []
listed (Some r) = r ∷ []
