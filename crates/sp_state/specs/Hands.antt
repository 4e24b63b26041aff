-- Tasks in hand. (This project's own.)
use Rattle.std.specs.Prelude.{ℕ, Bool, Option}
use Rattle.sp_tasks.specs.Rows.{Hand, hand_of, row_of}
use Rattle.sp_living.specs.Hands as living
use Rattle.sp_state.specs.declared.space_state.SpaceState.{SpaceState}

-- a task as it would be lent: one that lives, is not lent and does not wait, as it stands
abbrev pub hand_at : ℕ → SpaceState → Option Hand
hand_at id space = hand_of id (row_of id space.living.tasks.rows)

-- whether a task in hand is the one that is lent under its id: its record is what the space keeps of it
abbrev pub has_lent : SpaceState → Hand → Bool
has_lent space hand = living.has_lent space.living hand
