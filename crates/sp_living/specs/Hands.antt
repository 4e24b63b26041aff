-- A task in hand, and where it stands. (This project's own.)
use Rattle.std.specs.Prelude.{◌≡◌, Bool}
use Rattle.sp_rules.specs.Classes.{Setting}
use Rattle.sp_rules.specs.Runs.{replayed}
use Rattle.sp_rules.specs.Tasks.{Task, stand, steps}
use Rattle.sp_tasks.specs.Behaviours.{stand_of}
use Rattle.sp_tasks.specs.Rows.{Hand, is_in_hand, row_of}
use Rattle.sp_tasks.specs.declared.behaviour.Stand.{Stand}
use Rattle.sp_living.specs.Views.{turned}
use Rattle.sp_living.specs.declared.living.Living.{Living}

-- the task that a record leaves, after the instructions that it made since
abbrev pub task_of : Setting → Hand → Task
task_of g hand = steps hand.made (steps hand.steps (replayed g hand.past.began (turned hand.past.given)))

-- The task in hand stands where its machine tells: at the point to which its record and its own instructions bring it.
abbrev pub StandsAt : Setting → Hand → Stand → Type 0
StandsAt g hand point = stand (task_of g hand) ≡ stand_of point

-- whether a task in hand is the one that is lent under its id: its record is what is kept of it
abbrev pub has_lent : Living → Hand → Bool
has_lent l hand = is_in_hand (row_of hand.id l.tasks.rows) hand
