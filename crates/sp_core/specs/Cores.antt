-- When a core is in a state of the rules, and which tasks it lends. (This project's own.)
use Rattle.std.specs.Prelude.{◌≡◌, ℕ, ◌==◌, ◌&&◌, Bool, false, List, [], Option, None, Some, IfSome, if◌then◌else◌}
use Rattle.std.specs.List.{list_any}
use Rattle.sp_rules.specs.Classes.{Setting}
use Rattle.sp_rules.specs.State.{State, Living, ready_at}
use Rattle.sp_tasks.specs.Lent.{is_lent_in}
use Rattle.sp_tasks.specs.Rows.{Hand}
use Rattle.sp_tasks.specs.Same.{is_recorded}
use Rattle.sp_living.specs.Views.{recorded_in}
use Rattle.sp_state.specs.Hands as state
use Rattle.sp_state.specs.Spaces.{IsAtRest, IsSpace}
use Rattle.sp_core.specs.Hands.{IsSecond, fits}
use Rattle.sp_core.specs.declared.space_core.SpaceCore.{SpaceCore}
use Rattle.sp_core.specs.declared.lent_task.LentTask.{LentTask}

-- Both states of a core are the state of the rules, if there are both; it is a state between events.
pub record IsCore (g : Setting) (s : State) (core : SpaceCore) : Type 0 where
  pub id : core.id ≡ g.id
  pub fuel : core.fuel ≡ g.limits.fuel
  pub state : IsSpace g s core.state
  pub spare : IfSome core.spare (IsSecond g s core.state)
  pub rest : IsAtRest s

-- ---- lent tasks

-- whether a core lends a task
abbrev pub is_lent : SpaceCore → ℕ → Bool
is_lent core id = is_lent_in id core.state.living.tasks

-- whether a task in hand is the one that a core lends under its id: its record is what the core keeps of it
abbrev pub lends : SpaceCore → Hand → Bool
lends core hand = state.has_lent core.state hand

-- whether both states lend it, as far as there are both
abbrev pub has_lent : SpaceCore → LentTask → Bool
has_lent core task = lends core task.task && fits core.spare task.task task.twin

-- These are the tasks that a core lends.
abbrev pub Lends : SpaceCore → List ℕ → Type 0
Lends core lent = (id : ℕ) → list_any (◌==◌ id) lent ≡ is_lent core id

-- whether a task in hand is the living task: its record is that of the history
abbrev pub is_historys : Option Living → Hand → Bool
is_historys None hand = false
is_historys (Some t) hand = t.steps == hand.steps && is_recorded (recorded_in t) hand.past

-- A task in hand counts as lent if its record is that of the history.
abbrev pub lent_as : State → Hand → List ℕ → List ℕ
lent_as s hand lent = if is_historys (ready_at s hand.id) hand then lent else []
