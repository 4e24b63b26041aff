-- When a lending space is in a state of the rules: the state is that which a history leaves, and each living task is played by its machine, unless that is out. (This project's own.)
use Rattle.std.specs.Prelude.{◌≡◌, ℕ, true, List, Some, None}
use Rattle.uuid.specs.declared.Uuid.{Uuid}
use Rattle.cls_link.specs.Links.{Links}
use Rattle.sp_behaviours.specs.Classes.{classes_of}
use Rattle.sp_core.specs.Cores.{IsCore, is_lent}
use Rattle.sp_rules.specs.Classes.{Setting}
use Rattle.sp_rules.specs.Events.{Event}
use Rattle.sp_rules.specs.Origins.{IsTaken}
use Rattle.sp_rules.specs.Space.{state_of}
use Rattle.sp_rules.specs.State.{State, task_at}
use Rattle.vm_step.specs.declared.limits.Limits.{Limits}
use Rattle.sp_lending.specs.Hands.{IsHome, IsTask}
use Rattle.sp_lending.specs.Rows.{IsRow, row_at}
use Rattle.sp_lending.specs.declared.parts.Parts.{Parts}
use Rattle.sp_lending.specs.declared.task_parts.TaskParts.{TaskParts}

-- A space stands at the end of a history of events that it took: its core does, each living task is played by its machine, unless that is out, and the machines of the tasks that it lends are.
pub record Stands (g : Setting) (h : List Event) (space : Parts) : Type 0 where
  pub home : IsHome g space.home
  pub classes : g.classes ≡ classes_of space.classes.now
  pub taken : IsTaken g h
  pub core : IsCore g (state_of g h) space.core
  pub rows : (id : ℕ) → IsRow g (task_at (state_of g h) id) (row_at id space.rows)
  pub out : (id : ℕ) → is_lent space.core id ≡ true → row_at id space.rows ≡ Some None

-- A space is in a state that such a history leaves.
pub record IsSpace (g : Setting) (s : State) (space : Parts) : Type 0 where
  pub history : List Event
  pub leaves : s ≡ state_of g history
  pub stands : Stands g history space

-- ---- what is known of every space

-- It is in a state of this setting.
pub record IsInSome (g : Setting) (space : Parts) : Type 0 where
  pub state : State
  pub is : IsSpace g state space

-- It is in a state of some setting.
pub record IsIn (space : Parts) : Type 0 where
  pub setting : Setting
  pub state : State
  pub is : IsSpace setting state space

-- A space and a task in hand are of the same setting.
pub record AreOf (space : Parts) (task : TaskParts) : Type 0 where
  pub setting : Setting
  pub state : State
  pub is : IsSpace setting state space
  pub of : IsTask setting task

-- the setting of a space of this program
abbrev pub setting_of : Links → Uuid → List ℕ → Limits → ℕ → Setting
setting_of links id digest limits version =
    record { classes = classes_of links; id = id; digest = digest; version = version; limits = record { heap = limits.heap_words; stack = limits.stack_words; references = limits.references; fuel = limits.fuel } }
