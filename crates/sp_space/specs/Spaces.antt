-- When a space is in a state of the rules: the state is that which a history leaves, and each living task is played by its machine. (This project's own.)
use Rattle.std.specs.Prelude.{◌≡◌, ◌==◌, ℕ, false, List}
use Rattle.sp_rules.specs.Classes.{Setting}
use Rattle.sp_rules.specs.Events.{Event}
use Rattle.sp_rules.specs.Origins.{IsTaken}
use Rattle.sp_rules.specs.Space.{state_of}
use Rattle.sp_rules.specs.State.{State, task_at}
use Rattle.sp_behaviours.specs.Classes.{classes_of}
use Rattle.sp_behaviours.specs.Follows.{PlaysOn}
use Rattle.sp_behaviours.specs.Calls.{IsSettingOf}
use Rattle.sp_core.specs.Cores.{IsCore, is_lent}
use Rattle.sp_core.specs.declared.space_core.SpaceCore.{SpaceCore}
pub use Rattle.sp_machines.specs.Limits.{AreLimits}
use Rattle.sp_space.specs.Machines.{machine_at}
use Rattle.sp_machines.specs.Players.{IsPlayed}
use Rattle.sp_space.specs.declared.parts.Parts.{Parts}

-- A space is one of this setting: its tasks run on the linked set that the setting's classes are of, within the setting's limits.
pub record IsOf (g : Setting) (space : Parts) : Type 0 where
  pub classes : g.classes ≡ classes_of space.classes.now
  pub program : space.program.now ≡ space.classes.now
  pub plays : PlaysOn space.program.now g
  pub set : IsSettingOf space.program.now g
  pub id : space.id ≡ g.id
  pub limits : AreLimits g space.limits

-- A space stands at the end of a history of events that it took: its core does, and each living task is played by its machine.
pub record Stands (g : Setting) (h : List Event) (space : Parts) : Type 0 where
  pub of : IsOf g space
  pub taken : IsTaken g h
  pub core : IsCore g (state_of g h) space.core
  pub played : (id : ℕ) → IsPlayed space.program.now g (task_at (state_of g h) id) (machine_at id space.machines)

-- It lends no task.
abbrev pub IsFree : SpaceCore → Type 0
IsFree core = (id : ℕ) → is_lent core id ≡ false

-- It lends none but this one.
abbrev pub LendsNoOther : ℕ → SpaceCore → Type 0
LendsNoOther task core = (id : ℕ) → (id == task) ≡ false → is_lent core id ≡ false

-- A space is in a state that such a history leaves; between its steps it lends no task.
pub record IsSpace (g : Setting) (s : State) (space : Parts) : Type 0 where
  pub history : List Event
  pub leaves : s ≡ state_of g history
  pub stands : Stands g history space
  pub free : IsFree space.core

-- ---- what is known of every space

-- This is so of a setting and a history.
pub record Somewhere (holds : Setting → List Event → Type 0) : Type 0 where
  pub setting : Setting
  pub history : List Event
  pub is : holds setting history

-- It is in a state, and lends no task.
pub record IsResting (space : Parts) : Type 0 where
  pub known : Somewhere (λ g h. Stands g h space)
  pub free : IsFree space.core
