-- A Call starts one task at most: the tasks that were started by a call of one number on one connection are one, whenever they live (this project's own rule; a call of a remote method runs once at most by the Java RMI specification, 3.1).
use Rattle.std.specs.Prelude.{◌≡◌, ℕ, ◌++◌, List, Some}
use Rattle.sp_rules.specs.Classes.{Setting}
use Rattle.sp_rules.specs.Events.{Event}
use Rattle.sp_rules.specs.Laws.{AllOf}
use Rattle.sp_rules.specs.Space.{state_of}
use Rattle.sp_rules.specs.State.{State, Living, OfCall, task_at}
use Rattle.sp_rules.specs.Worlds.{Space, WorldEvent, run, new_world}
use Rattle.sp_laws.specs.Inbound.{OpensOnce}

-- a task of this id lives, and was started by the call of this number on this connection
pub record IsStartedBy (conn number id : ℕ) (s : State) : Type 0 where
  pub task : Living
  pub lives : task_at s id ≡ Some task
  pub origin : task.origin ≡ OfCall conn number

-- Of a history and what happens after it: a task that a call started before, and one that it started later, are one.
abbrev pub StartsOnce : Setting → List Event → List Event → Type 0
StartsOnce g h more = (conn number id later : ℕ) → IsStartedBy conn number id (state_of g h) → IsStartedBy conn number later (state_of g (more ++ h)) → id ≡ later

-- This holds in every history in which no number of a connection comes again.
abbrev pub CallsStartOneTask : Type 0
CallsStartOneTask = (g : Setting) (h more : List Event) → OpensOnce (more ++ h) → StartsOnce g h more

-- This holds of any two moments in the history of a space of a world.
abbrev pub HasStartedOnce : Space → Type 0
HasStartedOnce s = (h more : List Event) → more ++ h ≡ s.history → StartsOnce s.setting h more

-- This holds in every run of every world, whatever is lost or fails.
abbrev pub CallsStartOneTaskInWorlds : Type 0
CallsStartOneTaskInWorlds = (settings : List Setting) (events : List WorldEvent) → AllOf HasStartedOnce (run (new_world settings) events).spaces
