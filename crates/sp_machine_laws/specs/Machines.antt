-- The machines of living tasks, and how they came over the replies that the tasks were given (JVMS 6.5 for what machines do, 2.6 for what their frames hold; Java RMI specification, 3.1, for the replies of calls; fuel and limits are rules of this project).
use Rattle.std.specs.Prelude.{◌≡◌, ◌+◌, ℕ, suc, Ok, Some, List, [], ◌∷◌}
use Rattle.cls_link.specs.Links.{Links}
use Rattle.sp_behaviours.specs.Behaviours.{limits_of, reply_to}
use Rattle.sp_behaviours.specs.Calls.{IsSettingOf}
use Rattle.sp_behaviours.specs.Follows.{Follows, stand_of}
use Rattle.sp_laws.specs.Calls.{point}
use Rattle.sp_rules.specs.Classes.{Setting}
use Rattle.sp_rules.specs.Events.{Event}
use Rattle.sp_rules.specs.Laws.{AllOf}
use Rattle.sp_rules.specs.Origins.{IsTaken}
use Rattle.sp_rules.specs.Space.{state_of}
use Rattle.sp_rules.specs.State.{Given, Living, task_at}
use Rattle.sp_rules.specs.Tasks.{stand, steps}
use Rattle.sp_rules.specs.Worlds.{Space, WorldEvent, run as after_all, new_world}
use Rattle.vm_act.specs.declared.asked.Asked.{Asked}
use Rattle.vm_act.specs.declared.asked.Reply.{Reply}
use Rattle.vm_act.specs.declared.machine.Machine.{Machine}
use Rattle.vm_step.specs.Begin.{begun}
use Rattle.vm_step.specs.Limited.{AlwaysKeepsWithin}
use Rattle.vm_step.specs.Run.{State, Waits, answer, run, IsDue, IsNeverStuck}
use Rattle.vm_step.specs.Task.{Tasked}

-- ---- replies

-- A machine makes the instructions that a task made before a reply, and asks; the reply is one to what it asked, which is due, and with it the machine goes on.
pub record IsReplied (links : Links) (given : Given) (before after : State) : Type 0 where
  pub asked : Asked
  pub machine : Machine
  pub fuel : ℕ
  pub waits : run links (suc given.steps) before ≡ Waits asked machine fuel
  pub reply : Reply
  pub told : reply_to asked given.reply ≡ Some reply
  pub due : IsDue links.classes reply (Waits asked machine fuel)
  pub goes_on : after ≡ answer reply (Waits asked machine fuel)

-- A machine comes from one state to another over the replies that a task was given, newest first.
abbrev pub Plays : Links → State → List Given → State → Type 0
Plays links start [] now = now ≡ start
Plays links start (given ∷ more) now = (before : State) × (Plays links start more before × IsReplied links given before now)

-- ---- machines of tasks

pub record IsOnMachine (links : Links) (g : Setting) (t : Living) : Type 0 where
  -- The machine began at the task's method with its values, within the limits of its space and the task's fuel.
  pub task : Tasked
  pub begins : begun links g.id (record { 0 = t.began.method }) t.began.arguments (limits_of g.limits t.began.fuel) ≡ Ok task
  -- It is never stuck, and keeps its frames within max_stack and max_locals, whatever replies come that are due.
  pub never_stuck : IsNeverStuck links task.state
  pub within : AlwaysKeepsWithin links task.state
  -- It has come over the replies that the task was given.
  pub last : State
  pub plays : Plays links task.state t.given last
  -- The task does from its point on what the machine does, has its fuel, and holds the references by which it has come.
  pub follows : Follows links g (point g t) (run links t.steps last)
  -- However many instructions of its own it makes there, it stands where the machine stands: before one, at what it asks, or at its end as the machine tells it.
  pub stands : (k : ℕ) → stand (steps k (point g t)) ≡ stand_of links (run links (t.steps + k) last)

-- This holds of each living task after every history that a space of a linked and checked class set took.
abbrev pub TasksAreMachines : Type 0
TasksAreMachines =
    (links : Links) (g : Setting) (h : List Event) (id : ℕ) (t : Living) → IsSettingOf links g → IsTaken g h → task_at (state_of g h) id ≡ Some t → IsOnMachine links g t

-- ---- worlds

-- Each living task of a space is on its machine, if the space is of a linked and checked class set.
abbrev pub HasMachines : Space → Type 0
HasMachines s = (links : Links) (id : ℕ) (t : Living) → IsSettingOf links s.setting → task_at s.state id ≡ Some t → IsOnMachine links s.setting t

-- This holds of each space in every run of every world, whatever is lost or fails.
abbrev pub TasksAreMachinesInWorlds : Type 0
TasksAreMachinesInWorlds = (settings : List Setting) (events : List WorldEvent) → AllOf HasMachines (after_all (new_world settings) events).spaces
