-- The machine of a living task, and how far it has come in the task's record. (This project's own.)
use Rattle.std.specs.Prelude.{◌≡◌, ◌⊎◌, ◌+◌, ◌≤◌, ℕ, zero, suc, Bool, true, false, List, [], ◌∷◌, Option, Some, None, length, option_map}
use Rattle.cls_link.specs.Links.{Links}
use Rattle.cls_set.specs.declared.class.Class.{Class}
use Rattle.sp_rules.specs.Behaviours.{Outcome, Spent}
use Rattle.sp_rules.specs.Classes.{Setting}
use Rattle.sp_rules.specs.State.{Given, Living}
use Rattle.sp_laws.specs.Calls.{point}
use Rattle.sp_behaviours.specs.Calls.{IsTakenAs}
use Rattle.sp_behaviours.specs.ReplyStarts.{Begins}
use Rattle.sp_living.specs.Views.{recorded_in}
use Rattle.sp_rules.specs.Tasks.{Task, Stand, Runs, AsksFor, HasEnded, answer, is_at_end, stand, start, step}
use Rattle.sp_tasks.specs.Behaviours.{op_of}
use Rattle.sp_tasks.specs.declared.behaviour.Op.{Op}
use Rattle.sp_behaviours.specs.Behaviours.{op_at, told, told_end}
use Rattle.sp_behaviours.specs.Follows.{Follows, PlaysOn, is_over, waiting}
use Rattle.sp_tasks.specs.Recorded.{Recorded}
use Rattle.vm_act.specs.declared.asked.Asked.{Asked}
use Rattle.vm_act.specs.declared.machine.Machine.{Machine}
use Rattle.vm_step.specs.Run.{State, Running, Waits, Over, Lost}
use Rattle.vm_step.specs.Task.{Tasked, outcome_at}

-- A machine, how many replies of its task's record it has taken, and whether it has made an instruction that its task has not made yet.
pub record Played : Type 0 where
  pub task : Tasked
  pub taken : ℕ
  pub ahead : Bool

-- ---- where it stands

-- the point that the machine of a task has reached
abbrev pub reached : Bool → Task → Task
reached false t = t
reached true t = step t

-- The machine has taken each reply of the record. It stands where its task stands, or after the next instruction, which is one of its own.
pub record IsLevel (links : Links) (g : Setting) (t : Living) (p : Played) : Type 0 where
  pub program : p.task.program ≡ links
  pub ready : t.waits ≡ false
  pub taken : p.taken ≡ length t.given
  -- it makes no more instructions than it has fuel for
  pub within : t.steps + t.task.fuel ≤ t.began.fuel
  pub follows : Follows links g (reached p.ahead t.task) p.task.state
  pub own : p.ahead ≡ true → stand t.task ≡ Runs
  -- that instruction ends the task where it has ended the machine
  pub last : p.ahead ≡ true → is_at_end (step t.task).behaviour ≡ is_over p.task.state

-- The machine stands at an instruction that asks, of which the task waits for the reply as this one.
pub record Asks (links : Links) (g : Setting) (waits : Task) (p : Played) : Type 0 where
  pub program : p.task.program ≡ links
  pub level : p.ahead ≡ false
  pub asked : Asked
  pub machine : Machine
  pub fuel : ℕ
  pub state : p.task.state ≡ Waits asked machine fuel
  pub before : Task
  pub follows : Follows links g before (Waits asked machine fuel)
  pub is : waits ≡ waiting asked before

-- The task waits for the reply to the call at which its machine stands.
pub record IsWaiting (links : Links) (g : Setting) (t : Living) (p : Played) : Type 0 where
  pub waits : t.waits ≡ true
  pub taken : p.taken ≡ length t.given
  pub asks : Asks links g t.task p
  pub at : asks.before ≡ point g t
  pub within : asks.before.fuel ≤ t.began.fuel

-- The task has the reply for which its machine waits, and that is one that the machine takes.
pub record IsBehind (links : Links) (g : Setting) (t : Living) (p : Played) : Type 0 where
  pub ready : t.waits ≡ false
  pub last : Given
  pub earlier : List Given
  pub given : t.given ≡ last ∷ earlier
  pub taken : p.taken ≡ length earlier
  pub steps : t.steps ≡ 0
  pub waited : Task
  pub asks : Asks links g waited p
  pub within : asks.before.fuel ≤ t.began.fuel
  pub answered : t.task ≡ answer g last.reply waited
  pub takes : IsTakenAs links.classes asks.asked asks.machine asks.fuel last.reply

-- A task to which nothing has happened since it began: its machine is made as it is lent for the first time.
pub record IsUntouched (links : Links) (g : Setting) (t : Living) : Type 0 where
  pub ready : t.waits ≡ false
  pub given : t.given ≡ []
  pub steps : t.steps ≡ 0
  pub stands : t.task ≡ start g t.began.method t.began.arguments t.began.fuel
  pub begins : Begins links g t

abbrev pub IsPlayedBy : Links → Setting → Living → Played → Type 0
IsPlayedBy links g t p = IsLevel links g t p ⊎ (IsWaiting links g t p ⊎ IsBehind links g t p)

-- Only living tasks have machines.
abbrev pub IsPlayed : Links → Setting → Option Living → Option Played → Type 0
IsPlayed links g None None = Unit {0}
IsPlayed links g None (Some p) = ⊥
IsPlayed links g (Some t) None = IsUntouched links g t
IsPlayed links g (Some t) (Some p) = IsPlayedBy links g t p

abbrev pub IsLevelAt : Links → Setting → Living → Option Played → Type 0
IsLevelAt links g t None = ⊥
IsLevelAt links g t (Some p) = IsLevel links g t p

-- ---- ends

-- how a task that stands so has ended, if it has
abbrev pub end_at : Stand → Option Outcome
end_at Runs = None
end_at (AsksFor op) = None
end_at (HasEnded outcome) = Some outcome

-- how a task has ended whose machine is in this state, if it has: with no fuel left it is Spent
abbrev pub end_in : List Class → State → Option Outcome
end_in classes (Running m zero) = Some Spent
end_in classes (Running m (suc fuel)) = None
end_in classes (Waits op m fuel) = None
end_in classes (Over end fuel) = Some (told_end classes end)
end_in classes Lost = Some Spent

-- how the machine itself has ended it
abbrev pub ended_in : List Class → State → Option Outcome
ended_in classes s = option_map told (outcome_at classes s)

-- ---- what comes next

-- A machine waits for the reply to this.
abbrev pub AsksIn : Asked → State → Type 0
AsksIn op (Running m fuel) = ⊥
AsksIn op (Waits asked m fuel) = asked ≡ op
AsksIn op (Over end fuel) = ⊥
AsksIn op Lost = ⊥

-- A machine waits for the reply to this operation.
pub record WaitsFor (p : Played) (op : Op) : Type 0 where
  pub asked : Asked
  pub machine : Machine
  pub fuel : ℕ
  pub state : p.task.state ≡ Waits asked machine fuel
  pub is : op_of op ≡ op_at p.task.program.classes asked machine

-- ---- catching up

-- A machine of a task that does not wait, with this record.
pub record CanCatchUp (p : Played) (past : Recorded) : Type 0 where
  pub links : Links
  pub setting : Setting
  pub living : Living
  pub plays : PlaysOn links setting
  pub played : IsPlayedBy links setting living p
  pub ready : living.waits ≡ false
  pub same : recorded_in living ≡ past
