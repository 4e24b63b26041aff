-- A task in hand while its space lets it make a step. (This project's own.)
use Rattle.std.specs.Prelude.{◌≡◌, ℕ, true, false, List, Some}
use Rattle.sp_behaviours.specs.Behaviours.{op_at}
use Rattle.sp_living.specs.Hands.{StandsAt}
use Rattle.sp_living.specs.Views.{recorded_in}
use Rattle.sp_tasks.specs.Behaviours.{op_of}
use Rattle.sp_tasks.specs.Recorded.{Recorded}
use Rattle.sp_tasks.specs.declared.behaviour.Op.{Op}
use Rattle.sp_tasks.specs.declared.behaviour.Outcome.{Outcome}
use Rattle.sp_tasks.specs.declared.behaviour.Stand.TheVariants as point
use Rattle.sp_core.specs.Hands.{HasFuel}
use Rattle.vm_act.specs.declared.asked.Asked.{Asked}
use Rattle.vm_act.specs.declared.machine.Machine.{Machine}
use Rattle.vm_step.specs.Run.{Waits}
use Rattle.sp_rules.specs.Classes.{Setting}
use Rattle.sp_rules.specs.Events.{Event}
use Rattle.sp_rules.specs.Space.{state_of}
use Rattle.sp_rules.specs.State.{Living, task_at}
use Rattle.sp_core.specs.Cores.{has_lent}
use Rattle.sp_core.specs.declared.lent_task.LentTask.{LentTask}
use Rattle.sp_machines.specs.Coming.{IsNextAt, fuel_at}
use Rattle.sp_space.specs.Machines.{machine_at}
use Rattle.sp_machines.specs.Players.{IsLevel, IsLevelAt, Played}
use Rattle.sp_space.specs.Spaces.{Stands}
use Rattle.sp_machines.specs.declared.task_machine.Next.{Next}
use Rattle.sp_space.specs.declared.parts.Parts.{Parts}

-- The space lends this task, which has made no instruction since.
pub record IsInHand (g : Setting) (h : List Event) (space : Parts) (hand : LentTask) : Type 0 where
  pub stands : Stands g h space
  pub own : has_lent space.core hand ≡ true
  pub fresh : hand.task.made ≡ 0

-- A task with this record lives.
pub record LivesAs (g : Setting) (h : List Event) (space : Parts) (id : ℕ) (past : Recorded) : Type 0 where
  pub stands : Stands g h space
  pub living : Living
  pub lives : task_at (state_of g h) id ≡ Some living
  pub same : recorded_in living ≡ past

-- Its machine is level with it.
pub record IsLevelHand (g : Setting) (h : List Event) (space : Parts) (hand : LentTask) : Type 0 where
  pub in_hand : IsInHand g h space hand
  pub living : Living
  pub lives : task_at (state_of g h) hand.task.id ≡ Some living
  pub level : IsLevelAt space.program.now g living (machine_at hand.task.id space.machines)

-- This comes next of it.
pub record ComesNext (g : Setting) (h : List Event) (space : Parts) (hand : LentTask) (next : Next) : Type 0 where
  pub in_hand : IsInHand g h space hand
  pub living : Living
  pub lives : task_at (state_of g h) hand.task.id ≡ Some living
  pub level : IsLevelAt space.program.now g living (machine_at hand.task.id space.machines)
  pub comes : IsNextAt living (machine_at hand.task.id space.machines) next

-- Its machine stands at this operation.
pub record AsksInHand (g : Setting) (h : List Event) (space : Parts) (hand : LentTask) (op : Op) : Type 0 where
  pub in_hand : IsInHand g h space hand
  pub living : Living
  pub lives : task_at (state_of g h) hand.task.id ≡ Some living
  pub player : Played
  pub plays : machine_at hand.task.id space.machines ≡ Some player
  pub level : IsLevel space.program.now g living player
  pub abreast : player.ahead ≡ false
  pub asked : Asked
  pub machine : Machine
  pub fuel : ℕ
  pub state : player.task.state ≡ Waits asked machine fuel
  pub is : op_of op ≡ op_at space.program.now.classes asked machine

-- Its machine has made one instruction more than the task, and the hand counts it.
pub record HasMade (g : Setting) (h : List Event) (space : Parts) (hand : LentTask) : Type 0 where
  pub stands : Stands g h space
  pub own : has_lent space.core hand ≡ true
  pub made : hand.task.made ≡ 1
  pub living : Living
  pub lives : task_at (state_of g h) hand.task.id ≡ Some living
  pub player : Played
  pub plays : machine_at hand.task.id space.machines ≡ Some player
  pub level : IsLevel space.program.now g living player
  pub ahead : player.ahead ≡ true

-- A task in hand stands at this end, with the fuel that its machine has left.
pub record EndsInHand (g : Setting) (h : List Event) (space : Parts) (hand : LentTask) (outcome : Outcome) : Type 0 where
  pub stands : Stands g h space
  pub own : has_lent space.core hand ≡ true
  pub at : StandsAt g hand.task (point.HasEnded outcome)
  pub fuel : HasFuel g hand.task (fuel_at (machine_at hand.task.id space.machines))
