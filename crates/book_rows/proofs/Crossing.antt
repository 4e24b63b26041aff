-- A lending space, its tasks, and what is left of them may go to any thread: nothing in them is bound to one.
use denote.Ref.{NamedLft}
use denote.RattleType.{RattleType}
use denote.Param.Send.{IsSend, sendable}
use denote.Param.SendFields.{declared_send}
use denote.Struct.Record.{declared}
use Rattle.std.proofs.Crossing.{crosses}
use Rattle.boxed_value.proofs.Boxed.TheSendSync as boxed
use Rattle.ghost_value.proofs.Ghost.TheSendSync as ghost
use Rattle.vm_step.proofs.program.Program.TheSendSync as program
use Rattle.vm_step.specs.contracts.task.Task as Task
use Rattle.indexmap.proofs.map.IndexMap.TheSendSync as map
use Rattle.sp_call_set.proofs.call_set.CallSet.TheSendSync as classes
use Rattle.sp_machines.specs.contracts.task_machine.TaskMachine as TaskMachine
use Rattle.sp_tasks.proofs.behaviour.Stand.TheSendSync as stand
use Rattle.sp_core.proofs.lent_task.LentTask.TheSendSync as lent
use Rattle.sp_core.proofs.space_core.SpaceCore.TheSendSync as core
use Rattle.sp_history.specs.declared.naming.Setup.{Ghosts}
use Rattle.sp_lending.proofs.home.Home.TheSendSync as home
use Rattle.sp_lending.specs.contracts.rows.Rows as Rows
use Rattle.sp_lending.specs.contracts.parts.Parts as Parts
use Rattle.sp_lending.specs.contracts.space.LendingSpace as Space
use Rattle.sp_lending.specs.contracts.space.LendingSpace.TheInside as Inside
use Rattle.sp_lending.specs.contracts.task_parts.TaskParts as TaskParts
use Rattle.sp_lending.specs.contracts.task.Task as Apart
use Rattle.sp_lending.specs.contracts.task.Task.TheInside as ApartInside
use Rattle.sp_lending.specs.contracts.rest.Rest as Rest

task_send : IsSend Task.the_row
task_send = search (sendable, crosses, ghost.the_send) depth 60 fits 30000

player_send : (κ : NamedLft) → IsSend (TaskMachine.the_row κ)
player_send κ = search (task_send, boxed.the_send, program.the_sync, sendable, crosses) depth 60 fits 30000

rows_send : (κ : NamedLft) → IsSend (Rows.the_row κ)
rows_send κ = search (player_send, map.the_send, sendable, crosses) depth 60 fits 30000

parts_send : (κ : NamedLft) → IsSend (Parts.the_row κ)
parts_send κ = declared_send (declared (Parts.struct κ) Parts.the_propositions) (
  search (home.the_send, sendable, crosses) depth 20,
  (
    search (classes.the_sync, sendable) depth 20,
    (search (core.the_send, sendable) depth 20, (search (rows_send, sendable) depth 20, tt)),
  ),
)

inside_send : (κ : NamedLft) (T : RattleType) (g : Ghosts T.Denot) → IsSend T → IsSend (Inside.the_row κ T g)
inside_send κ T g t = declared_send (declared (Inside.struct κ T g) (Inside.the_propositions T.Denot)) (parts_send κ, (search (t, sendable) depth 20, tt))

pub space_send : (κ : NamedLft) (T : RattleType) (g : Ghosts T.Denot) → IsSend T → IsSend (Space.the_row κ T g)
space_send κ T g t = search (inside_send κ T g t, sendable)

-- ---- tasks, and what is left of them

task_parts_send : (κ : NamedLft) → IsSend (TaskParts.the_row κ)
task_parts_send κ = declared_send (declared (TaskParts.struct κ) TaskParts.the_propositions) (
  search (home.the_send, sendable, crosses) depth 20,
  (
    search (lent.the_send, sendable) depth 20,
    (search (player_send, sendable, crosses) depth 20, (search (stand.the_send, sendable, crosses) depth 20, tt)),
  ),
)

apart_inside_send : (κ : NamedLft) (T : RattleType) (g : Ghosts T.Denot) → IsSend T → IsSend (ApartInside.the_row κ T g)
apart_inside_send κ T g t = declared_send (declared (ApartInside.struct κ T g) (ApartInside.the_propositions T.Denot)) (task_parts_send κ, (search (t, sendable) depth 20, tt))

pub apart_send : (κ : NamedLft) (T : RattleType) (g : Ghosts T.Denot) → IsSend T → IsSend (Apart.the_row κ T g)
apart_send κ T g t = search (apart_inside_send κ T g t, sendable)

pub rest_send : (κ : NamedLft) → IsSend (Rest.the_row κ)
rest_send κ = search (player_send, sendable, crosses) depth 60 fits 30000
