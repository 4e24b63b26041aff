-- What it means that class files run: from their bytes to how the method ends, each layer by its own definition.
use Rattle.std.specs.Prelude.{◌≡◌, ◌≢◌, ◌⊎◌, ◌+◌, ℕ, Some, None, Ok, Err, List, []}
use Rattle.cls_link.specs.Links.{Links}
use Rattle.cls_link.specs.declared.linked_code.MethodId.{MethodId}
use Rattle.sp_rules.specs.References.{references_of}
use Rattle.sp_runs.specs.InSpace.{RunsInSpace}
use Rattle.sp_runs.specs.Outcomes.{IsTold}
use Rattle.sp_files.specs.declared.files.ClassBytes.{ClassBytes}
use Rattle.sp_files.specs.declared.outcome.RunOutcome.{RunOutcome}
use Rattle.sp_files.specs.declared.refusal.Refusal.{Refusal}
use Rattle.sp_files.specs.declared.refusal.Refusal.TheVariants as refusal
use Rattle.uuid.specs.Parts.{zero_bytes}
use Rattle.space_ids.specs.declared.value.Value.{Value}
use Rattle.vm_step.specs.Ends.{End}
use Rattle.vm_step.specs.Limited.{KeepsWithin}
use Rattle.vm_step.specs.Run.{HasNoRemote, Over, made, run, IsNeverStuck}
use Rattle.vm_step.specs.Start.{started}
use Rattle.vm_step.specs.Task.{Tasked}
use Rattle.vm_step.specs.declared.fault.StartFault.{StartFault}
use Rattle.vm_step.specs.declared.fault.StartFault.TheVariants as start
use Rattle.vm_step.specs.declared.limits.Limits.{Limits}
use Rattle.sp_files.specs.Names.{NamesMethod}
use Rattle.sp_files.specs.Programs.{IsNoProgram, IsProgram}

-- why a method is not started, out of memory apart
abbrev pub IsStartFault : Links → MethodId → List Value → Limits → StartFault → Type 0
IsStartFault program method arguments limits fault = fault ≢ start.Memory → started program zero_bytes method arguments limits ≡ Err fault

-- why a method of a program does not run, out of memory apart
abbrev pub IsNotRun : Links → MethodId → List Value → Limits → Refusal → Type 0
IsNotRun program method arguments limits (refusal.Start fault) = IsStartFault program method arguments limits fault
IsNotRun program method arguments limits refusal.Memory = Unit {0}
IsNotRun program method arguments limits _ = ⊥

-- A reference is among the arguments of a method that would start: no object stands in a new space that it could name.
pub record PassesReference (program : Links) (method : MethodId) (arguments : List Value) (limits : Limits) (fault : StartFault) : Type 0 where
  pub task : Tasked
  pub starts : started program zero_bytes method arguments limits ≡ Ok task
  pub references : references_of arguments ≢ []
  pub is : fault ≡ start.BadArgument

-- why a method of a program does not run in a new space, out of memory apart
abbrev pub IsNotRunInSpace : Links → MethodId → List Value → Limits → Refusal → Type 0
IsNotRunInSpace program method arguments limits (refusal.Start fault) = IsStartFault program method arguments limits fault ⊎ PassesReference program method arguments limits fault
IsNotRunInSpace program method arguments limits refusal.Memory = Unit {0}
IsNotRunInSpace program method arguments limits _ = ⊥

-- The tagged machine (JVMS 6.5), of all instructions of the profile, runs a method of a program from its opening state to this outcome: it
-- is never stuck, keeps the running frame and those of all its callers within max_stack and max_locals, and makes no more instructions
-- than it has fuel for.
pub record Runs (program : Links) (method : MethodId) (arguments : List Value) (limits : Limits) (outcome : RunOutcome) : Type 0 where
  pub task : Tasked
  pub starts : started program zero_bytes method arguments limits ≡ Ok task
  pub never_stuck : IsNeverStuck program task.state
  pub within : (steps : ℕ) → KeepsWithin program (run program steps task.state)
  pub steps : ℕ
  pub end : End
  pub left : ℕ
  pub ends : run program steps task.state ≡ Over end left
  pub fuel : made program steps task.state + left ≡ limits.fuel
  pub told : IsTold program.classes end outcome

-- The files make a program, and its method of this class, name and descriptor runs to this outcome: alone, or in a set with remote classes as
-- the only root of a new space.
pub record IsRun (files : List ClassBytes) (class text : List ℕ) (arguments : List Value) (limits : Limits) (outcome : RunOutcome) : Type 0 where
  pub program : Links
  pub is_program : IsProgram files program
  pub method : MethodId
  pub named : NamesMethod program class text (Some method)
  pub alone : HasNoRemote program.classes → Runs program method arguments limits outcome
  pub in_space : ¬ HasNoRemote program.classes → RunsInSpace program method arguments limits outcome

-- why a method does not run: the files make no program, or it has no such method, or that does not start with these arguments; or it is to
-- run in a space, and one of them is a reference. It may be out of memory instead of any answer
pub data IsRefused (files : List ClassBytes) (class text : List ℕ) (arguments : List Value) (limits : Limits) : Refusal → Type 0 where
  no_program : (refused : Refusal) → IsNoProgram files refused → IsRefused files class text arguments limits refused
  absent : (program : Links) → IsProgram files program → NamesMethod program class text None → IsRefused files class text arguments limits (refusal.Start start.AbsentMethod)
  not_started : (program : Links) (method : MethodId) (fault : StartFault) → IsProgram files program → NamesMethod program class text (Some method)
      → IsStartFault program method arguments limits fault → IsRefused files class text arguments limits (refusal.Start fault)
  passes_reference : (program : Links) (method : MethodId) (fault : StartFault) → IsProgram files program → ¬ HasNoRemote program.classes
      → NamesMethod program class text (Some method) → PassesReference program method arguments limits fault → IsRefused files class text arguments limits (refusal.Start fault)
  no_memory : IsRefused files class text arguments limits refusal.Memory
