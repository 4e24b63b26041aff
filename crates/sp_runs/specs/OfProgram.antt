-- What running a method of a program comes to, for all files that make the program. (This project's own.)
use Rattle.std.specs.Prelude.{◌≡◌, ℕ, List, None}
use Rattle.cls_link.specs.Links.{Links}
use Rattle.sp_files.specs.Names.{NamesMethod}
use Rattle.sp_files.specs.Programs.{IsProgram}
use Rattle.sp_files.specs.declared.files.ClassBytes.{ClassBytes}
use Rattle.sp_files.specs.declared.outcome.RunOutcome.{RunOutcome}
use Rattle.sp_files.specs.declared.refusal.Refusal.{Refusal}
use Rattle.sp_files.specs.declared.refusal.Refusal.TheVariants as refusal
use Rattle.space_ids.specs.declared.value.Value.{Value}
use Rattle.sp_runs.specs.Outcomes.{IsNamed}
use Rattle.sp_runs.specs.Runs.{IsRefused, IsRun}
use Rattle.vm_step.specs.Run.{State}
use Rattle.vm_step.specs.Task.{IsOutcome}
use Rattle.vm_step.specs.declared.fault.StartFault.TheVariants as start
use Rattle.vm_step.specs.declared.limits.Limits.{Limits}
use Rattle.vm_step.specs.declared.outcome.Outcome.{Outcome}

-- the method of this name runs to this outcome
abbrev pub IsRunOf : Links → (class text : List ℕ) → List Value → Limits → RunOutcome → Type 0
IsRunOf program class text arguments limits outcome = (files : List ClassBytes) → IsProgram files program → IsRun files class text arguments limits outcome

-- why the method of this name does not run
abbrev pub IsRefusedOf : Links → (class text : List ℕ) → List Value → Limits → Refusal → Type 0
IsRefusedOf program class text arguments limits refused = (files : List ClassBytes) → IsProgram files program → IsRefused files class text arguments limits refused

-- why no method is found: a text names none, or memory ran out
abbrev pub IsNotFound : Links → (class text : List ℕ) → Refusal → Type 0
IsNotFound program class text (refusal.Start fault) = (fault ≡ start.AbsentMethod) × NamesMethod program class text None
IsNotFound program class text refusal.Memory = Unit {0}
IsNotFound program class text _ = ⊥

-- a state is the end of a task, told with the name of a class in place of its number
abbrev pub IsEndOf : Links → State → RunOutcome → Type 0
IsEndOf program state told = (outcome : Outcome) × IsOutcome program.classes state outcome × IsNamed program.classes outcome told
