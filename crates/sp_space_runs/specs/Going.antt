-- A space whose only task goes on, as the code has it. (This project's own.)
use Rattle.std.specs.Prelude.{◌≡◌, ℕ, List}
use Rattle.cls_link.specs.Links.{Links}
use Rattle.sp_space.specs.Spaces.{IsSpace}
use Rattle.sp_space.specs.declared.parts.Parts.{Parts}
use Rattle.sp_behaviours.specs.Classes.{classes_of}
use Rattle.sp_events.specs.declared.fault.CoreFault.{CoreFault}
use Rattle.sp_events.specs.declared.fault.CoreFault.TheVariants as core
use Rattle.sp_events.specs.declared.fault.StartFault.TheVariants as core_start
use Rattle.sp_files.specs.Programs.{IsProgram}
use Rattle.sp_files.specs.declared.files.ClassBytes.{ClassBytes}
use Rattle.sp_files.specs.declared.refusal.Refusal.{Refusal}
use Rattle.sp_files.specs.declared.refusal.Refusal.TheVariants as refusal
use Rattle.sp_rules.specs.Classes.{Setting}
use Rattle.sp_rules.specs.Events.{Event}
use Rattle.sp_rules.specs.Space.{state_of}
use Rattle.sp_runs.specs.Going.{GoesOn}
use Rattle.vm_step.specs.Run.{State}
use Rattle.vm_step.specs.declared.fault.StartFault.TheVariants as start

-- The space stands at the end of a history that began with this event and made steps since. Its only task is its first, which follows a machine
-- that began so, and has this fuel.
pub record Goes (program : Links) (g : Setting) (first : Event) (began : State) (fuel : ℕ) (space : Parts) : Type 0 where
  pub files : List ClassBytes
  pub is_program : IsProgram files program
  pub classes : g.classes ≡ classes_of program
  pub history : List Event
  pub goes : GoesOn program g first began fuel history
  pub stands : IsSpace g (state_of g history) space

-- There are such a program, setting, event and machine.
abbrev pub IsGoing : ℕ → Parts → Type 0
IsGoing fuel space = (program : Links) × (g : Setting) × (first : Event) × (began : State) × Goes program g first began fuel space

-- why a new space may not start its first root
abbrev pub IsRootFault : CoreFault → Type 0
IsRootFault (core.Start why) = Unit {0}
IsRootFault core.NotHeld = Unit {0}
IsRootFault core.Memory = Unit {0}
IsRootFault _ = ⊥

-- how the method is refused then
abbrev pub refusal_at : CoreFault → Refusal
refusal_at (core.Start core_start.AbsentMethod) = refusal.Start start.AbsentMethod
refusal_at (core.Start core_start.BadSignature) = refusal.Start start.BadSignature
refusal_at (core.Start core_start.BadArgument) = refusal.Start start.BadArgument
refusal_at core.NotHeld = refusal.Start start.BadArgument
refusal_at _ = refusal.Memory
