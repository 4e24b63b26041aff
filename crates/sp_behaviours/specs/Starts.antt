-- Why no task starts at a method, as the rules of spaces number it. (This project's own.)
use Rattle.std.specs.Prelude.{ℕ, List, Option, Some, None, option_and_then}
use Rattle.cls_link.specs.Links.{Links}
use Rattle.space_ids.specs.declared.value.Value.{Value}
use Rattle.uuid.specs.declared.Uuid.{Uuid}
use Rattle.sp_rules.specs.Classes.{StartRefusal, AbsentMethod, BadSignature, BadArgument}
use Rattle.vm_step.specs.Start.{start_fault}
use Rattle.vm_step.specs.declared.fault.StartFault.{StartFault}
use Rattle.vm_step.specs.declared.fault.StartFault.TheVariants as fault

-- out of memory is no refusal
abbrev pub refusal_of : StartFault → Option StartRefusal
refusal_of fault.AbsentMethod = Some AbsentMethod
refusal_of fault.BadSignature = Some BadSignature
refusal_of fault.BadArgument = Some BadArgument
refusal_of fault.Memory = None

-- why no task starts at the method of this number with these arguments: in every space the same
abbrev pub start_refusal_in : Links → Uuid → ℕ → List Value → Option StartRefusal
start_refusal_in links _ method arguments = option_and_then refusal_of (start_fault links (record { 0 = method }) arguments)
