-- How a refused event is answered, and the number of each fault. (This project's own.)
use Rattle.std.specs.Prelude.{◌≡◌, ◌⊎◌, ℕ, Option, Some, None}
use Rattle.sp_rules.specs.Classes.{StartRefusal, AbsentMethod, BadSignature, BadArgument}
use Rattle.sp_rules.specs.Refusals.{Refusal, refusal_number, start_refusal_number}
use Rattle.sp_events.specs.declared.fault.StartFault.{StartFault}
use Rattle.sp_events.specs.declared.fault.StartFault.TheVariants as start
use Rattle.sp_events.specs.declared.fault.CoreFault.{CoreFault}
use Rattle.sp_events.specs.declared.fault.CoreFault.TheVariants as fault

-- the refusal of a start that a fault is
abbrev pub start_refusal : StartFault → StartRefusal
start_refusal start.AbsentMethod = AbsentMethod
start_refusal start.BadSignature = BadSignature
start_refusal start.BadArgument = BadArgument

-- the number of a fault, if it is a refusal
abbrev pub core_fault_number : CoreFault → Option ℕ
core_fault_number (fault.Start why) = Some (start_refusal_number (start_refusal why))
core_fault_number fault.UnknownTask = Some 90
core_fault_number fault.NotLent = Some 91
core_fault_number fault.NotHeld = Some 92
core_fault_number fault.WrongKind = Some 93
core_fault_number fault.Strange = Some 94
core_fault_number fault.WornOut = Some 98
core_fault_number fault.Busy = Some 99
core_fault_number fault.Memory = None

-- A refused event has this fault: that of the refusal's number, or out of memory if the rules do not refuse it.
abbrev pub Refuses : Option Refusal → CoreFault → Type 0
Refuses None refused = refused ≡ fault.Memory
Refuses (Some refusal) refused = core_fault_number refused ≡ Some (refusal_number refusal)

-- The same with out of memory in place of any refusal.
abbrev pub RefusesOrLacks : Option Refusal → CoreFault → Type 0
RefusesOrLacks refusal refused = (refused ≡ fault.Memory) ⊎ Refuses refusal refused
