-- The number and the name of each reason why a task does not start. (This project's own.)
use Rattle.std.specs.Prelude.{ℕ, List, codes}
use Rattle.vm_step.specs.declared.fault.StartFault.TheVariants as start_fault
use Rattle.vm_step.specs.declared.fault.StartFault.{StartFault}

-- the number of a fault
abbrev pub start_fault_number : StartFault → ℕ
start_fault_number start_fault.AbsentMethod = 85
start_fault_number start_fault.BadSignature = 86
start_fault_number start_fault.BadArgument = 87
start_fault_number start_fault.Memory = 15

-- the name of a fault
abbrev pub start_fault_name : StartFault → List ℕ
start_fault_name start_fault.AbsentMethod = codes "AbsentMethod"
start_fault_name start_fault.BadSignature = codes "BadSignature"
start_fault_name start_fault.BadArgument = codes "BadArgument"
start_fault_name start_fault.Memory = codes "Memory"
