-- The number of each fault of loading a class file. (This project's own.)
use Rattle.std.specs.Prelude.{ℕ}
use Rattle.cf_load.specs.declared.load_fault.LoadFault.TheVariants as load_fault
use Rattle.cf_load.specs.declared.load_fault.LoadFault.{LoadFault}
use Rattle.cf_text.specs.FaultNames.{read_fault_number}

-- the number of a fault
abbrev pub load_fault_number : LoadFault → ℕ
load_fault_number (load_fault.Read fault) = read_fault_number fault
load_fault_number load_fault.Device = 16
