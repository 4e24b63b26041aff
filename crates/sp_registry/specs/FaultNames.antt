-- The number of each fault of the registry. (This project's own; the Java RMI specification, 6.1, has exceptions: `AlreadyBoundException`, `NotBoundException`.)
use Rattle.std.specs.Prelude.{ℕ}
use Rattle.sp_registry.specs.declared.fault.RegistryFault.TheVariants as registry_fault
use Rattle.sp_registry.specs.declared.fault.RegistryFault.{RegistryFault}

-- the number of a fault
abbrev pub registry_fault_number : RegistryFault → ℕ
registry_fault_number registry_fault.AlreadyBound = 80
registry_fault_number registry_fault.NotBound = 81
registry_fault_number registry_fault.BadName = 82
registry_fault_number registry_fault.NotOwn = 83
