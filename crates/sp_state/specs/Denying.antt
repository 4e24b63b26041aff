-- Changes of names that the registry denies (Java RMI specification, 6.1).
use Rattle.std.specs.Prelude.{Option, None, Some}
use Rattle.sp_registry.specs.declared.fault.RegistryFault.{RegistryFault}
use Rattle.sp_rules.specs.Events.{Denied}
use Rattle.sp_rules.specs.State.{State, say}

-- The registry denies a change of names, if so.
abbrev pub told_denied : Option RegistryFault → State → State
told_denied None s = s
told_denied (Some fault) s = say (Denied fault) s
