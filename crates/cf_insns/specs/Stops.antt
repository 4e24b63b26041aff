-- Why reading one instruction stops: the rule that its reading names is broken, or memory ran out. (This project's own.)
use Rattle.std.specs.Prelude.{◌≡◌, ℕ, Result, Err}
use Rattle.cf_insns.specs.declared.fault.CodeFault.{CodeFault}
use Rattle.cf_insns.specs.declared.fault.CodeFault.TheVariants as fault
use Rattle.cf_insns.specs.declared.fault.CodeRule.{CodeRule}
use Rattle.cf_insns.specs.declared.reading.Spelled.{Spelled}
use Rattle.cf_insns.specs.declared.reading.Stop.{Stop}
use Rattle.cf_insns.specs.declared.reading.Stop.TheVariants.{Broken, Memory}

-- the rule is the one that the reading names, unless memory ran out
abbrev pub Stops : Stop → Result Spelled CodeRule → Type 0
Stops Memory read = Unit {0}
Stops (Broken rule) read = read ≡ Err rule

-- the fault of code of which reading stops at an offset
abbrev pub fault_at : ℕ → Stop → CodeFault
fault_at offset (Broken rule) = fault.Broken rule offset
fault_at offset Memory = fault.Memory
