-- What the answer of checking one method says (JVMS 4.10.1.6): its body is type safe, or a rule is broken at an offset.
use Rattle.std.specs.Prelude.{ℕ, List, Result, Ok, Err, slice_index}
use Rattle.ver_check.specs.declared.check.BodyFault.{BodyFault}
use Rattle.ver_check.specs.declared.check.BodyFault.TheVariants as fault
use Rattle.ver_rules.specs.declared.fault.CheckRule.{CheckRule}
use Rattle.ver_rules.specs.declared.fault.CheckRule.TheVariants.{NoFrame}
use Rattle.ver_check.specs.declared.stop.Stop.{Stop}
use Rattle.ver_check.specs.declared.stop.Stop.TheVariants as stop

-- the fault of a stop at the instruction at an index, by the offsets of the instructions
abbrev pub fault_of : List ℕ → ℕ → Stop → BodyFault
fault_of offsets index (stop.Broken rule) = fault.Broken rule (slice_index offsets index)
fault_of offsets index (stop.Missing missing) = fault.Broken NoFrame (slice_index offsets missing)
fault_of offsets index stop.Memory = fault.Memory

-- a function found a value of which this is so; or this is wrong, by rule and offset; or memory ran out
abbrev pub SettlesBody : {X : Type 0} → Result X BodyFault → (X → Type 0) → (CheckRule → ℕ → Type 0) → Type 0
SettlesBody (Ok x) So Wrong = So x
SettlesBody (Err (fault.Broken rule at)) So Wrong = Wrong rule at
SettlesBody (Err fault.Memory) So Wrong = Unit {0}
