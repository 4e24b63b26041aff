-- The fault of a stop says what the stop said.
use Rattle.std.proofs.Common.{ℕ, List, Err}
use Rattle.std.specs.Prelude.{slice_index}
use Rattle.ver_check.specs.Flow.{Settles}
use Rattle.ver_check.specs.Settled.{SettlesBody, fault_of}
use Rattle.ver_rules.specs.declared.fault.CheckRule.{CheckRule}
use Rattle.ver_rules.specs.declared.fault.CheckRule.TheVariants.{NoFrame}
use Rattle.ver_check.specs.declared.stop.Stop.{Stop}
use Rattle.ver_check.specs.declared.stop.Stop.TheVariants as stop

pub stopped : {X : Type 0} (offsets : List ℕ) (index : ℕ) (s : Stop) (so : Type 0) (Wrong Fault : CheckRule → ℕ → Type 0) (Safe : X → Type 0)
    → ((rule : CheckRule) (told : ℕ) → Wrong rule told → Fault rule (slice_index offsets told))
    → Settles {X = Unit {0}} index (Err s) so Wrong → SettlesBody {X = X} (Err (fault_of offsets index s)) Safe Fault
stopped offsets index (stop.Broken rule) so Wrong Fault Safe follows settled = follows rule index settled
stopped offsets index (stop.Missing missing) so Wrong Fault Safe follows settled = follows NoFrame missing settled
stopped offsets index stop.Memory so Wrong Fault Safe follows settled = tt
