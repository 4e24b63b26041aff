-- Faults in a known attribute, put on its length.
use Rattle.std.proofs.Common.{ℕ, Result, Ok, Err, ap}
use Rattle.cf_text.specs.declared.fault.ReadFault.{ReadFault}
use Rattle.cf_text.specs.declared.fault.ReadFault.TheVariants.{Broken, Memory}
use Rattle.cf_text.specs.Reading.{Gives}
use Rattle.cf_layout.specs.Codes.{blamed}

pub Gives-blamed : {A : Type 0} (at : ℕ) (reading answer : Result A ReadFault) → Gives reading answer → Gives (blamed at reading) (blamed at answer)
Gives-blamed at reading (Ok x) given = ap (blamed at) given
Gives-blamed at reading (Err (Broken rule position)) given = ap (blamed at) given
Gives-blamed at reading (Err Memory) given = tt

pub ruleset blames = (Gives-blamed)
