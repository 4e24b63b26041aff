-- A class file is a stream of bytes (JVMS 4): what a source's bytes spell is loaded, whatever pieces they come in.
use Rattle.std.specs.Prelude.{◌≡◌, ◌≤◌, ℕ, List, length, Option, Result, Ok, Err}
use Rattle.std.specs.Io.KnownBytes.{Consumes}
use Rattle.cf_text.specs.declared.fault.ReadFault.{ReadFault}
use Rattle.cf_text.specs.declared.fault.ReadFault.TheVariants.{Broken, Memory}
use Rattle.cf_text.specs.Reading.{Fails}
use Rattle.cf_load.specs.declared.load_fault.LoadFault.{LoadFault}
use Rattle.cf_load.specs.declared.load_fault.LoadFault.TheVariants.{Read, Device}

-- an answer is what a reading gives, unless the device failed or memory ran out
abbrev pub Loads : {A : Type 0} → Result A ReadFault → Result A LoadFault → Type 0
Loads reading (Ok x) = reading ≡ Ok x
Loads reading (Err (Read fault)) = Fails reading fault
Loads reading (Err Device) = Unit {0}

-- the most that is read of a source: one byte more than a class file may have, which shows that it is too large
abbrev pub most_read : ℕ
most_read = 1048577

-- a source that had `before` and has `after` left passed some bytes, no more than are ever read: an answer is what their
-- reading gives, unless the device failed or memory ran out
abbrev pub LoadsPassed : {A : Type 0} → (List ℕ → Result A ReadFault) → Option (List ℕ) → Option (List ℕ) → Result A LoadFault → Type 0
LoadsPassed reading before after (Ok x) = (bytes : List ℕ) × Consumes before after bytes × (length bytes ≤ most_read) × (reading bytes ≡ Ok x)
LoadsPassed reading before after (Err (Read (Broken rule at))) =
    (bytes : List ℕ) × Consumes before after bytes × (length bytes ≤ most_read) × (reading bytes ≡ Err (Broken rule at))
LoadsPassed reading before after (Err (Read Memory)) = Unit {0}
LoadsPassed reading before after (Err Device) = Unit {0}
