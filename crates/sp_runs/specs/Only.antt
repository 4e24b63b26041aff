-- What else may be answered, if one answer is right. (This project's own.)
use Rattle.std.specs.Prelude.{◌≡◌, Result, Ok, Err}

-- this value is answered, or a fault that has to be expected
abbrev pub OnlyGives : {A E : Type 0} → A → (E → Type 0) → Result A E → Type 0
OnlyGives value IsExpected (Ok given) = given ≡ value
OnlyGives value IsExpected (Err fault) = IsExpected fault
