-- Reading, step by step: the value that is read, or the first fault. (This project's own.)
use Rattle.std.specs.Prelude.{◌≡◌, ℕ, zero, suc, List, [], ◌∷◌, Result, Ok, Err}
use Rattle.cf_text.specs.declared.fault.ReadFault.{ReadFault}
use Rattle.cf_text.specs.declared.fault.ReadFault.TheVariants.{Broken, Memory}

-- a step, and what follows if it does not fail
infixl 10 ◌>>=◌
abbrev pub ◌>>=◌ : {A B : Type 0} → Result A ReadFault → (A → Result B ReadFault) → Result B ReadFault
(Ok x) >>= f = f x
(Err fault) >>= f = Err fault

-- what fails of a reading: any answer may be that memory ran out instead
abbrev pub Fails : {A : Type 0} → Result A ReadFault → ReadFault → Type 0
Fails reading (Broken rule at) = reading ≡ Err (Broken rule at)
Fails reading Memory = Unit {0}

-- an answer is what the reading gives, out of memory apart
abbrev pub Gives : {A : Type 0} → Result A ReadFault → Result A ReadFault → Type 0
Gives reading (Ok x) = reading ≡ Ok x
Gives reading (Err fault) = Fails reading fault

-- the same of an answer that is seen by a view
abbrev pub GivesSeen : {A B : Type 0} → (A → B) → Result B ReadFault → Result A ReadFault → Type 0
GivesSeen view reading (Ok x) = reading ≡ Ok (view x)
GivesSeen view reading (Err fault) = Fails reading fault

-- n values one after the other, each from the end of the one before
unfoldable pub many : {A : Type 0} → (ℕ → Result (A × ℕ) ReadFault) → ℕ → ℕ → Result (List A × ℕ) ReadFault
many read zero at = Ok ([], at)
many read (suc n) at = do
  first ← read at
  others ← many read n first.1
  Ok (first.0 ∷ others.0, others.1)
