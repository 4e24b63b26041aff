-- Formats: what bytes spell between two positions, and how they fail to, as relations by cases. A format is apart from
-- reading: it says what stands, and not how it is looked for. (This project's own; that numbers are big-endian is JVMS 4.)
use Rattle.std.specs.Prelude.{◌≡◌, ◌≤◌, ◌<◌, ◌+◌, ℕ, zero, suc, Bool, true, false, ◌⊎◌, List, [], ◌∷◌, length, take, drop, Result, Ok, Err}
use Rattle.byteorder.specs.Endian.{big_number}
use Rattle.cf_text.specs.declared.fault.Rule.{Rule}
use Rattle.cf_text.specs.declared.fault.Rule.TheVariants.{Truncated}
use Rattle.cf_text.specs.declared.fault.ReadFault.{ReadFault}
use Rattle.cf_text.specs.declared.fault.ReadFault.TheVariants.{Broken, Memory}

-- Stands from x to: from this position up to that one, the bytes spell x.
-- Fails from rule at: from this position on, the bytes spell nothing, since this rule is broken at that position.
pub record Format (A : Type 0) : Type 1 where
  pub Stands : ℕ → A → ℕ → Type 0
  pub Fails : ℕ → Rule → ℕ → Type 0

-- n bytes, one item, which ends within the file
pub record IsItem (n : ℕ) (bytes : List ℕ) (from to : ℕ) : Type 0 where
  pub end : to ≡ from + n
  pub inside : to ≤ length bytes

-- an item that the file's end cuts is broken at its first byte
pub record IsCut (n : ℕ) (bytes : List ℕ) (from : ℕ) (rule : Rule) (at : ℕ) : Type 0 where
  pub short : length bytes < from + n
  pub rule_is : rule ≡ Truncated
  pub at_is : at ≡ from

-- a big-endian number of n bytes
abbrev pub number_format : ℕ → List ℕ → Format ℕ
number_format n bytes = record {
  Stands = λ from x to. IsItem n bytes from to × (x ≡ big_number n (drop from bytes));
  Fails = IsCut n bytes;
}

-- a run of n bytes
abbrev pub run_format : ℕ → List ℕ → Format (List ℕ)
run_format n bytes = record {
  Stands = λ from x to. IsItem n bytes from to × (x ≡ take n (drop from bytes));
  Fails = IsCut n bytes;
}

-- nothing more: the value that stands before
abbrev pub done : {A : Type 0} → A → Format A
done a = record {
  Stands = λ from x to. (x ≡ a) × (to ≡ from);
  Fails = λ from rule at. ⊥;
}

-- One format, and after it a second one, which depends on what stood and on its end. It fails if the first fails, or if the first stands
-- and the second fails.
infixl 10 ◌>>=◌
abbrev pub ◌>>=◌ : {A B : Type 0} → Format A → (A × ℕ → Format B) → Format B
◌>>=◌ {A} {B} one other = record {
  Stands = λ from y to. (x : A × ℕ) × one.Stands from x.0 x.1 × (other x).Stands x.1 y to;
  Fails = λ from rule at. one.Fails from rule at ⊎ ((x : A × ℕ) × one.Stands from x.0 x.1 × (other x).Fails x.1 rule at);
}

-- a rule that is kept at a position, and a format after it
abbrev pub asking : {A : Type 0} → Bool → Rule → ℕ → Format A → Format A
asking holds rule at format = record {
  Stands = λ from x to. (holds ≡ true) × format.Stands from x to;
  Fails = λ from broken position. ((holds ≡ false) × (broken ≡ rule) × (position ≡ at)) ⊎ ((holds ≡ true) × format.Fails from broken position);
}

-- nothing that stands: a rule is broken at a position
abbrev pub refused : {A : Type 0} → Rule → ℕ → Format A
refused rule at = record {
  Stands = λ from x to. ⊥;
  Fails = λ from broken position. (broken ≡ rule) × (position ≡ at);
}

-- n of one format, one after the other; each may depend on the position at which it begins
abbrev pub many_format : {A : Type 0} → (ℕ → Format A) → ℕ → ℕ → Format (List A)
many_format format zero at = done []
many_format format (suc n) at = format at >>= λ first. many_format format n first.1 >>= λ others. done (first.0 ∷ others.0)

-- a fault of what stands from a position on: out of memory says nothing of it
abbrev pub FailsBy : {A : Type 0} → Format A → ℕ → ReadFault → Type 0
FailsBy format from (Broken rule at) = format.Fails from rule at
FailsBy format from Memory = Unit {0}

-- A reading from a position on gives what stands there, and nothing else; it refuses what the format fails for, and
-- nothing else; and it asks for no memory.
pub record Reads {A : Type 0} (reading : Result (A × ℕ) ReadFault) (from : ℕ) (format : Format A) : Type 0 where
  pub takes : (x : A × ℕ) → reading ≡ Ok x → format.Stands from x.0 x.1
  pub again : (x : A × ℕ) → format.Stands from x.0 x.1 → reading ≡ Ok x
  pub fails : (fault : ReadFault) → reading ≡ Err fault → FailsBy format from fault
  pub refuses : (rule : Rule) (at : ℕ) → format.Fails from rule at → reading ≡ Err (Broken rule at)
  pub ample : reading ≡ Err Memory → ⊥
