-- Looks: what is found, or how nothing is, as relations by cases. A look is a format without the position at which it ends.
-- (This project's own.)
use Rattle.std.specs.Prelude.{◌≡◌, ℕ, Bool, true, false, ◌⊎◌, List, Option, Some, None, Result, Ok, Err}
use Rattle.cf_text.specs.declared.fault.Rule.{Rule}
use Rattle.cf_text.specs.declared.fault.ReadFault.{ReadFault}
use Rattle.cf_text.specs.declared.fault.ReadFault.TheVariants.{Broken, Memory}
use Rattle.cf_text.specs.Formats.{Format, IsCut, IsItem}

-- Is x: x is what is found. Fails rule at: nothing is, since this rule is broken at that position.
pub record Look (A : Type 0) : Type 1 where
  pub Is : A → Type 0
  pub Fails : Rule → ℕ → Type 0

-- what stands from a position on, with its end
abbrev pub standing : {A : Type 0} → Format A → ℕ → Look (A × ℕ)
standing format from = record {
  Is = λ x. format.Stands from x.0 x.1;
  Fails = λ rule at. format.Fails from rule at;
}

-- the end of the next n bytes, which are one item
abbrev pub passing : ℕ → List ℕ → ℕ → Look ℕ
passing n bytes from = record {
  Is = λ to. IsItem n bytes from to;
  Fails = λ rule at. IsCut n bytes from rule at;
}

-- a value that is known
abbrev pub known : {A : Type 0} → A → Look A
known a = record {
  Is = λ x. x ≡ a;
  Fails = λ rule at. ⊥;
}

-- One look, and a second one, which depends on what was found. It fails if the first fails, or if the first finds and the second fails.
infixl 10 ◌>>=◌
abbrev pub ◌>>=◌ : {A B : Type 0} → Look A → (A → Look B) → Look B
◌>>=◌ {A} {B} one other = record {
  Is = λ y. (x : A) × one.Is x × (other x).Is y;
  Fails = λ rule at. one.Fails rule at ⊎ ((x : A) × one.Is x × (other x).Fails rule at);
}

-- a rule is kept at a position
abbrev pub keeping : Bool → Rule → ℕ → Look (Unit {0})
keeping holds rule at = record {
  Is = λ x. holds ≡ true;
  Fails = λ broken position. (holds ≡ false) × (broken ≡ rule) × (position ≡ at);
}

-- one look or another
abbrev pub choosing : {A : Type 0} → Bool → Look A → Look A → Look A
choosing test one other = record {
  Is = λ x. ((test ≡ true) × one.Is x) ⊎ ((test ≡ false) × other.Is x);
  Fails = λ rule at. ((test ≡ true) × one.Fails rule at) ⊎ ((test ≡ false) × other.Fails rule at);
}

-- a look whose failure is one of a rule at a position, whatever failed
abbrev pub blaming : {A : Type 0} → Rule → ℕ → Look A → Look A
blaming rule at look = record {
  Is = look.Is;
  Fails = λ broken position. (broken ≡ rule) × (position ≡ at) × ((r : Rule) × (a : ℕ) × look.Fails r a);
}

-- an outcome is what a look finds, or how it fails
abbrev pub Finds : {A : Type 0} → Look A → Result A ReadFault → Type 0
Finds look (Ok x) = look.Is x
Finds look (Err (Broken rule at)) = look.Fails rule at
Finds look (Err Memory) = ⊥

-- A reading gives what is found, and nothing else, and fails as the look does.
pub record Tells {A : Type 0} (reading : Result A ReadFault) (look : Look A) : Type 0 where
  pub takes : (x : A) → reading ≡ Ok x → look.Is x
  pub again : (x : A) → look.Is x → reading ≡ Ok x
  pub fails : (rule : Rule) (at : ℕ) → reading ≡ Err (Broken rule at) → look.Fails rule at
  pub refuses : (rule : Rule) (at : ℕ) → look.Fails rule at → reading ≡ Err (Broken rule at)
  pub ample : reading ≡ Err Memory → ⊥

-- what is found is one, and the only one; nothing is found exactly if there is none
abbrev pub Exactly : {A : Type 0} → Option A → (A → Type 0) → Type 0
Exactly {A} (Some x) Is = Is x × ((y : A) → Is y → y ≡ x)
Exactly {A} None Is = (y : A) → Is y → ⊥
