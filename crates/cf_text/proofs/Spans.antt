-- Demands in order, between two bounds: positions and rules' numbers as one number.
use Rattle.std.proofs.Common.{◌≡◌, ◌+◌, ◌*◌, ◌<◌, ◌≤◌, ◌⊎◌, ℕ, zero, suc, List, [], ◌∷◌, ◌++◌, sym, subst, inl, inr, arith}
use Rattle.std.specs.List.{AllByRecursion}
use Rattle.std.proofs.lemmas.Bool.{cases_lt}
use Rattle.cf_text.specs.declared.fault.Rule.{Rule}
use Rattle.cf_text.specs.declared.fault.Rule.TheVariants as rules
use Rattle.cf_text.specs.Demands.{Demand, of_each}
use Rattle.cf_text.specs.Formats.{Format, many_format}
use Rattle.cf_text.specs.Order.{IsBefore, Rises, number_of}

-- a demand's position and its rule's number
abbrev pub key : Demand → ℕ
key d = 16 * d.at + number_of d.rule

-- demands in order, from a bound to a bound
abbrev pub Span : ℕ → ℕ → List Demand → Type 0
Span low high [] = low ≤ high
Span low high (d ∷ ds) = (low ≤ key d) × Span (key d) high ds

pub span_low : (lower low high : ℕ) (ds : List Demand) → lower ≤ low → Span low high ds → Span lower high ds
span_low lower low high [] le span = omega arith
span_low lower low high (d ∷ ds) le span = let first = span.0 in (omega arith, span.1)

pub span_high : (low high higher : ℕ) (ds : List Demand) → high ≤ higher → Span low high ds → Span low higher ds
span_high low high higher [] le span = omega arith
span_high low high higher (d ∷ ds) le span = (span.0, span_high (key d) high higher ds le span.1)

pub span_append : (low middle high : ℕ) (ds es : List Demand) → Span low middle ds → Span middle high es → Span low high (ds ++ es)
span_append low middle high [] es front back = span_low low middle high es front back
span_append low middle high (d ∷ ds) es front back = (front.0, span_append (key d) middle high ds es front.1 back)

number_below : (rule : Rule) → number_of rule < 16
number_below rules.Truncated = omega arith
number_below rules.Magic = omega arith
number_below rules.Version = omega arith
number_below rules.Tag = omega arith
number_below rules.Utf8 = omega arith
number_below rules.Index = omega arith
number_below rules.Descriptor = omega arith
number_below rules.Flags = omega arith
number_below rules.CodeLength = omega arith
number_below rules.AttributeLength = omega arith
number_below rules.Duplicate = omega arith
number_below rules.Trailing = omega arith
number_below rules.OutOfProfile = omega arith
number_below rules.TooLarge = omega arith

before_is : (d e : Demand) → key d ≤ key e → IsBefore d e
before_is d e le = ordered d.at e.at (number_of d.rule) (number_of e.rule) (number_below d.rule) (number_below e.rule) le
  where
    ordered : (a b m n : ℕ) → m < 16 → n < 16 → 16 * a + m ≤ 16 * b + n → (a < b) ⊎ ((a ≡ b) × (m ≤ n))
    ordered a b m n m_below n_below le =
        elim (cases_lt a b) [ inl less ↦ inl less | inr above ↦ inr (omega arith, omega arith) ]

all_after : (d : Demand) (low high : ℕ) (ds : List Demand) → key d ≤ low → Span low high ds → AllByRecursion (IsBefore d) ds
all_after d low high [] le span = tt
all_after d low high (e ∷ es) le span =
    let first = span.0 in
    let here : key d ≤ key e = omega arith in
    (before_is d e here, all_after d (key e) high es here span.1)

omega_le : (n : ℕ) → n ≤ n
omega_le n = omega arith

pub span_rises : (low high : ℕ) (ds : List Demand) → Span low high ds → Rises ds
span_rises low high [] span = tt
span_rises low high (d ∷ ds) span = (all_after d (key d) high ds (omega_le (key d)) span.1, span_rises (key d) high ds span.1)

-- the demands of items that follow each other are in order
pub many_span : {A : Type 0} (format : ℕ → Format A) (demands : ℕ → A → List Demand)
    → ((index at to : ℕ) (x : A) → (format at).Stands at x to → Span (16 * at) (16 * to) (demands index x)) → (n at to index : ℕ) (xs : List A)
    → (many_format format n at).Stands at xs to → Span (16 * at) (16 * to) (of_each demands index xs)
unfolding of_each
many_span {A = A} format demands one zero at to index xs stands =
    let none = stands.0 in
    let end = stands.1 in
    subst (λ (l : List A). Span (16 * at) (16 * to) (of_each demands index l)) (sym none) (omega arith)
many_span {A = A} format demands one (suc n) at to index xs stands =
    let first = stands.0 in
    let others = stands.2.0 in
    let same : xs ≡ first.0 ∷ others.0 = stands.2.2.0 in
    let end : to ≡ others.1 = stands.2.2.1 in
    subst (λ (l : List A). Span (16 * at) (16 * to) (of_each demands index l)) (sym same)
    (span_append (16 * at) (16 * first.1) (16 * to) (demands index first.0) (of_each demands (index + 1) others.0) (one index at first.1 first.0 stands.1)
    (subst (λ (e : ℕ). Span (16 * first.1) (16 * e) (of_each demands (index + 1) others.0)) (sym end) (many_span format demands one n first.1 others.1 (index + 1) others.0 stands.2.1)))
