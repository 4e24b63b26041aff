-- How the rows of a switch are read one after the other.
use Rattle.std.proofs.Common.{◌≡◌, ℕ, zero, suc, ◌+◌, ◌-◌, ◌*◌, ◌<◌, ◌≤◌, ℤ, true, ◌&&◌, int_lt, List, [], ◌∷◌, ◌++◌, length, get_or, drop, Ok, refl, ap, sym, ◌∙◌, arith, append_assoc, append-nil, drop-cons}
use Rattle.std.proofs.lemmas.List.{drop-drop}
use Rattle.cf_insns.specs.declared.insn.SwitchCase.{SwitchCase}
use Rattle.cf_insns.specs.Operands.{signed_int_of}
use Rattle.cf_insns.specs.Reading.{ints_of, cases_of, keys_rise}

ints_of-step : (n : ℕ) (bytes : List ℕ) (v : ℤ) → signed_int_of bytes ≡ Ok v → ints_of (suc n) bytes ≡ v ∷ ints_of n (drop 4 bytes)
ints_of-step n [] v is = absurd (cc)
ints_of-step n (a ∷ []) v is = absurd (cc)
ints_of-step n (a ∷ b ∷ []) v is = absurd (cc)
ints_of-step n (a ∷ b ∷ c ∷ []) v is = absurd (cc)
ints_of-step n (a ∷ b ∷ c ∷ d ∷ rest) v is = cc

cases_of-step : (n : ℕ) (bytes : List ℕ) (v w : ℤ) → signed_int_of bytes ≡ Ok v → signed_int_of (drop 4 bytes) ≡ Ok w → cases_of (suc n) bytes ≡ record { key = v; branch = w } ∷ cases_of n (drop 8 bytes)
cases_of-step n [] v w is next_is = absurd (cc)
cases_of-step n (a ∷ []) v w is next_is = absurd (cc)
cases_of-step n (a ∷ b ∷ []) v w is next_is = absurd (cc)
cases_of-step n (a ∷ b ∷ c ∷ []) v w is next_is = absurd (cc)
cases_of-step n (a ∷ b ∷ c ∷ d ∷ []) v w is next_is = absurd (cc)
cases_of-step n (a ∷ b ∷ c ∷ d ∷ e ∷ []) v w is next_is = absurd (cc)
cases_of-step n (a ∷ b ∷ c ∷ d ∷ e ∷ f ∷ []) v w is next_is = absurd (cc)
cases_of-step n (a ∷ b ∷ c ∷ d ∷ e ∷ f ∷ g ∷ []) v w is next_is = absurd (cc)
cases_of-step n (a ∷ b ∷ c ∷ d ∷ e ∷ f ∷ g ∷ h ∷ rest) v w is next_is = cc

module _ (from count index : ℕ) (operands : List ℕ) (before : index < count) where
  left : suc (count - (index + 1)) ≡ count - index
  left = omega arith

  -- one more branch is read
  pub ints_of-next : (front : List ℤ) (v : ℤ) → signed_int_of (drop (from + 4 * index) operands) ≡ Ok v
      → (front ++ v ∷ []) ++ ints_of (count - (index + 1)) (drop (from + 4 * (index + 1)) operands) ≡ front ++ ints_of (count - index) (drop (from + 4 * index) operands)
  ints_of-next front v is =
      let further : 4 + (from + 4 * index) ≡ from + 4 * (index + 1) = omega arith in
      let passed : drop 4 (drop (from + 4 * index) operands) ≡ drop (from + 4 * (index + 1)) operands = drop-drop 4 (from + 4 * index) operands ∙ ap (λ n. drop n operands) (omega arith) in
      append_assoc front (v ∷ []) (ints_of (count - (index + 1)) (drop (from + 4 * (index + 1)) operands))
      ∙ ap (λ rest. front ++ v ∷ ints_of (count - (index + 1)) rest) (sym passed)
      ∙ ap (λ all. front ++ all) (sym (ints_of-step (count - (index + 1)) (drop (from + 4 * index) operands) v is))
      ∙ ap (λ n. front ++ ints_of n (drop (from + 4 * index) operands)) left

  -- one more case is read
  pub cases_of-next : (front : List SwitchCase) (v w : ℤ) → signed_int_of (drop (from + 8 * index) operands) ≡ Ok v → signed_int_of (drop (from + 8 * index + 4) operands) ≡ Ok w
      → (front ++ record { key = v; branch = w } ∷ []) ++ cases_of (count - (index + 1)) (drop (from + 8 * (index + 1)) operands) ≡ front ++ cases_of (count - index) (drop (from + 8 * index) operands)
  cases_of-next front v w is next_is =
      let passed : drop 8 (drop (from + 8 * index) operands) ≡ drop (from + 8 * (index + 1)) operands = drop-drop 8 (from + 8 * index) operands ∙ ap (λ n. drop n operands) (omega arith) in
      let second : drop 4 (drop (from + 8 * index) operands) ≡ drop (from + 8 * index + 4) operands = drop-drop 4 (from + 8 * index) operands ∙ ap (λ n. drop n operands) (omega arith) in
      append_assoc front (record { key = v; branch = w } ∷ []) (cases_of (count - (index + 1)) (drop (from + 8 * (index + 1)) operands))
      ∙ ap (λ rest. front ++ record { key = v; branch = w } ∷ cases_of (count - (index + 1)) rest) (sym passed)
      ∙ ap (λ all. front ++ all) (sym (cases_of-step (count - (index + 1)) (drop (from + 8 * index) operands) v w is (ap signed_int_of second ∙ next_is)))
      ∙ ap (λ n. front ++ cases_of n (drop (from + 8 * index) operands)) left

-- all are read
pub ints_of-end : (count index : ℕ) (bytes : List ℕ) (front : List ℤ) → count ≤ index → front ++ ints_of (count - index) bytes ≡ front
ints_of-end count index bytes front past = let none : count - index ≡ 0 = omega arith in ap (λ n. front ++ ints_of n bytes) none ∙ append-nil front

pub cases_of-end : (count index : ℕ) (bytes : List ℕ) (front : List SwitchCase) → count ≤ index → front ++ cases_of (count - index) bytes ≡ front
cases_of-end count index bytes front past = let none : count - index ≡ 0 = omega arith in ap (λ n. front ++ cases_of n bytes) none ∙ append-nil front

-- the keys from an index on
pub keys_rise-at : (cases : List SwitchCase) (i : ℕ) (d : SwitchCase) → i + 1 < length cases
    → keys_rise (drop i cases) ≡ (int_lt (get_or cases i d).key (get_or cases (i + 1) d).key && keys_rise (drop (i + 1) cases))
keys_rise-at cases i d within =
    let one = drop-cons cases i d (omega arith) in
    let two = drop-cons cases (suc i) d (omega arith) in
    let suc_is : suc i ≡ i + 1 = omega arith in
    ap keys_rise (one ∙ ap (λ rest. get_or cases i d ∷ rest) two)
    ∙ ap (λ rest. int_lt (get_or cases i d).key (get_or cases (suc i) d).key && keys_rise rest) (sym two)
    ∙ ap (λ n. int_lt (get_or cases i d).key (get_or cases n d).key && keys_rise (drop n cases)) suc_is

pub keys_rise-end : (cases : List SwitchCase) (i : ℕ) → length cases ≤ i + 1 → keys_rise (drop i cases) ≡ true
keys_rise-end [] zero past = refl
keys_rise-end [] (suc i) past = refl
keys_rise-end (one ∷ []) zero past = refl
keys_rise-end (one ∷ other ∷ cases) zero past = absurd (omega arith)
keys_rise-end (one ∷ cases) (suc i) past = keys_rise-end cases i (omega arith)
