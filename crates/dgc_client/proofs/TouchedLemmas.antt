use Rattle.std.proofs.Common.{◌≡◌, ℕ, zero, suc, ◌+◌, ◌-◌, ◌<◌, ◌≤◌, Bool, true, false, cond, not, List, [], ◌∷◌, ◌++◌, length, get_or, take, Option, None, Some, is_some, refl, sym, ap, subst, ◌∙◌, arith, add-zero, add-suc, inl, inr}
use Rattle.std.specs.Prelude.{slice_get, option_to_list}
use Rattle.std.specs.List.{filter_map, cons_option, position_or_len}
use Rattle.std.specs.Map.{keys_of}
use Rattle.std.proofs.lemmas.Bool.{false≢true, cases_lt}
use Rattle.std.proofs.lemmas.List.{append-nil}
use Rattle.std.proofs.Math.Seq.{take-length}
use Rattle.std.proofs.lemmas.Option.{slice_get_within}
use Rattle.std.proofs.lemmas.Grind.{get_or_default_zero}
use Rattle.indexmap.specs.IndexMap.{set_value_at, insert_entry}
use Rattle.dgc_client.specs.declared.lease.ClientLease.{ClientLease}
use Rattle.space_ids.specs.declared.ids.ForeignId.{ForeignId}
use Rattle.dgc_client.specs.Table.{is_same}
use Rattle.dgc_index.specs.Touched.{Rises}
use Rattle.dgc_client.specs.Touched.{some_of, at_index, IsAnswered, HasAllOf}

-- a write leaves the other indexes
pub set-other : (es : List (ForeignId × ClientLease)) (i k : ℕ) (w : ClientLease) → (k ≡ i → ⊥) → slice_get (set_value_at es i w) k ≡ slice_get es k
set-other [] i k w apart = refl
set-other (e ∷ es) zero zero w apart = absurd (apart refl)
set-other (e ∷ es) zero (suc k) w apart = refl
set-other (e ∷ es) (suc i) zero w apart = refl
set-other (e ∷ es) (suc i) (suc k) w apart = set-other es i k w (λ same. apart (ap suc same))

-- an insert leaves the indexes of the others
pub insert-other : (r : ForeignId) (l : ClientLease) (es : List (ForeignId × ClientLease)) (k : ℕ) → (k ≡ position_or_len (is_same r) (keys_of es) → ⊥)
    → slice_get (insert_entry is_same es r l) k ≡ slice_get es k
insert-other r l [] zero apart = absurd (apart refl)
insert-other r l [] (suc k) apart = refl
insert-other r l (e ∷ es) k apart = by (λ n h. insert-other r l es n h) (is_same r e.0) k apart
  where
    by : ((n : ℕ) → (n ≡ position_or_len (is_same r) (keys_of es) → ⊥) → slice_get (insert_entry is_same es r l) n ≡ slice_get es n)
        → (t : Bool) (k : ℕ) → (k ≡ cond (not t) (1 + position_or_len (is_same r) (keys_of es)) 0 → ⊥)
        → slice_get (cond t ((e.0, l) ∷ es) (e ∷ insert_entry is_same es r l)) k ≡ slice_get (e ∷ es) k
    by rest true zero apart = absurd (apart refl)
    by rest true (suc k) apart = refl
    by rest false zero apart = refl
    by rest false (suc k) apart = rest k (λ same. apart (omega arith))

-- what is found at indexes of the leases
module _ {X : Type 0} (f : ForeignId × ClientLease → Option X) where
  one : (o : Option X) → cons_option o [] ≡ option_to_list o
  one None = refl
  one (Some x) = refl

  cons-append : (o : Option X) (xs ys : List X) → cons_option o xs ++ ys ≡ cons_option o (xs ++ ys)
  cons-append None xs ys = refl
  cons-append (Some x) xs ys = refl

  -- the calls up to an index, and the one that is due there
  pub calls-next : (es : List (ForeignId × ClientLease)) (i : ℕ) → i < length es
      → filter_map f (take (suc i) es) ≡ filter_map f (take i es) ++ option_to_list (at_index f es i)
  calls-next [] i within = absurd (omega arith)
  calls-next (e ∷ es) zero within = one (f e)
  calls-next (e ∷ es) (suc i) within =
      ap (cons_option (f e)) (calls-next es i (omega arith)) ∙ sym (cons-append (f e) (filter_map f (take i es)) (option_to_list (at_index f es i)))

  no-call : (o : Option X) → (is_some o ≡ true → ⊥) → option_to_list o ≡ []
  no-call None h = refl
  no-call (Some x) h = absurd (h refl)

  -- indexes without calls
  calls-skip : (es : List (ForeignId × ClientLease)) (a k : ℕ) → a + k ≤ length es → ((i : ℕ) → a ≤ i → i < a + k → IsAnswered f es i → ⊥)
      → filter_map f (take (a + k) es) ≡ filter_map f (take a es)
  calls-skip es a zero within none = rw add-zero refl
  calls-skip es a (suc k) within none =
      rw add-suc (calls-next es (a + k) (omega arith)
      ∙ ap (λ (xs : List X). filter_map f (take (a + k) es) ++ xs) (no-call (at_index f es (a + k)) (none (a + k) (omega arith) (omega arith)))
      ∙ append-nil (filter_map f (take (a + k) es)) ∙ calls-skip es a k (omega arith) (λ i above below. none i above (omega arith)))

  -- if a call is due at an index, there is a reference
  pub due-within : (es : List (ForeignId × ClientLease)) (at : ℕ) → IsAnswered f es at → at < length es
  due-within es at some = by (slice_get es at) refl some
    where
      by : (o : Option (ForeignId × ClientLease)) → slice_get es at ≡ o → is_some (some_of f o) ≡ true → at < length es
      by None is some = absurd (false≢true some)
      by (Some e) is some = slice_get_within es at e is

  -- no call is due between the passed indexes and the next one that may have a call
  module _ (es : List (ForeignId × ClientLease)) (candidates : List ℕ) (rises : Rises candidates) (passed index : ℕ)
      (looked : (j : ℕ) → j < index → get_or candidates j 0 < length es → get_or candidates j 0 < passed) where
    none-between : HasAllOf f es candidates → (at : ℕ) → index < length candidates → at ≡ get_or candidates index 0 → (i : ℕ) → passed ≤ i → i < at → IsAnswered f es i → ⊥
    none-between all at more is i above below is_due =
        let there = all i is_due in
        let inside : i < length es = due-within es i is_due in
        let mine : get_or candidates there.0 0 ≡ i = sym (get_or_default_zero candidates there.0 i there.1) ∙ there.2 in
        elim (cases_lt there.0 index) [
          | inl before ↦ let no : get_or candidates there.0 0 < passed = looked there.0 before (omega arith) in absurd (omega arith)
          | inr following ↦ let no : get_or candidates index 0 ≤ get_or candidates there.0 0 = rises index there.0 following there.1 in absurd (omega arith)
        ]

    none-left : HasAllOf f es candidates → length candidates ≤ index → (i : ℕ) → passed ≤ i → IsAnswered f es i → ⊥
    none-left all done i above is_due =
        let there = all i is_due in
        let inside : i < length es = due-within es i is_due in
        let mine : get_or candidates there.0 0 ≡ i = sym (get_or_default_zero candidates there.0 i there.1) ∙ there.2 in
        let before : there.0 < index = omega (arith, there.1) in
        let no : get_or candidates there.0 0 < passed = looked there.0 before (omega arith) in absurd (omega arith)

    -- the calls up to the next index
    pub calls-through : HasAllOf f es candidates → (at : ℕ) → index < length candidates → at ≡ get_or candidates index 0 → passed ≤ at → at < length es
        → filter_map f (take (at + 1) es) ≡ filter_map f (take passed es) ++ option_to_list (at_index f es at)
    calls-through all at more is above within =
        let k = at - passed in
        let sum : passed + k ≡ at = omega arith in
        let next : at + 1 ≡ suc at = omega arith in
        let skip : filter_map f (take at es) ≡ filter_map f (take passed es) =
        subst (λ (n : ℕ). filter_map f (take n es) ≡ filter_map f (take passed es)) sum
        (calls-skip es passed k (omega arith) (λ i a b due. none-between all at more is i a (omega arith) due)) in
        rw next (calls-next es at within ∙ ap (λ (xs : List X). xs ++ option_to_list (at_index f es at)) skip)

    pub looked-next : (at : ℕ) → at ≡ get_or candidates index 0 → passed ≤ at → (j : ℕ) → j < index + 1 → get_or candidates j 0 < length es → get_or candidates j 0 < at + 1
    looked-next at is above j before inside =
        elim (cases_lt j index) [
          | inl old ↦ let was : get_or candidates j 0 < passed = looked j old inside in omega arith
          | inr now ↦ let same : j ≡ index = omega arith in
              let here : get_or candidates index 0 < at + 1 = omega arith in subst (λ (n : ℕ). get_or candidates n 0 < at + 1) (sym same) here
        ]

    -- what holds of the indexes with calls so far, and of the next
    pub indexes-next : HasAllOf f es candidates → (at : ℕ) → index < length candidates → at ≡ get_or candidates index 0 → (before now : ℕ → Type 0)
        → ((i : ℕ) → before i → now i) → (IsAnswered f es at → now at) → ((i : ℕ) → i < passed → IsAnswered f es i → before i)
        → (i : ℕ) → i < at + 1 → IsAnswered f es i → now i
    indexes-next all at more is before now kept here were i below is_due =
        elim (cases_lt i passed) [
          | inl old ↦ kept i (were i old is_due)
          | inr new_one ↦ elim (cases_lt i at) [
            | inl between ↦ absurd (none-between all at more is i new_one between is_due)
            | inr last ↦ let same : i ≡ at = omega arith in
                subst (λ (n : ℕ). now n) (sym same) (here (subst (λ (n : ℕ). IsAnswered f es n) same is_due))
          ]
        ]

    -- the calls, when all indexes were looked at
    pub calls-all : HasAllOf f es candidates → length candidates ≤ index → passed ≤ length es → filter_map f (take passed es) ≡ filter_map f es
    calls-all all done within =
        let k = length es - passed in
        let sum : passed + k ≡ length es = omega arith in
        sym (ap (filter_map f) (sym (take-length es) ∙ ap (λ (n : ℕ). take n es) (sym sum))
        ∙ calls-skip es passed k (omega arith) (λ i a b due. none-left all done i a due))

    pub indexes-all : HasAllOf f es candidates → length candidates ≤ index → (found : ℕ → Type 0) → ((i : ℕ) → i < passed → IsAnswered f es i → found i)
        → (i : ℕ) → IsAnswered f es i → found i
    indexes-all all done found were i is_due =
        elim (cases_lt i passed) [ inl old ↦ were i old is_due | inr left ↦ absurd (none-left all done i left is_due) ]

  pub no-due : (es : List (ForeignId × ClientLease)) (at : ℕ) → None ≡ at_index f es at → IsAnswered f es at → ⊥
  no-due es at none some = false≢true (ap is_some none ∙ some)
