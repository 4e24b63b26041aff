-- The test of a subtype passes for subtypes alone, and for each of them.
use Rattle.std.proofs.Common.{◌≡◌, ◌↔◌, ◌⊎◌, inl, inr, ℕ, zero, suc, ◌<◌, ◌≤◌, ◌++◌, Bool, true, false, Option, Some, None, List, [], ◌∷◌, IsTrue, length, refl, sym, subst, ap, ◌∙◌, arith}
use Rattle.std.specs.Prelude.{◌||◌, ◌&&◌, nat_eq, nat_lt, IsSomeAnd, Contains, option_to_list, slice_get}
use Rattle.std.specs.List.{list_any}
use Rattle.std.specs.Option.{option_map_or}
use Rattle.std.proofs.lemmas.Bool.{eq-eqb, ltb-true}
use Rattle.std.proofs.lemmas.List.Elements.{Contains-append_cases, Contains-append_left, Contains-append_right}
use Rattle.cls_search.proofs.Heights.{low_ranks}
use Rattle.cls_search.specs.Searches.{IsRanking, supertypes_of}
use Rattle.cls_set.proofs.Hierarchy.{true_false, subtype_first, same_subtype}
use Rattle.cls_set.specs.Sets.{IsClassSet}
use Rattle.cls_set.specs.Subtypes.{IsDirectSupertype, IsSubtype}
use Rattle.cls_set.specs.Subtypes.IsSubtype.{superclass, superinterface, through}
use Rattle.cls_set.specs.declared.class.Class.{Class}
use Rattle.space_ids.specs.declared.ids.ClassId.{ClassId}
use Rattle.vm_code.specs.Classes.{is_under, is_subtype}

-- two tests of one fact are one
pub same_test : (r s : Bool) (P : Type 0) → IsTrue r ↔ P → IsTrue s ↔ P → r ≡ s
same_test true true P f g = refl
same_test false false P f g = refl
same_test true false P f g = absurd (true_false (sym (g.1 (f.0 refl))))
same_test false true P f g = absurd (true_false (sym (f.1 (g.0 refl))))

or_left : (a b : Bool) → a ≡ true → (a || b) ≡ true
or_left true b e = refl
or_left false b e = absurd (true_false (sym e))

or_right : (a b : Bool) → b ≡ true → (a || b) ≡ true
or_right true b e = refl
or_right false b e = e

or_cases : (a b : Bool) → (a || b) ≡ true → (a ≡ true) ⊎ (b ≡ true)
or_cases true b e = inl refl
or_cases false b e = inr e

-- one that passes
any_found : (p : ClassId → Bool) (xs : List ClassId) → list_any p xs ≡ true → (x : ClassId) × Contains xs x × (p x ≡ true)
any_found p [] e = absurd (true_false (sym e))
any_found p (x ∷ xs) e =
    elim (or_cases (p x) (list_any p xs) e) [
      | inl here ↦ (x, (0, omega arith, refl), here)
      | inr later ↦ let r = any_found p xs later in (r.0, Contains-append_right (x ∷ []) xs r.0 r.1, r.2)
    ]

any_passes : (p : ClassId → Bool) (xs : List ClassId) (x : ClassId) → Contains xs x → p x ≡ true → list_any p xs ≡ true
any_passes p [] x (i, h, e) is = absurd (omega (arith, h))
any_passes p (y ∷ ys) x (zero, h, e) is = or_left (p y) (list_any p ys) (ap p e ∙ is)
any_passes p (y ∷ ys) x (suc i, h, e) is = or_right (p y) (list_any p ys) (any_passes p ys x (i, omega (arith, h), e) is)

superclass_among : (o : Option ClassId) (s : ClassId) → Contains (option_to_list o) s → o ≡ Some s
superclass_among None s (i, h, e) = absurd (omega (arith, h))
superclass_among (Some t) s (zero, h, e) = ap (λ x. Some x) e
superclass_among (Some t) s (suc i, h, e) = absurd (omega (arith, h))

direct_in : (o : Option Class) (s : ClassId) → Contains (option_map_or (λ (c : Class). c.interfaces ++ option_to_list c.superclass) o []) s
    → IsSomeAnd o (λ c. c.superclass ≡ Some s) ⊎ IsSomeAnd o (λ c. Contains c.interfaces s)
direct_in None s (i, h, e) = absurd (omega (arith, h))
direct_in (Some c) s among =
    elim (Contains-append_cases c.interfaces (option_to_list c.superclass) s among) [
      | inl up ↦ inr up
      | inr up ↦ inl (superclass_among c.superclass s up)
    ]

among_direct : (o : Option Class) (s : ClassId) → IsSomeAnd o (λ c. c.superclass ≡ Some s) ⊎ IsSomeAnd o (λ c. Contains c.interfaces s)
    → Contains (option_map_or (λ (c : Class). c.interfaces ++ option_to_list c.superclass) o []) s
among_direct None s (inl up) = absurd up
among_direct None s (inr up) = absurd up
among_direct (Some c) s (inl up) =
    Contains-append_right c.interfaces (option_to_list c.superclass) s (subst (λ o. Contains (option_to_list o) s) (sym up) (0, omega arith, refl))
among_direct (Some c) s (inr up) = Contains-append_left c.interfaces (option_to_list c.superclass) s up

module _ (classes : List Class) where
  direct_up : (a m b : ClassId) → IsDirectSupertype classes a m → IsSubtype classes m b → IsSubtype classes a b
  direct_up a m b (inl up) below = through a m b (superclass a m up) below
  direct_up a m b (inr up) below = through a m b (superinterface a m up) below

  under_sound : (n : ℕ) (a b : ClassId) → is_under n classes a b ≡ true → IsSubtype classes a b
  unfolding is_under
  under_sound zero a b e = same_subtype classes a b e
  under_sound (suc n) a b e =
      elim (or_cases (nat_eq a.0 b.0) _ e) [
        | inl same ↦ same_subtype classes a b same
        | inr up ↦
            let r = any_found (λ up. is_under n classes up b) (supertypes_of classes a) up in
            direct_up a r.0 b (direct_in (slice_get classes a.0) r.0 r.1) (under_sound n r.0 b r.2)
      ]

  under_whole : (rank : ClassId → ℕ) → IsRanking classes rank → (n : ℕ) (a b : ClassId) → rank a ≤ n → IsSubtype classes a b → is_under n classes a b ≡ true
  unfolding is_under
  under_whole rank ranking zero a b low below =
      elim (subtype_first classes below) [
        | inl same ↦ eq-eqb a.0 b.0 (ap (λ (c : ClassId). c.0) same)
        | inr up ↦ let less = ranking a up.0 up.1 in absurd (omega (arith, less, low))
      ]
  under_whole rank ranking (suc n) a b low below =
      elim (subtype_first classes below) [
        | inl same ↦ or_left (nat_eq a.0 b.0) _ (eq-eqb a.0 b.0 (ap (λ (c : ClassId). c.0) same))
        | inr up ↦
            let less = ranking a up.0 up.1 in
            or_right (nat_eq a.0 b.0) _ (any_passes (λ up. is_under n classes up b) (supertypes_of classes a) up.0 (among_direct (slice_get classes a.0) up.0 up.1)
            (under_whole rank ranking n up.0 b (omega (arith, less, low)) up.2))
      ]

  under_decides : IsClassSet classes → (a b : ClassId) → IsTrue (is_under (length classes) classes a b) ↔ IsSubtype classes a b
  under_decides set a b =
      let ranks = low_ranks classes set in
      (under_sound (length classes) a b, under_whole ranks.rank ranks.ranking (length classes) a b (ranks.low a))

  -- what passes the test is a class of the set, and a subtype
  pub subtype_sound : (a b : ClassId) → is_subtype classes a b ≡ true → (a.0 < length classes) × IsSubtype classes a b
  unfolding is_subtype
  subtype_sound a b e = by (nat_lt a.0 (length classes)) refl e
    where
      by : (inside : Bool) → nat_lt a.0 (length classes) ≡ inside → (inside && is_under (length classes) classes a b) ≡ true → (a.0 < length classes) × IsSubtype classes a b
      by true is e = (ltb-true a.0 (length classes) is, under_sound (length classes) a b e)
      by false is e = absurd (true_false (sym e))

  -- a test of a subtype is the one of the definition
  pub subtype_test : IsClassSet classes → (a b : ClassId) (r : Bool) → a.0 < length classes → IsTrue r ↔ IsSubtype classes a b → r ≡ is_subtype classes a b
  unfolding is_subtype
  subtype_test set a b r inside decides =
      rw (lt_true a.0 (length classes) inside) (same_test r (is_under (length classes) classes a b) (IsSubtype classes a b) decides (under_decides set a b))
    where
      lt_true : (m n : ℕ) → m < n → nat_lt m n ≡ true
      lt_true m n h = grind (arith, h)

  -- what is no class of the set is a subtype of none
  pub no_subtype : (a b : ClassId) → length classes ≤ a.0 → false ≡ is_subtype classes a b
  unfolding is_subtype
  no_subtype a b past = rw (lt_false a.0 (length classes) past) refl
    where
      lt_false : (m n : ℕ) → n ≤ m → nat_lt m n ≡ false
      lt_false m n h = grind (arith, h)
