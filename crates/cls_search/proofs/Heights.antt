-- How high a class stands: a number that falls with each step to a direct supertype.
use Rattle.std.proofs.Common.{◌≡◌, ℕ, zero, suc, ◌+◌, ◌<◌, ◌≤◌, ◌⊎◌, inl, inr, Option, Some, None, List, [], ◌∷◌, ◌++◌, length, refl, sym, subst, ap, arith, Bool, true, false}
use Rattle.std.specs.Prelude.{Contains, IsSomeAnd, cond, option_to_list, slice_get}
use Rattle.std.specs.Option.{option_map_or}
use Rattle.std.proofs.Math.Dec.{ltb}
use Rattle.std.proofs.lemmas.Bool.{lt-ltb, ltb-true, ltb-false}
use Rattle.std.proofs.lemmas.List.Elements.{Contains-append_cases, Contains-append_left, Contains-append_right}
use Rattle.cls_set.proofs.Supertypes.{direct_in_set}
use Rattle.cls_set.specs.declared.class.Class.{Class}
use Rattle.space_ids.specs.declared.ids.ClassId.{ClassId}
use Rattle.cls_set.specs.Sets.{IsClassSet}
use Rattle.cls_set.specs.Subtypes.{IsDirectSupertype}
use Rattle.cls_search.specs.Searches.{IsRanking}
use Rattle.cls_search.specs.Searches.{supertypes_of}

abbrev pub total : (ClassId → ℕ) → List ClassId → ℕ
total f [] = 0
total f (c ∷ cs) = f c + total f cs

-- the steps of all ways up, at most n steps each
abbrev pub height : List Class → ℕ → ClassId → ℕ
height classes zero c = 0
height classes (suc n) c = suc (total (height classes n) (supertypes_of classes c))

abbrev pub height_of : List Class → ClassId → ℕ
height_of classes c = height classes (suc (length classes)) c

part : (f : ClassId → ℕ) (xs : List ClassId) (x : ClassId) → Contains xs x → f x ≤ total f xs
part f [] x (i, h, e) = absurd (omega (arith, h))
part f (y ∷ ys) x (zero, h, e) = let same = ap f e in omega (arith, same)
part f (y ∷ ys) x (suc i, h, e) = let rest = part f ys x (i, omega (arith, h), e) in omega (arith, rest)

same_total : (f g : ClassId → ℕ) (xs : List ClassId) → ((x : ClassId) → Contains xs x → f x ≡ g x) → total f xs ≡ total g xs
same_total f g [] h = refl
same_total f g (y ∷ ys) h =
    let first = h y (0, omega arith, refl) in
    let rest = same_total f g ys (λ x among. h x (suc among.0, omega (arith, among.1), among.2)) in
    omega (arith, first, rest)

cases : (b : Bool) → (b ≡ true) ⊎ (b ≡ false)
cases true = inl refl
cases false = inr refl

abbrev below_one : ℕ → ℕ → ℕ
below_one a r = cond (ltb a r) 1 0

one_yes : (a r : ℕ) → a < r → below_one a r ≡ 1
one_yes a r h = ap (λ b. cond b 1 0) (lt-ltb a r h)

one_no : (a : ℕ) → below_one a a ≡ 0
one_no a =
    elim (cases (ltb a a)) [
      | inl t ↦ let h = ltb-true a a t in absurd (omega (arith, h))
      | inr f ↦ ap (λ b. cond b 1 0) f
    ]

one_most : (a r : ℕ) → below_one a r ≤ 1
one_most a r =
    elim (cases (ltb a r)) [
      | inl t ↦ let h : below_one a r ≡ 1 = ap (λ b. cond b 1 0) t in omega (arith, h)
      | inr f ↦ let h : below_one a r ≡ 0 = ap (λ b. cond b 1 0) f in omega (arith, h)
    ]

one_more : (a r q : ℕ) → r ≤ q → below_one a r ≤ below_one a q
one_more a r q le =
    elim (cases (ltb a r)) [
      | inl t ↦ let h = ltb-true a r t in let one = one_most a r in let more = one_yes a q (omega (arith, h, le)) in omega (arith, one, more)
      | inr f ↦ let h : below_one a r ≡ 0 = ap (λ b. cond b 1 0) f in omega (arith, h)
    ]

-- how many of the first n classes have a rank below r
abbrev below : (ClassId → ℕ) → ℕ → ℕ → ℕ
below rank zero r = 0
below rank (suc n) r = below rank n r + below_one (rank (record { 0 = n })) r

below_most : (rank : ClassId → ℕ) (n r : ℕ) → below rank n r ≤ n
below_most rank zero r = omega arith
below_most rank (suc n) r = let rest = below_most rank n r in let one = one_most (rank (record { 0 = n })) r in omega (arith, rest, one)

below_more : (rank : ClassId → ℕ) (n r q : ℕ) → r ≤ q → below rank n r ≤ below rank n q
below_more rank zero r q le = omega arith
below_more rank (suc n) r q le =
    let rest = below_more rank n r q le in
    let one = one_more (rank (record { 0 = n })) r q le in
    omega (arith, rest, one)

either : (a n : ℕ) → a < suc n → (a ≡ n) ⊎ (a < n)
either a n h =
    elim (cases (ltb a n)) [
      | inl t ↦ inr (ltb-true a n t)
      | inr f ↦ let least = ltb-false a n f in inl (omega (arith, h, least))
    ]

below_strict : (rank : ClassId → ℕ) (n : ℕ) (s : ClassId) (q : ℕ) → s.0 < n → rank s < q → below rank n (rank s) < below rank n q
below_strict rank zero s q h lower = absurd (omega (arith, h))
below_strict rank (suc n) s q h lower =
    let least : (s.0 ≡ n) ⊎ (s.0 < n) = either s.0 n h in
    elim least [
      | inl e ↦
          let rest = below_more rank n (rank s) q (omega (arith, lower)) in
          let none : below_one (rank (record { 0 = n })) (rank s) ≡ 0 = subst (λ i. below_one (rank (record { 0 = i })) (rank s) ≡ 0) e (one_no (rank s)) in
          let one : below_one (rank (record { 0 = n })) q ≡ 1 = subst (λ i. below_one (rank (record { 0 = i })) q ≡ 1) e (one_yes (rank s) q lower) in
          omega (arith, rest, none, one)
      | inr less ↦
          let rest = below_strict rank n s q less lower in
          let one = one_more (rank (record { 0 = n })) (rank s) q (omega (arith, lower)) in
          omega (arith, rest, one)
    ]

superclass_among : (o : Option ClassId) (s : ClassId) → Contains (option_to_list o) s → o ≡ Some s
superclass_among None s (i, h, e) = absurd (omega (arith, h))
superclass_among (Some t) s (zero, h, e) = ap (λ x. Some x) e
superclass_among (Some t) s (suc i, h, e) = absurd (omega (arith, h))

direct_in : (o : Option Class) (s : ClassId) → Contains (option_map_or (λ (c : Class). c.interfaces ++ option_to_list c.superclass) o []) s → IsSomeAnd o (λ c. c.superclass ≡ Some s) ⊎ IsSomeAnd o (λ c. Contains c.interfaces s)
direct_in None s (i, h, e) = absurd (omega (arith, h))
direct_in (Some c) s among =
    elim (Contains-append_cases c.interfaces (option_to_list c.superclass) s among) [
      | inl up ↦ inr up
      | inr up ↦ inl (superclass_among c.superclass s up)
    ]

-- a step up
pub record IsAbove (classes : List Class) (c s : ClassId) : Type 0 where
  pub in_set : s.0 < length classes
  pub lower : height_of classes s < height_of classes c

module _ (classes : List Class) (set : IsClassSet classes) where
  abbrev rank : ClassId → ℕ
  rank c = below set.rank (length classes) (set.rank c)

  falls : (c s : ClassId) → IsDirectSupertype classes c s → rank s < rank c
  falls c s d = below_strict set.rank (length classes) s (set.rank c) (direct_in_set classes set c s d) (set.ranked c s d)

  stable : (n : ℕ) (c : ClassId) → rank c < n → height classes n c ≡ height classes (suc n) c
  stable zero c h = absurd (omega (arith, h))
  stable (suc n) c h =
      ap suc (same_total (height classes n) (height classes (suc n)) (supertypes_of classes c)
      (λ s among. let less = falls c s (direct_in (slice_get classes c.0) s among) in stable n s (omega (arith, less, h))))

  falls_above : (c s : ClassId) → Contains (supertypes_of classes c) s → IsAbove classes c s
  falls_above c s among =
      let d = direct_in (slice_get classes c.0) s among in
      let less = falls c s d in
      let most = below_most set.rank (length classes) (set.rank c) in
      let same = stable (length classes) s (omega (arith, less, most)) in
      let one = part (height classes (length classes)) (supertypes_of classes c) s among in
      record { in_set = direct_in_set classes set c s d; lower = omega (arith, same, one) }

  pub superclass_above : (c s : ClassId) (k : Class) → slice_get classes c.0 ≡ Some k → k.superclass ≡ Some s → IsAbove classes c s
  superclass_above c s k e is =
      falls_above c s (subst (λ o. Contains (option_map_or (λ (c : Class). c.interfaces ++ option_to_list c.superclass) o []) s) (sym e)
      (Contains-append_right k.interfaces (option_to_list k.superclass) s (subst (λ o. Contains (option_to_list o) s) (sym is) (0, omega arith, refl))))

  pub interface_above : (c s : ClassId) (k : Class) → slice_get classes c.0 ≡ Some k → Contains k.interfaces s → IsAbove classes c s
  interface_above c s k e among =
      falls_above c s (subst (λ o. Contains (option_map_or (λ (c : Class). c.interfaces ++ option_to_list c.superclass) o []) s) (sym e)
      (Contains-append_left k.interfaces (option_to_list k.superclass) s among))

-- a ranking by numbers that are no more than the classes
pub record HasLowRanks (classes : List Class) : Type 0 where
  pub rank : ClassId → ℕ
  pub ranking : IsRanking classes rank
  pub low : (class : ClassId) → rank class ≤ length classes

pub low_ranks : (classes : List Class) (set : IsClassSet classes) → HasLowRanks classes
low_ranks classes set = record { rank = rank classes set; ranking = falls classes set; low = λ class. below_most set.rank (length classes) (set.rank class) }
