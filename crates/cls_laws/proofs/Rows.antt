-- Rows in the order of their names: two with the same elements are the same, and each name has one index.
use Rattle.std.proofs.Common.{◌≡◌, ℕ, zero, suc, ◌<◌, ◌⊎◌, inl, inr, Some, List, [], ◌∷◌, length, get_or, map, refl, sym, subst, ap, ◌∙◌, arith}
use Rattle.std.specs.Prelude.{Contains, slice_get}
use Rattle.std.specs.List.Sorted.{IsStrictlySortedBy}
use Rattle.std.specs.declared.cmp.Ordering.TheVariants.{Less, Equal}
use Rattle.std.proofs.lemmas.Cmp.{nat_list_cmp_total, tied_itself}
use Rattle.std.proofs.lemmas.List.{get_or-map, length-map}
use Rattle.std.proofs.lemmas.List.Elements.{All-get_or}
use Rattle.std.proofs.lemmas.Map.Keys.{sorted_tail}
use Rattle.std.proofs.lemmas.Map.Views.{All-after_first}
use Rattle.std.proofs.lemmas.Option.{get_or_from_slice_get, slice_get_within}
use Rattle.cls_order.specs.Classes.{name_cmp}
use Rattle.cls_order.proofs.Names.{sorted_far}
use Rattle.cls_order.proofs.Walks.{before}

less_equal : Less ≡ Equal → ⊥
less_equal e = cc

-- no name is below itself
itself : (name : List ℕ) → name_cmp name name ≡ Less → ⊥
itself name e = less_equal (sym e ∙ tied_itself nat_list_cmp_total name)

module _ {X : Type 0} (key : X → List ℕ) where
  abbrev pub Rise : List X → Type 0
  Rise xs = IsStrictlySortedBy name_cmp (map key xs)

  -- the first is below the others
  lower : (x : X) (xs : List X) (y : X) → Rise (x ∷ xs) → Contains xs y → name_cmp (key x) (key y) ≡ Less
  lower x xs y up (k, h, e) =
      let within : k < length (map key xs) = subst (λ n. k < n) (sym (length-map xs key)) h in
      subst (λ q. name_cmp (key x) q ≡ Less) (get_or-map key xs k y (key y) h ∙ ap key e)
      (All-get_or (λ q. name_cmp (key x) q ≡ Less) (map key xs) k (key y) within (All-after_first name_cmp (key x) (map key xs) up))

  first_or_later : (x y : X) (xs : List X) → Contains (x ∷ xs) y → (x ≡ y) ⊎ Contains xs y
  first_or_later x y xs (zero, h, e) = inl e
  first_or_later x y xs (suc k, h, e) = inr (k, omega (arith, h), e)

  first : (x : X) (xs : List X) → Contains (x ∷ xs) x
  first x xs = (0, omega arith, refl)

  later : (x y : X) (xs : List X) → Contains xs y → Contains (x ∷ xs) y
  later x y xs (k, h, e) = (suc k, omega (arith, h), e)

  none_in : (y : X) → Contains [] y → ⊥
  none_in y (k, h, e) = absurd (omega (arith, h))

  -- what stands among others with the same first stands after it
  after_first : (x : X) (xs ys : List X) → Rise (x ∷ xs) → ((z : X) → Contains (x ∷ xs) z → Contains (x ∷ ys) z) → (z : X) → Contains xs z → Contains ys z
  after_first x xs ys up f z h =
      elim (first_or_later x z ys (f z (later x z xs h))) [
        | inl e ↦ absurd (itself (key x) (subst (λ q. name_cmp (key x) (key q) ≡ Less) (sym e) (lower x xs z up h)))
        | inr i ↦ i
      ]

  same_first : (x y : X) (xs ys : List X) → Rise (x ∷ xs) → Rise (y ∷ ys) → Contains (y ∷ ys) x → Contains (x ∷ xs) y → x ≡ y
  same_first x y xs ys up rise has too =
      elim (first_or_later y x ys has) [
        | inl e ↦ sym e
        | inr i ↦
            elim (first_or_later x y xs too) [
              | inl e ↦ e
              | inr j ↦ absurd (itself (key x) (nat_list_cmp_total.trans (key x) (key y) (key x) (lower x xs y up j) (lower y ys x rise i)))
            ]
      ]

  pub same_rows : (xs ys : List X) → Rise xs → Rise ys → ((z : X) → Contains xs z → Contains ys z) → ((z : X) → Contains ys z → Contains xs z) → xs ≡ ys
  same_rows [] [] up rise f g = refl
  same_rows [] (y ∷ ys) up rise f g = absurd (none_in y (g y (first y ys)))
  same_rows (x ∷ xs) [] up rise f g = absurd (none_in x (f x (first x xs)))
  same_rows (x ∷ xs) (y ∷ ys) up rise f g =
      let same : x ≡ y = same_first x y xs ys up rise (f x (first x xs)) (g y (first y ys)) in
      let into : (z : X) → Contains (x ∷ xs) z → Contains (x ∷ ys) z = λ z h. subst (λ w. Contains (w ∷ ys) z) (sym same) (f z h) in
      let back : (z : X) → Contains (y ∷ ys) z → Contains (y ∷ xs) z = λ z h. subst (λ w. Contains (w ∷ xs) z) same (g z h) in
      let rest : xs ≡ ys =
      same_rows xs ys (sorted_tail name_cmp (key x) (map key xs) up) (sorted_tail name_cmp (key y) (map key ys) rise) (after_first x xs ys up into) (after_first y ys xs rise back)
      in
      cc

module _ (names : List (List ℕ)) (up : IsStrictlySortedBy name_cmp names) where
  not_below : (i j : ℕ) (name : List ℕ) → slice_get names i ≡ Some name → slice_get names j ≡ Some name → i < j → ⊥
  not_below i j name at too h =
      let far = sorted_far name_cmp names i j name up h (slice_get_within names j name too) in
      itself name (subst (λ q. name_cmp q name ≡ Less) (get_or_from_slice_get names i name name at)
      (subst (λ q. name_cmp (get_or names i name) q ≡ Less) (get_or_from_slice_get names j name name too) far))

  -- each name has one index
  pub one_index : (i j : ℕ) (name : List ℕ) → slice_get names i ≡ Some name → slice_get names j ≡ Some name → i ≡ j
  one_index i j name at too =
      elim (before i j) [
        | inl less ↦ absurd (not_below i j name at too less)
        | inr more ↦
            elim (before j i) [
              | inl less ↦ absurd (not_below j i name too at less)
              | inr most ↦ omega (arith, more, most)
            ]
      ]
