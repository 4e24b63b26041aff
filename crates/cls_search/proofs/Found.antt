-- Searches through classes, put together of those of the classes above.
use Rattle.std.proofs.Common.{◌≡◌, ℕ, ◌+◌, ◌<◌, ◌≤◌, Option, Some, None, List, [], ◌∷◌, ◌++◌, length, get_or, take, drop, refl, sym, subst, ap, ◌∙◌, append-nil, append_assoc}
use Rattle.std.specs.Prelude.{IfSome, option_to_list, slice_get}
use Rattle.std.specs.Option.{option_map_or}
use Rattle.std.proofs.lemmas.List.{drop_more, take_more, take_all, take-append-drop}
use Rattle.cls_set.specs.declared.class.Class.{Class}
use Rattle.space_ids.specs.declared.ids.ClassId.{ClassId}
use Rattle.cls_search.specs.Searches as searches
use Rattle.cls_search.specs.Searches.{Finds, superclass_of, supertypes_of}

none_some : {X : Type 0} {x : X} → None ≡ Some x → ⊥
none_some e = cc

module _ {A : Type 0} (above : ClassId → List ClassId) (own : ClassId → Option A) where
  -- if nothing is found among the first classes, the search goes on after them
  none_before : {xs : List ClassId} {r : Option A} → Finds above own xs r → r ≡ None → (ys : List ClassId) (answer : Option A) → Finds above own ys answer → Finds above own (xs ++ ys) answer
  none_before searches.Finds.nothing e ys a f = f
  none_before (searches.Finds.here c rest x is) e ys a f = absurd (none_some (sym e))
  none_before (searches.Finds.further c rest r is h) e ys a f =
      searches.Finds.further c (rest ++ ys) a is (subst (λ zs. Finds above own zs a) (append_assoc (above c) rest ys) (none_before h e ys a f))

  -- what is found among the first classes is found
  found_first : {xs : List ClassId} {r : Option A} → Finds above own xs r → (x : A) → r ≡ Some x → (ys : List ClassId) → Finds above own (xs ++ ys) (Some x)
  found_first searches.Finds.nothing x e ys = absurd (none_some e)
  found_first (searches.Finds.here c rest y is) x e ys = searches.Finds.here c (rest ++ ys) x (is ∙ e)
  found_first (searches.Finds.further c rest r is h) x e ys =
      searches.Finds.further c (rest ++ ys) (Some x) is (subst (λ zs. Finds above own zs (Some x)) (append_assoc (above c) rest ys) (found_first h x e ys))

  -- what is found is a class's own
  pub found_own : (P : A → Type 0) → ((c : ClassId) (x : A) → own c ≡ Some x → P x) → {xs : List ClassId} {r : Option A} → Finds above own xs r → IfSome r P
  found_own P h searches.Finds.nothing = tt
  found_own P h (searches.Finds.here c rest x is) = h c x is
  found_own P h (searches.Finds.further c rest r is f) = found_own P h f

  -- a search goes on above a class that has nothing of its own
  goes_on : (c : ClassId) (zs : List ClassId) (answer : Option A) → own c ≡ None → above c ≡ zs → Finds above own zs answer → Finds above own (c ∷ []) answer
  goes_on c zs answer is e f = searches.Finds.further c [] answer is (subst (λ ys. Finds above own ys answer) (sym (append-nil (above c) ∙ e)) f)

-- up the superclasses
module _ {A : Type 0} (classes : List Class) (own : ClassId → Option A) (class : ClassId) (c : Class) (at : slice_get classes class.0 ≡ Some c) where
  abbrev Up : List ClassId → Option A → Type 0
  Up xs r = Finds (superclass_of classes) own xs r

  above_is : (o : Option ClassId) → c.superclass ≡ o → superclass_of classes class ≡ option_to_list o
  above_is o e = ap (λ x. option_map_or (λ (c : Class). option_to_list c.superclass) x []) at ∙ ap option_to_list e

  pub up_superclass : (s : ClassId) (answer : Option A) → own class ≡ None → c.superclass ≡ Some s → Up (s ∷ []) answer → Up (class ∷ []) answer
  up_superclass s answer none is f = goes_on (superclass_of classes) own class (s ∷ []) answer none (above_is (Some s) is) f

  pub up_none : own class ≡ None → c.superclass ≡ None → Up (class ∷ []) None
  up_none none is = goes_on (superclass_of classes) own class [] None none (above_is None is) searches.Finds.nothing

-- through superinterfaces and the superclass
module _ {A : Type 0} (classes : List Class) (own : ClassId → Option A) (class : ClassId) (c : Class) (at : slice_get classes class.0 ≡ Some c) (items : List ClassId) (same : items ≡ c.interfaces) where
  abbrev Through : List ClassId → Option A → Type 0
  Through xs r = Finds (supertypes_of classes) own xs r

  abbrev following : List ClassId
  following = option_to_list c.superclass

  above_all : supertypes_of classes class ≡ items ++ following
  above_all = ap (λ x. option_map_or (λ (c : Class). c.interfaces ++ option_to_list c.superclass) x []) at ∙ ap (λ is. is ++ following) (sym same)

  split : (i : ℕ) (d : ClassId) → i < length items → take i items ++ (get_or items i d ∷ (drop (i + 1) items ++ following)) ≡ items ++ following
  split i d h =
      ap (λ zs. take i items ++ (zs ++ following)) (sym (drop_more items i d h))
      ∙ (sym (append_assoc (take i items) (drop i items) following) ∙ ap (λ zs. zs ++ following) (take-append-drop i items))

  pub through_interface : (i : ℕ) (d : ClassId) (x : A) → i < length items → own class ≡ None → Through (take i items) None → Through (get_or items i d ∷ []) (Some x) → Through (class ∷ []) (Some x)
  through_interface i d x h none before f =
      goes_on (supertypes_of classes) own class (items ++ following) (Some x) none above_all
      (subst (λ zs. Through zs (Some x)) (split i d h)
      (none_before (supertypes_of classes) own before refl (get_or items i d ∷ (drop (i + 1) items ++ following)) (Some x)
      (found_first (supertypes_of classes) own f x refl (drop (i + 1) items ++ following))))

  pub interface_passed : (i : ℕ) (d : ClassId) → i < length items → Through (take i items) None → Through (get_or items i d ∷ []) None → Through (take (i + 1) items) None
  interface_passed i d h before f =
      subst (λ zs. Through zs None) (sym (take_more items i d h)) (none_before (supertypes_of classes) own before refl (get_or items i d ∷ []) None f)

  pub through_superclass : (i : ℕ) (s : ClassId) (answer : Option A) → length items ≤ i → own class ≡ None → c.superclass ≡ Some s → Through (take i items) None → Through (s ∷ []) answer → Through (class ∷ []) answer
  through_superclass i s answer h none is before f =
      goes_on (supertypes_of classes) own class (items ++ following) answer none above_all
      (none_before (supertypes_of classes) own (subst (λ zs. Through zs None) (take_all i items h) before) refl following answer
      (subst (λ o. Through (option_to_list o) answer) (sym is) f))

  pub through_none : (i : ℕ) → length items ≤ i → own class ≡ None → c.superclass ≡ None → Through (take i items) None → Through (class ∷ []) None
  through_none i h none is before =
      goes_on (supertypes_of classes) own class (items ++ following) None none above_all
      (none_before (supertypes_of classes) own (subst (λ zs. Through zs None) (take_all i items h) before) refl following None
      (subst (λ o. Through (option_to_list o) None) (sym is) searches.Finds.nothing))
