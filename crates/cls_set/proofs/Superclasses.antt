-- A superclass is a supertype that is no interface.
use Rattle.std.proofs.Common.{◌≡◌, true, false, nat_eq, ℕ, zero, suc, ◌<◌, ◌⊎◌, inl, inr, Option, Some, None, List, [], length, get_or, refl, sym, subst, ap, ◌∙◌, arith}
use Rattle.std.specs.Prelude.{Contains, bit_and, slice_get, option_map, codes, IsSomeAnd}
use Rattle.std.specs.Ordering.{ordering_reverse}
use Rattle.std.specs.declared.cmp.Ordering.TheVariants.{Less, Greater}
use Rattle.std.proofs.lemmas.Bool.Decides.{nat_tests}
use Rattle.std.proofs.lemmas.Cmp.{nat_list_cmp_total}
use Rattle.std.proofs.lemmas.List.Elements.{All-get_or}
use Rattle.std.proofs.lemmas.Option.{slice_get-map, slice_get-get_or, slice_get_cases, slice_get_within}
use Rattle.cf_reader.specs.declared.flags.TheConstants.Flags.{INTERFACE}
use Rattle.space_ids.specs.declared.ids.ClassId.{ClassId}
use Rattle.cls_order.specs.declared.class.Class.{Class}
use Rattle.cls_order.specs.Classes.{name_cmp, names, name_at, IsInterface}
use Rattle.cls_order.specs.Sets.{IsClassSet, IsResolved}
use Rattle.cls_order.specs.Subtypes as types
use Rattle.cls_order.specs.Subtypes.{Extends, Declares, IsDirectSupertype, IsProperSubtype, IsSubclass}
use Rattle.cls_order.specs.Subtypes.IsSubclass.{itself, superclass, through}
use Rattle.cls_order.proofs.Hierarchy.{some_and, some_of, at_some, same_some, subclass_first}
use Rattle.cls_order.proofs.Names.{sorted_far}
use Rattle.cls_order.proofs.Supertypes.{direct_in_set}
use Rattle.cls_order.proofs.Walks.{before}

not_below : (x : List ℕ) → name_cmp x x ≡ Less → ⊥
not_below x e = less_greater (sym e ∙ (nat_list_cmp_total.antisymm x x ∙ ap ordering_reverse e))
  where
    less_greater : Less ≡ Greater → ⊥
    less_greater e = cc

name_here : (ns : List (List ℕ)) (i : ℕ) (name : List ℕ) → slice_get ns i ≡ Some name → get_or ns i [] ≡ name
name_here ns i name e = same_some (sym (slice_get-get_or ns i [] (slice_get_within ns i name e)) ∙ e)

module _ (classes : List Class) (set : IsClassSet classes) (object : ClassId) (named : name_at classes object ≡ Some (codes "java/lang/Object")) where
  -- a name stands once
  later : (i j : ℕ) (name : List ℕ) → slice_get (names classes) i ≡ Some name → slice_get (names classes) j ≡ Some name → i < j → ⊥
  later i j name e f low =
      let far = sorted_far name_cmp (names classes) i j [] set.ordered low (slice_get_within (names classes) j name f) in
      not_below name (subst (λ b. name_cmp name b ≡ Less) (name_here (names classes) j name f) (subst (λ a. name_cmp a (get_or (names classes) j []) ≡ Less) (name_here (names classes) i name e) far))

  same_index : (i j : ℕ) (name : List ℕ) → slice_get (names classes) i ≡ Some name → slice_get (names classes) j ≡ Some name → i ≡ j
  same_index i j name e f =
      elim (before i j) [
        | inl low ↦ absurd (later i j name e f low)
        | inr high ↦ elim (before j i) [ inl low ↦ absurd (later j i name f e low) | inr high2 ↦ omega (arith, high, high2) ]
      ]

  is_object : (class : ClassId) → name_at classes class ≡ Some (codes "java/lang/Object") → object ≡ class
  is_object class e = ap (λ (n : ℕ). record { 0 = n }) (same_index object.0 class.0 (codes "java/lang/Object") named e)

  named_as : (c : ClassId) (k : Class) (name : List ℕ) → slice_get classes c.0 ≡ Some k → k.file.name ≡ name → name_at classes c ≡ Some name
  named_as c k name is e = slice_get-map (λ (c : Class). c.file.name) classes c.0 ∙ (ap (option_map (λ (c : Class). c.file.name)) is ∙ ap (λ n. Some n) e)

  class_here : (c : ClassId) → c.0 < length classes → (k : Class) × (slice_get classes c.0 ≡ Some k)
  class_here c inside = elim (slice_get_cases classes c.0).1 [ inl r ↦ (r.0, r.2) | inr r ↦ absurd (omega (arith, r.0)) ]

  rooted_here : (c : ClassId) (k : Class) → slice_get classes c.0 ≡ Some k → k.superclass ≡ None → k.file.name ≡ codes "java/lang/Object"
  rooted_here c k is =
      let within : c.0 < length classes = slice_get_within classes c.0 k is in
      let same : get_or classes c.0 k ≡ k = same_some (sym (slice_get-get_or classes c.0 k within) ∙ is) in
      subst (λ (d : Class). d.superclass ≡ None → d.file.name ≡ codes "java/lang/Object") same (All-get_or (λ (d : Class). d.superclass ≡ None → d.file.name ≡ codes "java/lang/Object") classes c.0 k within set.rooted)

  -- a class without a superclass is java/lang/Object, and one with a superclass is below it if that is
  by_superclass : (c : ClassId) (k : Class) → slice_get classes c.0 ≡ Some k
      → ((s : ClassId) → Extends classes c s → IsSubclass classes s object) → (o : Option ClassId) → k.superclass ≡ o → IsSubclass classes c object
  by_superclass c k is go None e =
      subst (λ (d : ClassId). IsSubclass classes c d) (sym (is_object c (named_as c k (codes "java/lang/Object") is (rooted_here c k is e)))) (itself c)
  by_superclass c k is go (Some s) e =
      let up : Extends classes c s = some_and (slice_get classes c.0) (λ c. c.superclass ≡ Some s) k is e in
      through c s object (superclass c s up) (go s up)

  -- each class is java/lang/Object or a subclass of it
  all_below : (n : ℕ) (c : ClassId) → set.rank c < n → c.0 < length classes → IsSubclass classes c object
  all_below zero c low inside = absurd (omega arith)
  all_below (suc n) c low inside =
      let k = class_here c inside in
      by_superclass c k.0 k.1 (λ s up. all_below n s (omega (arith, low, set.ranked c s (inl up))) (direct_in_set classes set c s (inl up))) k.0.superclass refl

  pub object_above : (c : ClassId) → c.0 < length classes → IsSubclass classes c object
  object_above c inside = all_below (suc (set.rank c)) c (omega arith) inside

interface_or_none : (c : Class) → IsInterface c ⊎ (¬ IsInterface c)
interface_or_none c = elim (nat_eq (bit_and c.file.flags.bits INTERFACE) 0) as (λ b. nat_eq (bit_and c.file.flags.bits INTERFACE) 0 ≡ b → IsInterface c ⊎ (¬ IsInterface c)) [
  | true ↦ λ e. inr (λ not. not (grind (arith, nat_tests)))
  | false ↦ λ e. inl (λ zero. grind (arith, nat_tests))
] refl

module _ (classes : List Class) (set : IsClassSet classes) where
  abbrev IsNoInterface : ClassId → Type 0
  IsNoInterface c = IsSomeAnd (slice_get classes c.0) (λ k. ¬ IsInterface k)

  -- the class with a number, which stands in the set
  standing : (c : ClassId) (P : Class → Type 0) → IsSomeAnd (slice_get classes c.0) P → (k : Class) × (slice_get classes c.0 ≡ Some k) × P k
  standing c P h = some_of (slice_get classes c.0) P h

  -- the superclass of an interface is java/lang/Object
  object_of : (b m : ClassId) → IsSomeAnd (slice_get classes b.0) IsInterface → Extends classes b m → name_at classes m ≡ Some (codes "java/lang/Object")
  object_of b m interface up =
      let found = standing b IsInterface interface in
      let k = found.0 in
      let within : b.0 < length classes = slice_get_within classes b.0 k found.1 in
      let same : get_or classes b.0 k ≡ k = same_some (sym (slice_get-get_or classes b.0 k within) ∙ found.1) in
      let file : k.file.superclass ≡ Some (codes "java/lang/Object") =
      subst (λ (d : Class). IsInterface d → d.file.superclass ≡ Some (codes "java/lang/Object")) same (All-get_or (λ (d : Class). IsInterface d → d.file.superclass ≡ Some (codes "java/lang/Object")) classes b.0 k within set.below_object) found.2 in
      let resolved = subst (IsResolved (names classes)) same (All-get_or (IsResolved (names classes)) classes b.0 k within set.resolved) in
      let extends : k.superclass ≡ Some m = at_some (slice_get classes b.0) (λ c. c.superclass ≡ Some m) k found.1 up in
      same_some (ap (option_map (λ (id : ClassId). slice_get (names classes) id.0)) (sym extends) ∙ (resolved.superclass ∙ ap (option_map (λ (name : List ℕ). Some name)) file))

  -- a class above an interface is above each class
  above_all : (a b c : ClassId) → a.0 < length classes → IsSomeAnd (slice_get classes b.0) IsInterface → IsNoInterface c → IsSubclass classes b c → IsSubclass classes a c
  above_all a b c inside interface none h =
      elim (subclass_first classes h) [
        | inl same ↦
            let i = standing b IsInterface interface in
            let n = standing c (λ k. ¬ IsInterface k) none in
            let one : i.0 ≡ n.0 = same_some (sym i.1 ∙ (ap (λ (d : ClassId). slice_get classes d.0) same ∙ n.1)) in
            absurd (n.2 (subst IsInterface one i.2))
        | inr step ↦ through a step.0 c (object_above classes set step.0 (object_of b step.0 interface step.1) a inside) step.2
      ]

  -- what stands in the set is an interface or none
  either : (c : ClassId) → c.0 < length classes → IsSomeAnd (slice_get classes c.0) IsInterface ⊎ IsNoInterface c
  either c inside =
      elim (slice_get_cases classes c.0).1 [
        | inl r ↦
            elim (interface_or_none r.0) [
              | inl i ↦ inl (some_and (slice_get classes c.0) IsInterface r.0 r.2 i)
              | inr n ↦ inr (some_and (slice_get classes c.0) (λ k. ¬ IsInterface k) r.0 r.2 n)
            ]
        | inr r ↦ absurd (omega (arith, inside, r.0))
      ]

  within_below : (a b : ClassId) → IsProperSubtype classes a b → (a.0 < length classes) × (b.0 < length classes)
  within_below a b (types.IsProperSubtype.direct x y d) = (starts x y d, direct_in_set classes set x y d)
    where
      starts : (x y : ClassId) → IsDirectSupertype classes x y → x.0 < length classes
      starts x y (inl e) = let c = some_of (slice_get classes x.0) (λ c. c.superclass ≡ Some y) e in slice_get_within classes x.0 c.0 c.1
      starts x y (inr d) = let c = some_of (slice_get classes x.0) (λ c. Contains c.interfaces y) d in slice_get_within classes x.0 c.0 c.1
  within_below a b (types.IsProperSubtype.through x m y p q) = ((within_below x m p).0, (within_below m y q).1)

  -- a supertype that is no interface is a superclass
  pub subclass_of_proper : (a b : ClassId) → IsNoInterface b → IsProperSubtype classes a b → IsSubclass classes a b
  subclass_of_proper a b none (types.IsProperSubtype.direct x y (inl e)) = superclass x y e
  subclass_of_proper a b none (types.IsProperSubtype.direct x y (inr d)) =
      let i = standing y IsInterface (set.implemented x y d) in
      let n = standing y (λ k. ¬ IsInterface k) none in
      absurd (n.2 (subst IsInterface (same_some (sym i.1 ∙ n.1)) i.2))
  subclass_of_proper a b none (types.IsProperSubtype.through x m y p q) =
      let upper = subclass_of_proper m y none q in
      elim (either m (within_below x m p).1) [
        | inl interface ↦ above_all x m y (within_below x m p).0 interface none upper
        | inr class ↦ through x m y (subclass_of_proper x m class p) upper
      ]

  -- a superclass is a supertype that is no interface, or the class itself
  pub proper_of_subclass : (a b : ClassId) → IsSubclass classes a b → (a ≡ b) ⊎ (IsProperSubtype classes a b × IsNoInterface b)
  proper_of_subclass a b (itself c) = inl refl
  proper_of_subclass a b (superclass x y e) = inr (types.IsProperSubtype.direct x y (inl e), set.extended x y e)
  proper_of_subclass a b (through x m y p q) =
      elim (proper_of_subclass x m p) [
        | inl same ↦ subst (λ z. (z ≡ y) ⊎ (IsProperSubtype classes z y × IsNoInterface y)) (sym same) (proper_of_subclass m y q)
        | inr up ↦
            elim (proper_of_subclass m y q) [
              | inl same ↦ inr (subst (λ z. IsProperSubtype classes x z × IsNoInterface z) same up)
              | inr more ↦ inr (types.IsProperSubtype.through x m y up.0 more.0, more.1)
            ]
      ]
