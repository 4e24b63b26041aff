-- What every class set gives of what is owed.
use Rattle.std.proofs.Common.{◌≡◌, ℕ, zero, suc, ◌<◌, ◌⊎◌, inl, inr, Option, Some, None, List, [], length, get_or, refl, sym, subst, ap, ◌∙◌, arith}
use Rattle.std.specs.Prelude.{slice_get, option_map, codes, IsSomeAnd}
use Rattle.std.specs.Ordering.{ordering_reverse}
use Rattle.std.specs.declared.cmp.Ordering.TheVariants.{Less, Greater}
use Rattle.std.proofs.lemmas.Cmp.{nat_list_cmp_total}
use Rattle.std.proofs.lemmas.List.{length-map}
use Rattle.std.proofs.lemmas.List.Elements.{All-get_or}
use Rattle.std.proofs.lemmas.Option.{slice_get-map, slice_get-get_or, slice_get_cases, slice_get_within}
use Rattle.cls_set.specs.declared.class.Class.{Class}
use Rattle.space_ids.specs.declared.ids.ClassId.{ClassId}
use Rattle.cls_set.specs.Classes.{name_cmp, names, name_at, IsInterface}
use Rattle.cls_set.specs.Sets.{IsClassSet, IsResolved}
use Rattle.cls_set.specs.Subtypes.{Extends, IsSubclass}
use Rattle.cls_set.specs.Subtypes.IsSubclass.{itself, superclass, through}
use Rattle.cls_set.proofs.Hierarchy.{some_and, some_of, at_some, same_some, subclass_first}
use Rattle.cls_set.proofs.Names.{sorted_far}
use Rattle.cls_set.proofs.Supertypes.{direct_in_set}
use Rattle.cls_set.proofs.Walks.{before}
use Rattle.ver_frames.specs.Assignable.{IsObjectAssignable}
use Rattle.vm_typing.specs.World.{World}
use Rattle.vm_typing.specs.Owed.{SetsGive}

not_below : (x : List ℕ) → name_cmp x x ≡ Less → ⊥
not_below x e = less_greater (sym e ∙ (nat_list_cmp_total.antisymm x x ∙ ap ordering_reverse e))
  where
    less_greater : Less ≡ Greater → ⊥
    less_greater e = cc

name_here : (ns : List (List ℕ)) (i : ℕ) (name : List ℕ) → slice_get ns i ≡ Some name → get_or ns i [] ≡ name
name_here ns i name e = same_some (sym (slice_get-get_or ns i [] (slice_get_within ns i name e)) ∙ e)

module _ (classes : List Class) (set : IsClassSet classes) (object : ClassId) (named : name_at classes object ≡ Some (codes "java/lang/Object")) where
  -- a name stands once
  later : (i j : ℕ) (name : List ℕ) → slice_get (names classes) i ≡ Some name → slice_get (names classes) j ≡ Some name → i < j → ⊥
  later i j name e f low =
      let far = sorted_far name_cmp (names classes) i j [] set.ordered low (slice_get_within (names classes) j name f) in
      not_below name (subst (λ b. name_cmp name b ≡ Less) (name_here (names classes) j name f) (subst (λ a. name_cmp a (get_or (names classes) j []) ≡ Less) (name_here (names classes) i name e) far))

  same_index : (i j : ℕ) (name : List ℕ) → slice_get (names classes) i ≡ Some name → slice_get (names classes) j ≡ Some name → i ≡ j
  same_index i j name e f =
      elim (before i j) [
        | inl low ↦ absurd (later i j name e f low)
        | inr high ↦ elim (before j i) [ inl low ↦ absurd (later j i name f e low) | inr high2 ↦ omega (arith, high, high2) ]
      ]

  is_object : (class : ClassId) → name_at classes class ≡ Some (codes "java/lang/Object") → object ≡ class
  is_object class e = ap (λ (n : ℕ). record { 0 = n }) (same_index object.0 class.0 (codes "java/lang/Object") named e)

  known : object.0 < length classes
  known = subst (λ n. object.0 < n) (length-map classes (λ (c : Class). c.file.name)) (slice_get_within (names classes) object.0 (codes "java/lang/Object") named)

  named_as : (c : ClassId) (k : Class) (name : List ℕ) → slice_get classes c.0 ≡ Some k → k.file.name ≡ name → name_at classes c ≡ Some name
  named_as c k name is e = slice_get-map (λ (c : Class). c.file.name) classes c.0 ∙ (ap (option_map (λ (c : Class). c.file.name)) is ∙ ap (λ n. Some n) e)

  class_here : (c : ClassId) → c.0 < length classes → (k : Class) × (slice_get classes c.0 ≡ Some k)
  class_here c inside = elim (slice_get_cases classes c.0).1 [ inl r ↦ (r.0, r.2) | inr r ↦ absurd (omega (arith, r.0)) ]

  rooted_here : (c : ClassId) (k : Class) → slice_get classes c.0 ≡ Some k → k.superclass ≡ None → k.file.name ≡ codes "java/lang/Object"
  rooted_here c k is =
      let within : c.0 < length classes = slice_get_within classes c.0 k is in
      let same : get_or classes c.0 k ≡ k = same_some (sym (slice_get-get_or classes c.0 k within) ∙ is) in
      subst (λ (d : Class). d.superclass ≡ None → d.file.name ≡ codes "java/lang/Object") same (All-get_or (λ (d : Class). d.superclass ≡ None → d.file.name ≡ codes "java/lang/Object") classes c.0 k within set.rooted)

  -- a class without a superclass is java/lang/Object, and one with a superclass is below it if that is
  by_superclass : (c : ClassId) (k : Class) → slice_get classes c.0 ≡ Some k
      → ((s : ClassId) → Extends classes c s → IsSubclass classes s object) → (o : Option ClassId) → k.superclass ≡ o → IsSubclass classes c object
  by_superclass c k is go None e =
      subst (λ (d : ClassId). IsSubclass classes c d) (sym (is_object c (named_as c k (codes "java/lang/Object") is (rooted_here c k is e)))) (itself c)
  by_superclass c k is go (Some s) e =
      let up : Extends classes c s = some_and (slice_get classes c.0) (λ c. c.superclass ≡ Some s) k is e in
      through c s object (superclass c s up) (go s up)

  -- each class is java/lang/Object or a subclass of it
  all_below : (n : ℕ) (c : ClassId) → set.rank c < n → c.0 < length classes → IsSubclass classes c object
  all_below zero c low inside = absurd (omega arith)
  all_below (suc n) c low inside =
      let k = class_here c inside in
      by_superclass c k.0 k.1 (λ s up. all_below n s (omega (arith, low, set.ranked c s (inl up))) (direct_in_set classes set c s (inl up))) k.0.superclass refl

  object_above : (c : ClassId) → c.0 < length classes → IsSubclass classes c object
  object_above c inside = all_below (suc (set.rank c)) c (omega arith) inside

  -- the superclass of an interface is java/lang/Object
  pub above_interface : (b m : ClassId) (k : Class) → slice_get classes b.0 ≡ Some k → IsInterface k → Extends classes b m → object ≡ m
  above_interface b m k is interface up =
      let within : b.0 < length classes = slice_get_within classes b.0 k is in
      let same : get_or classes b.0 k ≡ k = same_some (sym (slice_get-get_or classes b.0 k within) ∙ is) in
      let file : k.file.superclass ≡ Some (codes "java/lang/Object") =
      subst (λ (d : Class). IsInterface d → d.file.superclass ≡ Some (codes "java/lang/Object")) same (All-get_or (λ (d : Class). IsInterface d → d.file.superclass ≡ Some (codes "java/lang/Object")) classes b.0 k within set.below_object) interface in
      let resolved = subst (IsResolved (names classes)) same (All-get_or (IsResolved (names classes)) classes b.0 k within set.resolved) in
      let extends : k.superclass ≡ Some m = at_some (slice_get classes b.0) (λ c. c.superclass ≡ Some m) k is up in
      let both : Some (slice_get (names classes) m.0) ≡ Some (Some (codes "java/lang/Object")) =
      ap (option_map (λ (id : ClassId). slice_get (names classes) id.0)) (sym extends) ∙ (resolved.superclass ∙ ap (option_map (λ (name : List ℕ). Some name)) file) in
      is_object m (same_some both)

  further : (a b c : ClassId) → a.0 < length classes → IsObjectAssignable classes a b → IsObjectAssignable classes b c → IsObjectAssignable classes a c
  further a b c inside p (inl interface) = inl interface
  further a b c inside (inr p) (inr q) = inr (through a b c p q)
  further a b c inside (inl interface) (inr q) = on (subclass_first classes q)
    where
      found : (k : Class) × (slice_get classes b.0 ≡ Some k) × IsInterface k
      found = some_of (slice_get classes b.0) IsInterface interface

      on : (b ≡ c) ⊎ ((m : ClassId) × Extends classes b m × IsSubclass classes m c) → IsObjectAssignable classes a c
      on (inl same) = inl (subst (λ (d : ClassId). IsSomeAnd (slice_get classes d.0) IsInterface) same interface)
      on (inr step) =
          let same : object ≡ step.0 = above_interface b step.0 found.0 found.1 found.2 step.1 in
          inr (through a object c (object_above a inside) (subst (λ (d : ClassId). IsSubclass classes d c) (sym same) step.2))

pub sets_give : (w : World) → IsClassSet w.classes → name_at w.classes w.object ≡ Some (codes "java/lang/Object") → SetsGive w
sets_give w set named = record {
  object = known w.classes set w.object named;
  object_named = is_object w.classes set w.object named;
  further = further w.classes set w.object named;
}
