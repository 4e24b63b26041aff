-- A method that is meant, by its number.
use Rattle.std.proofs.Common.{[], ◌∷◌, ◌≡◌, true, false, Option, None, List, ℕ, refl, subst, ap, ◌∙◌}
use Rattle.std.specs.Prelude.{cond, option_map}
use Rattle.cls_set.specs.declared.class.Class.{Class}
use Rattle.space_ids.specs.declared.ids.ClassId.{ClassId}
use Rattle.cls_search.specs.Searches as searches
use Rattle.cls_search.specs.Searches.{Finds, superclass_of, supertypes_of}
use Rattle.cls_link.specs.declared.linked_code.MethodId.{MethodId}
use Rattle.cls_link.specs.Selections.{instance_method}
use Rattle.cls_search.specs.MethodSearches as selections
use Rattle.cls_search.specs.MethodSearches.{is_interface, own_of_interface, Resolves}

module _ {A B : Type 0} (g : A → B) where
  -- what is found, in other terms
  mapped : (above : ClassId → List ClassId) (own : ClassId → Option A) (other : ClassId → Option B) → ((c : ClassId) → other c ≡ option_map g (own c)) → {xs : List ClassId} {r : Option A} → Finds above own xs r → Finds above other xs (option_map g r)
  mapped above own other same searches.Finds.nothing = searches.Finds.nothing
  mapped above own other same (searches.Finds.here c rest x is) = searches.Finds.here c rest (g x) (same c ∙ ap (option_map g) is)
  mapped above own other same (searches.Finds.further c rest r is h) = searches.Finds.further c rest (option_map g r) (same c ∙ ap (option_map g) is) (mapped above own other same h)

  same_interfaces : (classes : List Class) (own : ClassId → Option A) (other : ClassId → Option B) → ((c : ClassId) → other c ≡ option_map g (own c)) → (c : ClassId) → own_of_interface classes other c ≡ option_map g (own_of_interface classes own c)
  same_interfaces classes own other same c =
      elim (is_interface classes c) as (λ b. cond b (other c) None ≡ option_map g (cond b (own c) None)) [ true ↦ same c | false ↦ refl ]

  pub resolved : (classes : List Class) (class : ClassId) (name : List ℕ) (own : ClassId → Option A) (other : ClassId → Option B) → ((c : ClassId) → other c ≡ option_map g (own c)) → {r : Option A} → Resolves classes class name own r → Resolves classes class name other (option_map g r)
  resolved classes class name own other same (selections.Resolves.of_class_alone i) = subst (Resolves classes class name other) (same class) (selections.Resolves.of_class_alone i)
  resolved classes class name own other same (selections.Resolves.in_superclasses m i n f) = selections.Resolves.in_superclasses (g m) i n (mapped (superclass_of classes) own other same f)
  resolved classes class name own other same (selections.Resolves.in_superinterfaces r i n f h) =
      selections.Resolves.in_superinterfaces (option_map g r) i n (mapped (superclass_of classes) own other same f)
      (mapped (supertypes_of classes) (own_of_interface classes own) (own_of_interface classes other) (same_interfaces classes own other same) h)
  resolved classes class name own other same (selections.Resolves.in_interfaces r i n h) =
      selections.Resolves.in_interfaces (option_map g r) i n
      (mapped (supertypes_of classes) (own_of_interface classes own) (own_of_interface classes other) (same_interfaces classes own other same) h)

-- a search for a method of the same name and descriptor
pub named : (classes : List Class) (class : ClassId) (r : Option MethodId) {n m t u : List ℕ} → n ≡ m → t ≡ u → Finds (superclass_of classes) (instance_method classes n t) (class ∷ []) r → Finds (superclass_of classes) (instance_method classes m u) (class ∷ []) r
named classes class r {n} {m} {t} {u} e f h =
    subst (λ x. Finds (superclass_of classes) (instance_method classes x u) (class ∷ []) r) e (subst (λ y. Finds (superclass_of classes) (instance_method classes n y) (class ∷ []) r) f h)
