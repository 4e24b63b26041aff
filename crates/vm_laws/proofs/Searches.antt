-- What a search through classes finds is what a class has of its own, and that class is above the one with which the search began.
use Rattle.std.proofs.Common.{◌≡◌, inl, inr, ℕ, Bool, true, false, List, [], ◌∷◌, refl, subst, Option, Some, None}
use Rattle.std.specs.Prelude.{All, Contains, IfSome, IsTrue, if◌then◌else◌, slice_get}
use Rattle.std.proofs.lemmas.List.Elements.{All-append, All-cons, All-contains_itself, All-head, All-nil, All-tail, All-weaker}
use Rattle.cls_search.proofs.Found.{found_own}
use Rattle.cls_search.specs.MethodSearches as methods
use Rattle.cls_search.specs.MethodSearches.{Resolves, is_initializer, is_interface, own_of_interface}
use Rattle.cls_search.specs.Searches as searches
use Rattle.cls_search.specs.Searches.{Finds, supertypes_of}
use Rattle.cls_set.proofs.Hierarchy.{none_some}
use Rattle.cls_set.specs.Subtypes.IsSubclass.{itself, superclass}
use Rattle.cls_set.specs.declared.class.Class.{Class}
use Rattle.space_ids.specs.declared.ids.ClassId.{ClassId}
use Rattle.ver_frames.specs.Assignable.{IsObjectAssignable}
use Rattle.vm_typing.specs.Owed.{Owed}
use Rattle.vm_typing.specs.World.{World, IsKnown}
use Rattle.vm_laws.specs.Files.{AreAsRead}
use Rattle.vm_laws.proofs.Sets.{direct_in}

-- a class that a search comes to has what holds of the first ones, if it holds of what stands above a class of which it holds
pub found_where : {A : Type 0} (above : ClassId → List ClassId) (own : ClassId → Option A) (P : ClassId → Type 0) → ((c s : ClassId) → P c → Contains (above c) s → P s)
    → {xs : List ClassId} {r : Option A} → Finds above own xs r → All P xs → IfSome r (λ x. (c : ClassId) × (P c × (own c ≡ Some x)))
found_where above own P up searches.Finds.nothing all = tt
found_where above own P up (searches.Finds.here c rest x is) all = (c, (All-head P c rest all, is))
found_where above own P up (searches.Finds.further c rest r is f) all =
    let higher = All-weaker (Contains (above c)) P (λ s among. up c s (All-head P c rest all) among) (above c) (All-contains_itself (above c)) in
    found_where above own P up f (All-append P (above c) rest higher (All-tail P c rest all))

module _ (w : World) (owed : Owed w) (read : AreAsRead w.classes) (class : ClassId) (known : IsKnown w class) where
  -- it may stand for what stands above a class that it may stand for
  rises : (c s : ClassId) → IsObjectAssignable w.classes class c → Contains (supertypes_of w.classes c) s → IsObjectAssignable w.classes class s
  rises c s below among =
      elim (direct_in (slice_get w.classes c.0) s among) [
        | inl extends ↦ owed.further class c s known below (inr (superclass c s extends))
        | inr declares ↦ owed.further class c s known below (inl (read.superinterfaces c s declares))
      ]

  pub found_above : {A : Type 0} (own : ClassId → Option A) (x : A) → Finds (supertypes_of w.classes) own (class ∷ []) (Some x)
      → (c : ClassId) × (IsObjectAssignable w.classes class c × (own c ≡ Some x))
  found_above own x finds =
      found_where (supertypes_of w.classes) own (λ c. IsObjectAssignable w.classes class c) rises finds
      (All-cons (λ c. IsObjectAssignable w.classes class c) class [] (inr (itself class)) (All-nil (λ c. IsObjectAssignable w.classes class c)))

-- ---- methods

module _ {A : Type 0} (classes : List Class) (class : ClassId) (name : List ℕ) (own : ClassId → Option A) where
  abbrev IsOwn : A → Type 0
  IsOwn x = (c : ClassId) × (own c ≡ Some x)

  own_one : (c : ClassId) (x : A) → own_of_interface classes own c ≡ Some x → IsOwn x
  own_one c x e = on (is_interface classes c) e
    where
      on : (b : Bool) → (if b then own c else None) ≡ Some x → IsOwn x
      on true e = (c, e)
      on false e = absurd (none_some e)

  there : (r : Option A) (x : A) → IfSome r IsOwn → r ≡ Some x → IsOwn x
  there r x found e = subst (λ (o : Option A). IfSome o IsOwn) e found

  -- the method that is meant is what a class has of its own
  pub resolved_own : {r : Option A} → Resolves classes class name own r → (x : A) → r ≡ Some x → IsOwn x
  resolved_own (methods.Resolves.of_class_alone init) x e = (class, e)
  resolved_own (methods.Resolves.in_superclasses m other of_class finds) x e = there (Some m) x (found_own _ own IsOwn (λ c x is. (c, is)) finds) e
  resolved_own (methods.Resolves.in_superinterfaces r other of_class none finds) x e = there r x (found_own _ (own_of_interface classes own) IsOwn own_one finds) e
  resolved_own (methods.Resolves.in_interfaces r other of_interface finds) x e = there r x (found_own _ (own_of_interface classes own) IsOwn own_one finds) e

  -- an `<init>` that is meant is the class's own
  pub init_own : {r : Option A} → Resolves classes class name own r → IsTrue (is_initializer name) → r ≡ own class
  init_own (methods.Resolves.of_class_alone init) is = refl
  init_own (methods.Resolves.in_superclasses m other of_class finds) is = absurd (other is)
  init_own (methods.Resolves.in_superinterfaces r other of_class none finds) is = absurd (other is)
  init_own (methods.Resolves.in_interfaces r other of_interface finds) is = absurd (other is)
