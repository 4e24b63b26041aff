-- The types of the fields of objects: those of superclasses keep their slots.
use Rattle.std.proofs.Common.{◌≡◌, inl, inr, ℕ, zero, suc, ◌<◌, ◌++◌, Option, Some, None, List, [], ◌∷◌, length, refl, sym, subst, ap, ◌∙◌, arith, append-nil}
use Rattle.std.specs.Prelude.{codes, option_map, slice_get, IsSomeAnd}
use Rattle.std.specs.Option.{option_map_or}
use Rattle.std.proofs.lemmas.Option.{slice_get-map}
use Rattle.cls_search.proofs.Heights.{low_ranks}
use Rattle.cls_search.specs.Searches.{IsRanking}
use Rattle.cls_set.proofs.Hierarchy.{some_and, some_of, same_some}
use Rattle.cls_set.specs.Classes.{name_at, IsInterface}
use Rattle.cls_set.specs.Sets.{IsClassSet}
use Rattle.cls_set.specs.Subtypes as types
use Rattle.cls_set.specs.Subtypes.{Extends, IsSubclass}
use Rattle.cls_set.specs.declared.class.Class.{Class}
use Rattle.space_ids.specs.declared.ids.ClassId.{ClassId}
use Rattle.ver_frames.specs.Assignable.{IsObjectAssignable}
use Rattle.ver_frames.specs.declared.vtype.VType.{VType}
use Rattle.vm_typing.proofs.Sets.{above_interface}
use Rattle.vm_typing.specs.World.{IsPlain, ArePlain}
use Rattle.vm_laws.specs.Files.{own_types, types_up, types_of, AreAsRead}

get_left : (xs ys : List VType) (i : ℕ) (t : VType) → slice_get xs i ≡ Some t → slice_get (xs ++ ys) i ≡ Some t
get_left [] ys i t e = absurd (cc)
get_left (x ∷ xs) ys zero t e = e
get_left (x ∷ xs) ys (suc i) t e = get_left xs ys i t e

none_at : (i : ℕ) (t : VType) → slice_get {X = VType} [] i ≡ Some t → ⊥
none_at i t e = cc

pub plain_append : (xs ys : List VType) → ArePlain xs → ArePlain ys → ArePlain (xs ++ ys)
plain_append [] ys p q = q
plain_append (x ∷ xs) ys p q = (p.0, plain_append xs ys p.1 q)

plain_get : (xs : List VType) (i : ℕ) (t : VType) → ArePlain xs → slice_get xs i ≡ Some t → IsPlain t
plain_get [] i t all e = absurd (cc)
plain_get (x ∷ xs) zero t all e = subst IsPlain (same_some e) all.0
plain_get (x ∷ xs) (suc i) t all e = plain_get xs i t all.1 e

module _ (classes : List Class) (rank : ClassId → ℕ) (ranking : IsRanking classes rank) where
  lower : (class s : ClassId) (c : Class) → slice_get classes class.0 ≡ Some c → c.superclass ≡ Some s → rank s < rank class
  lower class s c at up = ranking class s (inl (some_and (slice_get classes class.0) (λ c. c.superclass ≡ Some s) c at up))

  -- at most n classes up, whatever n is if it is above the rank of the class
  stable : (n m : ℕ) (class : ClassId) → rank class < n → rank class < m → types_up n classes class ≡ types_up m classes class
  unfolding types_up
  stable zero m class low high = absurd (omega (arith, low))
  stable (suc n) zero class low high = absurd (omega (arith, high))
  stable (suc n) (suc m) class low high = by_class (stable n m) (slice_get classes class.0) refl
    where
      by_superclass : ((s : ClassId) → rank s < n → rank s < m → types_up n classes s ≡ types_up m classes s) → (c : Class) → slice_get classes class.0 ≡ Some c
          → (o : Option ClassId) → c.superclass ≡ o → option_map_or (types_up n classes) o [] ≡ option_map_or (types_up m classes) o []
      by_superclass go c at None e = refl
      by_superclass go c at (Some s) e = let less = lower class s c at e in go s (omega (arith, less, low)) (omega (arith, less, high))

      by_class : ((s : ClassId) → rank s < n → rank s < m → types_up n classes s ≡ types_up m classes s) → (o : Option Class) → slice_get classes class.0 ≡ o
          → option_map_or (λ (c : Class). option_map_or (types_up n classes) c.superclass [] ++ own_types classes c.file.fields) o []
          ≡ option_map_or (λ (c : Class). option_map_or (types_up m classes) c.superclass [] ++ own_types classes c.file.fields) o []
      by_class go None e = refl
      by_class go (Some c) e = ap (λ ts. ts ++ own_types classes c.file.fields) (by_superclass go c e c.superclass refl)

module _ (classes : List Class) where
  types_root : (class : ClassId) (c : Class) → slice_get classes class.0 ≡ Some c → c.superclass ≡ None → types_of classes class ≡ own_types classes c.file.fields
  unfolding types_up
  types_root class c at root = rw (at, root) refl

  one_up : (class s : ClassId) (c : Class) → slice_get classes class.0 ≡ Some c → c.superclass ≡ Some s
      → types_of classes class ≡ types_up (length classes) classes s ++ own_types classes c.file.fields
  unfolding types_up
  one_up class s c at up = rw (at, up) refl

  types_below : IsClassSet classes → (class s : ClassId) (c : Class) → slice_get classes class.0 ≡ Some c → c.superclass ≡ Some s
      → types_of classes class ≡ types_of classes s ++ own_types classes c.file.fields
  types_below set class s c at up =
      let ranks = low_ranks classes set in
      let less = lower classes ranks.rank ranks.ranking class s c at up in
      let low = ranks.low class in
      one_up class s c at up
      ∙ ap (λ ts. ts ++ own_types classes c.file.fields) (stable classes ranks.rank ranks.ranking (length classes) (suc (length classes)) s (omega (arith, less, low)) (omega (arith, less, low)))

  -- a field of a superclass keeps its slot
  kept : IsClassSet classes → {a b : ClassId} → IsSubclass classes a b → (slot : ℕ) (t : VType) → slice_get (types_of classes b) slot ≡ Some t
      → slice_get (types_of classes a) slot ≡ Some t
  kept set (types.IsSubclass.itself c) slot t e = e
  kept set (types.IsSubclass.superclass a b up) slot t e =
      let c = some_of (slice_get classes a.0) (λ (c : Class). c.superclass ≡ Some b) up in
      subst (λ (ts : List VType). slice_get ts slot ≡ Some t) (sym (types_below set a b c.0 c.1 c.2)) (get_left (types_of classes b) (own_types classes c.0.file.fields) slot t e)
  kept set (types.IsSubclass.through a m b p q) slot t e = kept set p slot t (kept set q slot t e)

  class_named : (class : ClassId) (name : List ℕ) → name_at classes class ≡ Some name → (c : Class) × (slice_get classes class.0 ≡ Some c) × (c.file.name ≡ name)
  class_named class name e = on (slice_get classes class.0) refl (sym (slice_get-map (λ (c : Class). c.file.name) classes class.0) ∙ e)
    where
      on : (o : Option Class) → slice_get classes class.0 ≡ o → option_map (λ (c : Class). c.file.name) o ≡ Some name → (c : Class) × (slice_get classes class.0 ≡ Some c) × (c.file.name ≡ name)
      on None at e = absurd (cc)
      on (Some c) at e = (c, at, same_some e)

  module _ (set : IsClassSet classes) (read : AreAsRead classes) (object : ClassId) (named : name_at classes object ≡ Some (codes "java/lang/Object")) where
    pub object_has_none : types_of classes object ≡ []
    object_has_none =
        let c = class_named object (codes "java/lang/Object") named in
        let root = read.object object c.0 c.1 c.2 in
        types_root object c.0 c.1 root.0 ∙ root.1

    -- an interface has no fields of objects
    interface_has_none : (b : ClassId) → IsSomeAnd (slice_get classes b.0) IsInterface → types_of classes b ≡ []
    interface_has_none b interface =
        let c = some_of (slice_get classes b.0) IsInterface interface in
        on c.0 c.1 c.2 c.0.superclass refl
      where
        on : (c : Class) → slice_get classes b.0 ≡ Some c → IsInterface c → (o : Option ClassId) → c.superclass ≡ o → types_of classes b ≡ []
        on c at is None e = types_root b c at e ∙ read.interfaces b c at is
        on c at is (Some s) e =
            let up : Extends classes b s = some_and (slice_get classes b.0) (λ c. c.superclass ≡ Some s) c at e in
            let same : object ≡ s = above_interface classes set object named b s c at is up in
            types_below set b s c at e
            ∙ (ap (λ ts. types_of classes s ++ ts) (read.interfaces b c at is)
            ∙ (append-nil (types_of classes s) ∙ (ap (types_of classes) (sym same) ∙ object_has_none)))

    pub inherits : (a b : ClassId) (slot : ℕ) (t : VType) → IsObjectAssignable classes a b → slice_get (types_of classes b) slot ≡ Some t
        → slice_get (types_of classes a) slot ≡ Some t
    inherits a b slot t (inl interface) e = absurd (none_at slot t (subst (λ (ts : List VType). slice_get ts slot ≡ Some t) (interface_has_none b interface) e))
    inherits a b slot t (inr below) e = kept set below slot t e

  all_plain : AreAsRead classes → (n : ℕ) (class : ClassId) → ArePlain (types_up n classes class)
  unfolding types_up
  all_plain read zero class = tt
  all_plain read (suc n) class = on (all_plain read n) (slice_get classes class.0) refl
    where
      above : ((s : ClassId) → ArePlain (types_up n classes s)) → (o : Option ClassId) → ArePlain (option_map_or (types_up n classes) o [])
      above go None = tt
      above go (Some s) = go s

      on : ((s : ClassId) → ArePlain (types_up n classes s)) → (o : Option Class) → slice_get classes class.0 ≡ o
          → ArePlain (option_map_or (λ (c : Class). option_map_or (types_up n classes) c.superclass [] ++ own_types classes c.file.fields) o [])
      on go None at = tt
      on go (Some c) at = plain_append (option_map_or (types_up n classes) c.superclass []) (own_types classes c.file.fields) (above go c.superclass) (read.fields class c at)

  pub fields_plain : AreAsRead classes → (class : ClassId) (slot : ℕ) (t : VType) → slice_get (types_of classes class) slot ≡ Some t → IsPlain t
  fields_plain read class slot t e = plain_get (types_of classes class) slot t (all_plain read (suc (length classes)) class) e
