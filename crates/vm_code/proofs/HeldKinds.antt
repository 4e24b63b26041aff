-- What the fields of objects hold, one class after the other.
use Rattle.std.proofs.Common.{◌≡◌, inl, inr, ℕ, zero, suc, ◌<◌, ◌≤◌, ◌++◌, Bool, true, false, Option, Some, None, List, [], ◌∷◌, length, refl, sym, subst, ap, ◌∙◌, arith}
use Rattle.std.specs.Prelude.{◌==◌, if◌then◌else◌, IsSome, slice_get}
use Rattle.std.specs.Option.{option_map_or}
use Rattle.std.proofs.lemmas.Option.{slice_get_past, slice_get_cases}
use Rattle.cf_reader.specs.declared.class_file.Field.{Field}
use Rattle.cls_search.proofs.Heights.{low_ranks}
use Rattle.cls_search.specs.Searches.{IsRanking}
use Rattle.cls_set.proofs.Hierarchy.{some_and}
use Rattle.cls_set.specs.Sets.{IsClassSet}
use Rattle.cls_set.specs.declared.class.Class.{Class}
use Rattle.space_ids.specs.declared.ids.ClassId.{ClassId}
use Rattle.cls_link.specs.Fields.{is_instance}
use Rattle.vm_heap.specs.declared.heap.WordKind.{WordKind}
use Rattle.cf_text.specs.declared.types.ElementType.{ElementType}
use Rattle.cf_text.specs.declared.types.ElementType.TheVariants as elements
use Rattle.vm_heap.specs.declared.heap.WordKind.TheVariants as kind
use Rattle.cls_tables.specs.Kinds as tables
use Rattle.vm_code.specs.Fields.{element_kind, kind_of, own_kinds, kinds_up, kinds_of}

-- the kinds of the tables are those of the definitions
own_same : (fs : List Field) → tables.own_kinds fs ≡ own_kinds fs
unfolding tables.own_kinds own_kinds
own_same [] = refl
own_same (f ∷ fs) = on (is_instance f) (own_same fs)
  where
    element : (e : ElementType) → tables.element_kind e ≡ element_kind e
    element elements.Int = refl
    element elements.Boolean = refl
    element elements.Byte = refl
    element elements.Char = refl
    element elements.Double = refl
    element elements.Float = refl
    element elements.Long = refl
    element elements.Short = refl
    element (elements.Class name) = refl

    one : tables.kind_of f.kind ≡ kind_of f.kind
    one = ap (λ k. if f.kind.dimensions == 0 then k else kind.Reference) (element f.kind.element)

    on : (b : Bool) → tables.own_kinds fs ≡ own_kinds fs
        → (if b then tables.kind_of f.kind ∷ tables.own_kinds fs else tables.own_kinds fs) ≡ (if b then kind_of f.kind ∷ own_kinds fs else own_kinds fs)
    on true e = ap (λ k. k ∷ tables.own_kinds fs) one ∙ ap (λ ks. kind_of f.kind ∷ ks) e
    on false e = e

module _ (classes : List Class) (rank : ClassId → ℕ) (ranking : IsRanking classes rank) where
  lower : (class s : ClassId) (c : Class) → slice_get classes class.0 ≡ Some c → c.superclass ≡ Some s → rank s < rank class
  lower class s c at up = ranking class s (inl (some_and (slice_get classes class.0) (λ c. c.superclass ≡ Some s) c at up))

  -- at most n classes up, whatever n is if it is above the rank of the class
  stable : (n m : ℕ) (class : ClassId) → rank class < n → rank class < m → kinds_up n classes class ≡ kinds_up m classes class
  unfolding kinds_up
  stable zero m class low high = absurd (omega (arith, low))
  stable (suc n) zero class low high = absurd (omega (arith, high))
  stable (suc n) (suc m) class low high = by_class (stable n m) (slice_get classes class.0) refl
    where
      by_superclass : ((s : ClassId) → rank s < n → rank s < m → kinds_up n classes s ≡ kinds_up m classes s) → (c : Class) → slice_get classes class.0 ≡ Some c
          → (o : Option ClassId) → c.superclass ≡ o → option_map_or (kinds_up n classes) o [] ≡ option_map_or (kinds_up m classes) o []
      by_superclass go c at None e = refl
      by_superclass go c at (Some s) e = let less = lower class s c at e in go s (omega (arith, less, low)) (omega (arith, less, high))

      by_class : ((s : ClassId) → rank s < n → rank s < m → kinds_up n classes s ≡ kinds_up m classes s) → (o : Option Class) → slice_get classes class.0 ≡ o
          → option_map_or (λ (c : Class). option_map_or (kinds_up n classes) c.superclass [] ++ own_kinds c.file.fields) o []
          ≡ option_map_or (λ (c : Class). option_map_or (kinds_up m classes) c.superclass [] ++ own_kinds c.file.fields) o []
      by_class go None e = refl
      by_class go (Some c) e = ap (λ ks. ks ++ own_kinds c.file.fields) (by_superclass go c e c.superclass refl)

abbrev pub kinds_in : List Class → ClassId → List WordKind
kinds_in classes class = kinds_up (suc (length classes)) classes class

pub kinds_root : (classes : List Class) (class : ClassId) (c : Class) → slice_get classes class.0 ≡ Some c → c.superclass ≡ None → kinds_in classes class ≡ own_kinds c.file.fields
unfolding kinds_up
kinds_root classes class c at root = rw (at, root) refl

one_up : (classes : List Class) (class s : ClassId) (c : Class) → slice_get classes class.0 ≡ Some c → c.superclass ≡ Some s
    → kinds_in classes class ≡ kinds_up (length classes) classes s ++ own_kinds c.file.fields
unfolding kinds_up
one_up classes class s c at up = rw (at, up) refl

pub kinds_below : (classes : List Class) → IsClassSet classes → (class s : ClassId) (c : Class) → slice_get classes class.0 ≡ Some c → c.superclass ≡ Some s
    → kinds_in classes class ≡ kinds_in classes s ++ own_kinds c.file.fields
kinds_below classes set class s c at up =
    let ranks = low_ranks classes set in
    let less = lower classes ranks.rank ranks.ranking class s c at up in
    let low = ranks.low class in
    one_up classes class s c at up
    ∙ ap (λ ks. ks ++ own_kinds c.file.fields) (stable classes ranks.rank ranks.ranking (length classes) (suc (length classes)) s (omega (arith, less, low)) (omega (arith, less, low)))

pub kinds_here : (classes : List Class) (class : ClassId) (c : Class) → slice_get classes class.0 ≡ Some c → kinds_of classes class ≡ Some (kinds_in classes class)
unfolding kinds_of
kinds_here classes class c at = rw at refl

pub kinds_past : (classes : List Class) (class : ClassId) → length classes ≤ class.0 → kinds_of classes class ≡ None
unfolding kinds_of
kinds_past classes class past = rw (slice_get_past classes class.0 past) refl

no_kinds : (o : Option (List WordKind)) → o ≡ None → IsSome o → ⊥
no_kinds o e h = let n : false ≡ true = subst IsSome e h in cc

-- a class of which it is known what its objects hold is one of the set
pub in_set : (classes : List Class) (class : ClassId) → IsSome (kinds_of classes class) → class.0 < length classes
in_set classes class is =
    elim (slice_get_cases classes class.0).1 [
      | inl r ↦ r.1
      | inr r ↦ absurd (no_kinds (kinds_of classes class) (kinds_past classes class r.0) is)
    ]

-- what the tables have of a class is what its objects hold
kinds_are : (classes : List Class) → IsClassSet classes → {class : ClassId} {ks : List WordKind} → tables.HoldsKinds classes class ks → kinds_in classes class ≡ ks
kinds_are classes set (tables.HoldsKinds.of_root class c at root) = kinds_root classes class c at root ∙ sym (own_same c.file.fields)
kinds_are classes set (tables.HoldsKinds.of_subclass class s c inherited at up has) =
    kinds_below classes set class s c at up
    ∙ (ap (λ ks. ks ++ own_kinds c.file.fields) (kinds_are classes set has) ∙ ap (λ ks. inherited ++ ks) (sym (own_same c.file.fields)))

pub kinds_held : (classes : List Class) → IsClassSet classes → (class : ClassId) (ks : List WordKind) → class.0 < length classes → tables.HoldsKinds classes class ks → kinds_of classes class ≡ Some ks
kinds_held classes set class ks inside has =
    elim (slice_get_cases classes class.0).1 [
      | inl r ↦ kinds_here classes class r.0 r.2 ∙ ap (λ ks. Some ks) (kinds_are classes set has)
      | inr r ↦ absurd (let over = r.0 in omega (arith, over, inside))
    ]
