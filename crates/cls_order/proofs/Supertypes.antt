-- Direct supertypes: they stand in the set, and chains of them end.
use Rattle.std.proofs.Common.{◌≡◌, ◌<◌, inl, inr, Some, List, [], length, get_or, subst, arith}
use Rattle.std.specs.Prelude.{All, Contains, slice_get}
use Rattle.std.proofs.lemmas.List.{length-map}
use Rattle.std.proofs.lemmas.Option.{slice_get_cases, slice_get-get_or, slice_get_within}
use Rattle.std.proofs.lemmas.List.Elements.{All-get_or, Contains-get_or}
use Rattle.cls_order.specs.declared.class.Class.{Class}
use Rattle.space_ids.specs.declared.ids.ClassId.{ClassId}
use Rattle.cls_order.specs.declared.entries.Entry.{Entry}
use Rattle.cls_order.specs.Classes.{names, direct_supertypes}
use Rattle.cls_order.specs.Entries.{classes_of, IsRanked}
use Rattle.cls_order.specs.Sets.{IsClassSet, IsResolved, super_names}
use Rattle.cls_order.specs.Subtypes.{IsDirectSupertype, IsProperSubtype}
use Rattle.cls_order.specs.Walks.{ups, ups_of, AreWithin}
use Rattle.cls_order.proofs.Cycles.{ids_named, ranked_above, to_name, turned}
use Rattle.cls_order.proofs.Heights.{long_classes}
use Rattle.cls_order.proofs.Hierarchy.{rank_of, some_of, superclass_lower, superinterface_lower}
use Rattle.cls_order.proofs.Walks.{of_class, up_among}

-- the ranks that entries keep
pub ranks : (entries : List Entry) → All (IsRanked entries) entries → (sub sup : ClassId) → IsDirectSupertype (classes_of entries) sub sup → rank_of entries sup < rank_of entries sub
ranks entries all sub sup (inl e) =
    let c = some_of (slice_get (classes_of entries) sub.0) (λ c. c.superclass ≡ Some sup) e in
    (superclass_lower entries sub c.0 sup all c.1 c.2).lower
ranks entries all sub sup (inr d) =
    let c = some_of (slice_get (classes_of entries) sub.0) (λ c. Contains c.interfaces sup) d in
    (superinterface_lower entries sub c.0 sup all c.1 c.2).lower

-- no class is its own supertype
pub acyclic : (classes : List Class) → IsClassSet classes → (class : ClassId) → IsProperSubtype classes class class → ⊥
acyclic classes set class p = let low = ranked_above classes set.rank set.ranked class class p in absurd (omega (arith, low))

-- a direct supertype of resolved classes stands among them
pub direct_within : (classes : List Class) → All (IsResolved (names classes)) classes → (sub sup : ClassId) → IsDirectSupertype classes sub sup → sup.0 < length classes
direct_within classes resolved sub sup d =
    elim (slice_get_cases classes sub.0).1 [
      | inl r ↦
          let c = r.0 in
          let among : Contains (direct_supertypes c) sup = turned c sup (subst (λ o. Contains (ups_of o) sup) r.2 (up_among classes sub sup d)) in
          let found = to_name (names classes) (direct_supertypes c) (super_names c.file) (ids_named (names classes) c (subst (IsResolved (names classes)) r.3 (All-get_or (IsResolved (names classes)) classes sub.0 c r.1 resolved))) sup among in
          subst (λ n. sup.0 < n) (length-map classes (λ (c : Class). c.file.name)) (slice_get_within (names classes) sup.0 found.0 found.2)
      | inr r ↦ let none : Contains [] sup = subst (λ o. Contains (ups_of o) sup) r.1 (up_among classes sub sup d) in absurd (omega (arith, none.1))
    ]

-- a direct supertype stands in the set
pub direct_in_set : (classes : List Class) → IsClassSet classes → (sub sup : ClassId) → IsDirectSupertype classes sub sup → sup.0 < length classes
direct_in_set classes set = direct_within classes set.resolved

-- and so for entries
pub are_within : (entries : List Entry) → All (IsResolved (names (classes_of entries))) (classes_of entries) → AreWithin (length entries) (classes_of entries)
are_within entries resolved k d h i e l =
    let classes = classes_of entries in
    let c = get_or classes k d in
    let s = get_or (ups c) i e in
    let up = of_class classes (record { 0 = k }) s c (slice_get-get_or classes k d h) (Contains-get_or (ups c) i e l) in
    subst (λ n. s.0 < n) (long_classes entries) (direct_within classes resolved (record { 0 = k }) s up)
