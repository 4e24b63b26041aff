-- The classes of a set that is built have few enough numbers.
use Rattle.std.proofs.Common.{◌≡◌, ◌<◌, ◌≤◌, List, ◌∷◌, ◌++◌, length, refl, subst, arith}
use Rattle.std.specs.Prelude.{All, Contains}
use Rattle.std.proofs.lemmas.List.Elements.{All-contains, Contains-append_right}
use Rattle.cls_order.specs.declared.class.Class.{Class}
use Rattle.space_ids.specs.declared.ids.ClassId.{ClassId}
use Rattle.cls_order.specs.declared.entries.Entry.{Entry}
use Rattle.cls_order.specs.Entries.{classes_of}
use Rattle.cls_order.specs.Walks.{ups, AreWithin}
use Rattle.cls_set.proofs.Broken.{class_among}

-- the supertypes of the next of some entries
pub within_next : (done : List Entry) (m : Entry) (rest all : List Entry) → done ++ m ∷ rest ≡ all → AreWithin 4096 (classes_of all) → All (λ s. s.0 < 4096) (ups m.class)
within_next done m rest all is within =
    let first : Contains (m ∷ rest) m = (0, omega arith, refl) in
    let among : Contains all m = subst (λ xs. Contains xs m) is (Contains-append_right done (m ∷ rest) m first) in
    let class = subst (λ (x : Entry). Contains (classes_of all) x.class) among.2 (class_among all among.0 m among.1) in
    All-contains (λ (c : Class). All (λ (s : ClassId). s.0 < 4096) (ups c)) (classes_of all) m.class within class

-- few classes have few numbers
pub within_few : (entries : List Entry) → length entries ≤ 4096 → AreWithin (length entries) (classes_of entries) → AreWithin 4096 (classes_of entries)
within_few entries few within k d h i e l = let low = within k d h i e l in omega (arith, low, few)
