-- What the entries say of their origins.
use Rattle.std.proofs.Common.{◌≡◌, ℕ, suc, ◌<◌, Some, List, [], ◌∷◌, length, get_or, map, refl, sym, subst, ap, ◌∙◌}
use Rattle.std.specs.Prelude.{All, slice_get, option_map}
use Rattle.std.specs.List.Sorted.{IsStrictlySortedBy}
use Rattle.std.proofs.lemmas.List.{length-map}
use Rattle.cls_order.specs.declared.class.Class.{Class}
use Rattle.cls_order.specs.declared.fault.SetFault.{SetFault}
use Rattle.cls_order.specs.declared.fault.SetRule.TheVariants.{Cycle}
use Rattle.cls_order.specs.declared.entries.Entry.{Entry}
use Rattle.cls_order.specs.Building.{ranked_from, kept, origins_of, IsCycleFault, IsFaultOf}
use Rattle.cls_order.specs.Classes.{name_cmp, names}
use Rattle.cls_order.specs.Entries.{classes_of}
use Rattle.cls_order.specs.Sets.{Origin, origin, IsResolved, IsFirstCycle}
use Rattle.cls_order.specs.Walks.{IsFirstOwn}
use Rattle.std.proofs.lemmas.Option.{slice_get-map}
use Rattle.cls_order.proofs.Absent.{cycle_fault}
use Rattle.cls_order.proofs.Cycles.{first_cycle}
use Rattle.cls_order.proofs.Hierarchy.{class_of_read}

abbrev pub origin_of : Entry → Origin
origin_of m = origin m.class

pub origins_ranked : (k : ℕ) (os : List Origin) → map origin_of (ranked_from k os) ≡ os
origins_ranked k [] = refl
origins_ranked k (o ∷ os) = ap (λ xs. o ∷ xs) (origins_ranked (suc k) os)

pub names_from_origins : (entries : List Entry) → names (classes_of entries) ≡ map (λ (o : Origin). o.0.name) (map origin_of entries)
names_from_origins [] = refl
names_from_origins (m ∷ ms) = ap (λ ns. m.class.file.name ∷ ns) (names_from_origins ms)

pub origins_of_classes : (entries : List Entry) → map origin (classes_of entries) ≡ map origin_of entries
origins_of_classes [] = refl
origins_of_classes (m ∷ ms) = ap (λ os. origin m.class ∷ os) (origins_of_classes ms)

pub origins_from_kept : (entries : List Entry) → map origin_of entries ≡ map (λ (k : Origin × ℕ). k.0) (map kept entries)
origins_from_kept [] = refl
origins_from_kept (m ∷ ms) = ap (λ os. origin m.class ∷ os) (origins_from_kept ms)

-- the first class on a cycle, named
pub cycle_named : (old new : List Entry) (k : ℕ) (m : Entry) (e : SetFault) → classes_of new ≡ classes_of old → IsStrictlySortedBy name_cmp (names (classes_of old)) → All (IsResolved (names (classes_of old))) (classes_of old) → IsFirstOwn (classes_of old) k → m ≡ get_or new k m → IsFaultOf Cycle m.class.file.name e → IsCycleFault (origins_of old) e
cycle_named old new k m e same ordered resolved own is fault =
    let name = m.class.file.name in
    let within : k < length new = subst (λ n. k < n) (length-map new (λ m. m.class)) (subst (λ (cs : List Class). k < length cs) (sym same) own.within) in
    let there : slice_get (classes_of new) k ≡ Some m.class = class_of_read new m k k refl within is in
    let called : slice_get (names (classes_of old)) k ≡ Some name = subst (λ cs. slice_get (names cs) k ≡ Some name) same (slice_get-map (λ (c : Class). c.file.name) (classes_of new) k ∙ ap (option_map (λ (c : Class). c.file.name)) there) in
    cycle_fault (origins_of old) name e (subst (λ os. IsFirstCycle os name) (origins_of_classes old) (first_cycle (classes_of old) ordered resolved k name called own)) fault
