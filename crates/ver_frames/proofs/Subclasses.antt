-- Classes whose numbers stand in no class of the set.
use Rattle.std.proofs.Common.{◌≡◌, ◌≤◌, ◌↔◌, ℕ, Bool, List, IsTrue, eqb, length, refl, sym, subst, ◌∙◌, ap}
use Rattle.std.proofs.lemmas.Bool.{eqb-true, eq-eqb}
use Rattle.std.proofs.lemmas.Option.{slice_get_past}
use Rattle.cls_set.specs.Subtypes.{IsSubclass}
use Rattle.cls_set.specs.Subtypes.IsSubclass.{itself, superclass, through}
use Rattle.cls_set.specs.declared.class.Class.{Class}
use Rattle.space_ids.specs.declared.ids.ClassId.{ClassId}

-- a number of no class is a subclass of itself alone
pub itself_outside : (classes : List Class) (sub sup : ClassId) → length classes ≤ sub.0 → IsSubclass classes sub sup → sub ≡ sup
itself_outside classes sub sup past (itself c) = refl
itself_outside classes sub sup past (superclass s t e) = absurd (rw slice_get_past at e)
itself_outside classes sub sup past (through s mid t lower upper) =
    let e = itself_outside classes sub mid past lower in
    e ∙ itself_outside classes mid sup (subst (λ (c : ClassId). length classes ≤ c.0) e past) upper

-- a number of no class: the test of the numbers decides
pub outside_decides : (classes : List Class) (sub sup : ClassId) (same : Bool) → length classes ≤ sub.0 → same ≡ eqb sub.0 sup.0
    → IsTrue same ↔ IsSubclass classes sub sup
outside_decides classes sub sup same past is =
    let equal : IsTrue same → sub ≡ sup = λ yes. ap (λ (n : ℕ). record { 0 = n }) (eqb-true sub.0 sup.0 (sym is ∙ yes)) in
    (λ yes. subst (λ (c : ClassId). IsSubclass classes sub c) (equal yes) (itself sub), λ below. is ∙ eq-eqb sub.0 sup.0 (ap (λ (c : ClassId). c.0) (itself_outside classes sub sup past below)))
