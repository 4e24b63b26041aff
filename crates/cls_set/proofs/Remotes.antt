-- Which classes are java/rmi/Remote or below it, by number and by name.
use Rattle.std.proofs.Common.{◌≡◌, ℕ, ◌⊎◌, inl, inr, Bool, Some, None, List, map, refl, sym, subst, ap, ◌∙◌}
use Rattle.std.specs.Prelude.{◌↔◌, Contains, codes, slice_get}
use Rattle.std.proofs.lemmas.Option.{slice_get_within, slice_get-get_or}
use Rattle.cls_order.specs.declared.class.Class.{Class}
use Rattle.space_ids.specs.declared.ids.ClassId.{ClassId}
use Rattle.cls_order.specs.declared.entries.Entry.{Entry}
use Rattle.cls_order.specs.Building.{origins_of}
use Rattle.cls_order.specs.Classes.{names, number_of}
use Rattle.cls_order.specs.Entries.{classes_of, AreArranged}
use Rattle.cls_order.specs.Marks.{IsMarked, Reaches}
use Rattle.cls_set.specs.Rules.{IsBelowRemote}
use Rattle.cls_order.specs.Sets.{origin, IsSupertypeByName}
use Rattle.cls_order.specs.Subtypes as types
use Rattle.cls_order.specs.Subtypes.{IsProperSubtype, IsSubtype}
use Rattle.cls_order.proofs.Absent.{name_absent}
use Rattle.cls_order.proofs.Origins.{origins_of_classes}
use Rattle.cls_order.proofs.Cycles.{by_name, by_number, class_named, one_index}
use Rattle.cls_order.proofs.Hierarchy.{same_some}
use Rattle.cls_order.proofs.Walks.{same_class}

abbrev remote_name : List ℕ
remote_name = codes "java/rmi/Remote"

pub named_among : (ns : List (List ℕ)) (i : ℕ) (name : List ℕ) → slice_get ns i ≡ Some name → Contains ns name
named_among ns i name e =
    let h = slice_get_within ns i name e in
    (i, h, same_some (sym (slice_get-get_or ns i name h) ∙ e))

module _ (entries : List Entry) (a : AreArranged entries) (k : ℕ) (c : Class) (is : slice_get (classes_of entries) k ≡ Some c) where
  here : slice_get (names (classes_of entries)) k ≡ Some c.file.name
  here = class_named (classes_of entries) a.ordered a.resolved k c is

  pub remote_same : (r : ClassId) → slice_get (names (classes_of entries)) r.0 ≡ Some remote_name → k ≡ r.0 → IsBelowRemote (origins_of entries) c.file.name
  remote_same r named e = inl (same_some (sym here ∙ (ap (slice_get (names (classes_of entries))) e ∙ named)))

  pub remote_in : (r : ClassId) → slice_get (names (classes_of entries)) r.0 ≡ Some remote_name → IsProperSubtype (classes_of entries) (record { 0 = k }) r → IsBelowRemote (origins_of entries) c.file.name
  remote_in r named p =
      let y = by_name (classes_of entries) a.ordered a.resolved (record { 0 = k }) r c.file.name here p in
      let same : y.0 ≡ remote_name = same_some (sym y.1 ∙ named) in
      subst (λ os. IsBelowRemote os c.file.name) (origins_of_classes entries) (inr (subst (λ name. IsSupertypeByName (map origin (classes_of entries)) c.file.name name) same y.2))

  pub remote_out : (r : ClassId) → slice_get (names (classes_of entries)) r.0 ≡ Some remote_name → IsBelowRemote (origins_of entries) c.file.name → (k ≡ r.0) ⊎ IsProperSubtype (classes_of entries) (record { 0 = k }) r
  remote_out r named (inl e) = inl (one_index (names (classes_of entries)) k r.0 remote_name a.ordered (here ∙ ap (λ n. Some n) e) named)
  remote_out r named (inr s) =
      let up = subst (λ os. IsSupertypeByName os c.file.name remote_name) (sym (origins_of_classes entries)) s in
      let b = by_number (classes_of entries) a.ordered a.resolved c.file.name remote_name (record { 0 = k }) here up in
      let same : b.0 ≡ r = same_class b.0 r (one_index (names (classes_of entries)) b.0.0 r.0 remote_name a.ordered b.1 named) in
      inr (subst (IsProperSubtype (classes_of entries) (record { 0 = k })) same b.2)

  pub remote_none : number_of (classes_of entries) remote_name ≡ None → IsBelowRemote (origins_of entries) c.file.name → ⊥
  remote_none none (inl e) = name_absent (classes_of entries) remote_name none (named_among (names (classes_of entries)) k remote_name (here ∙ ap (λ n. Some n) e))
  remote_none none (inr s) =
      let up = subst (λ os. IsSupertypeByName os c.file.name remote_name) (sym (origins_of_classes entries)) s in
      let b = by_number (classes_of entries) a.ordered a.resolved c.file.name remote_name (record { 0 = k }) here up in
      name_absent (classes_of entries) remote_name none (named_among (names (classes_of entries)) b.0.0 remote_name b.1)

  -- what is told if java/rmi/Remote alone is marked
  pub remote_told : (r : ClassId) → slice_get (names (classes_of entries)) r.0 ≡ Some remote_name → (marks told : List Bool) → ((i : ℕ) → IsMarked marks i → i ≡ r.0) → IsMarked marks r.0 → IsMarked told k ↔ Reaches (classes_of entries) marks k → IsMarked told k ↔ IsBelowRemote (origins_of entries) c.file.name
  remote_told r named marks told only at h = (
    λ t.
        elim (h.0 t) [
          | inl m ↦ remote_same r named (only k m)
          | inr up ↦ remote_in r named (subst (IsProperSubtype (classes_of entries) (record { 0 = k })) (same_class up.0 r (only up.0.0 up.2)) up.1)
        ],
    λ b.
        h.1
        (elim (remote_out r named b) [
          | inl e ↦ inl (subst (IsMarked marks) (sym e) at)
          | inr p ↦ inr (r, p, at)
        ]),
  )

  pub remote_untold : number_of (classes_of entries) remote_name ≡ None → (marks told : List Bool) → ((i : ℕ) → IsMarked marks i → ⊥) → IsMarked told k ↔ Reaches (classes_of entries) marks k → IsMarked told k ↔ IsBelowRemote (origins_of entries) c.file.name
  remote_untold none marks told off h = (
    λ t.
        elim (h.0 t) [
          | inl m ↦ absurd (off k m)
          | inr up ↦ absurd (off up.0.0 up.2)
        ],
    λ b. absurd (remote_none none b),
  )

-- a subtype is the class itself or a proper one
pub subtype_of_proper : (classes : List Class) (a b : ClassId) → IsProperSubtype classes a b → IsSubtype classes a b
subtype_of_proper classes a b (types.IsProperSubtype.direct x y (inl e)) = types.IsSubtype.superclass x y e
subtype_of_proper classes a b (types.IsProperSubtype.direct x y (inr d)) = types.IsSubtype.superinterface x y d
subtype_of_proper classes a b (types.IsProperSubtype.through x m y p q) =
    types.IsSubtype.through x m y (subtype_of_proper classes x m p) (subtype_of_proper classes m y q)

pub proper_of_subtype : (classes : List Class) (a b : ClassId) → IsSubtype classes a b → (a ≡ b) ⊎ IsProperSubtype classes a b
proper_of_subtype classes a b (types.IsSubtype.itself x) = inl refl
proper_of_subtype classes a b (types.IsSubtype.superclass x y e) = inr (types.IsProperSubtype.direct x y (inl e))
proper_of_subtype classes a b (types.IsSubtype.superinterface x y d) = inr (types.IsProperSubtype.direct x y (inr d))
proper_of_subtype classes a b (types.IsSubtype.through x m y p q) =
    elim (proper_of_subtype classes x m p) [
      | inl e ↦ subst (λ z. (z ≡ y) ⊎ IsProperSubtype classes z y) (sym e) (proper_of_subtype classes m y q)
      | inr f ↦
          elim (proper_of_subtype classes m y q) [
            | inl e ↦ inr (subst (IsProperSubtype classes x) e f)
            | inr g ↦ inr (types.IsProperSubtype.through x m y f g)
          ]
    ]
