-- Which classes declare members that no remote class or interface may have, and which inherit them.
use Rattle.std.proofs.Common.{◌≡◌, ℕ, zero, suc, ◌+◌, ◌<◌, ◌⊎◌, inl, inr, Bool, true, false, not, Some, None, List, [], ◌∷◌, ◌++◌, length, get_or, map, refl, sym, subst, ap, ◌∙◌, arith}
use Rattle.std.specs.Prelude.{◌↔◌, IsTrue, slice_get}
use Rattle.std.specs.List.{Any}
use Rattle.cf_text.specs.declared.types.FieldType.{FieldType}
use Rattle.cf_text.specs.declared.types.ElementType.TheVariants as elements
use Rattle.cf_reader.specs.declared.class_file.ClassFile.{ClassFile}
use Rattle.cf_reader.specs.declared.flags.TheConstants.Flags.{INTERFACE}
use Rattle.cls_order.specs.declared.class.Class.{Class}
use Rattle.cls_order.specs.declared.entries.Entry.{Entry}
use Rattle.cls_set.specs.declared.remote.MemberKind.{MemberKind}
use Rattle.cls_set.specs.declared.remote.MemberKind.TheVariants.{Fields, Methods}
use Rattle.cls_order.specs.declared.fault.SetRule.TheVariants.{RemoteField, RemoteMethod}
use Rattle.cls_order.specs.Building.{origins_of}
use Rattle.cls_order.specs.Classes.{names, number_of}
use Rattle.cls_set.specs.ClassRules.{AreUnfit, IsFieldNotKept, IsMethodNotCrossing, IsUnfit}
use Rattle.cls_order.specs.Entries.{classes_of, AreArranged}
use Rattle.cls_order.specs.Marks.{IsMarked, Reaches}
use Rattle.cls_order.specs.Subtypes.{IsProperSubtype}
use Rattle.space_ids.specs.declared.ids.ClassId.{ClassId}
use Rattle.std.proofs.Math.ListN.{get_or-append}
use Rattle.std.proofs.lemmas.List.{length-append}
use Rattle.cls_set.specs.Rules as rules
use Rattle.cls_set.specs.Rules.{Breaks, CanBeKept, CanCross, Has, HasFieldNotKept, HasMethodNotCrossing, IsBelowRemote, IsItOrAbove, IsNamed, IsRemoteClass, IsRemoteInterface, NamesRemoteInterface}
use Rattle.cls_order.specs.Sets.{Origin, origin, IsSupertypeByName}
use Rattle.cls_order.proofs.Absent.{name_absent}
use Rattle.cls_set.proofs.Broken.{way}
use Rattle.cls_order.proofs.Origins.{origins_of_classes}
use Rattle.cls_order.proofs.Cycles.{by_name, by_number, class_named, standing}
use Rattle.std.proofs.lemmas.Option.{slice_get_within}
use Rattle.cls_order.proofs.Heights.{last_read, long_classes}
use Rattle.cls_order.proofs.Hierarchy.{same_some, true_false}
use Rattle.cls_set.proofs.Remotes.{named_among}
use Rattle.cls_set.proofs.Supers.{class_there, named_here, one_named}
use Rattle.cls_order.proofs.Marks.{standing_at}
use Rattle.cls_order.proofs.Walks.{before}

-- what can be kept is plain, and of one of three kinds
pub plain_type : (os : List Origin) (type : FieldType) → CanBeKept os type → type.dimensions ≡ 0
plain_type os type (rules.CanBeKept.int d e) = d
plain_type os type (rules.CanBeKept.boolean d e) = d
plain_type os type (rules.CanBeKept.remote name d e r) = d

pub kept_kind : (os : List Origin) (type : FieldType) → CanBeKept os type → (type.element ≡ elements.Int) ⊎ ((type.element ≡ elements.Boolean) ⊎ ((name : List ℕ) × (type.element ≡ elements.Class name) × NamesRemoteInterface os name))
kept_kind os type (rules.CanBeKept.int d e) = inl e
kept_kind os type (rules.CanBeKept.boolean d e) = inr (inl e)
kept_kind os type (rules.CanBeKept.remote name d e r) = inr (inr (name, e, r))

pub crossing_kind : (os : List Origin) (type : FieldType) → CanCross os type → CanBeKept os type ⊎ ((type.dimensions ≡ 1) × (type.element ≡ elements.Int))
crossing_kind os type (rules.CanCross.plain k) = inl k
crossing_kind os type (rules.CanCross.ints d e) = inr (d, e)

-- the members of a class among which one is unfit
pub unfit_fields : (os : List Origin) (file : ClassFile) → Any (IsFieldNotKept os) file.fields → HasFieldNotKept os file
unfit_fields os file (i, f, h, is, bad) = record { field = f; declared = (i, h, is); of_instances = bad.of_instances; not_kept = bad.not_kept }

pub fields_unfit : (os : List Origin) (file : ClassFile) → HasFieldNotKept os file → Any (IsFieldNotKept os) file.fields
fields_unfit os file bad = (bad.declared.0, bad.field, bad.declared.1, bad.declared.2, record { of_instances = bad.of_instances; not_kept = bad.not_kept })

pub unfit_methods : (os : List Origin) (file : ClassFile) → Has file.flags.bits INTERFACE → Any (IsMethodNotCrossing os) file.methods → HasMethodNotCrossing os file
unfit_methods os file interface (i, m, h, is, bad) = record { of_interface = interface; method = m; declared = (i, h, is); type = bad.type; used = bad.used; not_crossing = bad.not_crossing }

pub methods_unfit : (os : List Origin) (file : ClassFile) → HasMethodNotCrossing os file → Any (IsMethodNotCrossing os) file.methods
methods_unfit os file bad = (bad.declared.0, bad.method, bad.declared.1, bad.declared.2, record { type = bad.type; used = bad.used; not_crossing = bad.not_crossing })

-- the unfit classes among those up to an index
pub record AreUnfitBelow (kind : MemberKind) (entries : List Entry) (n : ℕ) (marks : List Bool) : Type 0 where
  pub long : length marks ≡ n
  pub each : (k : ℕ) (c : Class) → k < n → slice_get (classes_of entries) k ≡ Some c → IsMarked marks k ↔ IsUnfit kind (origins_of entries) c.file

pub unfit_more : (kind : MemberKind) (entries : List Entry) (n : ℕ) (marks : List Bool) (b : Bool) → AreUnfitBelow kind entries n marks → ((c : Class) → slice_get (classes_of entries) n ≡ Some c → IsTrue b ↔ IsUnfit kind (origins_of entries) c.file) → AreUnfitBelow kind entries (n + 1) (marks ++ b ∷ [])
unfit_more kind entries n marks b old here =
    record {
      long = length-append marks (b ∷ []) ∙ ap (λ n. n + 1) old.long;
      each = λ k c l e.
          elim (before k n) [
            | inl low ↦
                let inside : k < length marks = let long = old.long in omega (arith, low, long) in
                subst (λ t. IsTrue t ↔ IsUnfit kind (origins_of entries) c.file) (sym (get_or-append marks (b ∷ []) false k inside)) (old.each k c low e)
            | inr high ↦
                let same : n ≡ k = omega (arith, l, high) in
                let at : get_or (marks ++ b ∷ []) k false ≡ b = ap (λ i. get_or (marks ++ b ∷ []) i false) (sym (old.long ∙ same)) ∙ last_read marks b false in
                subst (λ t. IsTrue t ↔ IsUnfit kind (origins_of entries) c.file) (sym at) (here c (subst (λ i. slice_get (classes_of entries) i ≡ Some c) (sym same) e))
          ];
    }

-- a test and its negation
pub negated : (b : Bool) (P : Type 0) → IsTrue b ↔ P → IsTrue (not b) ↔ (P → ⊥)
negated true P h = (λ e. absurd (true_false (sym e)), λ n. absurd (n (h.0 refl)))
negated false P h = (λ _ p. true_false (sym (h.1 p)), λ _. refl)

pub off : (b : Bool) (P : Type 0) → b ≡ false → (P → ⊥) → IsTrue b ↔ P
off b P e none = (λ t. absurd (true_false (sym t ∙ e)), λ p. absurd (none p))

marked_within : (marks : List Bool) (k : ℕ) → IsMarked marks k → k < length marks
marked_within [] k e = absurd (true_false (sym e))
marked_within (x ∷ xs) zero e = omega arith
marked_within (x ∷ xs) (suc k) e = let rest = marked_within xs k e in omega (arith, rest)

pub both_tell : {P Q R : Type 0} (b : Bool) → IsTrue b ↔ (P × R) → P ↔ Q → IsTrue b ↔ (Q × R)
both_tell b h e = (λ t. let x = h.0 t in (e.0 x.0, x.1), λ y. h.1 (e.1 y.0, y.1))

-- classes that are arranged, by name and by number
module _ (entries : List Entry) (a : AreArranged entries) where
  named_in_set : (f : ClassFile) (name : List ℕ) → IsNamed (origins_of entries) name f → IsNamed (map origin (classes_of entries)) name f
  named_in_set f name n = subst (λ os. IsNamed os name f) (sym (origins_of_classes entries)) n

  pub remote_named : (i : ℕ) (k : Class) (name : List ℕ) → slice_get (classes_of entries) i ≡ Some k → slice_get (names (classes_of entries)) i ≡ Some name → Has k.file.flags.bits INTERFACE → IsBelowRemote (origins_of entries) k.file.name → NamesRemoteInterface (origins_of entries) name
  remote_named i k name e called interface below =
      let same : k.file.name ≡ name = same_some (sym (class_named (classes_of entries) a.ordered a.resolved i k e) ∙ called) in
      record {
        interface = k.file;
        named = subst (λ os. IsNamed os name k.file) (origins_of_classes entries) (subst (λ n. IsNamed (map origin (classes_of entries)) n k.file) same (named_here (classes_of entries) a.ordered a.resolved i k e));
        remote = (interface, below);
      }

  pub remote_of_name : (i : ℕ) (k : Class) (name : List ℕ) → slice_get (classes_of entries) i ≡ Some k → slice_get (names (classes_of entries)) i ≡ Some name → NamesRemoteInterface (origins_of entries) name → IsRemoteInterface (origins_of entries) k.file
  remote_of_name i k name e called r =
      subst (IsRemoteInterface (origins_of entries)) (one_named (classes_of entries) a.ordered a.resolved i k name r.interface e called (named_in_set r.interface name r.named)) r.remote

  pub no_remote_of_name : (name : List ℕ) → number_of (classes_of entries) name ≡ None → NamesRemoteInterface (origins_of entries) name → ⊥
  no_remote_of_name name none r =
      let n = named_in_set r.interface name r.named in
      let at = standing (classes_of entries) a.ordered a.resolved (r.interface, n.0) n.1 in
      let called : slice_get (names (classes_of entries)) at.0 ≡ Some name = class_named (classes_of entries) a.ordered a.resolved at.0 at.1 at.2 ∙ ap (λ x. Some x) (ap (λ (o : Origin). o.0.name) at.3 ∙ n.2) in
      name_absent (classes_of entries) name none (named_among (names (classes_of entries)) at.0 name called)

  module _ (index : ℕ) (c : Class) (is : slice_get (classes_of entries) index ≡ Some c) where
    here : slice_get (names (classes_of entries)) index ≡ Some c.file.name
    here = class_named (classes_of entries) a.ordered a.resolved index c is

    above_in : (k : ClassId) (u : Class) → slice_get (classes_of entries) k.0 ≡ Some u → IsProperSubtype (classes_of entries) (record { 0 = index }) k → IsItOrAbove (origins_of entries) c.file u.file
    above_in k u e p =
        let y = by_name (classes_of entries) a.ordered a.resolved (record { 0 = index }) k c.file.name here p in
        let same : y.0 ≡ u.file.name = same_some (sym y.1 ∙ class_named (classes_of entries) a.ordered a.resolved k.0 u e) in
        inr (
          subst (λ os. IsNamed os u.file.name u.file) (origins_of_classes entries) (named_here (classes_of entries) a.ordered a.resolved k.0 u e),
          subst (λ os. IsSupertypeByName os c.file.name u.file.name) (origins_of_classes entries) (subst (IsSupertypeByName (map origin (classes_of entries)) c.file.name) same y.2),
        )

    above_out : (upper : ClassFile) → IsItOrAbove (origins_of entries) c.file upper → (upper ≡ c.file) ⊎ ((k : ClassId) × (u : Class) × (slice_get (classes_of entries) k.0 ≡ Some u) × (upper ≡ u.file) × IsProperSubtype (classes_of entries) (record { 0 = index }) k)
    above_out upper (inl e) = inl e
    above_out upper (inr (n, s)) =
        let up = subst (λ os. IsSupertypeByName os c.file.name upper.name) (sym (origins_of_classes entries)) s in
        let b = by_number (classes_of entries) a.ordered a.resolved c.file.name upper.name (record { 0 = index }) here up in
        let k = class_there (classes_of entries) a.ordered a.resolved b.0.0 upper.name b.1 in
        inr (b.0, k.0, k.1, one_named (classes_of entries) a.ordered a.resolved b.0.0 k.0 upper.name upper k.1 b.1 (named_in_set upper upper.name n), b.2)

    -- what is told if the unfit classes are marked
    pub unfit_told : (kind : MemberKind) (marks told : List Bool) → AreUnfitBelow kind entries (length entries) marks → IsMarked told index ↔ Reaches (classes_of entries) marks index
        → IsMarked told index ↔ ((upper : ClassFile) × IsItOrAbove (origins_of entries) c.file upper × IsUnfit kind (origins_of entries) upper)
    unfit_told kind marks told u h =
        let within : (k : ℕ) (d : Class) → slice_get (classes_of entries) k ≡ Some d → k < length entries = λ k d e. let inside = slice_get_within (classes_of entries) k d e in let long = long_classes entries in omega (arith, inside, long) in (
          λ t.
              elim (h.0 t) [
                | inl m ↦ (c.file, inl refl, (u.each index c (within index c is) is).0 m)
                | inr up ↦
                    let k = standing_at (classes_of entries) up.0.0 (let low = marked_within marks up.0.0 up.2 in let one = u.long in let long = long_classes entries in omega (arith, low, one, long)) in
                    (k.0.file, above_in up.0 k.0 k.1 up.1, (u.each up.0.0 k.0 (within up.0.0 k.0 k.1) k.1).0 up.2)
              ],
          λ x.
              h.1
              (elim (above_out x.0 x.1) [
                | inl e ↦ inl ((u.each index c (within index c is) is).1 (subst (IsUnfit kind (origins_of entries)) e x.2))
                | inr r ↦ inr (r.0, r.4, (u.each r.0.0 r.1 (within r.0.0 r.1 r.2) r.2).1 (subst (IsUnfit kind (origins_of entries)) r.3 x.2))
              ]),
        )

    pub field_way : (told : List Bool) (b : Bool) → AreUnfit Fields entries told → (¬ Has c.file.flags.bits INTERFACE) → IsTrue b ↔ (IsBelowRemote (origins_of entries) c.file.name × IsMarked told index) → IsTrue b ↔ Breaks (origins_of entries) c.file RemoteField
    field_way told b unfit class h = (
      λ e. let p = h.0 e in let u = (unfit.each index c is).0 p.1 in rules.Breaks.remote_field u.0 (class, p.0) u.1 u.2,
      λ x. let y = way (origins_of entries) c.file RemoteField x in h.1 (y.1.1, (unfit.each index c is).1 (y.0, y.2, y.3)),
    )

    pub method_way : (told : List Bool) (b : Bool) → AreUnfit Methods entries told → Has c.file.flags.bits INTERFACE → IsTrue b ↔ (IsBelowRemote (origins_of entries) c.file.name × IsMarked told index) → IsTrue b ↔ Breaks (origins_of entries) c.file RemoteMethod
    method_way told b unfit interface h = (
      λ e. let p = h.0 e in let u = (unfit.each index c is).0 p.1 in rules.Breaks.remote_method u.0 (interface, p.0) u.1 u.2,
      λ x. let y = way (origins_of entries) c.file RemoteMethod x in h.1 (y.1.1, (unfit.each index c is).1 (y.0, y.2, y.3)),
    )
