use Rattle.std.proofs.Common.{◌≡◌, ℕ, Some, List, map, ◌∙◌, ap, subst, sym, get_or-set_same}
use Rattle.std.specs.Prelude.{option_map, slice_get}
use Rattle.cf_reader.specs.declared.class_file.ClassFile.{ClassFile}
use Rattle.cls_order.specs.declared.class.Class.{Class}
use Rattle.space_ids.specs.declared.ids.ClassId.{ClassId}
use Rattle.std.proofs.Math.Seq.{map-set_same}
use Rattle.cls_order.specs.Building.{kept}
use Rattle.std.proofs.lemmas.Result.{err_from_is_err_and}
use Rattle.cls_order.specs.Building.{IsClassFault, IsFaultOf, IsWhole, MembersNameAbsent}
use Rattle.cls_order.specs.declared.fault.SetRule.TheVariants.{AbsentClass}
use Rattle.cls_order.specs.declared.entries.Entry.{Entry}
use Rattle.cls_order.specs.Classes.{names}
use Rattle.cls_order.specs.Entries.{classes_of}
use Rattle.cls_order.proofs.Absent.{members_missing, whole}
use Rattle.cls_order.proofs.Hierarchy.{same_read, true_false}
use Rattle.cls_order.proofs.resolving.resolve_at.Goals as goal

pub returns-clause-kept : goal.returns-clause-kept
returns-clause-kept c = rw c.set_supertypes.ensures (map-set_same kept c.args.entries.now.items c.args.index _ c.index_mut-entry.result.now (ap kept c.index_mut-entry.ensures.value))

pub returns-in_err-superclass-clause-absent : goal.returns-in_err-superclass-clause-absent
returns-in_err-superclass-clause-absent c =
    let p = err_from_is_err_and c.from_residual.result c.from_residual.ensures.1 in
    let ms = c.args.entries.now.items in
    let m = c.index.result.now in
    let e = c.in_err-superclass.field-0.0 in
    rw (p.1, p.2) (λ d. subst (λ (x : Entry). IsClassFault (names (classes_of ms)) x.class.file e) (c.index.ensures ∙ same_read ms c.args.index m d c.requires.within)
    (subst (λ xs. IsClassFault (names (classes_of xs)) m.class.file e) c.as_slice.ensures.value c.in_err-superclass.ensures.absent))

pub returns-in_err-interfaces-clause-absent : goal.returns-in_err-interfaces-clause-absent
returns-in_err-interfaces-clause-absent c =
    let p = err_from_is_err_and c.from_residual-in_err-interfaces.result c.from_residual-in_err-interfaces.ensures.1 in
    let ms = c.args.entries.now.items in
    let m = c.index.result.now in
    let e = c.in_err-interfaces.field-0.0 in
    rw (p.1, p.2) (λ d. subst (λ (x : Entry). IsClassFault (names (classes_of ms)) x.class.file e) (c.index.ensures ∙ same_read ms c.args.index m d c.requires.within)
    (subst (λ xs. IsClassFault (names (classes_of xs)) m.class.file e) c.as_slice-2.ensures.value c.in_err-interfaces.ensures.absent))

pub returns-then-members_name_absent-clause-absent :
    goal.returns-then-members_name_absent-clause-absent
returns-then-members_name_absent-clause-absent c =
    let ms = c.args.entries.now.items in
    let m = c.index.result.now in
    let e = c.broken.result in
    let own = subst (λ (x : Class). MembersNameAbsent (names (classes_of c.as_slice-3.result.now)) x.file) c.class.view_is (c.members_name_absent.ensures.0 c.if-members_name_absent.true) in
    let absent = subst (λ xs. MembersNameAbsent (names (classes_of xs)) m.class.file) c.as_slice-3.ensures.value own in
    λ d. subst (λ (x : Entry). IsClassFault (names (classes_of ms)) x.class.file e) (c.index.ensures ∙ same_read ms c.args.index m d c.requires.within)
    (members_missing (names (classes_of ms)) m.class.file e absent (subst (λ (x : Class). IsFaultOf AbsentClass x.file.name e) c.class.view_is c.broken.ensures))

pub returns-clause-resolved : goal.returns-clause-resolved
returns-clause-resolved c =
    let ms = c.args.entries.now.items in
    let ns = names (classes_of ms) in
    let k = c.args.index in
    let m = c.index.result.now in
    let n = c.index_mut-entry.result.now in
    let same : m.class.file ≡ n.class.file = ap (λ (x : Entry). x.class.file) (c.index.ensures ∙ (same_read ms k m n c.requires.within ∙ sym c.index_mut-entry.ensures.value)) in
    let new : Class = record { file = n.class.file; superclass = c.in_ok-superclass.superclass; interfaces = c.in_ok-interfaces.interfaces; is_built_in = n.class.is_built_in } in
    let superclass = subst (λ xs. option_map (λ (id : ClassId). slice_get (names (classes_of xs)) id.0) new.superclass ≡ option_map (λ (name : List ℕ). Some name) m.class.file.superclass) c.as_slice.ensures.value c.in_ok-superclass.ensures.ok in
    let interfaces = subst (λ xs. map (λ (id : ClassId). slice_get (names (classes_of xs)) id.0) new.interfaces ≡ map (λ (name : List ℕ). Some name) m.class.file.interfaces) c.as_slice-2.ensures.value c.in_ok-interfaces.ensures.ok in
    let present : MembersNameAbsent ns m.class.file → ⊥ = λ a.
    true_false (sym (c.members_name_absent.ensures.1 (subst (λ (x : Class). MembersNameAbsent (names (classes_of c.as_slice-3.result.now)) x.file) (sym c.class.view_is) (subst (λ xs. MembersNameAbsent (names (classes_of xs)) m.class.file) (sym c.as_slice-3.ensures.value) a))) ∙ c.if-members_name_absent.false)
    in
    let is : IsWhole ns new =
    whole ns new
    (record {
      superclass = subst (λ (f : ClassFile). option_map (λ (id : ClassId). slice_get ns id.0) new.superclass ≡ option_map (λ (name : List ℕ). Some name) f.superclass) same superclass;
      interfaces = subst (λ (f : ClassFile). map (λ (id : ClassId). slice_get ns id.0) new.interfaces ≡ map (λ (name : List ℕ). Some name) f.interfaces) same interfaces;
    }) (subst (λ f. MembersNameAbsent ns f → ⊥) same present)
    in
    rw c.set_supertypes.ensures (λ d. subst (λ (x : Entry). IsWhole ns x.class) (sym (get_or-set_same ms k (record { class = new; rank = n.rank }) d c.requires.within)) is)
