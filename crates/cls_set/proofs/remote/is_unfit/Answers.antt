use Rattle.std.proofs.Common.{get_or, refl, sym, subst, ap, ◌∙◌}
use Rattle.std.specs.Prelude.{◌↔◌, IsTrue}
use Rattle.std.specs.List.{Any}
use Rattle.cls_order.specs.declared.class.Class.{Class}
use Rattle.cls_order.specs.Building.{origins_of}
use Rattle.cls_set.specs.ClassRules.{IsFieldNotKept, IsMethodNotCrossing, IsUnfit}
use Rattle.cls_set.specs.Rules.{HasFieldNotKept, HasMethodNotCrossing}
use Rattle.cls_order.proofs.Hierarchy.{class_read, same_some, true_false}
use Rattle.cls_set.proofs.Unfit.{fields_unfit, methods_unfit, off, unfit_fields, unfit_methods}
use Rattle.cls_set.proofs.remote.is_unfit.Goals as goal

pub returns-in-Fields : goal.returns-in-Fields
returns-in-Fields c = λ k is.
    let os = origins_of c.args.entries.now in
    let f = (get_or c.args.entries.now c.args.index c.index-entries-index.result).class.file in
    let same = same_some (sym (class_read c.args.entries.now c.index-entries-index.result c.args.index c.args.index refl c.requires.in_set) ∙ is) in
    subst (λ m. IsTrue c.is_one_field_not_kept.result ↔ IsUnfit m os k.file) (sym c.in-Fields.is)
    (subst (λ (x : Class). IsTrue c.is_one_field_not_kept.result ↔ HasFieldNotKept os x.file) same (
      λ e. unfit_fields os f (subst (Any (IsFieldNotKept os)) (c.as_slice.ensures.items ∙ ap (λ (x : Class). x.file.fields) c.class.view_is) (c.is_one_field_not_kept.ensures.0 e)),
      λ x. c.is_one_field_not_kept.ensures.1 (subst (Any (IsFieldNotKept os)) (sym (c.as_slice.ensures.items ∙ ap (λ (x : Class). x.file.fields) c.class.view_is)) (fields_unfit os f x)),
    ))

pub returns-then-is_interface : goal.returns-then-is_interface
returns-then-is_interface c = λ k is.
    let os = origins_of c.args.entries.now in
    let f = (get_or c.args.entries.now c.args.index c.index-entries-index.result).class.file in
    let same = same_some (sym (class_read c.args.entries.now c.index-entries-index.result c.args.index c.args.index refl c.requires.in_set) ∙ is) in
    subst (λ m. IsTrue c.is_one_method_not_crossing.result ↔ IsUnfit m os k.file) (sym c.in-Methods.is)
    (subst (λ (x : Class). IsTrue c.is_one_method_not_crossing.result ↔ HasMethodNotCrossing os x.file) same (
      λ e.
          unfit_methods os f (c.is_interface.ensures.0 c.if-is_interface.true) (subst (Any (IsMethodNotCrossing os)) (c.as_slice-then-is_interface.ensures.items ∙ ap (λ (x : Class). x.file.methods) c.class.view_is) (c.is_one_method_not_crossing.ensures.0 e)),
      λ x. c.is_one_method_not_crossing.ensures.1 (subst (Any (IsMethodNotCrossing os)) (sym (c.as_slice-then-is_interface.ensures.items ∙ ap (λ (x : Class). x.file.methods) c.class.view_is)) (methods_unfit os f x)),
    ))

pub returns-else-is_interface : goal.returns-else-is_interface
returns-else-is_interface c = λ k is.
    let os = origins_of c.args.entries.now in
    let f = (get_or c.args.entries.now c.args.index c.index-entries-index.result).class.file in
    let same = same_some (sym (class_read c.args.entries.now c.index-entries-index.result c.args.index c.args.index refl c.requires.in_set) ∙ is) in
    subst (λ m. IsTrue c.is_interface.result ↔ IsUnfit m os k.file) (sym c.in-Methods.is)
    (subst (λ (x : Class). IsTrue c.is_interface.result ↔ HasMethodNotCrossing os x.file) same
    (off c.is_interface.result (HasMethodNotCrossing os f) c.if-is_interface.false (λ x. true_false (sym (c.is_interface.ensures.1 x.of_interface) ∙ c.if-is_interface.false))))
