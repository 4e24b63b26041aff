use Rattle.std.proofs.Common.{◌++◌, ◌∙◌, ap, refl, subst, sym, arith}
use Rattle.cls_order.specs.declared.class.Class.{Class}
use Rattle.std.specs.Prelude.{Contains, option_to_list}
use Rattle.std.proofs.lemmas.Result.{err_from_is_err_and}
use Rattle.cls_order.specs.Classes.{names}
use Rattle.cls_order.specs.Entries.{classes_of}
use Rattle.cls_order.proofs.Absent.{class_missing}
use Rattle.cls_order.proofs.resolving.superclass.Goals as goal

pub returns-in_err-supertype-in-Some-clause-absent : goal.returns-in_err-supertype-in-Some-clause-absent
returns-in_err-supertype-in-Some-clause-absent c =
    let p = err_from_is_err_and c.from_residual.result c.from_residual.ensures.1 in
    let file = c.args.class.now.file in
    let among = subst (λ o. Contains (option_to_list o ++ file.interfaces) c.in-Some.name) (sym (sym (ap (λ (x : Class). x.file.superclass) c.class.view_is) ∙ c.in-Some.is)) (0, omega arith, refl) in
    rw (p.1, p.2) (class_missing (names (classes_of c.args.entries.now)) file c.in-Some.name c.in_err-supertype-in-Some.field-0.0 among c.in_err-supertype-in-Some.ensures.absent)
