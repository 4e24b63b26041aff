use Rattle.std.proofs.Common.{List, ℕ, ◌∙◌, ap, sym, subst}
use Rattle.cls_order.specs.declared.class.Class.{Class}
use Rattle.std.specs.Prelude.{Contains, option_to_list}
use Rattle.std.proofs.lemmas.List.Elements.{Contains-append_right}
use Rattle.std.proofs.lemmas.Result.{err_from_is_err_and}
use Rattle.cls_order.specs.Classes.{names}
use Rattle.cls_order.specs.Entries.{classes_of}
use Rattle.cls_order.proofs.Absent.{class_missing}
use Rattle.cls_order.proofs.resolving.superinterfaces.Goals as goal

pub returns-in_err-supertype-clause-absent : goal.returns-in_err-supertype-clause-absent
returns-in_err-supertype-clause-absent c =
    let p = err_from_is_err_and c.from_residual.result c.from_residual.ensures.1 in
    let file = c.args.class.now.file in
    let name = c.name-item.result in
    let among = Contains-append_right (option_to_list file.superclass) file.interfaces name (subst (λ (xs : List (List ℕ)). Contains xs name) (c.as_slice-name-items.ensures.items ∙ ap (λ (x : Class). x.file.interfaces) c.class.view_is) (c.loop-name.name-index, c.loop-name-test.true, sym c.name-item.is)) in
    rw (p.1, p.2) (class_missing (names (classes_of c.args.entries.now)) file name c.in_err-supertype.field-0.0 among c.in_err-supertype.ensures.absent)
