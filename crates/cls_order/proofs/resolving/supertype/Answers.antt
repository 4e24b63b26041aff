use Rattle.std.proofs.Common.{◌∙◌, sym, subst, ap}
use Rattle.cls_order.specs.declared.class.Class.{Class}
use Rattle.cls_order.specs.declared.fault.SetRule.TheVariants.{AbsentClass}
use Rattle.cls_order.specs.Building.{IsFaultOf}
use Rattle.cls_order.specs.Classes.{names, number_of}
use Rattle.cls_order.specs.Entries.{classes_of}
use Rattle.cls_order.proofs.Absent.{missing, name_absent}
use Rattle.cls_order.proofs.Names.{name_at_number}
use Rattle.cls_order.proofs.resolving.supertype.Goals as goal

pub returns-in-Some-clause-ok : goal.returns-in-Some-clause-ok
returns-in-Some-clause-ok c =
    name_at_number (classes_of c.args.entries.now) c.args.name.now c.in-Some.id
    (ap (number_of (classes_of c.args.entries.now)) (sym c.as_bytes.ensures) ∙ sym c.in-Some.ensures.number)

pub returns-in-None-clause-absent : goal.returns-in-None-clause-absent
returns-in-None-clause-absent c =
    let classes = classes_of c.args.entries.now in
    missing (names classes) c.args.name.now c.args.class.now.file.name c.broken.result
    (name_absent classes c.args.name.now (ap (number_of classes) (sym c.as_bytes.ensures) ∙ sym c.in-None.ensures.number)) (subst (λ (x : Class). IsFaultOf AbsentClass x.file.name c.broken.result) c.class.view_is c.broken.ensures)
