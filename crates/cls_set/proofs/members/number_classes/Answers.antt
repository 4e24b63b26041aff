use Rattle.std.proofs.Common.{List, ◌++◌, ◌∙◌, ap, sym}
use Rattle.cls_order.specs.declared.entries.Entry.{Entry}
use Rattle.cls_set.proofs.Numbering.{within_next}
use Rattle.cls_set.proofs.members.number_classes.Goals as goal

pub number_class-requires : goal.number_class-requires
number_class-requires c =
    let done = c.loop-entry.members.items in
    within_next done c.in-Some.entry _ c.args.entries.items (ap (λ (xs : List Entry). done ++ xs) (sym c.in-Some.ensures.steps.0) ∙ c.loop-entry.invariant) c.requires
