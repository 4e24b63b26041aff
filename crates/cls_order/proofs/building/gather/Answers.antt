use Rattle.std.proofs.Common.{subst}
use Rattle.std.specs.Prelude.{IsPermutation}
use Rattle.cls_order.proofs.Gathered.{gathered, started}
use Rattle.cls_order.proofs.building.gather.Goals as goal

pub returns-clause-all : goal.returns-clause-all
returns-clause-all c =
    let whole = gathered c.add_classes.new.entries.items c.add_classes-2.new.entries.items c.args.files.items
    (started c.new-entries.result.items c.add_classes.new.entries.items c.in_ok-built_in_classes.field-0.items c.new-entries.ensures.items c.in_ok-built_in_classes.ensures c.in_ok-add_classes.ensures)
    c.in_ok-add_classes-2.ensures in
    subst (λ ms. IsPermutation ms c.sort.new.entries.items) whole c.sort.ensures.permutation
