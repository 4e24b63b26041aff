use Rattle.std.proofs.Common.{subst}
use Rattle.cls_order.specs.declared.class.Class.{Class}
use Rattle.cls_order.specs.declared.fault.SetRule.TheVariants.{Cycle}
use Rattle.cls_order.specs.Building.{IsFaultOf}
use Rattle.cls_order.specs.Entries.{classes_of, AreRanks}
use Rattle.cls_order.proofs.Origins.{cycle_named}
use Rattle.cls_order.proofs.Supertypes.{are_within}
use Rattle.cls_order.proofs.building.refuse_cycles.Goals as goal

pub rank-requires : goal.rank-requires
rank-requires c = are_within c.args.entries.now.items c.requires.resolved

pub returns-in-Some-clause-fault : goal.returns-in-Some-clause-fault
returns-in-Some-clause-fault c =
    let old = c.args.entries.now.items in
    cycle_named old c.rank.new.entries.items c.in-Some.index c.index.result.now c.broken.result c.rank.ensures.classes c.requires.ordered c.requires.resolved
    (subst (AreRanks (classes_of old) c.rank.new.entries.items) c.in-Some.is c.in_ok-index.ensures.ranks) c.index.ensures (subst (λ (x : Class). IsFaultOf Cycle x.file.name c.broken.result) c.class.view_is c.broken.ensures)
