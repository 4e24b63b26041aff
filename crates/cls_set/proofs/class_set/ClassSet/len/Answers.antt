use Rattle.std.proofs.Common.{subst}
use Rattle.cls_order.specs.Sets.{IsClassSet}
use Rattle.cls_order.proofs.Supertypes.{acyclic}
use Rattle.cls_set.proofs.class_set.ClassSet.len.Goals as goal

pub returns-clause-acyclic : goal.returns-clause-acyclic
returns-clause-acyclic c = acyclic c.args.self.now (subst IsClassSet c.before.self.view_is c.before.self.invariant.set)
