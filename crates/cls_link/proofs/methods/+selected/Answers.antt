use Rattle.std.proofs.Common.{◌≡◌, Some, [], sym, subst, arith}
use Rattle.std.specs.Prelude.{slice_get}
use Rattle.cls_search.specs.Searches as searches
use Rattle.cls_link.specs.Selections.{instance_method}
use Rattle.cls_search.proofs.Found.{up_superclass, up_none}
use Rattle.cls_search.proofs.Heights.{superclass_above}
use Rattle.cls_link.proofs.methods.+selected.Goals as goal

pub returns-in-Some-clause-found : goal.returns-in-Some-clause-found
returns-in-Some-clause-found t c = searches.Finds.here c.args.class [] c.in-Some.method (sym c.in-Some.ensures.found)

pub selected-requires : goal.selected-requires
selected-requires t c =
    let classes = c.args.linked.now.classes in
    let at = subst (λ cs. slice_get cs c.args.class.0 ≡ Some c.class.result.now) c.set.ensures c.class.ensures in
    let up = superclass_above classes c.requires.set c.args.class c.in-Some-superclass.superclass c.class.result.now at c.in-Some-superclass.is in
    (omega (arith, up.lower, c.decreases), (c.requires.set, up.in_set))

pub returns-in-Some-superclass-clause-found : goal.returns-in-Some-superclass-clause-found
returns-in-Some-superclass-clause-found t c =
    let classes = c.args.linked.now.classes in
    let at = subst (λ cs. slice_get cs c.args.class.0 ≡ Some c.class.result.now) c.set.ensures c.class.ensures in
    up_superclass classes (instance_method c.args.linked.now.classes c.args.name.now c.args.descriptor.now) c.args.class c.class.result.now at c.in-Some-superclass.superclass _ (sym c.in_default.ensures.found) c.in-Some-superclass.is c.selected.ensures.found

pub returns-in-None-clause-found : goal.returns-in-None-clause-found
returns-in-None-clause-found t c =
    let classes = c.args.linked.now.classes in
    let at = subst (λ cs. slice_get cs c.args.class.0 ≡ Some c.class.result.now) c.set.ensures c.class.ensures in
    up_none classes (instance_method c.args.linked.now.classes c.args.name.now c.args.descriptor.now) c.args.class c.class.result.now at (sym c.in_default.ensures.found) c.in-None.is
