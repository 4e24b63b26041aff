use Rattle.std.proofs.Common.{[], sym, arith}
use Rattle.cls_search.specs.Searches as searches
use Rattle.cls_search.specs.MethodSearches.{own_method}
use Rattle.cls_search.proofs.Found.{up_superclass, up_none}
use Rattle.cls_search.proofs.Heights.{superclass_above}
use Rattle.cls_search.proofs.methods.+in_superclasses.Goals as goal

pub returns-in-Some-clause-found : goal.returns-in-Some-clause-found
returns-in-Some-clause-found t c = searches.Finds.here c.args.class [] c.in-Some.method (sym c.in-Some.ensures.found)

pub in_superclasses-requires : goal.in_superclasses-requires
in_superclasses-requires t c =
    let up = superclass_above c.args.set.now c.requires.set c.args.class c.in-Some-superclass.superclass c.class.result.now c.class.ensures c.in-Some-superclass.is in
    (omega (arith, up.lower, c.decreases), (c.requires.set, up.in_set))

pub returns-in-Some-superclass-clause-found : goal.returns-in-Some-superclass-clause-found
returns-in-Some-superclass-clause-found t c =
    let classes = c.args.set.now in
    up_superclass classes (own_method classes c.args.name.now c.args.descriptor.now) c.args.class c.class.result.now c.class.ensures c.in-Some-superclass.superclass _ (sym c.in_default.ensures.found) c.in-Some-superclass.is c.in_superclasses.ensures.found

pub returns-in-None-clause-found : goal.returns-in-None-clause-found
returns-in-None-clause-found t c =
    let classes = c.args.set.now in
    up_none classes (own_method classes c.args.name.now c.args.descriptor.now) c.args.class c.class.result.now c.class.ensures (sym c.in_default.ensures.found) c.in-None.is
