use Rattle.std.proofs.Common.{◌≡◌, List, Some, arith, subst}
use Rattle.std.specs.Prelude.{slice_get}
use Rattle.cls_set.specs.declared.class.Class.{Class}
use Rattle.cls_search.proofs.Heights.{superclass_above}
use Rattle.cls_tables.proofs.ClassTrees.{above_root, above_superclass, made_before}
use Rattle.cls_tables.proofs.Grown.{tree_empty}
use Rattle.cls_tables.proofs.choices.+choose.Goals as goal

pub returns-in-Some-clause-choices : goal.returns-in-Some-clause-choices
returns-in-Some-clause-choices t c =
    made_before c.args.linked.now.classes c.args.keys.now.levels c.args.keys.now.keys.items c.args.class c.args.nodes.now.items c.args.memo.now.items c.from.result c.index.result.now c.in-Some.root c.requires.some
    c.requires.in_set c.from.ensures c.index.ensures c.in-Some.is

pub choose-requires : goal.choose-requires
choose-requires t c =
    let up = superclass_above c.args.linked.now.classes c.requires.set c.args.class c.in-Some-superclass.superclass c.class.result.now (subst (λ (cs : List Class). slice_get cs c.args.class.0 ≡ Some c.class.result.now) c.set.ensures c.class.ensures) c.in-Some-superclass.is in
    (omega (arith, up.lower, c.decreases), (c.requires.set, (up.in_set, (c.requires.keys, (c.requires.one_each, (c.requires.empty, c.requires.some))))))

pub choose_after-requires-clause-above : goal.choose_after-requires-clause-above
choose_after-requires-clause-above t c =
    above_superclass c.args.linked.now.classes c.args.keys.now.levels c.args.keys.now.keys.items c.args.class c.in-Some-superclass.superclass c.class.result.now c.choose.new.nodes.items
    c.in_ok-above-in-Some-superclass.above (subst (λ (cs : List Class). slice_get cs c.args.class.0 ≡ Some c.class.result.now) c.set.ensures c.class.ensures) c.in-Some-superclass.is c.in_ok-above-in-Some-superclass.ensures.choices

pub choose_after-requires-in-None-clause-tree : goal.choose_after-requires-in-None-clause-tree
choose_after-requires-in-None-clause-tree t c = tree_empty c.args.nodes.now.items c.args.keys.now.levels c.requires.empty

pub choose_after-requires-in-None-clause-above : goal.choose_after-requires-in-None-clause-above
choose_after-requires-in-None-clause-above t c =
    above_root c.args.linked.now.classes c.args.keys.now.levels c.args.keys.now.keys.items c.args.class c.class.result.now c.args.nodes.now.items
    (subst (λ (cs : List Class). slice_get cs c.args.class.0 ≡ Some c.class.result.now) c.set.ensures c.class.ensures) c.in-None.is c.requires.empty
