use Rattle.cls_tables.proofs.ClassTrees.{choices_made, noted}
use Rattle.cls_tables.proofs.choices.choose_after.Goals as goal

pub returns-clause-some : goal.returns-clause-some
returns-clause-some c =
    let was = c.in_ok-root.ensures in
    let has =
    choices_made c.args.linked.now.classes c.args.keys.now.levels c.args.keys.now.keys.items c.args.class c.args.nodes.now.items c.choose_own.new.nodes.items c.args.above c.in_ok-root.root c.requires.above
    was.tree was.own in
    noted c.args.linked.now.classes c.args.keys.now.levels c.args.keys.now.keys.items c.args.class c.args.nodes.now.items c.choose_own.new.nodes.items c.args.memo.now.items c.from.result c.in_ok-root.root
    c.requires.some was.starts c.from.ensures c.requires.in_set has

pub returns-clause-choices : goal.returns-clause-choices
returns-clause-choices c =
    let was = c.in_ok-root.ensures in
    choices_made c.args.linked.now.classes c.args.keys.now.levels c.args.keys.now.keys.items c.args.class c.args.nodes.now.items c.choose_own.new.nodes.items c.args.above c.in_ok-root.root c.requires.above
    was.tree was.own
