use Rattle.number_trees.proofs.Grown.{made_even, made_odd}
use Rattle.number_trees.proofs.trees.+with.Goals as goal

pub returns-in_ok-index-clause-tree : goal.returns-in_ok-index-clause-tree
returns-in_ok-index-clause-tree t c =
    let was = c.in_ok-even.ensures in
    let now = c.in_ok-index.ensures in
    (made_even c.args.nodes.now.items c.with.new.nodes.items c.add.new.nodes.items c.args.levels c.args.root c.args.key c.args.value c.in_ok-index.index c.in_ok-even.even c.index-node.result.now
    c.if-levels-eq0.false c.requires c.index-node.ensures was.starts now.starts was.tree c.if-key-eq0.true now.node was.found).tree

pub returns-in_ok-index-clause-found : goal.returns-in_ok-index-clause-found
returns-in_ok-index-clause-found t c =
    let was = c.in_ok-even.ensures in
    let now = c.in_ok-index.ensures in
    (made_even c.args.nodes.now.items c.with.new.nodes.items c.add.new.nodes.items c.args.levels c.args.root c.args.key c.args.value c.in_ok-index.index c.in_ok-even.even c.index-node.result.now
    c.if-levels-eq0.false c.requires c.index-node.ensures was.starts now.starts was.tree c.if-key-eq0.true now.node was.found).found

pub returns-in_ok-index-2-clause-tree : goal.returns-in_ok-index-2-clause-tree
returns-in_ok-index-2-clause-tree t c =
    let was = c.in_ok-odd.ensures in
    let now = c.in_ok-index-2.ensures in
    (made_odd c.args.nodes.now.items c.with-else-key-eq0.new.nodes.items c.add-else-key-eq0.new.nodes.items c.args.levels c.args.root c.args.key c.args.value c.in_ok-index-2.index c.in_ok-odd.odd c.index-node.result.now
    c.if-levels-eq0.false c.requires c.index-node.ensures was.starts now.starts was.tree c.if-key-eq0.false now.node was.found).tree

pub returns-in_ok-index-2-clause-found : goal.returns-in_ok-index-2-clause-found
returns-in_ok-index-2-clause-found t c =
    let was = c.in_ok-odd.ensures in
    let now = c.in_ok-index-2.ensures in
    (made_odd c.args.nodes.now.items c.with-else-key-eq0.new.nodes.items c.add-else-key-eq0.new.nodes.items c.args.levels c.args.root c.args.key c.args.value c.in_ok-index-2.index c.in_ok-odd.odd c.index-node.result.now
    c.if-levels-eq0.false c.requires c.index-node.ensures was.starts now.starts was.tree c.if-key-eq0.false now.node was.found).found
