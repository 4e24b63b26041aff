use Rattle.std.proofs.Common.{arith}
use Rattle.number_trees.proofs.Grown.{find_next}
use Rattle.number_trees.specs.Trees.{find}
use Rattle.number_trees.proofs.trees.find.Goals as goal

pub loop-level-preserved : goal.loop-level-preserved
loop-level-preserved c =
    let inside = c.loop-level-test.true in
    let end = c.loop-level.auto.level-end in
    find_next c.args.nodes.now c.args.levels c.loop-level.level c.loop-level.index c.child-index.result c.loop-level.rest
    (find c.args.nodes.now c.args.levels c.args.root c.args.key) (omega (arith, inside, end)) c.child-index.ensures c.loop-level.invariant
