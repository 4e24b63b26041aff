use Rattle.number_trees.proofs.trees.+levels_for.Given as goal

abbrev pub decreases-levels_for : goal.decreases-levels_for
decreases-levels_for l = l.count
