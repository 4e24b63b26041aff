use Rattle.number_trees.proofs.trees.+with.Given as goal

abbrev pub decreases-with : goal.decreases-with
decreases-with l = l.levels
