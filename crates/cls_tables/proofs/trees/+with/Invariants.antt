use Rattle.cls_tables.proofs.trees.+with.Given as goal

abbrev pub decreases-with : goal.decreases-with
decreases-with l = l.levels
