use Rattle.cls_tables.proofs.numbers.+levels_for.Given as goal

abbrev pub decreases-levels_for : goal.decreases-levels_for
decreases-levels_for l = l.count
