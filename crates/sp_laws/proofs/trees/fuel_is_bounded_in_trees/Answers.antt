use Rattle.sp_laws.proofs.TreeOfWorlds
use Rattle.sp_laws.proofs.trees.fuel_is_bounded_in_trees.Goals as goal

pub returns : goal.returns
returns c = TreeOfWorlds.fuel_is_bounded_in_trees
