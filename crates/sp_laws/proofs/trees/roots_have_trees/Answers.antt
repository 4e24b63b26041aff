use Rattle.sp_laws.proofs.RootTrees
use Rattle.sp_laws.proofs.trees.roots_have_trees.Goals as goal

pub returns : goal.returns
returns c = RootTrees.roots_have_trees
