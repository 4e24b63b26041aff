use Rattle.sp_laws.proofs.RootTrees
use Rattle.sp_laws.proofs.trees.roots_spend_their_fuel.Goals as goal

pub returns : goal.returns
returns c = RootTrees.roots_spend_their_fuel
