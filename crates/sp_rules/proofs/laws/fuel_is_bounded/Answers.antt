use Rattle.sp_rules.proofs.FuelOfWorlds
use Rattle.sp_rules.proofs.laws.fuel_is_bounded.Goals as goal

pub returns : goal.returns
returns c = FuelOfWorlds.fuel_is_bounded
