use Rattle.sp_held_laws.proofs.StepLaws
use Rattle.sp_held_laws.proofs.kept.only_leases_grant.Goals as goal

pub returns : goal.returns
returns c = StepLaws.only_leases_grant
