use Rattle.sp_rules.proofs.FailureLemmas
use Rattle.sp_rules.proofs.OwnerLemmas
use Rattle.sp_rules.proofs.laws.failures_remove_nothing.Goals as goal

pub returns : goal.returns
returns c = record { space = OwnerLemmas.events_leave_owners; world = FailureLemmas.failures_remove_nothing }
