use Rattle.sp_rules.proofs.SweepLemmas
use Rattle.sp_rules.proofs.WithdrawalLemmas
use Rattle.sp_rules.proofs.laws.sweeps_are_exact.Goals as goal

pub returns : goal.returns
returns c = record { exact = SweepLemmas.sweep_is_exact; only = WithdrawalLemmas.only_sweeps_withdraw }
