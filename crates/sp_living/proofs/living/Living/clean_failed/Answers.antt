use Rattle.std.proofs.Common.{refl}
use Rattle.dgc_client.specs.History.Event.{CleanFailed}
use Rattle.sp_transport.specs.Answers.{tell_leases}
use Rattle.sp_living.proofs.LivingLemmas.{moved}
use Rattle.sp_living.proofs.living.Living.clean_failed.Goals as goal

pub returns-clause-failed : goal.returns-clause-failed
returns-clause-failed c = λ g s a. moved g s (tell_leases c.args.group.now (CleanFailed c.args.call) s) c.args.self.now c.clean_failed.new.self refl (c.clean_failed.ensures.told s) a
