use Rattle.std.proofs.Common.{sym, subst}
use Rattle.std.proofs.lemmas.Result.{on_ok_weaker}
use Rattle.sp_parked.specs.Parkings.{parked_of}
use Rattle.sp_rules.specs.State.{State}
use Rattle.sp_living.specs.Livings.{IsLiving}
use Rattle.sp_endings.proofs.AloneLemmas.{goes-alone}
use Rattle.sp_endings.proofs.frames.park.Goals as goal

pub returns-then-alone-clause-parked : goal.returns-then-alone-clause-parked
returns-then-alone-clause-parked w c = on_ok_weaker c.pass_on.result (λ passed. λ g s a tells after.
    let is = c.goes_alone-alone.ensures c.if-alone.true g s a in
    subst (λ (u : State). IsLiving g u c.pass_on.new.living) (sym (goes-alone g s (parked_of c.args.frame) is.0 is.1)) (passed g s a tells after)) c.pass_on.ensures.passed
