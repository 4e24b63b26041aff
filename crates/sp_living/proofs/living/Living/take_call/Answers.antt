use Rattle.std.proofs.Common.{refl}
use Rattle.sp_rules.specs.ParkedFrames.{is_call_on, remove_requests}
use Rattle.sp_living.proofs.LivingLemmas.{moved}
use Rattle.sp_living.proofs.living.Living.take_call.Goals as goal

pub returns-clause-taken : goal.returns-clause-taken
returns-clause-taken c = λ g s row peer a there dialled.
    moved g s (remove_requests (is_call_on c.args.conn c.args.number) s) c.args.self.now c.take_call.new.self refl (λ t. c.take_call.ensures.taken s row peer t there dialled) a
