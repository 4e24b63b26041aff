use Rattle.std.proofs.Common.{refl}
use Rattle.sp_transport.specs.Answers.{park_answer}
use Rattle.sp_living.proofs.LivingLemmas.{moved}
use Rattle.sp_living.proofs.living.Living.answer.Goals as goal

pub returns-clause-answered : goal.returns-clause-answered
returns-clause-answered c = λ g s row peer a there dialled. moved g s (park_answer c.args.conn c.args.number s) c.args.self.now c.answer.new.self refl (λ t. c.answer.ensures.answered s row peer t there dialled) a
