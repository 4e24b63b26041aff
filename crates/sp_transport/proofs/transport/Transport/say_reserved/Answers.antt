use Rattle.sp_transport.proofs.StepLemmas.{now-said}
use Rattle.sp_transport.proofs.transport.Transport.say_reserved.Goals as goal

pub returns-clause-said : goal.returns-clause-said
returns-clause-said c = λ s a. now-said s c.args.self.now c.args.output c.say_reserved.new.self c.requires.said c.say_reserved.ensures.notes a
