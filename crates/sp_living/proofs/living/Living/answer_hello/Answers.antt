use Rattle.std.proofs.Common.{refl, subst}
use Rattle.net_message.specs.declared.message.Message.{Message}
use Rattle.sp_rules.specs.Events.{Hellos}
use Rattle.sp_rules.specs.Frames.{of_version}
use Rattle.sp_rules.specs.State.{send}
use Rattle.sp_living.specs.Livings.{IsLiving}
use Rattle.sp_living.proofs.LivingLemmas.{moved}
use Rattle.sp_living.proofs.living.Living.answer_hello.Goals as goal

pub returns-clause-said : goal.returns-clause-said
returns-clause-said c = λ g s a digest.
    let conn = c.args.conn in
    let said = send Hellos conn c.hello-hello.result s in
    subst (λ (m : Message). IsLiving g (of_version c.args.version conn (send Hellos conn m s)) (record c.reply.new.self { transport = c.speak.new.self })) (c.hello-hello.ensures.said g s a digest)
    (moved g said (of_version c.args.version conn said) c.reply.new.self c.speak.new.self refl (λ t. c.speak.ensures.spoken said t) (c.in_ok-reply.ensures.sent g s a))
