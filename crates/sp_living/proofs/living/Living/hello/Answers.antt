use Rattle.std.proofs.Common.{refl}
use Rattle.net_message.specs.declared.message.Message.TheVariants as message
use Rattle.sp_living.proofs.living.Living.hello.Goals as goal

pub returns-clause-said : goal.returns-clause-said
returns-clause-said c = λ g s a digest j. message.Hello c.args.version (a.id j) (digest j)

pub returns-clause-hello : goal.returns-clause-hello
returns-clause-hello c = record { version = c.args.version; space = c.args.self.now.id; digest = c.args.digest; says = refl }
