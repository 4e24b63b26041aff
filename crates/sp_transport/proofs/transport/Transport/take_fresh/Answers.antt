use Rattle.std.proofs.Common.{Option, sym, ap, subst, ◌∙◌}
use Rattle.sp_transport.specs.Asking.{take_fresh}
use Rattle.sp_transport.specs.Transports.{IsTransport, fresh_of}
use Rattle.sp_transport.specs.declared.transport.Fresh.{Fresh}
use Rattle.sp_transport.proofs.MakingLemmas.{all-named, all-out, all-wait, now-taken}
use Rattle.sp_transport.proofs.transport.Transport.take_fresh.Goals as goal

pub returns-clause-call : goal.returns-clause-call
returns-clause-call c = λ s a. ap fresh_of c.take.ensures.value ∙ a.fresh

pub returns-clause-taken : goal.returns-clause-taken
returns-clause-taken c = λ s a. subst (λ (o : Option Fresh). IsTransport (take_fresh s) (record c.args.self.now { fresh = o })) (sym c.take.ensures.after) (now-taken s c.args.self.now a)

pub returns-clause-named : goal.returns-clause-named
returns-clause-named c = λ s a. all-named s c.args.self.now a

pub returns-clause-out : goal.returns-clause-out
returns-clause-out c = λ s a. all-out s c.args.self.now a

pub returns-clause-waits : goal.returns-clause-waits
returns-clause-waits c = λ s a. all-wait s c.args.self.now a
