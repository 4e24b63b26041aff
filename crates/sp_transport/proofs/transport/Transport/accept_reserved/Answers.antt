use Rattle.sp_transport.proofs.OpeningLemmas.{now-accepted}
use Rattle.sp_transport.proofs.transport.Transport.accept_reserved.Goals as goal

pub returns-clause-opened : goal.returns-clause-opened
returns-clause-opened c = λ s a none free hello.
    now-accepted s c.args.self.now c.args.conn c.args.hello c.accept_reserved.new.self c.send_reserved.new.self none free hello (c.accept_reserved.ensures.opened s.connections s.dialling a.connections free) c.send_reserved.ensures.notes a
