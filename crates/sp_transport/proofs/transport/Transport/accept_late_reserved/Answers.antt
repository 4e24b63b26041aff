use Rattle.sp_transport.proofs.OpeningLemmas.{now-accepted-late}
use Rattle.sp_transport.proofs.transport.Transport.accept_late_reserved.Goals as goal

pub returns-clause-opened : goal.returns-clause-opened
returns-clause-opened c = λ s a none free.
    now-accepted-late s c.args.self.now c.args.conn c.accept_reserved.new.self none free (c.accept_reserved.ensures.opened s.connections s.dialling a.connections free) a
