use Rattle.sp_transport.proofs.EndingLemmas.{now-refused, refused-told}
use Rattle.sp_transport.proofs.OpeningLemmas.{asked-first}
use Rattle.sp_transport.proofs.transport.Transport.refuse_reserved.Goals as goal

pub returns-clause-ended : goal.returns-clause-ended
returns-clause-ended c = λ s unsent a none is e.
    refused-told s c.args.self.now c.args.peer.now unsent c.end_reserved.result is (c.end_reserved.ensures.refused s.connections s.requests unsent (asked-first s c.args.self.now none a) (a.connections.apart c.args.peer.now is) e) a

pub returns-clause-refused : goal.returns-clause-refused
returns-clause-refused c = λ s a none is.
    now-refused s c.args.self.now c.args.peer.now c.refuse.new.self c.end_reserved.new.self none is (c.refuse.ensures.refused s.connections s.dialling a.connections) (c.end_reserved.ensures.stayed s.connections s.requests (asked-first s c.args.self.now none a) (a.connections.apart c.args.peer.now is)) a
