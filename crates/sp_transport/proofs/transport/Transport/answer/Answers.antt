use Rattle.std.proofs.Common.{ℕ, map, subst}
use Rattle.sp_rules.specs.Frames.{answered_on}
use Rattle.sp_requests.specs.AllAsked.{AreAsked}
use Rattle.sp_rules.specs.State.{connection_at}
use Rattle.sp_transport.specs.Said.{said}
use Rattle.sp_transport.proofs.DialledLemmas.{has-peer, peer-line}
use Rattle.sp_transport.proofs.AnsweringLemmas.{now-parked}
use Rattle.sp_transport.proofs.transport.Transport.answer.Goals as goal

pub returns-in-Some-clause-answered : goal.returns-in-Some-clause-answered
returns-in-Some-clause-answered c = λ s k peer a at its.
    let l = peer-line s c.args.self.now c.args.conn k c.in-Some.peer at (c.in-Some.ensures s a) a in
    now-parked s c.args.self.now c.args.conn c.args.number c.answer.new.self (subst (λ (n : ℕ). AreAsked (said s) (map (answered_on n c.args.number) s.requests) c.answer.new.self) l.number (c.answer.ensures.answered (said s) s.requests l.row a.asked l.there)) a

pub returns-in-None-clause-answered : goal.returns-in-None-clause-answered
returns-in-None-clause-answered c = λ s k peer a at its. absurd (has-peer (connection_at s c.args.conn) k peer at its (c.in-None.ensures s a))
