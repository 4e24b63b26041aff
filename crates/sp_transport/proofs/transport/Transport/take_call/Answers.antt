use Rattle.std.proofs.Common.{ℕ, filter, subst, ◌∙◌}
use Rattle.std.specs.Prelude.{not}
use Rattle.sp_rules.specs.ParkedFrames.{is_call_on}
use Rattle.sp_rules.specs.State as rules
use Rattle.sp_requests.specs.AllAsked.{AreAsked}
use Rattle.sp_rules.specs.State.{connection_at}
use Rattle.sp_transport.specs.Said.{said}
use Rattle.sp_transport.proofs.DialledLemmas.{has-peer, peer-line}
use Rattle.sp_transport.proofs.AnsweringLemmas.{call-is, now-fewer}
use Rattle.sp_transport.proofs.transport.Transport.take_call.Goals as goal

pub returns-in-None-clause-asker : goal.returns-in-None-clause-asker
returns-in-None-clause-asker c = λ s k peer a at its. absurd (has-peer (connection_at s c.args.conn) k peer at its (c.in-None.ensures s a))

pub returns-in-None-clause-taken : goal.returns-in-None-clause-taken
returns-in-None-clause-taken c = λ s k peer a at its. absurd (has-peer (connection_at s c.args.conn) k peer at its (c.in-None.ensures s a))

pub returns-in-Some-clause-asker : goal.returns-in-Some-clause-asker
returns-in-Some-clause-asker c = λ s k peer a at its.
    let l = peer-line s c.args.self.now c.args.conn k c.in-Some.peer at (c.in-Some.ensures s a) a in
    c.asker_of.ensures ∙ call-is l.row.sent l.row.number c.args.conn c.args.number s.requests c.take_call.result l.number (c.take_call.ensures.call (said s) s.requests l.row a.asked l.there)

pub returns-in-Some-clause-taken : goal.returns-in-Some-clause-taken
returns-in-Some-clause-taken c = λ s k peer a at its.
    let l = peer-line s c.args.self.now c.args.conn k c.in-Some.peer at (c.in-Some.ensures s a) a in
    now-fewer s c.args.self.now (is_call_on c.args.conn c.args.number) c.take_call.new.self
    (subst (λ (n : ℕ). AreAsked (said s) (filter (λ (r : rules.Request). not (is_call_on n c.args.number r)) s.requests) c.take_call.new.self) l.number (c.take_call.ensures.taken (said s) s.requests l.row a.asked l.there)) a
