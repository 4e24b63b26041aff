use Rattle.std.proofs.Common.{◌∙◌}
use Rattle.sp_rules.specs.State.{connection_at}
use Rattle.sp_transport.specs.Said.{said}
use Rattle.sp_transport.proofs.DialledLemmas.{has-peer, peer-line}
use Rattle.sp_transport.proofs.AnsweringLemmas.{asked-is}
use Rattle.sp_transport.proofs.transport.Transport.asked.Goals as goal

pub returns-in-None : goal.returns-in-None
returns-in-None c = λ s k peer a at its. absurd (has-peer (connection_at s c.args.conn) k peer at its (c.in-None.ensures s a))

pub returns-in-Some : goal.returns-in-Some
returns-in-Some c = λ s k peer a at its.
    let l = peer-line s c.args.self.now c.args.conn k c.in-Some.peer at (c.in-Some.ensures s a) a in
    c.asker_of.ensures ∙ asked-is l.row.sent l.row.number c.args.conn c.args.number s.requests c.asked.result l.number (c.asked.ensures (said s) s.requests l.row a.asked l.there)
