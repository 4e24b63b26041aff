use Rattle.std.proofs.Common.{List, sym, subst}
use Rattle.std.specs.List.{flat_map}
use Rattle.sp_rules.specs.State as rules
use Rattle.sp_requests.proofs.LineLemmas.{number-line}
use Rattle.sp_transport.specs.Asking.{AreNextOut, welcome}
use Rattle.sp_transport.specs.Said.{said}
use Rattle.sp_transport.specs.Transports.{call_number}
use Rattle.sp_transport.proofs.DialledLemmas.{dialled-line}
use Rattle.sp_transport.proofs.OpeningLemmas.{asked-first, next-welcome, now-welcome, welcome-hello}
use Rattle.sp_transport.proofs.transport.Transport.welcome.Goals as goal

pub returns-clause-waited : goal.returns-clause-waited
returns-clause-waited c = λ s k a at its.
    let l = dialled-line s c.args.self.now c.args.conn k c.args.peer.now at its a in c.take_waiting-asked.ensures.waited (said s) s.requests l.row a.asked l.there

pub returns-clause-named : goal.returns-clause-named
returns-clause-named c = λ s k a at its.
    let l = dialled-line s c.args.self.now c.args.conn k c.args.peer.now at its a in c.take_waiting-asked.ensures.named (said s) s.requests l.row a.asked l.there

pub returns-clause-welcomed : goal.returns-clause-welcomed
returns-clause-welcomed c = λ s k a none at its.
    now-welcome s c.args.self.now c.args.conn c.args.peer.now k c.greet.new.self c.take_waiting-asked.new.self none at its (c.greet.ensures.greeted s.connections s.dialling a.connections)
    (c.take_waiting-asked.ensures.taken s.connections s.requests k (asked-first s c.args.self.now none a) (number-line s.connections c.args.conn k c.args.peer.now a.connections.dialled_once at its)) a

pub returns-clause-out : goal.returns-clause-out
returns-clause-out c = λ s k a none at its quiet.
    let l = dialled-line s c.args.self.now c.args.conn k c.args.peer.now at its a in
    subst (λ (asked : List rules.Asked). AreNextOut (welcome c.args.peer.now c.args.conn s) c.args.peer.now (flat_map call_number asked)) (sym (c.take_waiting-asked.ensures.waited (said s) s.requests l.row a.asked l.there))
    (next-welcome s c.args.self.now c.args.conn c.args.peer.now k none at its quiet a)

pub returns-clause-hello : goal.returns-clause-hello
returns-clause-hello c = λ s k a at its. welcome-hello s c.args.self.now c.args.conn c.args.peer.now k at its a
