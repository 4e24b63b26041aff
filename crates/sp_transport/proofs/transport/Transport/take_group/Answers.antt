use Rattle.std.proofs.Common.{ℕ, filter, ap, subst, ◌∙◌}
use Rattle.std.specs.Prelude.{find, not, option_and_then}
use Rattle.sp_rules.specs.Frames.{tells_on}
use Rattle.sp_rules.specs.State as rules
use Rattle.sp_requests.specs.Asking.{told}
use Rattle.sp_requests.specs.AllAsked.{AreAsked}
use Rattle.sp_rules.specs.State.{connection_at}
use Rattle.sp_transport.specs.Said.{said}
use Rattle.sp_transport.proofs.DialledLemmas.{has-peer, peer-line}
use Rattle.sp_transport.proofs.AnsweringLemmas.{now-fewer}
use Rattle.sp_transport.proofs.transport.Transport.take_group.Goals as goal

pub returns-in-None-clause-group : goal.returns-in-None-clause-group
returns-in-None-clause-group c = λ s k peer a at its. absurd (has-peer (connection_at s c.args.conn) k peer at its (c.in-None.ensures s a))

pub returns-in-None-clause-taken : goal.returns-in-None-clause-taken
returns-in-None-clause-taken c = λ s k peer a at its. absurd (has-peer (connection_at s c.args.conn) k peer at its (c.in-None.ensures s a))

pub returns-in-Some-clause-group : goal.returns-in-Some-clause-group
returns-in-Some-clause-group c = λ s k peer a at its.
    let l = peer-line s c.args.self.now c.args.conn k c.in-Some.peer at (c.in-Some.ensures s a) a in
    c.take_group.ensures.group (said s) s.requests l.row a.asked l.there ∙ ap (λ (n : ℕ). option_and_then told (find (tells_on c.args.dirty n c.args.sequence) s.requests)) l.number

pub returns-in-Some-clause-taken : goal.returns-in-Some-clause-taken
returns-in-Some-clause-taken c = λ s k peer a at its.
    let l = peer-line s c.args.self.now c.args.conn k c.in-Some.peer at (c.in-Some.ensures s a) a in
    now-fewer s c.args.self.now (tells_on c.args.dirty c.args.conn c.args.sequence) c.take_group.new.self
    (subst (λ (n : ℕ). AreAsked (said s) (filter (λ (r : rules.Request). not (tells_on c.args.dirty n c.args.sequence r)) s.requests) c.take_group.new.self) l.number (c.take_group.ensures.taken (said s) s.requests l.row a.asked l.there)) a
