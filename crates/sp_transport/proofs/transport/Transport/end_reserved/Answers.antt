use Rattle.std.proofs.Common.{ℕ, Some, Option, filter, sym, subst}
use Rattle.uuid.specs.declared.Uuid.{Uuid}
use Rattle.sp_rules.specs.Endings.{is_of_connection}
use Rattle.sp_requests.proofs.LineLemmas.{number-line}
use Rattle.sp_requests.specs.Ends.{IsEnded, IsEnding}
use Rattle.sp_transport.proofs.EndingLemmas.{ended-told, now-ended, number-is}
use Rattle.sp_transport.proofs.OpeningLemmas.{asked-first}
use Rattle.sp_transport.proofs.transport.Transport.end_reserved.Goals as goal

pub returns-clause-ended : goal.returns-clause-ended
returns-clause-ended c = λ s k unsent a none at its e.
    let line = number-line s.connections c.args.conn k c.args.peer.now a.connections.dialled_once at its in
    let number = number-is s c.args.conn k at in
    ended-told s c.args.self.now c.args.conn c.args.peer.now k unsent c.end_reserved.result none at its
    (subst (λ (n : ℕ). IsEnded unsent (filter (is_of_connection n (Some c.args.peer.now)) s.requests) k.sent c.end_reserved.result) number
    (c.end_reserved.ensures.ended s.connections s.requests k unsent (asked-first s c.args.self.now none a) line
    (subst (λ (n : ℕ). IsEnding unsent (filter (is_of_connection n (Some c.args.peer.now)) s.requests) k.sent c.args.ending) (sym number)
    (subst (λ (o : Option Uuid). IsEnding unsent (filter (is_of_connection c.args.conn o) s.requests) k.sent c.args.ending) its e)))) a

pub returns-clause-left : goal.returns-clause-left
returns-clause-left c = λ s k a none at its.
    now-ended s c.args.self.now c.args.conn c.args.peer.now k c.close-closed.new.self c.end_reserved.new.self none at its (c.close-closed.ensures.closed s.connections s.dialling a.connections)
    (c.end_reserved.ensures.left s.connections s.requests k (asked-first s c.args.self.now none a) (number-line s.connections c.args.conn k c.args.peer.now a.connections.dialled_once at its)) a
