use Rattle.std.proofs.Common.{ℕ, Some, Option, filter, sym, subst}
use Rattle.uuid.specs.declared.Uuid.{Uuid}
use Rattle.sp_rules.specs.Endings.{is_of_connection}
use Rattle.sp_requests.proofs.LineLemmas.{number-line}
use Rattle.sp_requests.proofs.AskingLemmas.{if-ok}
use Rattle.sp_requests.specs.Ends.{IsEnding}
use Rattle.sp_transport.proofs.EndingLemmas.{number-is}
use Rattle.sp_transport.proofs.OpeningLemmas.{asked-first}
use Rattle.sp_transport.proofs.transport.Transport.ending.Goals as goal

pub returns-clause-ending : goal.returns-clause-ending
returns-clause-ending c = if-ok c.ending.result _ _ (λ ending is s k conn a none at its.
    subst (λ (o : Option Uuid). IsEnding c.args.unsent (filter (is_of_connection conn o) s.requests) k.sent ending) (sym its)
    (subst (λ (n : ℕ). IsEnding c.args.unsent (filter (is_of_connection n (Some c.args.peer.now)) s.requests) k.sent ending) (number-is s conn k at)
    (is s.connections s.requests k (asked-first s c.args.self.now none a) (number-line s.connections conn k c.args.peer.now a.connections.dialled_once at its)))) c.ending.ensures.ending

pub returns-clause-refused : goal.returns-clause-refused
returns-clause-refused c = if-ok c.ending.result _ _ (λ ending is s a none dialling. is s.connections s.requests (asked-first s c.args.self.now none a) (a.connections.apart c.args.peer.now dialling)) c.ending.ensures.refused
