use Rattle.std.proofs.Common.{[], List, Some, sym, subst}
use Rattle.std.specs.Prelude.{Option}
use Rattle.sp_rules.specs.Endings.{is_of_connection}
use Rattle.sp_rules.specs.Requests.{waits_for}
use Rattle.sp_rules.specs.State.{Request}
use Rattle.sp_requests.specs.Ends.{IsEnding}
use Rattle.sp_requests.specs.Peers.{of_peer}
use Rattle.sp_requests.specs.declared.requests.Requests.{Requests}
use Rattle.sp_requests.proofs.AskingLemmas.{if-ok}
use Rattle.sp_requests.specs.AllAsked.{IsEndRoom}
use Rattle.sp_requests.proofs.AskedLemmas.{connection-is-peer, end-mine, none-asked, none-waits, row-there, row-waits, waiting-is-peer}
use Rattle.sp_requests.proofs.peers.Peers.ending.Goals as goal

pub returns-in-Some-clause-ending : goal.returns-in-Some-clause-ending
returns-in-Some-clause-ending c = if-ok c.ending.result _ _ (λ ending is. λ connections requests k a line.
    subst (λ (l : List Request). IsEnding c.args.unsent l k.sent ending) (sym (end-mine (is_of_connection k.number (Some c.args.peer.now)) c.args.peer.now requests (connection-is-peer c.args.peer.now line a))) (is k.number (of_peer c.args.peer.now requests) k.sent (row-there c.args.peer.now line (sym c.in-Some.ensures.value) a))) c.ending.ensures.ending

pub returns-in-Some-clause-refused : goal.returns-in-Some-clause-refused
returns-in-Some-clause-refused c = if-ok c.ending.result _ _ (λ ending is. λ connections requests a line.
    subst (λ (l : List Request). IsEnding c.args.unsent l [] ending) (sym (end-mine (waits_for c.args.peer.now) c.args.peer.now requests (waiting-is-peer c.args.peer.now line a))) (is 0 (of_peer c.args.peer.now requests) [] (row-waits c.args.peer.now line (sym c.in-Some.ensures.value) a 0))) c.ending.ensures.ending

pub returns-in-Some-clause-room : goal.returns-in-Some-clause-room
returns-in-Some-clause-room c = if-ok c.ending.result _ _ (λ ending is. subst (λ (o : Option Requests). IsEndRoom o ending) c.in-Some.ensures.value is) c.ending.ensures.room

pub returns-in-None-clause-ending : goal.returns-in-None-clause-ending
returns-in-None-clause-ending c = λ connections requests k a line. absurd (none-asked c.args.peer.now line (sym c.in-None.ensures.value) a)

pub returns-in-None-clause-refused : goal.returns-in-None-clause-refused
returns-in-None-clause-refused c = λ connections requests a line.
    subst (λ (l : List Request). IsEnding c.args.unsent l [] c.new.result) (sym (none-waits c.args.peer.now (sym c.in-None.ensures.value) a)) (c.new.ensures c.args.unsent [])
