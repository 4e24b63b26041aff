use Rattle.std.proofs.Common.{[], List, Some, sym, subst}
use Rattle.sp_rules.specs.Endings.{is_of_connection}
use Rattle.sp_rules.specs.Requests.{waits_for}
use Rattle.sp_rules.specs.State.{Request}
use Rattle.sp_requests.specs.Ends.{IsEnded, IsEnding}
use Rattle.sp_requests.specs.Peers.{of_peer}
use Rattle.sp_requests.proofs.AskedLemmas.{connection-is-peer, end-mine, ended-line, ended-waiting, none-asked, none-waits, row-there, row-waits, waiting-is-peer}
use Rattle.sp_requests.proofs.RowLemmas.{gone-now}
use Rattle.sp_requests.proofs.peers.Peers.end_reserved.Goals as goal

pub returns-in-Some-clause-ended : goal.returns-in-Some-clause-ended
returns-in-Some-clause-ended c = λ connections requests k u a line e.
    let mine = end-mine (is_of_connection k.number (Some c.args.peer.now)) c.args.peer.now requests (connection-is-peer c.args.peer.now line a) in
    subst (λ (l : List Request). IsEnded u l k.sent c.end_reserved.result) (sym mine)
    (c.end_reserved.ensures k.number u (of_peer c.args.peer.now requests) k.sent (row-there c.args.peer.now line (sym c.in-Some.ensures.value) a) (subst (λ (l : List Request). IsEnding u l k.sent c.args.ending) mine e))

pub returns-in-Some-clause-refused : goal.returns-in-Some-clause-refused
returns-in-Some-clause-refused c = λ connections requests u a line e.
    let mine = end-mine (waits_for c.args.peer.now) c.args.peer.now requests (waiting-is-peer c.args.peer.now line a) in
    subst (λ (l : List Request). IsEnded u l [] c.end_reserved.result) (sym mine)
    (c.end_reserved.ensures 0 u (of_peer c.args.peer.now requests) [] (row-waits c.args.peer.now line (sym c.in-Some.ensures.value) a 0) (subst (λ (l : List Request). IsEnding u l [] c.args.ending) mine e))

pub returns-in-Some-clause-left : goal.returns-in-Some-clause-left
returns-in-Some-clause-left c = λ connections requests k a line. ended-line (record { updates = λ q. c.in-Some.ensures.updates.0 q }) line a

pub returns-in-Some-clause-stayed : goal.returns-in-Some-clause-stayed
returns-in-Some-clause-stayed c = λ connections requests a line. ended-waiting (record { updates = λ q. c.in-Some.ensures.updates.0 q }) line a

pub returns-in-None-clause-ended : goal.returns-in-None-clause-ended
returns-in-None-clause-ended c = λ connections requests k u a line e. absurd (none-asked c.args.peer.now line (sym c.in-None.ensures.value) a)

pub returns-in-None-clause-refused : goal.returns-in-None-clause-refused
returns-in-None-clause-refused c = λ connections requests u a line e.
    let none = none-waits c.args.peer.now (sym c.in-None.ensures.value) a in
    subst (λ (l : List Request). IsEnded u l [] c.without_groups.result) (sym none) (c.without_groups.ensures u [] (subst (λ (l : List Request). IsEnding u l [] c.args.ending) none e))

pub returns-in-None-clause-left : goal.returns-in-None-clause-left
returns-in-None-clause-left c = λ connections requests k a line. ended-line (record { updates = λ q. c.in-None.ensures.updates.0 q }) line a

pub returns-in-None-clause-stayed : goal.returns-in-None-clause-stayed
returns-in-None-clause-stayed c = λ connections requests a line. ended-waiting (record { updates = λ q. c.in-None.ensures.updates.0 q }) line a

pub returns-in-Some-clause-gone : goal.returns-in-Some-clause-gone
returns-in-Some-clause-gone c = gone-now c.args.peer.now c.args.self.now.rows.entries _ (λ q. c.in-Some.ensures.updates.0 q)

pub returns-in-None-clause-gone : goal.returns-in-None-clause-gone
returns-in-None-clause-gone c = gone-now c.args.peer.now c.args.self.now.rows.entries _ (λ q. c.in-None.ensures.updates.0 q)
