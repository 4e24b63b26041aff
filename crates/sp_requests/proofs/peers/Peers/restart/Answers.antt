use Rattle.std.proofs.Common.{◌≡◌, Some, sym, ◌∙◌}
use Rattle.sp_requests.specs.Peers.{of_peer}
use Rattle.sp_requests.specs.AllAsked.{row_of}
use Rattle.sp_requests.proofs.AskedLemmas.{none-asked, row-there}
use Rattle.sp_requests.proofs.RestartLemmas.{restarted-line}
use Rattle.sp_requests.proofs.RowLemmas.{changed-at, le-same, none-from, other-row, room-then}
use Rattle.sp_requests.proofs.peers.Peers.restart.Goals as goal

pub returns-in-Some-clause-restarted : goal.returns-in-Some-clause-restarted
returns-in-Some-clause-restarted c = λ connections requests k a line waits.
    let found : row_of c.args.peer.now c.args.self.now ≡ Some c.index_mut.result.now = sym c.in-Some.ensures.value ∙ c.index_mut.ensures.value in
    restarted-line (changed-at c.args.self.now c.args.peer.now c.in-Some.index c.index_mut.result.now c.restart.new.self c.in-Some.ensures.unique (sym c.in-Some.ensures.index) c.index_mut.ensures.value) line
    (λ conn. c.restart.ensures.restarted k.number conn (of_peer c.args.peer.now requests) k.sent (row-there c.args.peer.now line found a) waits) a

pub returns-in-None-clause-restarted : goal.returns-in-None-clause-restarted
returns-in-None-clause-restarted c = λ connections requests k a line waits.
    absurd (none-asked c.args.peer.now line (none-from (row_of c.args.peer.now c.args.self.now) c.in-None.ensures.found) a)

pub returns-in-Some-clause-room : goal.returns-in-Some-clause-room
returns-in-Some-clause-room c = λ w k g room.
    let found : row_of c.args.peer.now c.args.self.now ≡ Some c.index_mut.result.now = sym c.in-Some.ensures.value ∙ c.index_mut.ensures.value in
    room-then w k g w k g (changed-at c.args.self.now c.args.peer.now c.in-Some.index c.index_mut.result.now c.restart.new.self c.in-Some.ensures.unique (sym c.in-Some.ensures.index) c.index_mut.ensures.value) found (λ r. (le-same _ _ _ r.0 c.restart.ensures.waiting_room, le-same _ _ _ r.1 c.restart.ensures.call_room, le-same _ _ _ r.2 c.restart.ensures.group_room)) room

pub returns-in-Some-clause-others : goal.returns-in-Some-clause-others
returns-in-Some-clause-others c = λ q apart. other-row (changed-at c.args.self.now c.args.peer.now c.in-Some.index c.index_mut.result.now c.restart.new.self c.in-Some.ensures.unique (sym c.in-Some.ensures.index) c.index_mut.ensures.value) q apart
