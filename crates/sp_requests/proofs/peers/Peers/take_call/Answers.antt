use Rattle.std.proofs.Common.{◌≡◌, List, Some, sym, ap, subst, ◌∙◌}
use Rattle.std.specs.Prelude.{option_and_then}
use Rattle.sp_rules.specs.ParkedFrames.{is_call_on}
use Rattle.sp_rules.specs.State.{Request}
use Rattle.sp_requests.specs.Asking.{AreRequests, shown}
use Rattle.sp_requests.specs.Peers.{of_peer}
use Rattle.sp_requests.specs.AllAsked.{row_of}
use Rattle.sp_requests.proofs.AskedLemmas.{call-is-out, changed-rows, found-of, mine-gone, others-gone, row-there}
use Rattle.sp_requests.proofs.RowLemmas.{changed-at, le-more, le-same, other-row, room-then}
use Rattle.sp_requests.proofs.peers.Peers.take_call.Goals as goal

pub returns-in-Some-clause-call : goal.returns-in-Some-clause-call
returns-in-Some-clause-call c = λ connections requests k a line.
    let found : row_of c.args.peer.now c.args.self.now ≡ Some c.index_mut.result.now = sym c.in-Some.ensures.value ∙ c.index_mut.ensures.value in
    c.take_call.ensures.call k.number (of_peer c.args.peer.now requests) k.sent (row-there c.args.peer.now line found a) ∙ ap (option_and_then (shown k.sent)) (found-of c.args.peer.now (is_call_on k.number c.args.number) (call-is-out k.number c.args.number) line a)

pub returns-in-Some-clause-taken : goal.returns-in-Some-clause-taken
returns-in-Some-clause-taken c = λ connections requests k a line.
    let found : row_of c.args.peer.now c.args.self.now ≡ Some c.index_mut.result.now = sym c.in-Some.ensures.value ∙ c.index_mut.ensures.value in
    changed-rows (changed-at c.args.self.now c.args.peer.now c.in-Some.index c.index_mut.result.now c.take_call.new.self c.in-Some.ensures.unique (sym c.in-Some.ensures.index) c.index_mut.ensures.value) line
    (subst (λ (l : List Request). AreRequests k.number l k.sent c.take_call.new.self) (mine-gone c.args.peer.now (is_call_on k.number c.args.number) requests) (c.take_call.ensures.taken k.number (of_peer c.args.peer.now requests) k.sent (row-there c.args.peer.now line found a)))
    (others-gone c.args.peer.now (is_call_on k.number c.args.number) (call-is-out k.number c.args.number) line a) a

pub returns-in-Some-clause-room : goal.returns-in-Some-clause-room
returns-in-Some-clause-room c = λ w k g room.
    let found : row_of c.args.peer.now c.args.self.now ≡ Some c.index_mut.result.now = sym c.in-Some.ensures.value ∙ c.index_mut.ensures.value in
    room-then w k g w k g (changed-at c.args.self.now c.args.peer.now c.in-Some.index c.index_mut.result.now c.take_call.new.self c.in-Some.ensures.unique (sym c.in-Some.ensures.index) c.index_mut.ensures.value) found (λ r. (le-same _ _ _ r.0 c.take_call.ensures.waiting_room, le-more _ _ _ r.1 c.take_call.ensures.call_room, le-same _ _ _ r.2 c.take_call.ensures.group_room)) room

pub returns-in-Some-clause-others : goal.returns-in-Some-clause-others
returns-in-Some-clause-others c = λ q apart. other-row (changed-at c.args.self.now c.args.peer.now c.in-Some.index c.index_mut.result.now c.take_call.new.self c.in-Some.ensures.unique (sym c.in-Some.ensures.index) c.index_mut.ensures.value) q apart
