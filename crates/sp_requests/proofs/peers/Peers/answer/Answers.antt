use Rattle.std.proofs.Common.{◌≡◌, List, Some, sym, subst, ◌∙◌}
use Rattle.sp_rules.specs.State.{Request}
use Rattle.sp_requests.specs.Asking.{AreRequests}
use Rattle.sp_requests.specs.Peers.{of_peer}
use Rattle.sp_requests.proofs.PeerLemmas.{peer-answered}
use Rattle.sp_requests.specs.AllAsked.{row_of}
use Rattle.sp_requests.proofs.AskedLemmas.{changed-rows, others-answered, row-there, with-all}
use Rattle.sp_requests.proofs.RowLemmas.{changed-at, le-same, other-row, room-then}
use Rattle.sp_requests.proofs.peers.Peers.answer.Goals as goal

pub returns-in-Some-clause-answered : goal.returns-in-Some-clause-answered
returns-in-Some-clause-answered c = λ connections requests k a line.
    let found : row_of c.args.peer.now c.args.self.now ≡ Some c.index_mut.result.now = sym c.in-Some.ensures.value ∙ c.index_mut.ensures.value in
    changed-rows (changed-at c.args.self.now c.args.peer.now c.in-Some.index c.index_mut.result.now c.answer.new.self c.in-Some.ensures.unique (sym c.in-Some.ensures.index) c.index_mut.ensures.value) line
    (subst (λ (l : List Request). AreRequests k.number l k.sent c.answer.new.self) (sym (peer-answered c.args.peer.now k.number c.args.number requests)) (c.answer.ensures.answered k.number (of_peer c.args.peer.now requests) k.sent (row-there c.args.peer.now line found a)))
    (λ q e. others-answered k.number c.args.number c.args.peer.now q requests (with-all c.args.peer.now line a) e) a

pub returns-in-Some-clause-room : goal.returns-in-Some-clause-room
returns-in-Some-clause-room c = λ w k g room.
    let found : row_of c.args.peer.now c.args.self.now ≡ Some c.index_mut.result.now = sym c.in-Some.ensures.value ∙ c.index_mut.ensures.value in
    room-then w k g w k g (changed-at c.args.self.now c.args.peer.now c.in-Some.index c.index_mut.result.now c.answer.new.self c.in-Some.ensures.unique (sym c.in-Some.ensures.index) c.index_mut.ensures.value) found (λ r. (le-same _ _ _ r.0 c.answer.ensures.waiting_room, le-same _ _ _ r.1 c.answer.ensures.call_room, le-same _ _ _ r.2 c.answer.ensures.group_room)) room

pub returns-in-Some-clause-others : goal.returns-in-Some-clause-others
returns-in-Some-clause-others c = λ q apart. other-row (changed-at c.args.self.now c.args.peer.now c.in-Some.index c.index_mut.result.now c.answer.new.self c.in-Some.ensures.unique (sym c.in-Some.ensures.index) c.index_mut.ensures.value) q apart
