use Rattle.std.proofs.Common.{◌≡◌, ◌+◌, ◌∷◌, List, Some, sym, subst, ◌∙◌}
use Rattle.sp_rules.specs.State.{Out, Request}
use Rattle.sp_requests.specs.Asking.{AreRequests}
use Rattle.sp_requests.specs.Peers.{of_peer}
use Rattle.sp_requests.specs.AllAsked.{row_of}
use Rattle.sp_requests.proofs.AskedLemmas.{changed-sent, mine-more, others-more, row-there}
use Rattle.sp_requests.proofs.RowLemmas.{changed-at, le-less, le-same, other-row, room-then}
use Rattle.sp_requests.proofs.peers.Peers.call_reserved.Goals as goal

pub returns-clause-sent : goal.returns-clause-sent
returns-clause-sent c = λ connections requests k asked frame a line above asks named its.
    let found : row_of c.args.peer.now c.args.self.now ≡ Some c.index_mut.result.now = sym c.in-Some.ensures.value ∙ c.index_mut.ensures.value in
    let r : Request = record { peer = c.args.peer.now; asked = asked; stage = Out k.number 0 } in
    changed-sent frame (changed-at c.args.self.now c.args.peer.now c.in-Some.index c.index_mut.result.now c.call_reserved.new.self c.in-Some.ensures.unique (sym c.in-Some.ensures.index) c.index_mut.ensures.value) line
    (subst (λ (l : List Request). AreRequests k.number l (frame ∷ k.sent) c.call_reserved.new.self) (mine-more requests r) (c.call_reserved.ensures.sent k.number (of_peer c.args.peer.now requests) k.sent c.args.peer.now asked frame (row-there c.args.peer.now line found a) above asks named its))
    (λ q e. others-more requests r q e) a

pub returns-clause-room : goal.returns-clause-room
returns-clause-room c = λ w k g room.
    let found : row_of c.args.peer.now c.args.self.now ≡ Some c.index_mut.result.now = sym c.in-Some.ensures.value ∙ c.index_mut.ensures.value in
    room-then w (k + 1) g w k g (changed-at c.args.self.now c.args.peer.now c.in-Some.index c.index_mut.result.now c.call_reserved.new.self c.in-Some.ensures.unique (sym c.in-Some.ensures.index) c.index_mut.ensures.value) found (λ r. (le-same _ _ _ r.0 c.call_reserved.ensures.waiting_room, le-less _ _ _ r.1 c.call_reserved.ensures.call_room, le-same _ _ _ r.2 c.call_reserved.ensures.group_room)) room

pub returns-clause-others : goal.returns-clause-others
returns-clause-others c = λ q apart. other-row (changed-at c.args.self.now c.args.peer.now c.in-Some.index c.index_mut.result.now c.call_reserved.new.self c.in-Some.ensures.unique (sym c.in-Some.ensures.index) c.index_mut.ensures.value) q apart
