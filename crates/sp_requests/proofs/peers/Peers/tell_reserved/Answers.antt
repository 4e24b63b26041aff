use Rattle.std.proofs.Common.{◌≡◌, ◌+◌, ◌∷◌, List, Some, sym, subst, ◌∙◌}
use Rattle.sp_rules.specs.Requests.{group_frame}
use Rattle.sp_rules.specs.State.{Out, Request, Tells}
use Rattle.sp_requests.specs.Asking.{AreRequests}
use Rattle.sp_requests.specs.Peers.{of_peer}
use Rattle.sp_requests.specs.AllAsked.{row_of}
use Rattle.sp_requests.proofs.AskedLemmas.{changed-sent, mine-more, others-more, row-there}
use Rattle.sp_requests.proofs.RowLemmas.{changed-at, le-less, le-same, other-row, room-then}
use Rattle.sp_requests.proofs.peers.Peers.tell_reserved.Goals as goal

pub returns-clause-sent : goal.returns-clause-sent
returns-clause-sent c = λ connections requests k a line above.
    let found : row_of c.args.peer.now c.args.self.now ≡ Some c.index_mut.result.now = sym c.in-Some.ensures.value ∙ c.index_mut.ensures.value in
    let r : Request = record { peer = c.args.peer.now; asked = Tells c.args.call c.args.group; stage = Out k.number c.args.sequence } in
    let m = group_frame c.args.group.kind c.args.sequence c.args.group.ids in
    changed-sent m (changed-at c.args.self.now c.args.peer.now c.in-Some.index c.index_mut.result.now c.tell_reserved.new.self c.in-Some.ensures.unique (sym c.in-Some.ensures.index) c.index_mut.ensures.value) line
    (subst (λ (l : List Request). AreRequests k.number l (m ∷ k.sent) c.tell_reserved.new.self) (mine-more requests r) (c.tell_reserved.ensures.sent k.number (of_peer c.args.peer.now requests) k.sent c.args.peer.now (row-there c.args.peer.now line found a) above))
    (λ q e. others-more requests r q e) a

pub returns-clause-room : goal.returns-clause-room
returns-clause-room c = λ w k g room.
    let found : row_of c.args.peer.now c.args.self.now ≡ Some c.index_mut.result.now = sym c.in-Some.ensures.value ∙ c.index_mut.ensures.value in
    room-then w k (g + 1) w k g (changed-at c.args.self.now c.args.peer.now c.in-Some.index c.index_mut.result.now c.tell_reserved.new.self c.in-Some.ensures.unique (sym c.in-Some.ensures.index) c.index_mut.ensures.value) found (λ r. (le-same _ _ _ r.0 c.tell_reserved.ensures.waiting_room, le-same _ _ _ r.1 c.tell_reserved.ensures.call_room, le-less _ _ _ r.2 c.tell_reserved.ensures.group_room)) room

pub returns-clause-others : goal.returns-clause-others
returns-clause-others c = λ q apart. other-row (changed-at c.args.self.now c.args.peer.now c.in-Some.index c.index_mut.result.now c.tell_reserved.new.self c.in-Some.ensures.unique (sym c.in-Some.ensures.index) c.index_mut.ensures.value) q apart
