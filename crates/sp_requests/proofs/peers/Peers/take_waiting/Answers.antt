use Rattle.std.proofs.Common.{◌≡◌, List, Some, map, sym, ap, subst, ◌∙◌, arith}
use Rattle.sp_rules.specs.Requests.{waits_for}
use Rattle.sp_rules.specs.State.{Request}
use Rattle.sp_requests.specs.Asking.{AreRequests}
use Rattle.sp_requests.specs.Peers.{of_peer}
use Rattle.sp_requests.specs.AllAsked.{row_of}
use Rattle.sp_requests.proofs.AskedLemmas.{changed-rows, others-kept, row-there, waited-mine, waits-mine, waits-own}
use Rattle.sp_requests.proofs.RowLemmas.{changed-at, le-same, other-row, room-then}
use Rattle.sp_requests.proofs.peers.Peers.take_waiting.Goals as goal

pub returns-in-Some-clause-waited : goal.returns-in-Some-clause-waited
returns-in-Some-clause-waited c = λ connections requests k a line.
    let found : row_of c.args.peer.now c.args.self.now ≡ Some c.index_mut.result.now = sym c.in-Some.ensures.value ∙ c.index_mut.ensures.value in
    c.take_waiting.ensures.waited k.number (of_peer c.args.peer.now requests) k.sent (row-there c.args.peer.now line found a) ∙ sym (ap (map (λ (r : Request). r.asked)) (waits-mine c.args.peer.now requests))

pub returns-in-Some-clause-taken : goal.returns-in-Some-clause-taken
returns-in-Some-clause-taken c = λ connections requests k a line.
    let found : row_of c.args.peer.now c.args.self.now ≡ Some c.index_mut.result.now = sym c.in-Some.ensures.value ∙ c.index_mut.ensures.value in
    changed-rows (changed-at c.args.self.now c.args.peer.now c.in-Some.index c.index_mut.result.now c.take_waiting.new.self c.in-Some.ensures.unique (sym c.in-Some.ensures.index) c.index_mut.ensures.value) line
    (subst (λ (l : List Request). AreRequests k.number l k.sent c.take_waiting.new.self) (waited-mine c.args.peer.now requests) (c.take_waiting.ensures.taken k.number (of_peer c.args.peer.now requests) k.sent (row-there c.args.peer.now line found a)))
    (λ q e. others-kept (waits_for c.args.peer.now) c.args.peer.now q requests (waits-own c.args.peer.now) e) a

pub returns-in-Some-clause-room : goal.returns-in-Some-clause-room
returns-in-Some-clause-room c = λ k g room.
    let found : row_of c.args.peer.now c.args.self.now ≡ Some c.index_mut.result.now = sym c.in-Some.ensures.value ∙ c.index_mut.ensures.value in
    room-then 0 k g 0 k g (changed-at c.args.self.now c.args.peer.now c.in-Some.index c.index_mut.result.now c.take_waiting.new.self c.in-Some.ensures.unique (sym c.in-Some.ensures.index) c.index_mut.ensures.value) found (λ r. (omega arith, le-same _ _ _ r.1 c.take_waiting.ensures.call_room, le-same _ _ _ r.2 c.take_waiting.ensures.group_room)) room

pub returns-in-Some-clause-others : goal.returns-in-Some-clause-others
returns-in-Some-clause-others c = λ q apart. other-row (changed-at c.args.self.now c.args.peer.now c.in-Some.index c.index_mut.result.now c.take_waiting.new.self c.in-Some.ensures.unique (sym c.in-Some.ensures.index) c.index_mut.ensures.value) q apart

pub returns-in-Some-clause-named : goal.returns-in-Some-clause-named
returns-in-Some-clause-named c = λ connections requests k a line.
    let found : row_of c.args.peer.now c.args.self.now ≡ Some c.index_mut.result.now = sym c.in-Some.ensures.value ∙ c.index_mut.ensures.value in
    c.take_waiting.ensures.named k.number (of_peer c.args.peer.now requests) k.sent (row-there c.args.peer.now line found a)
