use Rattle.std.proofs.Common.{◌≡◌, [], Some, None, refl, sym, subst, ◌∙◌}
use Rattle.std.specs.Prelude.{Option}
use Rattle.sp_rules.specs.Lines.{dialled_to}
use Rattle.sp_requests.specs.Peers.{of_peer}
use Rattle.sp_requests.specs.declared.requests.Requests.{Requests}
use Rattle.sp_requests.specs.AllAsked.{IsAsked, IsRoom, row_of}
use Rattle.sp_requests.proofs.AskedLemmas.{changed, moved, row-new, row-none}
use Rattle.sp_requests.proofs.RowLemmas.{changed-at, le-more, none-from, on-ok, room-any, room-put, row-now}
use Rattle.sp_requests.proofs.peers.Peers.reserve.Goals as goal

pub returns-in-Some-clause-room : goal.returns-in-Some-clause-room
returns-in-Some-clause-room c =
    let step = changed-at c.args.self.now c.args.peer.now c.in-Some.index c.index_mut.result.now c.reserve.new.self c.in-Some.ensures.unique (sym c.in-Some.ensures.index) c.index_mut.ensures.value in
    on-ok c.reserve.result _ _ _ _ (λ waiting calls groups. subst (λ (o : Option Requests). IsRoom o c.args.waiting c.args.calls c.args.groups) (sym (row-now step)) (waiting, calls, groups))
    c.reserve.ensures.waiting c.reserve.ensures.calls c.reserve.ensures.groups

pub returns-in-Some-clause-same : goal.returns-in-Some-clause-same
returns-in-Some-clause-same c = λ connections requests a.
    let found : row_of c.args.peer.now c.args.self.now ≡ Some c.index_mut.result.now = sym c.in-Some.ensures.value ∙ c.index_mut.ensures.value in
    changed (changed-at c.args.self.now c.args.peer.now c.in-Some.index c.index_mut.result.now c.reserve.new.self c.in-Some.ensures.unique (sym c.in-Some.ensures.index) c.index_mut.ensures.value)
    (moved (dialled_to connections c.args.peer.now) (of_peer c.args.peer.now requests) (of_peer c.args.peer.now requests) c.index_mut.result.now c.reserve.new.self (λ conn sent is. c.reserve.ensures.same conn (of_peer c.args.peer.now requests) sent is)
    (subst (λ (o : Option Requests). IsAsked (dialled_to connections c.args.peer.now) (of_peer c.args.peer.now requests) o) found (a.asked c.args.peer.now)))
    (λ q e. refl) (λ q e. refl) a.numbered_once a.dialled_once a

pub returns-in-Some-clause-rooms : goal.returns-in-Some-clause-rooms
returns-in-Some-clause-rooms c = λ q w k g room.
    let found : row_of c.args.peer.now c.args.self.now ≡ Some c.index_mut.result.now = sym c.in-Some.ensures.value ∙ c.index_mut.ensures.value in
    room-any q w k g (changed-at c.args.self.now c.args.peer.now c.in-Some.index c.index_mut.result.now c.reserve.new.self c.in-Some.ensures.unique (sym c.in-Some.ensures.index) c.index_mut.ensures.value)
    (λ s. let r : IsRoom (Some c.index_mut.result.now) w k g = subst (λ (o : Option Requests). IsRoom o w k g) found s in (le-more _ _ _ r.0 c.reserve.ensures.waiting_room, le-more _ _ _ r.1 c.reserve.ensures.call_room, le-more _ _ _ r.2 c.reserve.ensures.group_room)) room

pub returns-in_ok-insert-in-None-clause-same : goal.returns-in_ok-insert-in-None-clause-same
returns-in_ok-insert-in-None-clause-same c = λ connections requests a.
    let none : row_of c.args.peer.now c.args.self.now ≡ None = none-from (row_of c.args.peer.now c.args.self.now) c.in-None.ensures.found in
    changed (record { updates = λ q. c.in_ok-insert-in-None.ensures.updates.0 q })
    (row-new (dialled_to connections c.args.peer.now) (of_peer c.args.peer.now requests) c.reserve-in-None.new.self (λ conn. c.in_ok-reserve-in-None.ensures.same conn [] [] (c.new-row.ensures.requests conn)) (row-none c.args.peer.now none a))
    (λ q e. refl) (λ q e. refl) a.numbered_once a.dialled_once a

pub returns-in_ok-insert-in-None-clause-rooms : goal.returns-in_ok-insert-in-None-clause-rooms
returns-in_ok-insert-in-None-clause-rooms c = λ q w k g room.
    let none : row_of c.args.peer.now c.args.self.now ≡ None = none-from (row_of c.args.peer.now c.args.self.now) c.in-None.ensures.found in
    room-put c.args.peer.now q c.reserve-in-None.new.self (λ p. row_of p c.args.self.now) _ w k g (c.in_ok-insert-in-None.ensures.updates.0 q) (λ s. absurd (subst (λ (o : Option Requests). IsRoom o w k g) none s)) room
