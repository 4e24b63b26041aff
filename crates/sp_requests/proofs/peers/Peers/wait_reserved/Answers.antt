use Rattle.std.proofs.Common.{◌≡◌, ◌+◌, ◌++◌, ◌∷◌, [], List, Some, refl, sym, subst, ◌∙◌}
use Rattle.std.specs.Prelude.{Option}
use Rattle.sp_rules.specs.Lines.{dialled_to}
use Rattle.sp_rules.specs.State.{Request, Waits}
use Rattle.sp_requests.specs.Asking.{asked_of}
use Rattle.sp_requests.specs.Peers.{of_peer}
use Rattle.sp_requests.specs.declared.requests.Requests.{Requests}
use Rattle.sp_requests.specs.AllAsked.{IsAsked, row_of}
use Rattle.sp_requests.proofs.AskedLemmas.{changed, mine-more, moved, others-more}
use Rattle.sp_requests.proofs.RowLemmas.{changed-at, le-less, le-same, other-row, room-then}
use Rattle.sp_requests.proofs.peers.Peers.wait_reserved.Goals as goal

pub returns-clause-waits : goal.returns-clause-waits
returns-clause-waits c = λ connections requests a named.
    let found : row_of c.args.peer.now c.args.self.now ≡ Some c.index_mut.result.now = sym c.in-Some.ensures.value ∙ c.index_mut.ensures.value in
    let r : Request = record { peer = c.args.peer.now; asked = asked_of c.args.asked; stage = Waits } in
    changed {left = requests ++ r ∷ []} (changed-at c.args.self.now c.args.peer.now c.in-Some.index c.index_mut.result.now c.wait_reserved.new.self c.in-Some.ensures.unique (sym c.in-Some.ensures.index) c.index_mut.ensures.value)
    (subst (λ (l : List Request). IsAsked (dialled_to connections c.args.peer.now) l (Some c.wait_reserved.new.self)) (mine-more requests r)
    (moved (dialled_to connections c.args.peer.now) (of_peer c.args.peer.now requests) (of_peer c.args.peer.now requests ++ r ∷ []) c.index_mut.result.now c.wait_reserved.new.self (λ conn sent is. c.wait_reserved.ensures.waits conn (of_peer c.args.peer.now requests) sent c.args.peer.now is named)
    (subst (λ (o : Option Requests). IsAsked (dialled_to connections c.args.peer.now) (of_peer c.args.peer.now requests) o) found (a.asked c.args.peer.now))))
    (λ q e. refl) (λ q e. others-more requests r q e) a.numbered_once a.dialled_once a

pub returns-clause-room : goal.returns-clause-room
returns-clause-room c = λ w k g room.
    let found : row_of c.args.peer.now c.args.self.now ≡ Some c.index_mut.result.now = sym c.in-Some.ensures.value ∙ c.index_mut.ensures.value in
    room-then (w + 1) k g w k g (changed-at c.args.self.now c.args.peer.now c.in-Some.index c.index_mut.result.now c.wait_reserved.new.self c.in-Some.ensures.unique (sym c.in-Some.ensures.index) c.index_mut.ensures.value) found (λ r. (le-less _ _ _ r.0 c.wait_reserved.ensures.waiting_room, le-same _ _ _ r.1 c.wait_reserved.ensures.call_room, le-same _ _ _ r.2 c.wait_reserved.ensures.group_room)) room

pub returns-clause-others : goal.returns-clause-others
returns-clause-others c = λ q apart. other-row (changed-at c.args.self.now c.args.peer.now c.in-Some.index c.index_mut.result.now c.wait_reserved.new.self c.in-Some.ensures.unique (sym c.in-Some.ensures.index) c.index_mut.ensures.value) q apart
