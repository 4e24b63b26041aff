use Rattle.std.proofs.Common.{◌+◌, ◌≤◌, ◌++◌, ℕ, List, length, take, filter, sym, ap, ◌∙◌, subst, arith}
use Rattle.std.specs.List.{flat_map}
use Rattle.std.proofs.lemmas.List.{take_all}
use Rattle.dgc_client.specs.declared.groups.DueCall.{DueCall}
use Rattle.dgc_client.specs.declared.lease.Due.TheVariants.{Dirty}
use Rattle.dgc_client.specs.Groups.{is_of}
use Rattle.dgc_client.proofs.RoomLemmas.{flat-room}
use Rattle.dgc_client.proofs.due_calls.add_dirty_calls.Goals as goal

pub add_calls-requires : goal.add_calls-requires
add_calls-requires c =
    let peer = c.peer-item.result in
    let peers = c.args.peers.now in
    let f : List ℕ → List DueCall = λ p. filter (is_of p Dirty) c.args.calls.now in
    let room = subst (λ (q : List ℕ). length (flat_map f (take c.loop-peer.peer-index peers)) + length (f q) ≤ length (flat_map f peers)) (sym c.peer-item.is)
    (flat-room f peers c.loop-peer.peer-index peer c.loop-peer-test.true) in
    omega (arith, room, c.requires, c.loop-peer.invariant.1, c.loop-peer.invariant.2)

pub returns-clause-calls : goal.returns-clause-calls
returns-clause-calls c =
    let f : List ℕ → List DueCall = λ p. filter (is_of p Dirty) c.args.calls.now in
    c.loop-peer.invariant.0 ∙ ap (λ (ps : List (List ℕ)). c.args.ordered.now.items ++ flat_map f ps) (take_all c.loop-peer.peer-index c.args.peers.now (omega arith))
