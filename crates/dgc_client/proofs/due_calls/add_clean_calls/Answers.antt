use Rattle.std.proofs.Common.{◌+◌, ◌≤◌, ℕ, true, false, List, length, take, filter, sym, subst, arith, length-append}
use Rattle.std.specs.List.{flat_map}
use Rattle.dgc_client.specs.declared.lease.Due.TheVariants.{Clean}
use Rattle.dgc_client.specs.Groups.{is_of, cleans_of_peer}
use Rattle.dgc_client.proofs.RoomLemmas.{flat-room}
use Rattle.dgc_client.proofs.due_calls.add_clean_calls.Goals as goal

pub add_calls-requires : goal.add_calls-requires
add_calls-requires c =
    let peer = c.peer-item.result in
    let peers = c.args.peers.now in
    let f = cleans_of_peer c.args.calls.now in
    let room = subst (λ (q : List ℕ). length (flat_map f (take c.loop-peer.peer-index peers)) + length (f q) ≤ length (flat_map f peers)) (sym c.peer-item.is)
    (flat-room f peers c.loop-peer.peer-index peer c.loop-peer-test.true) in
    omega (arith, room, length-append (filter (is_of peer (Clean true)) c.args.calls.now) (filter (is_of peer (Clean false)) c.args.calls.now), c.requires, c.loop-peer.invariant.1, c.loop-peer.invariant.2)

pub add_calls-requires-in-loop-peer : goal.add_calls-requires-in-loop-peer
add_calls-requires-in-loop-peer c =
    let peer = c.peer-item.result in
    let peers = c.args.peers.now in
    let f = cleans_of_peer c.args.calls.now in
    let room = subst (λ (q : List ℕ). length (flat_map f (take c.loop-peer.peer-index peers)) + length (f q) ≤ length (flat_map f peers)) (sym c.peer-item.is)
    (flat-room f peers c.loop-peer.peer-index peer c.loop-peer-test.true) in
    omega (
      arith,
      room,
      length-append (filter (is_of peer (Clean true)) c.args.calls.now) (filter (is_of peer (Clean false)) c.args.calls.now),
      c.requires,
      c.loop-peer.invariant.1,
      c.loop-peer.invariant.2,
      c.add_calls.ensures.len,
      c.add_calls.ensures.capacity,
    )
