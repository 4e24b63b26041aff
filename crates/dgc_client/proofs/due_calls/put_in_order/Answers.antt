use Rattle.std.proofs.Common.{ℕ, List, length, filter, ap, ◌∙◌, arith}
use Rattle.std.specs.List.{flat_map}
use Rattle.dgc_client.specs.declared.lease.Due.TheVariants.{Dirty}
use Rattle.dgc_client.specs.Groups.{is_of, cleans_of_peer}
use Rattle.dgc_client.proofs.RoomLemmas.{order-count}
use Rattle.dgc_client.proofs.due_calls.put_in_order.Goals as goal

pub add_clean_calls-requires : goal.add_clean_calls-requires
add_clean_calls-requires c =
    let calls = c.args.calls.now in
    let same = ap (λ (ps : List (List ℕ)). length (flat_map (cleans_of_peer calls) ps)) (c.as_slice.ensures.value ∙ c.find_peers.ensures.peers) in
    omega (arith, order-count calls, same, c.clear.ensures.len, c.clear.ensures.capacity, c.requires.ordered)

pub add_dirty_calls-requires : goal.add_dirty_calls-requires
add_dirty_calls-requires c =
    let calls = c.args.calls.now in
    let same = ap (λ (ps : List (List ℕ)). length (flat_map (cleans_of_peer calls) ps)) (c.as_slice.ensures.value ∙ c.find_peers.ensures.peers) in
    let same-2 = ap (λ (ps : List (List ℕ)). length (flat_map (λ peer. filter (is_of peer Dirty) calls) ps)) (c.as_slice-2.ensures.value ∙ c.find_peers-2.ensures.peers) in
    omega (arith, order-count calls, same, same-2, c.clear.ensures.len, c.clear.ensures.capacity, c.requires.ordered, c.add_clean_calls.ensures.len, c.add_clean_calls.ensures.capacity)
