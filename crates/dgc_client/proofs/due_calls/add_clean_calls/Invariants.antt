use Rattle.std.proofs.Common.{◌≡◌, ◌+◌, ◌++◌, length, take, vec_len, vec_capacity}
use Rattle.std.specs.List.{flat_map}
use Rattle.dgc_client.specs.Groups.{cleans_of_peer}
use Rattle.dgc_client.proofs.due_calls.add_clean_calls.Given as goal

-- the calls of the peers so far are added
abbrev pub invariant-loop-peer : goal.invariant-loop-peer
invariant-loop-peer l =
    (l.ordered.items ≡ l.initial.ordered.items ++ flat_map (cleans_of_peer l.calls) (take l.peer-index l.peers))
    × (vec_len l.ordered ≡ vec_len l.initial.ordered + length (flat_map (cleans_of_peer l.calls) (take l.peer-index l.peers)))
    × (vec_capacity l.ordered ≡ vec_capacity l.initial.ordered)
