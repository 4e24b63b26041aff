use Rattle.std.proofs.Common.{◌≡◌, ◌+◌, ◌++◌, length, take, filter, vec_len, vec_capacity}
use Rattle.std.specs.List.{flat_map}
use Rattle.dgc_client.specs.declared.lease.Due.TheVariants.{Dirty}
use Rattle.dgc_client.specs.Groups.{is_of}
use Rattle.dgc_client.proofs.due_calls.add_dirty_calls.Given as goal

-- the calls of the peers so far are added
abbrev pub invariant-loop-peer : goal.invariant-loop-peer
invariant-loop-peer l =
    (l.ordered.items ≡ l.initial.ordered.items ++ flat_map (λ peer. filter (is_of peer Dirty) l.calls) (take l.peer-index l.peers))
    × (vec_len l.ordered ≡ vec_len l.initial.ordered + length (flat_map (λ peer. filter (is_of peer Dirty) l.calls) (take l.peer-index l.peers)))
    × (vec_capacity l.ordered ≡ vec_capacity l.initial.ordered)
