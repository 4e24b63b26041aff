use Rattle.std.proofs.Common.{◌≡◌, ◌≤◌, take, vec_len, vec_capacity}
use Rattle.dgc_client.specs.Groups.{peers_of}
use Rattle.dgc_client.proofs.due_calls.find_peers.Given as goal

-- the peers are those of the calls so far, and no more than these
abbrev pub invariant-loop-call : goal.invariant-loop-call
invariant-loop-call l = (l.peers.items ≡ peers_of l.clean (take l.call-index l.calls)) × (vec_len l.peers ≤ l.call-index) × (vec_capacity l.peers ≡ vec_capacity l.initial.peers)
