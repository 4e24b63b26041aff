use Rattle.std.proofs.Common.{◌≡◌, take}
use Rattle.uuid.specs.declared.Uuid.{Uuid}
use Rattle.sp_rules.specs.OwnEvents.{is_among}
use Rattle.sp_requests.proofs.noted_peers.NotedPeers.copy.Given as goal

-- the peers so far
abbrev pub invariant-loop-peer : goal.invariant-loop-peer
invariant-loop-peer l = (other : Uuid) → is_among l.copy other ≡ is_among (take l.peer-index l.self) other
