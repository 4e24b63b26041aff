-- What is told of dirty and clean calls that were answered or failed (Java RMI specification, 9.1).
use Rattle.std.specs.Prelude.{ℕ, Bool, ◌&&◌, ◌∷◌, find, is_none}
use Rattle.dgc_client.specs.History as lease_events
use Rattle.dgc_client.specs.Lease.{is_made}
use Rattle.dgc_client.specs.Table as client
use Rattle.space_ids.specs.declared.ids.ForeignId.{ForeignId}
use Rattle.sp_rules.specs.Frames.{group_told, tells_on}
use Rattle.sp_rules.specs.Holders.{lease_now}
use Rattle.sp_rules.specs.Lists.{with_some}
use Rattle.sp_rules.specs.ParkedFrames.{remove_requests}
use Rattle.sp_rules.specs.State.{State}

-- The dirty or clean calls that are out on a connection under a sequence number go, and this is told of them. Nothing happens if there are none.
abbrev pub answered : Bool → ℕ → ℕ → (ℕ → lease_events.Event) → State → State
answered dirty conn sequence event s = with_some (find (tells_on dirty conn sequence) s.requests) s (λ r. group_told event r.asked (remove_requests (tells_on dirty conn sequence) s))

-- The dirty call of this number is the one on its way, and the reference has no lease.
abbrev pub lacks_lease : ℕ → State → ForeignId → Bool
lacks_lease call s r = is_made (lease_now s r).dirty call && is_none (lease_now s r).lease

-- The dirty call of this number failed for a reference.
abbrev pub dirty_failed : ℕ → State → ForeignId → State
dirty_failed call s r = record s { leases = client.On r (lease_events.DirtyFailed call) ∷ s.leases }
