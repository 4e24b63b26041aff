-- Dirty and clean calls on their way: they are among the requests of their space, and those among its requests are on their way or overtaken (Java RMI specification, 9.1: a client makes a dirty call for a reference that it begins to hold, and a clean call when nothing holds it).
use Rattle.std.specs.Prelude.{◌≡◌, ◌⊎◌, ℕ, ◌+◌, ◌≤◌, ◌==◌, ◌&&◌, not, nat_lt, Bool, true, false, List, if◌then◌else◌}
use Rattle.std.specs.List.{list_any}
use Rattle.dgc_client.specs.declared.groups.Group.{Group}
use Rattle.dgc_client.specs.declared.lease.ClientLease.{ClientLease}
use Rattle.dgc_client.specs.Lease.{is_made, is_clean}
use Rattle.dgc_client.specs.History.{Event as Told}
use Rattle.dgc_client.specs.History.Event.{Held, Dropped, Moment, DirtyMade, CleanMade, DirtySent, DirtyAnswered, DirtyFailed, CleanAnswered, CleanFailed}
use Rattle.dgc_client.specs.Table.{own, references_at}
use Rattle.space_ids.specs.declared.ids.ForeignId.{ForeignId}
use Rattle.sp_rules.specs.Classes.{Setting}
use Rattle.sp_rules.specs.Events.{Event}
use Rattle.sp_rules.specs.Frames.{tells_of}
use Rattle.sp_rules.specs.Holders.{lease_now, times_in}
use Rattle.sp_rules.specs.Lists.{total}
use Rattle.sp_rules.specs.Space.{state_of}
use Rattle.sp_rules.specs.State.{State, Request, Asked, Calls, LooksUp, Tells}

-- ---- calls among the requests

-- how often a group names a reference
abbrev pub times_named : ForeignId → Group → ℕ
times_named r group = times_in r (references_at group.peer group.ids)

-- how often what is asked names it in dirty calls (or in clean calls) of this number
abbrev pub names_in : Bool → ℕ → ForeignId → Asked → ℕ
names_in dirty call r (Calls number task lent kind m) = 0
names_in dirty call r (LooksUp number task name) = 0
names_in dirty call r (Tells c group) = if c == call && tells_of dirty (Tells c group) then times_named r group else 0

-- the dirty calls (or the clean calls) of a number that name a reference, among the requests that wait to be sent or answered
abbrev pub calls_naming : Bool → ℕ → ForeignId → List Request → ℕ
calls_naming dirty call r requests = total (λ (q : Request). names_in dirty call r q.asked) requests

-- ---- on their way, and overtaken

-- whether the dirty call (or the clean call) that is on its way is this one
abbrev pub is_on_its_way : Bool → ClientLease → ℕ → Bool
is_on_its_way true l call = is_made l.dirty call
is_on_its_way false l call = is_clean l.clean call

-- whether a clean call is made and overtakes a dirty call of this number (or a dirty call a clean call)
abbrev pub overtakes : Bool → ℕ → Told → Bool
overtakes dirty call Held = false
overtakes dirty call Dropped = false
overtakes dirty call (Moment moment) = false
overtakes dirty call (DirtyMade made) = not dirty && nat_lt call made
overtakes dirty call (CleanMade made) = dirty && nat_lt call made
overtakes dirty call (DirtySent sent) = false
overtakes dirty call (DirtyAnswered answered period) = false
overtakes dirty call (DirtyFailed failed) = false
overtakes dirty call (CleanAnswered answered) = false
overtakes dirty call (CleanFailed failed) = false

-- whether one was made since
abbrev pub is_overtaken : Bool → ℕ → List Told → Bool
is_overtaken dirty call h = list_any (overtakes dirty call) h

-- ---- the law

-- Of a reference: the dirty call on its way, and the clean call, is among the requests; each number stands there once at most, and one that was not given nowhere; and what stands there is on its way or overtaken.
pub record IsAmongRequests (s : State) (r : ForeignId) : Type 0 where
  pub on_its_way : (dirty : Bool) (call : ℕ) → is_on_its_way dirty (lease_now s r) call ≡ true → calls_naming dirty call r s.requests ≡ 1
  pub once : (call : ℕ) → calls_naming true call r s.requests + calls_naming false call r s.requests ≤ 1
  pub given : (call : ℕ) → s.groups_made + 1 ≤ call → calls_naming true call r s.requests + calls_naming false call r s.requests ≡ 0
  pub others : (dirty : Bool) (call : ℕ) → 1 ≤ calls_naming dirty call r s.requests → (is_on_its_way dirty (lease_now s r) call ≡ true) ⊎ (is_overtaken dirty call (own r s.leases) ≡ true)

-- This holds of each foreign reference after every history.
abbrev pub CallsOnTheirWayAreRequests : Type 0
CallsOnTheirWayAreRequests = (g : Setting) (h : List Event) (r : ForeignId) → IsAmongRequests (state_of g h) r
