-- All foreign references of a client, in the order in which they were first held, and the events of each. (This project's own form of the
-- Java RMI specification, 9.1.)
use Rattle.std.specs.Prelude.{◌≡◌, ℕ, ◌+◌, Some, Bool, true, false, List, [], ◌∷◌, ◌++◌, map, ◌&&◌, ◌||◌, unwrap_or, is_some, slice_get, max, length, ◌≤◌, ◌⊎◌, if◌then◌else◌}
use Rattle.std.specs.List.{list_any, filter_map}
use Rattle.std.specs.Map.{lookup, keys_of}
use Rattle.indexmap.specs.IndexMap.{spare}
use Rattle.space_ids.specs.declared.ids.ObjId.{ObjId}
use Rattle.dgc_client.specs.declared.groups.DueCall.{DueCall}
use Rattle.dgc_client.specs.declared.groups.Group.{Group}
use Rattle.dgc_client.specs.declared.lease.ClientLease.{ClientLease}
use Rattle.dgc_client.specs.declared.lease.Due.{Due}
use Rattle.dgc_client.specs.declared.lease.Due.TheVariants.{Dirty, Clean}
use Rattle.space_ids.specs.declared.ids.ForeignId.{ForeignId}
use Rattle.dgc_client.specs.declared.table.Clients.{Clients}
use Rattle.dgc_client.specs.Lease.{fresh, due}
pub use Rattle.dgc_client.specs.Kept.{is_same}
use Rattle.dgc_client.specs.Kept.{leases_now}
use Rattle.dgc_index.specs.declared.plans.Term.{Term}
use Rattle.dgc_index.specs.declared.plans.Plans.{Plans}
use Rattle.dgc_index.specs.declared.touched.Touched.{Touched}
use Rattle.dgc_index.specs.Deadlines.{IsPlanned}
use Rattle.dgc_index.specs.Plans.{IsPlannedTerm}
use Rattle.dgc_client.specs.declared.leases.Leases.{Leases}
use Rattle.dgc_index.specs.Touched.{IsTouched}
use Rattle.dgc_client.specs.Touched.{due_call, IsDueAt}
use Rattle.dgc_client.specs.History.{Event, lease_of}
use Rattle.dgc_client.specs.History.Event.{Held, Dropped, Moment, DirtyMade, CleanMade, DirtySent, DirtyAnswered, DirtyFailed, CleanAnswered, CleanFailed}

-- What happens to the references of a space: an event of one of them, a moment, or a number that is given to a group as it goes out. A history is the list of it, newest first.
pub data Told : Type 0 where
  On : (reference : ForeignId) (event : Event) → Told
  At : (moment : ℕ) → Told
  Numbered : Told

abbrev pub is_among : ForeignId → List ForeignId → Bool
is_among reference references = list_any (is_same reference) references

abbrev pub is_hold : Event → Bool
is_hold Held = true
is_hold Dropped = false
is_hold (Moment moment) = false
is_hold (DirtyMade call) = false
is_hold (CleanMade call) = false
is_hold (DirtySent call) = false
is_hold (DirtyAnswered call period) = false
is_hold (DirtyFailed call) = false
is_hold (CleanAnswered call) = false
is_hold (CleanFailed call) = false

-- a reference goes last if it is not there
abbrev pub with_reference : List ForeignId → ForeignId → List ForeignId
with_reference references reference = if is_among reference references then references else references ++ reference ∷ []

-- the references that were held, in the order in which they were first held
abbrev pub held : List Told → List ForeignId
held [] = []
held (On reference event ∷ h) = if is_hold event then with_reference (held h) reference else held h
held (At moment ∷ h) = held h
held (Numbered ∷ h) = held h

-- The events of one reference, and all moments. What happens to it before it is first held is none of its events.
abbrev pub own : ForeignId → List Told → List Event
own reference [] = []
own reference (On other event ∷ h) = if is_same other reference && (is_hold event || is_among other (held h)) then event ∷ own reference h else own reference h
own reference (At moment ∷ h) = Moment moment ∷ own reference h
own reference (Numbered ∷ h) = own reference h

-- The moment that it is: one below the last changes nothing.
abbrev pub moment_of : List Told → ℕ
moment_of [] = 0
moment_of (On other event ∷ h) = moment_of h
moment_of (At moment ∷ h) = max moment (moment_of h)
moment_of (Numbered ∷ h) = moment_of h

-- how many numbers were given
abbrev pub numbers_of : List Told → ℕ
numbers_of [] = 0
numbers_of (On other event ∷ h) = numbers_of h
numbers_of (At moment ∷ h) = numbers_of h
numbers_of (Numbered ∷ h) = numbers_of h + 1

-- the event of each of these references, in turn
abbrev pub on_each : List ForeignId → Event → List Told → List Told
on_each [] event h = h
on_each (reference ∷ references) event h = on_each references event (On reference event ∷ h)

-- the references of a peer's objects
abbrev pub references_at : List ℕ → List ObjId → List ForeignId
references_at peer ids = map (λ (id : ObjId). record { space = peer; id = id }) ids

-- the event of each reference of a group
abbrev pub told : Group → Event → List Told → List Told
told group event h = on_each (references_at group.peer group.ids) event h

-- that a call of this kind is made
abbrev pub making : Due → ℕ → Event
making Dirty call = DirtyMade call
making (Clean strong) call = CleanMade call

-- a group's call is made
abbrev pub made : Group → ℕ → List Told → List Told
made group call h = told group (making group.kind call) h

-- each of these calls is made
abbrev pub made_each : List DueCall → ℕ → List Told → List Told
made_each [] call h = h
made_each (due ∷ calls) call h = made_each calls call (On due.reference (making due.kind call) ∷ h)

abbrev pub sent_as : Due → Group → ℕ → List Told → List Told
sent_as Dirty group call h = told group (DirtySent call) h
sent_as (Clean strong) group call h = h

-- a group, or a part of one, goes out: it gets a number, and if it is a dirty call its leases count from now
abbrev pub sent : Group → ℕ → List Told → List Told
sent group call h = Numbered ∷ sent_as group.kind group call h

-- the due calls, in the order in which the references were first held
abbrev pub due_of : List Told → List DueCall
due_of h = filter_map (λ reference. due_call reference (due (lease_of (own reference h)))) (held h)

-- the leases now, in the order in which their references were first held
abbrev pub leases_of : Leases → List (ForeignId × ClientLease)
leases_of leases = leases_now leases.moment leases.moments leases.references.entries

-- the lease of a reference now
abbrev pub lease_in : Leases → ForeignId → ClientLease
lease_in leases reference = unwrap_or (lookup (is_same reference) (leases_of leases)) (fresh leases.moment)

-- how many references were ever held
abbrev pub references_in : Clients → ℕ
references_in clients = length (leases_of clients.leases)

-- how many references that were never held the table has room for
abbrev pub room : Clients → ℕ
room clients = spare clients.leases.references

-- what is kept of a reference
abbrev pub lease_at : Clients → ForeignId → ClientLease
lease_at clients reference = lease_in clients.leases reference

-- whether the reference is in the table
abbrev pub is_known : Clients → ForeignId → Bool
is_known clients reference = is_some (lookup (is_same reference) (leases_of clients.leases))

-- The reference at an index is looked at when the due calls are asked for: it was touched, or its lease may be half over since a moment
-- came.
abbrev pub IsLookedAtIn : Leases → Touched → Plans → Bool → ℕ → Type 0
IsLookedAtIn leases touched plans moved at =
    IsTouched touched at
    ⊎ ((moved ≡ true) × ((moment : ℕ) × (moment ≤ leases.moment) × IsPlanned plans.halves (record { moment = moment; index = at })))

abbrev pub IsLookedAt : Clients → ℕ → Type 0
IsLookedAt clients at = IsLookedAtIn clients.leases clients.touched clients.plans clients.moved at

-- No call that is due is missed, nor will one be at any later moment: a lease has its deadlines, and a reference of which a call failed is known.
pub record IsSoundIn (leases : Leases) (touched later : Touched) (plans : Plans) (moved : Bool) : Type 0 where
  pub covered : (at : ℕ) → IsDueAt (leases_of leases) at → IsLookedAtIn leases touched plans moved at
  pub planned : (at : ℕ) (r : ForeignId) (l : ClientLease) (term : Term) → slice_get (leases_of leases) at ≡ Some (r, l) → l.lease ≡ Some term → IsPlannedTerm plans term at
  pub waiting : (at : ℕ) (r : ForeignId) (l : ClientLease) → slice_get (leases_of leases) at ≡ Some (r, l) → l.waits ≡ true → IsTouched later at

abbrev pub IsSound : Clients → Type 0
IsSound clients = IsSoundIn clients.leases clients.touched clients.later clients.plans clients.moved

-- this is kept of the reference now, and all else stays
pub record Puts (reference : ForeignId) (lease : ClientLease) (old new : Clients) : Type 0 where
  pub moment : new.leases.moment ≡ old.leases.moment
  pub numbers : new.numbers ≡ old.numbers
  pub keys : keys_of (leases_of new.leases) ≡ keys_of (leases_of old.leases)
  pub each : (other : ForeignId) → lease_at new other ≡ (if is_same reference other then lease else lease_at old other)
  pub sound : IsSound old → IsSound new

-- The table is what the history leaves.
pub record IsAfter (h : List Told) (clients : Clients) : Type 0 where
  pub moment : clients.leases.moment ≡ moment_of h
  pub numbers : clients.numbers ≡ numbers_of h
  pub held : keys_of (leases_of clients.leases) ≡ held h
  pub each : (reference : ForeignId) → lease_at clients reference ≡ lease_of (own reference h)
  pub sound : IsSound clients
