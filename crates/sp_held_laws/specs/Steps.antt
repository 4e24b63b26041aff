-- What one event does to leases and entries: a reference becomes granted by a Lease alone; requests that are out stay as they went out; and an entry goes with a clean call of its client, or as it expires (Java RMI specification, 9.1: DGC.dirty and DGC.clean).
use Rattle.std.specs.Prelude.{◌≡◌, ◌⊎◌, ℕ, ◌≤◌, Bool, true, false, List, ◌∷◌, Option, None, Some, is_some}
use Rattle.std.specs.Str.{bytes_eq}
use Rattle.dgc_client.specs.Lease.{is_made}
use Rattle.dgc_client.specs.Table.{numbers_of, references_at, is_among}
use Rattle.dgc_client.specs.declared.groups.Group.{Group}
use Rattle.dgc_list.specs.History as owner
use Rattle.dgc_list.specs.Remembered.{is_gone, is_late}
use Rattle.net_message.specs.declared.message.Message.TheVariants as message
use Rattle.space_ids.specs.declared.ids.ForeignId.{ForeignId}
use Rattle.space_ids.specs.declared.ids.ObjId.{ObjId}
use Rattle.uuid.specs.declared.Uuid.{Uuid}
use Rattle.sp_rules.specs.Classes.{Setting}
use Rattle.sp_rules.specs.Events.{Event, Moment, Received}
use Rattle.sp_rules.specs.Frames.{fit_frame, tells_of}
use Rattle.sp_rules.specs.Holders.{lease_now}
use Rattle.sp_rules.specs.Laws.{stands}
use Rattle.sp_rules.specs.Origins.{IsTaken}
use Rattle.sp_rules.specs.References.{is_id_in}
use Rattle.sp_rules.specs.Space.{state_of}
use Rattle.sp_rules.specs.State.{State, Request, Tells, Out, Connection, connection_at}
use Rattle.sp_laws.specs.OnTheWay.{calls_naming}
use Rattle.sp_order_laws.specs.Ends.{IsOneOf}
use Rattle.sp_held_laws.specs.Granted.{is_granted}

-- ---- at a client

-- The event brings the Lease of a dirty call of the reference that is on its way.
pub record BringsLease (s : State) (e : Event) (r : ForeignId) : Type 0 where
  pub conn : ℕ
  pub number : ℕ
  pub period : ℕ
  pub request : Request
  pub call : ℕ
  pub group : Group
  pub came : e ≡ Received conn (message.Lease number period)
  pub there : IsOneOf request s.requests
  pub out : request.stage ≡ Out conn number
  pub asked : request.asked ≡ Tells call group
  pub dirty : tells_of true (Tells call group) ≡ true
  pub names : is_among r (references_at group.peer group.ids) ≡ true
  pub made : is_made (lease_now s r).dirty call ≡ true

-- A reference that is granted after an event was so before it, or the event brings its Lease.
abbrev pub OnlyLeasesGrant : Type 0
OnlyLeasesGrant = (g : Setting) (h : List Event) (e : Event) (r : ForeignId) → IsTaken g (e ∷ h) → is_granted (state_of g (e ∷ h)) r ≡ true → (is_granted (state_of g h) r ≡ true) ⊎ BringsLease (state_of g h) e r

-- A dirty or clean call that is out after an event, under a number that was given before it, was out so before it; and a dirty call that is on its way then, and was among the requests before, was on its way.
pub record StaysAsked (g : Setting) (h : List Event) (e : Event) : Type 0 where
  pub out : (call conn number : ℕ) (group : Group) (q : Request) → IsOneOf q (state_of g (e ∷ h)).requests → q.asked ≡ Tells call group → q.stage ≡ Out conn number → number ≤ numbers_of (state_of g h).leases → IsOneOf q (state_of g h).requests
  pub way : (r : ForeignId) (call : ℕ) → 1 ≤ calls_naming true call r (state_of g h).requests → is_made (lease_now (state_of g (e ∷ h)) r).dirty call ≡ true → is_made (lease_now (state_of g h) r).dirty call ≡ true

abbrev pub WhatIsOutStaysAsked : Type 0
WhatIsOutStaysAsked = (g : Setting) (h : List Event) (e : Event) → IsTaken g (e ∷ h) → StaysAsked g h e

-- ---- at an owner

-- whether a client has an entry for an object
abbrev pub has_entry_for : State → Uuid → ObjId → Bool
has_entry_for s client o = is_some (owner.remembered_of s.owner.entries client o).expires

-- whether an entry of this end expires with an event
abbrev pub expires_with : Event → Option ℕ → Bool
expires_with (Moment moment) expires = is_gone moment expires
expires_with _ expires = false

-- The event brings a clean call of the client that names the object.
pub record BringsClean (s : State) (e : Event) (client : Uuid) (o : ObjId) : Type 0 where
  pub conn : ℕ
  pub number : ℕ
  pub strong : Bool
  pub ids : List ObjId
  pub row : Connection
  pub peer : Uuid
  pub came : e ≡ Received conn (message.Clean number strong ids)
  pub there : connection_at s conn ≡ Some row
  pub spoke : row.peer ≡ Some peer
  pub accepted : row.dialled ≡ None
  pub client_is : bytes_eq peer client ≡ true
  pub names : is_id_in ids o ≡ true

-- An entry that does not expire with an event stays, or the event brings a clean call of it. So no Sweep takes an object for which a client has an entry.
abbrev pub EntriesStayUntilCleaned : Type 0
EntriesStayUntilCleaned = (g : Setting) (h : List Event) (e : Event) (client : Uuid) (o : ObjId) → has_entry_for (state_of g h) client o ≡ true → expires_with e (owner.remembered_of (state_of g h).owner.entries client o).expires ≡ false
    → (has_entry_for (state_of g (e ∷ h)) client o ≡ true) ⊎ BringsClean (state_of g h) e client o

-- A dirty call that comes in time, of no more ids than its connection's version allows, sets the entry of its client for each object that it names and that stands.
abbrev pub DirtyCallsSetEntries : Type 0
DirtyCallsSetEntries = (g : Setting) (h : List Event) (conn number period : ℕ) (ids : List ObjId) (row : Connection) (peer : Uuid) (o : ObjId) → connection_at (state_of g h) conn ≡ Some row → row.peer ≡ Some peer → row.dialled ≡ None → fit_frame row ids ≡ true → is_id_in ids o ≡ true → stands (state_of g h) o ≡ true
    → is_late (owner.remembered_of (state_of g h).owner.entries peer o) number ≡ false → has_entry_for (state_of g (Received conn (message.Dirty number period ids) ∷ h)) peer o ≡ true
