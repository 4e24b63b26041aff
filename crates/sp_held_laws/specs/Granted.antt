-- Leases that an owner granted: since its last clean call a client got the answer to a dirty call that no clean call had overtaken (Java RMI specification, 9.1: a dirty call adds the client to the object's list, a clean call removes it; that this is a reading of the client's own history is this project's own form).
use Rattle.std.specs.Prelude.{◌≡◌, ◌⊎◌, ℕ, ◌+◌, ◌≤◌, ◌||◌, nat_lt, Bool, true, false, List, [], ◌∷◌, is_some}
use Rattle.dgc_client.specs.History.{Event, lease_of}
use Rattle.dgc_client.specs.History.Event.{Held, Dropped, Moment, DirtyMade, CleanMade, DirtySent, DirtyAnswered, DirtyFailed, CleanAnswered, CleanFailed}
use Rattle.dgc_client.specs.Lease.{is_made}
use Rattle.dgc_client.specs.Table.{own}
use Rattle.space_ids.specs.declared.ids.ForeignId.{ForeignId}
use Rattle.sp_rules.specs.Classes.{Setting}
use Rattle.sp_rules.specs.Events as space
use Rattle.sp_rules.specs.Holders.{times_in, fields_of, lease_now}
use Rattle.sp_rules.specs.Lists.{total}
use Rattle.sp_rules.specs.Origins.{IsTaken}
use Rattle.sp_rules.specs.References.{foreign_ids, references_of, references_in}
use Rattle.sp_rules.specs.Space.{state_of}
use Rattle.sp_rules.specs.State.{State, Living, KeptResult, ParkedFrame, standing}
use Rattle.sp_laws.specs.Counted.{times_held}
use Rattle.sp_laws.specs.Inbound.{OpensOnce}

-- ---- granted

-- whether a dirty call of the reference was answered since its last clean call was made. The answer to one that was overtaken counts for nothing.
abbrev pub was_granted : List Event → Bool
was_granted [] = false
was_granted (Held ∷ h) = was_granted h
was_granted (Dropped ∷ h) = was_granted h
was_granted (Moment moment ∷ h) = was_granted h
was_granted (DirtyMade call ∷ h) = was_granted h
was_granted (CleanMade call ∷ h) = false
was_granted (DirtySent call ∷ h) = was_granted h
was_granted (DirtyAnswered call period ∷ h) = is_made (lease_of h).dirty call || was_granted h
was_granted (DirtyFailed call ∷ h) = was_granted h
was_granted (CleanAnswered call ∷ h) = was_granted h
was_granted (CleanFailed call ∷ h) = was_granted h

-- so of a reference in a space
abbrev pub is_granted : State → ForeignId → Bool
is_granted s r = was_granted (own r s.leases)

-- ---- who holds a reference

-- how often the tasks that have started, the fields of standing objects and the held results of a space have a foreign reference
abbrev pub started_of : Setting → State → ForeignId → ℕ
started_of g s r =
    total (λ (t : Living). times_in r (foreign_ids g.id t.task.held)) s.tasks
    + (total (λ o. times_in r (foreign_ids g.id (references_of (fields_of g s o)))) (standing s.store)
    + total (λ (k : KeptResult). times_in r (foreign_ids g.id (references_in k.value))) s.results)

-- how often parked frames wait for its lease
abbrev pub awaited_of : State → ForeignId → ℕ
awaited_of s r = total (λ (p : ParkedFrame). times_in r p.references) s.parked

-- ---- the laws

-- A foreign reference that a task that has started, a field or a held result has is granted, and so is one with a lease.
pub record HeldIsGranted (g : Setting) (s : State) (r : ForeignId) : Type 0 where
  pub held : 1 ≤ started_of g s r → is_granted s r ≡ true
  pub leased : is_some (lease_now s r).lease ≡ true → is_granted s r ≡ true

-- So after every history that a space took, in which no number of a connection comes again, as long as a holder of the reference came fewer than 2^64 - 1 times.
abbrev pub WhatIsHeldIsGranted : Type 0
WhatIsHeldIsGranted = (g : Setting) (h : List space.Event) (r : ForeignId) → IsTaken g h → OpensOnce h → nat_lt (times_held r (state_of g h).leases) 18446744073709551615 ≡ true → HeldIsGranted g (state_of g h) r

-- After such a history a dirty call that is on its way is of a reference that is granted already, or for whose lease a parked frame waits.
abbrev pub DirtyCallsAreAwaited : Type 0
DirtyCallsAreAwaited = (g : Setting) (h : List space.Event) (r : ForeignId) → IsTaken g h → OpensOnce h → nat_lt (times_held r (state_of g h).leases) 18446744073709551615 ≡ true
    → is_some (lease_now (state_of g h) r).dirty ≡ true → (is_granted (state_of g h) r ≡ true) ⊎ (1 ≤ awaited_of (state_of g h) r)
