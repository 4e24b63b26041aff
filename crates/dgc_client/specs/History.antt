-- What happens to a foreign reference, newest first, and what a client keeps of it then. (Java RMI specification, 9.1, as a history: this project's own form.)
use Rattle.std.specs.Prelude.{◌≢◌, ℕ, ◌+◌, ◌-◌, List, [], ◌∷◌}
use Rattle.dgc_client.specs.declared.lease.Change.{Change}
use Rattle.dgc_client.specs.declared.lease.Change.TheVariants as change
use Rattle.dgc_client.specs.declared.lease.ClientLease.{ClientLease}
use Rattle.dgc_client.specs.Lease.{fresh, after_hold, after_drop, after_moment, after_dirty, after_clean, after_sent, after_answer, after_failed_dirty, after_answered_clean, after_failed_clean}

-- What happens to a reference: holders come and go, dirty and clean calls are made, go out, are answered or fail, and moments pass. A history is the list of it, newest first.
pub data Event : Type 0 where
  Held : Event
  Dropped : Event
  Moment : (moment : ℕ) → Event
  DirtyMade : (call : ℕ) → Event
  CleanMade : (call : ℕ) → Event
  DirtySent : (call : ℕ) → Event
  DirtyAnswered : (call period : ℕ) → Event
  DirtyFailed : (call : ℕ) → Event
  CleanAnswered : (call : ℕ) → Event
  CleanFailed : (call : ℕ) → Event

-- the event that a change is
abbrev pub event_of : Change → Event
event_of change.Dropped = Dropped
event_of (change.DirtyMade call) = DirtyMade call
event_of (change.CleanMade call) = CleanMade call
event_of (change.DirtySent call) = DirtySent call
event_of (change.DirtyAnswered call period) = DirtyAnswered call period
event_of (change.DirtyFailed call) = DirtyFailed call
event_of (change.CleanAnswered call) = CleanAnswered call
event_of (change.CleanFailed call) = CleanFailed call

-- what one event makes of what is kept
abbrev pub after : Event → ClientLease → ClientLease
after Held l = after_hold l
after Dropped l = after_drop l
after (Moment moment) l = after_moment moment l
after (DirtyMade call) l = after_dirty call l
after (CleanMade call) l = after_clean call l
after (DirtySent call) l = after_sent call l
after (DirtyAnswered call period) l = after_answer call period l
after (DirtyFailed call) l = after_failed_dirty call l
after (CleanAnswered call) l = after_answered_clean call l
after (CleanFailed call) l = after_failed_clean call l

-- what a history leaves of a reference
abbrev pub lease_of : List Event → ClientLease
lease_of [] = fresh 0
lease_of (event ∷ h) = after event (lease_of h)

-- how many holders came and are not gone
abbrev pub holders_of : List Event → ℕ
holders_of [] = 0
holders_of (Held ∷ h) = holders_of h + 1
holders_of (Dropped ∷ h) = holders_of h - 1
holders_of (Moment moment ∷ h) = holders_of h
holders_of (DirtyMade call ∷ h) = holders_of h
holders_of (CleanMade call ∷ h) = holders_of h
holders_of (DirtySent call ∷ h) = holders_of h
holders_of (DirtyAnswered call period ∷ h) = holders_of h
holders_of (DirtyFailed call ∷ h) = holders_of h
holders_of (CleanAnswered call ∷ h) = holders_of h
holders_of (CleanFailed call ∷ h) = holders_of h

-- none of these events makes the dirty call anew
abbrev pub MakesNoDirty : ℕ → List Event → Type 0
MakesNoDirty call [] = Unit {0}
MakesNoDirty call (Held ∷ h) = MakesNoDirty call h
MakesNoDirty call (Dropped ∷ h) = MakesNoDirty call h
MakesNoDirty call (Moment moment ∷ h) = MakesNoDirty call h
MakesNoDirty call (DirtyMade made ∷ h) = (made ≢ call) × MakesNoDirty call h
MakesNoDirty call (CleanMade clean ∷ h) = MakesNoDirty call h
MakesNoDirty call (DirtySent sent ∷ h) = MakesNoDirty call h
MakesNoDirty call (DirtyAnswered answered period ∷ h) = MakesNoDirty call h
MakesNoDirty call (DirtyFailed failed ∷ h) = MakesNoDirty call h
MakesNoDirty call (CleanAnswered clean ∷ h) = MakesNoDirty call h
MakesNoDirty call (CleanFailed clean ∷ h) = MakesNoDirty call h

-- none of these events makes a dirty call, and no clean call fails
abbrev pub IsQuiet : List Event → Type 0
IsQuiet [] = Unit {0}
IsQuiet (Held ∷ h) = IsQuiet h
IsQuiet (Dropped ∷ h) = IsQuiet h
IsQuiet (Moment moment ∷ h) = IsQuiet h
IsQuiet (DirtyMade made ∷ h) = ⊥
IsQuiet (CleanMade clean ∷ h) = IsQuiet h
IsQuiet (DirtySent sent ∷ h) = IsQuiet h
IsQuiet (DirtyAnswered answered period ∷ h) = IsQuiet h
IsQuiet (DirtyFailed failed ∷ h) = IsQuiet h
IsQuiet (CleanAnswered clean ∷ h) = IsQuiet h
IsQuiet (CleanFailed clean ∷ h) = ⊥
