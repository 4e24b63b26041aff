-- When dirty and clean calls are made: a dirty call while something holds the reference and none is on its way, a clean call when nothing holds it and one is owed, each under a higher number than those before (Java RMI specification, 9.1: a client makes a dirty call for a reference that it begins to hold, and a clean call when nothing holds it).
use Rattle.std.specs.Prelude.{◌≡◌, ℕ, ◌+◌, ◌≤◌, Bool, true, false, List, [], ◌∷◌, None}
use Rattle.dgc_client.specs.History.{Event, lease_of}
use Rattle.dgc_client.specs.History.Event.{Held, Dropped, Moment, DirtyMade, CleanMade, DirtySent, DirtyAnswered, DirtyFailed, CleanAnswered, CleanFailed}
use Rattle.dgc_client.specs.Table.{own}
use Rattle.dgc_client.specs.declared.lease.Owed.TheVariants.{Nothing, Clean, Strong, Again}
use Rattle.dgc_client.specs.declared.lease.Owed.{Owed}
use Rattle.space_ids.specs.declared.ids.ForeignId.{ForeignId}
use Rattle.sp_rules.specs.Classes.{Setting}
use Rattle.sp_rules.specs.Events as space
use Rattle.sp_rules.specs.Space.{state_of}

-- whether a clean call is owed, in whatever way
abbrev pub is_owed : Owed → Bool
is_owed Nothing = false
is_owed Clean = true
is_owed Strong = true
is_owed Again = true

-- a number above those of the dirty and clean calls that were made of a reference
abbrev pub next_of : List Event → ℕ
next_of [] = 0
next_of (DirtyMade call ∷ h) = call + 1
next_of (CleanMade call ∷ h) = call + 1
next_of (Held ∷ h) = next_of h
next_of (Dropped ∷ h) = next_of h
next_of (Moment moment ∷ h) = next_of h
next_of (DirtySent sent ∷ h) = next_of h
next_of (DirtyAnswered answered period ∷ h) = next_of h
next_of (DirtyFailed failed ∷ h) = next_of h
next_of (CleanAnswered answered ∷ h) = next_of h
next_of (CleanFailed failed ∷ h) = next_of h

-- Of what happened to a reference: each dirty call was made while something held it and none was on its way, each clean call when nothing held it and one was owed, and their numbers rise.
abbrev pub AreMadeWhenDue : List Event → Type 0
AreMadeWhenDue [] = Unit {0}
AreMadeWhenDue (DirtyMade call ∷ h) = (next_of h ≤ call) × (((lease_of h).dirty ≡ None) × ((1 ≤ (lease_of h).holders) × AreMadeWhenDue h))
AreMadeWhenDue (CleanMade call ∷ h) = (next_of h ≤ call) × ((is_owed (lease_of h).owed ≡ true) × (((lease_of h).holders ≡ 0) × AreMadeWhenDue h))
AreMadeWhenDue (Held ∷ h) = AreMadeWhenDue h
AreMadeWhenDue (Dropped ∷ h) = AreMadeWhenDue h
AreMadeWhenDue (Moment moment ∷ h) = AreMadeWhenDue h
AreMadeWhenDue (DirtySent sent ∷ h) = AreMadeWhenDue h
AreMadeWhenDue (DirtyAnswered answered period ∷ h) = AreMadeWhenDue h
AreMadeWhenDue (DirtyFailed failed ∷ h) = AreMadeWhenDue h
AreMadeWhenDue (CleanAnswered answered ∷ h) = AreMadeWhenDue h
AreMadeWhenDue (CleanFailed failed ∷ h) = AreMadeWhenDue h

-- So of each foreign reference after every history of a space.
abbrev pub CallsAreMadeWhenDue : Type 0
CallsAreMadeWhenDue = (g : Setting) (h : List space.Event) (r : ForeignId) → AreMadeWhenDue (own r (state_of g h).leases)
