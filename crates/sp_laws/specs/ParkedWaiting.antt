-- Parked frames wait for leases. (This project's own rule; that a client first makes a dirty call for a reference is the Java RMI specification's, 3.3 and 9.1.)
use Rattle.std.specs.Prelude.{◌≡◌, Bool, false, List}
use Rattle.std.specs.List.{list_all}
use Rattle.sp_rules.specs.Classes.{Setting}
use Rattle.sp_rules.specs.Events.{Event}
use Rattle.sp_rules.specs.Laws.{AllOf}
use Rattle.sp_rules.specs.ParkedFrames.{has_lease}
use Rattle.sp_rules.specs.Space.{on, state_of}
use Rattle.sp_rules.specs.State.{State, ParkedFrame}

-- A frame waits for nothing: each of its references has a lease.
abbrev pub is_free : State → ParkedFrame → Bool
is_free s p = list_all (has_lease s) p.references

-- Each parked frame lacks the lease of a foreign reference in it.
abbrev pub AreWaiting : State → Type 0
AreWaiting s = AllOf (λ (p : ParkedFrame). is_free s p ≡ false) s.parked

-- An event leaves that so.
abbrev pub EventsLeaveFramesWaiting : Type 0
EventsLeaveFramesWaiting = (g : Setting) (s : State) (e : Event) → AreWaiting s → AreWaiting (on g e s).0

-- It is so after every history.
abbrev pub ParkedFramesWait : Type 0
ParkedFramesWait = (g : Setting) (h : List Event) → AreWaiting (state_of g h)
