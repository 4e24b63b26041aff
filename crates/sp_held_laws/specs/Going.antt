-- Frames go when their leases are there: a call starts, and a result is passed on and acknowledged, only once each foreign reference in it has a lease (this project's own rule; a client makes a dirty call for a reference that it begins to hold by the Java RMI specification, 9.1).
use Rattle.std.specs.Prelude.{◌≡◌, ◌⊎◌, true, List, [], ◌∷◌}
use Rattle.std.specs.List.{list_all}
use Rattle.sp_rules.specs.Classes.{Setting}
use Rattle.sp_rules.specs.ParkedFrames.{is_parked_at, has_lease, go_all}
use Rattle.sp_rules.specs.State.{State, ParkedFrame}

-- the frame is one of these
abbrev pub IsParked : ParkedFrame → List ParkedFrame → Type 0
IsParked p [] = ⊥
IsParked p (x ∷ xs) = (p ≡ x) ⊎ IsParked p xs

-- A frame is parked under the connection and number of this one, and each reference for which it waits has a lease.
pub record HasItsLeases (s : State) (p : ParkedFrame) : Type 0 where
  pub frame : ParkedFrame
  pub parked : IsParked frame s.parked
  pub same : is_parked_at frame.conn frame.number p ≡ true
  pub leased : list_all (has_lease s) frame.references ≡ true

-- As frames go, each frame stays parked or has its leases.
abbrev pub FramesGoWithLeases : Type 0
FramesGoWithLeases = (g : Setting) (s : State) (p : ParkedFrame) → IsParked p s.parked → IsParked p (go_all g s).parked ⊎ HasItsLeases s p
