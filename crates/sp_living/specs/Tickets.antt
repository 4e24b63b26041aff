-- Parked frames by their tickets. (This project's own.)
use Rattle.std.specs.Prelude.{◌≡◌, ℕ, ◌==◌, nat_eq, Bool, false, List, Option, None, Some, filter}
use Rattle.std.specs.Map.{keys_of, lookup}
use Rattle.uuid.specs.declared.Uuid.{Uuid}
use Rattle.sp_parked.specs.Parkings.{AreParked, parked_of}
use Rattle.sp_parked.specs.declared.frame.ParkedFrame.{ParkedFrame}
use Rattle.sp_parked.specs.declared.parked.Parked.{Parked}
use Rattle.sp_rules.specs.State as rules
use Rattle.sp_rules.specs.State.{State, Connection, connection_at}
use Rattle.sp_living.specs.Frames.{is_free}

-- These are the tickets of the parked frames of which this is true, in the order in which they came.
abbrev pub AreTicketsOf : (rules.ParkedFrame → Bool) → List ℕ → Parked → Type 0
AreTicketsOf is tickets table = (frames : List (ℕ × ParkedFrame)) → AreParked frames table → tickets ≡ keys_of (filter (λ (row : ℕ × ParkedFrame). is (parked_of row.1)) frames)

abbrev pub is_found : (rules.ParkedFrame → Bool) → Option ParkedFrame → Bool
is_found is None = false
is_found is (Some frame) = is (parked_of frame)

-- whether a frame waits under a ticket, and for nothing
abbrev pub free_at : State → ℕ → List (ℕ × ParkedFrame) → Bool
free_at s ticket frames = is_found (is_free s) (lookup (nat_eq ticket) frames)

-- whether a frame of this number waits under a ticket
abbrev pub numbered_at : ℕ → ℕ → List (ℕ × ParkedFrame) → Bool
numbered_at number ticket frames = is_found (λ (p : rules.ParkedFrame). p.number == number) (lookup (nat_eq ticket) frames)

-- A connection is open, and this space dialled it.
pub record IsOurs (conn : ℕ) (s : State) : Type 0 where
  pub row : Connection
  pub peer : Uuid
  pub stands : connection_at s conn ≡ Some row
  pub dialled : row.dialled ≡ Some peer
