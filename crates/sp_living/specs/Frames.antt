-- Frames that are parked. (This project's own.)
use Rattle.std.specs.Prelude.{◌≡◌, Bool, false, List, [], ◌∷◌}
use Rattle.std.specs.List.{list_all}
use Rattle.sp_rules.specs.Laws.{AllOf}
use Rattle.sp_rules.specs.ParkedFrames.{has_lease, is_parked_at}
use Rattle.sp_rules.specs.State.{State, ParkedFrame}

-- No two frames are parked under one connection and number.
abbrev pub AreOnce : List ParkedFrame → Type 0
AreOnce [] = Unit {0}
AreOnce (p ∷ others) = AllOf (λ (q : ParkedFrame). is_parked_at p.conn p.number q ≡ false) others × AreOnce others

-- A frame waits for nothing: each of its references has a lease.
abbrev pub is_free : State → ParkedFrame → Bool
is_free s p = list_all (has_lease s) p.references

-- the state with these parked frames
abbrev pub with_parked : List ParkedFrame → State → State
with_parked parked s = record s { parked = parked }
