-- A client counts exactly the holders of a foreign reference that there are (Java RMI specification, 9.1: a client makes a clean call when
-- no reference to the object is left in it).
use Rattle.std.specs.Prelude.{◌≡◌, ℕ, ◌+◌, ◌&&◌, nat_lt, true, List, [], ◌∷◌, if◌then◌else◌}
use Rattle.dgc_client.specs.Table.{Told, On, At, Numbered, is_same, is_hold}
use Rattle.space_ids.specs.declared.ids.ForeignId.{ForeignId}
use Rattle.sp_rules.specs.Classes.{Setting}
use Rattle.sp_rules.specs.Events.{Event}
use Rattle.sp_rules.specs.Holders.{lease_now, holders_of}
use Rattle.sp_rules.specs.Origins.{IsTaken}
use Rattle.sp_rules.specs.Space.{state_of}

-- how often a holder of a reference came
abbrev pub times_held : ForeignId → List Told → ℕ
times_held r [] = 0
times_held r (On other event ∷ h) = if is_same other r && is_hold event then times_held r h + 1 else times_held r h
times_held r (At moment ∷ h) = times_held r h
times_held r (Numbered ∷ h) = times_held r h

-- After every history that a space took, its leases count exactly the holders of a foreign reference: the living tasks, fields of standing
-- objects, held results and parked frames that have it, each as often as it has it. If holders came 2^64 - 1 times or more, they may no
-- longer be counted.
abbrev pub HoldersAreCounted : Type 0
HoldersAreCounted = (g : Setting) (h : List Event) → IsTaken g h → (r : ForeignId) → nat_lt (times_held r (state_of g h).leases) 18446744073709551615 ≡ true
    → (lease_now (state_of g h) r).holders ≡ holders_of g (state_of g h) r
