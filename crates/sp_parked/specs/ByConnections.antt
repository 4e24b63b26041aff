-- The tickets of the frames that came on a connection. (This project's own.)
use Rattle.std.specs.Prelude.{◌≡◌, ℕ, ◌==◌, not, List, [], ◌∷◌, ◌++◌, filter, MatchOption, option_map, unwrap_or, nat_eq, if◌then◌else◌}
use Rattle.std.specs.Map.{lookup}
use Rattle.rising_map.specs.declared.map.RisingMap.{RisingMap}
use Rattle.rising_map.specs.Rows as rising
use Rattle.rising_map.specs.Rows.{AreRows}
use Rattle.sp_parked.specs.ByReferences.{pairs}
use Rattle.sp_parked.specs.declared.by_connection.ByConnection.{ByConnection}

-- Each connection has these tickets.
pub record AreTickets (holds : ℕ → List ℕ) (table : ByConnection) : Type 0 where
  pub at : (r : ℕ) → MatchOption (lookup (nat_eq r) table.tickets.entries) (holds r ≡ []) (λ (m : RisingMap (Unit {0})). AreRows (pairs (holds r)) m)

-- for how many more tickets of a connection there is room
abbrev pub room_at : ByConnection → ℕ → ℕ
room_at table r = unwrap_or (option_map (λ (m : RisingMap (Unit {0})). rising.room m) (lookup (nat_eq r) table.tickets.entries)) 0

abbrev pub with_ticket : ℕ → ℕ → (ℕ → List ℕ) → ℕ → List ℕ
with_ticket r ticket holds q = if nat_eq r q then holds q ++ ticket ∷ [] else holds q

abbrev pub without_ticket : ℕ → ℕ → (ℕ → List ℕ) → ℕ → List ℕ
without_ticket r ticket holds q = if nat_eq r q then filter (λ t. not (t == ticket)) (holds q) else holds q
