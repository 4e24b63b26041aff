-- The tickets of the frames that name a reference. (This project's own.)
use Rattle.std.specs.Prelude.{◌≡◌, ℕ, ◌==◌, not, List, [], ◌∷◌, ◌++◌, filter, map, MatchOption, option_map, unwrap_or, if◌then◌else◌}
use Rattle.std.specs.Map.{lookup}
use Rattle.space_ids.specs.declared.ids.ForeignId.{ForeignId}
use Rattle.dgc_client.specs.Table.{is_among, is_same}
use Rattle.rising_map.specs.declared.map.RisingMap.{RisingMap}
use Rattle.rising_map.specs.Rows as rising
use Rattle.rising_map.specs.Rows.{AreRows}
use Rattle.sp_parked.specs.declared.by_reference.ByReference.{ByReference}

-- tickets as rows of nothing
abbrev pub pairs : List ℕ → List (ℕ × Unit {0})
pairs tickets = map (λ (ticket : ℕ). (ticket, tt)) tickets

-- Each reference has these tickets.
pub record AreTickets (holds : ForeignId → List ℕ) (table : ByReference) : Type 0 where
  pub at : (r : ForeignId) → MatchOption (lookup (is_same r) table.tickets.entries) (holds r ≡ []) (λ (m : RisingMap (Unit {0})). AreRows (pairs (holds r)) m)

-- for how many more tickets of a reference there is room
abbrev pub room_at : ByReference → ForeignId → ℕ
room_at table r = unwrap_or (option_map (λ (m : RisingMap (Unit {0})). rising.room m) (lookup (is_same r) table.tickets.entries)) 0

abbrev pub with_ticket : ForeignId → ℕ → (ForeignId → List ℕ) → ForeignId → List ℕ
with_ticket r ticket holds q = if is_same r q then holds q ++ ticket ∷ [] else holds q

abbrev pub without_ticket : ForeignId → ℕ → (ForeignId → List ℕ) → ForeignId → List ℕ
without_ticket r ticket holds q = if is_same r q then filter (λ t. not (t == ticket)) (holds q) else holds q

-- the same for each of these references
abbrev pub with_tickets : List ForeignId → ℕ → (ForeignId → List ℕ) → ForeignId → List ℕ
with_tickets references ticket holds q = if is_among q references then holds q ++ ticket ∷ [] else holds q

abbrev pub without_tickets : List ForeignId → ℕ → (ForeignId → List ℕ) → ForeignId → List ℕ
without_tickets references ticket holds q = if is_among q references then filter (λ t. not (t == ticket)) (holds q) else holds q
