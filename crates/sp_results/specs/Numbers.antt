-- The tickets of results that wait for an Ack, by connections and numbers. (This project's own.)
use Rattle.std.specs.Prelude.{◌≡◌, ℕ, Bool, ◌==◌, not, List, [], ◌∷◌, ◌++◌, filter, length, MatchOption, option_map, unwrap_or, nat_eq, if◌then◌else◌}
use Rattle.std.specs.List.{IsDistinct}
use Rattle.std.specs.Map.{keys_of, lookup}
use Rattle.indexmap.specs.IndexMap.{spare}
use Rattle.sp_results.specs.declared.unacknowledged.Numbers.{Numbers}
use Rattle.sp_results.specs.declared.unacknowledged.Unacknowledged.{Unacknowledged}

-- Each is as often in one list as in the other.
abbrev pub HaveSame : {A : Type 0} → List A → List A → Type 0
HaveSame {A} xs ys = (is : A → Bool) → length (filter is xs) ≡ length (filter is ys)

-- Each connection has these numbers with their tickets, and each number once.
pub record AreTickets (holds : ℕ → List (ℕ × ℕ)) (table : Unacknowledged) : Type 0 where
  pub at : (conn : ℕ) → MatchOption (lookup (nat_eq conn) table.numbers.entries) (holds conn ≡ []) (λ (m : Numbers). (number : ℕ) → lookup (nat_eq number) m.tickets.entries ≡ lookup (nat_eq number) (holds conn))
  pub once : (conn : ℕ) → IsDistinct nat_eq (keys_of (holds conn))

-- how many tickets a connection has
abbrev pub count_at : Unacknowledged → ℕ → ℕ
count_at table conn = unwrap_or (option_map (λ (m : Numbers). length m.tickets.entries) (lookup (nat_eq conn) table.numbers.entries)) 0

-- for how many more tickets of a connection there is room
abbrev pub room_at : Unacknowledged → ℕ → ℕ
room_at table conn = unwrap_or (option_map (λ (m : Numbers). spare m.tickets) (lookup (nat_eq conn) table.numbers.entries)) 0

abbrev pub with_number : ℕ → ℕ → ℕ → (ℕ → List (ℕ × ℕ)) → ℕ → List (ℕ × ℕ)
with_number conn number ticket holds c = if nat_eq conn c then holds c ++ (number, ticket) ∷ [] else holds c

abbrev pub without_number : ℕ → ℕ → (ℕ → List (ℕ × ℕ)) → ℕ → List (ℕ × ℕ)
without_number conn number holds c = if nat_eq conn c then filter (λ (row : ℕ × ℕ). not (row.0 == number)) (holds c) else holds c

abbrev pub without_connection : ℕ → (ℕ → List (ℕ × ℕ)) → ℕ → List (ℕ × ℕ)
without_connection conn holds c = if nat_eq conn c then [] else holds c
