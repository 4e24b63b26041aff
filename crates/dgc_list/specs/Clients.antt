-- The clients of one object, in the order in which their entries were first set. (The order is this project's own; the Java RMI specification, 9.1, has a set of clients.)
use Rattle.std.specs.Prelude.{◌≡◌, ℕ, Bool, true, false, List, [], ◌∷◌, ◌++◌, is_some, not, filter, unwrap_or, IsTrue, if◌then◌else◌}
use Rattle.std.specs.Map.{lookup}
use Rattle.std.specs.Str.{bytes_eq}
use Rattle.dgc_list.specs.declared.remembered.Remembered.{Remembered}
use Rattle.dgc_list.specs.Remembered.{blank}

-- what is remembered of a client
abbrev pub remembered_in : List (List ℕ × Remembered) → List ℕ → Remembered
remembered_in clients client = unwrap_or (lookup (bytes_eq client) clients) blank

-- whether there is room for the client
abbrev pub is_known : List (List ℕ × Remembered) → List ℕ → Bool
is_known clients client = is_some (lookup (bytes_eq client) clients)

-- the clients with an entry
abbrev pub leased : List (List ℕ × Remembered) → List (List ℕ)
leased [] = []
leased (e ∷ es) = if is_some e.1.expires then e.0 ∷ leased es else leased es

-- the same is remembered of each client, and the entries stand in the same order
pub record IsSame (old new : List (List ℕ × Remembered)) : Type 0 where
  pub remembered : (client : List ℕ) → remembered_in new client ≡ remembered_in old client
  pub leased : leased new ≡ leased old
  pub known : (client : List ℕ) → IsTrue (is_known old client) → IsTrue (is_known new client)

-- the same is remembered of each client, and the entries stand in the same order; there may be less room
pub record IsAlike (old new : List (List ℕ × Remembered)) : Type 0 where
  pub remembered : (client : List ℕ) → remembered_in new client ≡ remembered_in old client
  pub leased : leased new ≡ leased old

-- the clients without one
abbrev pub without : List ℕ → List (List ℕ) → List (List ℕ)
without client clients = filter (λ other. not (bytes_eq client other)) clients

-- The clients with an entry, after a change of one client: whether it had an entry, and whether it has one now. One that is set goes after
-- the others.
abbrev pub leased_after : List ℕ → Bool → Bool → List (List ℕ) → List (List ℕ)
leased_after client true true clients = clients
leased_after client true false clients = without client clients
leased_after client false true clients = clients ++ client ∷ []
leased_after client false false clients = clients

-- this is remembered of the client now, and all else stays
pub record Sets (client : List ℕ) (remembered : Remembered) (old new : List (List ℕ × Remembered)) : Type 0 where
  pub remembered_is : (other : List ℕ) → remembered_in new other ≡ (if bytes_eq client other then remembered else remembered_in old other)
  pub leased_is : leased new ≡ leased_after client (is_some (remembered_in old client).expires) (is_some remembered.expires) (leased old)
  pub known : (other : List ℕ) → IsTrue (is_known old other) → (bytes_eq client other ≡ false) → IsTrue (is_known new other)
