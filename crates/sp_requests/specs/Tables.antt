-- The open connections of a space and the peers that it dialled, as tables beside the lists of the rules of spaces. (This project's own.)
use Rattle.std.specs.Prelude.{◌≡◌, ℕ, ◌==◌, ◌||◌, not, nat_eq, Bool, true, false, List, [], ◌∷◌, ◌++◌, Option, None, Some, is_some, find, filter, option_map, if◌then◌else◌}
use Rattle.std.specs.List.{list_any}
use Rattle.std.specs.Map.{lookup}
use Rattle.std.specs.Str.{bytes_eq}
use Rattle.indexmap.specs.IndexMap.{spare}
use Rattle.uuid.specs.declared.Uuid.{Uuid}
use Rattle.sp_rules.specs.Laws.{AllOf}
use Rattle.sp_rules.specs.Lines.{AreDialledOnce, dialled_to}
use Rattle.sp_rules.specs.State as rules
use Rattle.sp_requests.specs.declared.connection.Connection.{Connection}
use Rattle.sp_requests.specs.declared.connection.Link.{Link}
use Rattle.sp_requests.specs.declared.connection.Link.TheVariants.{Dialling, Open}
use Rattle.sp_requests.specs.declared.connections.Connections.{Connections}

-- ---- lists of the rules

-- the open connection of a number
abbrev pub numbered : ℕ → List rules.Connection → Option rules.Connection
numbered conn rows = find (λ (c : rules.Connection). c.number == conn) rows

-- the connection that was dialled to a peer
abbrev pub to_peer : Uuid → List rules.Connection → Option rules.Connection
to_peer peer rows = dialled_to rows peer

abbrev pub is_dialled : Uuid → List Uuid → Bool
is_dialled peer dialling = list_any (bytes_eq peer) dialling

-- A peer is dialled once, and only if no connection to it is open.
abbrev pub dialled_once : Uuid → List rules.Connection → List Uuid → List Uuid
dialled_once peer rows dialling = if is_some (to_peer peer rows) || is_dialled peer dialling then dialling else dialling ++ peer ∷ []

-- A peer is no longer being dialled.
abbrev pub no_more : Option Uuid → List Uuid → List Uuid
no_more None dialling = dialling
no_more (Some peer) dialling = filter (λ p. not (bytes_eq peer p)) dialling

-- a connection as it is opened
abbrev pub opened : ℕ → Option Uuid → rules.Connection
opened conn dialled = record { number = conn; dialled = dialled; peer = None; version = 1; last = 0; sent = [] }

-- no two connections have one number
abbrev pub AreNumbered : List rules.Connection → Type 0
AreNumbered [] = Unit {0}
AreNumbered (c ∷ others) = AllOf (λ (d : rules.Connection). (d.number == c.number) ≡ false) others × AreNumbered others

-- ---- tables

-- what a table keeps of a connection: all but its number, and what was sent on it
abbrev pub seen : rules.Connection → Connection
seen c = record { dialled = c.dialled; peer = c.peer; version = c.version; last = c.last }

-- how far a space is with a peer that it dialled
abbrev pub link_of : Uuid → List rules.Connection → List Uuid → Option Link
link_of peer rows dialling = if is_dialled peer dialling then Some Dialling else option_map (λ (c : rules.Connection). Open c.number) (to_peer peer rows)

-- Each connection is found by its number, each that was dialled and each peer that is being dialled by the peer. No two connections have one number, or were dialled to one peer; none was dialled to a peer that is being dialled.
pub record AreConnections (rows : List rules.Connection) (dialling : List Uuid) (table : Connections) : Type 0 where
  pub numbers : (conn : ℕ) → lookup (nat_eq conn) table.rows.entries ≡ option_map seen (numbered conn rows)
  pub links : (peer : Uuid) → lookup (bytes_eq peer) table.links.entries ≡ link_of peer rows dialling
  pub numbered_once : AreNumbered rows
  pub dialled_once : AreDialledOnce rows
  pub apart : (peer : Uuid) → is_dialled peer dialling ≡ true → to_peer peer rows ≡ None

-- for how many more connections a table has room
abbrev pub room : Connections → ℕ
room table = spare table.rows

-- for how many more peers to be dialled it has room
abbrev pub peer_room : Connections → ℕ
peer_room table = spare table.links
