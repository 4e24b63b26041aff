-- What is asked of all peers, as a table of tables beside the list of the rules of spaces. (This project's own protocol; calls and dirty and clean calls are the Java RMI specification's, 3.2 and 9.1.)
use Rattle.std.specs.Prelude.{◌≡◌, ℕ, ◌≤◌, ◌==◌, List, [], ◌∷◌, Option, None, Some}
use Rattle.std.specs.Map.{lookup}
use Rattle.std.specs.Str.{bytes_eq}
use Rattle.net_message.specs.declared.message.Message.{Message}
use Rattle.uuid.specs.declared.Uuid.{Uuid}
use Rattle.sp_rules.specs.Lines.{AreDialledOnce, dialled_to}
use Rattle.sp_rules.specs.Lists.{at_first}
use Rattle.sp_rules.specs.State.{Connection, Request}
use Rattle.sp_requests.specs.Tables.{AreNumbered}
use Rattle.sp_requests.specs.Asking.{AreRequests, call_room, group_room, waiting_room}
use Rattle.sp_requests.specs.Ends.{HasEndRoom}
use Rattle.sp_requests.specs.Peers.{of_peer}
use Rattle.sp_requests.specs.declared.ended.Ending.{Ending}
use Rattle.sp_requests.specs.declared.requests.Requests.{Requests}
use Rattle.sp_requests.specs.declared.peers.Peers.{Peers}

-- ---- connections

-- A frame goes out on the connection of this number, whose newest frame stands first.
abbrev pub sent_on : ℕ → Message → List Connection → List Connection
sent_on conn m connections = at_first (λ (c : Connection). c.number == conn) (λ (c : Connection). record c { sent = m ∷ c.sent }) connections

-- ---- rows

-- the row of a peer
abbrev pub row_of : Uuid → Peers → Option Requests
row_of peer table = lookup (bytes_eq peer) table.rows.entries

-- What is asked of a peer stands in its row. Before a connection is dialled to it nothing is out, on whatever connection, and no frame went. A peer without a row has no connection, and nothing is asked of it.
abbrev pub IsAsked : Option Connection → List Request → Option Requests → Type 0
IsAsked None rows None = rows ≡ []
IsAsked (Some c) rows None = ⊥
IsAsked None rows (Some t) = (conn : ℕ) → AreRequests conn rows [] t
IsAsked (Some c) rows (Some t) = AreRequests c.number rows c.sent t

-- Of each peer what is asked of it stands in its row, with what went out on the connection that was dialled to it. No two connections have one number, or were dialled to one peer.
pub record AreAsked (connections : List Connection) (requests : List Request) (table : Peers) : Type 0 where
  pub asked : (peer : Uuid) → IsAsked (dialled_to connections peer) (of_peer peer requests) (row_of peer table)
  pub numbered_once : AreNumbered connections
  pub dialled_once : AreDialledOnce connections

-- ---- room

abbrev pub IsRoom : Option Requests → ℕ → ℕ → ℕ → Type 0
IsRoom None waiting calls groups = ⊥
IsRoom (Some t) waiting calls groups = (waiting ≤ waiting_room t) × (calls ≤ call_room t) × (groups ≤ group_room t)

-- The peer has a row, and room in it for this many more requests that wait, calls that are out, and groups that are out.
abbrev pub HasRoom : Uuid → ℕ → ℕ → ℕ → Peers → Type 0
HasRoom peer waiting calls groups table = IsRoom (row_of peer table) waiting calls groups

-- There is room for the end of all that stands in a row.
abbrev pub IsEndRoom : Option Requests → Ending → Type 0
IsEndRoom None ending = Unit {0}
IsEndRoom (Some t) ending = HasEndRoom t ending
