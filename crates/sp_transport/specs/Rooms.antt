-- For how much more a transport has room: an event makes room first, and then changes what it changes without taking memory. (This project's own.)
use Rattle.std.specs.Prelude.{◌≡◌, ◌≤◌, ◌+◌, ℕ, false}
use Rattle.std.specs.Str.{bytes_eq}
use Rattle.dgc_client.specs.Table as client
use Rattle.uuid.specs.declared.Uuid.{Uuid}
use Rattle.sp_requests.specs.Tables as tables
use Rattle.sp_requests.specs.AllAsked as asked
use Rattle.sp_outputs.specs.Notes as outputs
use Rattle.sp_transport.specs.declared.transport.Transport.{Transport}

-- for how many more references that were never held
abbrev pub lease_room : Transport → ℕ
lease_room t = client.room t.leases

-- for how many more connections
abbrev pub connection_room : Transport → ℕ
connection_room t = tables.room t.connections

-- for how many more peers to be dialled
abbrev pub peer_room : Transport → ℕ
peer_room t = tables.peer_room t.connections

-- for how many more outputs
abbrev pub note_room : Transport → ℕ
note_room t = outputs.room t.outputs

-- The peer has a row, with room for this many more requests that wait, calls that are out, and groups that are out.
abbrev pub HasRow : Uuid → ℕ → ℕ → ℕ → Transport → Type 0
HasRow peer waiting calls groups t = asked.HasRoom peer waiting calls groups t.peers

-- The room of each kind is smaller by this much at most: for references that are held, connections that open, peers that are dialled, and outputs.
pub record Spends (held opened dialled said : ℕ) (old new : Transport) : Type 0 where
  pub references : lease_room old ≤ lease_room new + held
  pub connections : connection_room old ≤ connection_room new + opened
  pub peers : peer_room old ≤ peer_room new + dialled
  pub notes : note_room old ≤ note_room new + said

-- The rows of all peers have the room that they had.
abbrev pub KeepsRows : Transport → Transport → Type 0
KeepsRows old new = (peer : Uuid) (w c g : ℕ) → HasRow peer w c g old → HasRow peer w c g new

-- So do those of all other peers.
abbrev pub KeepsOtherRows : Uuid → Transport → Transport → Type 0
KeepsOtherRows peer old new = (other : Uuid) (w c g : ℕ) → bytes_eq peer other ≡ false → HasRow other w c g old → HasRow other w c g new
