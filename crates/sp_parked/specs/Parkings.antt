-- Frames that wait for leases, with their tickets, beside the list of the rules of spaces. (This project's own.)
use Rattle.std.specs.Prelude.{ℕ, suc, ◌==◌, ◌<◌, ◌≡◌, ◌-◌, ◌^◌, true, List, filter}
use Rattle.std.specs.Map.{keys_of}
use Rattle.space_ids.specs.declared.ids.ForeignId.{ForeignId}
use Rattle.dgc_client.specs.Table.{is_among}
use Rattle.rising_map.specs.Rows as rising
use Rattle.rising_map.specs.Rows.{AreAbove, AreBelow, AreRows}
use Rattle.sp_rules.specs.State as rules
use Rattle.sp_parked.specs.ByConnections as connections
use Rattle.sp_parked.specs.ByReferences as references
use Rattle.sp_parked.specs.declared.frame.Frame.{Frame}
use Rattle.sp_parked.specs.declared.frame.Frame.TheVariants.{Call, Returned}
use Rattle.sp_parked.specs.declared.frame.ParkedFrame.{ParkedFrame}
use Rattle.sp_parked.specs.declared.parked.Parked.{Parked}

-- a frame that waits, in the terms of the rules
abbrev pub frame_of : Frame → rules.Frame
frame_of (Call c) = rules.CallFrame c.target c.method c.fuel c.arguments
frame_of (Returned value fuel) = rules.ReturnedFrame value fuel

abbrev pub parked_of : ParkedFrame → rules.ParkedFrame
parked_of p = record { conn = p.conn; number = p.number; frame = frame_of p.frame; references = p.references }

-- the tickets of the frames that name a reference
abbrev pub naming : List (ℕ × ParkedFrame) → ForeignId → List ℕ
naming frames r = keys_of (filter (λ (row : ℕ × ParkedFrame). is_among r row.1.references) frames)

-- the tickets of the frames that came on a connection
abbrev pub on_connection : List (ℕ × ParkedFrame) → ℕ → List ℕ
on_connection frames conn = keys_of (filter (λ (row : ℕ × ParkedFrame). conn == row.1.conn) frames)

-- Frames stand by their tickets, which rise from 1, and their tickets by the references that they name and the connections on which they came.
pub record AreParked (frames : List (ℕ × ParkedFrame)) (table : Parked) : Type 0 where
  pub rows : AreRows frames table.frames
  pub named : references.AreTickets (naming frames) table.by_reference
  pub came : connections.AreTickets (on_connection frames) table.by_connection
  pub given : AreBelow (suc table.last) (keys_of frames)
  pub counted : AreAbove 0 (keys_of frames)

-- the last ticket that was given
abbrev pub last_ticket : Parked → ℕ
last_ticket table = table.last

-- There is room for a frame on this connection that names these references.
pub record HasRoom (conn : ℕ) (names : List ForeignId) (table : Parked) : Type 0 where
  pub frames : 0 < rising.room table.frames
  pub connection : 0 < connections.room_at table.by_connection conn
  pub references : (r : ForeignId) → is_among r names ≡ true → 0 < references.room_at table.by_reference r
  pub tickets : table.last < 2 ^ 64 - 1
