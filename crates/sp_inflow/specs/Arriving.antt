-- The events of a stream of frames. (This project's own rule.)
use Rattle.std.specs.Prelude.{ℕ, Bool, true, false, List, [], ◌∷◌, ◌++◌, map, take}
use Rattle.net_message.specs.declared.message.Message.{Message}
use Rattle.net_engine.specs.declared.inbound.Inflow.{Inflow}
use Rattle.net_engine.specs.declared.inbound.Inflow.TheVariants as inflow
use Rattle.net_frames.specs.Stream.{Held, Rest, Stopped}
use Rattle.sp_rules.specs.Events as rules
use Rattle.sp_inflow.specs.declared.arrivals.Arrival.{Arrival}
use Rattle.sp_inflow.specs.declared.arrivals.Arrival.TheVariants.{Received, Closed, ReadFailed, Bad}

-- ---- the events of a stream

-- How a stream is read: to its end or to the fault of its bytes, or until a read fails after this many frames.
pub data Course : Type 0 where
  IsRead : Course
  FailsAfter : (frames : ℕ) → Course

-- The peer has closed the connection, within a frame or not, or the bytes are no frames.
abbrev pub end_of : ℕ → Held → rules.Event
end_of conn (Rest rest) = rules.Closed conn
end_of conn (Stopped fault) = rules.Bad conn

-- Of a stream of frames that say these messages, and then of its end or fault: each frame is one Received, in turn, and the end one event more.
abbrev pub events_of : ℕ → List Message → Held → Course → List rules.Event
events_of conn messages held IsRead = map (λ m. rules.Received conn m) messages ++ end_of conn held ∷ []
events_of conn messages held (FailsAfter frames) = map (λ m. rules.Received conn m) (take frames messages) ++ rules.ReadFailed conn ∷ []

-- ---- what is told

-- the event of a space
abbrev pub event_of : ℕ → Arrival → rules.Event
event_of conn (Received message) = rules.Received conn message
event_of conn Closed = rules.Closed conn
event_of conn ReadFailed = rules.ReadFailed conn
event_of conn Bad = rules.Bad conn

-- what comes next from a source, as a space is told it
abbrev pub arrival_of : Inflow → Arrival
arrival_of (inflow.Frame message) = Received message
arrival_of (inflow.Closed inside) = Closed
arrival_of inflow.ReadFailed = ReadFailed
arrival_of (inflow.Bad fault) = Bad

-- whether nothing comes after it
abbrev pub is_end : Arrival → Bool
is_end (Received message) = false
is_end Closed = true
is_end ReadFailed = true
is_end Bad = true
