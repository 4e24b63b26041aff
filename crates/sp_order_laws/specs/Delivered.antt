-- What comes on a connection was sent there by its other end: the frames that came and those on their way are some of those that it sent, in their order, each once (this project's own protocol; the Java RMI specification leaves connections to TCP).
use Rattle.std.specs.Prelude.{◌≡◌, ◌⊎◌, ℕ, ◌==◌, ◌||◌, Bool, true, false, List, [], ◌∷◌, ◌++◌, Option, None, Some, slice_get, if◌then◌else◌}
use Rattle.net_message.specs.declared.message.Message.{Message}
use Rattle.sp_rules.specs.Classes.{Setting}
use Rattle.sp_rules.specs.Events.{Event, Opened, Received, Output, Send}
use Rattle.sp_rules.specs.Worlds.{World, Space, End, Pipe, WorldEvent, side, other, run, new_world}

-- ---- frames that come, and frames that are sent

abbrev pub frame_of : ℕ → Event → List Message
frame_of conn (Received c m) = if c == conn then m ∷ [] else []
frame_of conn _ = []

-- the frames that came on a connection in a history, the first one first
abbrev pub came_on : ℕ → List Event → List Message
came_on conn [] = []
came_on conn (e ∷ h) = came_on conn h ++ frame_of conn e

abbrev pub frame_in : ℕ → Output → List Message
frame_in conn (Send c m) = if c == conn then m ∷ [] else []
frame_in conn _ = []

-- the frames among these outputs that were sent on a connection, the first one first
abbrev pub sent_on : ℕ → List Output → List Message
sent_on conn [] = []
sent_on conn (o ∷ os) = frame_in conn o ++ sent_on conn os

abbrev pub outputs_in : Option Space → List Output
outputs_in None = []
outputs_in (Some s) = s.outputs

-- all that the space of this number answered, the first output first
abbrev pub outputs_at : List Space → ℕ → List Output
outputs_at spaces i = outputs_in (slice_get spaces i)

-- The first are some of the others, in their order, each once.
abbrev pub AreSomeOf : List Message → List Message → Type 0
AreSomeOf [] ys = Unit {0}
AreSomeOf (x ∷ xs) [] = ⊥
AreSomeOf (x ∷ xs) (y ∷ ys) = ((x ≡ y) × AreSomeOf xs ys) ⊎ AreSomeOf (x ∷ xs) ys

-- ---- ends of connections

-- whether an event is of a connection: it opens there, or a frame comes
abbrev pub is_event_on : ℕ → Event → Bool
is_event_on conn (Opened c dialled) = c == conn
is_event_on conn (Received c m) = c == conn
is_event_on conn _ = false

abbrev pub has_event_on : ℕ → List Event → Bool
has_event_on conn [] = false
has_event_on conn (e ∷ h) = is_event_on conn e || has_event_on conn h

-- A space is one of the two ends of a connection.
abbrev pub IsEnd : ℕ → Option Pipe → Type 0
IsEnd i None = ⊥
IsEnd i (Some p) = (p.dialler.space ≡ i) ⊎ (p.accepter.space ≡ i)

-- ---- the law

-- What came at an end of a connection, and then what is on its way there, are some of the frames that the other end sent.
abbrev pub BringsWhatWasSent : List Space → ℕ → Pipe → End → Type 0
BringsWhatWasSent spaces conn p to = (s : Space) → slice_get spaces (side to p).space ≡ Some s
    → AreSomeOf (came_on conn s.history ++ (side to p).queue) (sent_on conn (outputs_at spaces (side (other to) p).space))

-- So of both ends of each connection; and where one opens in a space, or a frame comes, the space is an end of it.
pub record Delivers (w : World) : Type 0 where
  pub brings : (conn : ℕ) (p : Pipe) (to : End) → slice_get w.pipes conn ≡ Some p → BringsWhatWasSent w.spaces conn p to
  pub ends : (i conn : ℕ) (s : Space) → slice_get w.spaces i ≡ Some s → has_event_on conn s.history ≡ true → IsEnd i (slice_get w.pipes conn)

-- So in every run of every world, whatever is lost or fails.
abbrev pub WhatComesWasSent : Type 0
WhatComesWasSent = (settings : List Setting) (events : List WorldEvent) → Delivers (run (new_world settings) events)
