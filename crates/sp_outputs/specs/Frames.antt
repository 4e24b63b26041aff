-- The frames among the outputs of an event, and the turns in which they stand. (This project's own rule.)
use Rattle.std.specs.Prelude.{ℕ, ◌==◌, Bool, List, [], ◌∷◌, if◌then◌else◌}
use Rattle.std.specs.List.{flat_map}
use Rattle.net_message.specs.declared.message.Message.{Message}
use Rattle.sp_rules.specs.Events.{Output, Send, Turn, Hellos, Replies, Waited, Cleans, Dirties, Calls, Acks, Note, Says, Sends, turn_rank}

-- the frame of an output, with its connection
abbrev pub frame_in : Output → List (ℕ × Message)
frame_in (Send conn message) = (conn, message) ∷ []
frame_in _ = []

-- the frames among outputs, in the order in which they stand
abbrev pub frames_in : List Output → List (ℕ × Message)
frames_in outputs = flat_map frame_in outputs

abbrev pub is_turn : Turn → Turn → Bool
is_turn t u = turn_rank t == turn_rank u

-- the frame of a note, if it was noted with this turn
abbrev pub frame_of : Turn → Note → List (ℕ × Message)
frame_of t (Says output) = []
frame_of t (Sends turn conn message) = if is_turn turn t then (conn, message) ∷ [] else []

-- the frames that were noted with a turn, in the order in which they were noted
abbrev pub noted_in : List Note → Turn → List (ℕ × Message)
noted_in notes t = flat_map (frame_of t) notes

-- the turns of frames, in their order
abbrev pub turns : List Turn
turns = Hellos ∷ Replies ∷ Waited ∷ Cleans ∷ Dirties ∷ Calls ∷ Acks ∷ []
