-- The connections of a space with the frames that the event under way sends: in the order in which they are noted, and in the order in which they go out. (This project's own.)
use Rattle.std.specs.Prelude.{◌≡◌, ◌≤◌, ◌==◌, ◌⊎◌, Bool, true, false, List, [], ◌∷◌, map, fold, is_some}
use Rattle.std.specs.List.{flat_map}
use Rattle.net_message.specs.declared.message.Message.{Message}
use Rattle.sp_rules.specs.Endings.{call_number_in}
use Rattle.sp_rules.specs.Events.{Output, Send, Note, Says, Sends, Turn, Hellos, Replies, Waited, Cleans, Dirties, Calls, Acks, turn_rank, in_order}
use Rattle.sp_rules.specs.Laws.{AllOf}
use Rattle.sp_rules.specs.State as rules
use Rattle.sp_rules.specs.State.{State, Connection}
use Rattle.sp_requests.specs.Asking.{sequence_in}
use Rattle.sp_requests.specs.AllAsked.{sent_on}

-- ---- frames of the event under way

abbrev pub note_sent : List Connection → Note → List Connection
note_sent connections (Says output) = connections
note_sent connections (Sends turn conn m) = sent_on conn m connections

abbrev pub recorded : List Connection → List Note → List Connection
recorded connections notes = fold note_sent connections notes

-- the connections with the frames that the event has noted, as it noted them
abbrev pub said : State → List Connection
said s = recorded s.connections s.notes

abbrev pub output_sent : List Connection → Output → List Connection
output_sent connections (Send conn m) = sent_on conn m connections
output_sent connections _ = connections

-- the same with the frames in the order in which they go out
abbrev pub recorded_in_order : List Connection → List Note → List Connection
recorded_in_order connections notes = fold output_sent connections (in_order notes)

-- ---- frames that count alike

-- Two lists of frames have the same calls and lookups, each after the same number of frames, and the same dirty and clean calls in the same order.
pub record CountAlike (sent others : List Message) : Type 0 where
  pub calls : map call_number_in sent ≡ map call_number_in others
  pub sequences : flat_map sequence_in sent ≡ flat_map sequence_in others

-- Two rows are of one connection; if this space dialled it, what was sent on it counts alike.
pub record IsLineAlike (c d : Connection) : Type 0 where
  pub number : c.number ≡ d.number
  pub dialled : c.dialled ≡ d.dialled
  pub peer : c.peer ≡ d.peer
  pub sent : is_some c.dialled ≡ true → CountAlike c.sent d.sent

abbrev pub AreLinesAlike : List Connection → List Connection → Type 0
AreLinesAlike [] [] = Unit {0}
AreLinesAlike [] (d ∷ ds) = ⊥
AreLinesAlike (c ∷ cs) [] = ⊥
AreLinesAlike (c ∷ cs) (d ∷ ds) = IsLineAlike c d × AreLinesAlike cs ds

-- ---- notes

abbrev pub is_said : Output → Bool
is_said (Send conn m) = false
is_said _ = true

-- Frames of the last turn are Acks: neither calls, nor dirty or clean calls.
abbrev pub IsOfTurn : Turn → Message → Type 0
IsOfTurn Hellos m = Unit {0}
IsOfTurn Replies m = Unit {0}
IsOfTurn Waited m = Unit {0}
IsOfTurn Cleans m = Unit {0}
IsOfTurn Dirties m = Unit {0}
IsOfTurn Calls m = Unit {0}
IsOfTurn Acks m = (call_number_in m ≡ []) × (sequence_in m ≡ [])

-- Each frame is noted with a turn.
abbrev pub IsNoted : Note → Type 0
IsNoted (Says output) = is_said output ≡ true
IsNoted (Sends turn conn m) = IsOfTurn turn m

-- A frame of this turn stands after each frame that is noted: so may a call or lookup be noted.
abbrev pub IsNotAfter : Turn → Note → Type 0
IsNotAfter turn (Says output) = Unit {0}
IsNotAfter turn (Sends t conn m) = turn_rank t ≤ turn_rank turn

abbrev pub is_acks : Turn → Bool
is_acks turn = turn_rank turn == 10

-- It stands after each, but for Acks: so may dirty or clean calls be noted.
abbrev pub IsNotAfterButAcks : Turn → Note → Type 0
IsNotAfterButAcks turn (Says output) = Unit {0}
IsNotAfterButAcks turn (Sends t conn m) = (turn_rank t ≤ turn_rank turn) ⊎ (is_acks t ≡ true)

-- All that is noted stands before calls and lookups of this turn.
abbrev pub CallsMayGo : Turn → State → Type 0
CallsMayGo turn s = AllOf (IsNotAfter turn) s.notes

-- All that is noted stands before dirty and clean calls of this turn, but for Acks.
abbrev pub GroupsMayGo : Turn → State → Type 0
GroupsMayGo turn s = AllOf (IsNotAfterButAcks turn) s.notes

-- All that is noted stands before a request of this turn.
abbrev pub MayGo : Turn → rules.Asked → State → Type 0
MayGo turn (rules.Calls number task lent kind m) s = CallsMayGo turn s
MayGo turn (rules.LooksUp number task name) s = CallsMayGo turn s
MayGo turn (rules.Tells call group) s = GroupsMayGo turn s
