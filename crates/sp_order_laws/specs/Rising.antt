-- Numbers rise along a connection: of two frames that carry numbers of their kind, the one that was sent later has the greater number (Java RMI specification, 9.1: the sequence numbers of a client's dirty and clean calls rise; that numbers of calls rise is this project's own protocol).
use Rattle.std.specs.Prelude.{◌≡◌, ℕ, List, [], ◌∷◌, ◌++◌, Some, slice_get}
use Rattle.std.specs.List.{flat_map}
use Rattle.dgc_client.specs.Table.{numbers_of}
use Rattle.net_message.specs.declared.message.Message.{Message}
use Rattle.net_message.specs.declared.message.Message.TheVariants as message
use Rattle.sp_rules.specs.Classes.{Setting}
use Rattle.sp_rules.specs.Endings.{call_number_in}
use Rattle.sp_rules.specs.Events.{Event, Output, Send}
use Rattle.sp_rules.specs.Laws.{AllOf, RisesWithin}
use Rattle.sp_rules.specs.Origins.{IsTaken}
use Rattle.sp_rules.specs.Space.{state_of, all_outputs}
use Rattle.sp_rules.specs.Worlds.{World, Space, Pipe, WorldEvent, run, new_world}
use Rattle.sp_laws.specs.Inbound.{OpensOnce}
use Rattle.sp_order_laws.specs.Delivered.{came_on, sent_on}

-- ---- numbers of frames

-- the sequence number of a dirty or clean call
abbrev pub sequence_in : Message → List ℕ
sequence_in (message.Dirty sequence period objects) = sequence ∷ []
sequence_in (message.Clean sequence strong objects) = sequence ∷ []
sequence_in _ = []

abbrev pub frame : Output → List Message
frame (Send conn m) = m ∷ []
frame _ = []

-- the frames among these outputs, on whatever connection they were sent, the first one first
abbrev pub frames_in : List Output → List Message
frames_in os = flat_map frame os

-- the numbers of the calls and lookups among these frames
abbrev pub call_numbers : List Message → List ℕ
call_numbers ms = flat_map call_number_in ms

-- the sequence numbers of the dirty and clean calls among these frames
abbrev pub sequence_numbers : List Message → List ℕ
sequence_numbers ms = flat_map sequence_in ms

-- ---- the laws

-- After every history that a space took, in which no number of a connection comes again: along a connection the numbers of the calls and lookups that were sent rise, from 1 to at most the last that was given.
abbrev pub CallNumbersRise : Type 0
CallNumbersRise = (g : Setting) (h : List Event) (conn : ℕ) → IsTaken g h → OpensOnce h → RisesWithin 0 (state_of g h).calls_made (call_numbers (sent_on conn (all_outputs g h)))

-- After every history that a space took: the sequence numbers of all dirty and clean calls that it sent, on whatever connections, rise from 1 to at most the last that was given.
abbrev pub SequenceNumbersRise : Type 0
SequenceNumbersRise = (g : Setting) (h : List Event) → IsTaken g h → OpensOnce h → RisesWithin 0 (numbers_of (state_of g h).leases) (sequence_numbers (frames_in (all_outputs g h)))

-- The numbers of calls, and those of dirty and clean calls, rise along a row of frames.
pub record Rise (last_call last_sequence : ℕ) (ms : List Message) : Type 0 where
  pub calls : RisesWithin 0 last_call (call_numbers ms)
  pub sequences : RisesWithin 0 last_sequence (sequence_numbers ms)

-- Of a space of a world: they rise along what it sent on each connection.
abbrev pub SendsInOrder : Space → Type 0
SendsInOrder s = (conn : ℕ) → Rise s.state.calls_made (numbers_of s.state.leases) (sent_on conn s.outputs)

-- They rise along what came at the other end, and then what is on its way there.
abbrev pub BringsInOrder : List Space → ℕ → Pipe → Type 0
BringsInOrder spaces conn p = (a b : Space) → slice_get spaces p.dialler.space ≡ Some a → slice_get spaces p.accepter.space ≡ Some b
    → Rise a.state.calls_made (numbers_of a.state.leases) (came_on conn b.history ++ p.accepter.queue)

-- So in every run of every world, whatever is lost or fails.
pub record NumbersRiseIn (w : World) : Type 0 where
  pub sent : AllOf SendsInOrder w.spaces
  pub brought : (conn : ℕ) (p : Pipe) → slice_get w.pipes conn ≡ Some p → BringsInOrder w.spaces conn p

abbrev pub NumbersRise : Type 0
NumbersRise = (settings : List Setting) (events : List WorldEvent) → NumbersRiseIn (run (new_world settings) events)
