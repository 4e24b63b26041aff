-- When a space's side of the transport is in the state that the rules of spaces give: one line a part. (This project's own; calls, dirty and clean calls are the Java RMI specification's, 3.2 and 9.1.)
use Rattle.std.specs.Prelude.{◌≡◌, ◌≤◌, ◌-◌, ℕ, true, false, List, [], ◌∷◌, Option, None, Some, is_some, if◌then◌else◌}
use Rattle.std.specs.List.{flat_map}
use Rattle.dgc_client.specs.Table as client
use Rattle.uuid.specs.declared.Uuid.{Uuid}
use Rattle.sp_rules.specs.Endings.{call_number_in}
use Rattle.sp_rules.specs.Events.{Note}
use Rattle.sp_rules.specs.Laws.{AllOf, RisesWithin}
use Rattle.sp_rules.specs.Lines.{WaitsForHello, dialled_to}
use Rattle.sp_rules.specs.OwnEvents.{is_among}
use Rattle.sp_rules.specs.Requests.{hello_came, is_waiting}
use Rattle.sp_rules.specs.State.{State, Connection, Request, Asked, Calls, LooksUp, Tells, Waits}
use Rattle.sp_requests.specs.Tables.{AreConnections}
use Rattle.sp_requests.specs.Asking.{IsNamed, asked_of, last_call, last_sequence}
use Rattle.sp_requests.specs.AllAsked.{AreAsked}
use Rattle.sp_outputs.specs.Notes.{notes_of}
use Rattle.sp_transport.specs.declared.transport.Fresh.{Fresh}
use Rattle.sp_transport.specs.declared.transport.Transport.{Transport}
use Rattle.sp_transport.specs.Said.{AreLinesAlike, IsNoted, recorded, recorded_in_order, said}

-- ---- numbers of calls

-- the number of a call or lookup
abbrev pub call_number : Asked → List ℕ
call_number (Calls number task lent kind m) = number ∷ []
call_number (LooksUp number task name) = number ∷ []
call_number (Tells call group) = []

abbrev pub waiting_number : Request → List ℕ
waiting_number r = if is_waiting r.stage then call_number r.asked else []

-- the numbers of the calls and lookups that wait to be sent
abbrev pub waiting_numbers : List Request → List ℕ
waiting_numbers requests = flat_map waiting_number requests

-- the number of the last call or lookup that was asked: all that were made were, but for the one of the event under way
abbrev pub asked_up_to : ℕ → List Request → ℕ
asked_up_to made [] = made
asked_up_to made (r ∷ rs) = made - 1

-- ---- the call of the event under way

abbrev pub fresh_of : Option Fresh → List Request
fresh_of None = []
fresh_of (Some f) = record { peer = f.peer; asked = asked_of f.asked; stage = Waits } ∷ []

-- It is the last call or lookup that was made, and numbers begin at 1.
abbrev pub IsFresh : ℕ → Request → Type 0
IsFresh made r = (call_number r.asked ≡ made ∷ []) × IsNamed r.asked × (1 ≤ made)

-- ---- lines

-- Of a connection that was dialled to a peer: no call or lookup that went out on it has a number above the last that was asked, and no dirty or clean call one above the last that was given; before the peer's Hello no call or lookup went out.
pub record IsLine (asked told : ℕ) (c : Connection) : Type 0 where
  pub called : last_call c.sent ≤ asked
  pub told_of : last_sequence c.sent ≤ told
  pub quiet : c.peer ≡ None → flat_map call_number_in c.sent ≡ []

-- What is out went to a peer whose Hello came.
abbrev pub WentAfterHello : List Connection → Request → Type 0
WentAfterHello connections r = is_waiting r.stage ≡ false → is_some (hello_came (dialled_to connections r.peer)) ≡ true

-- the parts of a state that tell who waits for whom, and what goes out in which order
pub record LineParts : Type 0 where
  pub connections : List Connection
  pub dialling : List Uuid
  pub requests : List Request
  pub notes : List Note
  pub made : ℕ
  pub fresh : List Request
  -- the sequence number that was given last
  pub told : ℕ

abbrev pub line_parts : State → LineParts
line_parts s = record {
  connections = s.connections;
  dialling = s.dialling;
  requests = s.requests;
  notes = s.notes;
  made = s.calls_made;
  fresh = s.fresh;
  told = client.numbers_of s.leases;
}

-- What a space asks stands in lines: what waits, waits for a Hello that is to come; numbers of calls rise as they wait and as they go out, and none is above the last that was made. In the order in which the frames of the event go out they count as they were noted.
pub record AreLines (p : LineParts) : Type 0 where
  pub sent : (peer : Uuid) (c : Connection) → dialled_to (recorded p.connections p.notes) peer ≡ Some c → IsLine (asked_up_to p.made p.fresh) p.told c
  pub waiting : AllOf (WaitsForHello p.connections p.dialling) p.requests
  pub out : AllOf (WentAfterHello p.connections) p.requests
  pub rising : RisesWithin 0 (asked_up_to p.made p.fresh) (waiting_numbers p.requests)
  pub fresh_is : AllOf (IsFresh p.made) p.fresh
  pub noted : AllOf IsNoted p.notes
  pub alike : AreLinesAlike (recorded p.connections p.notes) (recorded_in_order p.connections p.notes)

-- ---- the whole

-- The leases, connections, noted peers and requests are those of the state, with what the event under way has sent so far; so are the numbers that were given, the call of the event, and what it answers.
pub record IsTransport (s : State) (t : Transport) : Type 0 where
  pub leases : client.IsAfter s.leases t.leases
  pub connections : AreConnections s.connections s.dialling t.connections
  pub noted : (peer : Uuid) → is_among t.noted peer ≡ is_among s.noted peer
  pub asked : AreAsked (said s) s.requests t.peers
  pub calls_made : t.calls_made ≡ s.calls_made
  pub groups_made : t.groups_made ≡ s.groups_made
  pub fresh : fresh_of t.fresh ≡ s.fresh
  pub notes : notes_of t.outputs ≡ s.notes
  pub lines : AreLines (line_parts s)
