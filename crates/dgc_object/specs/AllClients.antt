-- One object and all its clients: the machine of each client, and the frames that carry the reference between spaces. Who sends a frame holds the reference until the frame is done (Java RMI specification, 3.3: an object that is referenced remotely is not collected; the machine is this project's own form of it).
use Rattle.std.specs.Prelude.{◌≡◌, ◌<◌, ◌≤◌, ℕ, ◌+◌, ◌-◌, ◌==◌, Bool, true, false, ◌&&◌, List, [], ◌∷◌, ◌++◌, Option, None, Some, nat_lt, if◌then◌else◌}
use Rattle.dgc_object.specs.OneClient as pair
use Rattle.dgc_object.specs.OneClient.{State, IsSafe, IsKept}

-- a frame that names the reference, on its way or parked; a space is a client, or the owner
pub record Frame : Type 0 where
  pub sender : Option ℕ
  pub receiver : Option ℕ
  pub parked : Bool

pub record World : Type 0 where
  -- what each client and the owner keep of one another; of these `stands` and `other` do not count
  pub clients : ℕ → State
  pub stands : Bool
  -- what holds the object in its own space: tasks, names, fields, results
  pub own : ℕ
  pub frames : List Frame

pub data Event : Type 0 where
  -- an event of a client and the owner alone
  At : (client : ℕ) (event : pair.Event) → Event
  Sends : (sender receiver : Option ℕ) → Event
  -- a frame comes to a client, and waits
  Parks : (before : List Frame) (sender : Option ℕ) (client : ℕ) (later : List Frame) → Event
  -- a parked frame goes
  Goes : (before : List Frame) (sender : Option ℕ) (client : ℕ) (later : List Frame) (held : Bool) → Event
  -- a frame that is not parked is done, such as one to the owner
  Ends : (before : List Frame) (frame : Frame) (later : List Frame) → Event
  OwnHolds : Event
  OwnLets : Event
  -- the object is withdrawn
  Sweeps : Event

abbrev pub is_same : Option ℕ → Option ℕ → Bool
is_same None None = true
is_same None (Some b) = false
is_same (Some a) None = false
is_same (Some a) (Some b) = a == b

abbrev pub bit : Bool → ℕ
bit true = 1
bit false = 0

abbrev pub count : (Frame → Bool) → List Frame → ℕ
count p [] = 0
count p (f ∷ frames) = bit (p f) + count p frames

abbrev pub is_from : Option ℕ → Frame → Bool
is_from who f = is_same f.sender who

abbrev pub is_to : ℕ → Frame → Bool
is_to client f = is_same f.receiver (Some client)

abbrev pub is_parked_at : ℕ → Frame → Bool
is_parked_at client f = f.parked && is_to client f

-- the frames that this space sent
abbrev pub lent : Option ℕ → World → ℕ
lent who w = count (is_from who) w.frames

abbrev pub held_by : Option ℕ → World → ℕ
held_by None w = w.own
held_by (Some client) w = (w.clients client).started

-- A client's machine: for it, the other reason to stand is a frame on its way to the client or parked there; its sender holds the
-- reference.
abbrev pub seen : ℕ → World → State
seen client w = record (w.clients client) { stands = w.stands; other = nat_lt 0 (count (is_to client) w.frames) }

abbrev pub put : ℕ → State → World → World
put client s w = record w { clients = λ d. if client == d then s else w.clients d }

abbrev pub after : Event → World → World
after (At client event) w = put client (pair.after event (seen client w)) w
after (Sends sender receiver) w = record w { frames = w.frames ++ record { sender = sender; receiver = receiver; parked = false } ∷ [] }
after (Parks before sender client later) w =
    put client (pair.after pair.Parks (seen client w)) (record w { frames = before ++ record { sender = sender; receiver = Some client; parked = true } ∷ later })
after (Goes before sender client later held) w = put client (pair.after (pair.Goes held) (seen client w)) (record w { frames = before ++ later })
after (Ends before frame later) w = record w { frames = before ++ later }
after OwnHolds w = record w { own = w.own + 1 }
after OwnLets w = record w { own = w.own - 1 }
after Sweeps w = record w { stands = false }

abbrev pub FitsAt : ℕ → pair.Event → World → Type 0
FitsAt client pair.Parks w = ⊥
FitsAt client (pair.Goes held) w = ⊥
FitsAt client pair.Holds w = pair.Fits pair.Holds (seen client w)
FitsAt client pair.Roots w = pair.Fits pair.Roots (seen client w)
FitsAt client pair.Lets w = lent (Some client) w < (w.clients client).started
FitsAt client (pair.DirtyMade call) w = pair.Fits (pair.DirtyMade call) (seen client w)
FitsAt client (pair.CleanMade call) w = pair.Fits (pair.CleanMade call) (seen client w)
FitsAt client pair.Arrives w = Unit {0}
FitsAt client pair.Answers w = Unit {0}
FitsAt client pair.Lapses w = Unit {0}
FitsAt client pair.Sweeps w = ⊥
FitsAt client pair.OtherComes w = ⊥
FitsAt client pair.OtherGoes w = ⊥

-- When an event may come. Who sends a frame has a holder for it, which it lets go only once the frame is done. An object is withdrawn only if nothing in its own space holds it, and no client has an entry.
abbrev pub Fits : Event → World → Type 0
Fits (At client event) w = FitsAt client event w
Fits (Sends sender receiver) w = lent sender w < held_by sender w
Fits (Parks before sender client later) w = w.frames ≡ before ++ record { sender = sender; receiver = Some client; parked = false } ∷ later
Fits (Goes before sender client later held) w =
    (w.frames ≡ before ++ record { sender = sender; receiver = Some client; parked = true } ∷ later) × ((w.clients client).lease ≡ true)
Fits (Ends before frame later) w = (w.frames ≡ before ++ frame ∷ later) × (frame.parked ≡ false)
Fits OwnHolds w = w.stands ≡ true
Fits OwnLets w = lent None w < w.own
Fits Sweeps w = (w.own ≡ 0) × ((client : ℕ) → (w.clients client).entry ≡ false)

pub record IsWhole (w : World) : Type 0 where
  pub safe : (client : ℕ) → IsSafe (seen client w)
  pub loans : (who : Option ℕ) → lent who w ≤ held_by who w
  pub own_stands : 0 < w.own → w.stands ≡ true
  pub parked : (client : ℕ) → (w.clients client).parked ≡ count (is_parked_at client) w.frames

-- no client, no frame, and a standing object
abbrev pub start : ℕ → World
start own = record { clients = λ client. pair.start true false; stands = true; own = own; frames = [] }

-- a history is the list of what happened, newest first
abbrev pub world_of : World → List Event → World
world_of w [] = w
world_of w (event ∷ h) = after event (world_of w h)

abbrev pub AreFitting : World → List Event → Type 0
AreFitting w [] = Unit {0}
AreFitting w (event ∷ h) = Fits event (world_of w h) × AreFitting w h
