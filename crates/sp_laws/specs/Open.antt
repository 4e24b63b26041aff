-- A space sends on connections that are open alone, and one that ended is not open again (this project's own protocol; the Java RMI specification leaves connections to TCP).
use Rattle.std.specs.Prelude.{◌≡◌, ◌⊎◌, ℕ, ◌==◌, Bool, true, false, List, Option}
use Rattle.net_message.specs.declared.message.Message.{Message}
use Rattle.uuid.specs.declared.Uuid.{Uuid}
use Rattle.sp_rules.specs.Classes.{Setting}
use Rattle.sp_rules.specs.Events.{Event, Opened, Received, Closed, ReadFailed, Bad, WriteFailed, Output, Send, Close}
use Rattle.sp_rules.specs.Laws.{AllOf}
use Rattle.sp_rules.specs.Space.{state_of, outputs_of, on}
use Rattle.sp_rules.specs.State.{State, is_open}
use Rattle.sp_laws.specs.Inbound.{opens}

-- The connection is open, or the event opens it.
abbrev pub IsOpenAt : State → Event → ℕ → Type 0
IsOpenAt s e conn = (is_open s conn ≡ true) ⊎ ((dialled : Option Uuid) × (e ≡ Opened conn dialled))

-- An event makes one state of another, with this output: a frame goes where it can; a connection is closed as a frame comes there, and is not open afterwards.
abbrev pub GoesWhereOpen : State → Event → State → Output → Type 0
GoesWhereOpen s e t (Send conn m) = IsOpenAt s e conn
GoesWhereOpen s e t (Close conn) = ((m : Message) × (e ≡ Received conn m)) × (is_open t conn ≡ false)
GoesWhereOpen s e t _ = Unit {0}

-- So each output of each event after every history.
abbrev pub FramesGoWhereOpen : Type 0
FramesGoWhereOpen = (g : Setting) (h : List Event) (e : Event) → AllOf (GoesWhereOpen (state_of g h) e (on g e (state_of g h)).0) (outputs_of g h e)

-- whether an event ends a connection: the peer closed it, a read or a write failed, or bytes came that are no frame
abbrev pub ends_on : ℕ → Event → Bool
ends_on conn (Closed c) = c == conn
ends_on conn (ReadFailed c) = c == conn
ends_on conn (Bad c) = c == conn
ends_on conn (WriteFailed c unsent) = c == conn
ends_on conn _ = false

-- Of an event in a state: a connection that is not open stays so if the event does not open it, and one that the event ends is not open.
pub record EndsConnections (g : Setting) (s : State) (e : Event) (conn : ℕ) : Type 0 where
  pub stays : is_open s conn ≡ false → opens conn e ≡ false → is_open (on g e s).0 conn ≡ false
  pub ends : ends_on conn e ≡ true → is_open (on g e s).0 conn ≡ false

abbrev pub ConnectionsEnd : Type 0
ConnectionsEnd = (g : Setting) (s : State) (e : Event) (conn : ℕ) → EndsConnections g s e conn

-- ---- silence

-- whether a frame was sent on a connection
abbrev pub is_sent_on : ℕ → Output → Bool
is_sent_on conn (Send c m) = c == conn
is_sent_on conn _ = false

-- An event sends nothing on a connection.
abbrev pub IsSilent : ℕ → List Output → Type 0
IsSilent conn outputs = AllOf (λ (o : Output). is_sent_on conn o ≡ false) outputs

-- After every history no event sends on a connection that is not open and that it does not open, nor on one that it ends.
pub record SendsNothing (g : Setting) (h : List Event) (e : Event) (conn : ℕ) : Type 0 where
  pub shut : is_open (state_of g h) conn ≡ false → opens conn e ≡ false → IsSilent conn (outputs_of g h e)
  pub ended : ends_on conn e ≡ true → IsSilent conn (outputs_of g h e)

abbrev pub EndedConnectionsAreSilent : Type 0
EndedConnectionsAreSilent = (g : Setting) (h : List Event) (e : Event) (conn : ℕ) → SendsNothing g h e conn
