-- Hellos come first: each end of a connection says Hello as it opens, or as it hears the other end's, and anything else only once it heard that, which is of the same digest, and of a version in which both speak from then on (this project's own protocol).
use Rattle.std.specs.Prelude.{◌≡◌, ◌≤◌, ◌⊎◌, ℕ, ◌==◌, ◌||◌, nat_le, min, length, Bool, true, false, List, [], ◌∷◌, Option, None, Some, is_some}
use Rattle.std.specs.Str.{bytes_eq}
use Rattle.net_message.specs.declared.message.Message.{Message}
use Rattle.net_message.specs.declared.message.Message.TheVariants as message
use Rattle.uuid.specs.declared.Uuid.{Uuid}
use Rattle.sp_rules.specs.Classes.{Setting}
use Rattle.sp_rules.specs.Events.{Event, Opened, Received, Output, Send}
use Rattle.sp_rules.specs.Laws.{AllOf}
use Rattle.sp_rules.specs.Requests.{most_ids}
use Rattle.sp_rules.specs.Space.{outputs_of}
use Rattle.sp_rules.specs.State.{Connection, connection_at, is_open}
use Rattle.sp_rules.specs.Worlds.{Space, WorldEvent, run, new_world}
use Rattle.sp_laws.specs.Directions.{HasOpened}
use Rattle.sp_laws.specs.Inbound.{opened}
use Rattle.sp_laws.specs.Sent.{is_hello}
use Rattle.sp_order_laws.specs.Delivered.{came_on, sent_on}
use Rattle.sp_order_laws.specs.Ends.{IsOneOf}

-- ---- what was heard on a connection

-- whether a frame comes with an event on a connection
abbrev pub brings_on : ℕ → Event → Bool
brings_on conn (Received c m) = c == conn
brings_on conn _ = false

-- whether one came in a history
abbrev pub has_come : ℕ → List Event → Bool
has_come conn [] = false
has_come conn (e ∷ h) = brings_on conn e || has_come conn h

-- A frame came on the connection.
abbrev pub HasCome : List Event → ℕ → Type 0
HasCome h conn = has_come conn h ≡ true

-- ---- what a space says

-- A Hello comes with the event to a space of version 2, on a connection that a peer dialled.
pub record BringsHello (g : Setting) (e : Event) (h : List Event) (conn : ℕ) : Type 0 where
  pub version : ℕ
  pub space : Uuid
  pub digest : List ℕ
  pub came : e ≡ Received conn (message.Hello version space digest)
  pub way : HasOpened (e ∷ h) conn false
  pub late : nat_le 2 g.version ≡ true

-- the version of a Hello that is said as a connection opens: 1 or its own at a space that dialled; 1 at one that was dialled, which is of version 1 then
abbrev pub IsFirstVersion : Setting → Option Uuid → ℕ → Type 0
IsFirstVersion g None version = (nat_le 2 g.version ≡ false) × (version ≡ 1)
IsFirstVersion g (Some peer) version = (version ≡ 1) ⊎ (version ≡ g.version)

-- A Hello of this version is said on the connection that opens, or on which a Hello comes: then it is of the lower of the two versions.
abbrev pub SpeaksInTurn : Setting → Event → List Event → ℕ → ℕ → Type 0
SpeaksInTurn g e h conn version = ((dialled : Option Uuid) × ((e ≡ Opened conn dialled) × IsFirstVersion g dialled version)) ⊎ ((heard : BringsHello g e h conn) × (version ≡ min heard.version g.version))

-- Of an event after a history: a Hello is said on the connection that opens, or on which a Hello comes; any other frame is sent where a frame came.
abbrev pub SaysInTurn : Setting → Event → List Event → ℕ → Message → Type 0
SaysInTurn g e h conn (message.Hello version space digest) = SpeaksInTurn g e h conn version
SaysInTurn g e h conn (message.Call number object method fuel arguments) = HasCome (e ∷ h) conn
SaysInTurn g e h conn (message.Returned number fuel value) = HasCome (e ∷ h) conn
SaysInTurn g e h conn (message.Threw number class) = HasCome (e ∷ h) conn
SaysInTurn g e h conn (message.Spent number) = HasCome (e ∷ h) conn
SaysInTurn g e h conn (message.Ack number) = HasCome (e ∷ h) conn
SaysInTurn g e h conn (message.Dirty sequence period objects) = HasCome (e ∷ h) conn
SaysInTurn g e h conn (message.Lease sequence period) = HasCome (e ∷ h) conn
SaysInTurn g e h conn (message.Clean sequence strong objects) = HasCome (e ∷ h) conn
SaysInTurn g e h conn (message.Cleaned sequence) = HasCome (e ∷ h) conn
SaysInTurn g e h conn (message.Lookup number name) = HasCome (e ∷ h) conn

abbrev pub AnswersInTurn : Setting → Event → List Event → Output → Type 0
AnswersInTurn g e h (Send conn m) = SaysInTurn g e h conn m
AnswersInTurn g e h _ = Unit {0}

-- So each frame of each event after every history.
abbrev pub HellosAreSaidFirst : Type 0
HellosAreSaidFirst = (g : Setting) (h : List Event) (e : Event) → AllOf (AnswersInTurn g e h) (outputs_of g h e)

-- ---- what goes along a connection

-- A Hello of the space.
pub record IsOwnHello (g : Setting) (m : Message) : Type 0 where
  pub version : ℕ
  pub says : m ≡ message.Hello version g.id g.digest

-- none of these is a Hello
abbrev pub NoHellos : List Message → Type 0
NoHellos ms = AllOf (λ (m : Message). is_hello m ≡ false) ms

-- The first is the space's own Hello, if there is any, and no other is one.
abbrev pub BeginsWithHello : Setting → List Message → Type 0
BeginsWithHello g [] = Unit {0}
BeginsWithHello g (m ∷ ms) = IsOwnHello g m × NoHellos ms

-- whether the space says Hello only as the other end's comes: one of version 2 that was dialled
abbrev pub says_late : Setting → Option Uuid → Bool
says_late g None = nat_le 2 g.version
says_late g (Some peer) = false

-- The space's own Hello, alone.
pub record IsHelloAlone (g : Setting) (ms : List Message) : Type 0 where
  pub hello : Message
  pub own : IsOwnHello g hello
  pub alone : ms ≡ hello ∷ []

-- What a space says before it heard a Hello: its own, or nothing if it says that late.
abbrev pub SaysFirst : Setting → Bool → List Message → Type 0
SaysFirst g true ms = ms ≡ []
SaysFirst g false ms = IsHelloAlone g ms

-- it is the peer that was dialled, if one was
abbrev pub IsWho : Option Uuid → Uuid → Type 0
IsWho None peer = Unit {0}
IsWho (Some dialled) peer = bytes_eq peer dialled ≡ true

-- A Hello of this peer, of the same digest; and it is the peer that was dialled, if one was.
pub record IsHelloFrom (g : Setting) (dialled : Option Uuid) (peer : Uuid) (m : Message) : Type 0 where
  pub version : ℕ
  pub digest : List ℕ
  pub says : m ≡ message.Hello version peer digest
  pub same : bytes_eq digest g.digest ≡ true
  pub who : IsWho dialled peer

-- The first is such a Hello, and no other is one.
abbrev pub BeginsWelcome : Setting → Option Uuid → Uuid → List Message → Type 0
BeginsWelcome g dialled peer [] = ⊥
BeginsWelcome g dialled peer (m ∷ ms) = IsHelloFrom g dialled peer m × NoHellos ms

-- This end of a connection says Hello as it opens: the space dialled, or is of version 1.
abbrev pub SaysEarly : Space → ℕ → Type 0
SaysEarly s conn = HasOpened s.history conn true ⊎ ((opened conn s.history ≡ true) × (nat_le 2 s.setting.version ≡ false))

-- a Hello of this version; any other frame
abbrev pub IsOfVersion : ℕ → Message → Type 0
IsOfVersion v (message.Hello version space digest) = version ≡ v
IsOfVersion v _ = Unit {0}

-- a Hello of this version; a dirty or clean call that a frame of it may make; any other frame
abbrev pub IsSpokenIn : ℕ → Message → Type 0
IsSpokenIn v (message.Hello version space digest) = version ≡ v
IsSpokenIn v (message.Dirty sequence period objects) = length objects ≤ most_ids v
IsSpokenIn v (message.Clean sequence strong objects) = length objects ≤ most_ids v
IsSpokenIn v _ = Unit {0}

-- a Hello of a version that the space speaks, in which a frame names no more ids than in this one; any other frame
abbrev pub IsHeardIn : Setting → ℕ → Message → Type 0
IsHeardIn g v (message.Hello version space digest) = (nat_le version g.version ≡ true) × (most_ids version ≤ most_ids v)
IsHeardIn g v _ = Unit {0}

-- Of an open connection, what came there and what was sent: what a space says where it dialled is of the connection's version, and so is the Hello that it heard there; where it was dialled it heard one that it speaks, and frames may be as long as that allows.
pub record KeepsItsVersion (g : Setting) (c : Connection) (came sent : List Message) : Type 0 where
  pub says : is_some c.dialled ≡ true → AllOf (IsSpokenIn c.version) sent
  pub answered : is_some c.dialled ≡ true → is_some c.peer ≡ true → AllOf (IsOfVersion c.version) came
  pub heard : is_some c.dialled ≡ false → is_some c.peer ≡ true → AllOf (IsHeardIn g c.version) came

-- Both ends of a connection met in a version: a Hello of it came, and the space said one of it where it dialled, or speaks it where it was dialled.
pub record HasMet (s : Space) (conn : ℕ) : Type 0 where
  pub version : ℕ
  pub peer : Uuid
  pub digest : List ℕ
  pub came : IsOneOf (message.Hello version peer digest) (came_on conn s.history)
  pub speaks : (HasOpened s.history conn true × IsOneOf (message.Hello version s.setting.id s.setting.digest) (sent_on conn s.outputs)) ⊎ (HasOpened s.history conn false × (nat_le version s.setting.version ≡ true))

-- Of a space and a connection: before it opens nothing comes and nothing is sent. From then on the first frame that was sent is the space's own Hello, and no other is one. While it is open and no Hello came, nothing came, and the space's own Hello alone was sent; none if the space is of version 2 and was dialled. Once a Hello came, that was the first frame that came, it was welcome, no other came, and the space's own was said. The connection keeps its version, and any frame but a Hello is sent only where both ends met in one.
pub record BeginsInOrder (s : Space) (conn : ℕ) : Type 0 where
  pub shut : opened conn s.history ≡ false → is_open s.state conn ≡ false
  pub silent : opened conn s.history ≡ false → (came_on conn s.history ≡ []) × (sent_on conn s.outputs ≡ [])
  pub first : opened conn s.history ≡ true → BeginsWithHello s.setting (sent_on conn s.outputs)
  pub early : SaysEarly s conn → sent_on conn s.outputs ≡ [] → ⊥
  pub waits : (c : Connection) → connection_at s.state conn ≡ Some c → c.peer ≡ None → (came_on conn s.history ≡ []) × SaysFirst s.setting (says_late s.setting c.dialled) (sent_on conn s.outputs)
  pub said : (c : Connection) → connection_at s.state conn ≡ Some c → is_some c.peer ≡ true → sent_on conn s.outputs ≡ [] → ⊥
  pub greeted : (c : Connection) (peer : Uuid) → connection_at s.state conn ≡ Some c → c.peer ≡ Some peer → BeginsWelcome s.setting c.dialled peer (came_on conn s.history)
  pub keeps : (c : Connection) → connection_at s.state conn ≡ Some c → KeepsItsVersion s.setting c (came_on conn s.history) (sent_on conn s.outputs)
  pub met : (m : Message) → IsOneOf m (sent_on conn s.outputs) → is_hello m ≡ false → HasMet s conn

-- So of each space and each connection in every run of every world, whatever is lost or fails.
abbrev pub ConnectionsBeginInOrder : Type 0
ConnectionsBeginInOrder = (settings : List Setting) (events : List WorldEvent) → AllOf (λ (s : Space). (conn : ℕ) → BeginsInOrder s conn) (run (new_world settings) events).spaces
