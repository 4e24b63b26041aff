-- Where nothing fails no connection closes but those that tried a version in vain: each frame that comes is welcome, and what was opened stays open (this project's own protocol; the Java RMI specification leaves connections to TCP).
use Rattle.std.specs.Prelude.{◌≡◌, ◌⊎◌, ℕ, Bool, true, false, List, ◌∷◌, Option, None, Some, option_map, slice_get}
use Rattle.std.specs.Str.{bytes_eq}
use Rattle.net_message.specs.declared.message.Message.{Message}
use Rattle.net_message.specs.declared.message.Message.TheVariants as message
use Rattle.net_message.specs.Wire.{IsVersion}
use Rattle.uuid.specs.declared.Uuid.{Uuid}
use Rattle.sp_rules.specs.Classes.{Setting}
use Rattle.sp_rules.specs.Events.{Opened}
use Rattle.sp_rules.specs.Laws.{AllOf}
use Rattle.sp_rules.specs.State.{Connection, connection_at, is_open}
use Rattle.sp_rules.specs.Worlds.{World, Space, Pipe, End, Over, WorldEvent, Refuse, ReadFails, WriteFails, side, id_in, run, new_world}
use Rattle.sp_laws.specs.Sent.{is_hello}
use Rattle.sp_order_laws.specs.Delivered.{sent_on}
use Rattle.sp_order_laws.specs.Ends.{IsOneOf}
use Rattle.sp_order_laws.specs.Places.{IsBetween}
use Rattle.sp_order_laws.specs.Welcome.{is_welcome}

-- ---- premises

-- Spaces of ids of their own and of one digest, each of version 1 or 2.
pub record AreOfOneKind (settings : List Setting) : Type 0 where
  pub ids : (i j : ℕ) (a b : Setting) → slice_get settings i ≡ Some a → slice_get settings j ≡ Some b → bytes_eq a.id b.id ≡ true → i ≡ j
  pub digests : (i j : ℕ) (a b : Setting) → slice_get settings i ≡ Some a → slice_get settings j ≡ Some b → bytes_eq a.digest b.digest ≡ true
  pub versions : (i : ℕ) (a : Setting) → slice_get settings i ≡ Some a → IsVersion a.version

-- whether an event is a failure: a Dial that is refused, a read or a write that fails
abbrev pub is_failure : WorldEvent → Bool
is_failure (Refuse a b) = true
is_failure (ReadFails conn at) = true
is_failure (WriteFails conn at unsent) = true
is_failure _ = false

abbrev pub NothingFails : List WorldEvent → Type 0
NothingFails events = AllOf (λ (e : WorldEvent). is_failure e ≡ false) events

-- ---- connections

-- the spaces at the two ends of a connection, the one that dialled first
abbrev pub ends_at : List Pipe → ℕ → Option (ℕ × ℕ)
ends_at pipes conn = option_map (λ (p : Pipe). (p.dialler.space, p.accepter.space)) (slice_get pipes conn)

-- A space opened a connection to the peer that it dialled, or one that a peer dialled.
abbrev pub IsJoined : List Space → ℕ → Option Uuid → Option (ℕ × ℕ) → Type 0
IsJoined spaces i dialled None = ⊥
IsJoined spaces i None (Some ends) = ends.1 ≡ i
IsJoined spaces i (Some peer) (Some ends) = (ends.0 ≡ i) × (id_in (slice_get spaces ends.1) ≡ Some peer)

-- A connection that tried version 2 in vain: the space that dialled is of version 2 and said so there, and the other is of version 1. Both close it, and the one that dialled asks again in version 1.
pub record IsProbe (w : World) (conn : ℕ) : Type 0 where
  pub pipe : Pipe
  pub from : Space
  pub to : Space
  pub between : IsBetween w conn pipe from to
  pub said : IsOneOf (message.Hello 2 from.setting.id from.setting.digest) (sent_on conn from.outputs)
  pub higher : from.setting.version ≡ 2
  pub lower : to.setting.version ≡ 1

-- No end is over but of a connection that tried a version in vain, on which Hellos alone are sent; each connection that a space opened joins it with the other space, and is open; and each frame that is first in its queue is welcome.
pub record IsUnbroken (w : World) : Type 0 where
  pub live : (conn : ℕ) (p : Pipe) (end : End) → slice_get w.pipes conn ≡ Some p → (side end p).phase ≡ Over → IsProbe w conn
  pub hellos : (conn : ℕ) (probe : IsProbe w conn) (m : Message) → IsOneOf m (sent_on conn probe.from.outputs) ⊎ IsOneOf m (sent_on conn probe.to.outputs) → is_hello m ≡ true
  pub joins : (i : ℕ) (s : Space) → slice_get w.spaces i ≡ Some s → (conn : ℕ) (dialled : Option Uuid) → IsOneOf (Opened conn dialled) s.history → IsJoined w.spaces i dialled (ends_at w.pipes conn)
  pub stays : (i : ℕ) (s : Space) → slice_get w.spaces i ≡ Some s → (conn : ℕ) (dialled : Option Uuid) → IsOneOf (Opened conn dialled) s.history → (is_open s.state conn ≡ true) ⊎ IsProbe w conn
  pub welcome : (conn : ℕ) (p : Pipe) (to : End) (m : Message) (ms : List Message) (s : Space) (c : Connection) → slice_get w.pipes conn ≡ Some p → (side to p).queue ≡ m ∷ ms → slice_get w.spaces (side to p).space ≡ Some s → connection_at s.state conn ≡ Some c → (is_welcome s.setting s.state c m ≡ true) ⊎ IsProbe w conn

-- So in every run of every world of spaces of one kind in which nothing fails.
abbrev pub NothingCloses : Type 0
NothingCloses = (settings : List Setting) (events : List WorldEvent) → AreOfOneKind settings → NothingFails events → IsUnbroken (run (new_world settings) events)
