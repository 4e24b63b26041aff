-- When a value stands for a world of the rules of spaces. (This project's own.)
use Rattle.std.specs.Prelude.{◌≡◌, ℕ, Bool, true, false, List, [], ◌∷◌, ◌++◌, Option, None, Some, drop, is_none, length, slice_get}
use Rattle.std.specs.Map.{lookup}
use Rattle.std.specs.Str.{bytes_eq}
use Rattle.net_message.specs.declared.message.Message.{Message}
use Rattle.uuid.specs.declared.Uuid.{Uuid}
use Rattle.sp_rules.specs.Classes.{Setting}
use Rattle.sp_rules.specs.Events.{Event, Closed, Opened, Output, ReadFailed, Received, Refused, WriteFailed}
use Rattle.sp_rules.specs.Lists.{at_index, each, with_some}
use Rattle.sp_rules.specs.Refusals.{Refusal}
use Rattle.sp_rules.specs.State.{State, opening}
use Rattle.sp_rules.specs.Worlds as rules
use Rattle.sp_rules.specs.Worlds.{number_of, put}
use Rattle.sp_events.specs.declared.fault.CoreFault.{CoreFault}
use Rattle.sp_pipes.specs.Asked.{asked}
use Rattle.sp_pipes.specs.Connections.{ArePipes, comes_over, front_at}
use Rattle.sp_world.specs.Happenings.{TellsRefusal}
use Rattle.sp_world.specs.Residents.{AreResidents, grown_all, row_in}
use Rattle.sp_world.specs.Steps.{answers_to}
use Rattle.sp_world.specs.declared.resident.Resident.{Resident}
use Rattle.sp_world.specs.declared.wiring.Wiring.{Wiring}
use Rattle.sp_world.specs.declared.world.Waiting.{Waiting}
use Rattle.sp_world.specs.declared.world.World.{World}

-- ---- what is between the spaces

-- Each space is found by its id, and the connections and the dials that wait are those of the world.
pub record IsWired (w : rules.World) (wiring : Wiring) : Type 0 where
  pub numbers : (peer : Uuid) → lookup (bytes_eq peer) wiring.numbers.entries ≡ number_of w.spaces peer
  pub pipes : ArePipes w.pipes wiring.pipes
  pub dials : w.asked ≡ asked wiring.dials

-- The world comes of these outputs of a space, which are still to be put into the queues.
pub record Awaits (w : rules.World) (writer : ℕ) (outputs : List Output) (wiring : Wiring) : Type 0 where
  pub base : rules.World
  pub wired : IsWired base wiring
  pub is : w ≡ each (put writer) outputs base

-- ---- worlds

abbrev pub writer_of : Option Waiting → ℕ
writer_of None = 0
writer_of (Some x) = x.writer

abbrev pub row_of : {S : Type 0} → Option (Resident S) → ℕ → List Output
row_of None n = []
row_of (Some r) n = row_in n r

abbrev pub left_of : {S : Type 0} → Option Waiting → List (Resident S) → List Output
left_of None residents = []
left_of (Some x) residents = drop x.next (row_of (slice_get residents x.writer) x.row)

-- whether nothing is still to be put into the queues
abbrev pub is_settled : {S : Type 0} → World S → Bool
is_settled world = is_none world.waiting

-- A value stands for a world of the rules: each space is there in its state, with what it answered, the last refusal is told, and what is
-- between the spaces is that of the world, with what is still to be put there.
pub record IsWorld {S : Type 0} (is_space : Setting → State → S → Type 0) (w : rules.World) (world : World S) : Type 0 where
  pub spaces : AreResidents is_space w.spaces world.residents.items
  pub refused : TellsRefusal w.refused world.refused
  pub waiting : Awaits w (writer_of world.waiting) (left_of world.waiting world.residents.items) world.wiring

-- the same of a world in which nothing is still to be put there, whatever was refused
pub record IsStill {S : Type 0} (is_space : Setting → State → S → Type 0) (w : rules.World) (world : World S) : Type 0 where
  pub spaces : AreResidents is_space w.spaces world.residents.items
  pub wired : IsWired w world.wiring

-- the spaces to which nothing has happened, of these settings
abbrev pub AreNew : {S : Type 0} → (Setting → State → S → Type 0) → List Setting → List S → Type 0
AreNew is_space [] [] = Unit {0}
AreNew is_space [] (s ∷ ss) = ⊥
AreNew is_space (g ∷ gs) [] = ⊥
AreNew is_space (g ∷ gs) (s ∷ ss) = is_space g opening s × AreNew is_space gs ss

-- the space of a number is in its state
abbrev pub IsSpaceAt : {S : Type 0} → (Setting → State → S → Type 0) → Option rules.Space → Option S → Type 0
IsSpaceAt is_space None None = Unit {0}
IsSpaceAt is_space None (Some space) = ⊥
IsSpaceAt is_space (Some s) None = ⊥
IsSpaceAt is_space (Some s) (Some space) = is_space s.setting s.state space

-- ---- what a space was told

-- It took events, and what it answered is still to be put into the queues.
pub record Took {S : Type 0} (is_space : Setting → State → S → Type 0) (spaces : List rules.Space) (i : ℕ) (why : rules.Space → Option Refusal) (events : rules.Space → List Event) (after : World S) : Type 0 where
  pub space : rules.Space
  pub there : slice_get spaces i ≡ Some space
  pub accepted : why space ≡ None
  pub residents : AreResidents is_space (at_index (grown_all (events space)) i spaces) after.residents.items
  pub left : left_of after.waiting after.residents.items ≡ answers_to space.setting space.state (events space)
  pub writer : writer_of after.waiting ≡ i
  pub refused : after.refused ≡ None

-- There is none, or it refused them.
abbrev pub MissedBy : (rules.Space → Option Refusal) → Option rules.Space → Option CoreFault → Type 0
MissedBy why None fault = fault ≡ None
MissedBy why (Some s) fault = (r : Refusal) × ((why s ≡ Some r) × TellsRefusal (Some r) fault)

pub record Missed {S : Type 0} (is_space : Setting → State → S → Type 0) (spaces : List rules.Space) (i : ℕ) (why : rules.Space → Option Refusal) (after : World S) : Type 0 where
  pub missed : MissedBy why (slice_get spaces i) after.refused
  pub residents : AreResidents is_space spaces after.residents.items
  pub still : is_settled after ≡ true

abbrev pub Heard : {S : Type 0} → (Setting → State → S → Type 0) → List rules.Space → ℕ → (rules.Space → Option Refusal) → (rules.Space → List Event) → World S → Bool → Type 0
Heard is_space spaces i why events after true = Took is_space spaces i why events after
Heard is_space spaces i why events after false = Missed is_space spaces i why after

-- What is heard of the space of a number, whatever spaces of the rules these are.
abbrev pub IsHeard : {S : Type 0} → (Setting → State → S → Type 0) → ℕ → (rules.Space → Option Refusal) → (rules.Space → List Event) → Bool → World S → World S → Type 0
IsHeard is_space i why events taken old new = (spaces : List rules.Space) → AreResidents is_space spaces old.residents.items → Heard is_space spaces i why events new taken

-- ---- what happens

-- A value that stood for a world, with nothing still to be put into the queues, stands for what is made of it.
abbrev pub Makes : {S : Type 0} → (Setting → State → S → Type 0) → (rules.World → rules.World) → World S → World S → Type 0
Makes is_space made old new = (w : rules.World) → IsStill is_space w old → w.refused ≡ None → IsWorld is_space (made w) new

-- It stands for the same world.
pub record Keeps {S : Type 0} (is_space : Setting → State → S → Type 0) (old new : World S) : Type 0 where
  pub spaces : (ss : List rules.Space) → AreResidents is_space ss old.residents.items → AreResidents is_space ss new.residents.items
  pub refused : new.refused ≡ old.refused
  pub waiting : new.waiting ≡ old.waiting
  pub wired : (w : rules.World) → IsWired w old.wiring → IsWired w new.wiring

-- ---- one event of a space, in a world that is prepared for it

-- a frame comes to a space at an end of a connection
abbrev pub deliver_front : ℕ → rules.End → ℕ → Message → rules.World → rules.World
deliver_front conn to space m w = rules.act w space (Received conn m) (rules.on_side rules.take_front conn to w)

-- that the other end has ended comes to it
abbrev pub close_end : ℕ → rules.End → ℕ → rules.World → rules.World
close_end conn to space w = rules.act w space (Closed conn) (rules.on_side rules.ends conn to w)

-- the same if the other end has ended
abbrev pub deliver_last : ℕ → rules.End → ℕ → rules.World → rules.World
deliver_last conn to space w = rules.deliver_first conn to w space (comes_over (rules.other to) (slice_get w.pipes conn)) []

-- what comes to it: the first frame, or that
abbrev pub deliver_next : ℕ → rules.End → ℕ → rules.World → rules.World
deliver_next conn to space w = with_some (front_at to (slice_get w.pipes conn)) (deliver_last conn to space w) (λ m. deliver_front conn to space m w)

-- a read fails at its end
abbrev pub unread_end : ℕ → rules.End → ℕ → rules.World → rules.World
unread_end conn end space w = rules.act w space (ReadFailed conn) (rules.on_side rules.ends conn end w)

-- a write fails there, and this many frames are lost
abbrev pub unwritten_end : ℕ → rules.End → ℕ → ℕ → rules.World → rules.World
unwritten_end conn end space lost w = rules.act w space (WriteFailed conn lost) (rules.on_side rules.ends conn end (rules.on_side (rules.cut_end lost) conn (rules.other end) w))

-- it accepts a connection
abbrev pub accept_end : ℕ → ℕ → rules.World → rules.World
accept_end conn space w = rules.act w space (Opened conn None) (rules.on_side rules.begin_side conn rules.Accepter w)

-- a dial that waits comes to the next connection
abbrev pub open_next : ℕ → ℕ → rules.World → rules.World
open_next a b w = rules.act w a (Opened (length w.pipes) (rules.id_at b w)) (record w { asked = rules.without_pair a b w.asked; pipes = w.pipes ++ rules.new_pipe a b ∷ [] })

-- a dial that waits is refused
abbrev pub refuse_next : ℕ → ℕ → rules.World → rules.World
refuse_next a b w = rules.refuse_to w a (rules.id_at b w) (record w { asked = rules.without_pair a b w.asked })

-- the same of a dial to a space of this id
abbrev pub refuse_peer : ℕ → ℕ → Uuid → rules.World → rules.World
refuse_peer a b peer w = rules.act w a (Refused peer) (record w { asked = rules.without_pair a b w.asked })
