-- An event of a world reaches one space at most (this project's own rule).
use Rattle.std.specs.Prelude.{◌≡◌, ◌⊎◌, ℕ, true, false, List, [], ◌∷◌, None, Some, slice_get}
use Rattle.net_message.specs.declared.message.Message.{Message}
use Rattle.sp_rules.specs.Events.{Event, Received}
use Rattle.sp_rules.specs.Laws.{AllOf}
use Rattle.sp_rules.specs.Lists.{at_index}
use Rattle.sp_rules.specs.Refusals.{refusal}
use Rattle.sp_rules.specs.Space.{answers_outputs}
use Rattle.sp_rules.specs.Worlds.{World, Space, Pipe, End, WorldEvent, Own, side, grown, lent_for, is_own, after}

-- a space after these events, the first one first
abbrev pub grown_by : List Event → Space → Space
grown_by [] s = s
grown_by (e ∷ es) s = grown_by es (grown e s)

-- None of them is refused as it comes.
abbrev pub AreTakenBy : List Event → Space → Type 0
AreTakenBy [] s = Unit {0}
AreTakenBy (e ∷ es) s = (refusal s.setting (lent_for e) s.state e ≡ None) × AreTakenBy es (grown e s)

-- The frame is the first in the queue of a connection toward the space.
pub record IsFirstTo (w : World) (i conn : ℕ) (m : Message) : Type 0 where
  pub pipe : Pipe
  pub end : End
  pub rest : List Message
  pub there : slice_get w.pipes conn ≡ Some pipe
  pub space : (side end pipe).space ≡ i
  pub queue : (side end pipe).queue ≡ m ∷ rest

-- A frame that comes is the first in its queue; an event of a space's own is the world's.
abbrev pub ComesBy : World → WorldEvent → ℕ → Event → Type 0
ComesBy w e i (Received conn m) = IsFirstTo w i conn m
ComesBy w e i d = is_own d ≡ true → e ≡ Own i d

-- an event that answers nothing
abbrev pub IsSilent : Event → Type 0
IsSilent e = answers_outputs e ≡ false

-- one event alone, or some that answer nothing
abbrev pub AreAlone : List Event → Type 0
AreAlone es = ((d : Event) × (es ≡ d ∷ [])) ⊎ AllOf IsSilent es

-- One space takes events, and no other changes.
pub record ReachesOne (w : World) (e : WorldEvent) : Type 0 where
  pub space : ℕ
  pub row : Space
  pub events : List Event
  pub there : slice_get w.spaces space ≡ Some row
  pub spaces : (after w e).spaces ≡ at_index (grown_by events) space w.spaces
  pub taken : AreTakenBy events row
  pub comes : AllOf (ComesBy w e space) events
  pub alone : AreAlone events

-- With each event of a world no space changes, or one does so.
abbrev pub EventsReachOneSpace : Type 0
EventsReachOneSpace = (w : World) (e : WorldEvent) → ((after w e).spaces ≡ w.spaces) ⊎ ReachesOne w e
