-- Frames go in one direction each: the space that dialled a connection asks there, the other end answers (this project's own protocol).
use Rattle.std.specs.Prelude.{◌≡◌, ℕ, ◌==◌, ◌&&◌, ◌||◌, is_some, is_none, Bool, true, false, List, [], ◌∷◌}
use Rattle.sp_rules.specs.Classes.{Setting}
use Rattle.sp_rules.specs.Events.{Event, Opened, Output, Send}
use Rattle.sp_rules.specs.Laws.{AllOf}
use Rattle.sp_rules.specs.Space.{outputs_of}
use Rattle.sp_rules.specs.State.{Living, Origin, OfRoot, OfCall}
use Rattle.sp_rules.specs.Worlds.{Space, WorldEvent, run, new_world}
use Rattle.sp_laws.specs.CallSent.{MaySend}

-- ---- ends of connections

-- whether an event opens a connection of this number that this space dialled, or one that a peer dialled
abbrev pub opens_end : ℕ → Bool → Event → Bool
opens_end conn true (Opened c dialled) = c == conn && is_some dialled
opens_end conn false (Opened c dialled) = c == conn && is_none dialled
opens_end conn end _ = false

-- whether a history opened one
abbrev pub was_opened : List Event → ℕ → Bool → Bool
was_opened [] conn end = false
was_opened (e ∷ h) conn end = opens_end conn end e || was_opened h conn end

-- In a history this end of the connection was opened.
abbrev pub HasOpened : List Event → ℕ → Bool → Type 0
HasOpened h conn end = was_opened h conn end ≡ true

-- ---- frames

-- A frame that is sent goes its way: what asks on a connection that this space dialled, what answers on one that a peer dialled.
abbrev pub GoesItsWay : List Event → Output → Type 0
GoesItsWay h (Send conn m) = MaySend (HasOpened h) conn m
GoesItsWay h _ = Unit {0}

-- A task that a call started was started on a connection that a peer dialled.
abbrev pub CameFromPeer : List Event → Origin → Type 0
CameFromPeer h OfRoot = Unit {0}
CameFromPeer h (OfCall conn number) = HasOpened h conn false

-- ---- the laws

-- This holds of each event after every history.
abbrev pub FramesGoTheirWay : Type 0
FramesGoTheirWay = (g : Setting) (h : List Event) (e : Event) → AllOf (GoesItsWay (e ∷ h)) (outputs_of g h e)

-- Of a space of a world: all frames that it sent went their way, each of its tasks came on a connection on which it may come, and no
-- connection is of both kinds.
pub record HasDirections (s : Space) : Type 0 where
  pub sent : AllOf (GoesItsWay s.history) s.outputs
  pub tasks : AllOf (λ (t : Living). CameFromPeer s.history t.origin) s.state.tasks
  pub one : (conn : ℕ) → HasOpened s.history conn true → HasOpened s.history conn false → ⊥

-- This holds in every run of every world, whatever is lost or fails.
abbrev pub SpacesHaveDirections : Type 0
SpacesHaveDirections = (settings : List Setting) (events : List WorldEvent) → AllOf HasDirections (run (new_world settings) events).spaces
