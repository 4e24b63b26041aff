-- A space asks other spaces alone: it dials no connection to itself, so the two ends of a connection are two spaces, and no connection is opened twice in one space (this project's own protocol).
use Rattle.std.specs.Prelude.{◌≡◌, false, ℕ, List, None}
use Rattle.std.specs.Str.{bytes_eq}
use Rattle.sp_rules.specs.Classes.{Setting}
use Rattle.sp_rules.specs.Events.{Event, Output, Dial}
use Rattle.sp_rules.specs.Laws.{AllOf}
use Rattle.sp_rules.specs.Origins.{IsTaken}
use Rattle.sp_rules.specs.Refusals.{refusal}
use Rattle.sp_rules.specs.Space.{state_of, outputs_of}
use Rattle.sp_rules.specs.Worlds.{World, Space, Pipe, WorldEvent, run, new_world}
use Rattle.sp_laws.specs.Inbound.{OpensOnce, CallsCameOnce}

-- A Dial is to another space.
abbrev pub IsToOther : Setting → Output → Type 0
IsToOther g (Dial peer) = bytes_eq peer g.id ≡ false
IsToOther g _ = Unit {0}

-- After every history that a space took, each further event that it takes is answered with Dials of other spaces alone.
abbrev pub OthersAreDialled : Type 0
OthersAreDialled = (g : Setting) (h : List Event) (lent : List ℕ) (e : Event) → IsTaken g h → refusal g lent (state_of g h) e ≡ None → AllOf (IsToOther g) (outputs_of g h e)

-- The ends of a connection are two spaces.
abbrev pub HasTwoEnds : Pipe → Type 0
HasTwoEnds p = p.dialler.space ≡ p.accepter.space → ⊥

-- In the history of a space no number of a connection comes again; so a call that came there occurs once at most.
abbrev pub IsOpenedOnce : Space → Type 0
IsOpenedOnce s = OpensOnce s.history × CallsCameOnce s.state

-- This holds in every run of every world, whatever is lost or fails.
pub record OpensConnectionsOnce (w : World) : Type 0 where
  pub spaces : AllOf IsOpenedOnce w.spaces
  pub pipes : AllOf HasTwoEnds w.pipes

abbrev pub ConnectionsAreOpenedOnce : Type 0
ConnectionsAreOpenedOnce = (settings : List Setting) (events : List WorldEvent) → OpensConnectionsOnce (run (new_world settings) events)
