-- Who waits for whom: one connection is dialled to a peer at a time, and what is asked of a peer waits for its Hello if that has not come.
-- (This project's own protocol; the Java RMI specification leaves connections open.)
use Rattle.std.specs.Prelude.{◌≡◌, ◌||◌, true, false, List, [], ◌∷◌, Option, None, Some, is_some, find}
use Rattle.std.specs.List.{list_any}
use Rattle.std.specs.Str.{bytes_eq}
use Rattle.uuid.specs.declared.Uuid.{Uuid}
use Rattle.sp_rules.specs.Classes.{Setting}
use Rattle.sp_rules.specs.Events.{Event}
use Rattle.sp_rules.specs.Laws.{AllOf}
use Rattle.sp_rules.specs.Origins.{IsTaken}
use Rattle.sp_rules.specs.Requests.{hello_came, is_waiting}
use Rattle.sp_rules.specs.Space.{state_of}
use Rattle.sp_rules.specs.State.{State, Request, Connection, is_to}

-- the connection that was dialled to a peer, among these
abbrev pub dialled_to : List Connection → Uuid → Option Connection
dialled_to connections peer = find (λ (c : Connection). is_to peer c.dialled) connections

-- No other connection was dialled to the peer of this one.
abbrev pub IsAlone : Option Uuid → List Connection → Type 0
IsAlone None others = Unit {0}
IsAlone (Some peer) others = dialled_to others peer ≡ None

abbrev pub AreDialledOnce : List Connection → Type 0
AreDialledOnce [] = Unit {0}
AreDialledOnce (c ∷ others) = IsAlone c.dialled others × AreDialledOnce others

-- each of these peers stands once
abbrev pub AreOnce : List Uuid → Type 0
AreOnce [] = Unit {0}
AreOnce (peer ∷ others) = (list_any (bytes_eq peer) others ≡ false) × AreOnce others

-- A waiting request has a peer that is dialled or being dialled, and whose Hello has not come.
abbrev pub WaitsForHello : List Connection → List Uuid → Request → Type 0
WaitsForHello connections dialling r = is_waiting r.stage ≡ true →
    ((is_some (dialled_to connections r.peer) || list_any (bytes_eq r.peer) dialling) ≡ true) × (hello_came (dialled_to connections r.peer) ≡ None)

-- At most one connection is dialled to a peer; a peer that is being dialled, each once, has none; and what waits, waits for a Hello that is to come.
pub record HasLines (s : State) : Type 0 where
  pub connections : AreDialledOnce s.connections
  pub dialling : AreOnce s.dialling
  pub apart : AllOf (λ (peer : Uuid). dialled_to s.connections peer ≡ None) s.dialling
  pub waiting : AllOf (WaitsForHello s.connections s.dialling) s.requests

-- This holds after every history that a space took.
abbrev pub LinesWaitForHellos : Type 0
LinesWaitForHellos = (g : Setting) (h : List Event) → IsTaken g h → HasLines (state_of g h)
