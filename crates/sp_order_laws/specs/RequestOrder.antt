-- Dirty and clean calls stand among the requests of a space in the order in which they were made, and go out so (Java RMI specification, 9.1: the sequence numbers of a client's calls rise; that they go out in the order in which they were made is this project's own rule).
use Rattle.std.specs.Prelude.{◌≡◌, ◌+◌, ◌≤◌, true, List, [], ◌∷◌}
use Rattle.std.specs.Str.{bytes_eq}
use Rattle.sp_rules.specs.Classes.{Setting}
use Rattle.sp_rules.specs.Events.{Event}
use Rattle.sp_rules.specs.Laws.{AllOf}
use Rattle.sp_rules.specs.Origins.{IsTaken}
use Rattle.sp_rules.specs.Space.{state_of}
use Rattle.sp_rules.specs.State.{Request, Asked, Tells, Stage, Waits, Out, Answered}
use Rattle.sp_laws.specs.Inbound.{OpensOnce}

-- of a first and a later call of one peer: if both are out, the sequence number of the later is greater; none is out while one before it waits
abbrev pub StagesRise : Stage → Stage → Type 0
StagesRise Waits Waits = Unit {0}
StagesRise Waits (Out d t) = ⊥
StagesRise Waits (Answered d) = ⊥
StagesRise (Out c s) Waits = Unit {0}
StagesRise (Out c s) (Out d t) = s + 1 ≤ t
StagesRise (Out c s) (Answered d) = Unit {0}
StagesRise (Answered c) later = Unit {0}

abbrev pub AskedRise : Asked → Asked → Stage → Stage → Type 0
AskedRise (Tells c group) (Tells d other) s t = (c ≤ d) × StagesRise s t
AskedRise asked later s t = Unit {0}

-- Two dirty or clean calls of one peer stand in the order in which they were made.
abbrev pub StandInOrder : Request → Request → Type 0
StandInOrder q p = bytes_eq q.peer p.peer ≡ true → AskedRise q.asked p.asked q.stage p.stage

-- each of these and each that follows it
abbrev pub AllPairs : List Request → Type 0
AllPairs [] = Unit {0}
AllPairs (q ∷ qs) = AllOf (StandInOrder q) qs × AllPairs qs

-- So after every history that a space took, in which no number of a connection comes again.
abbrev pub CallsKeepTheirOrder : Type 0
CallsKeepTheirOrder = (g : Setting) (h : List Event) → IsTaken g h → OpensOnce h → AllPairs (state_of g h).requests
