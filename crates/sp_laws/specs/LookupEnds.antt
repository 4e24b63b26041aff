-- How a lookup ends: as its answer says, or with an exception of a failure (Java RMI specification, 6.1: a lookup gives the reference that is bound, or throws NotBoundException; appendix A on failures).
use Rattle.std.specs.Prelude.{◌≡◌, ◌⊎◌, ℕ, List, [], ◌∷◌}
use Rattle.sp_rules.specs.Behaviours.{Outcome, Returned, Threw, Spent, GivesBack, Throws}
use Rattle.sp_rules.specs.Classes.{Setting}
use Rattle.sp_rules.specs.Events.{Event, Finished, Output, Ended}
use Rattle.sp_rules.specs.Laws.{AllOf}
use Rattle.sp_rules.specs.Space.{state_of, outputs_of}
use Rattle.sp_rules.specs.State.{State, Request, LooksUp}
use Rattle.sp_laws.specs.CallEnds.{MayEndWith}

-- the request is one of these
abbrev pub IsAmong : Request → List Request → Type 0
IsAmong q [] = ⊥
IsAmong q (p ∷ ps) = (q ≡ p) ⊎ IsAmong q ps

-- A lookup returns the value of a Returned of its number that comes on the connection on which it is out, or waited for leases; it throws what a Threw of that number says that comes there, or the exception of a failure. It is never spent.
abbrev pub MayEndAs : Setting → State → Event → ℕ → Outcome → Type 0
MayEndAs g s e number (Returned value) = (fuel : ℕ) × MayEndWith g s e number (GivesBack value fuel)
MayEndAs g s e number (Threw class) = MayEndWith g s e number (Throws class)
MayEndAs g s e number Spent = ⊥

-- It is the id of a lookup that stood among the requests, and this outcome is one with which that may end.
pub record IsEndOfLookup (g : Setting) (s : State) (e : Event) (task : ℕ) (outcome : Outcome) : Type 0 where
  pub number : ℕ
  pub name : List ℕ
  pub request : Request
  pub stood : IsAmong request s.requests
  pub asked : request.asked ≡ LooksUp number task name
  pub named : MayEndAs g s e number outcome

-- An Ended is of the task that the event finishes, or such an end of a lookup.
abbrev pub EndsAsNamed : Setting → State → Event → Output → Type 0
EndsAsNamed g s e (Ended task outcome) = ((made : ℕ) × (e ≡ Finished task made)) ⊎ IsEndOfLookup g s e task outcome
EndsAsNamed g s e _ = Unit {0}

-- So with each event after every history.
abbrev pub LookupsEndAsNamed : Type 0
LookupsEndAsNamed = (g : Setting) (h : List Event) (e : Event) → AllOf (EndsAsNamed g (state_of g h) e) (outputs_of g h e)
