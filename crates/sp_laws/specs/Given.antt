-- Ids of tasks and lookups that stand elsewhere than at a living task were given: those of lookups among the requests, and those of results that wait for their acknowledgement (this project's own rule).
use Rattle.std.specs.Prelude.{ℕ, ◌≤◌, List}
use Rattle.sp_rules.specs.Classes.{Setting}
use Rattle.sp_rules.specs.Events.{Event}
use Rattle.sp_rules.specs.Laws.{AllOf}
use Rattle.sp_rules.specs.Space.{state_of}
use Rattle.sp_rules.specs.State.{State, Living, Request, Asked, Calls, LooksUp, Tells, KeptResult, Until, RootAcked, Acked, Passed}

-- the id of a lookup (a call has the id of its living task)
abbrev pub HasGivenId : ℕ → Asked → Type 0
HasGivenId made (Calls number task lent kind m) = Unit {0}
HasGivenId made (LooksUp number task name) = task ≤ made
HasGivenId made (Tells call group) = Unit {0}

-- the id of the root or lookup for whose acknowledgement a result waits
abbrev pub WaitsForGiven : ℕ → Until → Type 0
WaitsForGiven made (RootAcked task) = task ≤ made
WaitsForGiven made (Acked conn number) = Unit {0}
WaitsForGiven made (Passed moment) = Unit {0}

pub record HasGivenIds (s : State) : Type 0 where
  pub tasks : AllOf (λ (t : Living). t.id ≤ s.tasks_made) s.tasks
  pub requests : AllOf (λ (q : Request). HasGivenId s.tasks_made q.asked) s.requests
  pub results : AllOf (λ (k : KeptResult). WaitsForGiven s.tasks_made k.until) s.results

-- This holds after every history.
abbrev pub IdsAreGiven : Type 0
IdsAreGiven = (g : Setting) (h : List Event) → HasGivenIds (state_of g h)
