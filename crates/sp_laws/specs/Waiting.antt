-- Calls that wait: each task that waits for a reply has asked for one call of its own, and each call and lookup has a number of its own
-- (this project's own rule; a remote call returns once by the Java RMI specification, 3.1).
use Rattle.std.specs.Prelude.{◌≡◌, ℕ, ◌+◌, ◌≤◌, ◌==◌, ◌++◌, Bool, true, false, List, Some}
use Rattle.sp_rules.specs.Classes.{Setting}
use Rattle.sp_rules.specs.Events.{Event}
use Rattle.sp_rules.specs.Laws.{AllOf}
use Rattle.sp_rules.specs.Lists.{total}
use Rattle.sp_rules.specs.ParkedFrames.{has_number}
use Rattle.sp_rules.specs.Space.{state_of}
use Rattle.sp_rules.specs.State.{State, Living, Request, Asked, Calls, LooksUp, Tells, task_at}

-- one for what is true
abbrev pub count : Bool → ℕ
count true = 1
count false = 0

-- one for a call of this task
abbrev pub call_of : ℕ → Asked → ℕ
call_of id (Calls number task lent kind m) = count (task == id)
call_of id (LooksUp number task name) = 0
call_of id (Tells call group) = 0

-- the calls of a task among the requests that wait to be sent or answered, or whose answer is parked
abbrev pub calls_of : ℕ → List Request → ℕ
calls_of id requests = total (λ (q : Request). call_of id q.asked) requests

-- the calls and lookups of a number among them
abbrev pub calls_numbered : ℕ → List Request → ℕ
calls_numbered number requests = total (λ (q : Request). count (has_number number q.asked)) requests

-- A call is that of a living task that waits.
abbrev pub HasTask : State → Asked → Type 0
HasTask s (Calls number task lent kind m) = (t : Living) × ((task_at s task ≡ Some t) × (t.waits ≡ true))
HasTask s (LooksUp number task name) = Unit {0}
HasTask s (Tells call group) = Unit {0}

-- A waiting task has one call among the requests, a ready one has none; each call is of a waiting task. A number stands once, and one that
-- was not given stands nowhere.
pub record CallsWait (s : State) : Type 0 where
  pub tasks : AllOf (λ (t : Living). calls_of t.id s.requests ≡ count t.waits) s.tasks
  pub requests : AllOf (λ (q : Request). HasTask s q.asked) s.requests
  pub once : (number : ℕ) → calls_numbered number s.requests ≤ 1
  pub given : (number : ℕ) → s.calls_made + 1 ≤ number → calls_numbered number s.requests ≡ 0

-- This holds after every history.
abbrev pub WaitingTasksHaveOneCall : Type 0
WaitingTasksHaveOneCall = (g : Setting) (h : List Event) → CallsWait (state_of g h)

-- A call or lookup that was made and is among the requests no more is never among them again, whatever happens then.
abbrev pub EndedCallsStayEnded : Type 0
EndedCallsStayEnded = (g : Setting) (h more : List Event) (number : ℕ) → number ≤ (state_of g h).calls_made → calls_numbered number (state_of g h).requests ≡ 0 → calls_numbered number (state_of g (more ++ h)).requests ≡ 0
