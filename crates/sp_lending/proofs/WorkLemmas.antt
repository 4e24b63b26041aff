-- The work of a task: its events, one after another.
use Rattle.std.proofs.Common.{◌≡◌, ℕ, ◌≤◌, Vec, Global, Bool, true, false, List, [], ◌∷◌, refl, sym, subst, ◌∙◌, length, arith}
use Rattle.std.specs.Prelude.{Result, Ok, Err, map, suc}
use Rattle.sp_events.specs.declared.fault.CoreFault.{CoreFault}
use Rattle.sp_core.specs.Cores.{has_lent}
use Rattle.sp_lender.specs.Hands.{committed, finished, given_back, parked}
use Rattle.sp_outputs.specs.Notes.{output_of}
use Rattle.sp_outputs.specs.declared.output.Output.{Output as Told}
use Rattle.sp_rules.specs.Classes.{Setting}
use Rattle.sp_rules.specs.Events.{Output}
use Rattle.sp_rules.specs.Space.{on}
use Rattle.sp_rules.specs.State.{State}
use Rattle.sp_tasks.specs.declared.behaviour.Op.{Op}
use Rattle.sp_lending.specs.Hands.{IsTask}
use Rattle.sp_lending.specs.Spaces.{AreOf, IsInSome, IsSpace}
use Rattle.sp_lending.specs.Works.{HasWorked, IsAtWork, IsOwn, IsTurned, operations_after, state_after}
use Rattle.sp_lending.specs.declared.parts.Parts.{Parts}
use Rattle.sp_lending.specs.declared.task_parts.TaskParts.{TaskParts}
use Rattle.sp_lending.specs.declared.working.Left.{Left}
use Rattle.sp_lending.specs.declared.working.Turned.{Turned}
use Rattle.sp_lending.specs.declared.working.Turned.TheVariants as turned

-- ---- it begins, and goes on

-- a task that its space lends has not worked yet
pub not-yet : (g : Setting) (s : State) (space : Parts) (task : TaskParts) → IsSpace g s space → IsTask g task → IsAtWork g s task.hand.task.id 0 space task
not-yet g s space task is of = record { events = []; commits = tt; within = omega arith; is = is; of = of; same = refl }

pub first-work : (g : Setting) (s : State) (id : ℕ) (space : Parts) (task : TaskParts) → IsSpace g s space → IsTask g task → task.hand.task.id ≡ id → IsAtWork g s id 0 space task
first-work g s id space task is of same = record { events = []; commits = tt; within = omega arith; is = is; of = of; same = same }

-- what is known of a space and a task after work
pub known-of : (g : Setting) (s : State) (id n : ℕ) (space : Parts) (task : TaskParts) → IsAtWork g s id n space task → AreOf space task
known-of g s id n space task w = record { setting = g; state = state_after g w.events s; is = w.is; of = w.of }

-- the same space, and another task of this id
pub at-work-as : (g : Setting) (s : State) (id n : ℕ) (space new : Parts) (task after : TaskParts) → (w : IsAtWork g s id n space task) → IsSpace g (state_after g w.events s) new → IsTask g after
    → after.hand.task.id ≡ task.hand.task.id → IsAtWork g s id n new after
at-work-as g s id n space new task after w is of same = record { events = w.events; commits = w.commits; within = w.within; is = is; of = of; same = same ∙ w.same }

-- as many operations, or fewer
pub at-work-more : (g : Setting) (s : State) (id n m : ℕ) (space : Parts) (task : TaskParts) → n ≤ m → IsAtWork g s id n space task → IsAtWork g s id m space task
at-work-more g s id n m space task more w =
    let within : length w.events ≤ n = w.within in
    record { events = w.events; commits = w.commits; within = omega (arith, within, more); is = w.is; of = w.of; same = w.same }

pub worked-more : (g : Setting) (s : State) (id n m : ℕ) (space : Parts) (outputs : List Output) (goes_on : Bool) → n ≤ m → HasWorked g s id n space outputs goes_on → HasWorked g s id m space outputs goes_on
worked-more g s id n m space outputs goes_on more w =
    let within : length w.events ≤ n = w.within in
    record { events = w.events; commits = w.commits; within = omega (arith, within, more); last = w.last; returns = w.returns; is = w.is; answers = w.answers }

pub turned-more : (g : Setting) (s : State) (id n m : ℕ) (space : Parts) (r : Result Turned (TaskParts × CoreFault)) → n ≤ m → IsTurned g s id n space r → IsTurned g s id m space r
turned-more g s id n m space (Ok (turned.InHand task)) more w = at-work-more g s id n m space task more w
turned-more g s id n m space (Ok (turned.Rests outputs)) more w = worked-more g s id n m space (map output_of outputs.items) false more w
turned-more g s id n m space (Err back) more w = at-work-more g s id n m space back.0 more w

one-more : (n : ℕ) → n ≤ suc n
one-more n = omega arith

-- a turn without an operation
pub idle-turn : (g : Setting) (s : State) (id n : ℕ) (space new : Parts) (task after : TaskParts) → (w : IsAtWork g s id n space task) → IsSpace g (state_after g w.events s) new → IsTask g after
    → after.hand.task.id ≡ task.hand.task.id → IsAtWork g s id (suc n) new after
idle-turn g s id n space new task after w is of same = at-work-more g s id n (suc n) new after (one-more n) (at-work-as g s id n space new task after w is of same)

-- an operation
pub one-operation : (g : Setting) (s : State) (id n : ℕ) (space new : Parts) (task after : TaskParts) (op : Op) → (w : IsAtWork g s id n space task)
    → IsSpace g (on g (committed task.hand.task op) (state_after g w.events s)).0 new → IsTask g after → after.hand.task.id ≡ task.hand.task.id → IsAtWork g s id (suc n) new after
one-operation g s id n space new task after op w is of same =
    let within : length w.events ≤ n = w.within in
    record {
      events = committed task.hand.task op ∷ w.events;
      commits = (w.same, w.commits);
      within = omega (arith, within);
      is = is;
      of = of;
      same = same ∙ w.same;
    }

-- a turn that left a task so
pub left-at : (g : Setting) (s : State) (id n : ℕ) (space : Parts) (task : TaskParts) (r x : Left) → r ≡ x → IsAtWork g s id (operations_after r n) space task → IsAtWork g s id (operations_after x n) space task
left-at g s id n space task r x is w = subst (λ (y : Left). IsAtWork g s id (operations_after y n) space task) is w

-- ---- it comes back

pub parks-then : (g : Setting) (s : State) (id n : ℕ) (space new : Parts) (task : TaskParts) (outputs : List Output) → (w : IsAtWork g s id n space task)
    → IsSpace g (on g (parked task.hand.task) (state_after g w.events s)).0 new → outputs ≡ (on g (parked task.hand.task) (state_after g w.events s)).1 → HasWorked g s id (suc n) new outputs false
parks-then g s id n space new task outputs w is answers =
    worked-more g s id n (suc n) new outputs false (one-more n)
    (record { events = w.events; commits = w.commits; within = w.within; last = parked task.hand.task; returns = (w.same, refl); is = is; answers = answers })

pub finishes-then : (g : Setting) (s : State) (id n : ℕ) (space new : Parts) (task : TaskParts) (outputs : List Output) → (w : IsAtWork g s id n space task)
    → IsSpace g (on g (finished task.hand.task) (state_after g w.events s)).0 new → outputs ≡ (on g (finished task.hand.task) (state_after g w.events s)).1 → HasWorked g s id (suc n) new outputs false
finishes-then g s id n space new task outputs w is answers =
    worked-more g s id n (suc n) new outputs false (one-more n)
    (record { events = w.events; commits = w.commits; within = w.within; last = finished task.hand.task; returns = (w.same, refl); is = is; answers = answers })

pub comes-back : (g : Setting) (s : State) (id n : ℕ) (space new : Parts) (task : TaskParts) → (w : IsAtWork g s id n space task)
    → IsSpace g (on g (given_back task.hand.task) (state_after g w.events s)).0 new → (on g (given_back task.hand.task) (state_after g w.events s)).1 ≡ [] → HasWorked g s id n new [] true
comes-back g s id n space new task w is nothing =
    record { events = w.events; commits = w.commits; within = w.within; last = given_back task.hand.task; returns = (w.same, refl); is = is; answers = sym nothing }

-- ---- what came of turns

pub handed : (g : Setting) (s : State) (id n : ℕ) (space : Parts) (task : TaskParts) (r : Result Turned (TaskParts × CoreFault)) (x : Turned) → r ≡ Ok x → x ≡ turned.InHand task → IsTurned g s id n space r
    → IsAtWork g s id n space task
handed g s id n space task r x e is w = subst (λ (y : Turned). IsTurned g s id n space (Ok y)) is (subst (IsTurned g s id n space) e w)

pub handed-own : (space : Parts) (task : TaskParts) (r : Result Turned (TaskParts × CoreFault)) (x : Turned) → r ≡ Ok x → x ≡ turned.InHand task → IsOwn space r → has_lent space.core task.hand ≡ true
handed-own space task r x e is own = subst (λ (y : Turned). IsOwn space (Ok y)) is (subst (IsOwn space) e own)

pub rested : (g : Setting) (s : State) (id n : ℕ) (space : Parts) (outputs : Vec Told Global) (r : Result Turned (TaskParts × CoreFault)) (x : Turned) → r ≡ Ok x → x ≡ turned.Rests outputs → IsTurned g s id n space r
    → HasWorked g s id n space (map output_of outputs.items) false
rested g s id n space outputs r x e is w = subst (λ (y : Turned). IsTurned g s id n space (Ok y)) is (subst (IsTurned g s id n space) e w)

pub stopped : (g : Setting) (s : State) (id n : ℕ) (space : Parts) (back : TaskParts × CoreFault) (r : Result Turned (TaskParts × CoreFault)) → r ≡ Err back → IsTurned g s id n space r → IsAtWork g s id n space back.0
stopped g s id n space back r e w = subst (IsTurned g s id n space) e w

pub stopped-own : (space : Parts) (back : TaskParts × CoreFault) (r : Result Turned (TaskParts × CoreFault)) → r ≡ Err back → IsOwn space r → has_lent space.core back.0.hand ≡ true
stopped-own space back r e own = subst (IsOwn space) e own

-- ---- the space

pub worked-in : (g : Setting) (s : State) (id n : ℕ) (space : Parts) (outputs : List Output) (goes_on : Bool) → HasWorked g s id n space outputs goes_on → IsInSome g space
worked-in g s id n space outputs goes_on w = record { state = (on g w.last (state_after g w.events s)).0; is = w.is }
