-- The laws of tasks that follow machines, each the contract of a function of this crate. (This project's own.)
use Rattle.std.specs.Prelude.{◌≡◌, ◌+◌, ℕ, suc, List, Some, Ok}
use Rattle.cls_link.specs.Links.{Links}
use Rattle.space_ids.specs.declared.value.Value.{Value}
use Rattle.sp_rules.specs.Behaviours as rules
use Rattle.sp_rules.specs.Classes.{Setting}
use Rattle.sp_rules.specs.Tasks as tasks
use Rattle.vm_act.specs.declared.asked.Asked.{Asked}
use Rattle.vm_act.specs.declared.asked.Reply.{Reply}
use Rattle.vm_act.specs.declared.machine.Machine.{Machine}
use Rattle.vm_step.specs.Run.{State, Running, Waits, answer, made, run, IsDue, IsNeverStuck}
use Rattle.vm_step.specs.Begin.{begun}
use Rattle.vm_step.specs.Task.{Tasked, outcome_at}
use Rattle.vm_step.specs.declared.outcome.Outcome.{Outcome}
use Rattle.sp_behaviours.specs.Behaviours.{limits_of, reply_to, told}
use Rattle.sp_behaviours.specs.Follows.{Follows, HoldsAsked, PlaysOn, is_over, stand_of, waiting}

-- A task stands where the machine that it follows stands.
abbrev pub StandsAreThose : Type 0
StandsAreThose = (links : Links) (g : Setting) (t : tasks.Task) (s : State) → Follows links g t s → tasks.stand t ≡ stand_of links s

-- It has ended as its machine tells.
abbrev pub EndsAreTold : Type 0
EndsAreTold = (links : Links) (g : Setting) (t : tasks.Task) (s : State) (outcome : Outcome) → Follows links g t s → outcome_at links.classes s ≡ Some outcome
    → tasks.stand t ≡ tasks.HasEnded (told outcome)

-- It follows its machine through instructions of its own, up to one that asks or that ends it.
abbrev pub StepsFollow : Type 0
StepsFollow = (links : Links) (g : Setting) (t : tasks.Task) (s : State) (k : ℕ) → Follows links g t s → Follows links g (tasks.steps k t) (run links k s)

-- An instruction of its own ends it where it ends the machine.
abbrev pub EndsAreMade : Type 0
EndsAreMade = (links : Links) (g : Setting) (t : tasks.Task) (m : Machine) (fuel : ℕ) → Follows links g t (Running m (suc fuel))
    → tasks.is_at_end (tasks.step t).behaviour ≡ is_over (run links 1 (Running m (suc fuel)))

-- An instruction that asks is not made before the reply comes: the task stands at it as it stood.
abbrev pub AsksStay : Type 0
AsksStay = (links : Links) (g : Setting) (t : tasks.Task) (s : State) (op : Asked) (m : Machine) (fuel : ℕ) → Follows links g t s → run links 1 s ≡ Waits op m fuel → tasks.step t ≡ t

-- What it asks of an object is asked of one that it holds.
abbrev pub AskedIsHeld : Type 0
AskedIsHeld = (links : Links) (g : Setting) (t : tasks.Task) (op : Asked) (m : Machine) (fuel : ℕ) → Follows links g t (Waits op m fuel) → HoldsAsked t.held op

-- They are as many in the rules as on the machine.
abbrev pub StepsAreCounted : Type 0
StepsAreCounted = (links : Links) (g : Setting) (t : tasks.Task) (s : State) (k : ℕ) → Follows links g t s → (tasks.steps k t).made ≡ t.made + made links k s

-- It follows its machine through a reply that is due, as the machine takes it. Of a call it has the fuel that comes back.
abbrev pub RepliesFollow : Type 0
RepliesFollow = (links : Links) (g : Setting) (t : tasks.Task) (op : Asked) (m : Machine) (fuel : ℕ) (r : rules.Reply) (given : Reply)
    → PlaysOn links g → Follows links g t (Waits op m fuel) → reply_to op r ≡ Some given → IsDue links.classes given (Waits op m fuel)
    → Follows links g (tasks.answer g r (waiting op t)) (answer given (Waits op m fuel))

-- What it lends for a call is all the fuel that its machine has left.
abbrev pub LentIsLeft : Type 0
LentIsLeft = (links : Links) (g : Setting) (t : tasks.Task) (op : Asked) (m : Machine) (fuel : ℕ) → Follows links g t (Waits op m fuel) → tasks.lent t ≡ fuel

-- A task that starts follows its machine as that begins.
abbrev pub StartsFollow : Type 0
StartsFollow = (links : Links) (g : Setting) (method : ℕ) (arguments : List Value) (fuel : ℕ) (task : Tasked)
    → PlaysOn links g → begun links g.id (record { 0 = method }) arguments (limits_of g.limits fuel) ≡ Ok task → IsNeverStuck links task.state
    → Follows links g (tasks.start g method arguments fuel) task.state
