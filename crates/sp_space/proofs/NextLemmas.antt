-- A task in hand, with whose machine it is level: what comes next of it, and the steps that it makes.
use Rattle.std.proofs.Common.{◌≡◌, ℕ, ◌+◌, Bool, true, false, List, [], ◌∷◌, Option, None, Some, refl, sym, ap, subst, ◌∙◌}
use Rattle.std.specs.Prelude.{IfSome, is_some, ◌==◌}
use Rattle.cls_link.specs.Links.{Links}
use Rattle.sp_rules.specs.Classes.{Setting}
use Rattle.sp_rules.specs.Events.{Event, Finished, GivenBack, Committed, Parked}
use Rattle.sp_rules.specs.Space.{state_of}
use Rattle.sp_rules.specs.State.{Living, task_at}
use Rattle.sp_rules.specs.Tasks.{HasEnded, Runs, stand, step}
use Rattle.sp_rules.specs.Worlds.{step_events}
use Rattle.sp_tasks.specs.Behaviours.{op_of, outcome_of}
use Rattle.sp_tasks.specs.Rows.{Hand}
use Rattle.sp_tasks.specs.declared.behaviour.Op.{Op}
use Rattle.sp_tasks.specs.declared.behaviour.Outcome.{Outcome}
use Rattle.sp_core.specs.Cores.{has_lent}
use Rattle.sp_core.specs.Hands.{committed, finished, given_back, is_on_store, parked}
use Rattle.sp_core.specs.declared.lent_task.LentTask.{LentTask}
use Rattle.sp_space.specs.Hands.{AsksInHand, ComesNext, EndsInHand, HasMade, IsInHand, IsLevelHand}
use Rattle.sp_machines.specs.Coming.{IsNextAt}
use Rattle.sp_space.specs.Machines.{machine_at}
use Rattle.sp_machines.specs.Players.{IsLevelAt, Played}
use Rattle.sp_space.specs.Spaces.{Stands}
use Rattle.sp_space.specs.declared.machines.Machines.{Machines}
use Rattle.sp_machines.specs.declared.task_machine.Next.{Next}
use Rattle.sp_machines.specs.declared.task_machine.Next.TheVariants as next
use Rattle.sp_space.specs.declared.parts.Parts.{Parts}
use Rattle.sp_space.proofs.HandLemmas.{asks-stand, ended-hand, level-player, level-stands, made-ends, made-hand, made-next-is}
use Rattle.sp_space.proofs.StandLemmas.{machine-change}
use Rattle.sp_machines.proofs.PlayedLemmas.{only}
use Rattle.sp_space.proofs.StepLemmas.{commit-events, ended-events, last-events, own-events, park-events}

-- its machine has changed, and is level with it still
pub level-now : (g : Setting) (h : List Event) (space : Parts) (machines : Machines) (hand : LentTask) (id : ℕ) → id ≡ hand.task.id → (l : IsLevelHand g h space hand)
    → ((links : Links) (g : Setting) (t : Living) → IsLevelAt links g t (machine_at id space.machines) → IsLevelAt links g t (machine_at id machines))
    → IsLevelAt space.program.now g l.living (machine_at hand.task.id machines)
level-now g h space machines hand id here l keeps =
    let links = space.program.now in
    subst (λ n. IsLevelAt links g l.living (machine_at n machines)) here
    (keeps links g l.living (subst (λ n. IsLevelAt links g l.living (machine_at n space.machines)) (sym here) l.level))

pub hand-now : (g : Setting) (h : List Event) (space : Parts) (machines : Machines) (hand : LentTask) (id : ℕ) → id ≡ hand.task.id → (l : IsLevelHand g h space hand)
    → IsLevelAt space.program.now g l.living (machine_at hand.task.id machines) → ((other : ℕ) → (id == other) ≡ false → machine_at other machines ≡ machine_at other space.machines)
    → IsInHand g h (record space { machines = machines }) hand
hand-now g h space machines hand id here l now others = record {
  stands = machine-change g h space machines hand.task.id l.in_hand.stands
      (level-stands space.program.now g l.living (task_at (state_of g h) hand.task.id) (machine_at hand.task.id machines) l.lives now)
      (λ other apart. others other (ap (λ n. n == other) here ∙ apart));
  own = l.in_hand.own;
  fresh = l.in_hand.fresh;
}

pub still-stands : (g : Setting) (h : List Event) (space : Parts) (machines : Machines) (hand : LentTask) (id : ℕ) → id ≡ hand.task.id → (l : IsLevelHand g h space hand)
    → ((links : Links) (g : Setting) (t : Living) → IsLevelAt links g t (machine_at id space.machines) → IsLevelAt links g t (machine_at id machines))
    → ((other : ℕ) → (id == other) ≡ false → machine_at other machines ≡ machine_at other space.machines) → Stands g h (record space { machines = machines })
still-stands g h space machines hand id here l keeps others = (hand-now g h space machines hand id here l (level-now g h space machines hand id here l keeps) others).stands

pub comes-next : (g : Setting) (h : List Event) (space : Parts) (machines : Machines) (hand : LentTask) (id : ℕ) (n : Next) → id ≡ hand.task.id → (l : IsLevelHand g h space hand)
    → ((links : Links) (g : Setting) (t : Living) → IsLevelAt links g t (machine_at id space.machines) → IsLevelAt links g t (machine_at id machines))
    → ((links : Links) (g : Setting) (t : Living) → IsLevelAt links g t (machine_at id space.machines) → IsNextAt t (machine_at id machines) n)
    → ((other : ℕ) → (id == other) ≡ false → machine_at other machines ≡ machine_at other space.machines) → ComesNext g h (record space { machines = machines }) hand n
comes-next g h space machines hand id n here l keeps comes others =
    let links = space.program.now in
    let now = level-now g h space machines hand id here l keeps in
    record {
      in_hand = hand-now g h space machines hand id here l now others;
      living = l.living;
      lives = l.lives;
      level = now;
      comes = subst (λ i. IsNextAt l.living (machine_at i machines) n) here (comes links g l.living (subst (λ i. IsLevelAt links g l.living (machine_at i space.machines)) (sym here) l.level));
    }

-- it does not wait
pub idle : (g : Setting) (h : List Event) (space : Parts) (hand : LentTask) (n : Next) → (c : ComesNext g h space hand n) → c.living.waits ≡ false
idle g h space hand n c = (level-player space.program.now g c.living (machine_at hand.task.id space.machines) c.level).level.ready

-- ---- the events of its step

pub ended-step : (g : Setting) (h : List Event) (space : Parts) (hand : LentTask) (outcome : Outcome) → (c : ComesNext g h space hand (next.Ended outcome))
    → step_events hand.task.id c.living.task ≡ finished hand.task ∷ []
ended-step g h space hand outcome c =
    ended-events hand.task.id c.living.task (outcome_of outcome) (ended-hand g h space hand outcome c).1 ∙ ap (λ k. Finished hand.task.id k ∷ []) (sym c.in_hand.fresh)

-- the hand counts one instruction
one-made : (g : Setting) (h : List Event) (space : Parts) (hand after : LentTask) (outcome : Option Outcome) → (c : ComesNext g h space hand (next.Made outcome)) → after.task ≡ record hand.task { made = hand.task.made + 1 }
    → after.task.made ≡ 1
one-made g h space hand after outcome c ran = ap (λ (x : Hand). x.made) ran ∙ ap (λ k. k + 1) c.in_hand.fresh

pub last-step : (g : Setting) (h : List Event) (space : Parts) (hand after : LentTask) (told : Option Outcome) (outcome : Outcome) → (c : ComesNext g h space hand (next.Made told)) → told ≡ Some outcome
    → after.task ≡ record hand.task { made = hand.task.made + 1 } → step_events hand.task.id c.living.task ≡ finished after.task ∷ []
last-step g h space hand after told outcome c ended ran =
    let m = made-next-is g h space hand told c in
    last-events hand.task.id c.living.task m.0 (m.1 ∙ ap is_some ended)
    ∙ (λ j. Finished ((ap (λ (x : Hand). x.id) (sym ran)) j) (sym (one-made g h space hand after told c ran) j) ∷ [])

pub own-step : (g : Setting) (h : List Event) (space : Parts) (hand after : LentTask) (told : Option Outcome) → (c : ComesNext g h space hand (next.Made told)) → told ≡ None
    → after.task ≡ record hand.task { made = hand.task.made + 1 } → step_events hand.task.id c.living.task ≡ given_back after.task ∷ []
own-step g h space hand after told c goes ran =
    let m = made-next-is g h space hand told c in
    own-events hand.task.id c.living.task m.0 (m.1 ∙ ap is_some goes)
    ∙ (λ j. GivenBack ((ap (λ (x : Hand). x.id) (sym ran)) j) (sym (one-made g h space hand after told c ran) j) ∷ [])

pub commit-step : (g : Setting) (h : List Event) (space : Parts) (hand : LentTask) (op : Op) → (a : AsksInHand g h space hand op) → is_on_store (op_of op) ≡ true
    → step_events hand.task.id a.living.task ≡ committed hand.task op ∷ GivenBack hand.task.id 0 ∷ []
commit-step g h space hand op a on =
    commit-events hand.task.id a.living.task (op_of op) (asks-stand g h space hand op a) on ∙ ap (λ k. Committed hand.task.id k (op_of op) ∷ GivenBack hand.task.id 0 ∷ []) (sym a.in_hand.fresh)

pub park-step : (g : Setting) (h : List Event) (space : Parts) (hand : LentTask) (op : Op) → (a : AsksInHand g h space hand op) → is_on_store (op_of op) ≡ false
    → step_events hand.task.id a.living.task ≡ parked hand.task ∷ []
park-step g h space hand op a off =
    park-events hand.task.id a.living.task (op_of op) (asks-stand g h space hand op a) off ∙ ap (λ k. Parked hand.task.id k ∷ []) (sym a.in_hand.fresh)

-- a task that its instruction has ended
pub made-ended : (g : Setting) (h : List Event) (space : Parts) (hand after : LentTask) (told : Option Outcome) (outcome : Outcome) → (c : ComesNext g h space hand (next.Made told)) → told ≡ Some outcome
    → after.task ≡ record hand.task { made = hand.task.made + 1 } → has_lent space.core after ≡ true → EndsInHand g h space after outcome
made-ended g h space hand after told outcome c ended ran own =
    let m = made-hand g h space hand after told c ran own in
    let same : m.living ≡ c.living = only m.living c.living (sym m.lives ∙ ap (λ (x : Hand). task_at (state_of g h) x.id) ran ∙ c.lives) in
    made-ends g h space after outcome m (ap (λ (t : Living). stand (step t.task)) same ∙ subst (λ (o : Option Outcome). IfSome o (λ ended. stand (step c.living.task) ≡ HasEnded (outcome_of ended))) ended (made-next-is g h space hand told c).2)
