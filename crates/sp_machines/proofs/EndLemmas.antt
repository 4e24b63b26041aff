-- Where a task stands that follows a machine, and what the machine's next instruction leads to.
use Rattle.std.proofs.Common.{◌≡◌, ℕ, ◌+◌, ◌≤◌, zero, suc, Option, None, Some, refl, sym, ap, subst, ◌∙◌, arith}
use Rattle.std.specs.Prelude.{◌-◌, option_map}
use Rattle.cls_link.specs.Links.{Links}
use Rattle.sp_behaviours.specs.Behaviours.{told}
use Rattle.sp_behaviours.specs.Follows.{Follows, is_over, stand_before, stand_of}
use Rattle.sp_behaviours.proofs.Following.{asks-stay, ends-made, ends-told, stands, steps-follow}
use Rattle.sp_rules.specs.Behaviours as rules
use Rattle.sp_rules.specs.Behaviours.{Behaviour, Outcome, Plain}
use Rattle.sp_rules.specs.Classes.{Setting}
use Rattle.sp_rules.specs.Tasks.{Task, Stand, Runs, AsksFor, HasEnded, is_at_end, stand, stand_at, step, step_at, steps}
use Rattle.vm_act.specs.Next.{Next, On, Ends, Asks, Stuck}
use Rattle.vm_act.specs.declared.asked.Asked.{Asked}
use Rattle.vm_act.specs.declared.machine.Machine.{Machine}
use Rattle.vm_step.specs.Steps as insns
use Rattle.vm_step.specs.Run as runs
use Rattle.vm_step.specs.Run.{State, Running, Waits, Over, Lost, after, run, IsNeverStuck, IsNotLost}
use Rattle.vm_step.specs.Task.{outcome_at, pause_at}
use Rattle.vm_step.specs.declared.outcome.Outcome.{Outcome as Ended}
use Rattle.vm_step.specs.declared.outcome.Pause.TheVariants.{Ask}
use Rattle.vm_step.proofs.Runs.{IsNeverStuck-step, at_once}
use Rattle.sp_machines.specs.Players.{end_at, end_in, ended_in}

-- ---- ends

ends-at : (links : Links) (s : State) → IsNeverStuck links s → end_at (stand_of links s) ≡ end_in links.classes s
unfolding runs.step
ends-at links (Running m zero) safe = refl
ends-at links (Running m (suc fuel)) safe = by (insns.step links m) (at_once links (runs.step links (Running m (suc fuel))) (IsNeverStuck-step links (Running m (suc fuel)) safe))
  where
    by : (n : Next) → IsNotLost links (after m.heap.cells n fuel) → end_at (stand_before links n) ≡ None
    by (On m') there = refl
    by (Ends ending) there = refl
    by (Asks op m') there = refl
    by Stuck there = absurd there
ends-at links (Waits op m fuel) safe = refl
ends-at links (Over end fuel) safe = refl
ends-at links Lost safe = refl

-- a task has ended as its machine has
pub ends-as : (links : Links) (g : Setting) (t : Task) (s : State) → Follows links g t s → end_at (stand t) ≡ end_in links.classes s
ends-as links g t s f = ap end_at (stands links g t s f) ∙ ends-at links s f.never_stuck

pub ended-stands : (at : Stand) (outcome : Outcome) → end_at at ≡ Some outcome → at ≡ HasEnded outcome
ended-stands Runs outcome e = cc
ended-stands (AsksFor op) outcome e = cc
ended-stands (HasEnded other) outcome e = let same : other ≡ outcome = cc in ap HasEnded same

-- ---- the next instruction

pub waits-for : (op : Asked) (s : State) → pause_at s ≡ Ask op → (m : Machine) × (fuel : ℕ) × (s ≡ Waits op m fuel)
waits-for op (Running m fuel) e = cc
waits-for op (Waits asked m fuel) e = let same : asked ≡ op = cc in (m, fuel, ap (λ x. Waits x m fuel) same)
waits-for op (Over end fuel) e = cc
waits-for op Lost e = cc

-- a machine that has not ended and does not ask stands before an instruction of its own
runs-at : (links : Links) (s : State) → IsNeverStuck links s → end_in links.classes s ≡ None → ((op : Asked) → pause_at (run links 1 s) ≡ Ask op → ⊥) → stand_of links s ≡ Runs
unfolding run runs.step
runs-at links (Running m zero) safe on silent = cc
runs-at links (Running m (suc fuel)) safe on silent = by (insns.step links m) (at_once links (runs.step links (Running m (suc fuel))) (IsNeverStuck-step links (Running m (suc fuel)) safe)) silent
  where
    by : (n : Next) → IsNotLost links (after m.heap.cells n fuel) → ((op : Asked) → pause_at (after m.heap.cells n fuel) ≡ Ask op → ⊥) → stand_before links n ≡ Runs
    by (On m') there silent = refl
    by (Ends ending) there silent = refl
    by (Asks op m') there silent = absurd (silent op refl)
    by Stuck there silent = absurd there
runs-at links (Waits op m fuel) safe on silent = absurd (silent op refl)
runs-at links (Over end fuel) safe on silent = cc
runs-at links Lost safe on silent = cc

pub runs-on : (links : Links) (g : Setting) (t : Task) (s : State) → Follows links g t s → end_in links.classes s ≡ None → ((op : Asked) → pause_at (run links 1 s) ≡ Ask op → ⊥) → stand t ≡ Runs
runs-on links g t s f on silent = stands links g t s f ∙ runs-at links s f.never_stuck on silent

-- that ends the task where it ends the machine
pub ends-on : (links : Links) (g : Setting) (t : Task) (s : State) → Follows links g t s → end_in links.classes s ≡ None → ((op : Asked) → pause_at (run links 1 s) ≡ Ask op → ⊥) → is_at_end (step t).behaviour ≡ is_over (run links 1 s)
unfolding run runs.step
ends-on links g t (Running m zero) f on silent = cc
ends-on links g t (Running m (suc fuel)) f on silent = ends-made links g t m fuel f
ends-on links g t (Waits op m fuel) f on silent = absurd (silent op refl)
ends-on links g t (Over end fuel) f on silent = cc
ends-on links g t Lost f on silent = cc

-- it ends as its machine tells
pub ends-told-of : (links : Links) (g : Setting) (t : Task) (s : State) (outcome : Outcome) → Follows links g t s → Some outcome ≡ ended_in links.classes s → stand t ≡ HasEnded outcome
ends-told-of links g t s outcome f e = by (outcome_at links.classes s) refl e
  where
    by : (o : Option Ended) → outcome_at links.classes s ≡ o → Some outcome ≡ option_map told o → stand t ≡ HasEnded outcome
    by None at e = absurd (cc)
    by (Some ended) at e = let same : outcome ≡ told ended = cc in ends-told links g t s ended f at ∙ ap HasEnded (sym same)

steps-one : (t : Task) → steps 1 t ≡ step t
unfolding steps
steps-one t = refl

-- an instruction of its own takes one unit of fuel
runs-fuel : (b : Behaviour) (n : ℕ) → stand_at b n ≡ Runs → 1 ≤ n
runs-fuel (rules.Over outcome) n e = absurd (cc)
runs-fuel (Plain next) zero e = absurd (cc)
runs-fuel (Plain next) (suc n) e = omega arith
runs-fuel (rules.Asks op next) zero e = absurd (cc)
runs-fuel (rules.Asks op next) (suc n) e = absurd (cc)
runs-fuel (rules.Ends outcome) zero e = absurd (cc)
runs-fuel (rules.Ends outcome) (suc n) e = omega arith

pub step-fuel : (t : Task) → stand t ≡ Runs → (step t).fuel + 1 ≡ t.fuel
unfolding stand step
step-fuel t runs =
    let some : 1 ≤ t.fuel = runs-fuel t.behaviour t.fuel runs in
    let less : (step_at (stand_at t.behaviour t.fuel) t).fuel ≡ t.fuel - 1 = ap (λ (at : Stand). (step_at at t).fuel) runs in
    omega (arith, some, less)

-- before it, it has some
pub some-fuel : (t : Task) → stand t ≡ Runs → 1 ≤ t.fuel
unfolding stand
some-fuel t runs = runs-fuel t.behaviour t.fuel runs

-- through an instruction of its own
pub steps-on : (links : Links) (g : Setting) (t : Task) (s : State) → Follows links g t s → Follows links g (step t) (run links 1 s)
steps-on links g t s f = subst (λ (u : Task). Follows links g u (run links 1 s)) (steps-one t) (steps-follow links g t s 1 f)

-- at one that asks it stays
pub asks-on : (links : Links) (g : Setting) (t : Task) (s : State) (op : Asked) → Follows links g t s → pause_at (run links 1 s) ≡ Ask op → Follows links g t (run links 1 s)
asks-on links g t s op f asks =
    let (m, fuel, waits) = waits-for op (run links 1 s) asks in
    subst (λ (u : Task). Follows links g u (run links 1 s)) (asks-stay links g t s op m fuel f waits) (steps-on links g t s f)

pub run-none : (links : Links) (s : State) → run links 0 s ≡ s
unfolding run
run-none links s = refl

-- ---- instructions of its own, and the fuel that they take

step-less : (t : Task) → (step t).fuel ≤ t.fuel
unfolding step
step-less t = by (stand t)
  where
    by : (at : Stand) → (step_at at t).fuel ≤ t.fuel
    by Runs = omega arith
    by (AsksFor op) = omega arith
    by (HasEnded outcome) = omega arith

steps-less : (k : ℕ) (t : Task) → (steps k t).fuel ≤ t.fuel
unfolding steps
steps-less zero t = omega arith
steps-less (suc k) t =
    let rest : (steps k (step t)).fuel ≤ (step t).fuel = steps-less k (step t) in
    let one : (step t).fuel ≤ t.fuel = step-less t in
    omega (arith, rest, one)

-- A task that stands at another instruction, or at its end, makes none.
after-one : (k n : ℕ) (t : Task) → ((m : ℕ) (u : Task) → m + (steps k u).fuel ≡ u.fuel → steps m u ≡ steps k u) → (step t).fuel + 1 ≡ t.fuel → (steps k (step t)).fuel ≤ (step t).fuel → n + (steps k (step t)).fuel ≡ t.fuel
    → steps n t ≡ steps k (step t)
unfolding steps
after-one k zero t rest took less spent = absurd (omega (arith, took, less, spent))
after-one k (suc m) t rest took less spent = rest m (step t) (omega (arith, took, spent))

after-none : (k n : ℕ) (t : Task) → ((m : ℕ) (u : Task) → m + (steps k u).fuel ≡ u.fuel → steps m u ≡ steps k u) → step t ≡ t → n + (steps k (step t)).fuel ≡ t.fuel → steps n t ≡ steps k (step t)
after-none k n t rest still spent = rest n t (ap (λ (u : Task). n + (steps k u).fuel) (sym still) ∙ spent) ∙ ap (steps k) (sym still)

after-some : (k n : ℕ) (t : Task) (at : Stand) → stand t ≡ at → ((m : ℕ) (u : Task) → m + (steps k u).fuel ≡ u.fuel → steps m u ≡ steps k u) → n + (steps k (step t)).fuel ≡ t.fuel → steps n t ≡ steps k (step t)
unfolding step
after-some k n t Runs runs rest spent = after-one k n t rest (step-fuel t runs) (steps-less k (step t)) spent
after-some k n t (AsksFor op) asks rest spent = after-none k n t rest (λ j. step_at (asks j) t) spent
after-some k n t (HasEnded outcome) ends rest spent = after-none k n t rest (λ j. step_at (ends j) t) spent

-- it made as many as the units of fuel that they took
pub steps-made : (k n : ℕ) (t : Task) → n + (steps k t).fuel ≡ t.fuel → steps n t ≡ steps k t
unfolding steps
steps-made zero n t spent = let none : n ≡ 0 = omega (arith, spent) in ap (λ m. steps m t) none
steps-made (suc k) n t spent = after-some k n t (stand t) refl (λ m u. steps-made k m u) spent
