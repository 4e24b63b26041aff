-- A machine at what it asks, and the task that follows it.
use Rattle.std.proofs.Common.{◌≡◌, ℕ, ◌+◌, zero, suc, Bool, true, false, cond, List, [], ◌∷◌, Option, None, Some, refl, sym, ap, subst, ◌∙◌, arith}
use Rattle.std.specs.Prelude.{◌==◌, ◌&&◌, ◌||◌, ◌++◌, is_some, not}
use Rattle.std.specs.List.{list_any}
use Rattle.std.proofs.lemmas.Bool.{false≢true}
use Rattle.cls_link.specs.Links.{Links}
use Rattle.cls_set.specs.declared.class.Class.{Class}
use Rattle.sp_behaviours.specs.Behaviours.{IsOfStore, op_at}
use Rattle.sp_behaviours.specs.Calls.{IsSettingOf}
use Rattle.sp_behaviours.specs.Follows.{Follows, PlaysOn, stand_before, stand_of, waiting}
use Rattle.sp_behaviours.proofs.Following.{asks-stay, steps-follow}
use Rattle.sp_behaviours.proofs.SetLemmas.{memory_named}
use Rattle.sp_rules.specs.Behaviours as rules
use Rattle.sp_rules.specs.Classes.{Classes, Setting}
use Rattle.sp_rules.specs.Behaviours.{Op, Create, Get, Put, Call}
use Rattle.sp_rules.specs.Events.{Event, Committed, GivenBack}
use Rattle.sp_rules.specs.Lists.{with_some}
use Rattle.sp_rules.specs.LivingTasks.{after_steps, give_back, op_reply}
use Rattle.sp_rules.specs.Origins.{IsTaken}
use Rattle.sp_rules.specs.Refusals.{Check, NotHeld, NotLent, WornOut, WrongKind, first_refusal, fits_store, holds_op, is_in_hand, is_worn, refusal, refuse_if, stand_after, stands_at}
use Rattle.sp_rules.specs.Space.{happen, on, state_of}
use Rattle.sp_rules.specs.State as states
use Rattle.sp_rules.specs.State.{Living, ready_at, set_task, task_at}
use Rattle.sp_rules.proofs.OwnLemmas.{first-of, later, not-false, unrefused}
use Rattle.sp_rules.specs.Tasks as tasks
use Rattle.sp_rules.specs.Tasks.{AsksFor}
use Rattle.vm_act.specs.Next.{Next, On, Ends, Asks, Stuck}
use Rattle.vm_act.specs.declared.asked.Asked.{Asked}
use Rattle.vm_act.specs.declared.asked.Asked.TheVariants as asked
use Rattle.vm_act.specs.declared.machine.Machine.{Machine}
use Rattle.vm_step.specs.Run.{State, Running, Waits, Over, Lost, after, run, step}
use Rattle.vm_step.specs.Steps as insns

-- tasks of a setting of a set do what the machines of the set do
pub plays-on : (links : Links) (g : Setting) → IsSettingOf links g → PlaysOn links g
plays-on links g set = record {
  behaviour = λ own limits method arguments fuel. ap (λ (c : Classes). c.behaviour own limits method arguments fuel) set.classes;
  out_of_memory = memory_named links set.are ∙ ap (λ (c : Classes). Some c.out_of_memory) (sym set.classes);
}

-- ---- where it asks

-- The machine stands at this operation: one step more leads to where it waits.
pub record AsksAt (links : Links) (s : State) (op : rules.Op) : Type 0 where
  pub asked : Asked
  pub machine : Machine
  pub fuel : ℕ
  pub waits : run links 1 s ≡ Waits asked machine fuel
  pub is : op_at links.classes asked machine ≡ op

pub asks-at : (links : Links) (s : State) (op : rules.Op) → stand_of links s ≡ AsksFor op → AsksAt links s op
unfolding run step
asks-at links (Running m zero) op e = absurd (cc)
asks-at links (Running m (suc fuel)) op e = by (insns.step links m) refl e
  where
    by : (n : Next) → insns.step links m ≡ n → stand_before links n ≡ AsksFor op → AsksAt links (Running m (suc fuel)) op
    by (On m') is e = absurd (cc)
    by (Ends ending) is e = absurd (cc)
    by (Asks a m') is e = let same : op_at links.classes a m' ≡ op = cc in record { asked = a; machine = m'; fuel = fuel; waits = ap (λ (n : Next). after m.heap.cells n fuel) is; is = same }
    by Stuck is e = absurd (cc)
asks-at links (Waits a m fuel) op e = let same : op_at links.classes a m ≡ op = cc in record { asked = a; machine = m; fuel = fuel; waits = refl; is = same }
asks-at links (Over end fuel) op e = absurd (cc)
asks-at links Lost op e = absurd (cc)

one-step : (t : tasks.Task) → tasks.steps 1 t ≡ tasks.step t
unfolding tasks.steps
one-step t = refl

-- There the task follows the machine as it waits.
pub asks-follow : (links : Links) (g : Setting) (t : tasks.Task) (s : State) → Follows links g t s → (op : Asked) (m : Machine) (fuel : ℕ) → run links 1 s ≡ Waits op m fuel → Follows links g t (Waits op m fuel)
asks-follow links g t s follows op m fuel waits =
    let stays : tasks.steps 1 t ≡ t = one-step t ∙ asks-stay links g t s op m fuel follows waits in
    subst (Follows links g t) waits (subst (λ (u : tasks.Task). Follows links g u (run links 1 s)) stays (steps-follow links g t s 1 follows))

-- ---- operations on the store

-- what a space takes as one is no call
pub of-store : (g : Setting) (s : states.State) (classes : List Class) (m : Machine) (op : Asked) → fits_store g s (op_at classes op m) ≡ true → IsOfStore op
of-store g s classes m (asked.Create class) fits = tt
of-store g s classes m (asked.Get object slot) fits = tt
of-store g s classes m (asked.Put object slot value) fits = tt
of-store g s classes m (asked.Call target method count) fits = absurd (false≢true fits)

-- nothing is lent for one
pub store-keeps : (op : Asked) (t : tasks.Task) → IsOfStore op → waiting op t ≡ t
store-keeps (asked.Create class) t of = refl
store-keeps (asked.Get object slot) t of = refl
store-keeps (asked.Put object slot value) t of = refl
store-keeps (asked.Call target method count) t of = absurd of

-- one that a space took fits its store
pub fits-taken : (g : Setting) (lent : List ℕ) (s : states.State) (id k : ℕ) (op : Op) → refusal g lent s (Committed id k op) ≡ None → fits_store g s op ≡ true
fits-taken g lent s id k op taken = not-false (fits_store g s op) (first-of (not (fits_store g s op)) WrongKind asks (later kind (fits ++ asks) (later hand (kind ++ (fits ++ asks)) (unrefused g lent s (Committed id k op) taken)))).0
  where
    asks : List Check
    asks = refuse_if (not (stands_at op (stand_after k (task_at s id)))) WrongKind

    fits : List Check
    fits = refuse_if (not (fits_store g s op)) WrongKind

    kind : List Check
    kind = refuse_if (not (holds_op g (task_at s id) op)) NotHeld

    hand : List Check
    hand = refuse_if (not (is_in_hand lent s id)) NotLent

-- ---- a reply does not rest on how far a task has come

-- the store is as it was after instructions of a task's own
reply-same : (g : Setting) (id k : ℕ) (op : Op) (s : states.State) → op_reply g op (give_back id k s) ≡ op_reply g op s
unfolding op_reply give_back
reply-same g id k op s = by (ready_at s id) op
  where
    by : (o : Option Living) (op : Op) → op_reply g op (with_some o s (λ t. set_task (after_steps k) id s)) ≡ op_reply g op s
    by None op = refl
    by (Some t) (Create class) = refl
    by (Some t) (Get object slot) = refl
    by (Some t) (Put object slot value) = refl
    by (Some t) (Call target method arguments) = refl

pub reply-after : (g : Setting) (h : List Event) (id k : ℕ) (op : Op) → op_reply g op (state_of g (GivenBack id k ∷ h)) ≡ op_reply g op (state_of g h)
unfolding state_of on happen
reply-after g h id k op = reply-same g id k op (state_of g h)

-- A task that may go on may be given back, if it is lent.
back-unrefused : (worn here ready : Bool) → here ≡ true → ready ≡ true → cond (worn && false) (Some WornOut) (first_refusal (refuse_if (not (here && ready)) NotLent)) ≡ None
back-unrefused true true true here ready = refl
back-unrefused false true true here ready = refl
back-unrefused worn false ready here some = absurd (false≢true here)
back-unrefused worn true false here some = absurd (false≢true some)

pub back-taken : (g : Setting) (h : List Event) (id k : ℕ) → is_some (ready_at (state_of g h) id) ≡ true → IsTaken g h → IsTaken g (GivenBack id k ∷ h)
unfolding refusal
back-taken g h id k ready taken =
    ((id ∷ [], back-unrefused (is_worn (state_of g h)) (list_any (◌==◌ id) (id ∷ [])) (is_some (ready_at (state_of g h) id)) (itself id) ready), taken)
  where
    itself : (n : ℕ) → list_any (◌==◌ n) (n ∷ []) ≡ true
    itself n = let e : (n == n) ≡ true = grind arith in ap (λ b. b || false) e
