-- The events of a step, one after the other.
use Rattle.std.proofs.Common.{◌≡◌, ◌⊎◌, inl, inr, ℕ, Bool, true, false, cond, List, [], ◌∷◌, ◌++◌, Option, None, Some, refl, sym, ap, subst, ◌∙◌}
use Rattle.std.specs.Prelude.{is_some}
use Rattle.std.proofs.lemmas.Bool.{false≢true, true≢false}
use Rattle.sp_events.specs.FaultNames.{RefusesOrLacks}
use Rattle.sp_events.specs.declared.fault.CoreFault.{CoreFault}
use Rattle.sp_rules.specs.Behaviours.{Op, Create, Get, Put, Call, Outcome}
use Rattle.sp_rules.specs.Classes.{Setting}
use Rattle.sp_rules.specs.Events.{Event, Output, Committed, Parked, GivenBack, Finished}
use Rattle.sp_rules.specs.Lists.{with_some}
use Rattle.sp_rules.specs.Refusals.{Refusal, NotLent, refusal}
use Rattle.sp_rules.specs.Space.{on, outputs_of, state_of}
use Rattle.sp_rules.specs.State.{State, Living, ready_at, task_at, that_is_ready}
use Rattle.sp_rules.specs.Tasks.{Task, Runs, AsksFor, HasEnded, is_at_end, stand, step}
use Rattle.sp_rules.specs.Worlds.{events_after, events_at, events_of_op, lent_for, step_events}
use Rattle.sp_core.specs.Hands.{is_on_store}
use Rattle.sp_world.specs.Steps.{answers_to, events_of_step, refusal_of, step_at, step_refusal}
use Rattle.sp_space.specs.Events.{Happened, IsRefused, IsStep, IsStepRefused, grown}
use Rattle.sp_space.specs.Spaces.{Stands}
use Rattle.sp_space.specs.declared.parts.Parts.{Parts}

-- ---- refusals

-- of a task that lives and does not wait
step-refused : (g : Setting) (s : State) (id : ℕ) (t : Living) (es : List Event) → task_at s id ≡ Some t → t.waits ≡ false → step_events id t.task ≡ es → step_refusal g s id ≡ refusal_of g s es
step-refused g s id t es lives idle events =
    ap (λ (o : Option Living). with_some o (Some NotLent) (λ (t : Living). cond t.waits (Some NotLent) (refusal_of g s (step_events id t.task)))) lives
    ∙ ap (λ b. cond b (Some NotLent) (refusal_of g s (step_events id t.task))) idle ∙ ap (refusal_of g s) events

first-refused : (r rest : Option Refusal) (fault : CoreFault) → RefusesOrLacks r fault → RefusesOrLacks (with_some r rest (λ why. Some why)) fault
first-refused None rest fault (inl memory) = inl memory
first-refused None rest fault (inr memory) = inl memory
first-refused (Some why) rest fault refused = refused

pub event-refused : (g : Setting) (h : List Event) (id : ℕ) (t : Living) (e : Event) (es : List Event) (fault : CoreFault) → task_at (state_of g h) id ≡ Some t → t.waits ≡ false → step_events id t.task ≡ e ∷ es
    → IsRefused g h e fault → IsStepRefused g h id fault
event-refused g h id t e es fault lives idle events refused =
    subst (λ (r : Option Refusal). RefusesOrLacks r fault) (sym (step-refused g (state_of g h) id t (e ∷ es) lives idle events))
    (first-refused (refusal g (lent_for e) (state_of g h) e) (refusal_of g (on g e (state_of g h)).0 es) fault refused)

-- a task that is not ready is not lent
pub not-ready : (g : Setting) (s : State) (id : ℕ) → is_some (ready_at s id) ≡ false → step_refusal g s id ≡ Some NotLent
not-ready g s id none = by (task_at s id) none
  where
    by : (o : Option Living) → is_some (that_is_ready o) ≡ false → with_some o (Some NotLent) (λ (t : Living). cond t.waits (Some NotLent) (refusal_of g s (step_events id t.task))) ≡ Some NotLent
    by None none = refl
    by (Some t) none =
        elim t.waits as (λ b. is_some (cond b None (Some t)) ≡ false → cond b (Some NotLent) (refusal_of g s (step_events id t.task)) ≡ Some NotLent) [
          | true ↦ λ e. refl
          | false ↦ λ e. absurd (true≢false e)
        ] none

-- ---- steps

nothing-more : {A : Type 0} (xs : List A) → xs ++ [] ≡ xs
nothing-more [] = refl
nothing-more (x ∷ xs) = ap (λ ys. x ∷ ys) (nothing-more xs)

its-events : (g : Setting) (h : List Event) (id : ℕ) (t : Living) (es : List Event) → task_at (state_of g h) id ≡ Some t → step_events id t.task ≡ es → step_at (state_of g h) id ≡ es
its-events g h id t es lives events = ap (λ (o : Option Living). events_of_step o id) lives ∙ events

stepped : (g : Setting) (h : List Event) (id : ℕ) (t : Living) (es : List Event) (after : Parts) (outputs : List Output) → task_at (state_of g h) id ≡ Some t → t.waits ≡ false → step_events id t.task ≡ es
    → refusal_of g (state_of g h) es ≡ None → outputs ≡ answers_to g (state_of g h) es → Stands g (grown h es) after → IsStep g h id after outputs
stepped g h id t es after outputs lives idle events unrefused answers stands = record {
  accepted = step-refused g (state_of g h) id t es lives idle events ∙ unrefused;
  answers = answers ∙ ap (answers_to g (state_of g h)) (sym (its-events g h id t es lives events));
  stands = subst (λ (xs : List Event). Stands g (grown h xs) after) (sym (its-events g h id t es lives events)) stands;
}

-- a step of one event
pub one-event : (g : Setting) (h : List Event) (id : ℕ) (t : Living) (e : Event) (after : Parts) (outputs : List Output) → task_at (state_of g h) id ≡ Some t → t.waits ≡ false → step_events id t.task ≡ e ∷ []
    → Happened g h e after outputs → IsStep g h id after outputs
unfolding outputs_of
one-event g h id t e after outputs lives idle events happened =
    stepped g h id t (e ∷ []) after outputs lives idle events (ap (λ (r : Option Refusal). with_some r None (λ why. Some why)) happened.accepted)
    (happened.answers ∙ sym (nothing-more (on g e (state_of g h)).1)) happened.stands

-- a step of two events that answer nothing
pub two-events : (g : Setting) (h : List Event) (id : ℕ) (t : Living) (e f : Event) (after : Parts) (outputs : List Output) → task_at (state_of g h) id ≡ Some t → t.waits ≡ false → step_events id t.task ≡ e ∷ f ∷ []
    → refusal g (lent_for e) (state_of g h) e ≡ None → refusal g (lent_for f) (state_of g (e ∷ h)) f ≡ None → (on g e (state_of g h)).1 ≡ [] → (on g f (state_of g (e ∷ h))).1 ≡ [] → outputs ≡ []
    → Stands g (f ∷ e ∷ h) after → IsStep g h id after outputs
unfolding state_of
two-events g h id t e f after outputs lives idle events first second silent more none stands =
    stepped g h id t (e ∷ f ∷ []) after outputs lives idle events
    ((λ j. with_some (first j) (with_some (second j) None (λ why. Some why)) (λ why. Some why)))
    (none ∙ sym (λ j. silent j ++ (more j ++ []))) stands

-- ---- which events they are

pub ended-events : (id : ℕ) (t : Task) (outcome : Outcome) → stand t ≡ HasEnded outcome → step_events id t ≡ Finished id 0 ∷ []
ended-events id t outcome ends = ap (events_at id t) ends

pub last-events : (id : ℕ) (t : Task) → stand t ≡ Runs → is_at_end (step t).behaviour ≡ true → step_events id t ≡ Finished id 1 ∷ []
last-events id t runs ends = ap (events_at id t) runs ∙ ap (events_after id) ends

pub own-events : (id : ℕ) (t : Task) → stand t ≡ Runs → is_at_end (step t).behaviour ≡ false → step_events id t ≡ GivenBack id 1 ∷ []
own-events id t runs goes = ap (events_at id t) runs ∙ ap (events_after id) goes

store-events : (id : ℕ) (op : Op) → is_on_store op ≡ true → events_of_op id op ≡ Committed id 0 op ∷ GivenBack id 0 ∷ []
store-events id (Create class) on = refl
store-events id (Get object slot) on = refl
store-events id (Put object slot value) on = refl
store-events id (Call target method arguments) on = absurd (false≢true on)

pub commit-events : (id : ℕ) (t : Task) (op : Op) → stand t ≡ AsksFor op → is_on_store op ≡ true → step_events id t ≡ Committed id 0 op ∷ GivenBack id 0 ∷ []
commit-events id t op asks on = ap (events_at id t) asks ∙ store-events id op on

call-events : (id : ℕ) (op : Op) → is_on_store op ≡ false → events_of_op id op ≡ Parked id 0 ∷ []
call-events id (Create class) off = absurd (true≢false off)
call-events id (Get object slot) off = absurd (true≢false off)
call-events id (Put object slot value) off = absurd (true≢false off)
call-events id (Call target method arguments) off = refl

pub park-events : (id : ℕ) (t : Task) (op : Op) → stand t ≡ AsksFor op → is_on_store op ≡ false → step_events id t ≡ Parked id 0 ∷ []
park-events id t op asks off = ap (events_at id t) asks ∙ call-events id op off

-- ---- an event that happened

pub happened : (g : Setting) (h : List Event) (e : Event) (after : Parts) (outputs : List Output) → refusal g (lent_for e) (state_of g h) e ≡ None → outputs ≡ (on g e (state_of g h)).1 → Stands g (e ∷ h) after
    → Happened g h e after outputs
unfolding outputs_of
happened g h e after outputs unrefused answers stands = record { accepted = unrefused; answers = answers; stands = stands }
