-- A method ends in one way in a space: steps lead from one history to one.
use Rattle.std.proofs.Common.{◌≡◌, ℕ, List, [], ◌∷◌, None, Some, refl, sym, ap, subst, ◌∙◌}
use Rattle.std.specs.Prelude.{unwrap_or}
use Rattle.cls_set.specs.declared.class.Class.{Class}
use Rattle.sp_rules.specs.Behaviours as rules
use Rattle.sp_rules.specs.Classes.{Setting}
use Rattle.sp_rules.specs.Events.{Event, Output, Ended}
use Rattle.sp_rules.specs.Origins.{IsTaken}
use Rattle.sp_rules.specs.Refusals.{refusal}
use Rattle.sp_rules.specs.Space.{state_of}
use Rattle.sp_rules.specs.State.{Living, task_at}
use Rattle.sp_rules.specs.Worlds.{step_events}
use Rattle.sp_behaviours.specs.Behaviours.{told}
use Rattle.vm_step.specs.declared.outcome.Outcome.{Outcome}
use Rattle.vm_step.specs.declared.outcome.Outcome.TheVariants as outcome
use Rattle.sp_runs.specs.Going.{Reaches, same, step}
use Rattle.sp_runs.specs.InSpace.{EndsAs, Grows, answers_to, begins, grown, lowest_ready, steps}
use Rattle.sp_runs.specs.Outcomes.{IsNamed}
use Rattle.sp_files.specs.declared.outcome.RunOutcome.{RunOutcome}
use Rattle.sp_runs.proofs.Only.{one_thrown}
use Rattle.sp_runs.proofs.Moved.{untold, untold-told}

some-none : {A : Type 0} {x : A} → Some x ≡ None → ⊥
some-none e = cc

only : {A : Type 0} (x y : A) → Some x ≡ Some y → x ≡ y
only x y e = ap (λ o. unwrap_or o x) e

-- ---- the steps to a history

reach-more : (g : Setting) (a b c : List Event) (id : ℕ) (task : Living) → Reaches g a b → lowest_ready (state_of g b) ≡ Some id → task_at (state_of g b) id ≡ Some task
    → grown b (step_events id task.task) ≡ c → Reaches g a c
reach-more g a b c id task (same x y is) ready lives next =
    step a c id task (ap (λ h. lowest_ready (state_of g h)) is ∙ ready) (ap (λ h. task_at (state_of g h) id) is ∙ lives)
    (same (grown a (step_events id task.task)) c (ap (λ h. grown h (step_events id task.task)) is ∙ next))
reach-more g a b c id task (step x y other living at there more) ready lives next =
    step a c other living at there (reach-more g (grown a (step_events other living.task)) b c id task more ready lives next)

pub grows-reached : (g : Setting) (first : Event) (h : List Event) → Grows g first h → Reaches g (first ∷ []) h
grows-reached g first h begins = same (first ∷ []) (first ∷ []) refl
grows-reached g first h (steps before id task grows ready lives) =
    reach-more g (first ∷ []) before (grown before (step_events id task.task)) id task (grows-reached g first before grows) ready lives refl

module _ (g : Setting) (h : List Event) (t : Living) (ready : lowest_ready (state_of g h) ≡ Some 1) (lives : task_at (state_of g h) 1 ≡ Some t) where
  -- what a history that ends the task answers
  answered : (first : Event) (end : Outcome) (e : EndsAs g first end) → h ≡ e.before → answers_to g h (step_events 1 t.task) ≡ Ended 1 (told end) ∷ []
  answered first end e is =
      let there : task_at (state_of g h) 1 ≡ Some e.task = ap (λ h. task_at (state_of g h) 1) is ∙ e.lives in
      let one : t ≡ e.task = only t e.task (sym lives ∙ there) in
      (λ j. answers_to g (is j) (step_events 1 (one j).task)) ∙ e.ended

  -- the steps after this one
  after-step : (later : List Event) (id : ℕ) (task : Living) → lowest_ready (state_of g h) ≡ Some id → task_at (state_of g h) id ≡ Some task
      → Reaches g (grown h (step_events id task.task)) later → Reaches g (grown h (step_events 1 t.task)) later
  after-step later id task at there more =
      let one : id ≡ 1 = only id 1 (sym at ∙ ready) in
      let its : task ≡ t = only task t (sym (ap (λ n. task_at (state_of g h) n) (sym one) ∙ there) ∙ lives) in
      subst (λ (u : Living). Reaches g (grown h (step_events 1 u.task)) later) its (subst (λ n. Reaches g (grown h (step_events n task.task)) later) one more)

  -- a step that ends nothing leads on
  pub awaits-next : (first : Event) → answers_to g h (step_events 1 t.task) ≡ [] → ((end : Outcome) (e : EndsAs g first end) → Reaches g h e.before)
      → (end : Outcome) (e : EndsAs g first end) → Reaches g (grown h (step_events 1 t.task)) e.before
  awaits-next first none awaits end e = by e.before refl (awaits end e)
    where
      nothing : (x : Output) → x ∷ [] ≡ [] → ⊥
      nothing x e = cc

      by : (later : List Event) → later ≡ e.before → Reaches g h later → Reaches g (grown h (step_events 1 t.task)) later
      by later at (same x y is) = absurd (nothing (Ended 1 (told end)) (sym (answered first end e (is ∙ at)) ∙ none))
      by later at (step x y id task lowest there more) = after-step later id task lowest there more

  -- one that ends the task is the last
  pub one-way : (first : Event) (end : Outcome) → answers_to g h (step_events 1 t.task) ≡ Ended 1 (told end) ∷ [] → lowest_ready (state_of g (grown h (step_events 1 t.task))) ≡ None
      → ((other : Outcome) (e : EndsAs g first other) → Reaches g h e.before) → (other : Outcome) → EndsAs g first other → other ≡ end
  one-way first end is last awaits other e = by e.before refl (awaits other e)
    where
      same-end : (a b : rules.Outcome) → Ended 1 a ∷ [] ≡ Ended 1 b ∷ [] → a ≡ b
      same-end a b e = cc

      no-more : (later : List Event) → later ≡ e.before → Reaches g (grown h (step_events 1 t.task)) later → ⊥
      no-more later at (same x y is) = some-none (sym e.ready ∙ ap (λ h. lowest_ready (state_of g h)) (sym (is ∙ at)) ∙ last)
      no-more later at (step x y id task lowest there more) = some-none (sym lowest ∙ last)

      by : (later : List Event) → later ≡ e.before → Reaches g h later → other ≡ end
      by later at (same x y here) =
          sym (untold-told other) ∙ ap untold (same-end (told other) (told end) (sym (answered first other e (here ∙ at)) ∙ is)) ∙ untold-told end
      by later at (step x y id task lowest there more) = absurd (no-more later at (after-step later id task lowest there more))

-- ---- what was taken

taken-before : (g : Setting) (h es : List Event) → IsTaken g (grown h es) → IsTaken g h
taken-before g h [] taken = taken
taken-before g h (e ∷ es) taken = (taken-before g (e ∷ h) es taken).1

first-taken : (g : Setting) (first : Event) (h : List Event) → Grows g first h → IsTaken g h → IsTaken g (first ∷ [])
first-taken g first h begins taken = taken
first-taken g first h (steps before id task grows ready lives) taken = first-taken g first before grows (taken-before g before (step_events id task.task) taken)

-- the first event was not refused
pub first-unrefused : (g : Setting) (first : Event) (end : Outcome) → EndsAs g first end → (lent : List ℕ) × (refusal g lent (state_of g []) first ≡ None)
first-unrefused g first end e = (first-taken g first e.before e.grows (taken-before g e.before (step_events 1 e.task.task) e.taken)).0

-- ---- names

pub one-name : (classes : List Class) (end : Outcome) (o p : RunOutcome) → IsNamed classes end o → IsNamed classes end p → o ≡ p
one-name classes (outcome.Returned value) o p a b = a ∙ sym b
one-name classes (outcome.Threw class) o p a b = one_thrown classes class o p a b
one-name classes outcome.Spent o p a b = a ∙ sym b
