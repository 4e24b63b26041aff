-- What a step makes of a space whose only task is its first: the task ends, or has a unit less of its fuel.
use Rattle.std.proofs.Common.{◌≡◌, ℕ, zero, suc, ◌+◌, Bool, true, false, List, [], ◌∷◌, ◌++◌, Option, None, Some, refl, sym, ap, subst, ◌∙◌, arith}
use Rattle.std.specs.Prelude.{cond, not, find, ◌&&◌, option_map}
use Rattle.std.specs.List.{list_all}
use Rattle.std.proofs.lemmas.Bool.{false≢true}
use Rattle.cls_link.specs.Links.{Links}
use Rattle.space_ids.specs.declared.value.Value.TheVariants.{Ref}
use Rattle.sp_rules.specs.Behaviours.{Behaviour, Plain, Asks, Ends, Over, Op, Create, Get, Put, Call, Outcome as End, Gives, Throws}
use Rattle.sp_rules.specs.Classes.{Setting}
use Rattle.sp_rules.specs.Events.{Event, Output, Committed, GivenBack, Finished, Ended}
use Rattle.sp_rules.specs.LivingTasks.{after_steps, is_full, next_object, op_reply}
use Rattle.sp_rules.specs.Origins.{IsTaken}
use Rattle.sp_rules.specs.References.{is_reference_in, reference_of, references_in}
use Rattle.sp_rules.specs.Refusals.{NotHeld, NotLent, check_committed, check_finished, first_refusal, holds, holds_object, holds_op, is_in_hand, refusal, refuse_if, result_of, stand_after}
use Rattle.sp_rules.specs.Space.{on, outputs_of, state_of}
use Rattle.sp_rules.specs.State.{State, Living, task_at}
use Rattle.sp_rules.specs.Tasks.{Task, Stand, Runs, AsksFor, HasEnded, answer, is_at_end, stand, stand_at, step, steps}
use Rattle.sp_rules.specs.Worlds.{events_after, events_at, events_of_op, step_events}
use Rattle.sp_rules.proofs.OwnLemmas.{first-of, not-false, unrefused}
use Rattle.sp_behaviours.specs.Behaviours.{op_of, told, IsOfStore}
use Rattle.sp_behaviours.proofs.OwnSteps.{answer-gives, answer-throws, step-ends, step-plain}
use Rattle.sp_behaviours.specs.Classes.{classes_of}
use Rattle.sp_runs.specs.Going.{AreOwn, EndsOver, FollowsFrom, IsAlone, IsOnly}
use Rattle.sp_runs.specs.InSpace.{answers_to, grown, lowest_ready}
use Rattle.sp_runs.proofs.Alone.{PutsOwn, back-alone, back-only, back-silent, commit-alone, commit-only, commit-silent, finish-answers, finish-leaves, only-there, replied}
use Rattle.sp_runs.proofs.Moved.{told-untold, untold}
use Rattle.sp_runs.proofs.OnMachine.{OnStore, asks-store, end-comes, one-step, steps-come}
use Rattle.sp_runs.proofs.OwnValues.{own-among}
use Rattle.sp_runs.proofs.Sets.{IsSet}
use Rattle.vm_act.specs.declared.asked.Asked.{Asked}
use Rattle.vm_act.specs.declared.asked.Asked.TheVariants as asked
use Rattle.vm_step.specs.Run.{State as Machine}
use Rattle.vm_step.specs.Task.{IsOfSet}
use Rattle.vm_step.specs.declared.outcome.Outcome.{Outcome}

pub only-lowest : (g : Setting) (s : State) (t : Living) → IsOnly g s t → lowest_ready s ≡ Some 1
only-lowest g s t only =
    let none : Option Living = None in
    ap (λ (ts : List Living). option_map (λ (u : Living). u.id) (find (λ (u : Living). not u.waits) ts)) only.alone
    ∙ ap (λ b. option_map (λ (u : Living). u.id) (cond (not b) (Some t) none)) only.ready
    ∙ ap (λ n. Some n) only.number

-- ---- fuel

no-steps : (t : Task) → steps 0 t ≡ t
unfolding steps
no-steps t = refl

own-fuel : (t : Task) → stand t ≡ Runs → (step t).fuel + 1 ≡ t.fuel
unfolding stand
own-fuel t runs = by t.behaviour t.fuel refl refl runs
  where
    less : (fuel : ℕ) → t.fuel ≡ suc fuel → (step t).fuel ≡ fuel → (step t).fuel + 1 ≡ t.fuel
    less fuel f left = omega (arith, f, left)

    by : (b : Behaviour) (n : ℕ) → t.behaviour ≡ b → t.fuel ≡ n → stand_at b n ≡ Runs → (step t).fuel + 1 ≡ t.fuel
    by (Over outcome) n b f e = absurd (cc)
    by (Plain next) zero b f e = absurd (cc)
    by (Plain next) (suc fuel) b f e = less fuel f (ap (λ (u : Task). u.fuel) (step-plain t next fuel b f))
    by (Asks op next) zero b f e = absurd (cc)
    by (Asks op next) (suc fuel) b f e = absurd (cc)
    by (Ends outcome) zero b f e = absurd (cc)
    by (Ends outcome) (suc fuel) b f e = less fuel f (ap (λ (u : Task). u.fuel) (step-ends t outcome fuel b f))

ask-fuel : (t : Task) (op : Op) → stand t ≡ AsksFor op → (left : ℕ) × (t.fuel ≡ suc left)
unfolding stand
ask-fuel t op asks = by t.behaviour t.fuel refl asks
  where
    by : (b : Behaviour) (n : ℕ) → t.fuel ≡ n → stand_at b n ≡ AsksFor op → (left : ℕ) × (t.fuel ≡ suc left)
    by (Over outcome) n f e = absurd (cc)
    by (Plain next) zero f e = absurd (cc)
    by (Plain next) (suc fuel) f e = absurd (cc)
    by (Asks asked next) zero f e = absurd (cc)
    by (Asks asked next) (suc fuel) f e = (fuel, f)
    by (Ends outcome) zero f e = absurd (cc)
    by (Ends outcome) (suc fuel) f e = absurd (cc)

reply-fuel : (g : Setting) (op : Asked) (s : State) (t : Task) (left : ℕ) → IsOfStore op → t.fuel ≡ suc left → (answer g (op_reply g (op_of [] op) s) t).fuel ≡ left
unfolding op_reply
reply-fuel g (asked.Create class) s t left store f =
    elim (is_full s) as (λ b. (answer g (cond b (Throws g.classes.out_of_memory) (Gives (Some (Ref (record { space = g.id; id = next_object s; class = class }))))) t).fuel ≡ left) [
      | true ↦ (answer-throws g g.classes.out_of_memory t left f).fuel
      | false ↦ (answer-gives g _ t left f).fuel
    ]
reply-fuel g (asked.Get object slot) s t left store f = (answer-gives g _ t left f).fuel
reply-fuel g (asked.Put object slot value) s t left store f = (answer-gives g _ t left f).fuel
reply-fuel g (asked.Call target method count) s t left store f = absurd store

-- ---- what is taken is held

and-right : (a b : Bool) → (a && b) ≡ true → b ≡ true
and-right true b h = h
and-right false b h = absurd (false≢true h)

-- what the task returned as it ended
result-held : (g : Setting) (lent : List ℕ) (s : State) (k : ℕ) (t : Living) (end : End) → task_at s 1 ≡ Some t → stand (steps k t.task) ≡ HasEnded end → refusal g lent s (Finished 1 k) ≡ None
    → list_all (is_reference_in t.task.held) (references_in (result_of end)) ≡ true
result-held g lent s k t end there ends taken =
    let checked = (first-of (not (is_in_hand lent s 1)) NotLent (check_finished (task_at s 1) (stand_after k (task_at s 1))) (unrefused g lent s (Finished 1 k) taken)).1 in
    let at : check_finished (task_at s 1) (stand_after k (task_at s 1)) ≡ check_finished (Some t) (Some (HasEnded end)) =
    ap (λ (o : Option Living). check_finished o (stand_after k o)) there ∙ ap (λ (x : Stand). check_finished (Some t) (Some x)) ends in
    not-false (holds (Some t) (references_in (result_of end))) (first-of (not (holds (Some t) (references_in (result_of end)))) NotHeld [] (sym (ap first_refusal at) ∙ checked)).0

-- what it puts into a field
puts-own : (g : Setting) (lent : List ℕ) (s : State) (op : Op) (t : Living) → task_at s 1 ≡ Some t → AreOwn g t.task.held → refusal g lent s (Committed 1 0 op) ≡ None → PutsOwn g op
puts-own g lent s (Create class) t there own taken = tt
puts-own g lent s (Get id slot) t there own taken = tt
puts-own g lent s (Put id slot value) t there own taken =
    let op : Op = Put id slot value in
    let kind = check_committed g s op (stand_after 0 (task_at s 1)) in
    let checked = (first-of (not (is_in_hand lent s 1)) NotLent (refuse_if (not (holds_op g (task_at s 1) op)) NotHeld ++ kind) (unrefused g lent s (Committed 1 0 op) taken)).1 in
    let holding = not-false (holds_op g (task_at s 1) op) (first-of (not (holds_op g (task_at s 1) op)) NotHeld kind checked).0 in
    let its : holds_op g (Some t) op ≡ true = ap (λ (o : Option Living). holds_op g o op) (sym there) ∙ holding in
    own-among g t.task.held (reference_of value) own (and-right (holds_object g (Some t) id) (holds (Some t) (reference_of value)) its)
puts-own g lent s (Call target method arguments) t there own taken = tt

-- ---- a step

-- What the step of the only task makes of a history: the task has ended, on its machine too, or it goes on with a unit of fuel less.
pub data Moves (program : Links) (g : Setting) (start : Machine) (h : List Event) (t : Living) (es : List Event) : Type 0 where
  ends_task : (end : Outcome) → answers_to g h es ≡ Ended 1 (told end) ∷ [] → (state_of g (grown h es)).tasks ≡ [] → EndsOver program start end → IsOfSet program.classes end
      → Moves program g start h t es
  goes_on : (now : Living) → answers_to g h es ≡ [] → IsAlone g (state_of g (grown h es)) → IsOnly g (state_of g (grown h es)) now → FollowsFrom program g start now.task
      → now.task.fuel + 1 ≡ t.task.fuel → Moves program g start h t es

ops-of : (op : Asked) → IsOfStore op → events_of_op 1 (op_of [] op) ≡ Committed 1 0 (op_of [] op) ∷ GivenBack 1 0 ∷ []
ops-of (asked.Create class) store = refl
ops-of (asked.Get object slot) store = refl
ops-of (asked.Put object slot value) store = refl
ops-of (asked.Call target method count) store = absurd store

-- an instruction that ended its task has brought it to its end
at-end : (t : Task) → is_at_end t.behaviour ≡ true → (end : End) × (stand t ≡ HasEnded end)
unfolding stand
at-end t over = by t.behaviour refl over
  where
    by : (b : Behaviour) → t.behaviour ≡ b → is_at_end b ≡ true → (end : End) × (stand_at t.behaviour t.fuel ≡ HasEnded end)
    by (Plain next) b e = absurd (false≢true e)
    by (Asks op next) b e = absurd (false≢true e)
    by (Ends outcome) b e = absurd (false≢true e)
    by (Over outcome) b e = (outcome, ap (λ x. stand_at x t.fuel) b)

module _ (program : Links) (g : Setting) (start : Machine) (h : List Event) (t : Living) (set : IsSet program) (same : g.classes ≡ classes_of program) (taken-before : IsTaken g h)
    (alone : IsAlone g (state_of g h)) (only : IsOnly g (state_of g h) t) (comes : FollowsFrom program g start t.task) where
  finish-moves : (k : ℕ) (end : End) → stand (steps k t.task) ≡ HasEnded end → IsTaken g (Finished 1 k ∷ h) → Moves program g start h t (Finished 1 k ∷ [])
  unfolding outputs_of state_of
  finish-moves k end ends taken =
      let s = state_of g h in
      let own = own-among g t.task.held (references_in (result_of end)) only.own (result-held g taken.0.0 s k t end (only-there g s t only) ends taken.0.1) in
      let (over, of_set) = end-comes program g start (steps k t.task) end set.linked (steps-come program g start t.task k comes) ends in
      ends_task (untold end)
      (ap (λ (os : List Output). os ++ []) (finish-answers g s t k end alone only ends own) ∙ ap (λ o. Ended 1 o ∷ []) (sym (told-untold end)))
      (finish-leaves g s t k end alone only ends own) over of_set

  back-moves : stand t.task ≡ Runs → Moves program g start h t (GivenBack 1 1 ∷ [])
  unfolding outputs_of state_of
  back-moves runs =
      let s = state_of g h in
      goes_on (after_steps 1 t) (ap (λ (os : List Output). os ++ []) (back-silent g s 1 1)) (back-alone g s t 1 alone only) (back-only g s t 1 alone only) (steps-come program g start t.task 1 comes)
      (ap (λ (u : Task). u.fuel + 1) (one-step t.task) ∙ own-fuel t.task runs)

  ask-moves : (op : Op) (asked : OnStore program g start h t.task op) → stand t.task ≡ AsksFor op → IsTaken g (Committed 1 0 op ∷ h) → Moves program g start h t (Committed 1 0 op ∷ GivenBack 1 0 ∷ [])
  unfolding outputs_of state_of
  ask-moves op asked asks taken =
      let s = state_of g h in
      let puts = puts-own g taken.0.0 s op t (only-there g s t only) only.own taken.0.1 in
      let later : State = (on g (Committed 1 0 op) s).0 in
      let u = replied g op s t in
      let alone-then = commit-alone g s t op alone only puts in
      let only-then = commit-only g s t op alone only puts in
      let now : (steps 0 u.task) ≡ answer g (op_reply g op s) t.task = no-steps u.task ∙ ap (answer g (op_reply g op s)) (no-steps t.task) in
      let (left, has) = ask-fuel t.task op asks in
      let less : (answer g (op_reply g op s) t.task).fuel ≡ left =
      subst (λ (o : Op). (answer g (op_reply g o s) t.task).fuel ≡ left) (sym asked.is) (reply-fuel g asked.asked s t.task left asked.store has) in
      let fuel : (steps 0 u.task).fuel ≡ (answer g (op_reply g op s) t.task).fuel = ap (λ (x : Task). x.fuel) now in
      goes_on (after_steps 0 u) (λ j. commit-silent g s 1 0 op j ++ (back-silent g later 1 0 j ++ []))
      (back-alone g later u 0 alone-then only-then) (back-only g later u 0 alone-then only-then)
      (subst (FollowsFrom program g start) (sym now) asked.comes) (omega (arith, fuel, less, has))

  -- so does its step
  pub moves : IsTaken g (grown h (step_events 1 t.task)) → Moves program g start h t (step_events 1 t.task)
  moves taken = by (stand t.task) refl
    where
      so : (es : List Event) → step_events 1 t.task ≡ es → (IsTaken g (grown h es) → Moves program g start h t es) → Moves program g start h t (step_events 1 t.task)
      so es is f = subst (Moves program g start h t) (sym is) (f (subst (λ (es : List Event). IsTaken g (grown h es)) is taken))

      own : stand t.task ≡ Runs → (b : Bool) → is_at_end (step t.task).behaviour ≡ b → Moves program g start h t (step_events 1 t.task)
      own runs false goes = so (GivenBack 1 1 ∷ []) (ap (events_at 1 t.task) runs ∙ ap (events_after 1) goes) (λ taken. back-moves runs)
      own runs true over =
          let (end, is) = at-end (step t.task) over in
          so (Finished 1 1 ∷ []) (ap (events_at 1 t.task) runs ∙ ap (events_after 1) over) (finish-moves 1 end (ap stand (one-step t.task) ∙ is))

      by : (x : Stand) → stand t.task ≡ x → Moves program g start h t (step_events 1 t.task)
      by Runs e = own e (is_at_end (step t.task).behaviour) refl
      by (AsksFor op) e =
          let on = asks-store program g start h 1 t op set same taken-before (only-there g (state_of g h) t only) only.own comes e in
          so (Committed 1 0 op ∷ GivenBack 1 0 ∷ [])
          (ap (events_at 1 t.task) e ∙ ap (events_of_op 1) on.is ∙ ops-of on.asked on.store ∙ ap (λ (o : Op). Committed 1 0 o ∷ GivenBack 1 0 ∷ []) (sym on.is))
          (λ taken. ask-moves op on e taken.1)
      by (HasEnded end) e = so (Finished 1 0 ∷ []) (ap (events_at 1 t.task) e) (finish-moves 0 end (ap stand (no-steps t.task) ∙ e))
