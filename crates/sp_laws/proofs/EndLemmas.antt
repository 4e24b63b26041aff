-- A task ends as its own machine does, as it is finished, and no task ends otherwise.
use mathlib.Core.Path.{sym, ap, subst, ◌∙◌}
use Rattle.std.proofs.Common.{inl, inr}
use Rattle.std.proofs.lemmas.Bool.{true≢false, eqb-true}
use Rattle.std.specs.Prelude.{◌≡◌, ◌⊎◌, refl, ℕ, ◌==◌, cond, Bool, true, false, List, [], ◌∷◌, Option, None, Some}
use Rattle.sp_rules.specs.Behaviours.{Outcome}
use Rattle.sp_rules.specs.Classes.{Setting}
use Rattle.sp_rules.specs.Events.{Event, Committed, Parked, GivenBack, Finished, Output, Started, Ended, Withdrawn, Denied, Send, Dial, Close, Ready}
use Rattle.sp_rules.specs.Laws.{AllOf}
use Rattle.sp_rules.specs.Space
use Rattle.sp_rules.specs.State.{State, Living, task_at, ready_at}
use Rattle.sp_rules.specs.Tasks.{Task, Stand, Runs, AsksFor, HasEnded, stand, steps}
use Rattle.sp_rules.proofs.AllLemmas.{all-weaken, some-none}
use Rattle.sp_rules.proofs.OwnLemmas.{some-same}
use Rattle.sp_rules.proofs.ReadyLemmas.{ready-is}
use Rattle.sp_laws.proofs.WaitLemmas.{different}
use Rattle.sp_laws.specs.LookupEnds.{IsEndOfLookup, EndsAsNamed, LookupsEndAsNamed}
use Rattle.sp_laws.specs.Changes.{lent_task, when_finished, lent_after, GoesOn, IsOfSpace}
use Rattle.sp_laws.proofs.FittedLemmas.{record-is, tasks_go_on}
use Rattle.sp_laws.proofs.LentEvents.{idle_task_stays, lent_tasks_go_on, other_tasks_stay}
use Rattle.sp_laws.specs.Ends.{is_ended, ends_in, IsEndOfRun, IsEndOfNoTask, EndsAsRun, EndsAreRuns, TasksEndAsRuns}
use Rattle.sp_laws.proofs.EndNotes.{commit-ends, end_for, end_of, finish-ends, give-back-ends, park-ends}
use Rattle.sp_laws.proofs.IdLemmas.{lookups-alone}

-- ---- a task that is finished

-- A task that is finished at its end ends as a run.
finished-run : (g : Setting) (h : List Event) (id k : ℕ) (t : Living) (outcome : Outcome) → ready_at (Space.state_of g h) id ≡ Some t → stand (steps k t.task) ≡ HasEnded outcome → IsEndOfRun g (Space.state_of g h) (Finished id k) id outcome
unfolding Space.state_of
finished-run g h id k t outcome ready is = record {
  made = k;
  task = t;
  finished = refl;
  ready = ready;
  ends = ap (λ (x : Task). stand (steps k x)) (sym (record-is g h id t (ready-is (task_at (Space.state_of g h) id) t ready).0)) ∙ is;
  gone = lent_tasks_go_on g h (Finished id k) id t refl ready ∙ ap (λ at. when_finished at t) is;
  alone = finish-ends g h id k ∙ ap (end_for id k) ready ∙ ap (end_of id) is;
}

-- ---- each Ended

-- what holds of what ended, and of all other outputs, holds of all
all-ends : (P : Output → Type 0) → ((o : Output) → is_ended o ≡ false → P o) → (os : List Output) → AllOf P (ends_in os) → AllOf P os
all-ends P others [] a = tt
all-ends P others (o ∷ os) a = pick (is_ended o) refl a (all-ends P others os)
  where
    pick : (b : Bool) → is_ended o ≡ b → AllOf P (cond b (o ∷ ends_in os) (ends_in os)) → (AllOf P (ends_in os) → AllOf P os) → P o × AllOf P os
    pick true e x rest = (x.0, rest x.1)
    pick false e x rest = (others o e, rest x)

no-end : (g : Setting) (h : List Event) (e : Event) (o : Output) → is_ended o ≡ false → EndsAsRun g h e o
no-end g h e (Ended task outcome) is = absurd (true≢false is)
no-end g h e (Started task) is = tt
no-end g h e (Withdrawn ids) is = tt
no-end g h e (Denied why) is = tt
no-end g h e (Send conn m) is = tt
no-end g h e (Dial peer) is = tt
no-end g h e (Close conn) is = tt
no-end g h e (Ready task) is = tt

-- the ends of a Finished
finish-run : (g : Setting) (h : List Event) (id k : ℕ) → AllOf (EndsAsRun g h (Finished id k)) (Space.outputs_of g h (Finished id k))
unfolding Space.outputs_of
finish-run g h id k = all-ends (EndsAsRun g h (Finished id k)) (no-end g h (Finished id k)) _ (subst (AllOf (EndsAsRun g h (Finished id k))) (sym (finish-ends g h id k)) (of (ready_at (Space.state_of g h) id) refl))
  where
    at : (t : Living) → ready_at (Space.state_of g h) id ≡ Some t → (x : Stand) → stand (steps k t.task) ≡ x → AllOf (EndsAsRun g h (Finished id k)) (end_of id x)
    at t ready Runs is = tt
    at t ready (AsksFor op) is = tt
    at t ready (HasEnded outcome) is = (inl (finished-run g h id k t outcome ready is), tt)

    of : (o : Option Living) → ready_at (Space.state_of g h) id ≡ o → AllOf (EndsAsRun g h (Finished id k)) (end_for id k o)
    of None ready = tt
    of (Some t) ready = at t ready (stand (steps k t.task)) refl

-- an event that says of nothing that it ended
quiet-run : (g : Setting) (h : List Event) (e : Event) → ends_in (Space.on g e (Space.state_of g h)).1 ≡ [] → AllOf (EndsAsRun g h e) (Space.outputs_of g h e)
unfolding Space.outputs_of
quiet-run g h e none = all-ends (EndsAsRun g h e) (no-end g h e) _ (subst (AllOf (EndsAsRun g h e)) (sym none) tt)

-- the end of a lookup
lookup-run : (g : Setting) (h : List Event) (e : Event) (id : ℕ) (outcome : Outcome) → IsOfSpace e → IsEndOfLookup g (Space.state_of g h) e id outcome → IsEndOfNoTask g h e id outcome
lookup-run g h e id outcome apart x = record { apart = apart; lookup = x; never = lookups-alone g h id x.number x.name x.request x.stood x.asked }

-- an event of the space finishes no task
space-run : (g : Setting) (h : List Event) (e : Event) → IsOfSpace e → (o : Output) → EndsAsNamed g (Space.state_of g h) e o → EndsAsRun g h e o
space-run g h e apart (Ended id outcome) (inl x) = absurd (some-none id (sym (ap lent_task x.1) ∙ apart))
space-run g h e apart (Ended id outcome) (inr x) = inr (lookup-run g h e id outcome apart x)
space-run g h e apart (Started task) x = tt
space-run g h e apart (Withdrawn ids) x = tt
space-run g h e apart (Denied why) x = tt
space-run g h e apart (Send conn m) x = tt
space-run g h e apart (Dial peer) x = tt
space-run g h e apart (Close conn) x = tt
space-run g h e apart (Ready task) x = tt

lent-or-apart : (g : Setting) (h : List Event) (e : Event) → IsOfSpace e ⊎ AllOf (EndsAsRun g h e) (Space.outputs_of g h e)
lent-or-apart g h (Finished id k) = inr (finish-run g h id k)
lent-or-apart g h (Parked id k) = inr (quiet-run g h (Parked id k) (park-ends g h id k))
lent-or-apart g h (Committed id k op) = inr (quiet-run g h (Committed id k op) (commit-ends g (Space.state_of g h) id k op))
lent-or-apart g h (GivenBack id k) = inr (quiet-run g h (GivenBack id k) (give-back-ends g (Space.state_of g h) id k))
lent-or-apart g h _ = inl refl

pub ends_are_runs : LookupsEndAsNamed → EndsAreRuns
ends_are_runs named g h e = by (lent-or-apart g h e)
  where
    by : IsOfSpace e ⊎ AllOf (EndsAsRun g h e) (Space.outputs_of g h e) → AllOf (EndsAsRun g h e) (Space.outputs_of g h e)
    by (inl apart) = all-weaken (EndsAsNamed g (Space.state_of g h) e) (EndsAsRun g h e) (Space.outputs_of g h e) (space-run g h e apart) (named g h e)
    by (inr ends) = ends

-- ---- each task that ends

-- a task that lives does not stay if it is gone
no-longer : (o : Option Living) (t : Living) (p : Option Living) → p ≡ o → p ≡ Some t → o ≡ None → ⊥
no-longer o t p same is gone = some-none t (sym is ∙ (same ∙ gone))

-- of a task that it makes go on, an event does not end
lent-ends : (g : Setting) (h : List Event) (e : Event) (id : ℕ) (t : Living) → lent_task e ≡ Some id → ready_at (Space.state_of g h) id ≡ Some t → lent_after g (Space.state_of g h) e t ≡ None
    → (outcome : Outcome) × IsEndOfRun g (Space.state_of g h) e id outcome
lent-ends g h (Finished task k) id t of ready gone = subst (λ n. ready_at (Space.state_of g h) n ≡ Some t → (outcome : Outcome) × IsEndOfRun g (Space.state_of g h) (Finished task k) n outcome) (some-same of) (by (stand (steps k t.task)) refl gone) ready
  where
    by : (x : Stand) → stand (steps k t.task) ≡ x → when_finished x t ≡ None → ready_at (Space.state_of g h) task ≡ Some t → (outcome : Outcome) × IsEndOfRun g (Space.state_of g h) (Finished task k) task outcome
    by Runs is none there = absurd (some-none t none)
    by (AsksFor op) is none there = absurd (some-none t none)
    by (HasEnded outcome) is none there = (outcome, finished-run g h task k t outcome there is)
lent-ends g h (Committed task k op) id t of ready gone = absurd (some-none _ gone)
lent-ends g h (Parked task k) id t of ready gone = absurd (some-none _ gone)
lent-ends g h (GivenBack task k) id t of ready gone = absurd (some-none _ gone)
lent-ends g h _ id t of ready gone = absurd (some-none id (sym of))

pub tasks_end_as_runs : TasksEndAsRuns
tasks_end_as_runs g h e id t is gone = by (lent_task e) refl
  where
    s : State
    s = Space.state_of g h

    ready : lent_task e ≡ Some id → (o : Option Living) → ready_at s id ≡ o → (outcome : Outcome) × IsEndOfRun g s e id outcome
    ready of None r = absurd (no-longer _ t _ (sym (idle_task_stays g h e id of r)) is gone)
    ready of (Some u) r = lent-ends g h e id u of r (sym (lent_tasks_go_on g h e id u of r) ∙ gone)

    lent : (task : ℕ) → lent_task e ≡ Some task → (b : Bool) → (task == id) ≡ b → (outcome : Outcome) × IsEndOfRun g s e id outcome
    lent task of true same = ready (of ∙ ap (λ (n : ℕ). Some n) (eqb-true task id same)) (ready_at s id) refl
    lent task of false apart = absurd (no-longer _ t _ (sym (other_tasks_stay g h e task id of (different task id apart))) is gone)

    by : (o : Option ℕ) → lent_task e ≡ o → (outcome : Outcome) × IsEndOfRun g s e id outcome
    by None of = absurd (subst (λ (o : Option Living). GoesOn g s e o None) is (subst (λ (o : Option Living). GoesOn g s e (task_at s id) o) gone (tasks_go_on g h e id of)))
    by (Some task) of = lent task of (task == id) refl
