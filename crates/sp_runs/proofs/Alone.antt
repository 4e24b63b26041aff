-- What events make of a space that no other has to do with, and of its only task.
use Rattle.std.proofs.Common.{◌≡◌, ℕ, zero, suc, ◌+◌, true, false, cond, List, [], ◌∷◌, ◌++◌, Option, None, Some, refl, sym, ap, subst, ◌∙◌, filter, length}
use Rattle.std.specs.Prelude.{not, find, ◌==◌}
use Rattle.std.specs.List.{filter_map}
use Rattle.std.proofs.lemmas.Bool.{eq-eqb}
use Rattle.std.proofs.lemmas.Slice.Eq.{bytes_eq-Decides}
use Rattle.dgc_client.specs.Groups as groups
use Rattle.dgc_client.specs.History.{lease_of}
use Rattle.dgc_client.specs.Lease.{due}
use Rattle.dgc_client.specs.Table as client
use Rattle.dgc_client.specs.Touched.{due_call}
use Rattle.space_ids.specs.declared.ids.ClassId.{ClassId}
use Rattle.space_ids.specs.declared.ids.ObjId.{ObjId}
use Rattle.space_ids.specs.declared.ids.Ref.{Ref}
use Rattle.space_ids.specs.declared.value.Value.{Value}
use Rattle.space_ids.specs.declared.value.Value.TheVariants as values
use Rattle.sp_rules.specs.Behaviours.{Op, Create, Get, Put, Call, Outcome as End, Returned, Threw, Spent, Reply, Gives, GivesBack, Throws, RunsOut}
use Rattle.sp_rules.specs.Classes.{Setting}
use Rattle.sp_rules.specs.Events.{Output, Root, Committed, GivenBack, Finished, Started, Ended, Ready, Says, in_order}
use Rattle.sp_rules.specs.Holders.{drop, hold}
use Rattle.sp_rules.specs.Lists.{at_first, each, with_some}
use Rattle.sp_rules.specs.LivingTasks.{add_task, after_op, after_reply, after_steps, commit, end_at, end_with, finish_task, give_back, is_full, keep_result, next_object, op_reply, report, value_at}
use Rattle.sp_rules.specs.References.{foreign_ids, reference_of, references_in, references_of, with_references}
use Rattle.sp_rules.specs.Refusals.{result_of}
use Rattle.sp_rules.specs.Requests.{ask, ask_fresh, due_groups, make_due, make_group, settle}
use Rattle.sp_rules.specs.Space.{conclude, finish_event, happen, on}
use Rattle.sp_rules.specs.State.{State, Living, KeptResult, Made, Written, OfRoot, RootAcked, object_at, opening, ready_at, say, task_at, that_is_ready}
use Rattle.sp_rules.specs.Tasks.{Task, Stand, Runs, AsksFor, HasEnded, answer, gained, pay, pay_with, stand, start, step, step_at, steps}
use Rattle.sp_runs.specs.Going.{AreOwn, IsAlone, IsOnly}
use Rattle.sp_runs.proofs.OwnValues.{drop-own, hold-own, own-dropped, own-one, own-with, value-own}

-- ---- the only task

module _ (g : Setting) (s : State) (t : Living) (only : IsOnly g s t) where
  pub only-there : task_at s 1 ≡ Some t
  only-there = ap (λ (ts : List Living). find (λ (u : Living). u.id == 1) ts) only.alone ∙ ap (λ b. cond b (Some t) (let none : Option Living = None in none)) (eq-eqb t.id 1 only.number)

  pub only-ready : ready_at s 1 ≡ Some t
  only-ready = ap that_is_ready only-there ∙ ap (λ b. cond b (let none : Option Living = None in none) (Some t)) only.ready

  changed : (f : Living → Living) → at_first (λ (u : Living). u.id == 1) f s.tasks ≡ f t ∷ []
  changed f = ap (at_first (λ (u : Living). u.id == 1) f) only.alone ∙ ap (λ b. cond b (f t ∷ []) (t ∷ [])) (eq-eqb t.id 1 only.number)

  gone : filter (λ (u : Living). not (u.id == 1)) s.tasks ≡ []
  gone =
      let none : List Living = [] in
      ap (filter (λ (u : Living). not (u.id == 1))) only.alone ∙ ap (λ b. cond (not b) (t ∷ none) none) (eq-eqb t.id 1 only.number)

-- the task is another now
abbrev with-task : Living → State → State
with-task t s = record s { tasks = t ∷ [] }

other-task : (g : Setting) (s : State) (t : Living) → IsAlone g s → IsAlone g (with-task t s)
other-task g s t alone = record { held = alone.held; fresh = alone.fresh; notes = alone.notes; stored = alone.stored }

-- ---- what tasks hold

step-held : (x : Stand) (t : Task) → (step_at x t).held ≡ t.held
step-held Runs t = refl
step-held (AsksFor op) t = refl
step-held (HasEnded outcome) t = refl

pub steps-held : (k : ℕ) (t : Task) → (steps k t).held ≡ t.held
unfolding steps step
steps-held zero t = refl
steps-held (suc k) t = steps-held k (step t) ∙ step-held (stand t) t

paid-held : (back : ℕ) (t : Task) → (pay back t).held ≡ t.held
paid-held back t = by t.fuel
  where
    by : (n : ℕ) → (pay_with n back t).held ≡ t.held
    by zero = refl
    by (suc left) = refl

-- the value that a reply gives
abbrev value_in : Reply → Option Value
value_in (Gives value) = value
value_in (GivesBack value fuel) = value
value_in (Throws class) = None
value_in RunsOut = None

answer-held : (g : Setting) (reply : Reply) (t : Task) → (answer g reply t).held ≡ with_references t.held (references_in (value_in reply))
unfolding answer
answer-held g (Gives value) t = ap (λ held. with_references held (references_in value)) (paid-held 0 t)
answer-held g (GivesBack value fuel) t = ap (λ held. with_references held (references_in value)) (paid-held fuel t)
answer-held g (Throws class) t = paid-held 0 t
answer-held g RunsOut t = paid-held 0 t

create-own : (g : Setting) (s : State) (class : ClassId) → AreOwn g (references_in (value_in (op_reply g (Create class) s)))
unfolding op_reply
create-own g s class =
    let r : Ref = record { space = g.id; id = next_object s; class = class } in
    elim (is_full s) as (λ b. AreOwn g (references_in (value_in (cond b (Throws g.classes.out_of_memory) (Gives (Some (values.Ref r))))))) [
      | true ↦ refl
      | false ↦ own-one g r ((bytes_eq-Decides g.id g.id).1 refl)
    ]

-- an operation on the store gives own references
reply-own : (g : Setting) (s : State) (op : Op) → IsAlone g s → AreOwn g (references_in (value_in (op_reply g op s)))
unfolding op_reply
reply-own g s (Create class) alone = create-own g s class
reply-own g s (Get id slot) alone = value-own g s id slot (object_at s id) alone.stored
reply-own g s (Put id slot value) alone = refl
reply-own g s (Call target method arguments) alone = refl

-- ---- what an event answers

due-none : (h : List client.Told) → client.held h ≡ [] → due_groups h ≡ []
unfolding due_groups
due-none h none = ap (λ rs. groups.grouped (groups.in_order (filter_map (λ reference. due_call reference (due (lease_of (client.own reference h)))) rs))) none

settle-alone : (t : State) → client.held t.leases ≡ [] → t.fresh ≡ [] → settle t ≡ t
unfolding settle make_due ask_fresh each
settle-alone t none fresh =
    ap (λ gs. ask_fresh (each make_group gs t)) (due-none t.leases none)
    ∙ ap (λ rs. each ask rs (record t { fresh = [] })) fresh
    ∙ (λ j. record t { fresh = sym fresh j })

-- ---- a root starts

-- the task of a root
abbrev pub new_task : Setting → ℕ → ℕ → List Value → ℕ → Living
new_task g id method arguments fuel = record {
  id = id;
  origin = OfRoot;
  waits = false;
  task = start g method arguments fuel;
  began = record { method = method; arguments = arguments; fuel = fuel };
  given = [];
  steps = 0;
}

abbrev rooted : Setting → ℕ → List Value → ℕ → State
rooted g method arguments fuel = record opening { tasks_made = 1; tasks = new_task g 1 method arguments fuel ∷ [] }

finish-started : (s : State) (id : ℕ) → client.held s.leases ≡ [] → s.fresh ≡ [] → s.notes ≡ [] → (finish_event true (say (Ready id) (say (Started id) s))).0 ≡ s
unfolding in_order each
finish-started s id held fresh quiet =
    let t : State = say (Ready id) (say (Started id) s) in
    ap (λ u. (conclude u (in_order u.notes)).0) (settle-alone t held fresh)
    ∙ ap (λ ns. (conclude t (in_order ((ns ++ Says (Started id) ∷ []) ++ Says (Ready id) ∷ []))).0) quiet
    ∙ (λ j. record s { notes = sym quiet j })

-- of a root without references
started-held : (g : Setting) (method : ℕ) (arguments : List Value) (fuel : ℕ) → references_of arguments ≡ [] → (start g method arguments fuel).held ≡ []
unfolding start
started-held g method arguments fuel none = ap (with_references []) none

on-root : (g : Setting) (method : ℕ) (arguments : List Value) (fuel : ℕ) → references_of arguments ≡ [] → (on g (Root method arguments fuel) opening).0 ≡ rooted g method arguments fuel
unfolding on happen add_task opening
on-root g method arguments fuel none =
    let own : AreOwn g (start g method arguments fuel).held = ap (foreign_ids g.id) (started-held g method arguments fuel none) in
    ap (λ u. (finish_event true (say (Ready 1) u)).0) (hold-own g (start g method arguments fuel).held (say (Started 1) (rooted g method arguments fuel)) own)
    ∙ finish-started (rooted g method arguments fuel) 1 refl refl refl

pub root-alone : (g : Setting) (method : ℕ) (arguments : List Value) (fuel : ℕ) → references_of arguments ≡ [] → IsAlone g (on g (Root method arguments fuel) opening).0
unfolding opening
root-alone g method arguments fuel none = subst (IsAlone g) (sym (on-root g method arguments fuel none)) (record { held = refl; fresh = refl; notes = refl; stored = tt })

pub root-only : (g : Setting) (method : ℕ) (arguments : List Value) (fuel : ℕ) → references_of arguments ≡ []
    → IsOnly g (on g (Root method arguments fuel) opening).0 (new_task g 1 method arguments fuel)
unfolding opening
root-only g method arguments fuel none =
    subst (λ (u : State). IsOnly g u (new_task g 1 method arguments fuel)) (sym (on-root g method arguments fuel none)) (record {
      alone = refl;
      number = refl;
      ready = refl;
      root = refl;
      own = ap (foreign_ids g.id) (started-held g method arguments fuel none);
    })

-- ---- a task is given back

module _ (g : Setting) (s : State) (t : Living) (k : ℕ) (alone : IsAlone g s) (only : IsOnly g s t) where
  back-is : (on g (GivenBack 1 k) s).0 ≡ with-task (after_steps k t) s
  unfolding on happen give_back
  back-is =
      ap (λ (o : Option Living). with_some o s (λ t. record s { tasks = at_first (λ (u : Living). u.id == 1) (after_steps k) s.tasks })) (only-ready g s t only)
      ∙ ap (λ (ts : List Living). record s { tasks = ts }) (changed g s t only (after_steps k))

  pub back-alone : IsAlone g (on g (GivenBack 1 k) s).0
  back-alone = subst (IsAlone g) (sym back-is) (other-task g s (after_steps k t) alone)

  pub back-only : IsOnly g (on g (GivenBack 1 k) s).0 (after_steps k t)
  back-only = subst (λ (u : State). IsOnly g u (after_steps k t)) (sym back-is) (record {
    alone = refl;
    number = only.number;
    ready = only.ready;
    root = only.root;
    own = subst (AreOwn g) (sym (steps-held k t.task)) only.own;
  })

pub back-silent : (g : Setting) (s : State) (id k : ℕ) → (on g (GivenBack id k) s).1 ≡ []
unfolding on
back-silent g s id k = refl

-- ---- an operation on the store is done

-- what is put into a field is own
abbrev pub PutsOwn : Setting → Op → Type 0
PutsOwn g (Create class) = Unit {0}
PutsOwn g (Get id slot) = Unit {0}
PutsOwn g (Put id slot value) = AreOwn g (reference_of value)
PutsOwn g (Call target method arguments) = Unit {0}

-- the task after the reply
abbrev pub replied : Setting → Op → State → Living → Living
replied g op s t = after_reply g (op_reply g op s) (after_steps 0 t)

abbrev with-put : ObjId → ℕ → Value → State → State
with-put id slot v u = record u { store = Written id slot v ∷ u.store }

put-is : (g : Setting) (u : State) (id : ObjId) (slot : ℕ) (v : Value) → IsAlone g u → AreOwn g (reference_of v) → after_op g (Put id slot v) u ≡ with-put id slot v u
unfolding after_op
put-is g u id slot v alone own =
    let old = references_in (value_at g u id slot (object_at u id)) in
    ap (drop g old) (hold-own g (reference_of v) (with-put id slot v u) own) ∙ drop-own g old (with-put id slot v u) (value-own g u id slot (object_at u id) alone.stored)

abbrev with-made : ClassId → State → State
with-made class u = record u { objects_made = u.objects_made + 1; store = Made (next_object u) class ∷ u.store }

-- what it does to the store leaves the space alone, and the task as it is
op-alone : (g : Setting) (op : Op) (u : State) → IsAlone g u → PutsOwn g op → IsAlone g (after_op g op u)
unfolding after_op
op-alone g (Create class) u alone own =
    let made : IsAlone g (with-made class u) = record { held = alone.held; fresh = alone.fresh; notes = alone.notes; stored = (tt, alone.stored) } in
    elim (is_full u) as (λ b. IsAlone g (cond b u (with-made class u))) [ true ↦ alone | false ↦ made ]
op-alone g (Get id slot) u alone own = alone
op-alone g (Put id slot value) u alone own =
    subst (IsAlone g) (sym (put-is g u id slot value alone own)) (record { held = alone.held; fresh = alone.fresh; notes = alone.notes; stored = (own, alone.stored) })
op-alone g (Call target method arguments) u alone own = alone

op-tasks : (g : Setting) (op : Op) (u : State) → IsAlone g u → PutsOwn g op → (after_op g op u).tasks ≡ u.tasks
unfolding after_op
op-tasks g (Create class) u alone own = elim (is_full u) as (λ b. (cond b u (with-made class u)).tasks ≡ u.tasks) [ true ↦ refl | false ↦ refl ]
op-tasks g (Get id slot) u alone own = refl
op-tasks g (Put id slot value) u alone own = ap (λ (x : State). x.tasks) (put-is g u id slot value alone own)
op-tasks g (Call target method arguments) u alone own = refl

module _ (g : Setting) (s : State) (t : Living) (op : Op) (alone : IsAlone g s) (only : IsOnly g s t) (puts : PutsOwn g op) where
  later-own : AreOwn g (replied g op s t).task.held
  later-own =
      subst (AreOwn g) (sym (answer-held g (op_reply g op s) (steps 0 t.task)))
      (own-with g (steps 0 t.task).held (references_in (value_in (op_reply g op s))) (subst (AreOwn g) (sym (steps-held 0 t.task)) only.own) (reply-own g s op alone))

  commit-is : (on g (Committed 1 0 op) s).0 ≡ after_op g op (with-task (replied g op s t) s)
  unfolding on happen commit
  commit-is =
      let f : Living → Living = λ (u : Living). after_reply g (op_reply g op s) (after_steps 0 u) in
      let after : State = record s { tasks = at_first (λ (u : Living). u.id == 1) f s.tasks } in
      let new : List Ref = gained t.task (answer g (op_reply g op s) (steps 0 t.task)) in
      ap (λ (o : Option Living). with_some o s (λ t. after_op g op (hold g (gained t.task (answer g (op_reply g op s) (steps 0 t.task))) after))) (only-ready g s t only)
      ∙ ap (after_op g op) (hold-own g new after (own-dropped g (length t.task.held) (answer g (op_reply g op s) (steps 0 t.task)).held later-own))
      ∙ ap (λ (ts : List Living). after_op g op (record s { tasks = ts })) (changed g s t only f)

  pub commit-alone : IsAlone g (on g (Committed 1 0 op) s).0
  commit-alone = subst (IsAlone g) (sym commit-is) (op-alone g op (with-task (replied g op s t) s) (other-task g s (replied g op s t) alone) puts)

  pub commit-only : IsOnly g (on g (Committed 1 0 op) s).0 (replied g op s t)
  commit-only = subst (λ (u : State). IsOnly g u (replied g op s t)) (sym commit-is) (record {
    alone = op-tasks g op (with-task (replied g op s t) s) (other-task g s (replied g op s t) alone) puts;
    number = only.number;
    ready = refl;
    root = only.root;
    own = later-own;
  })

pub commit-silent : (g : Setting) (s : State) (id k : ℕ) (op : Op) → (on g (Committed id k op) s).1 ≡ []
unfolding on
commit-silent g s id k op = refl

-- ---- a task ends

abbrev with_kept : End → List KeptResult → List KeptResult
with_kept (Returned value) results = results ++ record { until = RootAcked 1; value = value } ∷ []
with_kept (Threw class) results = results
with_kept Spent results = results

-- the space without the task
abbrev without : Living → End → State → State
without t end s = record s {
  tasks = filter (λ (u : Living). not (u.id == 1)) s.tasks;
  retired = s.retired + t.task.made;
  results = with_kept end s.results;
}

kept-own : (g : Setting) (t : Living) (end : End) (s : State) → AreOwn g (references_in (result_of end))
    → keep_result g (RootAcked 1) end (say (Ended 1 end) (record s { tasks = filter (λ (u : Living). not (u.id == 1)) s.tasks; retired = s.retired + t.task.made })) ≡ say (Ended 1 end) (without t end s)
kept-own g t (Returned value) s own = hold-own g (references_in value) (say (Ended 1 (Returned value)) (without t (Returned value) s)) own
kept-own g t (Threw class) s own = refl
kept-own g t Spent s own = refl

ended-own : (g : Setting) (t : Living) (end : End) (s : State) → t.origin ≡ OfRoot → AreOwn g t.task.held → AreOwn g (references_in (result_of end)) → end_with g 1 t end s ≡ say (Ended 1 end) (without t end s)
ended-own g t end s root held own =
    let u : State = say (Ended 1 end) (record s { tasks = filter (λ (u : Living). not (u.id == 1)) s.tasks; retired = s.retired + t.task.made }) in
    drop-own g t.task.held (report g t.origin 1 t.task.fuel end u) held ∙ ap (λ o. report g o 1 t.task.fuel end u) root ∙ kept-own g t end s own

finish-said : (s : State) (end : End) → client.held s.leases ≡ [] → s.fresh ≡ [] → s.notes ≡ [] → finish_event true (say (Ended 1 end) s) ≡ (s, Ended 1 end ∷ [])
unfolding in_order each
finish-said s end held fresh quiet =
    let t : State = say (Ended 1 end) s in
    ap (λ u. conclude u (in_order u.notes)) (settle-alone t held fresh)
    ∙ ap (λ ns. conclude t (in_order (ns ++ Says (Ended 1 end) ∷ []))) quiet
    ∙ (λ j. (record s { notes = sym quiet j }, Ended 1 end ∷ []))

module _ (g : Setting) (s : State) (t : Living) (k : ℕ) (end : End) (alone : IsAlone g s) (only : IsOnly g s t) (ends : stand (steps k t.task) ≡ HasEnded end)
    (own : AreOwn g (references_in (result_of end))) where
  finish-is : on g (Finished 1 k) s ≡ (without (after_steps k t) end s, Ended 1 end ∷ [])
  unfolding on happen finish_task
  finish-is =
      ap (λ (o : Option Living). finish_event true (with_some o s (λ t. end_at g 1 (after_steps k t) (stand (steps k t.task)) s))) (only-ready g s t only)
      ∙ ap (λ (x : Stand). finish_event true (end_at g 1 (after_steps k t) x s)) ends
      ∙ ap (λ u. finish_event true u) (ended-own g (after_steps k t) end s only.root (subst (AreOwn g) (sym (steps-held k t.task)) only.own) own)
      ∙ finish-said (without (after_steps k t) end s) end alone.held alone.fresh alone.notes

  -- its end is all that is answered
  pub finish-answers : (on g (Finished 1 k) s).1 ≡ Ended 1 end ∷ []
  finish-answers = ap (λ (p : State × List Output). p.1) finish-is

  pub finish-leaves : (on g (Finished 1 k) s).0.tasks ≡ []
  finish-leaves = ap (λ (p : State × List Output). p.0.tasks) finish-is ∙ gone g s t only
