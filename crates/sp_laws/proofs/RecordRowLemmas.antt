-- Properties that look at the living tasks of a space alone, and what finds a row among them.
use mathlib.Core.Path.{sym, ap, subst}
use Rattle.std.specs.Prelude.{◌≡◌, refl, ℕ, ◌+◌, ◌==◌, not, cond, Bool, true, false, List, [], ◌∷◌, ◌++◌, Option, None, Some, filter, find, if◌then◌else◌}
use Rattle.sp_rules.specs.Behaviours.{Outcome, Returned, Threw, Spent, Op, Create, Get, Put, Call}
use Rattle.sp_rules.specs.Classes.{Setting}
use Rattle.sp_rules.specs.Events.{Replies}
use Rattle.sp_rules.specs.Lists.{with_some}
use Rattle.sp_rules.specs.LivingTasks
use Rattle.sp_rules.specs.State.{State, Living, Made, Origin, OfRoot, OfCall, Until, Acked, is_open, send}
use Rattle.sp_rules.proofs.AllLemmas.{some-none}
use Rattle.sp_rules.proofs.OwnLemmas.{some-same}
use Rattle.sp_rules.proofs.Stable.{Core, IsFramed, hold_keeps, drop_keeps, send_keeps}

-- ---- rows

-- a row goes last
pub more-found : (is : Living → Bool) (ts : List Living) (row : Living) → find is ts ≡ None → find is (ts ++ row ∷ []) ≡ cond (is row) (Some row) None
more-found is [] row e = refl
more-found is (u ∷ ts) row e = pick (is u) e (more-found is ts row)
  where
    pick : (b : Bool) → cond b (Some u) (find is ts) ≡ None → (find is ts ≡ None → find is (ts ++ row ∷ []) ≡ cond (is row) (Some row) None) → cond b (Some u) (find is (ts ++ row ∷ [])) ≡ cond (is row) (Some row) None
    pick true f rest = absurd (some-none u f)
    pick false f rest = rest f

-- ---- what looks at tasks alone

pub record LooksAtTasks (P : State → Type 0) : Type 0 where
  pub same : (s t : State) → t.tasks ≡ s.tasks → P s → P t

pub framed : {P : State → Type 0} → LooksAtTasks P → IsFramed P
framed T = record { frame = λ s t e h. T.same s t (ap (λ (c : Core). c.tasks) e) h }

-- the task of an id is this
pub finds : (id : ℕ) (found : Option Living) → LooksAtTasks (λ s. find (λ (u : Living). u.id == id) s.tasks ≡ found)
finds id found = record { same = λ s t e h. subst (λ (ts : List Living). find (λ (u : Living). u.id == id) ts ≡ found) (sym e) h }

-- something is done with a ready task
pub ready-does : (P : State → Type 0) (o : Option Living) (t : Living) (s : State) (f : Living → State) → o ≡ Some t → P (f t) → P (with_some o s f)
ready-does P None t s f is h = absurd (some-none t (sym is))
ready-does P (Some u) t s f is h = subst (λ v. P (f v)) (sym (some-same is)) h

-- or nothing is done
pub may-do : (P : State → Type 0) (o : Option Living) (s : State) (f : Living → State) → P s → ((t : Living) → P (f t)) → P (with_some o s f)
may-do P None s f h k = h
may-do P (Some t) s f h k = k t

-- ---- the rules

pub op-keeps : {P : State → Type 0} (T : LooksAtTasks P) (g : Setting) (op : Op) {s : State} → P s → P (LivingTasks.after_op g op s)
unfolding LivingTasks.after_op
op-keeps {P} T g (Create class) {s} h = pick (LivingTasks.is_full s)
  where
    pick : (b : Bool) → P (if b then s else record s { objects_made = s.objects_made + 1; store = Made (LivingTasks.next_object s) class ∷ s.store })
    pick true = h
    pick false = T.same s _ refl h
op-keeps T g (Get id slot) h = h
op-keeps T g (Put id slot value) {s} h = drop_keeps (framed T) _ (hold_keeps (framed T) _ (T.same s _ refl h))
op-keeps T g (Call target method arguments) h = h

keep-result-keeps : {P : State → Type 0} (T : LooksAtTasks P) (g : Setting) (until : Until) (outcome : Outcome) {s : State} → P s → P (LivingTasks.keep_result g until outcome s)
keep-result-keeps T g until (Returned value) {s} h = hold_keeps (framed T) _ (T.same s _ refl h)
keep-result-keeps T g until (Threw class) h = h
keep-result-keeps T g until Spent h = h

report-keeps : {P : State → Type 0} (T : LooksAtTasks P) (g : Setting) (origin : Origin) (id fuel : ℕ) (outcome : Outcome) {s : State} → P s → P (LivingTasks.report g origin id fuel outcome s)
report-keeps T g OfRoot id fuel outcome h = keep-result-keeps T g _ outcome h
report-keeps {P} T g (OfCall conn number) id fuel outcome {s} h = pick (is_open s conn)
  where
    pick : (b : Bool) → P (if b then send Replies conn (LivingTasks.reply_frame g number fuel outcome) (LivingTasks.keep_result g (Acked conn number) outcome s) else s)
    pick true = send_keeps (framed T) _ conn _ (keep-result-keeps T g _ outcome h)
    pick false = h

-- a task goes, and no other
pub end-keeps : {P : State → Type 0} (T : LooksAtTasks P) (g : Setting) (id : ℕ) (t : Living) (outcome : Outcome) (s : State) → P (record s { tasks = filter (λ (u : Living). not (u.id == id)) s.tasks }) → P (LivingTasks.end_with g id t outcome s)
end-keeps T g id t outcome s h = drop_keeps (framed T) _ (report-keeps T g t.origin id t.task.fuel outcome (T.same (record s { tasks = filter (λ (u : Living). not (u.id == id)) s.tasks }) _ refl h))
