-- Whatever happens to a space, each of its tasks stands at the point to which its record brings it.
use mathlib.Core.Path.{sym, ap, subst, ◌∙◌}
use Rattle.std.specs.Prelude.{◌≡◌, refl, zero, suc, cond, ◌+◌, ◌==◌, ◌++◌, ℕ, Bool, true, false, List, [], ◌∷◌, Option, None, Some, filter, find, if◌then◌else◌}
use Rattle.std.proofs.Common.{arith}
use Rattle.sp_rules.specs.Behaviours.{Reply}
use Rattle.sp_rules.specs.Classes.{Setting}
use Rattle.sp_rules.specs.Events.{Event}
use Rattle.sp_rules.specs.Lists.{at_first}
use Rattle.sp_rules.specs.LivingTasks.{after_steps, after_reply, waiting}
use Rattle.sp_rules.specs.Runs.{lent_if, replayed, recorded, AreRecorded}
use Rattle.sp_rules.specs.Space
use Rattle.sp_rules.specs.State.{State, Living, Origin, task_at}
use Rattle.sp_rules.specs.Tasks.{Task, step, steps, answer, lend_fuel}
use Rattle.sp_rules.proofs.ReadyLemmas.{ready-is}
use Rattle.sp_rules.proofs.Stable.{Core, IsStable, AllowsTelling, AllowsNaming, AllowsWithdrawal, on_keeps, new_row}

-- ---- steps

steps-more : (j k : ℕ) (t : Task) → steps k (steps j t) ≡ steps (j + k) t
unfolding steps
steps-more zero k t = let e : k ≡ 0 + k = omega arith in ap (λ n. steps n t) e
steps-more (suc j) k t =
    let e : suc j + k ≡ suc (j + k) = omega arith in
    steps-more j k (step t) ∙ sym (ap (λ n. steps n t) e)

-- ---- rows

abbrev IsRecorded : Setting → Living → Type 0
IsRecorded g t = t.task ≡ recorded g t

abbrev HoldsIn : Setting → Option Living → Type 0
HoldsIn g None = Unit {0}
HoldsIn g (Some t) = IsRecorded g t

find-recorded : (g : Setting) (p : Living → Bool) (rows : List Living) → AreRecorded g rows → HoldsIn g (find p rows)
find-recorded g p [] a = tt
find-recorded g p (u ∷ rows) a = pick (p u) (find-recorded g p rows a.1)
  where
    pick : (b : Bool) → HoldsIn g (find p rows) → HoldsIn g (cond b (Some u) (find p rows))
    pick true h = a.0
    pick false h = h

found-recorded : (g : Setting) (s : State) (id : ℕ) (t : Living) → task_at s id ≡ Some t → AreRecorded g s.tasks → IsRecorded g t
found-recorded g s id t e a = subst (HoldsIn g) e (find-recorded g (λ (u : Living). u.id == id) s.tasks a)

-- If the row that is found is changed into one that is recorded, all are recorded.
first-recorded : (g : Setting) (p : Living → Bool) (f : Living → Living) (rows : List Living) (t : Living) → find p rows ≡ Some t → IsRecorded g (f t)
    → AreRecorded g rows → AreRecorded g (at_first p f rows)
first-recorded g p f [] t is h a = tt
first-recorded g p f (u ∷ rows) t is h a = pick (p u) is (first-recorded g p f rows t)
  where
    one : Some u ≡ Some t → IsRecorded g (f u)
    one e = subst (λ o. HoldsIn g (mapped o)) (sym e) h
      where
        mapped : Option Living → Option Living
        mapped None = None
        mapped (Some v) = Some (f v)

    pick : (b : Bool) → cond b (Some u) (find p rows) ≡ Some t → (find p rows ≡ Some t → IsRecorded g (f t) → AreRecorded g rows → AreRecorded g (at_first p f rows))
        → AreRecorded g (if b then f u ∷ rows else u ∷ at_first p f rows)
    pick true e rest = (one e, a.1)
    pick false e rest = (a.0, rest e h a.1)

filter-recorded : (g : Setting) (p : Living → Bool) (rows : List Living) → AreRecorded g rows → AreRecorded g (filter p rows)
filter-recorded g p [] a = tt
filter-recorded g p (u ∷ rows) a = pick (p u) (filter-recorded g p rows a.1)
  where
    pick : (b : Bool) → AreRecorded g (filter p rows) → AreRecorded g (cond b (u ∷ filter p rows) (filter p rows))
    pick true rest = (a.0, rest)
    pick false rest = rest

one-more : (g : Setting) (rows : List Living) (u : Living) → AreRecorded g rows → IsRecorded g u → AreRecorded g (rows ++ u ∷ [])
one-more g [] u a r = (r, tt)
one-more g (v ∷ rows) u a r = (a.0, one-more g rows u a.1 r)

-- ---- a ready task

-- a ready task after instructions of its own
stepped : (g : Setting) (t : Living) (k : ℕ) → t.waits ≡ false → IsRecorded g t → steps k t.task ≡ steps (t.steps + k) (replayed g t.began t.given)
stepped g t k ready is =
    let e : t.task ≡ steps t.steps (replayed g t.began t.given) = is ∙ ap (λ b. lent_if b (steps t.steps (replayed g t.began t.given))) ready in
    ap (steps k) e ∙ steps-more t.steps k (replayed g t.began t.given)

replied : (g : Setting) (t : Living) (reply : Reply) → IsRecorded g t → IsRecorded g (after_reply g reply t)
unfolding steps
replied g t reply is = ap (answer g reply) is

goes : (g : Setting) (t : Living) (k : ℕ) → t.waits ≡ false → IsRecorded g t → IsRecorded g (after_steps k t)
goes g t k ready is = stepped g t k ready is ∙ sym (ap (λ b. lent_if b (steps (t.steps + k) (replayed g t.began t.given))) ready)

waits : (g : Setting) (t : Living) (k : ℕ) → t.waits ≡ false → IsRecorded g t → IsRecorded g (waiting k t)
waits g t k ready is = ap lend_fuel (stepped g t k ready is)

-- ---- the property is stable

abbrev Recorded : Setting → State → Type 0
Recorded g t = AreRecorded g t.tasks

begun : (g : Setting) (s : State) (origin : Origin) (method : ℕ) (arguments : List Rattle.space_ids.specs.declared.value.Value.Value) (fuel : ℕ)
    → IsRecorded g (new_row g origin method arguments fuel s)
unfolding steps
begun g s origin method arguments fuel = refl

stable : (g : Setting) → IsStable g (Recorded g)
stable g = record {
  framed = record { frame = λ s t e h. subst (AreRecorded g) (sym (ap (λ (c : Core). c.tasks) e)) h };
  begins = λ s origin method arguments fuel h. one-more g s.tasks _ h (begun g s origin method arguments fuel);
  counts = λ s h. h;
  ends = λ s id h. filter-recorded g _ s.tasks h;
  replies = λ s id t reply is h. first-recorded g _ _ s.tasks t is (replied g t reply (found-recorded g s id t is h)) h;
  commits = λ s id k t reply is h.
      let both : (task_at s id ≡ Some t) × (t.waits ≡ false) = ready-is (task_at s id) t is in
      first-recorded g _ _ s.tasks t both.0 (replied g (after_steps k t) reply (goes g t k both.1 (found-recorded g s id t both.0 h))) h;
  waits = λ s id k t is h.
      let both : (task_at s id ≡ Some t) × (t.waits ≡ false) = ready-is (task_at s id) t is in
      first-recorded g _ _ s.tasks t both.0 (waits g t k both.1 (found-recorded g s id t both.0 h)) h;
  goes_on = λ s id k t is h.
      let both : (task_at s id ≡ Some t) × (t.waits ≡ false) = ready-is (task_at s id) t is in
      first-recorded g _ _ s.tasks t both.0 (goes g t k both.1 (found-recorded g s id t both.0 h)) h;
  makes = λ s class h. h;
  writes = λ s id slot value h. h;
}

telling : (g : Setting) → AllowsTelling (Recorded g)
telling g = record { told = λ s call h. h }

naming : (g : Setting) → AllowsNaming (Recorded g)
naming g = record { named = λ s names h. h }

withdrawal : (g : Setting) → AllowsWithdrawal (Recorded g)
withdrawal g = record { gone = λ s ids h. h }

-- an event leaves each task at the point to which its record brings it
pub on_recorded : (g : Setting) (e : Event) (s : State) → AreRecorded g s.tasks → AreRecorded g (Space.on g e s).0.tasks
on_recorded g e s h = on_keeps (stable g) s e (λ f. telling g) (λ n. naming g) (λ w. withdrawal g) h
