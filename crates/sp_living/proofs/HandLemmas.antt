-- Tasks in hand: what they are among the living tasks, and what becomes of them.
use Rattle.std.proofs.Common.{◌≡◌, ℕ, zero, suc, ◌+◌, ◌≤◌, Bool, true, false, cond, nat_eq, List, [], ◌∷◌, ◌++◌, Option, None, Some, refl, sym, ap, subst, ◌∙◌, map, arith}
use Rattle.std.specs.Prelude.{IfSome, OnOk, Ok, Err, Result, find, ◌==◌, ◌&&◌, ◌||◌, option_map, unwrap_or}
use Rattle.std.specs.Cmp.{nat_eq_equiv}
use Rattle.std.proofs.lemmas.Bool.{eq-eqb, eqb-true, false≢true}
use Rattle.sp_rules.specs.Behaviours.{Reply}
use Rattle.sp_rules.specs.Classes.{Setting}
use Rattle.sp_rules.specs.Laws.{AllOf}
use Rattle.sp_rules.specs.Lists.{at_first}
use Rattle.sp_rules.specs.LivingTasks.{after_reply, after_steps, waiting}
use Rattle.sp_rules.specs.References.{references_in, with_references}
use Rattle.sp_rules.specs.Runs.{AreRecorded, lent_if, recorded, replayed}
use Rattle.sp_rules.specs.State.{State, Living, ready_at, task_at, that_is_ready}
use Rattle.sp_rules.specs.Tasks.{Task, Stand, Runs, AsksFor, HasEnded, answer, lend_fuel, stand, step, step_at, steps}
use Rattle.sp_rules.proofs.AllLemmas.{all-first}
use Rattle.sp_tasks.specs.Recorded.{Recorded, with_entry, with_given}
use Rattle.sp_tasks.specs.Rows.{TaskRow, TaskTable, Hand, at_row, back_row, hand_of, has_room, is_in_hand, lent_row, parked_row, replied_hand, replied_row, roomy_hand, roomy_row, row_of, value_given}
use Rattle.sp_tasks.specs.Same.{is_recorded}
use Rattle.sp_tasks.proofs.SameLemmas.{and-left, and-right, record-itself, record-same}
use Rattle.sp_living.specs.Hands.{has_lent, task_of}
use Rattle.sp_living.specs.Livings.{IsLiving}
use Rattle.sp_living.specs.Parts.{AreTasks, IsIdle}
use Rattle.sp_living.specs.Views.{Seen, recorded_in, seen, seen_row, turned}
use Rattle.sp_living.specs.declared.living.Living.{Living as Lives}
use Rattle.sp_living.proofs.TaskLemmas.{answer-held, matched, row-changed}

-- ---- the first of a list that changes

pub at-map : {A B : Type 0} (f : A → B) (of : A → Bool) (to : B → Bool) (change : A → A) (turn : B → B) → ((x : A) → to (f x) ≡ of x) → (xs : List A) → ((x : A) → find of xs ≡ Some x → f (change x) ≡ turn (f x))
    → map f (at_first of change xs) ≡ at_first to turn (map f xs)
at-map f of to change turn same [] changed = refl
at-map f of to change turn same (x ∷ xs) changed =
    elim (of x) as (λ b. of x ≡ b → map f (cond b (change x ∷ xs) (x ∷ at_first of change xs)) ≡ at_first to turn (f x ∷ map f xs)) [
      | true ↦ λ here. ap (λ y. y ∷ map f xs) (changed x (ap (λ b. cond b (Some x) (find of xs)) here)) ∙ sym (ap (λ b. cond b (turn (f x) ∷ map f xs) (f x ∷ at_first to turn (map f xs))) (same x ∙ here))
      | false ↦ λ apart. ap (λ ys. f x ∷ ys) (at-map f of to change turn same xs (λ y found. changed y (ap (λ b. cond b (Some x) (find of xs)) apart ∙ found)))
          ∙ sym (ap (λ b. cond b (turn (f x) ∷ map f xs) (f x ∷ at_first to turn (map f xs))) (same x ∙ apart))
    ] refl

abbrev is_row : ℕ → ℕ × TaskRow → Bool
is_row id row = row.0 == id

abbrev is_task : ℕ → Living → Bool
is_task id t = t.id == id

abbrev change_row : (TaskRow → TaskRow) → ℕ × TaskRow → ℕ × TaskRow
change_row f row = (row.0, f row.1)

only : {A : Type 0} (x y : A) → Some x ≡ Some y → x ≡ y
only x y h = ap (λ o. unwrap_or o x) h

-- a row that is found is the row of its id
found-row : (id : ℕ) (es : List (ℕ × TaskRow)) (e : ℕ × TaskRow) → find (is_row id) es ≡ Some e → row_of id es ≡ Some e.1
found-row id [] e found = cc
found-row id (x ∷ xs) e found =
    elim (x.0 == id) as (λ b. (x.0 == id) ≡ b → cond b (Some x) (find (is_row id) xs) ≡ Some e → cond (nat_eq id x.0) (Some x.1) (row_of id xs) ≡ Some e.1) [
      | true ↦ λ here some. ap (λ b. cond b (Some x.1) (row_of id xs)) (nat_eq_equiv.symm id x.0 ∙ here) ∙ ap (λ (y : ℕ × TaskRow). Some y.1) (only x e some)
      | false ↦ λ apart rest. ap (λ b. cond b (Some x.1) (row_of id xs)) (nat_eq_equiv.symm id x.0 ∙ apart) ∙ found-row id xs e rest
    ] refl found

pub rows-change : (id : ℕ) (f : TaskRow → TaskRow) (turn : Seen → Seen) (es : List (ℕ × TaskRow)) → ((k : ℕ) (row : TaskRow) → row_of id es ≡ Some row → seen_row (k, f row) ≡ turn (seen_row (k, row)))
    → map seen_row (at_row id f es) ≡ at_first (λ (x : Seen). x.id == id) turn (map seen_row es)
rows-change id f turn es changed = at-map seen_row (is_row id) (λ (x : Seen). x.id == id) (change_row f) turn (λ row. refl) es (λ row found. changed row.0 row.1 (found-row id es row found))

pub tasks-change : (id : ℕ) (f : Living → Living) (turn : Seen → Seen) (ts : List Living) → ((t : Living) → find (is_task id) ts ≡ Some t → seen (f t) ≡ turn (seen t))
    → map seen (at_first (is_task id) f ts) ≡ at_first (λ (x : Seen). x.id == id) turn (map seen ts)
tasks-change id f turn ts changed = at-map seen (is_task id) (λ (x : Seen). x.id == id) f turn (λ t. refl) ts changed

-- ---- records

-- If what is found changes into a task that its record leaves, each is what its record leaves.
recorded-change : (g : Setting) (p : Living → Bool) (f : Living → Living) (ts : List Living) → ((t : Living) → find p ts ≡ Some t → t.task ≡ recorded g t → (f t).task ≡ recorded g (f t)) → AreRecorded g ts
    → AreRecorded g (at_first p f ts)
recorded-change g p f [] changed all = tt
recorded-change g p f (t ∷ ts) changed all =
    elim (p t) as (λ b. p t ≡ b → AreRecorded g (cond b (f t ∷ ts) (t ∷ at_first p f ts))) [
      | true ↦ λ here. (changed t (ap (λ b. cond b (Some t) (find p ts)) here) all.0, all.1)
      | false ↦ λ apart. (all.0, recorded-change g p f ts (λ u found. changed u (ap (λ b. cond b (Some t) (find p ts)) apart ∙ found)) all.1)
    ] refl

steps-more : (j k : ℕ) (t : Task) → steps k (steps j t) ≡ steps (j + k) t
unfolding steps
steps-more zero k t = let e : k ≡ 0 + k = omega arith in ap (λ n. steps n t) e
steps-more (suc j) k t =
    let e : suc j + k ≡ suc (j + k) = omega arith in
    steps-more j k (step t) ∙ sym (ap (λ n. steps n t) e)

step-held : (t : Task) → (step t).held ≡ t.held
unfolding step
step-held t = by (stand t)
  where
    by : (at : Stand) → (step_at at t).held ≡ t.held
    by Runs = refl
    by (AsksFor op) = refl
    by (HasEnded outcome) = refl

pub steps-held : (k : ℕ) (t : Task) → (steps k t).held ≡ t.held
unfolding steps
steps-held zero t = refl
steps-held (suc k) t = steps-held k (step t) ∙ step-held t

-- a task that does not wait, after more instructions of its own
stepped : (g : Setting) (t : Living) (k : ℕ) → t.waits ≡ false → t.task ≡ recorded g t → steps k t.task ≡ steps (t.steps + k) (replayed g t.began t.given)
stepped g t k idle is =
    let e : t.task ≡ steps t.steps (replayed g t.began t.given) = is ∙ ap (λ b. lent_if b (steps t.steps (replayed g t.began t.given))) idle in
    ap (steps k) e ∙ steps-more t.steps k (replayed g t.began t.given)

back-recorded : (g : Setting) (t : Living) (k : ℕ) → t.waits ≡ false → t.task ≡ recorded g t → (after_steps k t).task ≡ recorded g (after_steps k t)
back-recorded g t k idle is = stepped g t k idle is ∙ sym (ap (λ b. lent_if b (steps (t.steps + k) (replayed g t.began t.given))) idle)

replied-recorded : (g : Setting) (t : Living) (k : ℕ) (reply : Reply) → t.waits ≡ false → t.task ≡ recorded g t
    → (after_reply g reply (after_steps k t)).task ≡ recorded g (after_reply g reply (after_steps k t))
unfolding steps
replied-recorded g t k reply idle is = ap (answer g reply) (back-recorded g t k idle is)

waiting-recorded : (g : Setting) (t : Living) (k : ℕ) → t.waits ≡ false → t.task ≡ recorded g t → (waiting k t).task ≡ recorded g (waiting k t)
waiting-recorded g t k idle is = ap lend_fuel (stepped g t k idle is)

-- ---- what a task in hand is

pub record InHand (g : Setting) (s : State) (l : Lives) (hand : Hand) : Type 0 where
  pub row : TaskRow
  pub living : Living
  pub row-is : row_of hand.id l.tasks.rows ≡ Some row
  pub there : task_at s hand.id ≡ Some living
  pub ready : ready_at s hand.id ≡ Some living
  pub same : seen_row (hand.id, row) ≡ seen living
  pub past : row.past ≡ hand.past
  pub steps : row.steps ≡ hand.steps
  pub lent : row.lent ≡ true
  pub waits : living.waits ≡ false

idle-row : (id : ℕ) (row : TaskRow) (es : List (ℕ × TaskRow)) → row_of id es ≡ Some row → AllOf IsIdle es → row.waits ≡ true → row.lent ≡ false
idle-row id row [] found all = cc
idle-row id row (e ∷ es) found all =
    elim (nat_eq id e.0) as (λ b. cond b (Some e.1) (row_of id es) ≡ Some row → row.waits ≡ true → row.lent ≡ false) [
      | true ↦ λ some. subst (λ (r : TaskRow). r.waits ≡ true → r.lent ≡ false) (only e.1 row some) all.0
      | false ↦ λ rest. idle-row id row es rest all.1
    ] found

not-both : (w l : Bool) → l ≡ true → (w ≡ true → l ≡ false) → w ≡ false
not-both false l here idle = refl
not-both true l here idle = absurd (false≢true (sym (idle refl) ∙ here))

pub taken : (g : Setting) (s : State) (l : Lives) (hand : Hand) → IsLiving g s l → has_lent l hand ≡ true → InHand g s l hand
taken g s l hand is here = by (row_of hand.id l.tasks.rows) (task_at s hand.id) refl refl (matched g s.tasks_made s.tasks l.tasks hand.id is.tasks) here
  where
    by : (o : Option TaskRow) (p : Option Living) → row_of hand.id l.tasks.rows ≡ o → task_at s hand.id ≡ p → option_map (λ (row : TaskRow). seen_row (hand.id, row)) o ≡ option_map seen p
        → is_in_hand o hand ≡ true → InHand g s l hand
    by None p at there e here = absurd (false≢true here)
    by (Some row) None at there e here = cc
    by (Some row) (Some t) at there e here =
        let rest = and-right row.lent _ here in
        let lent : row.lent ≡ true = and-left row.lent _ here in
        let same : seen_row (hand.id, row) ≡ seen t = only (seen_row (hand.id, row)) (seen t) e in
        let waits : t.waits ≡ false = sym (ap (λ (x : Seen). x.waits) same) ∙ not-both row.waits row.lent lent (idle-row hand.id row l.tasks.rows at is.tasks.idle) in record {
          row = row;
          living = t;
          row-is = at;
          there = there;
          ready = ap that_is_ready there ∙ ap (λ b. cond b None (Some t)) waits;
          same = same;
          past = record-same row.past hand.past (and-right (row.steps == hand.steps) _ rest);
          steps = eqb-true row.steps hand.steps (and-left (row.steps == hand.steps) _ rest);
          lent = lent;
          waits = waits;
        }

-- ---- where it stands

turned-more : {A : Type 0} (xs : List A) (x : A) → turned (xs ++ x ∷ []) ≡ x ∷ turned xs
turned-more [] x = refl
turned-more (y ∷ ys) x = ap (λ zs. zs ++ y ∷ []) (turned-more ys x)

turned-twice : {A : Type 0} (xs : List A) → turned (turned xs) ≡ xs
turned-twice [] = refl
turned-twice (x ∷ xs) = turned-more (turned xs) x ∙ ap (λ ys. x ∷ ys) (turned-twice xs)

recorded-at : (g : Setting) (id : ℕ) (ts : List Living) (t : Living) → AreRecorded g ts → find (is_task id) ts ≡ Some t → t.task ≡ recorded g t
recorded-at g id [] t all found = cc
recorded-at g id (u ∷ us) t all found =
    elim (u.id == id) as (λ b. cond b (Some u) (find (is_task id) us) ≡ Some t → t.task ≡ recorded g t) [
      | true ↦ λ e. subst (λ (v : Living). v.task ≡ recorded g v) (only u t e) all.0
      | false ↦ λ e. recorded-at g id us t all.1 e
    ] found

-- A task in hand is at the point to which its record and its own instructions bring it.
pub task-is : (g : Setting) (s : State) (l : Lives) (hand : Hand) → IsLiving g s l → (h : InHand g s l hand) → steps hand.made h.living.task ≡ task_of g hand
task-is g s l hand is h =
    let t = h.living in
    let past : recorded_in t ≡ hand.past = ap (λ (x : Seen). x.past) (sym h.same) ∙ h.past in
    let made : t.steps ≡ hand.steps = ap (λ (x : Seen). x.steps) (sym h.same) ∙ h.steps in
    let given : t.given ≡ turned hand.past.given = sym (turned-twice t.given) ∙ ap (λ (p : Recorded). turned p.given) past in
    ap (steps hand.made) (recorded-at g hand.id s.tasks t is.tasks.runs h.there ∙ ap (λ b. lent_if b (steps t.steps (replayed g t.began t.given))) h.waits
    ∙ (λ j. steps (made j) (replayed g (past j).began (given j))))

-- ---- what becomes of it

-- what is found is the task in hand
the-task : (g : Setting) (s : State) (l : Lives) (hand : Hand) (h : InHand g s l hand) (t : Living) → task_at s hand.id ≡ Some t → t.waits ≡ false
the-task g s l hand h t found = subst (λ (u : Living). u.waits ≡ false) (only h.living t (sym h.there ∙ found)) h.waits

the-row : (g : Setting) (s : State) (l : Lives) (hand : Hand) (h : InHand g s l hand) (row : TaskRow) → row_of hand.id l.tasks.rows ≡ Some row → row.waits ≡ false
the-row g s l hand h row found = ap (λ (r : TaskRow). r.waits) (only row h.row (sym found ∙ h.row-is)) ∙ ap (λ (x : Seen). x.waits) h.same ∙ h.waits

-- It is given back.
abbrev stepped_on : ℕ → Seen → Seen
stepped_on k x = record x { steps = x.steps + k }

pub tasks-back : (g : Setting) (s : State) (l : Lives) (hand : Hand) (new : TaskTable) → (h : InHand g s l hand) → new ≡ record l.tasks { rows = at_row hand.id (back_row hand.made) l.tasks.rows } → AreTasks g s.tasks_made s.tasks l.tasks
    → AreTasks g s.tasks_made (at_first (is_task hand.id) (after_steps hand.made) s.tasks) new
tasks-back g s l hand new h is are =
    let k = hand.made in
    let after : List Living = at_first (is_task hand.id) (after_steps k) s.tasks in subst (AreTasks g s.tasks_made after) (sym is) (record {
      rows = rows-change hand.id (back_row k) (stepped_on k) l.tasks.rows (λ q row found. refl) ∙ ap (at_first (λ (x : Seen). x.id == hand.id) (stepped_on k)) are.rows
          ∙ sym (tasks-change hand.id (after_steps k) (stepped_on k) s.tasks (λ t found. λ j. record { id = t.id; origin = t.origin; waits = t.waits; held = steps-held k t.task j; past = recorded_in t; steps = t.steps + k }));
      last = are.last;
      runs = recorded-change g (is_task hand.id) (after_steps k) s.tasks (λ t found r. back-recorded g t k (the-task g s l hand h t found) r) are.runs;
      numbers = all-first (λ (t : Living). t.id ≤ s.tasks_made) (is_task hand.id) (after_steps k) s.tasks (λ t low. low) are.numbers;
      idle = all-first IsIdle (is_row hand.id) (change_row (back_row k)) l.tasks.rows (λ row _ w. refl) are.idle;
    })

-- It is given a reply.
abbrev replied_on : ℕ → Reply → Seen → Seen
replied_on k reply x = record x { waits = false; held = with_references x.held (references_in (value_given reply)); past = with_entry (x.steps + k) false reply x.past; steps = 0 }

abbrev replied : Setting → ℕ → Reply → Living → Living
replied g k reply t = after_reply g reply (after_steps k t)

held-replied : (g : Setting) (k : ℕ) (reply : Reply) (t : Living) → (replied g k reply t).task.held ≡ with_references t.task.held (references_in (value_given reply))
held-replied g k reply t = answer-held g reply (steps k t.task) ∙ ap (λ held. with_references held (references_in (value_given reply))) (steps-held k t.task)

seen-replied : (g : Setting) (k : ℕ) (reply : Reply) (t : Living) → t.waits ≡ false → seen (replied g k reply t) ≡ replied_on k reply (seen t)
seen-replied g k reply t waits = λ j. record {
  id = t.id;
  origin = t.origin;
  waits = false;
  held = held-replied g k reply t j;
  past = record { began = t.began; given = turned t.given ++ record { steps = t.steps + k; lent = waits j; reply = reply } ∷ [] };
  steps = 0;
}

row-replied : (q k : ℕ) (reply : Reply) (row : TaskRow) → row.waits ≡ false → seen_row (q, replied_row k reply row) ≡ replied_on k reply (seen_row (q, row))
row-replied q k reply row waits = λ j. record {
  id = q;
  origin = row.origin;
  waits = waits j;
  held = with_references row.held (references_in (value_given reply));
  past = with_entry (row.steps + k) false reply row.past;
  steps = 0;
}

pub tasks-given : (g : Setting) (s : State) (l : Lives) (hand : Hand) (reply : Reply) (new : TaskTable) → (h : InHand g s l hand) → new ≡ record l.tasks { rows = at_row hand.id (replied_row hand.made reply) l.tasks.rows }
    → AreTasks g s.tasks_made s.tasks l.tasks → AreTasks g s.tasks_made (at_first (is_task hand.id) (replied g hand.made reply) s.tasks) new
tasks-given g s l hand reply new h is are =
    let k = hand.made in
    let after : List Living = at_first (is_task hand.id) (replied g k reply) s.tasks in subst (AreTasks g s.tasks_made after) (sym is) (record {
      rows = rows-change hand.id (replied_row k reply) (replied_on k reply) l.tasks.rows (λ q row found. row-replied q k reply row (the-row g s l hand h row found)) ∙ ap (at_first (λ (x : Seen). x.id == hand.id) (replied_on k reply)) are.rows
          ∙ sym (tasks-change hand.id (replied g k reply) (replied_on k reply) s.tasks (λ t found. seen-replied g k reply t (the-task g s l hand h t found)));
      last = are.last;
      runs = recorded-change g (is_task hand.id) (replied g k reply) s.tasks (λ t found r. replied-recorded g t k reply (the-task g s l hand h t found) r) are.runs;
      numbers = all-first (λ (t : Living). t.id ≤ s.tasks_made) (is_task hand.id) (replied g k reply) s.tasks (λ t low. low) are.numbers;
      idle = all-first IsIdle (is_row hand.id) (change_row (replied_row k reply)) l.tasks.rows (λ row idle. idle) are.idle;
    })

-- It waits for the reply to its call.
abbrev waiting_on : ℕ → Seen → Seen
waiting_on k x = record x { waits = true; steps = x.steps + k }

held-lent : (t : Task) → (lend_fuel t).held ≡ t.held
unfolding lend_fuel
held-lent t = refl

tasks-waiting : (g : Setting) (s : State) (l : Lives) (hand : Hand) (new : TaskTable) → (h : InHand g s l hand) → map seen_row new.rows ≡ map seen_row (at_row hand.id (parked_row hand.made) l.tasks.rows) → new.made ≡ l.tasks.made → AllOf IsIdle new.rows
    → AreTasks g s.tasks_made s.tasks l.tasks → AreTasks g s.tasks_made (at_first (is_task hand.id) (waiting hand.made) s.tasks) new
tasks-waiting g s l hand new h same made idle are =
    let k = hand.made in record {
      rows = same ∙ rows-change hand.id (parked_row k) (waiting_on k) l.tasks.rows (λ q row found. refl) ∙ ap (at_first (λ (x : Seen). x.id == hand.id) (waiting_on k)) are.rows
          ∙ sym (tasks-change hand.id (waiting k) (waiting_on k) s.tasks (λ t found. λ j. record { id = t.id; origin = t.origin; waits = true; held = (held-lent (steps k t.task) ∙ steps-held k t.task) j; past = recorded_in t; steps = t.steps + k }));
      last = made ∙ are.last;
      runs = recorded-change g (is_task hand.id) (waiting k) s.tasks (λ t found r. waiting-recorded g t k (the-task g s l hand h t found) r) are.runs;
      numbers = all-first (λ (t : Living). t.id ≤ s.tasks_made) (is_task hand.id) (waiting k) s.tasks (λ t low. low) are.numbers;
      idle = idle;
    }

-- ---- a task that is lent

unseen : (id : ℕ) (xs : List Seen) → at_first (λ (x : Seen). x.id == id) (λ x. x) xs ≡ xs
unseen id [] = refl
unseen id (x ∷ xs) = elim (x.id == id) as (λ b. cond b (x ∷ xs) (x ∷ at_first (λ (x : Seen). x.id == id) (λ x. x) xs) ≡ x ∷ xs) [ true ↦ refl | false ↦ ap (λ ys. x ∷ ys) (unseen id xs) ]

-- a change that nothing shows
pub rows-unseen : (id : ℕ) (f : TaskRow → TaskRow) (es : List (ℕ × TaskRow)) → ((k : ℕ) (row : TaskRow) → seen_row (k, f row) ≡ seen_row (k, row)) → map seen_row (at_row id f es) ≡ map seen_row es
rows-unseen id f es changed = rows-change id f (λ x. x) es (λ k row found. changed k row) ∙ unseen id (map seen_row es)

lent-unseen : (k : ℕ) (row : TaskRow) → seen_row (k, lent_row row) ≡ seen_row (k, row)
lent-unseen k row = elim row.waits as (λ b. seen_row (k, cond b row (record row { lent = true })) ≡ seen_row (k, row)) [ true ↦ refl | false ↦ refl ]

lent-idle : (row : TaskRow) → (row.waits ≡ true → row.lent ≡ false) → (lent_row row).waits ≡ true → (lent_row row).lent ≡ false
lent-idle row idle =
    elim row.waits as (λ b. row.waits ≡ b → (cond b row (record row { lent = true })).waits ≡ true → (cond b row (record row { lent = true })).lent ≡ false) [
      | true ↦ λ here w. idle w
      | false ↦ λ here w. absurd (false≢true (sym here ∙ w))
    ] refl

pub tasks-lent : (g : Setting) (made id : ℕ) (ts : List Living) (table new : TaskTable) → new ≡ record table { rows = at_row id lent_row table.rows } → AreTasks g made ts table → AreTasks g made ts new
tasks-lent g made id ts table new is are = subst (AreTasks g made ts) (sym is) (record {
  rows = rows-unseen id lent_row table.rows lent-unseen ∙ are.rows;
  last = are.last;
  runs = are.runs;
  numbers = are.numbers;
  idle = all-first IsIdle (is_row id) (change_row lent_row) table.rows (λ row idle. lent-idle row.1 idle) are.idle;
})

-- the row of an id after it was changed
row-at : (id : ℕ) (f : TaskRow → TaskRow) (row : TaskRow) (es : List (ℕ × TaskRow)) → row_of id es ≡ Some row → row_of id (at_row id f es) ≡ Some (f row)
row-at id f row es found = row-changed id f es ∙ ap (λ (o : Option TaskRow). option_map f o) found

or-left : (a b : Bool) → (a || b) ≡ false → a ≡ false
or-left true b h = h
or-left false b h = refl

-- what is lent is in hand
pub lent-own : (l new : Lives) (id : ℕ) (r : Option Hand) → r ≡ hand_of id (row_of id l.tasks.rows) → new.tasks ≡ record l.tasks { rows = at_row id lent_row l.tasks.rows } → IfSome r (λ hand. has_lent new hand ≡ true)
lent-own l new id None at same = tt
lent-own l new id (Some hand) at same = by (row_of id l.tasks.rows) refl at
  where
    by : (o : Option TaskRow) → row_of id l.tasks.rows ≡ o → Some hand ≡ hand_of id o → has_lent new hand ≡ true
    by None found at = cc
    by (Some row) found at =
        elim (row.waits || row.lent) as (λ b. (row.waits || row.lent) ≡ b → Some hand ≡ cond b None (Some (record { id = id; past = row.past; steps = row.steps; made = 0; room = false })) → has_lent new hand ≡ true) [
          | true ↦ λ here none. cc
          | false ↦ λ free some.
              let one : Hand = record { id = id; past = row.past; steps = row.steps; made = 0; room = false } in
              let is : hand ≡ one = only hand one some in
              ap (λ (h : Hand). is_in_hand (row_of h.id new.tasks.rows) h) is
              ∙ ap (λ (t : TaskTable). is_in_hand (row_of id t.rows) one) same
              ∙ ap (λ (o : Option TaskRow). is_in_hand o one) (row-at id lent_row row l.tasks.rows found)
              ∙ ap (λ w. is_in_hand (Some (cond w row (record row { lent = true }))) one) (or-left row.waits row.lent free)
              ∙ (λ j. eq-eqb row.steps row.steps refl j && is_recorded row.past row.past)
              ∙ record-itself row.past
        ] refl at

-- and still is after a reply
pub given-own : (l new : Lives) (hand : Hand) (reply : Reply) → has_lent l hand ≡ true → new.tasks ≡ record l.tasks { rows = at_row hand.id (replied_row hand.made reply) l.tasks.rows } → has_lent new (replied_hand reply hand) ≡ true
given-own l new hand reply here same = by (row_of hand.id l.tasks.rows) refl here
  where
    by : (o : Option TaskRow) → row_of hand.id l.tasks.rows ≡ o → is_in_hand o hand ≡ true → has_lent new (replied_hand reply hand) ≡ true
    by None found here = absurd (false≢true here)
    by (Some row) found here =
        let rest = and-right row.lent _ here in
        let lent : row.lent ≡ true = and-left row.lent _ here in
        let past : row.past ≡ hand.past = record-same row.past hand.past (and-right (row.steps == hand.steps) _ rest) in
        let steps : row.steps ≡ hand.steps = eqb-true row.steps hand.steps (and-left (row.steps == hand.steps) _ rest) in
        ap (λ (t : TaskTable). is_in_hand (row_of hand.id t.rows) (replied_hand reply hand)) same
        ∙ ap (λ (o : Option TaskRow). is_in_hand o (replied_hand reply hand)) (row-at hand.id (replied_row hand.made reply) row l.tasks.rows found)
        ∙ (λ j. lent j && is_recorded (with_given (steps j + hand.made) reply (past j)) (with_given (hand.steps + hand.made) reply hand.past))
        ∙ record-itself (with_given (hand.steps + hand.made) reply hand.past)

-- and with room for the reply to its call
pub roomy-own : (table new : TaskTable) (hand now : Hand) → is_in_hand (row_of hand.id table.rows) hand ≡ true → new ≡ record table { rows = at_row hand.id roomy_row table.rows } → now ≡ roomy_hand hand
    → (is_in_hand (row_of now.id new.rows) now ≡ true) × (has_room (row_of now.id new.rows) ≡ true)
roomy-own table new hand now here same mine = by (row_of hand.id table.rows) refl here
  where
    by : (o : Option TaskRow) → row_of hand.id table.rows ≡ o → is_in_hand o hand ≡ true → (is_in_hand (row_of now.id new.rows) now ≡ true) × (has_room (row_of now.id new.rows) ≡ true)
    by None found here = absurd (false≢true here)
    by (Some row) found here = (
      (λ j. is_in_hand (row_of (mine j).id (same j).rows) (mine j)) ∙ ap (λ (o : Option TaskRow). is_in_hand o (roomy_hand hand)) (row-at hand.id roomy_row row table.rows found) ∙ here,
      (λ j. has_room (row_of (mine j).id (same j).rows)) ∙ ap (λ (o : Option TaskRow). has_room o) (row-at hand.id roomy_row row table.rows found),
    )

parked-rows : (id k : ℕ) (es : List (ℕ × TaskRow)) → map seen_row (at_row id (parked_row k) (at_row id roomy_row es)) ≡ map seen_row (at_row id (parked_row k) es)
parked-rows id k es =
    rows-change id (parked_row k) (waiting_on k) (at_row id roomy_row es) (λ q row found. refl)
    ∙ ap (at_first (λ (x : Seen). x.id == id) (waiting_on k)) (rows-unseen id roomy_row es (λ q row. refl))
    ∙ sym (rows-change id (parked_row k) (waiting_on k) es (λ q row found. refl))

pub tasks-parked : (g : Setting) (s : State) (l : Lives) (hand now : Hand) (mid new : TaskTable) → (h : InHand g s l hand) → mid ≡ record l.tasks { rows = at_row hand.id roomy_row l.tasks.rows } → now ≡ roomy_hand hand
    → new ≡ record mid { rows = at_row now.id (parked_row now.made) mid.rows } → AreTasks g s.tasks_made s.tasks l.tasks → AreTasks g s.tasks_made (at_first (is_task hand.id) (waiting hand.made) s.tasks) new
tasks-parked g s l hand now mid new h roomy mine is are =
    let table : TaskTable = record l.tasks { rows = at_row hand.id (parked_row hand.made) (at_row hand.id roomy_row l.tasks.rows) } in
    let same : new ≡ table = is ∙ (λ j. record (roomy j) { rows = at_row (mine j).id (parked_row (mine j).made) (roomy j).rows }) in
    let once : AllOf IsIdle (at_row hand.id roomy_row l.tasks.rows) = all-first IsIdle (is_row hand.id) (change_row roomy_row) l.tasks.rows (λ row idle. idle) are.idle in
    let idle : AllOf IsIdle table.rows = all-first IsIdle (is_row hand.id) (change_row (parked_row hand.made)) (at_row hand.id roomy_row l.tasks.rows) (λ row _ w. refl) once in
    subst (AreTasks g s.tasks_made (at_first (is_task hand.id) (waiting hand.made) s.tasks)) (sym same) (tasks-waiting g s l hand table h (parked-rows hand.id hand.made l.tasks.rows) refl idle are)

-- what two clauses say of what is returned
pub on-both : {A E : Type 0} (r : Result A E) (P Q R : Type 0) → OnOk r P → OnOk r Q → (P → Q → R) → OnOk r R
on-both (Ok x) P Q R p q f = f p q
on-both (Err e) P Q R p q f = p
