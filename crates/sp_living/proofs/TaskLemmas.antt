-- Living tasks and their rows, as tasks start, are answered and end.
use Rattle.std.proofs.Common.{◌≡◌, ℕ, zero, suc, ◌+◌, ◌≤◌, true, false, cond, nat_eq, List, [], ◌∷◌, ◌++◌, Option, None, Some, refl, sym, ap, subst, ◌∙◌, map, filter, length, drop, arith}
use Rattle.std.specs.Prelude.{not, find, ◌==◌, option_map}
use Rattle.std.specs.Cmp.{nat_eq_equiv}
use Rattle.std.proofs.lemmas.Bool.{eqb-true, false≢true}
use Rattle.std.proofs.lemmas.List.{map-append}
use Rattle.space_ids.specs.declared.value.Value.{Value}
use Rattle.space_ids.specs.declared.ids.Ref.{Ref}
use Rattle.sp_rules.specs.Behaviours.{Reply, Gives, GivesBack, Throws, RunsOut}
use Rattle.sp_rules.specs.Classes.{Setting}
use Rattle.sp_rules.specs.Laws.{AllOf}
use Rattle.sp_rules.specs.Lists.{at_first}
use Rattle.sp_rules.specs.LivingTasks.{after_reply}
use Rattle.sp_rules.specs.References.{references_in, references_of, with_references}
use Rattle.sp_rules.specs.Runs.{AreRecorded, recorded}
use Rattle.sp_rules.specs.State.{Living, Origin}
use Rattle.sp_rules.specs.Tasks.{Task, answer, gained, pay, pay_with, start, steps}
use Rattle.sp_rules.proofs.AllLemmas.{all-filter, all-first, all-more, all-weaken}
use Rattle.sp_tasks.specs.Recorded.{with_entry}
use Rattle.sp_tasks.specs.Rows.{TaskRow, TaskTable, answered_row, at_row, is_parked, row_of, started_row, value_given, with_started, without}
use Rattle.sp_living.specs.Parts.{AreTasks, IsIdle}
use Rattle.sp_living.specs.Steps.{started}
use Rattle.sp_living.specs.Views.{Seen, seen, seen_row, turned}

-- ---- a task that is found

abbrev seen_at : ℕ → List Seen → Option Seen
seen_at id xs = find (λ (x : Seen). x.id == id) xs

abbrev task_in : ℕ → List Living → Option Living
task_in id ts = find (λ (t : Living). t.id == id) ts

rows-seen : (id : ℕ) (es : List (ℕ × TaskRow)) → seen_at id (map seen_row es) ≡ option_map (λ (row : TaskRow). seen_row (id, row)) (row_of id es)
rows-seen id [] = refl
rows-seen id (e ∷ es) =
    elim (nat_eq id e.0) as (λ b. nat_eq id e.0 ≡ b → seen_at id (seen_row e ∷ map seen_row es) ≡ option_map (λ (row : TaskRow). seen_row (id, row)) (cond b (Some e.1) (row_of id es))) [
      | true ↦ λ here. ap (λ b. cond b (Some (seen_row e)) (seen_at id (map seen_row es))) (sym (nat_eq_equiv.symm id e.0) ∙ here) ∙ (let same = sym (eqb-true id e.0 here) in λ j. Some (seen_row (same j, e.1)))
      | false ↦ λ apart. ap (λ b. cond b (Some (seen_row e)) (seen_at id (map seen_row es))) (sym (nat_eq_equiv.symm id e.0) ∙ apart) ∙ rows-seen id es
    ] refl

tasks-seen : (id : ℕ) (ts : List Living) → seen_at id (map seen ts) ≡ option_map seen (task_in id ts)
tasks-seen id [] = refl
tasks-seen id (t ∷ ts) =
    elim (t.id == id) as (λ b. cond b (Some (seen t)) (seen_at id (map seen ts)) ≡ option_map seen (cond b (Some t) (task_in id ts))) [ true ↦ refl | false ↦ tasks-seen id ts ]

-- the row of a task shows what is seen of it
pub matched : (g : Setting) (made : ℕ) (ts : List Living) (table : TaskTable) (id : ℕ) → AreTasks g made ts table
    → option_map (λ (row : TaskRow). seen_row (id, row)) (row_of id table.rows) ≡ option_map seen (task_in id ts)
matched g made ts table id are = sym (rows-seen id table.rows) ∙ ap (seen_at id) are.rows ∙ tasks-seen id ts

-- ---- a task that starts

recorded-append : (g : Setting) (ts : List Living) (t : Living) → AreRecorded g ts → t.task ≡ recorded g t → AreRecorded g (ts ++ t ∷ [])
recorded-append g [] t all is = (is, tt)
recorded-append g (u ∷ us) t all is = (all.0, recorded-append g us t all.1 is)

pub tasks-started : (g : Setting) (made : ℕ) (ts : List Living) (table new : TaskTable) (origin : Origin) (method : ℕ) (arguments : List Value) (fuel : ℕ)
    → new ≡ with_started (started_row origin method arguments fuel) table → AreTasks g made ts table
    → AreTasks g (made + 1) (ts ++ started g (made + 1) origin method arguments fuel ∷ []) new
unfolding start steps
tasks-started g made ts table new origin method arguments fuel is are = subst (AreTasks g (made + 1) (ts ++ started g (made + 1) origin method arguments fuel ∷ [])) (sym is) (record {
  rows = map-append seen_row table.rows ((table.made + 1, started_row origin method arguments fuel) ∷ []) ∙ (λ j. are.rows j ++ seen_row (are.last j + 1, started_row origin method arguments fuel) ∷ []) ∙ sym (map-append seen ts (started g (made + 1) origin method arguments fuel ∷ []));
  last = ap (λ n. n + 1) are.last;
  runs = recorded-append g ts (started g (made + 1) origin method arguments fuel) are.runs refl;
  numbers = all-more (λ (t : Living). t.id ≤ made + 1) ts (started g (made + 1) origin method arguments fuel) (all-weaken (λ (t : Living). t.id ≤ made) (λ (t : Living). t.id ≤ made + 1) ts (λ t low. omega (arith, low)) are.numbers) (omega arith);
  idle = all-more IsIdle table.rows (table.made + 1, started_row origin method arguments fuel) are.idle (λ w. refl);
})

low-rows : (made : ℕ) (es : List (ℕ × TaskRow)) (ts : List Living) → map seen_row es ≡ map seen ts → AllOf (λ (t : Living). t.id ≤ made) ts → AllOf (λ (x : Seen). x.id ≤ made) (map seen_row es)
low-rows made es ts same all = subst (AllOf (λ (x : Seen). x.id ≤ made)) (sym same) (seen-low ts all)
  where
    seen-low : (ts : List Living) → AllOf (λ (t : Living). t.id ≤ made) ts → AllOf (λ (x : Seen). x.id ≤ made) (map seen ts)
    seen-low [] all = tt
    seen-low (t ∷ ts) all = (all.0, seen-low ts all.1)

found-last : (made : ℕ) (row : TaskRow) (es : List (ℕ × TaskRow)) → AllOf (λ (x : Seen). x.id ≤ made) (map seen_row es) → row_of (made + 1) (es ++ (made + 1, row) ∷ []) ≡ Some row
found-last made row [] all = ap (λ b. cond b (Some row) None) (nat_eq_equiv.refl (made + 1))
found-last made row (e ∷ es) all =
    elim (nat_eq (made + 1) e.0) as (λ b. nat_eq (made + 1) e.0 ≡ b → cond b (Some e.1) (row_of (made + 1) (es ++ (made + 1, row) ∷ [])) ≡ Some row) [
      | true ↦ λ here. let same : made + 1 ≡ e.0 = eqb-true (made + 1) e.0 here in let low : e.0 ≤ made = all.0 in absurd (omega (arith, same, low))
      | false ↦ λ apart. found-last made row es all.1
    ] refl

-- the row of the task that has just started
pub row-started : (g : Setting) (made : ℕ) (ts : List Living) (table : TaskTable) (row : TaskRow) → AreTasks g made ts table → row_of (table.made + 1) (with_started row table).rows ≡ Some row
row-started g made ts table row are =
    found-last table.made row table.rows (subst (λ (n : ℕ). AllOf (λ (x : Seen). x.id ≤ n) (map seen_row table.rows)) (sym are.last) (low-rows made table.rows ts are.rows are.numbers))

pub start-holds : (g : Setting) (method : ℕ) (arguments : List Value) (fuel : ℕ) → (start g method arguments fuel).held ≡ with_references [] (references_of arguments)
unfolding start
start-holds g method arguments fuel = refl

-- ---- a task that is answered

paid-held : (back : ℕ) (t : Task) → (pay back t).held ≡ t.held
paid-held back t = by t.fuel
  where
    by : (n : ℕ) → (pay_with n back t).held ≡ t.held
    by zero = refl
    by (suc left) = refl

pub answer-held : (g : Setting) (reply : Reply) (t : Task) → (answer g reply t).held ≡ with_references t.held (references_in (value_given reply))
unfolding answer
answer-held g (Gives value) t = ap (λ held. with_references held (references_in value)) (paid-held 0 t)
answer-held g (GivesBack value fuel) t = ap (λ held. with_references held (references_in value)) (paid-held fuel t)
answer-held g (Throws class) t = paid-held 0 t
answer-held g RunsOut t = paid-held 0 t

abbrev answered : Reply → Seen → Seen
answered reply x = record x { waits = false; held = with_references x.held (references_in (value_given reply)); past = with_entry x.steps x.waits reply x.past; steps = 0 }

seen-answered : (g : Setting) (reply : Reply) (t : Living) → seen (after_reply g reply t) ≡ answered reply (seen t)
seen-answered g reply t = λ j. record {
  id = t.id;
  origin = t.origin;
  waits = false;
  held = answer-held g reply t.task j;
  past = record { began = t.began; given = turned t.given ++ record { steps = t.steps; lent = t.waits; reply = reply } ∷ [] };
  steps = 0;
}

-- rows of which the first of an id waits
rows-answered : (id : ℕ) (reply : Reply) (es : List (ℕ × TaskRow)) → is_parked (row_of id es) ≡ true
    → map seen_row (at_row id (answered_row reply) es) ≡ at_first (λ (x : Seen). x.id == id) (answered reply) (map seen_row es)
rows-answered id reply [] waits = refl
rows-answered id reply (e ∷ es) waits =
    elim (nat_eq id e.0) as (λ b. nat_eq id e.0 ≡ b → is_parked (cond b (Some e.1) (row_of id es)) ≡ true
    → map seen_row (at_row id (answered_row reply) (e ∷ es)) ≡ at_first (λ (x : Seen). x.id == id) (answered reply) (seen_row e ∷ map seen_row es)) [
      | true ↦ λ here w. let mine = sym (nat_eq_equiv.symm id e.0) ∙ here in
          ap (λ b. map seen_row (cond b ((e.0, answered_row reply e.1) ∷ es) (e ∷ at_row id (answered_row reply) es))) mine
          ∙ (λ j. record { id = e.0; origin = e.1.origin; waits = false; held = with_references e.1.held (references_in (value_given reply)); past = with_entry e.1.steps (sym w j) reply e.1.past; steps = 0 } ∷ map seen_row es)
          ∙ sym (ap (λ b. cond b (answered reply (seen_row e) ∷ map seen_row es) (seen_row e ∷ at_first (λ (x : Seen). x.id == id) (answered reply) (map seen_row es))) mine)
      | false ↦ λ apart w. let other = sym (nat_eq_equiv.symm id e.0) ∙ apart in
          ap (λ b. map seen_row (cond b ((e.0, answered_row reply e.1) ∷ es) (e ∷ at_row id (answered_row reply) es))) other
          ∙ ap (λ xs. seen_row e ∷ xs) (rows-answered id reply es w)
          ∙ sym (ap (λ b. cond b (answered reply (seen_row e) ∷ map seen_row es) (seen_row e ∷ at_first (λ (x : Seen). x.id == id) (answered reply) (map seen_row es))) other)
    ] refl waits

tasks-answered : (g : Setting) (id : ℕ) (reply : Reply) (ts : List Living)
    → map seen (at_first (λ (t : Living). t.id == id) (after_reply g reply) ts) ≡ at_first (λ (x : Seen). x.id == id) (answered reply) (map seen ts)
tasks-answered g id reply [] = refl
tasks-answered g id reply (t ∷ ts) =
    elim (t.id == id) as (λ b. map seen (cond b (after_reply g reply t ∷ ts) (t ∷ at_first (λ (t : Living). t.id == id) (after_reply g reply) ts)) ≡ cond b (answered reply (seen t) ∷ map seen ts) (seen t ∷ at_first (λ (x : Seen). x.id == id) (answered reply) (map seen ts))) [
      | true ↦ ap (λ x. x ∷ map seen ts) (seen-answered g reply t)
      | false ↦ ap (λ xs. seen t ∷ xs) (tasks-answered g id reply ts)
    ]

recorded-answered : (g : Setting) (id : ℕ) (reply : Reply) (ts : List Living) → AreRecorded g ts → AreRecorded g (at_first (λ (t : Living). t.id == id) (after_reply g reply) ts)
unfolding steps
recorded-answered g id reply [] all = tt
recorded-answered g id reply (t ∷ ts) all =
    elim (t.id == id) as (λ b. AreRecorded g (cond b (after_reply g reply t ∷ ts) (t ∷ at_first (λ (t : Living). t.id == id) (after_reply g reply) ts))) [
      | true ↦ (ap (answer g reply) all.0, all.1)
      | false ↦ (all.0, recorded-answered g id reply ts all.1)
    ]

pub tasks-replied : (g : Setting) (made id : ℕ) (ts : List Living) (table new : TaskTable) (reply : Reply)
    → new ≡ record table { rows = at_row id (answered_row reply) table.rows } → is_parked (row_of id table.rows) ≡ true → AreTasks g made ts table
    → AreTasks g made (at_first (λ (t : Living). t.id == id) (after_reply g reply) ts) new
tasks-replied g made id ts table new reply is waits are = subst (AreTasks g made (at_first (λ (t : Living). t.id == id) (after_reply g reply) ts)) (sym is) (record {
  rows = rows-answered id reply table.rows waits ∙ ap (at_first (λ (x : Seen). x.id == id) (answered reply)) are.rows ∙ sym (tasks-answered g id reply ts);
  last = are.last;
  runs = recorded-answered g id reply ts are.runs;
  numbers = all-first (λ (t : Living). t.id ≤ made) (λ (t : Living). t.id == id) (after_reply g reply) ts (λ t low. low) are.numbers;
  idle = all-first IsIdle (λ (row : ℕ × TaskRow). row.0 == id) (λ (row : ℕ × TaskRow). (row.0, answered_row reply row.1)) table.rows (λ row _ w. absurd (false≢true w)) are.idle;
})

-- what is found of an id whose row has been changed
pub row-changed : (id : ℕ) (f : TaskRow → TaskRow) (es : List (ℕ × TaskRow)) → row_of id (at_row id f es) ≡ option_map f (row_of id es)
row-changed id f [] = refl
row-changed id f (e ∷ es) =
    elim (nat_eq id e.0) as (λ b. nat_eq id e.0 ≡ b → row_of id (at_row id f (e ∷ es)) ≡ option_map f (cond b (Some e.1) (row_of id es))) [
      | true ↦ λ here. ap (λ b. row_of id (cond b ((e.0, f e.1) ∷ es) (e ∷ at_row id f es))) (sym (nat_eq_equiv.symm id e.0) ∙ here) ∙ ap (λ b. cond b (Some (f e.1)) (row_of id es)) here
      | false ↦ λ apart. ap (λ b. row_of id (cond b ((e.0, f e.1) ∷ es) (e ∷ at_row id f es))) (sym (nat_eq_equiv.symm id e.0) ∙ apart) ∙ ap (λ b. cond b (Some e.1) (row_of id (at_row id f es))) apart ∙ row-changed id f es
    ] refl

-- what a task gains by a reply, as its rows before and after tell
pub gained-is : (g : Setting) (reply : Reply) (t : Task) (before after : List Ref) → before ≡ t.held → after ≡ with_references before (references_in (value_given reply))
    → gained t (answer g reply t) ≡ drop (length before) after
gained-is g reply t before after b a =
    ap (λ held. drop (length t.held) held) (answer-held g reply t) ∙ (λ j. drop (length (sym b j)) (with_references (sym b j) (references_in (value_given reply)))) ∙ ap (drop (length before)) (sym a)

-- ---- a task that ends

left-seen : (id : ℕ) (es : List (ℕ × TaskRow)) → map seen_row (without id es) ≡ filter (λ (x : Seen). not (x.id == id)) (map seen_row es)
left-seen id [] = refl
left-seen id (e ∷ es) =
    elim (e.0 == id) as (λ b. map seen_row (cond (not b) (e ∷ without id es) (without id es)) ≡ cond (not b) (seen_row e ∷ filter (λ (x : Seen). not (x.id == id)) (map seen_row es)) (filter (λ (x : Seen). not (x.id == id)) (map seen_row es))) [
      | true ↦ left-seen id es
      | false ↦ ap (λ xs. seen_row e ∷ xs) (left-seen id es)
    ]

left-tasks : (id : ℕ) (ts : List Living) → map seen (filter (λ (t : Living). not (t.id == id)) ts) ≡ filter (λ (x : Seen). not (x.id == id)) (map seen ts)
left-tasks id [] = refl
left-tasks id (t ∷ ts) =
    elim (t.id == id) as (λ b. map seen (cond (not b) (t ∷ filter (λ (t : Living). not (t.id == id)) ts) (filter (λ (t : Living). not (t.id == id)) ts)) ≡ cond (not b) (seen t ∷ filter (λ (x : Seen). not (x.id == id)) (map seen ts)) (filter (λ (x : Seen). not (x.id == id)) (map seen ts))) [
      | true ↦ left-tasks id ts
      | false ↦ ap (λ xs. seen t ∷ xs) (left-tasks id ts)
    ]

recorded-left : (g : Setting) (id : ℕ) (ts : List Living) → AreRecorded g ts → AreRecorded g (filter (λ (t : Living). not (t.id == id)) ts)
recorded-left g id [] all = tt
recorded-left g id (t ∷ ts) all =
    let rest = recorded-left g id ts all.1 in
    elim (t.id == id) as (λ b. AreRecorded g (cond (not b) (t ∷ filter (λ (t : Living). not (t.id == id)) ts) (filter (λ (t : Living). not (t.id == id)) ts))) [ true ↦ rest | false ↦ (all.0, rest) ]

pub tasks-ended : (g : Setting) (made id : ℕ) (ts : List Living) (table new : TaskTable) → new ≡ record table { rows = without id table.rows } → AreTasks g made ts table
    → AreTasks g made (filter (λ (t : Living). not (t.id == id)) ts) new
tasks-ended g made id ts table new is are = subst (AreTasks g made (filter (λ (t : Living). not (t.id == id)) ts)) (sym is) (record {
  rows = left-seen id table.rows ∙ ap (filter (λ (x : Seen). not (x.id == id))) are.rows ∙ sym (left-tasks id ts);
  last = are.last;
  runs = recorded-left g id ts are.runs;
  numbers = all-filter (λ (t : Living). t.id ≤ made) (λ (t : Living). not (t.id == id)) ts are.numbers;
  idle = all-filter IsIdle (λ (row : ℕ × TaskRow). not (row.0 == id)) table.rows are.idle;
})
