-- After every history each call that is asked is its task's, and what is parked fits what was asked and what was called.
use mathlib.Core.Path.{sym, ap, subst, ◌∙◌}
use Rattle.std.proofs.Common.{arith, inl, inr}
use Rattle.std.proofs.lemmas.Bool.{true≢false, eqb-true, eq-eqb}
use Rattle.std.specs.Prelude.{◌≡◌, ◌⊎◌, refl, ℕ, zero, suc, ◌+◌, ◌≤◌, ◌==◌, Bool, true, false, List, [], ◌∷◌, Option, None, Some}
use Rattle.net_message.specs.declared.message.Message.{Message}
use Rattle.space_ids.specs.declared.value.Value.{Value}
use Rattle.sp_rules.specs.Behaviours.{Call}
use Rattle.sp_rules.specs.Classes.{Setting, Kind}
use Rattle.sp_rules.specs.Events.{Event, Committed, Parked, GivenBack, Finished}
use Rattle.sp_rules.specs.Laws.{AllOf}
use Rattle.sp_rules.specs.LivingTasks
use Rattle.sp_rules.specs.ParkedFrames
use Rattle.sp_rules.specs.Runs.{AreRecorded, lent_if, recorded, replayed}
use Rattle.sp_rules.specs.Space
use Rattle.sp_rules.specs.State.{State, Living, Request, Asked, Calls, LooksUp, Tells, Frame, CallFrame, ReturnedFrame, opening, task_at, ready_at}
use Rattle.sp_rules.specs.Tasks.{Task, Stand, Runs, AsksFor, HasEnded, stand, step, steps}
use Rattle.sp_rules.proofs.AllLemmas.{all-found, all-weaken, some-none}
use Rattle.sp_rules.proofs.OwnLemmas.{fresh-of, some-same}
use Rattle.sp_rules.proofs.ReadyLemmas.{ready-is}
use Rattle.sp_rules.proofs.RecordLemmas.{on_recorded}
use Rattle.sp_laws.specs.Waiting.{count, call_of}
use Rattle.sp_laws.proofs.WaitHistories.{no-fresh, waits-of}
use Rattle.sp_laws.proofs.WaitLemmas.{asked_sum, flow_sum, waits_in, Waits, different}
use Rattle.sp_laws.proofs.EventRules.{on_flow, event_parts}
use Rattle.sp_laws.specs.Calls.{IsAtCall, point}
use Rattle.sp_laws.specs.Changes.{lent_task, when_parked, when_finished, lent_after, GoesOn, TasksGoOn}
use Rattle.sp_laws.proofs.CallEvents.{FitsAsked, FrameFits, Goes, IsAsked, IsKnown, IsNewCall, ResultFits, Was, call_flow, call-begin, call-start, was-all}
use Rattle.sp_laws.proofs.LentEvents.{idle_task_stays, lent_tasks_go_on, other_tasks_stay}
use Rattle.sp_laws.proofs.ObjectLemmas.{ObjectsGoOn, objects-go-on}
use Rattle.sp_laws.proofs.SpaceEvents.{AskedAs, Fitted, goes-after}

-- ---- the records of tasks

steps-more : (j k : ℕ) (t : Task) → steps k (steps j t) ≡ steps (j + k) t
unfolding steps
steps-more zero k t = let e : k ≡ 0 + k = omega arith in ap (λ n. steps n t) e
steps-more (suc j) k t = let e : suc j + k ≡ suc (j + k) = omega arith in steps-more j k (step t) ∙ sym (ap (λ n. steps n t) e)

one-recorded : (g : Setting) (ts : List Living) → AreRecorded g ts → AllOf (λ (t : Living). t.task ≡ recorded g t) ts
one-recorded g [] a = tt
one-recorded g (t ∷ ts) a = (a.0, one-recorded g ts a.1)

recorded-of : (g : Setting) (h : List Event) → AreRecorded g (Space.state_of g h).tasks
unfolding Space.state_of opening
recorded-of g [] = tt
recorded-of g (e ∷ h) = on_recorded g e (Space.state_of g h) (recorded-of g h)

-- A task stands at the point of its record; one that waits has lent its fuel there.
pub record-is : (g : Setting) (h : List Event) (id : ℕ) (t : Living) → task_at (Space.state_of g h) id ≡ Some t → t.task ≡ lent_if t.waits (point g t)
record-is g h id t is = all-found (λ (u : Living). u.task ≡ recorded g u) (λ (u : Living). u.id == id) (Space.state_of g h).tasks t is (one-recorded g (Space.state_of g h).tasks (recorded-of g h))

-- the point at which a ready task waits after more instructions
pub point-waiting : (g : Setting) (h : List Event) (id k : ℕ) (t : Living) → ready_at (Space.state_of g h) id ≡ Some t → point g (LivingTasks.waiting k t) ≡ steps k t.task
point-waiting g h id k t is =
    let both : (task_at (Space.state_of g h) id ≡ Some t) × (t.waits ≡ false) = ready-is (task_at (Space.state_of g h) id) t is in
    let here : t.task ≡ point g t = record-is g h id t both.0 ∙ ap (λ b. lent_if b (point g t)) both.1 in
    sym (steps-more t.steps k (replayed g t.began t.given)) ∙ sym (ap (steps k) here)

-- ---- a task that waits

-- It waited before the event, or the event parks its call.
pub record IsParkedNow (s : State) (e : Event) (id : ℕ) : Type 0 where
  pub made : ℕ
  pub is : e ≡ Parked id made
  pub row : Living
  pub ready : ready_at s id ≡ Some row

idle-waits : (t : Living) → t.waits ≡ false → t.waits ≡ true → ⊥
idle-waits t idle waits = true≢false (sym waits ∙ idle)

lent-waits : (g : Setting) (s : State) (e : Event) (id : ℕ) (row t : Living) → lent_task e ≡ Some id → ready_at s id ≡ Some row → row.waits ≡ false → lent_after g s e row ≡ Some t → t.waits ≡ true → IsParkedNow s e id
lent-waits g s (Committed task k op) id row t of ready idle is waits = absurd (true≢false (sym waits ∙ ap (λ (u : Living). u.waits) (sym (some-same is))))
lent-waits g s (Parked task k) id row t of ready idle is waits = record { made = k; is = ap (λ n. Parked n k) (some-same of); row = row; ready = ready }
lent-waits g s (GivenBack task k) id row t of ready idle is waits = absurd (idle-waits row idle (ap (λ (u : Living). u.waits) (some-same is) ∙ waits))
lent-waits g s (Finished task k) id row t of ready idle is waits = absurd (by (stand (steps k row.task)) is)
  where
    by : (at : Stand) → when_finished at row ≡ Some t → ⊥
    by Runs x = idle-waits row idle (ap (λ (u : Living). u.waits) (some-same x) ∙ waits)
    by (AsksFor op) x = idle-waits row idle (ap (λ (u : Living). u.waits) (some-same x) ∙ waits)
    by (HasEnded outcome) x = some-none t (sym x)
lent-waits g s _ id row t of ready idle is waits = absurd (some-none id (sym of))

waited : (g : Setting) (h : List Event) (e : Event) (id : ℕ) (t : Living) → Fitted g (Space.state_of g h) → task_at (Space.state_of g (e ∷ h)) id ≡ Some t → t.waits ≡ true → (task_at (Space.state_of g h) id ≡ Some t) ⊎ IsParkedNow (Space.state_of g h) e id
unfolding Space.state_of
waited g h e id t fitted is waits = by (lent_task e) refl
  where
    s : State
    s = Space.state_of g h

    goes : (before after : Option Living) → GoesOn g s e before after → task_at s id ≡ before → after ≡ Some t → task_at s id ≡ Some t
    goes None None x was now = absurd (some-none t (sym now))
    goes None (Some u) x was now = absurd (true≢false (sym waits ∙ ap (λ (v : Living). v.waits) (sym (some-same now)) ∙ x.ready))
    goes (Some b) None x was now = absurd x
    goes (Some b) (Some u) (inl same) was now = was ∙ ap Some (sym same) ∙ now
    goes (Some b) (Some u) (inr a) was now = absurd (true≢false (sym waits ∙ ap (λ (v : Living). v.waits) (sym (some-same now)) ∙ ap (λ (v : Living). v.waits) a.goes_on))

    mine : lent_task e ≡ Some id → (o : Option Living) → ready_at s id ≡ o → (task_at s id ≡ Some t) ⊎ IsParkedNow s e id
    mine of None ready = inl (sym (idle_task_stays g h e id of ready) ∙ is)
    mine of (Some row) ready = inr (lent-waits g s e id row t of ready (ready-is (task_at s id) row ready).1 (sym (lent_tasks_go_on g h e id row of ready) ∙ is) waits)

    at : (n : ℕ) (b : Bool) → (n == id) ≡ b → lent_task e ≡ Some n → (task_at s id ≡ Some t) ⊎ IsParkedNow s e id
    at n true x of = mine (of ∙ ap Some (eqb-true n id x)) (ready_at s id) refl
    at n false x of = inl (sym (other_tasks_stay g h e n id of (different n id x)) ∙ is)

    by : (o : Option ℕ) → lent_task e ≡ o → (task_at s id ≡ Some t) ⊎ IsParkedNow s e id
    by None of = inl (goes (task_at s id) (task_at (Space.on g e s).0 id) (goes-after g s e id of (no-fresh g h) (waits-of g h) (fresh-of g h) fitted) refl is)
    by (Some n) of = at n (n == id) refl of

-- ---- what is asked

was-counts : (w : Asked → ℕ) (rs : List Request) (asked : Asked) → Was rs asked → w asked ≤ asked_sum w rs
was-counts w [] asked was = absurd was
was-counts w (q ∷ rs) asked (inl same) = let a : w q.asked ≡ w asked = ap w same in omega (arith, a)
was-counts w (q ∷ rs) asked (inr was) = let a : w asked ≤ asked_sum w rs = was-counts w rs asked was in omega (arith, a)

-- a ready task has no call
none-asked : (s : State) (id number fuel : ℕ) (kind : Kind) (m : Message) (row : Living) → Waits [] s → ready_at s id ≡ Some row → Was s.requests (Calls number id fuel kind m) → ⊥
none-asked s id number fuel kind m row w ready was =
    let both : (task_at s id ≡ Some row) × (row.waits ≡ false) = ready-is (task_at s id) row ready in
    let a : flow_sum (call_of id) [] s ≡ 0 = w.tasks id ∙ ap waits_in both.0 ∙ ap count both.1 in
    let b : count (id == id) ≡ 1 = ap count (eq-eqb id id refl) in
    let c : call_of id (Calls number id fuel kind m) ≤ asked_sum (call_of id) s.requests = was-counts (call_of id) s.requests (Calls number id fuel kind m) was in
    omega (arith, a, b, c)

when-called : (k : ℕ) (at : Stand) (t : Living) {target : _} {method : ℕ} {arguments : List Value} → at ≡ AsksFor (Call target method arguments) → when_parked k at t ≡ LivingTasks.waiting k t
when-called k at t {target} {method} {arguments} is = ap (λ x. when_parked k x t) is

asked-after : (g : Setting) (h : List Event) (e : Event) → Fitted g (Space.state_of g h) → (asked : Asked) → IsAsked g (Space.state_of g h) e asked → AskedAs g (Space.state_of g (e ∷ h)).tasks asked
asked-after g h e fitted (LooksUp number task name) a = tt
asked-after g h e fitted (Tells call group) a = tt
asked-after g h e fitted (Calls number task fuel kind m) a = λ t is waits. by t is waits a (waited g h e task t fitted is waits)
  where
    s : State
    s = Space.state_of g h

    new : (t : Living) → task_at (Space.state_of g (e ∷ h)) task ≡ Some t → IsNewCall g s e task fuel kind → IsAtCall g (point g t) fuel kind
    new t is c =
        let after : task_at (Space.state_of g (e ∷ h)) task ≡ lent_after g s e c.row = lent_tasks_go_on g h e task c.row (ap lent_task c.is) c.ready in
        let parks : lent_after g s e c.row ≡ Some (LivingTasks.waiting c.made c.row) = ap (λ x. lent_after g s x c.row) c.is ∙ ap Some (when-called c.made (stand (steps c.made c.row.task)) c.row c.at.stands) in
        let same : t ≡ LivingTasks.waiting c.made c.row = some-same (sym is ∙ after ∙ parks) in
        subst (λ (x : Task). IsAtCall g x fuel kind) (sym (ap (point g) same ∙ point-waiting g h task c.made c.row c.ready)) c.at

    by : (t : Living) → task_at (Space.state_of g (e ∷ h)) task ≡ Some t → t.waits ≡ true → IsAsked g s e (Calls number task fuel kind m) → (task_at s task ≡ Some t) ⊎ IsParkedNow s e task → IsAtCall g (point g t) fuel kind
    by t is waits (inl was) (inl there) = was-all (AskedAs g s.tasks) s.requests (Calls number task fuel kind m) fitted.asked was t there waits
    by t is waits (inl was) (inr p) = absurd (none-asked s task number fuel kind m p.row (waits-of g h) p.ready was)
    by t is waits (inr c) x = new t is c.1

-- ---- what is parked

fits-after : (g : Setting) (s : State) (e : Event) (number : ℕ) (value : Option Value) (fuel : ℕ) → ResultFits g s number value fuel → (asked : Asked) → IsAsked g s e asked → ParkedFrames.has_number number asked ≡ true → FitsAsked g value fuel asked
fits-after g s e number value fuel r asked (inl was) has = was-all (λ a. ParkedFrames.has_number number a ≡ true → FitsAsked g value fuel a) s.requests asked r.fits was has
fits-after g s e number value fuel r (Calls n task lent kind m) (inr c) has = absurd (let a : n ≡ number = eqb-true n number has in let b : s.calls_made + 1 ≤ n = c.0 in let d : number ≤ s.calls_made = r.given in omega arith)
fits-after g s e number value fuel r (LooksUp n task name) (inr c) has = absurd (let a : n ≡ number = eqb-true n number has in let b : s.calls_made + 1 ≤ n = c in let d : number ≤ s.calls_made = r.given in omega arith)
fits-after g s e number value fuel r (Tells call group) (inr c) has = absurd (true≢false (sym has))

frame-after : (g : Setting) (s t : State) (e : Event) → ObjectsGoOn s t → Goes g s e [] (event_parts t) → (number : ℕ) (f : Frame) → FrameFits g s number f → FrameFits g t number f
frame-after g s t e objects goes number (CallFrame target method fuel arguments) a =
    let low : target.0 ≤ s.objects_made = a.made in
    let made : s.objects_made ≤ t.objects_made = objects.made in
    record { made = omega (arith, low, made); may = λ o is. a.may o (objects.from target o is low); fits = a.fits; remote = a.remote }
frame-after g s t e objects goes number (ReturnedFrame value fuel) a =
    let low : number ≤ s.calls_made = a.given in
    let made : s.calls_made ≤ t.calls_made = goes.given in
    record {
      given = omega (arith, low, made);
      fits = all-weaken (λ (q : Request). IsAsked g s e q.asked) (λ (q : Request). ParkedFrames.has_number number q.asked ≡ true → FitsAsked g value fuel q.asked) t.requests (λ q asked. fits-after g s e number value fuel a q.asked asked) goes.requests;
    }

-- ---- all histories

fitted-after : (g : Setting) (h : List Event) (e : Event) → Fitted g (Space.state_of g h) → Goes g (Space.state_of g h) e [] (event_parts (Space.state_of g (e ∷ h))) → ObjectsGoOn (Space.state_of g h) (Space.state_of g (e ∷ h)) → Fitted g (Space.state_of g (e ∷ h))
fitted-after g h e fitted goes objects = record {
  asked = all-weaken (λ (q : Request). IsAsked g (Space.state_of g h) e q.asked) (λ (q : Request). AskedAs g (Space.state_of g (e ∷ h)).tasks q.asked) (Space.state_of g (e ∷ h)).requests (λ q a. asked-after g h e fitted q.asked a) goes.requests;
  parked = all-weaken (IsKnown g (Space.state_of g h)) (IsKnown g (Space.state_of g (e ∷ h))) (Space.state_of g (e ∷ h)).parked (λ p a. frame-after g (Space.state_of g h) (Space.state_of g (e ∷ h)) e objects goes p.number p.frame a) goes.frames;
}

pub fitted-of : (g : Setting) (h : List Event) → Fitted g (Space.state_of g h)
unfolding Space.state_of opening
fitted-of g [] = record { asked = tt; parked = tt }
fitted-of g (e ∷ h) =
    let s : State = Space.state_of g h in
    fitted-after g h e (fitted-of g h)
    (on_flow (call_flow g s e) s (call-begin g s e (no-fresh g h) (waits-of g h) (fresh-of g h)) (call-start g s e (no-fresh g h) (waits-of g h) (fitted-of g h).parked)).1
    (objects-go-on g s e)

pub tasks_go_on : TasksGoOn
unfolding Space.state_of
tasks_go_on g h e id of = goes-after g (Space.state_of g h) e id of (no-fresh g h) (waits-of g h) (fresh-of g h) (fitted-of g h)
