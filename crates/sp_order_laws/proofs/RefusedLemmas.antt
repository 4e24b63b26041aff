-- A call that is answered without a task that ends started none, through every event.
use mathlib.Core.Path.{sym, ap, subst, ◌∙◌}
use Rattle.std.proofs.Common.{arith, inl, inr}
use Rattle.std.proofs.lemmas.Bool.{true≢false, eq-eqb}
use Rattle.std.specs.List.{flat_map}
use Rattle.std.specs.Prelude.{◌≡◌, ◌≤◌, refl, ℕ, zero, suc, ◌+◌, ◌==◌, ◌&&◌, ◌||◌, not, nat_le, Bool, true, false, List, [], ◌∷◌, ◌++◌, Option, None, Some, filter, find, slice_get, if◌then◌else◌}
use Rattle.net_message.specs.declared.message.Message.TheVariants as message
use Rattle.net_message.specs.declared.message.Message.{Message}
use Rattle.sp_rules.specs.Classes.{Setting}
use Rattle.sp_rules.specs.Endings.{call_number_in}
use Rattle.sp_rules.specs.Events.{Event, Sweep, Received, Output, Send}
use Rattle.sp_rules.specs.Frames
use Rattle.sp_rules.specs.Laws.{AllOf, RisesWithin}
use Rattle.sp_rules.specs.Lists.{total}
use Rattle.sp_rules.specs.LivingTasks
use Rattle.sp_rules.specs.Origins.{IsTaken}
use Rattle.sp_rules.specs.ParkedFrames
use Rattle.sp_rules.specs.Space
use Rattle.sp_rules.specs.State as state
use Rattle.sp_rules.specs.State.{State, Living, Origin, OfRoot, OfCall, ParkedFrame, opening}
use Rattle.sp_rules.specs.Worlds.{World, Space, End, Dialler, Accepter, Pipe, side, other, WorldEvent, run, new_world}
use Rattle.sp_rules.proofs.FuelOfSpaces.{total-append}
use Rattle.sp_rules.proofs.FuelSums.{total-snoc, total-filter, total-find, value_in, found-value}
use Rattle.sp_rules.proofs.Stable.{new_row}
use Rattle.sp_laws.specs.Answers.{IsRefused}
use Rattle.sp_laws.specs.Changes.{IsOfSpace}
use Rattle.sp_laws.specs.Directions.{FramesGoTheirWay}
use Rattle.sp_laws.specs.Inbound.{from_origin, OpensOnce}
use Rattle.sp_laws.specs.Started.{IsStartedBy}
use Rattle.sp_laws.specs.Waiting.{count}
use Rattle.sp_laws.proofs.AnswerLemmas.{no-notes}
use Rattle.sp_laws.proofs.EventRules.{View, Flows, Begins, EventParts, IsFrom, is_finish, on_flow}
use Rattle.sp_laws.proofs.InboundLemmas.{first-same}
use Rattle.sp_order_laws.specs.Answering.{CallReply, answered_in, times, times_asked, parked_for, task_for}
use Rattle.sp_order_laws.specs.CallAnswers.{StartsNone, RefusedCallsStartNone}
use Rattle.sp_order_laws.specs.Delivered.{came_on, frame_of, sent_on, outputs_in, AreSomeOf, is_event_on, has_event_on, IsEnd, WhatComesWasSent}
use Rattle.sp_order_laws.specs.Ends.{IsOneOf}
use Rattle.sp_order_laws.specs.Rising.{SendsInOrder, NumbersRise}
use Rattle.sp_order_laws.proofs.AnsweringLaws.{value, Kept, on_kept, came-more}
use Rattle.sp_order_laws.proofs.AnsweringMoves.{noted, weight, every, owed_of}
use Rattle.sp_order_laws.proofs.NoteLemmas.{rises-first}
use Rattle.sp_order_laws.proofs.PlaceWorlds.{rises-once}
use Rattle.sp_order_laws.proofs.RisingLaws.{risen-of, never-opened}
use Rattle.sp_order_laws.proofs.WalkRules.{owed_by}
use Rattle.sp_order_laws.proofs.WelcomeLemmas.{one-total}
use Rattle.sp_order_laws.proofs.WorldFacts.{Known, all_known, at-all, some-rise}

-- ---- tasks and parked calls

-- the tasks that the call of a number from a connection started, and the parked calls of it
abbrev started : ℕ → ℕ → List Living → ℕ
started conn k ts = total (λ (t : Living). from_origin conn k t.origin) ts

abbrev parked : ℕ → ℕ → List ParkedFrame → ℕ
parked conn k ps = total (parked_for CallReply conn k) ps

-- An event that finishes no task ends none, and one that does starts and parks none.
record Moves (conn k t p : ℕ) (finish : Bool) (ts : List Living) (ps : List ParkedFrame) : Type 0 where
  rises : finish ≡ false → t ≤ started conn k ts
  falls : finish ≡ true → (started conn k ts ≤ t) × (parked conn k ps ≤ p)

abbrev view : Setting → Event → ℕ → ℕ → ℕ → ℕ → View
view g e conn k t p = record {
  setting = g;
  event = e;
  Dialled = λ c d. Unit {0};
  Answers = λ c m. Unit {0};
  Known = λ q. Unit {0};
  Fails = λ c. Unit {0};
  Ends = λ a r. Unit {0};
  Starts = λ o n a. Unit {0};
  Speaks = λ c version. Unit {0};
  Fits = λ c ids. Unit {0};
  Keeps = λ l s. Moves conn k t p (is_finish e) s.tasks s.parked;
}

all-unit : {A : Type 0} (xs : List A) → AllOf (λ (x : A). Unit {0}) xs
all-unit [] = tt
all-unit (x ∷ xs) = (tt, all-unit xs)

all-from : (g : Setting) (e : Event) (conn k t p : ℕ) (ts : List Living) → AllOf (λ (u : Living). IsFrom (view g e conn k t p) u.origin) ts
all-from g e conn k t p [] = tt
all-from g e conn k t p (u ∷ ts) = (one u.origin, all-from g e conn k t p ts)
  where
    one : (o : Origin) → IsFrom (view g e conn k t p) o
    one OfRoot = tt
    one (OfCall c n) = tt

-- the tasks are as many
same-tasks : {conn k t p : ℕ} {f : Bool} {ts us : List Living} {ps : List ParkedFrame} → started conn k us ≡ started conn k ts → Moves conn k t p f ts ps → Moves conn k t p f us ps
same-tasks {conn} {k} {t} {ts = ts} {us} e h = record {
  rises = λ f. let a : t ≤ started conn k ts = h.rises f in omega (arith, a, e);
  falls = λ f. let a = h.falls f in (let b : started conn k ts ≤ t = a.0 in omega (arith, b, e), a.1);
}

-- the parked calls are no more
fewer-frames : {conn k t p : ℕ} {f : Bool} {ts : List Living} {ps qs : List ParkedFrame} → parked conn k qs ≤ parked conn k ps → Moves conn k t p f ts ps → Moves conn k t p f ts qs
fewer-frames {conn} {k} {p = p} {ps = ps} le h = record {
  rises = h.rises;
  falls = λ f. let a = h.falls f in (a.0, let b : parked conn k ps ≤ p = a.1 in omega (arith, b, le));
}

result-none : (conn k : ℕ) (q : ParkedFrame) → Frames.is_call_frame q.frame ≡ false → parked_for CallReply conn k q ≡ 0
result-none conn k q is = ap (λ b. count (b && (q.conn == conn && q.number == k))) is

moves_flow : (g : Setting) (e : Event) (conn k t p : ℕ) → Flows (view g e conn k t p)
moves_flow g e conn k t p = record {
  known = λ l s h. all-unit s.parked;
  dialled = λ l s h. all-unit s.connections;
  origins = λ l s h. all-from g e conn k t p s.tasks;
  sided = λ q a. tt;
  fails = λ asked class a. tt;
  starts = λ l s q target method fuel arguments o n going h known is stands finds. tt;
  gives = λ q v fuel asked is a b c. tt;
  refuses = λ c n class is. tt;
  finds = λ c n name r is own. tt;
  speaks = λ c version. tt;
  fits = λ c ids. tt;
  quiet = λ l s u eq h. subst (λ (c : EventParts). Moves conn k t p (is_finish e) c.tasks c.parked) (sym eq) h;
  says = λ l s output is so h. h;
  sends = λ l s turn c m may held h. h;
  clears = λ s h. h;
  stores = λ l s store is h. h;
  adds = λ l s q h. h;
  calls_out = λ l s turn c peer n id lent kind m there h. h;
  looks_out = λ l s turn c peer n id name there h. h;
  tells = λ l s q call group eq h. h;
  told = λ l s peer call group h. h;
  unfresh = λ l s h. h;
  removes = λ l s is h. h;
  sorts = λ l s is rs h. h;
  removes_one = λ l s finds is n q eq passes has h. h;
  removes_told = λ l s dirty c sequence h. h;
  answers = λ l s c n h. h;
  begins = λ l s origin method arguments fuel going at h. record {
    rises = λ f. let a : t ≤ started conn k s.tasks = h.rises f in
        let b : started conn k (s.tasks ++ new_row g origin method arguments fuel s ∷ []) ≡ started conn k s.tasks + from_origin conn k origin = total-snoc (λ (u : Living). from_origin conn k u.origin) s.tasks (new_row g origin method arguments fuel s) in omega (arith, a, b);
    falls = λ f. absurd (true≢false (sym f ∙ going));
  };
  ends = λ l s id u over is h. record {
    rises = λ f. absurd (true≢false (sym over ∙ f));
    falls = λ f. let a = h.falls f in
        let b : started conn k (filter (λ (v : Living). not (v.id == id)) s.tasks) ≤ started conn k s.tasks = total-filter (λ (v : Living). from_origin conn k v.origin) (λ (v : Living). not (v.id == id)) s.tasks in
        let c : started conn k s.tasks ≤ t = a.0 in (omega (arith, b, c), a.1);
  };
  replies = λ l s peer number task lent kind m reply u may is h. same-tasks {ts = s.tasks} (first-same (λ (v : Living). from_origin conn k v.origin) (λ (v : Living). v.id == task) (LivingTasks.after_reply g reply) s.tasks (λ v. refl)) h;
  replies_none = λ l s peer number task lent kind m is h. h;
  looked_up = λ l s peer number task name reply may h. h;
  works = λ l s id u f lent row ready is h. same-tasks {ts = s.tasks} (first-same (λ (v : Living). from_origin conn k v.origin) (λ (v : Living). v.id == id) f s.tasks (λ v. ap (from_origin conn k) (row.origin v))) h;
  keeps = λ l s until v h. h;
  results_go = λ l s is goes h. h;
  falls = λ l s c n h. h;
  row = λ l s c f num last dialled h. h;
  counts = λ l s c n d there is low h. h;
  parks_call = λ l s q going known is h. record {
    rises = h.rises;
    falls = λ f. absurd (true≢false (sym f ∙ going));
  };
  parks_result = λ l s q known is h. fewer-frames {ps = s.parked} (
      let a : parked conn k (s.parked ++ q ∷ []) ≡ parked conn k s.parked + parked_for CallReply conn k q = total-snoc (parked_for CallReply conn k) s.parked q in
      let b : parked_for CallReply conn k q ≡ 0 = result-none conn k q is in omega (arith, a, b)) h;
  takes = λ l s q h. fewer-frames {ps = s.parked} (total-filter (parked_for CallReply conn k) (λ x. not (ParkedFrames.is_parked_at q.conn q.number x)) s.parked) h;
  takes_call = λ l s q x is call h. fewer-frames {ps = s.parked} (total-filter (parked_for CallReply conn k) (λ y. not (ParkedFrames.is_parked_at q.conn q.number y)) s.parked) h;
  closes = λ l s c why h. h;
}

moves-begin : (g : Setting) (s : State) (e : Event) (conn k t p : ℕ) → Begins (view g e conn k t p) s
moves-begin g s e conn k t p = record {
  opens = λ c dialled is h. h;
  parks = λ id n u target method arguments is ready stands h. same-tasks {ts = s.tasks} (first-same (λ (v : Living). from_origin conn k v.origin) (λ (v : Living). v.id == id) (LivingTasks.waiting n) s.tasks (λ v. refl)) h;
  looks = λ peer name is h. h;
  roots = λ method arguments fuel is. tt;
  unmarshal = λ is. tt;
  connect = λ is. tt;
  marshal = λ is. tt;
  threw = λ c n class is q found has. tt;
  spent = λ c n is q found has. tt;
  finished = λ id n u outcome c m is ready stands origin. tt;
  call_came = λ q target o method passed arguments is there stands may fit names. tt;
  result_came = λ q v fuel is frame there x found fits names. tt;
}

abbrev tasks_after : Setting → List Event → ℕ → ℕ → ℕ
tasks_after g h conn k = started conn k (Space.state_of g h).tasks

abbrev parked_after : Setting → List Event → ℕ → ℕ → ℕ
parked_after g h conn k = parked conn k (Space.state_of g h).parked

event-moves : (g : Setting) (h : List Event) (e : Event) (conn k : ℕ) → Moves conn k (tasks_after g h conn k) (parked_after g h conn k) (is_finish e) (Space.state_of g (e ∷ h)).tasks (Space.state_of g (e ∷ h)).parked
unfolding Space.state_of
event-moves g h e conn k = on_flow (moves_flow g e conn k (started conn k s.tasks) (parked conn k s.parked)) s (moves-begin g s e conn k (started conn k s.tasks) (parked conn k s.parked))
    (record { rises = λ f. omega arith; falls = λ f. (omega arith, omega arith) })
  where
    s : State
    s = Space.state_of g h

-- ---- answers

-- how often outputs answer the call of a number on a connection
abbrev answers : ℕ → ℕ → List Output → ℕ
answers conn k os = total (value CallReply conn k) os

abbrev owed : ℕ → ℕ → Event → ℕ
owed conn k e = owed_of CallReply conn k (owed_by e)

abbrev weighed : ℕ → ℕ → State → ℕ
weighed conn k s = total (weight CallReply conn k every) s.parked

abbrev tasked : ℕ → ℕ → State → ℕ
tasked conn k s = total (λ (u : Living). task_for CallReply conn k u.origin) s.tasks

-- An event answers no more than what it leaves parked and living less.
answering-step : FramesGoTheirWay → (g : Setting) (h : List Event) (e : Event) (conn k : ℕ) → IsTaken g (e ∷ h) → OpensOnce (e ∷ h)
    → answers conn k (Space.outputs_of g h e) + (parked_after g (e ∷ h) conn k + tasks_after g (e ∷ h) conn k) ≤ (parked_after g h conn k + tasks_after g h conn k) + owed_of CallReply conn k (owed_by e)
unfolding Space.state_of Space.outputs_of
answering-step ways g h e conn k taken once = by (on_kept g taken.0.0 CallReply conn k (total (value CallReply conn k) outs + (weighed conn k s + (tasked conn k s + owed conn k e))) outs s e taken.0.1 (λ n is. never-opened ways g h n (once.0 n is)) (risen-of ways g h taken.1 once.1) (record { holds = within }))
  where
    s : State
    s = Space.state_of g h

    outs : List Output
    outs = Space.all_outputs g h

    within : total (value CallReply conn k) outs + (total (noted CallReply conn k) s.notes + (weighed conn k s + (tasked conn k s + owed conn k e))) ≤ total (value CallReply conn k) outs + (weighed conn k s + (tasked conn k s + owed conn k e))
    within = let none : total (noted CallReply conn k) s.notes ≡ 0 = ap (total (noted CallReply conn k)) (no-notes g h) in omega (arith, none)

    by : Kept CallReply conn k (total (value CallReply conn k) (outs ++ (Space.on g e s).1)) (total (value CallReply conn k) outs + (weighed conn k s + (tasked conn k s + owed conn k e))) (Space.on g e s).0
        → answers conn k (Space.on g e s).1 + (parked conn k (Space.on g e s).0.parked + started conn k (Space.on g e s).0.tasks) ≤ (parked conn k s.parked + started conn k s.tasks) + owed conn k e
    by j =
        let a : total (value CallReply conn k) (outs ++ (Space.on g e s).1) + (total (noted CallReply conn k) (Space.on g e s).0.notes + (parked conn k (Space.on g e s).0.parked + (started conn k (Space.on g e s).0.tasks + 0)))
        ≤ total (value CallReply conn k) outs + (parked conn k s.parked + (started conn k s.tasks + owed conn k e)) = j.holds in
        let b : total (value CallReply conn k) (outs ++ (Space.on g e s).1) ≡ total (value CallReply conn k) outs + answers conn k (Space.on g e s).1 = total-append (value CallReply conn k) outs (Space.on g e s).1 in omega (arith, a, b)

-- ---- histories

difference : (a b : ℕ) → a ≤ b → (d : ℕ) × (a + d ≡ b)
difference zero b le = (b, omega arith)
difference (suc a) zero le = absurd (omega (arith, le))
difference (suc a) (suc b) le = let x = difference a b (omega (arith, le)) in (x.0, let e : a + x.0 ≡ b = x.1 in omega (arith, e))

-- The tasks that a call started and those answers to it that end none are together no more than the calls that came.
record Counted (g : Setting) (conn k : ℕ) (h : List Event) : Type 0 where
  past : ℕ
  refused : ℕ
  bound : refused + (past + (parked_after g h conn k + tasks_after g h conn k)) ≤ times_asked CallReply k (came_on conn h)
  lived : (later before : List Event) → later ++ before ≡ h → tasks_after g before conn k ≤ past + tasks_after g h conn k
  told : (later : List Event) (e : Event) (before : List Event) → later ++ e ∷ before ≡ h → is_finish e ≡ false → answers conn k (Space.outputs_of g before e) ≤ refused

tail_of : List Event → List Event
tail_of [] = []
tail_of (e ∷ h) = h

head_of : List Event → Event
head_of [] = Sweep
head_of (e ∷ h) = e

is_nil : List Event → Bool
is_nil [] = true
is_nil (e ∷ h) = false

none-yet : (g : Setting) (conn k : ℕ) → parked_after g [] conn k + tasks_after g [] conn k ≡ 0
unfolding Space.state_of opening
none-yet g conn k = refl

counted-none : (g : Setting) (conn k : ℕ) → Counted g conn k []
unfolding is_nil
counted-none g conn k = record {
  past = 0;
  refused = 0;
  bound = let none : parked_after g [] conn k + tasks_after g [] conn k ≡ 0 = none-yet g conn k in omega (arith, none);
  lived = lived;
  told = λ later e before same f. absurd (told later e before same);
}
  where
    lived : (later before : List Event) → later ++ before ≡ [] → tasks_after g before conn k ≤ 0 + tasks_after g [] conn k
    lived [] before same = let a : tasks_after g before conn k ≡ tasks_after g [] conn k = ap (λ (b : List Event). tasks_after g b conn k) same in omega (arith, a)
    lived (x ∷ later) before same = absurd (true≢false (sym (ap is_nil same)))

    told : (later : List Event) (e : Event) (before : List Event) → later ++ e ∷ before ≡ [] → ⊥
    told [] e before same = true≢false (sym (ap is_nil same))
    told (x ∷ later) e before same = true≢false (sym (ap is_nil same))

counted-more : FramesGoTheirWay → (g : Setting) (e : Event) (h : List Event) (conn k : ℕ) → IsTaken g (e ∷ h) → OpensOnce (e ∷ h) → Counted g conn k h → Counted g conn k (e ∷ h)
unfolding tail_of head_of
counted-more ways g e h conn k taken once c = by (is_finish e) refl
  where
    m : Moves conn k (tasks_after g h conn k) (parked_after g h conn k) (is_finish e) (Space.state_of g (e ∷ h)).tasks (Space.state_of g (e ∷ h)).parked
    m = event-moves g h e conn k

    step : answers conn k (Space.outputs_of g h e) + (parked_after g (e ∷ h) conn k + tasks_after g (e ∷ h) conn k) ≤ (parked_after g h conn k + tasks_after g h conn k) + owed_of CallReply conn k (owed_by e)
    step = answering-step ways g h e conn k taken once

    more : times_asked CallReply k (came_on conn (e ∷ h)) ≡ times_asked CallReply k (came_on conn h) + owed_of CallReply conn k (owed_by e)
    more = came-more CallReply conn k e h

    was : c.refused + (c.past + (parked_after g h conn k + tasks_after g h conn k)) ≤ times_asked CallReply k (came_on conn h)
    was = c.bound

    lives : (past : ℕ) → c.past + tasks_after g h conn k ≤ past + tasks_after g (e ∷ h) conn k → (later before : List Event) → later ++ before ≡ e ∷ h → tasks_after g before conn k ≤ past + tasks_after g (e ∷ h) conn k
    lives past up [] before same = let a : tasks_after g before conn k ≡ tasks_after g (e ∷ h) conn k = ap (λ (b : List Event). tasks_after g b conn k) same in omega (arith, a)
    lives past up (x ∷ later) before same = let a : tasks_after g before conn k ≤ c.past + tasks_after g h conn k = c.lived later before (ap tail_of same) in omega (arith, a, up)

    by : (f : Bool) → is_finish e ≡ f → Counted g conn k (e ∷ h)
    by false f = record {
      past = c.past;
      refused = c.refused + answers conn k (Space.outputs_of g h e);
      bound = omega (arith, step, more, was);
      lived = λ later before same. lives c.past (let a : tasks_after g h conn k ≤ tasks_after g (e ∷ h) conn k = m.rises f in omega (arith, a)) later before same;
      told = told;
    }
      where
        told : (later : List Event) (d : Event) (before : List Event) → later ++ d ∷ before ≡ e ∷ h → is_finish d ≡ false → answers conn k (Space.outputs_of g before d) ≤ c.refused + answers conn k (Space.outputs_of g h e)
        told [] d before same is =
            let a : answers conn k (Space.outputs_of g before d) ≡ answers conn k (Space.outputs_of g h e) = ap (λ (b : List Event). answers conn k (Space.outputs_of g b d)) (ap tail_of same) ∙ ap (λ x. answers conn k (Space.outputs_of g h x)) (ap head_of same) in omega (arith, a)
        told (x ∷ later) d before same is = let a : answers conn k (Space.outputs_of g before d) ≤ c.refused = c.told later d before (ap tail_of same) is in omega (arith, a)
    by true f =
        let fall = m.falls f in
        let low : parked_after g (e ∷ h) conn k ≤ parked_after g h conn k = fall.1 in
        let d = difference (tasks_after g (e ∷ h) conn k) (tasks_after g h conn k) fall.0 in
        let gone : tasks_after g (e ∷ h) conn k + d.0 ≡ tasks_after g h conn k = d.1 in
        record {
          past = c.past + d.0;
          refused = c.refused;
          bound = omega (arith, low, gone, more, was);
          lived = λ later before same. lives (c.past + d.0) (omega (arith, gone)) later before same;
          told = told;
        }
      where
        told : (later : List Event) (d : Event) (before : List Event) → later ++ d ∷ before ≡ e ∷ h → is_finish d ≡ false → answers conn k (Space.outputs_of g before d) ≤ c.refused
        told [] d before same is = absurd (true≢false (sym f ∙ (sym (ap is_finish (ap head_of same)) ∙ is)))
        told (x ∷ later) d before same is = c.told later d before (ap tail_of same) is

counted : FramesGoTheirWay → (g : Setting) (h : List Event) (conn k : ℕ) → IsTaken g h → OpensOnce h → Counted g conn k h
counted ways g [] conn k taken once = counted-none g conn k
counted ways g (e ∷ h) conn k taken once = counted-more ways g e h conn k taken once (counted ways g h conn k taken.1 once.1)

-- ---- a call that is refused

started-counts : (conn k id : ℕ) (s : State) → IsStartedBy conn k id s → 1 ≤ started conn k s.tasks
started-counts conn k id s x =
    let a : value_in (λ (u : Living). from_origin conn k u.origin) (find (λ (u : Living). u.id == id) s.tasks) + started conn k (filter (λ (u : Living). not (u.id == id)) s.tasks) ≤ started conn k s.tasks = total-find (λ (u : Living). from_origin conn k u.origin) (λ (u : Living). u.id == id) s.tasks in
    let b : value_in (λ (u : Living). from_origin conn k u.origin) (find (λ (u : Living). u.id == id) s.tasks) ≡ from_origin conn k x.task.origin = found-value (λ (u : Living). from_origin conn k u.origin) (find (λ (u : Living). u.id == id) s.tasks) x.task x.lives in
    let c : from_origin conn k x.task.origin ≡ 1 = ap (from_origin conn k) x.origin ∙ (ap (λ b. count (b && k == k)) (eq-eqb conn conn refl) ∙ ap count (eq-eqb k k refl)) in omega (arith, a, b, c)

answer-counts : (conn k : ℕ) (class : Rattle.space_ids.specs.declared.ids.ClassId.ClassId) (os : List Output) → IsOneOf (Send conn (message.Threw k class)) os → 1 ≤ answers conn k os
unfolding value
answer-counts conn k class os is =
    let a : value CallReply conn k (Send conn (message.Threw k class)) ≤ answers conn k os = one-total (value CallReply conn k) (Send conn (message.Threw k class)) os is in
    let b : value CallReply conn k (Send conn (message.Threw k class)) ≡ count (k == k) + 0 = ap (λ b. times k (flat_map (answered_in CallReply) (if b then message.Threw k class ∷ [] else []))) (eq-eqb conn conn refl) in
    let c : count (k == k) ≡ 1 = ap count (eq-eqb k k refl) in omega (arith, a, b, c)

space-goes : (e : Event) → IsOfSpace e → is_finish e ≡ false
space-goes (Rattle.sp_rules.specs.Events.Finished task k) is = absurd (Rattle.sp_rules.proofs.AllLemmas.some-none task is)
space-goes _ is = refl

refused-starts-none : FramesGoTheirWay → (g : Setting) (h : List Event) (conn : ℕ) (m : Message) → IsTaken g h → OpensOnce h → (later : List Event) (e : Event) (before : List Event) → later ++ e ∷ before ≡ h → IsOneOf (Send conn m) (Space.outputs_of g before e)
    → (r : IsRefused g e conn m) → times_asked CallReply r.number (came_on conn h) ≤ 1 → StartsNone g h conn r.number
refused-starts-none ways g h conn m taken once later e before same sent r asked more early id split x =
    let c : Counted g conn r.number h = counted ways g h conn r.number taken once in
    let a : 1 ≤ answers conn r.number (Space.outputs_of g before e) = answer-counts conn r.number r.class (Space.outputs_of g before e) (subst (λ n. IsOneOf (Send conn n) (Space.outputs_of g before e)) r.says sent) in
    let b : answers conn r.number (Space.outputs_of g before e) ≤ c.refused = c.told later e before same (space-goes e r.refusal.apart) in
    let d : 1 ≤ tasks_after g early conn r.number = started-counts conn r.number id (Space.state_of g early) x in
    let f : tasks_after g early conn r.number ≤ c.past + tasks_after g h conn r.number = c.lived more early split in
    let j : c.refused + (c.past + (parked_after g h conn r.number + tasks_after g h conn r.number)) ≤ times_asked CallReply r.number (came_on conn h) = c.bound in
    omega (arith, a, b, d, f, j, asked)

-- ---- worlds

none-came : (conn : ℕ) (h : List Event) → has_event_on conn h ≡ false → came_on conn h ≡ []
none-came conn [] e = refl
none-came conn (d ∷ h) e = by d (has_event_on conn h) refl e (none-came conn h)
  where
    left : (a b : Bool) → a || b ≡ false → a ≡ false
    left true b f = f
    left false b f = refl

    right : (a b : Bool) → a || b ≡ false → b ≡ false
    right true b f = absurd (true≢false f)
    right false b f = f

    of-event : (x : Event) → is_event_on conn x ≡ false → frame_of conn x ≡ []
    of-event (Received c n) f = pick (c == conn) f
      where
        pick : (b : Bool) → b ≡ false → (if b then n ∷ [] else []) ≡ []
        pick true g = absurd (true≢false g)
        pick false g = refl
    of-event _ f = refl

    by : (x : Event) (b : Bool) → has_event_on conn h ≡ b → is_event_on conn x || b ≡ false → (has_event_on conn h ≡ false → came_on conn h ≡ []) → came_on conn h ++ frame_of conn x ≡ []
    by x b same f rest = ap (λ (ms : List Message). ms ++ frame_of conn x) (rest (same ∙ right (is_event_on conn x) b f)) ∙ of-event x (left (is_event_on conn x) b f)

-- a call or lookup of a number comes to a space on a connection once
asked-once : FramesGoTheirWay → WhatComesWasSent → NumbersRise → (settings : List Setting) (events : List WorldEvent) (i conn k : ℕ) (s : Space) → slice_get (run (new_world settings) events).spaces i ≡ Some s → times_asked CallReply k (came_on conn s.history) ≤ 1
asked-once ways comes rise settings events i conn k s at = by (has_event_on conn s.history) refl
  where
    w : World
    w = run (new_world settings) events

    once : (top : ℕ) → RisesWithin 0 top (flat_map call_number_in (came_on conn s.history)) → times_asked CallReply k (came_on conn s.history) ≤ 1
    once top r = let a : times k (flat_map call_number_in (came_on conn s.history)) + count (nat_le k 0) ≤ 1 = rises-once k 0 top (flat_map call_number_in (came_on conn s.history)) r in omega (arith, a)

    some : (queue : List Message) (top : ℕ) (sent : List Message) → AreSomeOf (came_on conn s.history ++ queue) sent → RisesWithin 0 top (flat_map call_number_in sent) → times_asked CallReply k (came_on conn s.history) ≤ 1
    some queue top sent are r = once top (rises-first 0 top (flat_map call_number_in (came_on conn s.history)) (flat_map call_number_in queue)
        (subst (RisesWithin 0 top) (Rattle.sp_order_laws.proofs.NoteLemmas.flat-append call_number_in (came_on conn s.history) queue) (some-rise call_number_in 0 top (came_on conn s.history ++ queue) sent are r)))

    from : (p : Pipe) (end : End) → slice_get w.pipes conn ≡ Some p → (side end p).space ≡ i → times_asked CallReply k (came_on conn s.history) ≤ 1
    from p end is here = there (slice_get w.spaces (side (other end) p).space) refl
        ((comes settings events).brings conn p end is s (subst (λ n. slice_get w.spaces n ≡ Some s) (sym here) at))
      where
        there : (o : Option Space) → slice_get w.spaces (side (other end) p).space ≡ o → AreSomeOf (came_on conn s.history ++ (side end p).queue) (sent_on conn (outputs_in o)) → times_asked CallReply k (came_on conn s.history) ≤ 1
        there None same are = some (side end p).queue 0 [] are (omega arith)
        there (Some t) same are = some (side end p).queue t.state.calls_made (sent_on conn t.outputs) are (at-all SendsInOrder (side (other end) p).space w.spaces t same (rise settings events).sent conn).calls

    joined : (o : Option Pipe) → slice_get w.pipes conn ≡ o → IsEnd i o → times_asked CallReply k (came_on conn s.history) ≤ 1
    joined None is end = absurd end
    joined (Some p) is (inl here) = from p Dialler is here
    joined (Some p) is (inr here) = from p Accepter is here

    by : (b : Bool) → has_event_on conn s.history ≡ b → times_asked CallReply k (came_on conn s.history) ≤ 1
    by true e = joined (slice_get w.pipes conn) refl ((comes settings events).ends i conn s at e)
    by false e = let a : times_asked CallReply k (came_on conn s.history) ≡ 0 = ap (times_asked CallReply k) (none-came conn s.history e) in omega (arith, a)

pub refused_calls_start_none : FramesGoTheirWay → WhatComesWasSent → NumbersRise → RefusedCallsStartNone
refused_calls_start_none ways comes rise settings events i s later e before conn m at same sent r =
    let known : Known s = at-all Known i (run (new_world settings) events).spaces s at (all_known settings events) in
    refused-starts-none ways s.setting s.history conn m known.taken known.once later e before same sent r (asked-once ways comes rise settings events i conn r.number s at)
