-- The rows of living tasks stand in the entries of a book.
use mathlib.Core.Path.{sym, ap, subst, ◌∙◌}
use Rattle.std.proofs.Common.{append_assoc, append-nil, inl, inr}
use Rattle.std.proofs.lemmas.Bool.{true≢false, eqb-true, eq-eqb}
use Rattle.std.proofs.lemmas.List.{reverse-append, map-append}
use Rattle.std.specs.Prelude.{◌≡◌, ◌⊎◌, refl, ℕ, ◌==◌, ◌&&◌, not, Bool, true, false, List, [], ◌∷◌, ◌++◌, Option, None, Some, map, reverse, if◌then◌else◌}
use Rattle.sp_rules.specs.Books.{Entry, OnEvent, OnCommit, OnPark, OnGiveBack, OnFinish, AreTrueFrom, IsTrueEntry, book_run, event_of, history_of}
use Rattle.sp_rules.specs.Classes.{Setting}
use Rattle.sp_rules.specs.Events.{Event, Output, Started, Ended, Withdrawn, Denied, Send, Dial, Close, Ready, Committed, Parked, GivenBack, Finished}
use Rattle.sp_rules.specs.LivingTasks.{after_steps, after_reply}
use Rattle.sp_rules.specs.Space
use Rattle.sp_rules.specs.State.{State, Living, opening, task_at, ready_at, that_is_ready}
use Rattle.sp_rules.specs.Tasks.{Stand, Runs, AsksFor, HasEnded, stand, steps}
use Rattle.sp_rules.proofs.AllLemmas.{all-weaken, found-is, some-none}
use Rattle.sp_rules.proofs.BookLemmas.{books_grow}
use Rattle.sp_rules.proofs.OwnLemmas.{some-same}
use Rattle.sp_rules.proofs.ReadyLemmas.{ready-is}
use Rattle.sp_laws.proofs.WaitLemmas.{different}
use Rattle.sp_laws.specs.Changes.{lent_task, when_finished, lent_after, GoesOn, HasBegun}
use Rattle.sp_laws.proofs.FittedLemmas.{tasks_go_on}
use Rattle.sp_laws.proofs.LentEvents.{idle_task_stays, lent_tasks_go_on, other_tasks_stay}
use Rattle.sp_laws.specs.Ends.{EndsAsRun, EndsAreRuns}
use Rattle.sp_laws.specs.Rows.{is_at_work, Turns, Leads, IsWritten, RecordsAreEntries, EndsAsWritten, BooksEndAsWritten}

-- ---- an event of a lent task

-- the row of an id is of that task
row-is : (g : Setting) (h : List Event) (id : ℕ) (t : Living) → task_at (Space.state_of g h) id ≡ Some t → t.id ≡ id
row-is g h id t is = eqb-true t.id id (found-is (λ (u : Living). u.id == id) (Space.state_of g h).tasks t is)

-- one of another task is not at work
other-rests : (task : ℕ) (t : Living) → (task ≡ t.id → ⊥) → is_at_work task t ≡ false
other-rests task t apart = pick (t.id == task) refl
  where
    pick : (b : Bool) → (t.id == task) ≡ b → b && not t.waits ≡ false
    pick true e = absurd (apart (sym (eqb-true t.id task e)))
    pick false e = refl

-- one that waits is not at work
waiting-rests : (task : ℕ) (t : Living) → that_is_ready (Some t) ≡ None → is_at_work task t ≡ false
waiting-rests task t idle = pick t.waits refl (t.id == task)
  where
    pick : (b : Bool) → t.waits ≡ b → (c : Bool) → c && not t.waits ≡ false
    pick true e true = ap not e
    pick true e false = refl
    pick false e c = absurd (some-none t (sym (ap (λ (w : Bool). if◌then◌else◌ {A = Option Living} w None (Some t)) e) ∙ idle))

ready-works : (task : ℕ) (t : Living) → t.id ≡ task → t.waits ≡ false → is_at_work task t ≡ true
ready-works task t same ready = ap (λ b. b && not t.waits) (eq-eqb t.id task same) ∙ ap not ready

-- What an event of a lent task makes of a row that lives on: it is at work, and the event makes of it what it says, or it stays.
abbrev WorksOrRests : Setting → State → Event → ℕ → Living → Living → Type 0
WorksOrRests g s e task t u = ((is_at_work task t ≡ true) × (lent_after g s e t ≡ Some u)) ⊎ ((is_at_work task t ≡ false) × (u ≡ t))

lent-row : (g : Setting) (h : List Event) (e : Event) (task id : ℕ) (u : Living) → lent_task e ≡ Some task → task_at (Space.state_of g (e ∷ h)) id ≡ Some u
    → (t : Living) × ((task_at (Space.state_of g h) id ≡ Some t) × WorksOrRests g (Space.state_of g h) e task t u)
lent-row g h e task id u of is = by (task == id) refl
  where
    s : State
    s = Space.state_of g h

    found : (o : Option Living) → lent_task e ≡ Some id → task ≡ id → ready_at s id ≡ o → (t : Living) × ((task_at s id ≡ Some t) × WorksOrRests g s e task t u)
    found None here same ready =
        let was : task_at s id ≡ Some u = sym (idle_task_stays g h e id here ready) ∙ is in
        (u, (was, inr (waiting-rests task u (sym (ap that_is_ready was) ∙ ready), refl)))
    found (Some t) here same ready =
        let both : (task_at s id ≡ Some t) × (t.waits ≡ false) = ready-is (task_at s id) t ready in
        (t, (both.0, inl (ready-works task t (row-is g h id t both.0 ∙ sym same) both.1, sym (lent_tasks_go_on g h e id t here ready) ∙ is)))

    by : (b : Bool) → (task == id) ≡ b → (t : Living) × ((task_at s id ≡ Some t) × WorksOrRests g s e task t u)
    by true b =
        let same : task ≡ id = eqb-true task id b in
        found (ready_at s id) (of ∙ ap (λ (n : ℕ). Some n) same) same refl
    by false b =
        let apart : task ≡ id → ⊥ = different task id b in
        let was : task_at s id ≡ Some u = sym (other_tasks_stay g h e task id of apart) ∙ is in
        (u, (was, inr (other-rests task u (λ x. apart (x ∙ row-is g h id u was)), refl)))

-- ---- one entry

at-work : (x t u : Living) (b : Bool) → b ≡ true → u ≡ x → u ≡ (if b then x else t)
at-work x t u true e h = h
at-work x t u false e h = absurd (true≢false (sym e))

at-rest : (x t u : Living) (b : Bool) → b ≡ false → u ≡ t → u ≡ (if b then x else t)
at-rest x t u true e h = absurd (true≢false e)
at-rest x t u false e h = h

-- the row lived before the entry, and that turned it; or the entry began it
abbrev TurnsOrBegins : Setting → State → Entry → ℕ → Living → Type 0
TurnsOrBegins g s e id u = ((t : Living) × ((task_at s id ≡ Some t) × Turns g e t u)) ⊎ ((event : Event) × ((e ≡ OnEvent event) × HasBegun g s event u))

-- an entry of the space
space-entry : (g : Setting) (h : List Event) (event : Event) (id : ℕ) (u : Living) → task_at (Space.state_of g (event ∷ h)) id ≡ Some u → TurnsOrBegins g (Space.state_of g h) (OnEvent event) id u
space-entry g h event id u is = by (lent_task event) refl
  where
    s : State
    s = Space.state_of g h

    goes : lent_task event ≡ None → (o : Option Living) → task_at s id ≡ o → GoesOn g s event o (Some u) → TurnsOrBegins g s (OnEvent event) id u
    goes of None was x = inr (event, (refl, x))
    goes of (Some t) was x = inl (t, (was, λ y. x))

    by : (o : Option ℕ) → lent_task event ≡ o → TurnsOrBegins g s (OnEvent event) id u
    by None of = goes of (task_at s id) refl (subst (λ (o : Option Living). GoesOn g s event (task_at s id) o) is (tasks_go_on g h event id of))
    by (Some task) of =
        let row = lent-row g h event task id u of is in
        inl (row.0, (row.1.0, λ y. absurd (some-none task (sym of ∙ y))))

-- a finish leaves the row that lives on
stays : (at : Stand) (t u : Living) → when_finished at t ≡ Some u → u ≡ t
stays Runs t u e = sym (some-same e)
stays (AsksFor op) t u e = sym (some-same e)
stays (HasEnded outcome) t u e = absurd (some-none u (sym e))

entry-turns : (g : Setting) (h : List Event) (e : Entry) (id : ℕ) (u : Living) → IsTrueEntry g (Space.state_of g h) e → task_at (Space.state_of g (event_of e ∷ h)) id ≡ Some u → TurnsOrBegins g (Space.state_of g h) e id u
entry-turns g h (OnEvent event) id u right is = space-entry g h event id u is
entry-turns g h (OnCommit task k op reply) id u right is = let row = lent-row g h (Committed task k op) task id u refl is in inl (row.0, (row.1.0, turn row.0 row.1.1))
  where
    turn : (t : Living) → WorksOrRests g (Space.state_of g h) (Committed task k op) task t u → Turns g (OnCommit task k op reply) t u
    turn t (inl x) = at-work _ t u (is_at_work task t) x.0 (sym (some-same x.1) ∙ ap (λ r. after_reply g r (after_steps k t)) (sym right))
    turn t (inr x) = at-rest _ t u (is_at_work task t) x.0 x.1
entry-turns g h (OnPark task k op) id u right is = let row = lent-row g h (Parked task k) task id u refl is in inl (row.0, (row.1.0, turn row.0 row.1.1))
  where
    turn : (t : Living) → WorksOrRests g (Space.state_of g h) (Parked task k) task t u → Turns g (OnPark task k op) t u
    turn t (inl x) = at-work _ t u (is_at_work task t) x.0 (sym (some-same x.1))
    turn t (inr x) = at-rest _ t u (is_at_work task t) x.0 x.1
entry-turns g h (OnGiveBack task k) id u right is = let row = lent-row g h (GivenBack task k) task id u refl is in inl (row.0, (row.1.0, turn row.0 row.1.1))
  where
    turn : (t : Living) → WorksOrRests g (Space.state_of g h) (GivenBack task k) task t u → Turns g (OnGiveBack task k) t u
    turn t (inl x) = at-work _ t u (is_at_work task t) x.0 (sym (some-same x.1))
    turn t (inr x) = at-rest _ t u (is_at_work task t) x.0 x.1
entry-turns g h (OnFinish task k) id u right is = let row = lent-row g h (Finished task k) task id u refl is in inl (row.0, (row.1.0, turn row.0 row.1.1))
  where
    turn : (t : Living) → WorksOrRests g (Space.state_of g h) (Finished task k) task t u → Turns g (OnFinish task k) t u
    turn t (inl x) = stays (stand (steps k t.task)) t u x.1
    turn t (inr x) = x.1

-- ---- one entry more

grown : (es : List Entry) (e : Entry) → history_of (es ++ e ∷ []) ≡ event_of e ∷ history_of es
grown es e = ap (λ (ds : List Event). reverse ds) (map-append event_of es (e ∷ [])) ∙ reverse-append (map event_of es) (event_of e ∷ [])

leads-more : (g : Setting) (es : List Entry) (e : Entry) (first t u : Living) → Leads g es first t → Turns g e t u → Leads g (es ++ e ∷ []) first u
leads-more g [] e first t u same turns = (u, (subst (λ (x : Living). Turns g e x u) same turns, refl))
leads-more g (d ∷ es) e first t u leads turns = (leads.0, (leads.1.0, leads-more g es e leads.0 t u leads.1.1 turns))

abbrev AllWritten : Setting → List Entry → Type 0
AllWritten g es = (id : ℕ) (t : Living) → task_at (book_run g es) id ≡ Some t → IsWritten g es t

none-written : (g : Setting) → AllWritten g []
unfolding book_run Space.state_of opening
none-written g id t is = absurd (some-none t (sym is))

one-written : (g : Setting) (es : List Entry) (e : Entry) → AllWritten g es → IsTrueEntry g (book_run g es) e → AllWritten g (es ++ e ∷ [])
unfolding book_run
one-written g es e all right id u is = by (entry-turns g (history_of es) e id u right (subst (λ (h : List Event). task_at (Space.state_of g h) id ≡ Some u) (grown es e) is))
  where
    s : State
    s = Space.state_of g (history_of es)

    more : (t : Living) → t.id ≡ u.id → Turns g e t u → IsWritten g es t → IsWritten g (es ++ e ∷ []) u
    more t same turns w = record {
      before = w.before;
      event = w.event;
      after = w.after ++ e ∷ [];
      parts = ap (λ (ds : List Entry). ds ++ e ∷ []) w.parts ∙ append_assoc w.before (OnEvent w.event ∷ w.after) (e ∷ []);
      first = w.first;
      begins = w.begins;
      same = w.same ∙ same;
      leads = leads-more g w.after e w.first t u w.leads turns;
    }

    by : TurnsOrBegins g s e id u → IsWritten g (es ++ e ∷ []) u
    by (inl x) = more x.0 (row-is g (history_of es) id x.0 x.1.0 ∙ sym (row-is g (event_of e ∷ history_of es) id u (subst (λ (h : List Event). task_at (Space.state_of g h) id ≡ Some u) (grown es e) is))) x.1.1 (all id x.0 x.1.0)
    by (inr x) = record {
      before = es;
      event = x.0;
      after = [];
      parts = ap (λ (d : Entry). es ++ d ∷ []) x.1.0;
      first = u;
      begins = x.1.1;
      same = refl;
      leads = refl;
    }

-- ---- all entries

all-written : (g : Setting) (done rest : List Entry) → AllWritten g done → AreTrueFrom g (book_run g done) rest → AllWritten g (done ++ rest)
all-written g done [] all right = subst (AllWritten g) (sym (append-nil done)) all
all-written g done (e ∷ es) all right = subst (AllWritten g) (append_assoc done (e ∷ []) es)
    (all-written g (done ++ e ∷ []) es (one-written g done e all right.0) (subst (λ (s : State). AreTrueFrom g s es) (sym (books_grow g done e)) right.1))

pub records_are_entries : RecordsAreEntries
unfolding book_run Space.state_of
records_are_entries g entries id t right is = all-written g [] entries (none-written g) right id t is

pub books_end_as_written : EndsAreRuns → BooksEndAsWritten
unfolding book_run Space.outputs_of
books_end_as_written runs g entries e right = all-weaken (EndsAsRun g (history_of entries) (event_of e)) (EndsAsWritten g entries e) _ one (runs g (history_of entries) (event_of e))
  where
    one : (o : Output) → EndsAsRun g (history_of entries) (event_of e) o → EndsAsWritten g entries e o
    one (Ended id outcome) (inl run) = inl (run, records_are_entries g entries id run.task right (ready-is (task_at (Space.state_of g (history_of entries)) id) run.task run.ready).0)
    one (Ended id outcome) (inr x) = inr x
    one (Started task) x = tt
    one (Withdrawn ids) x = tt
    one (Denied why) x = tt
    one (Send conn m) x = tt
    one (Dial peer) x = tt
    one (Close conn) x = tt
    one (Ready task) x = tt
