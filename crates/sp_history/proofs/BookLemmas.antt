-- Entries from any state on, by the rules alone.
use Rattle.std.proofs.Common.{◌≡◌, ℕ, Bool, true, false, not, List, [], ◌∷◌, ◌++◌, map, reverse, if◌then◌else◌, sym, refl, ap, ◌∙◌, subst, append_assoc, append-nil}
use Rattle.std.proofs.lemmas.List.{reverse-append}
use Rattle.sp_rules.specs.Behaviours.{Op}
use Rattle.sp_rules.specs.Books.{Entry, AreTrueFrom, IsTrueEntry, book_outputs, book_run, event_of}
use Rattle.sp_rules.specs.Classes.{Setting}
use Rattle.sp_rules.specs.Events.{Event, Committed, GivenBack, Output}
use Rattle.sp_rules.specs.Space.{all_outputs, on, outputs_of, state_of}
use Rattle.sp_rules.specs.State.{State, opening}
use Rattle.sp_history.specs.Books.{Replays, answers_from, is_ready, run_from, told}

-- ---- one entry more

run_push : (g : Setting) (s : State) (es : List Entry) (e : Entry) → run_from g s (es ++ e ∷ []) ≡ (on g (event_of e) (run_from g s es)).0
unfolding run_from
run_push g s [] e = refl
run_push g s (x ∷ xs) e = run_push g (on g (event_of x) s).0 xs e

answers_push : (g : Setting) (s : State) (es : List Entry) (e : Entry) → answers_from g s (es ++ e ∷ []) ≡ answers_from g s es ++ (on g (event_of e) (run_from g s es)).1
unfolding run_from answers_from
answers_push g s [] e = append-nil (on g (event_of e) s).1
answers_push g s (x ∷ xs) e = ap (λ l. (on g (event_of x) s).1 ++ l) (answers_push g (on g (event_of x) s).0 xs e)
    ∙ sym (append_assoc (on g (event_of x) s).1 (answers_from g (on g (event_of x) s).0 xs) (on g (event_of e) (run_from g (on g (event_of x) s).0 xs)).1)

true_push : (g : Setting) (s : State) (es : List Entry) (e : Entry) → AreTrueFrom g s es → IsTrueEntry g (run_from g s es) e → AreTrueFrom g s (es ++ e ∷ [])
unfolding run_from
true_push g s [] e are is = (is, tt)
true_push g s (x ∷ xs) e are is = (are.0, true_push g (on g (event_of x) s).0 xs e are.1 is)

-- ---- entries, and then others

pub run_append : (g : Setting) (s : State) (es fs : List Entry) → run_from g s (es ++ fs) ≡ run_from g (run_from g s es) fs
unfolding run_from
run_append g s [] fs = refl
run_append g s (x ∷ xs) fs = run_append g (on g (event_of x) s).0 xs fs

answers_append : (g : Setting) (s : State) (es fs : List Entry) → answers_from g s (es ++ fs) ≡ answers_from g s es ++ answers_from g (run_from g s es) fs
unfolding run_from answers_from
answers_append g s [] fs = refl
answers_append g s (x ∷ xs) fs = ap (λ l. (on g (event_of x) s).1 ++ l) (answers_append g (on g (event_of x) s).0 xs fs)
    ∙ sym (append_assoc (on g (event_of x) s).1 (answers_from g (on g (event_of x) s).0 xs) (answers_from g (run_from g (on g (event_of x) s).0 xs) fs))

true_append : (g : Setting) (s : State) (es fs : List Entry) → AreTrueFrom g s es → AreTrueFrom g (run_from g s es) fs → AreTrueFrom g s (es ++ fs)
unfolding run_from
true_append g s [] fs are others = others
true_append g s (x ∷ xs) fs are others = (are.0, true_append g (on g (event_of x) s).0 xs fs are.1 others)

told_if : (b : Bool) (x : Output) (xs ys : List Output) → (if b then x ∷ (xs ++ ys) else xs ++ ys) ≡ (if b then x ∷ xs else xs) ++ ys
told_if true x xs ys = refl
told_if false x xs ys = refl

told_append : (xs ys : List Output) → told (xs ++ ys) ≡ told xs ++ told ys
told_append [] ys = refl
told_append (x ∷ xs) ys = ap (λ (l : List Output). if not (is_ready x) then x ∷ l else l) (told_append xs ys) ∙ told_if (not (is_ready x)) x (told xs) (told ys)

-- the state after one entry more, by any fact of it
pub runs_on : (Is : State → Type 0) (g : Setting) (s : State) (es : List Entry) (e : Entry) → Is (on g (event_of e) (run_from g s es)).0 → Is (run_from g s (es ++ e ∷ []))
runs_on Is g s es e is = subst Is (sym (run_push g s es e)) is

pub replays_on : (g : Setting) (s : State) (b : List Output) (es : List Entry) (w : List Output) (e : Entry) → Replays g s b es w → IsTrueEntry g (run_from g s es) e
    → Replays g s b (es ++ e ∷ []) (w ++ told (on g (event_of e) (run_from g s es)).1)
replays_on g s b es w e r is =
    let new = (on g (event_of e) (run_from g s es)).1 in
    record {
      replies = true_push g s es e r.replies is;
      waits = (
        r.waits.0,
        ap (λ l. b ++ told l) (answers_push g s es e) ∙ ap (λ l. b ++ l) (told_append (answers_from g s es) new)
            ∙ sym (append_assoc b (told (answers_from g s es)) (told new)) ∙ ap (λ l. l ++ told new) r.waits.1 ∙ append_assoc r.waits.0 w (told new),
      );
    }

-- what waits after entries, and then others, is an end of what all of them answer
pub replays_then : (g : Setting) (s : State) (b : List Output) (es fs : List Entry) (v w : List Output) → Replays g s b es v → Replays g (run_from g s es) v fs w → Replays g s b (es ++ fs) w
replays_then g s b es fs v w r q =
    let first = told (answers_from g s es) in
    let later = told (answers_from g (run_from g s es) fs) in
    record {
      replies = true_append g s es fs r.replies q.replies;
      waits = (
        r.waits.0 ++ q.waits.0,
        ap (λ l. b ++ told l) (answers_append g s es fs) ∙ ap (λ l. b ++ l) (told_append (answers_from g s es) (answers_from g (run_from g s es) fs))
            ∙ sym (append_assoc b first later) ∙ ap (λ l. l ++ later) r.waits.1 ∙ append_assoc r.waits.0 v later ∙ ap (λ l. r.waits.0 ++ l) q.waits.1
            ∙ sym (append_assoc r.waits.0 q.waits.0 w),
      );
    }

-- ---- no entry

pub runs_not : (Is : State → Type 0) (g : Setting) (s : State) → Is s → Is (run_from g s [])
unfolding run_from
runs_not Is g s is = is

-- what waited there waits
pub replays_not : (g : Setting) (s : State) (w : List Output) → Replays g s w [] w
unfolding answers_from
replays_not g s w = record { replies = tt; waits = ([], append-nil w) }

-- all that waited is taken
pub replays_taken : (g : Setting) (s : State) (b : List Output) (es : List Entry) (w : List Output) → Replays g s b es w → Replays g s b es []
replays_taken g s b es w r = record { replies = r.replies; waits = (b ++ told (answers_from g s es), sym (append-nil (b ++ told (answers_from g s es)))) }

-- what waited first is taken
pub replays_less : (g : Setting) (s : State) (b : List Output) (es : List Entry) (v w : List Output) → Replays g s b es (v ++ w) → Replays g s b es w
replays_less g s b es v w r = record { replies = r.replies; waits = (r.waits.0 ++ v, r.waits.1 ∙ sym (append_assoc r.waits.0 v w)) }

-- a commit answers nothing
pub commit_quiet : (g : Setting) (s : State) (task k : ℕ) (op : Op) → (on g (Committed task k op) s).1 ≡ []
unfolding on
commit_quiet g s task k op = refl

-- so does a task that is given back
pub give_back_quiet : (g : Setting) (s : State) (task k : ℕ) → (on g (GivenBack task k) s).1 ≡ []
unfolding on
give_back_quiet g s task k = refl

-- ---- from the first state

turn : (x : Event) (xs h : List Event) → reverse xs ++ x ∷ h ≡ reverse (x ∷ xs) ++ h
turn x xs h = sym (ap (λ l. l ++ h) (reverse-append (x ∷ []) xs) ∙ append_assoc (reverse xs) (x ∷ []) h)

run_after : (g : Setting) (h : List Event) (es : List Entry) → run_from g (state_of g h) es ≡ state_of g (reverse (map event_of es) ++ h)
unfolding run_from state_of
run_after g h [] = refl
run_after g h (e ∷ es) = run_after g (event_of e ∷ h) es ∙ ap (state_of g) (turn (event_of e) (map event_of es) h)

answers_after : (g : Setting) (h : List Event) (es : List Entry) → all_outputs g (reverse (map event_of es) ++ h) ≡ all_outputs g h ++ answers_from g (state_of g h) es
unfolding answers_from state_of outputs_of
answers_after g h [] = sym (append-nil (all_outputs g h))
answers_after g h (e ∷ es) =
    let next = event_of e in
    ap (all_outputs g) (sym (turn next (map event_of es) h)) ∙ answers_after g (next ∷ h) es
    ∙ append_assoc (all_outputs g h) (on g next (state_of g h)).1 (answers_from g (on g next (state_of g h)).0 es)

pub run_is : (g : Setting) (es : List Entry) → run_from g opening es ≡ book_run g es
unfolding book_run state_of
run_is g es = run_after g [] es ∙ ap (state_of g) (append-nil (reverse (map event_of es)))

pub answers_are : (g : Setting) (es : List Entry) → answers_from g opening es ≡ book_outputs g es
unfolding state_of
answers_are g es = sym (answers_after g [] es) ∙ ap (all_outputs g) (append-nil (reverse (map event_of es)))
