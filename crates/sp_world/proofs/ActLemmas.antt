-- Worlds of the rules of spaces, as one space takes events one after the other.
use Rattle.std.proofs.Common.{◌≡◌, ◌∙◌, ℕ, zero, suc, ◌+◌, Bool, true, false, List, [], ◌∷◌, ◌++◌, Option, None, Some, refl, sym, ap, subst, length, cond, not, ltb}
use Rattle.std.specs.Prelude.{slice_get, if◌then◌else◌}
use Rattle.std.specs.List.{prefix_len}
use Rattle.std.specs.Str.{bytes_eq}
use Rattle.std.proofs.lemmas.Option.{none-some, same_Some}
use Rattle.uuid.specs.declared.Uuid.{Uuid}
use Rattle.sp_rules.specs.Classes.{Setting}
use Rattle.sp_rules.specs.Events.{Event, Output, Started, Ended, Withdrawn, Denied, Send, Dial, Close, Ready}
use Rattle.sp_rules.specs.Lists.{each, with_some, at_index}
use Rattle.sp_rules.specs.Refusals.{Refusal, NotLent, refusal}
use Rattle.sp_rules.specs.Space.{on}
use Rattle.sp_rules.specs.State.{Living, State, task_at}
use Rattle.sp_rules.specs.Worlds.{World, Space, grown, put, acts, take_event, lent_for, number_of, asks_for, step_task, step_events}
use Rattle.sp_world.specs.Residents.{grown_all}
use Rattle.sp_world.specs.Steps.{answers_to, refusal_of, events_of_step, step_at, step_refusal}

-- ---- rows

pub at-row : {A : Type 0} (f : A → A) (n : ℕ) (xs : List A) (x : A) → slice_get xs n ≡ Some x → slice_get (at_index f n xs) n ≡ Some (f x)
at-row f n [] x e = absurd (none-some x e)
at-row {A} f zero (y ∷ xs) x e = ap {A = A} {B = Option A} (λ z. Some (f z)) (same_Some y x e)
at-row f (suc n) (y ∷ xs) x e = at-row f n xs x e

at-id : {A : Type 0} (f : A → A) → ((x : A) → f x ≡ x) → (n : ℕ) (xs : List A) → at_index f n xs ≡ xs
at-id f k n [] = refl
at-id {A} f k zero (x ∷ xs) = ap {A = A} {B = List A} (λ y. y ∷ xs) (k x)
at-id {A} f k (suc n) (x ∷ xs) = ap (λ (l : List A). x ∷ l) (at-id f k n xs)

at-twice : {A : Type 0} (f g : A → A) (n : ℕ) (xs : List A) → at_index f n (at_index g n xs) ≡ at_index (λ x. f (g x)) n xs
at-twice f g n [] = refl
at-twice f g zero (x ∷ xs) = refl
at-twice {A} f g (suc n) (x ∷ xs) = ap (λ (l : List A). x ∷ l) (at-twice f g n xs)

length-at : {A : Type 0} (f : A → A) (n : ℕ) (xs : List A) → length (at_index f n xs) ≡ length xs
length-at f n [] = refl
length-at f zero (x ∷ xs) = refl
length-at f (suc n) (x ∷ xs) = ap suc (length-at f n xs)

each-append : {S A : Type 0} (f : S → A → S) (xs ys : List A) (s : S) → each f (xs ++ ys) s ≡ each f ys (each f xs s)
unfolding each
each-append f [] ys s = refl
each-append f (x ∷ xs) ys s = each-append f xs ys (f s x)

-- ---- a space grows, and its id stays

prefix-same : {A : Type 0} (q : A → Bool) (f : A → A) → ((x : A) → q (f x) ≡ q x) → (i : ℕ) (xs : List A) → prefix_len q (at_index f i xs) ≡ prefix_len q xs
prefix-same q f k i [] = refl
prefix-same q f k zero (x ∷ xs) = ap (λ (b : Bool). cond b (1 + prefix_len q xs) 0) (k x)
prefix-same q f k (suc i) (x ∷ xs) = ap (λ (n : ℕ). cond (q x) (1 + n) 0) (prefix-same q f k i xs)

abbrev other_id : Uuid → Space → Bool
other_id peer s = not (bytes_eq s.setting.id peer)

pub number-same : (f : Space → Space) → ((s : Space) → (f s).setting ≡ s.setting) → (i : ℕ) (spaces : List Space) (peer : Uuid) → number_of (at_index f i spaces) peer ≡ number_of spaces peer
number-same f k i spaces peer =
    ap (λ (a : ℕ). cond (ltb a (length (at_index f i spaces))) (Some a) None) (prefix-same (other_id peer) f (λ s. ap (λ (g : Setting). not (bytes_eq g.id peer)) (k s)) i spaces)
    ∙ ap (λ (n : ℕ). cond (ltb (prefix_len (other_id peer) spaces) n) (Some (prefix_len (other_id peer) spaces)) None) (length-at f i spaces)

-- a world after one of its spaces was changed
abbrev pub grow : (Space → Space) → ℕ → World → World
grow f i w = record w { spaces = at_index f i w.spaces }

asks-spaces : (i : ℕ) (o : Option ℕ) (w : World) → (asks_for i o w).spaces ≡ w.spaces
asks-spaces i None w = refl
asks-spaces i (Some j) w = refl

put-spaces : (i : ℕ) (w : World) (o : Output) → (put i w o).spaces ≡ w.spaces
put-spaces i w (Started task) = refl
put-spaces i w (Ended task outcome) = refl
put-spaces i w (Withdrawn ids) = refl
put-spaces i w (Denied why) = refl
put-spaces i w (Send conn m) = refl
put-spaces i w (Dial peer) = asks-spaces i (number_of w.spaces peer) w
put-spaces i w (Close conn) = refl
put-spaces i w (Ready task) = refl

pub puts-spaces : (i : ℕ) (os : List Output) (w : World) → (each (put i) os w).spaces ≡ w.spaces
unfolding each
puts-spaces i [] w = refl
puts-spaces i (o ∷ os) w = puts-spaces i os (put i w o) ∙ put-spaces i w o

asks-refused : (i : ℕ) (o : Option ℕ) (w : World) → (asks_for i o w).refused ≡ w.refused
asks-refused i None w = refl
asks-refused i (Some j) w = refl

put-refused : (i : ℕ) (w : World) (o : Output) → (put i w o).refused ≡ w.refused
put-refused i w (Started task) = refl
put-refused i w (Ended task outcome) = refl
put-refused i w (Withdrawn ids) = refl
put-refused i w (Denied why) = refl
put-refused i w (Send conn m) = refl
put-refused i w (Dial peer) = asks-refused i (number_of w.spaces peer) w
put-refused i w (Close conn) = refl
put-refused i w (Ready task) = refl

pub puts-refused : (i : ℕ) (os : List Output) (w : World) → (each (put i) os w).refused ≡ w.refused
unfolding each
puts-refused i [] w = refl
puts-refused i (o ∷ os) w = puts-refused i os (put i w o) ∙ put-refused i w o

asks-grow : (f : Space → Space) (i j : ℕ) (o : Option ℕ) (w : World) → asks_for j o (grow f i w) ≡ grow f i (asks_for j o w)
asks-grow f i j None w = refl
asks-grow f i j (Some n) w = refl

put-grow : (f : Space → Space) → ((s : Space) → (f s).setting ≡ s.setting) → (i j : ℕ) (w : World) (o : Output) → put j (grow f i w) o ≡ grow f i (put j w o)
put-grow f k i j w (Started task) = refl
put-grow f k i j w (Ended task outcome) = refl
put-grow f k i j w (Withdrawn ids) = refl
put-grow f k i j w (Denied why) = refl
put-grow f k i j w (Send conn m) = refl
put-grow f k i j w (Dial peer) = ap (λ (o : Option ℕ). asks_for j o (grow f i w)) (number-same f k i w.spaces peer) ∙ asks-grow f i j (number_of w.spaces peer) w
put-grow f k i j w (Close conn) = refl
put-grow f k i j w (Ready task) = refl

puts-grow : (f : Space → Space) → ((s : Space) → (f s).setting ≡ s.setting) → (i j : ℕ) (os : List Output) (w : World) → each (put j) os (grow f i w) ≡ grow f i (each (put j) os w)
unfolding each
puts-grow f k i j [] w = refl
puts-grow f k i j (o ∷ os) w = ap (each (put j) os) (put-grow f k i j w o) ∙ puts-grow f k i j os (put j w o)

pub grown-setting : (es : List Event) (s : Space) → (grown_all es s).setting ≡ s.setting
grown-setting [] s = refl
grown-setting (e ∷ es) s = grown-setting es (grown e s)

-- ---- events that a space takes

first-none : (x y : Option Refusal) → with_some x y (λ why. Some why) ≡ None → (x ≡ None) × (y ≡ None)
first-none None y e = (refl, e)
first-none (Some why) y e = absurd (none-some why (sym e))

-- what is asked of a space that is there
abbrev asked_of : World → ℕ → Event → List Event → World → Option Space → World
asked_of before i e es p o = with_some o before (λ s. with_some (refusal s.setting (lent_for e) s.state e) (acts before i es (take_event i e s p)) (λ why. record before { refused = Some why }))

next-there : (i : ℕ) (e : Event) (s : Space) (p : World) → slice_get p.spaces i ≡ Some s → slice_get (take_event i e s p).spaces i ≡ Some (grown e s)
unfolding take_event
next-there i e s p at = subst (λ (xs : List Space). slice_get xs i ≡ Some (grown e s)) (sym (puts-spaces i (on s.setting e s.state).1 (grow (grown e) i p))) (at-row (grown e) i p.spaces s at)

-- one event, and then others
took-more : (i : ℕ) (e : Event) (es : List Event) (s : Space) (p : World)
    → each (put i) (answers_to s.setting (on s.setting e s.state).0 es) (grow (grown_all es) i (take_event i e s p)) ≡ each (put i) (answers_to s.setting s.state (e ∷ es)) (grow (grown_all (e ∷ es)) i p)
unfolding take_event
took-more i e es s p =
    let outs : List Output = (on s.setting e s.state).1 in
    let rest : List Output = answers_to s.setting (on s.setting e s.state).0 es in
    ap (each (put i) rest)
    (sym (puts-grow (grown_all es) (grown-setting es) i i outs (grow (grown e) i p))
    ∙ ap (λ (xs : List Space). each (put i) outs (record p { spaces = xs })) (at-twice (grown_all es) (grown e) i p.spaces))
    ∙ sym (each-append (put i) outs rest (grow (grown_all (e ∷ es)) i p))

pub acts-taken : (before : World) (i : ℕ) (es : List Event) (p : World) (s : Space) → slice_get p.spaces i ≡ Some s → refusal_of s.setting s.state es ≡ None
    → acts before i es p ≡ each (put i) (answers_to s.setting s.state es) (grow (grown_all es) i p)
unfolding acts each
acts-taken before i [] p s at ok = ap (λ (xs : List Space). record p { spaces = xs }) (sym (at-id (grown_all []) (λ x. refl) i p.spaces))
acts-taken before i (e ∷ es) p s at ok =
    let q = first-none (refusal s.setting (lent_for e) s.state e) (refusal_of s.setting (on s.setting e s.state).0 es) ok in
    ap (asked_of before i e es p) at
    ∙ ap (λ x. with_some x (acts before i es (take_event i e s p)) (λ why. record before { refused = Some why })) q.0
    ∙ acts-taken before i es (take_event i e s p) (grown e s) (next-there i e s p at) q.1
    ∙ took-more i e es s p

pub acts-refused : (before : World) (i : ℕ) (es : List Event) (p : World) (s : Space) (why : Refusal) → slice_get p.spaces i ≡ Some s → refusal_of s.setting s.state es ≡ Some why
    → acts before i es p ≡ record before { refused = Some why }
unfolding acts
acts-refused before i [] p s why at refused = absurd (none-some why refused)
acts-refused before i (e ∷ es) p s why at refused =
    ap (asked_of before i e es p) at
    ∙ by (λ f. acts-refused before i es (take_event i e s p) (grown e s) why (next-there i e s p at) f) (refusal s.setting (lent_for e) s.state e) refused
  where
    by : (refusal_of s.setting (on s.setting e s.state).0 es ≡ Some why → acts before i es (take_event i e s p) ≡ record before { refused = Some why })
        → (x : Option Refusal) → with_some x (refusal_of s.setting (on s.setting e s.state).0 es) (λ r. Some r) ≡ Some why
        → with_some x (acts before i es (take_event i e s p)) (λ r. record before { refused = Some r }) ≡ record before { refused = Some why }
    by later None f = later f
    by later (Some r) f = ap (λ (x : Option Refusal). record before { refused = x }) f

pub acts-nowhere : (before : World) (i : ℕ) (e : Event) (es : List Event) (p : World) → slice_get p.spaces i ≡ None → acts before i (e ∷ es) p ≡ before
unfolding acts
acts-nowhere before i e es p none = ap (asked_of before i e es p) none

-- ---- steps

-- what a step is, by the task and the refusal
abbrev stepped : ℕ → ℕ → World → Option Living → World
stepped i id w o = with_some o (record w { refused = Some NotLent }) (λ (t : Living). if t.waits then record w { refused = Some NotLent } else acts w i (step_events id t.task) w)

abbrev refused_at : Setting → State → ℕ → Option Living → Option Refusal
refused_at g s id o = with_some o (Some NotLent) (λ (t : Living). if t.waits then Some NotLent else refusal_of g s (step_events id t.task))

step-is : (i id : ℕ) (w : World) (s : Space) → slice_get w.spaces i ≡ Some s → step_task i id w ≡ stepped i id w (task_at s.state id)
unfolding step_task
step-is i id w s at = ap (λ (o : Option Space). with_some o w (λ (x : Space). stepped i id w (task_at x.state id))) at

pub step-taken : (i id : ℕ) (w : World) (s : Space) → slice_get w.spaces i ≡ Some s → step_refusal s.setting s.state id ≡ None
    → (step_task i id w ≡ acts w i (step_at s.state id) w) × (refusal_of s.setting s.state (step_at s.state id) ≡ None)
step-taken i id w s at ok = let q = by (task_at s.state id) ok in (step-is i id w s at ∙ q.0, q.1)
  where
    ready : (es : List Event) (b : Bool) → (if b then Some NotLent else refusal_of s.setting s.state es) ≡ None
        → ((if b then record w { refused = Some NotLent } else acts w i es w) ≡ acts w i es w) × (refusal_of s.setting s.state es ≡ None)
    ready es true e = absurd (none-some NotLent (sym e))
    ready es false e = (refl, e)

    by : (o : Option Living) → refused_at s.setting s.state id o ≡ None → (stepped i id w o ≡ acts w i (events_of_step o id) w) × (refusal_of s.setting s.state (events_of_step o id) ≡ None)
    by None e = absurd (none-some NotLent (sym e))
    by (Some t) e = ready (step_events id t.task) t.waits e

pub step-refused : (i id : ℕ) (w : World) (s : Space) (why : Refusal) → slice_get w.spaces i ≡ Some s → step_refusal s.setting s.state id ≡ Some why
    → step_task i id w ≡ record w { refused = Some why }
step-refused i id w s why at refused = step-is i id w s at ∙ by (task_at s.state id) refused
  where
    ready : (es : List Event) (b : Bool) → (if b then Some NotLent else refusal_of s.setting s.state es) ≡ Some why
        → (if b then record w { refused = Some NotLent } else acts w i es w) ≡ record w { refused = Some why }
    ready es true e = ap (λ (x : Option Refusal). record w { refused = x }) e
    ready es false e = acts-refused w i es w s why at e

    by : (o : Option Living) → refused_at s.setting s.state id o ≡ Some why → stepped i id w o ≡ record w { refused = Some why }
    by None e = ap (λ (x : Option Refusal). record w { refused = x }) e
    by (Some t) e = ready (step_events id t.task) t.waits e

pub step-nowhere : (i id : ℕ) (w : World) → slice_get w.spaces i ≡ None → step_task i id w ≡ w
unfolding step_task
step-nowhere i id w none = ap (λ (o : Option Space). with_some o w (λ (x : Space). stepped i id w (task_at x.state id))) none
