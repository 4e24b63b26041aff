-- Parked frames are one for each connection and number.
use mathlib.Core.Path.{sym, ap, subst, ◌∙◌}
use Rattle.std.proofs.Common.{arith, inl, inr}
use Rattle.std.proofs.lemmas.Bool.{true≢false, eqb-true, leb-false}
use Rattle.std.specs.Prelude.{◌≡◌, ◌⊎◌, refl, ℕ, ◌+◌, ◌≤◌, ◌<◌, ◌==◌, ◌&&◌, not, nat_le, is_some, is_none, Bool, true, false, List, [], ◌∷◌, ◌++◌, Option, None, Some, find}
use Rattle.sp_rules.specs.Classes.{Setting}
use Rattle.sp_rules.specs.Events.{Event}
use Rattle.sp_rules.specs.Frames.{is_call_frame}
use Rattle.sp_rules.specs.Laws.{AllOf}
use Rattle.sp_rules.specs.Lists.{total}
use Rattle.sp_rules.specs.Origins.{IsTaken}
use Rattle.sp_rules.specs.ParkedFrames.{is_parked_at, is_asked_on, is_unanswered_on, has_number}
use Rattle.sp_rules.specs.Space.{state_of}
use Rattle.sp_rules.specs.State.{State, Request, Stage, Waits, Out, Answered, Connection, ParkedFrame, connection_at}
use Rattle.sp_rules.proofs.AllLemmas.{found-is}
use Rattle.sp_rules.proofs.FuelSums.{total-snoc}
use Rattle.sp_rules.proofs.OwnLemmas.{some-same}
use Rattle.sp_laws.specs.Answered.{AreInPlace, CameOn, answers_of, results_of, is_answered_on}
use Rattle.sp_laws.specs.Inbound.{OpensOnce, CallsCameOnce, from_parked, occurrences_of}
use Rattle.sp_laws.specs.Waiting.{CallsWait, count, calls_numbered}
use Rattle.sp_laws.proofs.InboundLemmas.{calls_that_come_are_once}
use Rattle.sp_laws.proofs.PlaceEvents.{answers_are_parked}
use Rattle.sp_laws.proofs.WaitHistories.{waiting_tasks_have_one_call}
use Rattle.sp_order_laws.specs.Ends.{IsOneOf}

-- ---- sums

-- how many frames are parked under a connection and number
abbrev pub times_parked : ℕ → ℕ → List ParkedFrame → ℕ
times_parked conn k parked = total (λ (p : ParkedFrame). count (is_parked_at conn k p)) parked

count-true : (b : Bool) → 1 ≤ count b → b ≡ true
count-true true le = refl
count-true false le = absurd (omega (arith, le))

-- where a sum is not zero one of its terms is
some-term : {A : Type 0} (P : A → Type 0) (f : A → ℕ) (xs : List A) → AllOf P xs → 1 ≤ total f xs → (x : A) × (P x × (1 ≤ f x))
some-term P f [] a le = absurd (omega (arith, le))
some-term P f (x ∷ xs) a le = pick (nat_le 1 (f x)) refl (some-term P f xs a.1)
  where
    pick : (b : Bool) → nat_le 1 (f x) ≡ b → (1 ≤ total f xs → (y : _) × (P y × (1 ≤ f y))) → (y : _) × (P y × (1 ≤ f y))
    pick true e rest = (x, (a.0, Rattle.std.proofs.lemmas.Bool.leb-true 1 (f x) e))
    pick false e rest = let z : f x < 1 = leb-false 1 (f x) e in let w : f x + total f xs ≡ total f (x ∷ xs) = refl in rest (omega (arith, le))

there-counts : {A : Type 0} (is : A → Bool) (xs : List A) (p : A) → IsOneOf p xs → is p ≡ true → 1 ≤ total (λ y. count (is y)) xs
there-counts is [] p a e = absurd a
there-counts is (x ∷ xs) p (inl a) e = let x-one : count (is x) ≡ 1 = ap count (sym (ap is a) ∙ e) in omega arith
there-counts is (x ∷ xs) p (inr a) e = let rest : 1 ≤ total (λ y. count (is y)) xs = there-counts is xs p a e in omega arith

-- two that are counted where at most one is are one
pub only-one : {A : Type 0} (is : A → Bool) (xs : List A) (p q : A) → total (λ x. count (is x)) xs ≤ 1 → IsOneOf p xs → IsOneOf q xs → is p ≡ true → is q ≡ true → p ≡ q
only-one is [] p q le a b e f = absurd a
only-one is (x ∷ xs) p q le (inl a) (inl b) e f = a ∙ sym b
only-one is (x ∷ xs) p q le (inl a) (inr b) e f =
    let one : 1 ≤ total (λ y. count (is y)) xs = there-counts is xs q b f in
    let x-one : count (is x) ≡ 1 = ap count (sym (ap is a) ∙ e) in absurd (omega (arith, le))
only-one is (x ∷ xs) p q le (inr a) (inl b) e f =
    let one : 1 ≤ total (λ y. count (is y)) xs = there-counts is xs p a e in
    let x-one : count (is x) ≡ 1 = ap count (sym (ap is b) ∙ f) in absurd (omega (arith, le))
only-one is (x ∷ xs) p q le (inr a) (inr b) e f = only-one is xs p q (omega (arith, le)) a b e f

-- ---- calls and results

split-one : (c a : Bool) → count a ≡ count (c && a) + count (not c && a)
split-one true true = refl
split-one true false = refl
split-one false true = refl
split-one false false = refl

-- the frames under a connection and number are calls and results
split-all : (conn k : ℕ) (ps : List ParkedFrame) → times_parked conn k ps ≡ total (from_parked conn k) ps + results_of conn k ps
split-all conn k [] = refl
split-all conn k (p ∷ ps) =
    let a : count (is_parked_at conn k p) ≡ count (is_call_frame p.frame && is_parked_at conn k p) + count (not (is_call_frame p.frame) && is_parked_at conn k p) = split-one (is_call_frame p.frame) (is_parked_at conn k p) in
    let b : times_parked conn k ps ≡ total (from_parked conn k) ps + results_of conn k ps = split-all conn k ps in omega arith

-- of what is parked under a connection and number: it came there, as a call or as a result
record CameAs (s : State) (conn : ℕ) (dialled : Bool) : Type 0 where
  row : Connection
  there : connection_at s conn ≡ Some row
  end : is_some row.dialled ≡ dialled

left-true : (a b : Bool) → a && b ≡ true → a ≡ true
left-true true b e = refl
left-true false b e = absurd (true≢false (sym e))

right-true : (a b : Bool) → a && b ≡ true → b ≡ true
right-true true b e = e
right-true false b e = absurd (true≢false (sym e))

not-true : (b : Bool) → not b ≡ true → b ≡ false
not-true true e = absurd (true≢false (sym e))
not-true false e = refl

came-as : (s : State) (p : ParkedFrame) (conn : ℕ) (call : Bool) → p.conn ≡ conn → is_call_frame p.frame ≡ call → CameOn s.connections p → CameAs s conn (not call)
came-as s p conn call same is g = record { row = g.row; there = subst (λ n. find (λ (c : Connection). c.number == n) s.connections ≡ Some g.row) same g.found; end = g.end ∙ ap not is }

call-came : (s : State) (conn k : ℕ) → AllOf (CameOn s.connections) s.parked → 1 ≤ total (from_parked conn k) s.parked → CameAs s conn false
call-came s conn k a le =
    let x : (p : ParkedFrame) × (CameOn s.connections p × (1 ≤ from_parked conn k p)) = some-term (CameOn s.connections) (from_parked conn k) s.parked a le in
    let t : is_call_frame x.0.frame && (x.0.conn == conn && x.0.number == k) ≡ true = count-true _ x.1.1 in
    came-as s x.0 conn true (eqb-true x.0.conn conn (left-true (x.0.conn == conn) (x.0.number == k) (right-true (is_call_frame x.0.frame) _ t))) (left-true (is_call_frame x.0.frame) _ t) x.1.0

result-came : (s : State) (conn k : ℕ) → AllOf (CameOn s.connections) s.parked → 1 ≤ results_of conn k s.parked → CameAs s conn true
result-came s conn k a le =
    let x : (p : ParkedFrame) × (CameOn s.connections p × (1 ≤ count (not (is_call_frame p.frame) && is_parked_at conn k p))) = some-term (CameOn s.connections) (λ (p : ParkedFrame). count (not (is_call_frame p.frame) && is_parked_at conn k p)) s.parked a le in
    let t : not (is_call_frame x.0.frame) && (x.0.conn == conn && x.0.number == k) ≡ true = count-true _ x.1.1 in
    came-as s x.0 conn false (eqb-true x.0.conn conn (left-true (x.0.conn == conn) (x.0.number == k) (right-true (not (is_call_frame x.0.frame)) _ t))) (not-true (is_call_frame x.0.frame) (left-true (not (is_call_frame x.0.frame)) _ t)) x.1.0

not-both : (s : State) (conn : ℕ) → CameAs s conn false → CameAs s conn true → ⊥
not-both s conn a b = true≢false (sym b.end ∙ (ap (λ (c : Connection). is_some c.dialled) (some-same (sym b.there ∙ a.there)) ∙ a.end))

-- ---- the frames of a space

-- What is known of the parked frames of a space after a history.
pub record ParkedOnce (s : State) : Type 0 where
  pub places : AreInPlace s
  pub calls : CallsWait s
  pub came : CallsCameOnce s

pub parked-once : (g : Setting) (h : List Event) → IsTaken g h → OpensOnce h → ParkedOnce (state_of g h)
parked-once g h t o = record { places = answers_are_parked g h t; calls = waiting_tasks_have_one_call g h; came = calls_that_come_are_once g h o }

-- one frame at most is parked under a connection and number
pub each-once : {s : State} → ParkedOnce s → (conn k : ℕ) → times_parked conn k s.parked ≤ 1
each-once {s} h conn k =
    let a : times_parked conn k s.parked ≡ total (from_parked conn k) s.parked + results_of conn k s.parked = split-all conn k s.parked in
    let b : results_of conn k s.parked ≤ 1 = h.places.once conn k in
    let c : occurrences_of conn k s ≤ 1 = h.came.once conn k in
    by (nat_le 1 (total (from_parked conn k) s.parked)) refl (nat_le 1 (results_of conn k s.parked)) refl a b c
  where
    by : (x : Bool) → nat_le 1 (total (from_parked conn k) s.parked) ≡ x → (y : Bool) → nat_le 1 (results_of conn k s.parked) ≡ y
        → times_parked conn k s.parked ≡ total (from_parked conn k) s.parked + results_of conn k s.parked → results_of conn k s.parked ≤ 1 → occurrences_of conn k s ≤ 1 → times_parked conn k s.parked ≤ 1
    by true e true f a b c = absurd (not-both s conn (call-came s conn k h.places.parked (Rattle.std.proofs.lemmas.Bool.leb-true 1 _ e)) (result-came s conn k h.places.parked (Rattle.std.proofs.lemmas.Bool.leb-true 1 _ f)))
    by x e false f a b c = let z : results_of conn k s.parked < 1 = leb-false 1 (results_of conn k s.parked) f in omega (arith, a, b, c)
    by false e y f a b c = let z : total (from_parked conn k) s.parked < 1 = leb-false 1 (total (from_parked conn k) s.parked) e in omega (arith, a, b, c)

none-of : (n : ℕ) → (1 ≤ n → ⊥) → n ≡ 0
none-of n f = pick (nat_le 1 n) refl
  where
    pick : (b : Bool) → nat_le 1 n ≡ b → n ≡ 0
    pick true e = absurd (f (Rattle.std.proofs.lemmas.Bool.leb-true 1 n e))
    pick false e = let z : n < 1 = leb-false 1 n e in omega (arith, z)

-- a connection is the one of its number
own-number : (s : State) (conn : ℕ) (c : Connection) → connection_at s conn ≡ Some c → connection_at s c.number ≡ Some c
own-number s conn c e = subst (λ n. connection_at s n ≡ Some c) (sym (eqb-true c.number conn (found-is (λ (d : Connection). d.number == conn) s.connections c e))) e

-- nothing is parked under the number of a call that comes
pub none-before-call : {s : State} → ParkedOnce s → (conn k : ℕ) (c : Connection) → connection_at s conn ≡ Some c → is_some c.dialled ≡ false → nat_le k c.last ≡ false → times_parked c.number k s.parked ≡ 0
none-before-call {s} h conn k c e end above =
    let there : connection_at s c.number ≡ Some c = own-number s conn c e in
    let higher : c.last < k = leb-false k c.last above in
    let high : c.last + 1 ≤ k = omega arith in
    let a : times_parked c.number k s.parked ≡ total (from_parked c.number k) s.parked + results_of c.number k s.parked = split-all c.number k s.parked in
    let calls : occurrences_of c.number k s ≡ 0 = h.came.above c.number k c there high in
    let results : results_of c.number k s.parked ≡ 0 = none-of (results_of c.number k s.parked) (λ le. not-both s c.number (record { row = c; there = there; end = end }) (result-came s c.number k h.places.parked le)) in omega arith

-- one that is out has no answer
asked-apart : (conn k : ℕ) (q : Request) → count (is_asked_on conn k q) + count (is_answered_on conn q.stage && has_number k q.asked) ≤ count (has_number k q.asked)
asked-apart conn k q = by q.stage (has_number k q.asked)
  where
    both : (x : Bool) (b : Bool) → count (x && b) ≤ count b
    both true true = omega arith
    both true false = omega arith
    both false b = omega arith

    by : (s : Stage) (b : Bool) → count (is_unanswered_on conn s && b) + count (is_answered_on conn s && b) ≤ count b
    by Waits b = omega arith
    by (Out c n) b = let a : count ((c == conn) && b) ≤ count b = both (c == conn) b in omega arith
    by (Answered c) b = let a : count ((c == conn) && b) ≤ count b = both (c == conn) b in omega arith

asked-sum : (conn k : ℕ) (qs : List Request) → total (λ q. count (is_asked_on conn k q)) qs + answers_of conn k qs ≤ calls_numbered k qs
asked-sum conn k [] = omega arith
asked-sum conn k (q ∷ qs) =
    let a : count (is_asked_on conn k q) + count (is_answered_on conn q.stage && has_number k q.asked) ≤ count (has_number k q.asked) = asked-apart conn k q in
    let b : total (λ p. count (is_asked_on conn k p)) qs + answers_of conn k qs ≤ calls_numbered k qs = asked-sum conn k qs in omega arith

found-counts : {A : Type 0} (is : A → Bool) (xs : List A) (x : A) → find is xs ≡ Some x → 1 ≤ total (λ y. count (is y)) xs
found-counts is [] x e = absurd (Rattle.sp_rules.proofs.AllLemmas.some-none x (sym e))
found-counts is (y ∷ xs) x e = pick (is y) refl e (found-counts is xs x)
  where
    pick : (b : Bool) → is y ≡ b → Rattle.std.specs.Prelude.cond b (Some y) (find is xs) ≡ Some x → (find is xs ≡ Some x → 1 ≤ total (λ z. count (is z)) xs) → 1 ≤ count (is y) + total (λ z. count (is z)) xs
    pick true is-y f rest = let a : count (is y) ≡ 1 = ap count is-y in omega arith
    pick false is-y f rest = let a : 1 ≤ total (λ z. count (is z)) xs = rest f in omega arith

-- nor under that of a result that comes
pub none-before-result : {s : State} → ParkedOnce s → (conn k : ℕ) (c : Connection) (q : Request) → connection_at s conn ≡ Some c → is_some c.dialled ≡ true → find (is_asked_on c.number k) s.requests ≡ Some q → times_parked c.number k s.parked ≡ 0
none-before-result {s} h conn k c q e end found =
    let there : connection_at s c.number ≡ Some c = own-number s conn c e in
    let a : times_parked c.number k s.parked ≡ total (from_parked c.number k) s.parked + results_of c.number k s.parked = split-all c.number k s.parked in
    let one : 1 ≤ total (λ p. count (is_asked_on c.number k p)) s.requests = found-counts (is_asked_on c.number k) s.requests q found in
    let sum : total (λ p. count (is_asked_on c.number k p)) s.requests + answers_of c.number k s.requests ≤ calls_numbered k s.requests = asked-sum c.number k s.requests in
    let once : calls_numbered k s.requests ≤ 1 = h.calls.once k in
    let same : answers_of c.number k s.requests ≡ results_of c.number k s.parked = h.places.answered c.number k in
    let calls : total (from_parked c.number k) s.parked ≡ 0 = none-of (total (from_parked c.number k) s.parked) (λ le. not-both s c.number (call-came s c.number k h.places.parked le) (record { row = c; there = there; end = end })) in omega arith

-- one more frame, under a number that had none
pub more-once : (row : ParkedFrame) (ps : List ParkedFrame) → ((conn k : ℕ) → times_parked conn k ps ≤ 1) → times_parked row.conn row.number ps ≡ 0 → (conn k : ℕ) → times_parked conn k (ps ++ row ∷ []) ≤ 1
more-once row ps once none conn k = pick (is_parked_at conn k row) refl
  where
    pick : (b : Bool) → is_parked_at conn k row ≡ b → times_parked conn k (ps ++ row ∷ []) ≤ 1
    pick true e =
        let a : times_parked conn k (ps ++ row ∷ []) ≡ times_parked conn k ps + count (is_parked_at conn k row) = total-snoc (λ (p : ParkedFrame). count (is_parked_at conn k p)) ps row in
        let b : count (is_parked_at conn k row) ≡ 1 = ap count e in
        let c : row.conn ≡ conn = eqb-true row.conn conn (left-true (row.conn == conn) (row.number == k) e) in
        let d : row.number ≡ k = eqb-true row.number k (right-true (row.conn == conn) (row.number == k) e) in
        let z : times_parked conn k ps ≡ 0 = subst (λ n. times_parked n k ps ≡ 0) c (subst (λ n. times_parked row.conn n ps ≡ 0) d none) in omega arith
    pick false e =
        let a : times_parked conn k (ps ++ row ∷ []) ≡ times_parked conn k ps + count (is_parked_at conn k row) = total-snoc (λ (p : ParkedFrame). count (is_parked_at conn k p)) ps row in
        let b : count (is_parked_at conn k row) ≡ 0 = ap count e in
        let c : times_parked conn k ps ≤ 1 = once conn k in omega arith
