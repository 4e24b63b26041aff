-- Connections and counts of answers, as rows come, change and go.
use mathlib.Core.Path.{sym, ap, subst, ◌∙◌}
use Rattle.std.proofs.Common.{arith}
use Rattle.std.proofs.lemmas.Bool.{true≢false, eq-eqb, eqb-true}
use Rattle.std.specs.Prelude.{◌≡◌, refl, ℕ, ◌+◌, ◌≤◌, ◌==◌, ◌&&◌, not, is_some, Bool, true, false, cond, List, [], ◌∷◌, ◌++◌, Option, None, Some, filter, find, map, if◌then◌else◌}
use Rattle.uuid.specs.declared.Uuid.{Uuid}
use Rattle.sp_rules.specs.Frames
use Rattle.sp_rules.specs.Frames.{is_call_frame}
use Rattle.sp_rules.specs.Laws.{AllOf}
use Rattle.sp_rules.specs.Lists.{at_first, total}
use Rattle.sp_rules.specs.ParkedFrames.{has_number, is_parked_at, is_asked_on, is_call_on, is_out_on, is_unanswered_on}
use Rattle.sp_rules.specs.State.{Request, Asked, Calls, LooksUp, Tells, Stage, Waits, Out, Answered, Connection, ParkedFrame, is_to}
use Rattle.sp_rules.proofs.AllLemmas.{some-none, all-weaken, all-filter, all-found}
use Rattle.sp_rules.proofs.LineLemmas.{AreNumbered}
use Rattle.sp_rules.proofs.OwnLemmas.{some-same}
use Rattle.sp_laws.specs.Answered.{numbered, IsDialledTo, IsGreeted, StandsOn, is_answered_on, answers_of, results_of}
use Rattle.sp_laws.specs.Waiting.{count, calls_numbered}
use Rattle.sp_laws.proofs.InboundLemmas.{counted-row, other-row, open-row}

-- ---- numbers

pub not-same : (a b : ℕ) → (a == b) ≡ false → a ≡ b → ⊥
not-same a b e f = true≢false (sym (eq-eqb a b f) ∙ e)

pub other-order : (a b : ℕ) → (a == b) ≡ false → (b == a) ≡ false
other-order a b e = pick (b == a) refl
  where
    pick : (x : Bool) → (b == a) ≡ x → x ≡ false
    pick true f = absurd (not-same a b e (sym (eqb-true b a f)))
    pick false f = refl

pub both-left : (a b : Bool) → a && b ≡ true → a ≡ true
both-left true b e = refl
both-left false b e = absurd (true≢false (sym e))

pub both-right : (a b : Bool) → a && b ≡ true → b ≡ true
both-right true b e = e
both-right false b e = absurd (true≢false (sym e))

-- a row that is found is changed, and keeps what is said of it
pub all-first-found : {A : Type 0} (P : A → Type 0) (is : A → Bool) (f : A → A) (xs : List A) (x : A) → find is xs ≡ Some x → P (f x) → AllOf P xs → AllOf P (at_first is f xs)
all-first-found P is f [] x e p a = tt
all-first-found {A} P is f (y ∷ xs) x e p a = pick (is y) e (λ k. all-first-found P is f xs x k p a.1)
  where
    pick : (b : Bool) → cond b (Some y) (find is xs) ≡ Some x → (find is xs ≡ Some x → AllOf P (at_first is f xs)) → AllOf P (if b then f y ∷ xs else y ∷ at_first is f xs)
    pick true k rest = (subst (λ z. P (f z)) (sym (some-same k)) p, a.1)
    pick false k rest = (a.0, rest k)

-- ---- connections

-- what is found is found by its number
pub by-number : (is : Connection → Bool) (cs : List Connection) (c : Connection) → AreNumbered cs → find is cs ≡ Some c → numbered cs c.number ≡ Some c
by-number is [] c a e = absurd (some-none c (sym e))
by-number is (d ∷ cs) c a e = pick (is d) e (by-number is cs c a.1)
  where
    here : (b : Bool) → b ≡ true → (x y : Option Connection) → cond b x y ≡ x
    here true f x y = refl
    here false f x y = absurd (true≢false (sym f))

    there : (b : Bool) → b ≡ false → (x y : Option Connection) → cond b x y ≡ y
    there true f x y = absurd (true≢false f)
    there false f x y = refl

    pick : (b : Bool) → cond b (Some d) (find is cs) ≡ Some c → (find is cs ≡ Some c → numbered cs c.number ≡ Some c) → numbered (d ∷ cs) c.number ≡ Some c
    pick true f rest = here (d.number == c.number) (eq-eqb d.number c.number (ap (λ (x : Connection). x.number) (some-same f))) (Some d) (numbered cs c.number) ∙ f
    pick false f rest = there (d.number == c.number) (other-order c.number d.number (all-found (λ (x : Connection). (x.number == d.number) ≡ false) is cs c f a.0)) (Some d) (numbered cs c.number) ∙ rest f

-- a connection more, if none is open of its number
pub number-more : (cs : List Connection) (row c : Connection) (conn : ℕ) → numbered cs conn ≡ Some c → numbered (cs ++ row ∷ []) conn ≡ Some c
number-more [] row c conn e = absurd (some-none c (sym e))
number-more (d ∷ cs) row c conn e = pick (d.number == conn) e (number-more cs row c conn)
  where
    pick : (b : Bool) → cond b (Some d) (numbered cs conn) ≡ Some c → (numbered cs conn ≡ Some c → numbered (cs ++ row ∷ []) conn ≡ Some c) → cond b (Some d) (numbered (cs ++ row ∷ []) conn) ≡ Some c
    pick true f rest = f
    pick false f rest = rest f

pub numbered-all : (cs : List Connection) (row : Connection) → AreNumbered cs → AllOf (λ (d : Connection). (d.number == row.number) ≡ false) cs → AreNumbered (cs ++ row ∷ [])
numbered-all [] row a e = (tt, tt)
numbered-all (d ∷ cs) row a e = (Rattle.sp_rules.proofs.AllLemmas.all-more (λ (x : Connection). (x.number == d.number) ≡ false) cs row a.0 (other-order d.number row.number e.0), numbered-all cs row a.1 e.1)

-- A row that is changed keeps its number and whom this space dialled, and a Hello that came.
pub record IsKeptRow (f : Connection → Connection) : Type 0 where
  pub number : (c : Connection) → (f c).number ≡ c.number
  pub dialled : (c : Connection) → (f c).dialled ≡ c.dialled
  pub greeted : (c : Connection) → is_some c.peer ≡ true → is_some (f c).peer ≡ true

-- the row of a number after one was changed
pub record IsRowAfter (cs : List Connection) (conn : ℕ) (c : Connection) : Type 0 where
  pub row : Connection
  pub found : numbered cs conn ≡ Some row
  pub dialled : row.dialled ≡ c.dialled
  pub greeted : is_some c.peer ≡ true → is_some row.peer ≡ true

pub row-after : (at : ℕ) (f : Connection → Connection) → IsKeptRow f → (cs : List Connection) (conn : ℕ) (c : Connection) → numbered cs conn ≡ Some c → IsRowAfter (at_first (λ (d : Connection). d.number == at) f cs) conn c
row-after at f k cs conn c e = pick (at == conn) refl
  where
    pick : (b : Bool) → (at == conn) ≡ b → IsRowAfter (at_first (λ (d : Connection). d.number == at) f cs) conn c
    pick true s = record {
      row = f c;
      found = subst (λ n. numbered (at_first (λ (d : Connection). d.number == n) f cs) conn ≡ Some (f c)) (sym (eqb-true at conn s)) (counted-row conn f k.number cs c e);
      dialled = k.dialled c;
      greeted = k.greeted c;
    }
    pick false s = record { row = c; found = other-row conn at (not-same at conn s) f k.number cs ∙ e; dialled = refl; greeted = λ g. g }

-- What is known of connections stays known.
pub record StillThere (cs ds : List Connection) (skip : ℕ → Bool) : Type 0 where
  pub still : (conn : ℕ) (c : Connection) → skip conn ≡ false → numbered cs conn ≡ Some c → IsRowAfter ds conn c

pub still-dialled : (cs ds : List Connection) (skip : ℕ → Bool) → StillThere cs ds skip → (conn : ℕ) (peer : Uuid) → skip conn ≡ false → IsDialledTo cs conn peer → IsDialledTo ds conn peer
still-dialled cs ds skip k conn peer s d = let r : IsRowAfter ds conn d.row = k.still conn d.row s d.found in record {
  row = r.row;
  found = r.found;
  dialled = ap (is_to peer) r.dialled ∙ d.dialled;
  greeted = r.greeted d.greeted;
}

pub still-greeted : (cs ds : List Connection) (skip : ℕ → Bool) → StillThere cs ds skip → (conn : ℕ) (dialled : Bool) → skip conn ≡ false → IsGreeted cs conn dialled → IsGreeted ds conn dialled
still-greeted cs ds skip k conn dialled s d = let r : IsRowAfter ds conn d.row = k.still conn d.row s d.found in record {
  row = r.row;
  found = r.found;
  end = ap is_some r.dialled ∙ d.end;
  greeted = r.greeted d.greeted;
}

abbrev pub none : ℕ → Bool
none conn = false

pub still-stands : (cs ds : List Connection) → StillThere cs ds none → (peer : Uuid) (stage : Stage) → StandsOn cs peer stage → StandsOn ds peer stage
still-stands cs ds k peer Waits h = tt
still-stands cs ds k peer (Out conn sequence) h = still-dialled cs ds none k conn peer refl h
still-stands cs ds k peer (Answered conn) h = still-dialled cs ds none k conn peer refl h

pub still-row : (at : ℕ) (f : Connection → Connection) → IsKeptRow f → (cs : List Connection) → StillThere cs (at_first (λ (d : Connection). d.number == at) f cs) none
still-row at f k cs = record { still = λ conn c s e. row-after at f k cs conn c e }

pub still-more : (cs : List Connection) (row : Connection) → StillThere cs (cs ++ row ∷ []) none
still-more cs row = record { still = λ conn c s e. record { row = c; found = number-more cs row c conn e; dialled = refl; greeted = λ g. g } }

pub still-less : (at : ℕ) (cs : List Connection) → StillThere cs (filter (λ (d : Connection). not (d.number == at)) cs) (λ conn. at == conn)
still-less at cs = record { still = λ conn c s e. record { row = c; found = open-row conn at (not-same at conn s) cs ∙ e; dialled = refl; greeted = λ g. g } }

-- this space dialled a connection or did not
pub no-both : {cs : List Connection} {conn : ℕ} {peer : Uuid} → IsDialledTo cs conn peer → IsGreeted cs conn false → ⊥
no-both {cs} {conn} {peer} d g = true≢false (sym (to-some (d.row.dialled) d.dialled) ∙ (ap (λ (x : Connection). is_some x.dialled) (some-same (sym d.found ∙ g.found)) ∙ g.end))
  where
    to-some : (o : Option Uuid) → is_to peer o ≡ true → is_some o ≡ true
    to-some None e = absurd (true≢false (sym e))
    to-some (Some p) e = refl

-- ---- counts

pub total-none : {A : Type 0} (f : A → ℕ) (xs : List A) → AllOf (λ x. f x ≡ 0) xs → total f xs ≡ 0
total-none f [] a = refl
total-none f (x ∷ xs) a = let e : f x ≡ 0 = a.0 in let r : total f xs ≡ 0 = total-none f xs a.1 in omega arith

pub total-less : {A : Type 0} (f g : A → ℕ) (xs : List A) → ((x : A) → f x ≤ g x) → total f xs ≤ total g xs
total-less f g [] le = omega arith
total-less f g (x ∷ xs) le = let a : f x ≤ g x = le x in let b : total f xs ≤ total g xs = total-less f g xs le in omega arith

-- what does not count may go
pub total-kept : {A : Type 0} (f : A → ℕ) (is : A → Bool) (xs : List A) → ((x : A) → is x ≡ true → f x ≡ 0) → total f (filter (λ x. not (is x)) xs) ≡ total f xs
total-kept f is [] z = refl
total-kept {A} f is (x ∷ xs) z = pick (is x) refl (total-kept f is xs z)
  where
    pick : (b : Bool) → is x ≡ b → total f (filter (λ y. not (is y)) xs) ≡ total f xs → total f (cond (not b) (x ∷ filter (λ y. not (is y)) xs) (filter (λ y. not (is y)) xs)) ≡ f x + total f xs
    pick true e r = let a : f x ≡ 0 = z x e in omega arith
    pick false e r = omega arith

-- what goes is all that counts
pub total-left : {A : Type 0} (f : A → ℕ) (is : A → Bool) (xs : List A) → ((x : A) → is x ≡ false → f x ≡ 0) → total f (filter (λ x. not (is x)) xs) ≡ 0
total-left f is [] z = refl
total-left {A} f is (x ∷ xs) z = pick (is x) refl (total-left f is xs z)
  where
    pick : (b : Bool) → is x ≡ b → total f (filter (λ y. not (is y)) xs) ≡ 0 → total f (cond (not b) (x ∷ filter (λ y. not (is y)) xs) (filter (λ y. not (is y)) xs)) ≡ 0
    pick true e r = r
    pick false e r = let a : f x ≡ 0 = z x e in omega arith

pub total-found : {A : Type 0} (is : A → Bool) (xs : List A) (x : A) → find is xs ≡ Some x → 1 ≤ total (λ y. count (is y)) xs
total-found is [] x e = absurd (some-none x (sym e))
total-found {A} is (y ∷ xs) x e = pick (is y) e (total-found is xs x)
  where
    pick : (b : Bool) → cond b (Some y) (find is xs) ≡ Some x → (find is xs ≡ Some x → 1 ≤ total (λ z. count (is z)) xs) → 1 ≤ count b + total (λ z. count (is z)) xs
    pick true f r = omega arith
    pick false f r = let a : 1 ≤ total (λ z. count (is z)) xs = r f in omega arith

pub total-absent : {A : Type 0} (is : A → Bool) (xs : List A) → find is xs ≡ None → total (λ y. count (is y)) xs ≡ 0
total-absent is [] e = refl
total-absent {A} is (y ∷ xs) e = pick (is y) e (total-absent is xs)
  where
    pick : (b : Bool) → cond b (Some y) (find is xs) ≡ None → (find is xs ≡ None → total (λ z. count (is z)) xs ≡ 0) → count b + total (λ z. count (is z)) xs ≡ 0
    pick true f r = absurd (some-none y f)
    pick false f r = let a : total (λ z. count (is z)) xs ≡ 0 = r f in omega arith

abbrev pub is_answer : ℕ → ℕ → Request → Bool
is_answer conn k q = is_answered_on conn q.stage && has_number k q.asked

abbrev pub is_result : ℕ → ℕ → ParkedFrame → Bool
is_result conn k p = not (is_call_frame p.frame) && is_parked_at conn k p

-- an answered call is out
pub answer-out : (conn k : ℕ) (q : Request) → is_answer conn k q ≡ true → is_call_on conn k q ≡ true
answer-out conn k q e = pick q.stage e
  where
    pick : (stage : Stage) → is_answered_on conn stage && has_number k q.asked ≡ true → is_out_on conn stage && has_number k q.asked ≡ true
    pick Waits f = absurd (true≢false (sym f))
    pick (Out c sequence) f = absurd (true≢false (sym f))
    pick (Answered c) f = f

-- two numbers of one request are one
pub one-number : (a b : ℕ) (asked : Asked) → has_number a asked ≡ true → has_number b asked ≡ true → a ≡ b
one-number a b (Calls n task lent kind m) e f = sym (eqb-true n a e) ∙ eqb-true n b f
one-number a b (LooksUp n task name) e f = sym (eqb-true n a e) ∙ eqb-true n b f
one-number a b (Tells call group) e f = absurd (true≢false (sym e))

-- two connections of one request are one
pub one-connection : (a b : ℕ) (stage : Stage) → is_out_on a stage ≡ true → is_out_on b stage ≡ true → a ≡ b
one-connection a b Waits e f = absurd (true≢false (sym e))
one-connection a b (Out c sequence) e f = sym (eqb-true c a e) ∙ eqb-true c b f
one-connection a b (Answered c) e f = sym (eqb-true c a e) ∙ eqb-true c b f

-- whether this is the call of that connection and number
abbrev pub is_at : ℕ → ℕ → ℕ → ℕ → Bool
is_at conn k at n = at == conn && n == k

pub count-false : (b : Bool) → (b ≡ true → ⊥) → count b ≡ 0
count-false true f = absurd (f refl)
count-false false f = refl

apart-at : (conn k at n : ℕ) → is_at conn k at n ≡ false → at ≡ conn → n ≡ k → ⊥
apart-at conn k at n e a b = true≢false (sym (both (at == conn) (n == k) (eq-eqb at conn a) (eq-eqb n k b)) ∙ e)
  where
    both : (x y : Bool) → x ≡ true → y ≡ true → x && y ≡ true
    both true y e f = f
    both false y e f = absurd (true≢false (sym e))

-- calls of one number of a connection go, and no answers of others
pub answers-elsewhere : (conn k at n : ℕ) (rs : List Request) → is_at conn k at n ≡ false → answers_of conn k (filter (λ q. not (is_call_on at n q)) rs) ≡ answers_of conn k rs
answers-elsewhere conn k at n rs e = total-kept (λ (q : Request). count (is_answer conn k q)) (is_call_on at n) rs (λ q is. count-false (is_answer conn k q) (λ a. apart-at conn k at n e
    (one-connection at conn q.stage (both-left (is_out_on at q.stage) _ is) (both-left (is_out_on conn q.stage) _ (answer-out conn k q a)))
    (one-number n k q.asked (both-right (is_out_on at q.stage) _ is) (both-right (is_answered_on conn q.stage) _ a))))

pub answers-gone : (conn k : ℕ) (rs : List Request) → answers_of conn k (filter (λ q. not (is_call_on conn k q)) rs) ≡ 0
answers-gone conn k rs = total-left (λ (q : Request). count (is_answer conn k q)) (is_call_on conn k) rs (λ q not-is. count-false (is_answer conn k q) (λ a. true≢false (sym (answer-out conn k q a) ∙ not-is)))

-- frames of one number of a connection go, and no others
pub results-elsewhere : (conn k at n : ℕ) (ps : List ParkedFrame) → is_at conn k at n ≡ false → results_of conn k (filter (λ p. not (is_parked_at at n p)) ps) ≡ results_of conn k ps
results-elsewhere conn k at n ps e = total-kept (λ (p : ParkedFrame). count (is_result conn k p)) (is_parked_at at n) ps (λ p is. count-false (is_result conn k p) (λ r. apart-at conn k at n e
    (sym (eqb-true p.conn at (both-left (p.conn == at) _ is)) ∙ eqb-true p.conn conn (both-left (p.conn == conn) _ (both-right (not (is_call_frame p.frame)) _ r)))
    (sym (eqb-true p.number n (both-right (p.conn == at) _ is)) ∙ eqb-true p.number k (both-right (p.conn == conn) _ (both-right (not (is_call_frame p.frame)) _ r)))))

pub results-gone : (conn k : ℕ) (ps : List ParkedFrame) → results_of conn k (filter (λ p. not (is_parked_at conn k p)) ps) ≡ 0
results-gone conn k ps = total-left (λ (p : ParkedFrame). count (is_result conn k p)) (is_parked_at conn k) ps (λ p not-is. count-false (is_result conn k p) (λ r. true≢false (sym (both-right (not (is_call_frame p.frame)) _ r) ∙ not-is)))

-- a call that is out and not answered, with the answered ones, is one of its number
pub out-and-answers : (conn k : ℕ) (rs : List Request) → total (λ (q : Request). count (is_asked_on conn k q)) rs + answers_of conn k rs ≤ calls_numbered k rs
out-and-answers conn k [] = omega arith
out-and-answers conn k (q ∷ rs) =
    let a : total (λ (p : Request). count (is_asked_on conn k p)) rs + answers_of conn k rs ≤ calls_numbered k rs = out-and-answers conn k rs in
    let b : count (is_asked_on conn k q) + count (is_answer conn k q) ≤ count (has_number k q.asked) = one q.stage (has_number k q.asked) in omega arith
  where
    either : (x y : Bool) → count (x && y) ≤ count y
    either true y = omega arith
    either false y = omega arith

    one : (stage : Stage) (has : Bool) → count (is_unanswered_on conn stage && has) + count (is_answered_on conn stage && has) ≤ count has
    one Waits has = omega arith
    one (Out c sequence) has = let a : count ((c == conn) && has) ≤ count has = either (c == conn) has in omega arith
    one (Answered c) has = let a : count ((c == conn) && has) ≤ count has = either (c == conn) has in omega arith

-- all calls of a number that are out on a connection are answered
pub answers-made : (conn k : ℕ) (rs : List Request) → answers_of conn k (map (Frames.answered_on conn k) rs) ≡ total (λ (q : Request). count (is_asked_on conn k q)) rs + answers_of conn k rs
answers-made conn k [] = refl
answers-made conn k (q ∷ rs) =
    let a : answers_of conn k (map (Frames.answered_on conn k) rs) ≡ total (λ (p : Request). count (is_asked_on conn k p)) rs + answers_of conn k rs = answers-made conn k rs in
    let b : count (is_answer conn k (Frames.answered_on conn k q)) ≡ count (is_asked_on conn k q) + count (is_answer conn k q) = one q.stage refl (is_call_on conn k q) refl in omega arith
  where
    self : (conn == conn) ≡ true
    self = eq-eqb conn conn refl

    now : (has : Bool) → count (is_answered_on conn (Answered conn) && has) ≡ count has
    now has = ap (λ b. count (b && has)) self

    one : (stage : Stage) → q.stage ≡ stage → (b : Bool) → is_call_on conn k q ≡ b → count (is_answer conn k (if b then record q { stage = Answered conn } else q)) ≡ count (is_asked_on conn k q) + count (is_answer conn k q)
    one Waits s b e = let z : count (is_answer conn k (if b then record q { stage = Answered conn } else q)) ≡ 0 = waits b e in
        let x : count (is_asked_on conn k q) ≡ 0 = ap (λ y. count (is_unanswered_on conn y && has_number k q.asked)) s in
        let y : count (is_answer conn k q) ≡ 0 = ap (λ y. count (is_answered_on conn y && has_number k q.asked)) s in omega arith
      where
        waits : (b : Bool) → is_call_on conn k q ≡ b → count (is_answer conn k (if b then record q { stage = Answered conn } else q)) ≡ 0
        waits true e = absurd (true≢false (sym e ∙ ap (λ y. is_out_on conn y && has_number k q.asked) s))
        waits false e = ap (λ y. count (is_answered_on conn y && has_number k q.asked)) s
    one (Out c sequence) s b e =
        let x : count (is_asked_on conn k q) ≡ count ((c == conn) && has_number k q.asked) = ap (λ y. count (is_unanswered_on conn y && has_number k q.asked)) s in
        let y : count (is_answer conn k q) ≡ 0 = ap (λ y. count (is_answered_on conn y && has_number k q.asked)) s in
        let f : ((c == conn) && has_number k q.asked) ≡ b = sym (ap (λ y. is_out_on conn y && has_number k q.asked) s) ∙ e in
        let d : count ((c == conn) && has_number k q.asked) ≡ count b = ap count f in
        let z : count (is_answer conn k (if b then record q { stage = Answered conn } else q)) ≡ count b = outs b f in omega arith
      where
        outs : (b : Bool) → ((c == conn) && has_number k q.asked) ≡ b → count (is_answer conn k (if b then record q { stage = Answered conn } else q)) ≡ count b
        outs true f = now (has_number k q.asked) ∙ ap count (both-right (c == conn) _ f)
        outs false f = ap (λ y. count (is_answered_on conn y && has_number k q.asked)) s
    one (Answered c) s b e =
        let x : count (is_asked_on conn k q) ≡ 0 = ap (λ y. count (is_unanswered_on conn y && has_number k q.asked)) s in
        let y : count (is_answer conn k q) ≡ count ((c == conn) && has_number k q.asked) = ap (λ y. count (is_answered_on conn y && has_number k q.asked)) s in
        let f : ((c == conn) && has_number k q.asked) ≡ b = sym (ap (λ y. is_out_on conn y && has_number k q.asked) s) ∙ e in
        let d : count ((c == conn) && has_number k q.asked) ≡ count b = ap count f in
        let z : count (is_answer conn k (if b then record q { stage = Answered conn } else q)) ≡ count b = was b f in omega arith
      where
        was : (b : Bool) → ((c == conn) && has_number k q.asked) ≡ b → count (is_answer conn k (if b then record q { stage = Answered conn } else q)) ≡ count b
        was true f = now (has_number k q.asked) ∙ ap count (both-right (c == conn) _ f)
        was false f = ap (λ y. count (is_answered_on conn y && has_number k q.asked)) s ∙ ap count f

-- others are answered as they were
pub answers-others : (conn k at n : ℕ) (rs : List Request) → is_at conn k at n ≡ false → answers_of conn k (map (Frames.answered_on at n) rs) ≡ answers_of conn k rs
answers-others conn k at n [] apart = refl
answers-others conn k at n (q ∷ rs) apart =
    let a : answers_of conn k (map (Frames.answered_on at n) rs) ≡ answers_of conn k rs = answers-others conn k at n rs apart in
    let b : count (is_answer conn k (Frames.answered_on at n q)) ≡ count (is_answer conn k q) = one (is_call_on at n q) refl in omega arith
  where
    one : (b : Bool) → is_call_on at n q ≡ b → count (is_answer conn k (if b then record q { stage = Answered at } else q)) ≡ count (is_answer conn k q)
    one false e = refl
    one true e =
        let z : count (is_answer conn k (record q { stage = Answered at })) ≡ 0 = count-false ((at == conn) && has_number k q.asked) (λ x. apart-at conn k at n apart (eqb-true at conn (both-left (at == conn) _ x)) (one-number n k q.asked (both-right (is_out_on at q.stage) _ e) (both-right (at == conn) _ x))) in
        let y : count (is_answer conn k q) ≡ 0 = count-false (is_answer conn k q) (λ x. apart-at conn k at n apart
        (one-connection at conn q.stage (both-left (is_out_on at q.stage) _ e) (both-left (is_out_on conn q.stage) _ (answer-out conn k q x)))
        (one-number n k q.asked (both-right (is_out_on at q.stage) _ e) (both-right (is_answered_on conn q.stage) _ x))) in omega arith
