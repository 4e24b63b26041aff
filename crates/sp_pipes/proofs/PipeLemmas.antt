-- Connections, as one of them changes.
use Rattle.std.proofs.Common.{◌≡◌, ◌∙◌, ℕ, zero, suc, ◌≤◌, ◌<◌, ◌||◌, Bool, true, false, List, [], ◌∷◌, ◌++◌, Option, None, Some, refl, sym, ap, subst, arith, length, map, set, take, drop, cond, get_or, not, vec_len, ltb, ◌+◌, lt-ltb, le-ltb, ltb-true, ltb-false}
use Rattle.std.specs.Prelude.{position, slice_get, option_map, Result, Ok, Err, OnErr}
use Rattle.std.specs.List.{list_any, prefix_len}
use Rattle.std.proofs.lemmas.Bool.{true≢false}
use Rattle.std.specs.Global.{Vec}
use Rattle.std.proofs.lemmas.List.{length-map}
use Rattle.std.proofs.lemmas.Option.{none-some, same_Some, slice_get_read}
use Rattle.net_message.specs.declared.message.Message.{Message}
use Rattle.sp_rules.specs.Lists.{at_index}
use Rattle.sp_rules.specs.Worlds.{Pipe, Side, End, Dialler, Accepter, set_side, is_unopened, without_front, new_pipe}
use Rattle.sp_pipes.specs.Connections.{ArePipes, pipe_of, waits, waits_at, lowest_waiting}
use Rattle.sp_pipes.specs.declared.pipe.Pipe.{Pipe as Row}
use Rattle.sp_pipes.specs.declared.pipes.Pipes.{Pipes}

-- ---- rows

pub changed : {A B : Type 0} (v : A → B) (f : B → B) (xs : List A) (i : ℕ) (x y : A) → slice_get xs i ≡ Some x → v y ≡ f (v x) → map v (set xs i y) ≡ at_index f i (map v xs)
changed v f [] i x y is e = absurd (none-some x is)
changed {A} {B} v f (z ∷ xs) zero x y is e = ap {A = B} {B = List B} (λ b. b ∷ map v xs) (e ∙ ap (λ (a : A). f (v a)) (sym (same_Some z x is)))
changed {A} {B} v f (z ∷ xs) (suc i) x y is e = ap (λ (l : List B). v z ∷ l) (changed v f xs i x y is e)

pub past : {B : Type 0} (f : B → B) (i : ℕ) (xs : List B) → length xs ≤ i → at_index f i xs ≡ xs
past f i [] h = refl
past f zero (x ∷ xs) h = absurd (omega (arith, h))
past {B} f (suc i) (x ∷ xs) h = ap (λ (l : List B). x ∷ l) (past f i xs (omega (arith, h)))

pub length-at : {B : Type 0} (f : B → B) (i : ℕ) (xs : List B) → length (at_index f i xs) ≡ length xs
length-at f i [] = refl
length-at f zero (x ∷ xs) = refl
length-at f (suc i) (x ∷ xs) = ap suc (length-at f i xs)

-- ---- none waits below the lowest

no-or : (a b : Bool) → a || b ≡ false → (a ≡ false) × (b ≡ false)
no-or true b e = absurd (true≢false e)
no-or false b e = (refl, e)

both-no : (a b : Bool) → a ≡ false → b ≡ false → a || b ≡ false
both-no true b e d = absurd (true≢false e)
both-no false b e d = d

pub still-none : (f : Pipe → Pipe) → ((p : Pipe) → waits p ≡ false → waits (f p) ≡ false) → (n i : ℕ) (xs : List Pipe) → list_any waits (take n xs) ≡ false → list_any waits (take n (at_index f i xs)) ≡ false
still-none f k zero i xs h = refl
still-none f k (suc n) i [] h = refl
still-none f k (suc n) zero (x ∷ xs) h = let q = no-or (waits x) (list_any waits (take n xs)) h in both-no (waits (f x)) (list_any waits (take n xs)) (k x q.0) q.1
still-none f k (suc n) (suc i) (x ∷ xs) h = let q = no-or (waits x) (list_any waits (take n xs)) h in both-no (waits x) (list_any waits (take n (at_index f i xs))) q.0 (still-none f k n i xs q.1)

-- one more does not wait
pub none-more : (n : ℕ) (xs : List Pipe) (x : Pipe) → slice_get xs n ≡ Some x → waits x ≡ false → list_any waits (take n xs) ≡ false → list_any waits (take (suc n) xs) ≡ false
none-more n [] x is e h = absurd (none-some x is)
none-more zero (y ∷ xs) x is e h = both-no (waits y) false (ap waits (same_Some y x is) ∙ e) refl
none-more (suc n) (y ∷ xs) x is e h = let q = no-or (waits y) (list_any waits (take n xs)) h in both-no (waits y) (list_any waits (take (suc n) xs)) q.0 (none-more n xs x is e q.1)

pub same-at : (f : Pipe → Pipe) → ((p : Pipe) → waits (f p) ≡ waits p) → (i n : ℕ) (xs : List Pipe) → waits_at (slice_get (at_index f i xs) n) ≡ waits_at (slice_get xs n)
same-at f k i n [] = refl
same-at f k zero zero (x ∷ xs) = k x
same-at f k zero (suc n) (x ∷ xs) = refl
same-at f k (suc i) zero (x ∷ xs) = refl
same-at f k (suc i) (suc n) (x ∷ xs) = same-at f k i n xs

-- ---- changes

-- a change that leaves which connections wait
pub quiet : (f : Pipe → Pipe) → ((p : Pipe) → waits (f p) ≡ waits p) → (i : ℕ) (pipes : List Pipe) (t u : Pipes)
    → map pipe_of u.rows.items ≡ at_index f i (map pipe_of t.rows.items) → u.unaccepted ≡ t.unaccepted → ArePipes pipes t → ArePipes (at_index f i pipes) u
quiet f k i pipes t u e s a = record {
  rows = e ∙ ap (at_index f i) a.rows;
  below = subst (λ (n : ℕ). list_any waits (take n (at_index f i pipes)) ≡ false) (sym s) (still-none f (λ p w. k p ∙ w) t.unaccepted i pipes a.below);
  stands = subst (λ (n : ℕ). waits_at (slice_get (at_index f i pipes) n) ≡ true) (sym s) (same-at f k i t.unaccepted pipes ∙ a.stands);
  within = let l = length-at f i pipes in let w = a.within in omega (arith, l, w, s);
}

pub quiet-side : (f : Side → Side) → ((s : Side) → (f s).phase ≡ s.phase) → (end : End) (p : Pipe) → waits (set_side f end p) ≡ waits p
quiet-side f k Dialler p = refl
quiet-side f k Accepter p = ap is_unopened (k p.accepter)

-- a change after which a connection that did not wait does not
pub less-side : (f : Side → Side) → ((s : Side) → is_unopened (f s).phase ≡ false) → (end : End) (p : Pipe) → waits p ≡ false → waits (set_side f end p) ≡ false
less-side f k Dialler p h = h
less-side f k Accepter p h = k p.accepter

-- what is left of the table after such a change, and after the lowest is found
pub found : (f : Pipe → Pipe) → ((p : Pipe) → waits p ≡ false → waits (f p) ≡ false) → (i : ℕ) (pipes : List Pipe) (t v : Pipes) (ys : List Row)
    → map pipe_of ys ≡ at_index f i (map pipe_of t.rows.items)
    → (t.unaccepted ≤ length ys → list_any waits (take t.unaccepted (map pipe_of ys)) ≡ false → ArePipes (map pipe_of ys) v) → ArePipes pipes t → ArePipes (at_index f i pipes) v
found f k i pipes t v ys e to a =
    let same : map pipe_of ys ≡ at_index f i pipes = e ∙ ap (at_index f i) a.rows in
    let many : length ys ≡ length pipes = sym (length-map ys pipe_of) ∙ ap length same ∙ length-at f i pipes in
    subst (λ (l : List Pipe). ArePipes l v) same
    (to
    (subst (λ (n : ℕ). t.unaccepted ≤ n) (sym many) a.within)
    (subst (λ (xs : List Pipe). list_any waits (take t.unaccepted xs) ≡ false) (sym same) (still-none f k t.unaccepted i pipes a.below)))

-- ---- rows of the table

pub row-there : (t : Pipes) (n i : ℕ) (x : Row) → n ≡ vec_len t.rows → i < n → x ≡ get_or t.rows.items i x → slice_get t.rows.items i ≡ Some x
row-there t n i x e lt is = slice_get_read t.rows.items n i x (e ∙ t.rows.ok.0) lt is

pub many-rows : (t : Pipes) (n : ℕ) (pipes : List Pipe) → n ≡ vec_len t.rows → ArePipes pipes t → n ≡ length pipes
many-rows t n pipes e a = e ∙ t.rows.ok.0 ∙ sym (length-map t.rows.items pipe_of) ∙ ap length a.rows

-- there is no connection of the number
pub absent : (f : Pipe → Pipe) (pipes : List Pipe) (t : Pipes) (n i : ℕ) → n ≡ vec_len t.rows → n ≤ i → ArePipes pipes t → ArePipes (at_index f i pipes) t
absent f pipes t n i e le a = subst (λ (l : List Pipe). ArePipes l t) (sym (past f i pipes (subst (λ (k : ℕ). k ≤ i) (many-rows t n pipes e a) le))) a

-- a row that is shown twice is the same
pub same-row : (xs : List Row) (i : ℕ) (x y : Row) → slice_get xs i ≡ Some x → slice_get xs i ≡ Some y → x ≡ y
same-row xs i x y e d = same_Some x y (sym e ∙ d)

-- a connection stays as it is
pub kept : (i : ℕ) (pipes : List Pipe) (t u : Pipes) (x y : Row) → slice_get t.rows.items i ≡ Some x → pipe_of y ≡ pipe_of x → u.rows.items ≡ set t.rows.items i y → u.unaccepted ≡ t.unaccepted → ArePipes pipes t → ArePipes pipes u
kept i pipes t u x y there e items s a = subst (λ (l : List Pipe). ArePipes l u) (at-same i pipes)
    (quiet (λ p. p) (λ p. refl) i pipes t u (ap (map pipe_of) items ∙ changed pipe_of (λ p. p) t.rows.items i x y there e) s a)
  where
    at-same : (n : ℕ) (xs : List Pipe) → at_index (λ p. p) n xs ≡ xs
    at-same n [] = refl
    at-same zero (z ∷ xs) = refl
    at-same (suc n) (z ∷ xs) = ap (λ (l : List Pipe). z ∷ l) (at-same n xs)

-- ---- the lowest is found

not-one : (b : Bool) → not b ≡ true → b ≡ false
not-one true e = absurd (true≢false (sym e))
not-one false e = refl

not-none : (b : Bool) → not b ≡ false → b ≡ true
not-none true e = refl
not-none false e = absurd (true≢false e)

pub passed : (n m : ℕ) (xs : List Pipe) → m ≡ suc n → not (waits_at (slice_get xs n)) ≡ true → list_any waits (take n xs) ≡ false → list_any waits (take m xs) ≡ false
passed n m xs e s h = subst (λ (k : ℕ). list_any waits (take k xs) ≡ false) (sym e) (by (slice_get xs n) refl s)
  where
    by : (o : Option Pipe) → slice_get xs n ≡ o → not (waits_at o) ≡ true → list_any waits (take (suc n) xs) ≡ false
    by None is t = absurd (true≢false (sym t))
    by (Some x) is t = none-more n xs x is (not-one (waits x) t) h

pub passed-within : (n m : ℕ) (xs : List Pipe) → m ≡ suc n → not (waits_at (slice_get xs n)) ≡ true → m ≤ length xs
passed-within n m [] e s = absurd (true≢false (sym s))
passed-within zero m (x ∷ xs) e s = omega (arith, e)
passed-within (suc n) m (x ∷ xs) e s = let h = passed-within n (suc n) xs refl s in omega (arith, e, h)

pub arrived : (t u : Pipes) → u.rows ≡ t.rows → list_any waits (take u.unaccepted (map pipe_of u.rows.items)) ≡ false → u.unaccepted ≤ length u.rows.items
    → not (waits_at (slice_get (map pipe_of u.rows.items) u.unaccepted)) ≡ false → ArePipes (map pipe_of t.rows.items) u
arrived t u e b w s = subst (λ (l : List Pipe). ArePipes l u) (ap (λ (v : Vec Row). map pipe_of v.items) e) (record {
  rows = refl;
  below = b;
  stands = not-none (waits_at (slice_get (map pipe_of u.rows.items) u.unaccepted)) s;
  within = subst (λ (n : ℕ). u.unaccepted ≤ n) (sym (length-map u.rows.items pipe_of)) w;
})

-- one connection more
push-below : (n : ℕ) (xs : List Pipe) (x : Pipe) → n ≤ length xs → list_any waits (take n xs) ≡ false → list_any waits (take n (xs ++ x ∷ [])) ≡ false
push-below zero xs x w h = refl
push-below (suc n) [] x w h = absurd (omega (arith, w))
push-below (suc n) (y ∷ xs) x w h = let q = no-or (waits y) (list_any waits (take n xs)) h in both-no (waits y) (list_any waits (take n (xs ++ x ∷ []))) q.0 (push-below n xs x (omega (arith, w)) q.1)

push-stands : (n : ℕ) (xs : List Pipe) (x : Pipe) → n ≤ length xs → waits x ≡ true → waits_at (slice_get xs n) ≡ true → waits_at (slice_get (xs ++ x ∷ []) n) ≡ true
push-stands zero [] x w e h = e
push-stands (suc n) [] x w e h = refl
push-stands zero (y ∷ xs) x w e h = h
push-stands (suc n) (y ∷ xs) x w e h = push-stands n xs x (omega (arith, w)) e h

length-more : {A : Type 0} (xs : List A) (x : A) → length (xs ++ x ∷ []) ≡ suc (length xs)
length-more [] x = refl
length-more (y ∷ xs) x = ap suc (length-more xs x)

map-more : {A B : Type 0} (v : A → B) (xs : List A) (x : A) → map v (xs ++ x ∷ []) ≡ map v xs ++ v x ∷ []
map-more v [] x = refl
map-more {A} {B} v (y ∷ xs) x = ap (λ (l : List B). v y ∷ l) (map-more v xs x)

pub opened : (a b : ℕ) (pipes : List Pipe) (t u : Pipes) (p : Row) → u.rows.items ≡ t.rows.items ++ p ∷ [] → u.unaccepted ≡ t.unaccepted → pipe_of p ≡ new_pipe a b
    → ArePipes pipes t → ArePipes (pipes ++ new_pipe a b ∷ []) u
opened a b pipes t u p e s n q = record {
  rows = ap (map pipe_of) e ∙ map-more pipe_of t.rows.items p ∙ ap (λ (x : Pipe). map pipe_of t.rows.items ++ x ∷ []) n ∙ ap (λ (l : List Pipe). l ++ new_pipe a b ∷ []) q.rows;
  below = subst (λ (k : ℕ). list_any waits (take k (pipes ++ new_pipe a b ∷ [])) ≡ false) (sym s) (push-below t.unaccepted pipes (new_pipe a b) q.within q.below);
  stands = subst (λ (k : ℕ). waits_at (slice_get (pipes ++ new_pipe a b ∷ []) k) ≡ true) (sym s) (push-stands t.unaccepted pipes (new_pipe a b) q.within refl q.stands);
  within = let l = length-more pipes (new_pipe a b) in let w = q.within in omega (arith, l, w, s);
}

-- ---- the lowest

-- what `position` finds, by whether the first passes, and how many of the others stand before the first that does
abbrev place : Bool → ℕ → ℕ → Option ℕ
place b k n = cond (ltb (cond (not b) (1 + k) 0) (suc n)) (Some (cond (not b) (1 + k) 0)) None

place-yes : (k n : ℕ) → place true k n ≡ Some 0
place-yes k n = ap (λ (t : Bool). cond t (Some 0) None) (lt-ltb 0 (suc n) (omega arith))

place-no : (k n : ℕ) (t : Bool) → ltb k n ≡ t → place false k n ≡ option_map suc (cond t (Some k) None)
place-no k n true e = let q : 1 + k ≡ suc k = omega arith in ap (λ (t : Bool). cond t (Some (1 + k)) None) (lt-ltb (1 + k) (suc n) (let h = ltb-true k n e in omega (arith, h))) ∙ ap Some q
place-no k n false e = ap (λ (t : Bool). cond t (Some (1 + k)) None) (le-ltb (1 + k) (suc n) (let h = ltb-false k n e in omega (arith, h)))

pub position-no : {A : Type 0} (p : A → Bool) (x : A) (xs : List A) → p x ≡ false → position p (x ∷ xs) ≡ option_map suc (position p xs)
position-no {A} p x xs e =
    let k = prefix_len (λ (y : A). not (p y)) xs in
    ap (λ (b : Bool). place b k (length xs)) e ∙ place-no k (length xs) (ltb k (length xs)) refl

pub position-yes : {A : Type 0} (p : A → Bool) (x : A) (xs : List A) → p x ≡ true → position p (x ∷ xs) ≡ Some 0
position-yes {A} p x xs e =
    let k = prefix_len (λ (y : A). not (p y)) xs in
    ap (λ (b : Bool). place b k (length xs)) e ∙ place-yes k (length xs)

pub lowest : (n : ℕ) (xs : List Pipe) → list_any waits (take n xs) ≡ false → waits_at (slice_get xs n) ≡ true → n < length xs → lowest_waiting xs ≡ Some n
lowest n [] b s w = absurd (omega (arith, w))
lowest zero (x ∷ xs) b s w = position-yes waits x xs s
lowest (suc n) (x ∷ xs) b s w = let q = no-or (waits x) (list_any waits (take n xs)) b in position-no waits x xs q.0 ∙ ap (option_map suc) (lowest n xs q.1 s (omega (arith, w)))

pub no-lowest : (n : ℕ) (xs : List Pipe) → list_any waits (take n xs) ≡ false → length xs ≤ n → lowest_waiting xs ≡ None
no-lowest n [] b w = refl
no-lowest zero (x ∷ xs) b w = absurd (omega (arith, w))
no-lowest (suc n) (x ∷ xs) b w = let q = no-or (waits x) (list_any waits (take n xs)) b in position-no waits x xs q.0 ∙ ap (option_map suc) (no-lowest n xs q.1 (omega (arith, w)))

pub front-gone : (ms : List Message) → drop 1 ms ≡ without_front ms
front-gone [] = refl
front-gone (m ∷ ms) = refl

pub on-err : {T E P Q : Type 0} (r : Result T E) → (P → Q) → OnErr r P → OnErr r Q
on-err (Ok x) f h = tt
on-err (Err e) f h = f h
