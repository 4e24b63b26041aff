-- Rows of lists, and lists that are some of others.
use mathlib.Core.Path.{sym, ap, subst}
use Rattle.std.proofs.Common.{arith, inl, inr}
use Rattle.std.proofs.lemmas.Bool.{eqb-true}
use Rattle.std.specs.Prelude.{◌≡◌, ◌⊎◌, refl, ℕ, zero, suc, ◌==◌, length, take, Bool, true, false, List, [], ◌∷◌, ◌++◌, None, Some, slice_get, if◌then◌else◌}
use Rattle.net_message.specs.declared.message.Message.{Message}
use Rattle.sp_rules.specs.Events.{Output, Started, Ended, Withdrawn, Denied, Send, Dial, Close, Ready}
use Rattle.sp_rules.specs.Laws.{AllOf}
use Rattle.sp_rules.specs.Lists.{at_index}
use Rattle.sp_rules.proofs.AllLemmas.{some-none}
use Rattle.sp_rules.proofs.OwnLemmas.{some-same}
use Rattle.sp_order_laws.specs.Delivered.{AreSomeOf, sent_on}
use Rattle.sp_order_laws.specs.Ends.{IsOneOf}

-- ---- rows

-- a row after one of them was changed
abbrev pub WasRow : {A : Type 0} → (A → A) → ℕ → ℕ → List A → A → Type 0
WasRow {A} f n m xs y = (x : A) × ((slice_get xs m ≡ Some x) × (((n ≡ m → ⊥) × (y ≡ x)) ⊎ ((n ≡ m) × (y ≡ f x))))

zero-suc : (n : ℕ) → zero ≡ suc n → ⊥
zero-suc n e = omega (arith, e)

suc-zero : (n : ℕ) → suc n ≡ zero → ⊥
suc-zero n e = omega (arith, e)

pub row-of : {A : Type 0} (f : A → A) (n m : ℕ) (xs : List A) (y : A) → slice_get (at_index f n xs) m ≡ Some y → WasRow f n m xs y
row-of f n m [] y e = absurd (some-none y (sym e))
row-of f zero zero (x ∷ xs) y e = (x, (refl, inr (refl, sym (some-same e))))
row-of f zero (suc m) (x ∷ xs) y e = (y, (e, inl (zero-suc m, refl)))
row-of f (suc n) zero (x ∷ xs) y e = (x, (refl, inl (suc-zero n, sym (some-same e))))
row-of {A} f (suc n) (suc m) (x ∷ xs) y e = let r = row-of f n m xs y e in (r.0, (r.1.0, next r.0 r.1.1))
  where
    next : (z : A) → ((n ≡ m → ⊥) × (y ≡ z)) ⊎ ((n ≡ m) × (y ≡ f z)) → ((suc n ≡ suc m → ⊥) × (y ≡ z)) ⊎ ((suc n ≡ suc m) × (y ≡ f z))
    next z (inl q) = inl ((λ s. q.0 (omega (arith, s))), q.1)
    next z (inr q) = inr (ap suc q.0, q.1)

-- a row after one was added
pub row-more : {A : Type 0} (n : ℕ) (xs : List A) (x y : A) → slice_get (xs ++ x ∷ []) n ≡ Some y → (slice_get xs n ≡ Some y) ⊎ ((length xs ≡ n) × (y ≡ x))
row-more zero [] x y e = inr (refl, sym (some-same e))
row-more (suc n) [] x y e = absurd (some-none y (sym e))
row-more zero (z ∷ xs) x y e = inl e
row-more {A} (suc n) (z ∷ xs) x y e = next (row-more n xs x y e)
  where
    next : (slice_get xs n ≡ Some y) ⊎ ((length xs ≡ n) × (y ≡ x)) → (slice_get xs n ≡ Some y) ⊎ ((length (z ∷ xs) ≡ suc n) × (y ≡ x))
    next (inl q) = inl q
    next (inr q) = inr (omega (arith, q.0), q.1)

pub row-last : {A : Type 0} (xs : List A) (x : A) → slice_get (xs ++ x ∷ []) (length xs) ≡ Some x
row-last [] x = refl
row-last (y ∷ xs) x = row-last xs x

pub row-past : {A : Type 0} (xs : List A) → slice_get xs (length xs) ≡ None
row-past [] = refl
row-past (x ∷ xs) = row-past xs

-- ---- lists that are some of others

pub some-all : (xs : List Message) → AreSomeOf xs xs
some-all [] = tt
some-all (x ∷ xs) = inl (refl, some-all xs)

-- more are sent
pub some-more : (xs ys zs : List Message) → AreSomeOf xs ys → AreSomeOf xs (ys ++ zs)
some-more [] ys zs a = tt
some-more (x ∷ xs) [] zs a = absurd a
some-more (x ∷ xs) (y ∷ ys) zs (inl a) = inl (a.0, some-more xs ys zs a.1)
some-more (x ∷ xs) (y ∷ ys) zs (inr a) = inr (some-more (x ∷ xs) ys zs a)

-- one more is sent, and is on its way
pub some-last : (xs ys : List Message) (m : Message) → AreSomeOf xs ys → AreSomeOf (xs ++ m ∷ []) (ys ++ m ∷ [])
some-last [] [] m a = inl (refl, tt)
some-last [] (y ∷ ys) m a = inr (some-last [] ys m tt)
some-last (x ∷ xs) [] m a = absurd a
some-last (x ∷ xs) (y ∷ ys) m (inl a) = inl (a.0, some-last xs ys m a.1)
some-last (x ∷ xs) (y ∷ ys) m (inr a) = inr (some-last (x ∷ xs) ys m a)

-- the last ones are lost
pub some-fewer : (xs ys zs : List Message) → AreSomeOf (xs ++ ys) zs → AreSomeOf xs zs
some-fewer [] ys zs a = tt
some-fewer (x ∷ xs) ys [] a = absurd a
some-fewer (x ∷ xs) ys (z ∷ zs) (inl a) = inl (a.0, some-fewer xs ys zs a.1)
some-fewer (x ∷ xs) ys (z ∷ zs) (inr a) = inr (some-fewer (x ∷ xs) ys zs a)

pub append-after : (xs ys zs : List Message) → (xs ++ ys) ++ zs ≡ xs ++ (ys ++ zs)
append-after [] ys zs = refl
append-after (x ∷ xs) ys zs = ap (λ (l : List Message). x ∷ l) (append-after xs ys zs)

pub append-none : (xs : List Message) → xs ++ [] ≡ xs
append-none [] = refl
append-none (x ∷ xs) = ap (λ (l : List Message). x ∷ l) (append-none xs)

-- the first of a list, and the others
pub first-of : (n : ℕ) (xs : List Message) → (rest : List Message) × (take n xs ++ rest ≡ xs)
first-of zero xs = (xs, refl)
first-of (suc n) [] = ([], refl)
first-of (suc n) (x ∷ xs) = let r = first-of n xs in (r.0, ap (λ (l : List Message). x ∷ l) r.1)

-- ---- one of a list

pub one-left : {A : Type 0} (x : A) (xs ys : List A) → IsOneOf x xs → IsOneOf x (xs ++ ys)
one-left x [] ys a = absurd a
one-left x (z ∷ zs) ys (inl e) = inl e
one-left x (z ∷ zs) ys (inr a) = inr (one-left x zs ys a)

pub one-right : {A : Type 0} (x : A) (xs ys : List A) → IsOneOf x ys → IsOneOf x (xs ++ ys)
one-right x [] ys a = a
one-right x (z ∷ zs) ys a = inr (one-right x zs ys a)

pub one-either : {A : Type 0} (x : A) (xs ys : List A) → IsOneOf x (xs ++ ys) → (IsOneOf x xs) ⊎ (IsOneOf x ys)
one-either x [] ys i = inr i
one-either x (z ∷ xs) ys (inl e) = inl (inl e)
one-either x (z ∷ xs) ys (inr i) = by (one-either x xs ys i)
  where
    by : (IsOneOf x xs) ⊎ (IsOneOf x ys) → (IsOneOf x (z ∷ xs)) ⊎ (IsOneOf x ys)
    by (inl k) = inl (inr k)
    by (inr k) = inr k

-- an output among these
pub one-output : (Is : Output → Type 0) (conn : ℕ) (m : Message) (os : List Output) → AllOf Is os → IsOneOf m (sent_on conn os) → Is (Send conn m)
one-output Is conn m [] a o = absurd o
one-output Is conn m (x ∷ os) a o = by x a.0 (λ i. one-output Is conn m os a.1 i) o
  where
    sent : (n : ℕ) (y : Message) (b : Bool) → (n == conn) ≡ b → Is (Send n y) → (IsOneOf m (sent_on conn os) → Is (Send conn m)) → IsOneOf m ((if b then y ∷ [] else []) ++ sent_on conn os) → Is (Send conn m)
    sent n y true at k rest (inl e) = subst (λ z. Is (Send conn z)) (sym e) (subst (λ z. Is (Send z y)) (eqb-true n conn at) k)
    sent n y true at k rest (inr i) = rest i
    sent n y false at k rest i = rest i

    by : (y : Output) → Is y → (IsOneOf m (sent_on conn os) → Is (Send conn m)) → IsOneOf m (Rattle.sp_order_laws.specs.Delivered.frame_in conn y ++ sent_on conn os) → Is (Send conn m)
    by (Started task) k rest i = rest i
    by (Ended task outcome) k rest i = rest i
    by (Withdrawn ids) k rest i = rest i
    by (Denied why) k rest i = rest i
    by (Send n y) k rest i = sent n y (n == conn) refl k rest i
    by (Dial peer) k rest i = rest i
    by (Close n) k rest i = rest i
    by (Ready task) k rest i = rest i
