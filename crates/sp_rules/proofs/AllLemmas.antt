-- What holds of each of a list, as lists are joined, filtered, mapped and changed.
use mathlib.Core.Path.{sym, subst}
use Rattle.std.specs.Prelude.{◌≡◌, refl, ℕ, zero, suc, Bool, true, false, cond, List, [], ◌∷◌, ◌++◌, Option, None, Some, filter, find, map, ◌==◌, ◌||◌, ◌&&◌, if◌then◌else◌}
use Rattle.std.specs.List.{list_any, list_all}
use Rattle.std.proofs.lemmas.Bool.{true≢false}
use Rattle.sp_rules.specs.Events.{Note, Output, output_of, rank, of_rank, of_ranks}
use Rattle.sp_rules.specs.Laws.{AllOf}
use Rattle.sp_rules.specs.Lists.{at_first}

abbrev HasSome : {A : Type 0} → Option A → Type 0
HasSome None = ⊥
HasSome (Some x) = Unit {0}

pub some-none : {A : Type 0} (x : A) → Some x ≡ None → ⊥
some-none x e = subst HasSome e tt

pub or-left : (a b : Bool) → a ≡ true → a || b ≡ true
or-left true b e = refl
or-left false b e = absurd (true≢false (sym e))

pub or-right : (a b : Bool) → b ≡ true → a || b ≡ true
or-right true b e = refl
or-right false b e = e

pub all-weaken : {A : Type 0} (P Q : A → Type 0) (xs : List A) → ((x : A) → P x → Q x) → AllOf P xs → AllOf Q xs
all-weaken P Q [] f a = tt
all-weaken P Q (x ∷ xs) f a = (f x a.0, all-weaken P Q xs f a.1)

pub all-append : {A : Type 0} (P : A → Type 0) (xs ys : List A) → AllOf P xs → AllOf P ys → AllOf P (xs ++ ys)
all-append P [] ys a b = b
all-append P (x ∷ xs) ys a b = (a.0, all-append P xs ys a.1 b)

pub all-more : {A : Type 0} (P : A → Type 0) (xs : List A) (x : A) → AllOf P xs → P x → AllOf P (xs ++ x ∷ [])
all-more P [] x a p = (p, tt)
all-more P (y ∷ xs) x a p = (a.0, all-more P xs x a.1 p)

pub all-filter : {A : Type 0} (P : A → Type 0) (is : A → Bool) (xs : List A) → AllOf P xs → AllOf P (filter is xs)
all-filter P is [] a = tt
all-filter P is (x ∷ xs) a = pick (is x) (all-filter P is xs a.1)
  where
    pick : (b : Bool) → AllOf P (filter is xs) → AllOf P (cond b (x ∷ filter is xs) (filter is xs))
    pick true rest = (a.0, rest)
    pick false rest = rest

pub all-map : {A B : Type 0} (P : A → Type 0) (Q : B → Type 0) (f : A → B) (xs : List A) → ((x : A) → P x → Q (f x)) → AllOf P xs → AllOf Q (map f xs)
all-map P Q f [] h a = tt
all-map P Q f (x ∷ xs) h a = (h x a.0, all-map P Q f xs h a.1)

pub all-first : {A : Type 0} (P : A → Type 0) (is : A → Bool) (f : A → A) (xs : List A) → ((x : A) → P x → P (f x)) → AllOf P xs → AllOf P (at_first is f xs)
all-first P is f [] h a = tt
all-first P is f (x ∷ xs) h a = pick (is x) (all-first P is f xs h a.1)
  where
    pick : (b : Bool) → AllOf P (at_first is f xs) → AllOf P (if b then f x ∷ xs else x ∷ at_first is f xs)
    pick true rest = (h x a.0, a.1)
    pick false rest = (a.0, rest)

-- what holds of what is found, if anything is
pub InSome : {A : Type 0} → (A → Type 0) → Option A → Type 0
InSome P None = Unit {0}
InSome P (Some x) = P x

find-some : {A : Type 0} (P : A → Type 0) (is : A → Bool) (xs : List A) → AllOf P xs → InSome P (find is xs)
unfolding InSome
find-some P is [] a = tt
find-some P is (x ∷ xs) a = pick (is x) (find-some P is xs a.1)
  where
    pick : (b : Bool) → InSome P (find is xs) → InSome P (cond b (Some x) (find is xs))
    pick true h = a.0
    pick false h = h

pub all-found : {A : Type 0} (P : A → Type 0) (is : A → Bool) (xs : List A) (x : A) → find is xs ≡ Some x → AllOf P xs → P x
unfolding InSome
all-found P is xs x e a = subst (InSome P) e (find-some P is xs a)

-- what is found passes the test
pub found-is : {A : Type 0} (is : A → Bool) (xs : List A) (x : A) → find is xs ≡ Some x → is x ≡ true
unfolding InSome
found-is {A} is xs x e = subst (InSome (λ y. is y ≡ true)) e (passes xs)
  where
    passes : (xs : List A) → InSome (λ y. is y ≡ true) (find is xs)
    passes [] = tt
    passes (y ∷ ys) = pick (is y) refl (passes ys)
      where
        pick : (b : Bool) → is y ≡ b → InSome (λ y. is y ≡ true) (find is ys) → InSome (λ y. is y ≡ true) (cond b (Some y) (find is ys))
        pick true t h = t
        pick false t h = h

-- if none is found, none passes the test
pub none-found : {A : Type 0} (is : A → Bool) (xs : List A) → find is xs ≡ None → AllOf (λ x. is x ≡ false) xs
none-found is [] e = tt
none-found {A} is (x ∷ xs) e = pick (is x) refl e (none-found is xs)
  where
    pick : (b : Bool) → is x ≡ b → cond b (Some x) (find is xs) ≡ None → (find is xs ≡ None → AllOf (λ y. is y ≡ false) xs) → AllOf (λ y. is y ≡ false) (x ∷ xs)
    pick true t f rest = absurd (some-none x f)
    pick false t f rest = (t, rest f)

-- all pass a test that all of them are said to pass
pub all-pass : {A : Type 0} (is : A → Bool) (xs : List A) → list_all is xs ≡ true → AllOf (λ x. is x ≡ true) xs
all-pass is [] e = tt
all-pass {A} is (x ∷ xs) e = pick (is x) refl e (all-pass is xs)
  where
    pick : (b : Bool) → is x ≡ b → b && list_all is xs ≡ true → (list_all is xs ≡ true → AllOf (λ y. is y ≡ true) xs) → AllOf (λ y. is y ≡ true) (x ∷ xs)
    pick true t f rest = (t, rest f)
    pick false t f rest = absurd (true≢false (sym f))

pub all-with : {A : Type 0} (P Q R : A → Type 0) (xs : List A) → ((x : A) → P x → Q x → R x) → AllOf P xs → AllOf Q xs → AllOf R xs
all-with P Q R [] f a b = tt
all-with P Q R (x ∷ xs) f a b = (f x a.0 b.0, all-with P Q R xs f a.1 b.1)

-- what is left of a list passes the test
pub all-both-filter : {A : Type 0} (P : A → Type 0) (is : A → Bool) (xs : List A) → AllOf P xs → AllOf (λ x. P x × (is x ≡ true)) (filter is xs)
all-both-filter P is [] a = tt
all-both-filter {A} P is (x ∷ xs) a = pick (is x) refl (all-both-filter P is xs a.1)
  where
    pick : (b : Bool) → is x ≡ b → AllOf (λ y. P y × (is y ≡ true)) (filter is xs) → AllOf (λ y. P y × (is y ≡ true)) (cond b (x ∷ filter is xs) (filter is xs))
    pick true t rest = ((a.0, t), rest)
    pick false t rest = rest

-- each of a list that passes a test has one of the list pass it
pub each-any : {A B : Type 0} (test : A → B → Bool) (xs : List A) → AllOf (λ x. (b : B) → test x b ≡ true → list_any (λ y. test y b) xs ≡ true) xs
each-any test [] = tt
each-any {A} {B} test (x ∷ xs) =
    (λ b t. or-left (test x b) _ t, all-weaken (λ y. (b : B) → test y b ≡ true → list_any (λ z. test z b) xs ≡ true) (λ y. (b : B) → test y b ≡ true → list_any (λ z. test z b) (x ∷ xs) ≡ true) xs (λ y f b t. or-right (test x b) _ (f b t)) (each-any test xs))

-- the last of a list is among those that are left, if it passes
pub each-there : {A : Type 0} (test is : A → Bool) (xs : List A) (x : A) → is x ≡ true → test x ≡ true → list_any test (filter is (xs ++ x ∷ [])) ≡ true
each-there test is [] x e t = pick (is x) e
  where
    pick : (b : Bool) → b ≡ true → list_any test (cond b (x ∷ []) []) ≡ true
    pick true f = or-left (test x) false t
    pick false f = absurd (true≢false (sym f))
each-there {A} test is (y ∷ xs) x e t = pick (is y) (each-there test is xs x e t)
  where
    pick : (b : Bool) → list_any test (filter is (xs ++ x ∷ [])) ≡ true → list_any test (cond b (y ∷ filter is (xs ++ x ∷ [])) (filter is (xs ++ x ∷ []))) ≡ true
    pick true r = or-right (test y) _ r
    pick false r = r

-- outputs in their order are those that were noted
rank-all : (P : Output → Type 0) (notes : List Note) (k : ℕ) → AllOf (λ (n : Note). P (output_of n)) notes → AllOf P (of_rank notes k)
rank-all P notes k a = all-map (λ (n : Note). P (output_of n)) P output_of _ (λ n p. p) (all-filter (λ (n : Note). P (output_of n)) (λ n. rank n == k) notes a)

pub ranks-all : (P : Output → Type 0) (k : ℕ) (notes : List Note) → AllOf (λ (n : Note). P (output_of n)) notes → AllOf P (of_ranks k notes)
ranks-all P zero notes a = tt
ranks-all P (suc k) notes a = all-append P (of_ranks k notes) (of_rank notes k) (ranks-all P k notes a) (rank-all P notes k a)
