-- Numbers that rise, and what is gathered from the outputs of an event as one note more is made.
use mathlib.Core.Path.{sym, ap, ◌∙◌}
use Rattle.std.proofs.Common.{arith, inl, inr}
use Rattle.std.proofs.lemmas.Bool.{true≢false, eqb-true, eq-eqb, ltb-true, ltb-false}
use Rattle.std.specs.List.{flat_map}
use Rattle.std.specs.Prelude.{◌≡◌, ◌≤◌, ◌<◌, ◌⊎◌, refl, cond, ℕ, zero, suc, ◌+◌, ◌==◌, nat_lt, Bool, true, false, List, [], ◌∷◌, ◌++◌, filter, map}
use Rattle.sp_rules.specs.Events.{Output, Note, rank, output_of, of_rank, of_ranks, in_order}
use Rattle.sp_rules.specs.Laws.{AllOf, RisesWithin}

-- ---- lists

pub append-none : {A : Type 0} (xs : List A) → xs ++ [] ≡ xs
append-none [] = refl
append-none {A} (x ∷ xs) = ap (λ (l : List A). x ∷ l) (append-none xs)

pub append-after : {A : Type 0} (xs ys zs : List A) → (xs ++ ys) ++ zs ≡ xs ++ (ys ++ zs)
append-after [] ys zs = refl
append-after {A} (x ∷ xs) ys zs = ap (λ (l : List A). x ∷ l) (append-after xs ys zs)

pub flat-append : {A B : Type 0} (f : A → List B) (xs ys : List A) → flat_map f (xs ++ ys) ≡ flat_map f xs ++ flat_map f ys
flat-append f [] ys = refl
flat-append {B = B} f (x ∷ xs) ys = ap (λ (l : List B). f x ++ l) (flat-append f xs ys) ∙ sym (append-after (f x) (flat_map f xs) (flat_map f ys))

pub flat-last : {A B : Type 0} (f : A → List B) (xs : List A) (x : A) → flat_map f (xs ++ x ∷ []) ≡ flat_map f xs ++ f x
flat-last {B = B} f xs x = flat-append f xs (x ∷ []) ∙ ap (λ (l : List B). flat_map f xs ++ l) (append-none (f x))

-- ---- numbers that rise

pub rises-top : (n last top : ℕ) (xs : List ℕ) → last ≤ top → RisesWithin n last xs → RisesWithin n top xs
rises-top n last top [] le r = let a : n ≤ last = r in omega arith
rises-top n last top (x ∷ xs) le r = (r.0, rises-top x last top xs le r.1)

pub rises-from : (n m top : ℕ) (xs : List ℕ) → n ≤ m → RisesWithin m top xs → RisesWithin n top xs
rises-from n m top [] le r = let a : m ≤ top = r in omega arith
rises-from n m top (x ∷ xs) le r = let a : m + 1 ≤ x = r.0 in (omega arith, r.1)

pub rises-last : (n last top x : ℕ) (xs : List ℕ) → last + 1 ≤ x → x ≤ top → RisesWithin n last xs → RisesWithin n top (xs ++ x ∷ [])
rises-last n last top x [] above below r = let a : n ≤ last = r in (omega arith, below)
rises-last n last top x (y ∷ xs) above below r = (r.0, rises-last y last top x xs above below r.1)

pub rises-below : (n top : ℕ) (xs : List ℕ) → RisesWithin n top xs → n ≤ top
rises-below n top [] r = r
rises-below n top (x ∷ xs) r = let a : n + 1 ≤ x = r.0 in let b : x ≤ top = rises-below x top xs r.1 in omega arith

-- the first ones rise, and the last ones
pub rises-first : (n top : ℕ) (xs ys : List ℕ) → RisesWithin n top (xs ++ ys) → RisesWithin n top xs
rises-first n top [] ys r = rises-below n top ys r
rises-first n top (x ∷ xs) ys r = (r.0, rises-first x top xs ys r.1)

pub rises-rest : (n top : ℕ) (xs ys : List ℕ) → RisesWithin n top (xs ++ ys) → RisesWithin n top ys
rises-rest n top [] ys r = r
rises-rest n top (x ∷ xs) ys r = let a : n + 1 ≤ x = r.0 in rises-from n x top ys (omega arith) (rises-rest x top xs ys r.1)

pub rises-after : (n top : ℕ) (xs ys zs : List ℕ) → ((m : ℕ) → RisesWithin m top ys → RisesWithin m top zs) → RisesWithin n top (xs ++ ys) → RisesWithin n top (xs ++ zs)
rises-after n top [] ys zs k r = k n r
rises-after n top (x ∷ xs) ys zs k r = (r.0, rises-after x top xs ys zs k r.1)

-- those of some of a list rise
pub rises-some : {A : Type 0} (f : A → List ℕ) (is : A → Bool) (n top : ℕ) (xs : List A) → RisesWithin n top (flat_map f xs) → RisesWithin n top (flat_map f (filter is xs))
rises-some f is n top [] r = r
rises-some f is n top (x ∷ xs) r = pick (is x) (λ m k. rises-some f is m top xs k)
  where
    pick : (b : Bool) → ((m : ℕ) → RisesWithin m top (flat_map f xs) → RisesWithin m top (flat_map f (filter is xs))) → RisesWithin n top (flat_map f (cond b (x ∷ filter is xs) (filter is xs)))
    pick true rest = rises-after n top (f x) (flat_map f xs) (flat_map f (filter is xs)) rest r
    pick false rest = rest n (rises-rest n top (f x) (flat_map f xs) r)

-- ---- one note more

rank-quiet : (f : Output → List ℕ) (n : Note) (k : ℕ) (notes : List Note) → f (output_of n) ≡ [] → flat_map f (of_rank (notes ++ n ∷ []) k) ≡ flat_map f (of_rank notes k)
rank-quiet f n k [] e = pick (rank n == k)
  where
    pick : (b : Bool) → flat_map f (map output_of (cond b (n ∷ []) [])) ≡ []
    pick true = ap (λ (l : List ℕ). l ++ []) e
    pick false = refl
rank-quiet f n k (x ∷ notes) e = pick (rank x == k) (rank-quiet f n k notes e)
  where
    pick : (b : Bool) → flat_map f (of_rank (notes ++ n ∷ []) k) ≡ flat_map f (of_rank notes k)
        → flat_map f (map output_of (cond b (x ∷ filter (λ y. rank y == k) (notes ++ n ∷ [])) (filter (λ y. rank y == k) (notes ++ n ∷ [])))) ≡ flat_map f (map output_of (cond b (x ∷ filter (λ y. rank y == k) notes) (filter (λ y. rank y == k) notes)))
    pick true rest = ap (λ (l : List ℕ). f (output_of x) ++ l) rest
    pick false rest = rest

-- a note of another rank
rank-other : (n : Note) (k : ℕ) (notes : List Note) → (rank n == k) ≡ false → of_rank (notes ++ n ∷ []) k ≡ of_rank notes k
rank-other n k [] e = ap (λ b. map output_of (cond b (n ∷ []) [])) e
rank-other n k (x ∷ notes) e = pick (rank x == k) (rank-other n k notes e)
  where
    pick : (b : Bool) → of_rank (notes ++ n ∷ []) k ≡ of_rank notes k
        → map output_of (cond b (x ∷ filter (λ y. rank y == k) (notes ++ n ∷ [])) (filter (λ y. rank y == k) (notes ++ n ∷ []))) ≡ map output_of (cond b (x ∷ filter (λ y. rank y == k) notes) (filter (λ y. rank y == k) notes))
    pick true rest = ap (λ (l : List Output). output_of x ∷ l) rest
    pick false rest = rest

-- one of this rank
rank-here : (n : Note) (k : ℕ) (notes : List Note) → (rank n == k) ≡ true → of_rank (notes ++ n ∷ []) k ≡ of_rank notes k ++ output_of n ∷ []
rank-here n k [] e = ap (λ b. map output_of (cond b (n ∷ []) [])) e
rank-here n k (x ∷ notes) e = pick (rank x == k) (rank-here n k notes e)
  where
    pick : (b : Bool) → of_rank (notes ++ n ∷ []) k ≡ of_rank notes k ++ output_of n ∷ []
        → map output_of (cond b (x ∷ filter (λ y. rank y == k) (notes ++ n ∷ [])) (filter (λ y. rank y == k) (notes ++ n ∷ []))) ≡ map output_of (cond b (x ∷ filter (λ y. rank y == k) notes) (filter (λ y. rank y == k) notes)) ++ output_of n ∷ []
    pick true rest = ap (λ (l : List Output). output_of x ∷ l) rest
    pick false rest = rest

-- what is gathered is of no rank above this one
abbrev pub AreBelow : (Output → List ℕ) → ℕ → List Note → Type 0
AreBelow f r notes = AllOf (λ (x : Note). (f (output_of x) ≡ []) ⊎ (rank x ≤ r)) notes

rank-none : (f : Output → List ℕ) (r k : ℕ) (notes : List Note) → r < k → AreBelow f r notes → flat_map f (of_rank notes k) ≡ []
rank-none f r k [] lt a = refl
rank-none f r k (x ∷ notes) lt a = pick (rank x == k) refl a.0 (rank-none f r k notes lt a.1)
  where
    pick : (b : Bool) → (rank x == k) ≡ b → (f (output_of x) ≡ []) ⊎ (rank x ≤ r) → flat_map f (of_rank notes k) ≡ [] → flat_map f (map output_of (cond b (x ∷ filter (λ y. rank y == k) notes) (filter (λ y. rank y == k) notes))) ≡ []
    pick true is (inl e) rest = ap (λ (l : List ℕ). l ++ flat_map f (of_rank notes k)) e ∙ rest
    pick true is (inr le) rest = let e : rank x ≡ k = eqb-true (rank x) k is in absurd (omega (arith, e))
    pick false is e rest = rest

ranks-quiet : (f : Output → List ℕ) (n : Note) (k : ℕ) (notes : List Note) → f (output_of n) ≡ [] → flat_map f (of_ranks k (notes ++ n ∷ [])) ≡ flat_map f (of_ranks k notes)
ranks-quiet f n zero notes e = refl
ranks-quiet f n (suc k) notes e =
    flat-append f (of_ranks k (notes ++ n ∷ [])) (of_rank (notes ++ n ∷ []) k)
    ∙ (ap (λ (l : List ℕ). l ++ flat_map f (of_rank (notes ++ n ∷ []) k)) (ranks-quiet f n k notes e)
    ∙ (ap (λ (l : List ℕ). flat_map f (of_ranks k notes) ++ l) (rank-quiet f n k notes e)
    ∙ sym (flat-append f (of_ranks k notes) (of_rank notes k))))

not-there : (n : Note) (k : ℕ) → k < rank n → (rank n == k) ≡ false
not-there n k lt = pick (rank n == k) refl
  where
    pick : (b : Bool) → (rank n == k) ≡ b → b ≡ false
    pick true is = let e : rank n ≡ k = eqb-true (rank n) k is in absurd (omega (arith, e))
    pick false is = refl

ranks-below : (n : Note) (k : ℕ) (notes : List Note) → k ≤ rank n → of_ranks k (notes ++ n ∷ []) ≡ of_ranks k notes
ranks-below n zero notes le = refl
ranks-below n (suc k) notes le =
    ap (λ (l : List Output). l ++ of_rank (notes ++ n ∷ []) k) (ranks-below n k notes (omega arith))
    ∙ ap (λ (l : List Output). of_ranks k notes ++ l) (rank-other n k notes (not-there n k (omega arith)))

-- what is gathered from one note more comes last, if its rank is not below those of the others
ranks-last : (f : Output → List ℕ) (n : Note) (k : ℕ) (notes : List Note) → rank n < k → AreBelow f (rank n) notes → flat_map f (of_ranks k (notes ++ n ∷ [])) ≡ flat_map f (of_ranks k notes) ++ f (output_of n)
ranks-last f n zero notes lt a = absurd (omega (arith, lt))
ranks-last f n (suc k) notes lt a = pick (rank n == k) refl (λ le. ranks-last f n k notes le a)
  where
    this : List ℕ
    this = flat_map f (of_ranks k notes)

    pick : (b : Bool) → (rank n == k) ≡ b → (rank n < k → flat_map f (of_ranks k (notes ++ n ∷ [])) ≡ this ++ f (output_of n))
        → flat_map f (of_ranks k (notes ++ n ∷ []) ++ of_rank (notes ++ n ∷ []) k) ≡ flat_map f (of_ranks k notes ++ of_rank notes k) ++ f (output_of n)
    pick true is rest =
        let e : rank n ≡ k = eqb-true (rank n) k is in
        ap (λ (l : List Output). flat_map f (l ++ of_rank (notes ++ n ∷ []) k)) (ranks-below n k notes (omega (arith, e)))
        ∙ (ap (λ (l : List Output). flat_map f (of_ranks k notes ++ l)) (rank-here n k notes is)
        ∙ (ap (λ (l : List Output). flat_map f l) (sym (append-after (of_ranks k notes) (of_rank notes k) (output_of n ∷ [])))
        ∙ flat-last f (of_ranks k notes ++ of_rank notes k) (output_of n)))
    pick false is rest =
        let low : rank n < k = less (nat_lt (rank n) k) refl in
        flat-append f (of_ranks k (notes ++ n ∷ [])) (of_rank (notes ++ n ∷ []) k)
        ∙ (ap (λ (l : List Output). flat_map f (of_ranks k (notes ++ n ∷ [])) ++ flat_map f l) (rank-other n k notes is)
        ∙ (ap (λ (l : List ℕ). flat_map f (of_ranks k (notes ++ n ∷ [])) ++ l) (rank-none f (rank n) k notes low a)
        ∙ (append-none (flat_map f (of_ranks k (notes ++ n ∷ [])))
        ∙ (rest low
        ∙ (ap (λ (l : List ℕ). l ++ f (output_of n)) (sym (append-none this))
        ∙ (ap (λ (l : List ℕ). (this ++ l) ++ f (output_of n)) (sym (rank-none f (rank n) k notes low a))
        ∙ ap (λ (l : List ℕ). l ++ f (output_of n)) (sym (flat-append f (of_ranks k notes) (of_rank notes k)))))))))
      where
        less : (b : Bool) → nat_lt (rank n) k ≡ b → rank n < k
        less true t = ltb-true (rank n) k t
        less false t = let x : k ≤ rank n = ltb-false (rank n) k t in absurd (true≢false (sym (eq-eqb (rank n) k (omega arith)) ∙ is))

-- ---- the outputs of a history, and those of an event under way

pub sent : (Output → List ℕ) → List Output → List Note → List ℕ
sent f outs notes = flat_map f outs ++ flat_map f (in_order notes)

pub sent-quiet : (f : Output → List ℕ) (outs : List Output) (notes : List Note) (n : Note) → f (output_of n) ≡ [] → sent f outs (notes ++ n ∷ []) ≡ sent f outs notes
unfolding sent in_order
sent-quiet f outs notes n e = ap (λ (l : List ℕ). flat_map f outs ++ l) (ranks-quiet f n 14 notes e)

pub sent-last : (f : Output → List ℕ) (outs : List Output) (notes : List Note) (n : Note) → rank n < 14 → AreBelow f (rank n) notes → sent f outs (notes ++ n ∷ []) ≡ sent f outs notes ++ f (output_of n)
unfolding sent in_order
sent-last f outs notes n lt a = ap (λ (l : List ℕ). flat_map f outs ++ l) (ranks-last f n 14 notes lt a) ∙ sym (append-after (flat_map f outs) (flat_map f (in_order notes)) (f (output_of n)))

-- as an event begins, and as it is answered
pub sent-none : (f : Output → List ℕ) (outs : List Output) → sent f outs [] ≡ flat_map f outs
unfolding sent in_order
sent-none f outs = append-none (flat_map f outs)

pub sent-all : (f : Output → List ℕ) (outs : List Output) (notes : List Note) → sent f outs notes ≡ flat_map f (outs ++ in_order notes)
unfolding sent
sent-all f outs notes = sym (flat-append f outs (in_order notes))
