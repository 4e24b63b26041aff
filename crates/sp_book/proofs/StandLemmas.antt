-- The entries under a number, as a loop over all entries meets them.
use Rattle.std.proofs.Common.{rules, arith, ◌≡◌, ◌==◌, ◌<◌, ◌≤◌, ◌+◌, ℕ, zero, suc, Bool, true, false, List, [], ◌∷◌, ◌++◌, map, length, take, get_or, if◌then◌else◌, sym, refl, ap, ◌∙◌, add-one, append-nil}
use Rattle.sp_rules.specs.Books.{Entry}
use Rattle.sp_book.specs.Passes.{standing}

-- one element more of a mapped list is taken
pub take_more : {A B : Type 0} (f : A → B) (xs : List A) (i : ℕ) (x : A) → i < length xs → x ≡ get_or xs i x → take (suc i) (map f xs) ≡ take i (map f xs) ++ f x ∷ []
take_more f [] i x below is = absurd (omega (arith, below))
take_more f (y ∷ ys) zero x below is = ap (λ z. f z ∷ []) (sym is)
take_more f (y ∷ ys) (suc i) x below is = ap (λ l. f y ∷ l) (take_more f ys i x (omega (arith, below)) is)

at_number : (b : Bool) (x : Entry) (es fs ends : List Entry) → es ≡ fs ++ ends → (if b then x ∷ es else es) ≡ (if b then x ∷ fs else fs) ++ ends
at_number true x es fs ends is = ap (λ l. x ∷ l) is
at_number false x es fs ends is = is

standing_push : (number : ℕ) (es : List (ℕ × Entry)) (e : ℕ × Entry) → standing number (es ++ e ∷ []) ≡ standing number es ++ standing number (e ∷ [])
standing_push number [] e = refl
standing_push number (x ∷ xs) e = at_number (x.0 == number) x.1 (standing number (xs ++ e ∷ [])) (standing number xs) (standing number (e ∷ [])) (standing_push number xs e)

one_more : (number : ℕ) (h : List (ℕ × Entry)) (i : ℕ) (e : ℕ × Entry) (b : Bool) (l : List Entry) → take (suc i) h ≡ take i h ++ e ∷ [] → (e.0 == number) ≡ b → standing number (take i h) ≡ l
    → standing number (take (suc i) h) ≡ l ++ (if b then e.1 ∷ [] else [])
one_more number h i e b l more by is =
    ap (standing number) more ∙ standing_push number (take i h) e ∙ ap (λ s. s ++ standing number (e ∷ [])) is ∙ ap (λ (c : Bool). l ++ (if c then e.1 ∷ [] else [])) by

-- an entry under the number, which is that of the next call
pub same_turn : (number : ℕ) (h : List (ℕ × Entry)) (calls : List Entry) (i at at' : ℕ) (e : ℕ × Entry) (call : Entry) → take (suc i) h ≡ take i h ++ e ∷ [] → take (suc at) calls ≡ take at calls ++ call ∷ []
    → at < length calls → e.1 ≡ call → e.0 ≡ number → at' ≡ at + 1 → standing number (take i h) ≡ take at calls
    → (standing number (take (i + 1) h) ≡ take at' calls) × (at' ≤ length calls)
same_turn number h calls i at at' e call more more' below same by next is =
    let mine : (e.0 == number) ≡ true = search (rules, by) in
    let turn : standing number (take (suc i) h) ≡ take (suc at) calls =
    one_more number h i e true (take at calls) more mine is ∙ ap (λ (x : Entry). take at calls ++ x ∷ []) same ∙ sym more' in
    (rw (add-one, next, add-one) turn, omega (arith, next, below))

-- an entry under another number
pub other_turn : (number : ℕ) (h : List (ℕ × Entry)) (calls : List Entry) (i at at' : ℕ) (e : ℕ × Entry) → take (suc i) h ≡ take i h ++ e ∷ [] → (e.0 == number) ≡ false → at' ≡ at → at ≤ length calls
    → standing number (take i h) ≡ take at calls → (standing number (take (i + 1) h) ≡ take at' calls) × (at' ≤ length calls)
other_turn number h calls i at at' e more other next within is =
    (rw (add-one, next) (one_more number h i e false (take at calls) more other is ∙ append-nil (take at calls)), omega (arith, next, within))
