-- Reading values one after the other, as a loop does: the values so far are the front of the list.
use Rattle.std.proofs.Common.{◌≡◌, ℕ, zero, suc, ◌+◌, ◌-◌, ◌<◌, ◌≤◌, List, [], ◌∷◌, ◌++◌, Result, Ok, Err, refl, sym, ap, ◌∙◌, append_assoc, arith}
use Rattle.std.specs.Prelude.{IfOk, length}
use Rattle.std.proofs.lemmas.List.{append-nil}
use Rattle.cf_text.specs.declared.fault.ReadFault.{ReadFault}
use Rattle.cf_text.specs.declared.fault.ReadFault.TheVariants.{Broken, Memory}
use Rattle.cf_text.specs.Reading.{◌>>=◌, Fails, many}

abbrev pub with_front : {A R : Type 0} → List A → Result (List A × R) ReadFault → Result (List A × R) ReadFault
with_front front reading = reading >>= λ x. Ok (front ++ x.0, x.1)

-- one more of them in front
pub with_front-push : {A R : Type 0} (front : List A) (first : A) (others : Result (List A × R) ReadFault)
    → with_front front (others >>= λ x. Ok (first ∷ x.0, x.1)) ≡ with_front (front ++ first ∷ []) others
with_front-push front first (Ok x) = ap (λ items. Ok (items, x.1)) (simp append_assoc)
with_front-push front first (Err fault) = refl

-- nothing more
pub with_front-end : {A R : Type 0} (front : List A) (rest : R) → with_front front (Ok ([], rest)) ≡ Ok (front, rest)
with_front-end front rest = ap (λ items. Ok (items, rest)) (append-nil front)

-- Of `count` values `done` were read; they are the front of the list.
module _ {A : Type 0} (read : ℕ → Result (A × ℕ) ReadFault) (front : List A) (count done at : ℕ) (all : Result (List A × ℕ) ReadFault)
    (so_far : with_front front (many read (count - done) at) ≡ all) where
  -- one more is read
  pub many-goes_on : (first : A) (after : ℕ) → done < count → read at ≡ Ok (first, after) → with_front (front ++ first ∷ []) (many read (count - (done + 1)) after) ≡ all
  unfolding many
  many-goes_on first after more step =
      let left : count - done ≡ suc (count - (done + 1)) = omega arith in
      let one : with_front front (many read (count - done) at) ≡ with_front (front ++ first ∷ []) (many read (count - (done + 1)) after) =
      rw (left, step) (with_front-push front first (many read (count - (done + 1)) after)) in
      sym one ∙ so_far

  -- the next one fails, and so do all
  pub many-fails : (fault : ReadFault) → done < count → Fails (read at) fault → Fails all fault
  unfolding many
  many-fails (Broken rule position) more fails =
      let left : count - done ≡ suc (count - (done + 1)) = omega arith in
      let one : with_front front (many read (count - done) at) ≡ Err (Broken rule position) = rw (left, fails) refl in
      sym so_far ∙ one
  many-fails Memory more fails = tt

  -- all were read
  pub many-end : count ≤ done → all ≡ Ok (front, at)
  unfolding many
  many-end none =
      let left : count - done ≡ 0 = omega arith in
      let one : with_front front (many read (count - done) at) ≡ Ok (front, at) = rw left (with_front-end front at) in
      sym so_far ∙ one

-- a list of n
abbrev IsLong : {A : Type 0} → ℕ → List A × ℕ → Type 0
IsLong n x = length x.0 ≡ n

if_bound : {A B : Type 0} (Q : B → Type 0) (reading : Result A ReadFault) (next : A → Result B ReadFault) → ((x : A) → IfOk (next x) Q) → IfOk (reading >>= next) Q
if_bound Q (Ok x) next then = then x
if_bound Q (Err fault) next then = tt

one_more_long : {A : Type 0} (n : ℕ) (first : A) (others : Result (List A × ℕ) ReadFault) → IfOk others (IsLong n) → IfOk {T = List A × ℕ} (others >>= λ x. Ok (first ∷ x.0, x.1)) (IsLong (suc n))
one_more_long n first (Ok x) long = ap suc long
one_more_long n first (Err fault) long = tt

-- a reading of `count` values gives `count`
pub many-long : {A : Type 0} (read : ℕ → Result (A × ℕ) ReadFault) (count at : ℕ) → IfOk {T = List A × ℕ} (many read count at) (λ x. length x.0 ≡ count)
unfolding many
many-long read zero at = refl
many-long {A} read (suc n) at =
    if_bound (IsLong {A = A} (suc n)) (read at) (λ first. many read n first.1 >>= λ others. Ok (first.0 ∷ others.0, others.1))
    (λ first. one_more_long n first.0 (many read n first.1) (many-long read n first.1))
