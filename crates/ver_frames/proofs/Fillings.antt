-- Types that are filled up with top: how many there are, each of them, and a change of one.
use Rattle.std.proofs.Common.{◌≡◌, ℕ, zero, suc, ◌+◌, ◌-◌, ◌<◌, ◌≤◌, Option, Some, None, List, [], ◌∷◌, ◌++◌, length, get_or, take, replicate, refl, ap, sym, subst, ◌∙◌, arith, append_assoc, length-append}
use Rattle.std.specs.Prelude.{slice_get, slice_set}
use Rattle.std.proofs.lemmas.List.{append-nil, length-replicate, length-set, replicate-append-replicate, set-append_left, take-replicate, take_all}
use Rattle.ver_frames.specs.Frames.{filled, first_types}
use Rattle.ver_frames.specs.declared.vtype.VType.{VType}
use Rattle.ver_frames.specs.declared.vtype.VType.TheVariants.{Top}

-- ---- how many

pub filled_count : (n : ℕ) (types : List VType) → length (filled n types) ≡ length types + (n - length types)
filled_count n types =
    let joined : length (filled n types) ≡ length types + length (replicate (n - length types) Top) = length-append types (replicate (n - length types) Top) in
    let tops : length (replicate (n - length types) Top) ≡ n - length types = length-replicate (n - length types) Top in
    omega (arith, joined, tops)

pub filled_long : (n : ℕ) (types : List VType) → length types ≤ n → length (filled n types) ≡ n
filled_long n types le = let all = filled_count n types in omega (arith, all, le)

pub filled_over : (n : ℕ) (types : List VType) → n ≤ length types → length (filled n types) ≡ length types
filled_over n types le = let all = filled_count n types in omega (arith, all, le)

-- ---- each of them

stored_from : (types more : List VType) (k : ℕ) → k < length types → slice_get (types ++ more) k ≡ slice_get types k
stored_from [] more k lt = absurd (omega arith)
stored_from (t ∷ types) more zero lt = refl
stored_from (t ∷ types) more (suc k) lt = stored_from types more k (omega arith)

-- one that is stored
pub filled_stored : (n : ℕ) (types : List VType) (k : ℕ) → k < length types → slice_get (filled n types) k ≡ slice_get types k
filled_stored n types k lt = stored_from types (replicate (n - length types) Top) k lt

top_at : (n k : ℕ) → k < n → slice_get (replicate n Top) k ≡ Some Top
top_at zero k lt = absurd (omega arith)
top_at (suc n) zero lt = refl
top_at (suc n) (suc k) lt = top_at n k (omega arith)

top_after : (types : List VType) (n k : ℕ) → length types ≤ k → k - length types < n → slice_get (types ++ replicate n Top) k ≡ Some Top
top_after [] n k le lt = top_at n k (omega arith)
top_after (t ∷ types) n zero le lt = absurd (omega arith)
top_after (t ∷ types) n (suc k) le lt = top_after types n k (omega arith) (omega arith)

-- one that is not
pub filled_top : (n : ℕ) (types : List VType) (k : ℕ) → length types ≤ k → k < n → slice_get (filled n types) k ≡ Some Top
filled_top n types k le lt = top_after types (n - length types) k le (omega (arith, le, lt))

-- a read with top as its default
pub get_filled : (types : List VType) (j k : ℕ) → get_or (types ++ replicate j Top) k Top ≡ get_or types k Top
get_filled [] zero k = refl
get_filled [] (suc j) zero = refl
get_filled [] (suc j) (suc k) = get_filled [] j k
get_filled (t ∷ types) j zero = refl
get_filled (t ∷ types) j (suc k) = get_filled types j k

-- ---- filled again

pub filled_again : (n m : ℕ) (types : List VType) → m ≤ n → filled n (filled m types) ≡ filled n types
filled_again n m types le =
    let tops : replicate (m - length types) Top ++ replicate (n - length (filled m types)) Top ≡ replicate (n - length types) Top =
    replicate-append-replicate (m - length types) (n - length (filled m types)) Top ∙ ap (λ (k : ℕ). replicate k Top) (sum (length types) (length (filled m types)) (filled_count m types)) in
    append_assoc types (replicate (m - length types) Top) (replicate (n - length (filled m types)) Top) ∙ ap (λ (ts : List VType). types ++ ts) tops
  where
    sum : (count all : ℕ) → all ≡ count + (m - count) → m - count + (n - all) ≡ n - count
    sum count all e = omega (arith, e, le)

-- as far as there are any
pub filled_to_end : (n : ℕ) (types : List VType) → filled n types ≡ filled (length (filled n types)) types
filled_to_end n types =
    let all = filled_count n types in
    ap (λ (k : ℕ). types ++ replicate k Top) (rest (length types) (length (filled n types)) all)
  where
    rest : (count all : ℕ) → all ≡ count + (n - count) → n - count ≡ all - count
    rest count all e = omega (arith, e)

-- ---- a change

pub filled_set : (n : ℕ) (types : List VType) (k : ℕ) (kind : VType) → k < length types → filled n (slice_set types k kind) ≡ slice_set (filled n types) k kind
filled_set n types k kind lt =
    let long : length (slice_set types k kind) ≡ length types = length-set types k kind in
    rw long (sym (set-append_left types (replicate (n - length types) Top) k kind lt))

-- a type that is set after those stored; more are stored then
pub filled_set_after : (n : ℕ) (types : List VType) (k index stored : ℕ) (kind : VType) (resized : List VType) → index ≡ k → stored ≡ length types → length types ≤ k → k < n
    → resized ≡ take (index + 1) types ++ replicate (index + 1 - stored) Top
    → filled n (slice_set resized index kind) ≡ slice_set (filled n types) k kind
filled_set_after n types k index stored kind resized e f le lt is =
    let all : take (index + 1) types ≡ types = take_all (index + 1) types (omega (arith, e, le)) in
    let tops : index + 1 - stored ≡ suc k - length types = omega (arith, e, f) in
    let same : resized ≡ filled (suc k) types = is ∙ ap (λ (ts : List VType). ts ++ replicate (index + 1 - stored) Top) all ∙ ap (λ (j : ℕ). types ++ replicate j Top) tops in
    let long : length (filled (suc k) types) ≡ suc k = filled_long (suc k) types (omega (arith, le)) in
    ap (λ (ts : List VType). filled n (slice_set ts index kind)) same ∙ ap (λ (j : ℕ). filled n (slice_set (filled (suc k) types) j kind)) e
    ∙ filled_set n (filled (suc k) types) k kind (omega (arith, long)) ∙ ap (λ (ts : List VType). slice_set ts k kind) (filled_again n (suc k) types (omega (arith, lt)))

-- ---- the first of them

first_from : (n : ℕ) (types : List VType) (j : ℕ) → n ≤ length types + j → take n (types ++ replicate j Top) ≡ take n (types ++ replicate (n - length types) Top)
first_from n [] j le = take-replicate n j Top (omega arith) ∙ sym (take-replicate n (n - 0) Top (omega arith))
first_from zero (t ∷ types) j le = refl
first_from (suc n) (t ∷ types) j le =
    let e : suc n - suc (length types) ≡ n - length types = omega arith in
    rw e (ap (λ (ts : List VType). t ∷ ts) (first_from n types j (omega arith)))

pub first_filled : (n m : ℕ) (types : List VType) → n ≤ length (filled m types) → take n (filled m types) ≡ first_types n types
first_filled n m types le =
    let all = filled_count m types in
    first_from n types (m - length types) (omega (arith, all, le))

-- the first n of n types are all of them
pub first_all : (types : List VType) (n : ℕ) → length types ≡ n → first_types n types ≡ types
first_all types n long =
    let none : n - length types ≡ 0 = omega (arith, long) in
    rw none (rw (append-nil types) (take_all n types (omega (arith, long))))
