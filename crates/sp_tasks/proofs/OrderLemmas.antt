use Rattle.std.proofs.Common.{◌≡◌, ℕ, suc, ◌≤◌, ◌<◌, ◌≢◌, ◌^◌, min, nat_eq, nat_lt, Bool, true, false, cond, ◌||◌, List, [], ◌∷◌, length, map, find, option_map, Option, None, Some, is_some, refl, sym, ap, subst, ◌∙◌, true≢false, arith}
use Rattle.std.specs.Prelude.{◌==◌, unwrap_or}
use Rattle.std.specs.List.{AllByRecursion, IsDistinct, list_any}
use Rattle.std.specs.Cmp.{nat_eq_equiv}
use Rattle.std.specs.Map.{keys_of}
use Rattle.std.proofs.lemmas.Bool.{eqb-true, eqb-false, ltb-true, ltb-false, ne_eqb}
use Rattle.std.proofs.lemmas.Map.Keys.{IsDistinct-head, IsDistinct-tail}
use Rattle.std.proofs.lemmas.Map.Made.{is_some-lookup}
use Rattle.rising_map.specs.Rows.{AreAbove, AreBelow, Rises}
use Rattle.rising_map.proofs.RowLemmas.{same-numbers}
use Rattle.least_tree.specs.Least.{least, nothing}
use Rattle.sp_tasks.specs.Rows.{TaskRow, by_id, first_ready, is_ready, row_of, with_row}
use Rattle.sp_tasks.specs.Tables.{ready_number, some_id_of}

-- the id is none of these
abbrev pub Absent : ℕ → List (ℕ × TaskRow) → Type 0
Absent id rows = AllByRecursion (λ k. nat_eq id k ≡ false) (keys_of rows)

-- ---- rows that are put in their order

above-with : (n : ℕ) (e : ℕ × TaskRow) (rows : List (ℕ × TaskRow)) → n < e.0 → AreAbove n (keys_of rows) → AreAbove n (keys_of (with_row e rows))
above-with n e [] lt all = (lt, tt)
above-with n e (r ∷ rs) lt all =
    elim (nat_lt e.0 r.0) as (λ b. AreAbove n (keys_of (cond b (e ∷ r ∷ rs) (r ∷ with_row e rs)))) [ true ↦ (lt, all) | false ↦ (all.0, above-with n e rs lt all.1) ]

above-less : (n m : ℕ) (ms : List ℕ) → n < m → AreAbove m ms → AreAbove n ms
above-less n m [] h a = tt
above-less n m (k ∷ ks) h a = let above : m < k = a.0 in (omega (arith, h, above), above-less n m ks h a.1)

rises-with : (e : ℕ × TaskRow) (rows : List (ℕ × TaskRow)) → Rises (keys_of rows) → Absent e.0 rows → Rises (keys_of (with_row e rows))
rises-with e [] rises absent = (tt, tt)
rises-with e (r ∷ rs) rises absent =
    elim (nat_lt e.0 r.0) as (λ b. nat_lt e.0 r.0 ≡ b → Rises (keys_of (cond b (e ∷ r ∷ rs) (r ∷ with_row e rs)))) [
      | true ↦ λ lt. let less = ltb-true e.0 r.0 lt in ((less, above-less e.0 r.0 (keys_of rs) less rises.0), rises)
      | false ↦ λ ge.
          let le : r.0 ≤ e.0 = ltb-false e.0 r.0 ge in
          let ne : e.0 ≢ r.0 = λ same. true≢false (sym (nat_eq_equiv.refl e.0) ∙ ap (λ k. nat_eq e.0 k) same ∙ absent.0) in
          (above-with r.0 e rs (omega (arith, le, ne)) rises.0, rises-with e rs rises.1 absent.1)
    ] refl

absent-with : (k : ℕ) (e : ℕ × TaskRow) (rows : List (ℕ × TaskRow)) → nat_eq k e.0 ≡ false → Absent k rows → Absent k (with_row e rows)
absent-with k e [] apart all = (apart, tt)
absent-with k e (r ∷ rs) apart all =
    elim (nat_lt e.0 r.0) as (λ b. Absent k (cond b (e ∷ r ∷ rs) (r ∷ with_row e rs))) [ true ↦ (apart, all) | false ↦ (all.0, absent-with k e rs apart all.1) ]

absent-by : (k : ℕ) (es : List (ℕ × TaskRow)) → Absent k es → Absent k (by_id es)
absent-by k [] all = tt
absent-by k (e ∷ es) all = absent-with k e (by_id es) all.0 (absent-by k es all.1)

pub rises-by : (es : List (ℕ × TaskRow)) → IsDistinct nat_eq (keys_of es) → Rises (keys_of (by_id es))
rises-by [] distinct = tt
rises-by (e ∷ es) distinct =
    rises-with e (by_id es) (rises-by es (IsDistinct-tail nat_eq e.0 (keys_of es) distinct)) (absent-by e.0 es (IsDistinct-head nat_eq e.0 (keys_of es) distinct))

-- ---- each row is found under its id

lookup-with : (q : ℕ) (e : ℕ × TaskRow) (rows : List (ℕ × TaskRow)) → Absent e.0 rows → row_of q (with_row e rows) ≡ cond (nat_eq q e.0) (Some e.1) (row_of q rows)
lookup-with q e [] absent = refl
lookup-with q e (r ∷ rs) absent =
    elim (nat_lt e.0 r.0) as (λ b. row_of q (cond b (e ∷ r ∷ rs) (r ∷ with_row e rs)) ≡ cond (nat_eq q e.0) (Some e.1) (row_of q (r ∷ rs))) [
      | true ↦ refl
      | false ↦ elim (nat_eq q r.0) as (λ b. nat_eq q r.0 ≡ b → cond b (Some r.1) (row_of q (with_row e rs)) ≡ cond (nat_eq q e.0) (Some e.1) (cond b (Some r.1) (row_of q rs))) [
        | true ↦ λ here.
            let apart : nat_eq q e.0 ≡ false = ap (λ k. nat_eq k e.0) (eqb-true q r.0 here) ∙ nat_eq_equiv.symm r.0 e.0 ∙ absent.0 in
            sym (ap (λ b. cond b (Some e.1) (Some r.1)) apart)
        | false ↦ λ apart. lookup-with q e rs absent.1
      ] refl
    ]

pub lookup-by : (q : ℕ) (es : List (ℕ × TaskRow)) → IsDistinct nat_eq (keys_of es) → row_of q (by_id es) ≡ row_of q es
lookup-by q [] distinct = refl
lookup-by q (e ∷ es) distinct =
    lookup-with q e (by_id es) (absent-by e.0 es (IsDistinct-head nat_eq e.0 (keys_of es) distinct))
    ∙ ap (λ o. cond (nat_eq q e.0) (Some e.1) o) (lookup-by q es (IsDistinct-tail nat_eq e.0 (keys_of es) distinct))

-- ---- rows whose ids rise are known by what is found under each

not-above : (n : ℕ) (rows : List (ℕ × TaskRow)) → AreAbove n (keys_of rows) → row_of n rows ≡ None
not-above n [] a = refl
not-above n (r ∷ rs) a = let lt : n < r.0 = a.0 in ap (λ t. cond t (Some r.1) (row_of n rs)) (ne_eqb n r.0 (λ same. omega (arith, lt, same))) ∙ not-above n rs a.1

same-values : (xs ys : List (ℕ × TaskRow)) → keys_of xs ≡ keys_of ys → Rises (keys_of xs) → Rises (keys_of ys) → ((q : ℕ) → row_of q xs ≡ row_of q ys) → xs ≡ ys
same-values [] [] keys r s found = refl
same-values [] (b ∷ ys) keys r s found = cc
same-values (a ∷ xs) [] keys r s found = cc
same-values (a ∷ xs) (b ∷ ys) keys r s found =
    let id : a.0 ≡ b.0 = cc in
    let rest : keys_of xs ≡ keys_of ys = cc in
    let there : Some a.1 ≡ row_of a.0 (b ∷ ys) = sym (ap (λ t. cond t (Some a.1) (row_of a.0 xs)) (nat_eq_equiv.refl a.0)) ∙ found a.0 in
    let here : row_of a.0 (b ∷ ys) ≡ Some b.1 = ap (λ k. row_of k (b ∷ ys)) id ∙ ap (λ t. cond t (Some b.1) (row_of b.0 ys)) (nat_eq_equiv.refl b.0) in
    let row : a.1 ≡ b.1 = ap (λ (o : Option TaskRow). unwrap_or o a.1) (there ∙ here) in
    let tails = same-values xs ys rest r.1 s.1 (λ q. tail q id) in (λ j. (id j, row j) ∷ tails j)
  where
    tail : (q : ℕ) → a.0 ≡ b.0 → row_of q xs ≡ row_of q ys
    tail q id =
        elim (nat_eq q a.0) as (λ t. nat_eq q a.0 ≡ t → cond t (Some a.1) (row_of q xs) ≡ cond (nat_eq q b.0) (Some b.1) (row_of q ys) → row_of q xs ≡ row_of q ys) [
          | true ↦ λ mine found.
              let same = eqb-true q a.0 mine in
              ap (λ k. row_of k xs) same ∙ not-above a.0 xs r.0 ∙ sym (ap (λ k. row_of k ys) (same ∙ id) ∙ not-above b.0 ys s.0)
          | false ↦ λ other found. found ∙ ap (λ t. cond t (Some b.1) (row_of q ys)) (ap (λ k. nat_eq q k) (sym id) ∙ other)
        ] refl (found q)

same-rows : (xs ys : List (ℕ × TaskRow)) → Rises (keys_of xs) → Rises (keys_of ys) → ((q : ℕ) → row_of q xs ≡ row_of q ys) → xs ≡ ys
same-rows xs ys r s found =
    same-values xs ys (same-numbers (keys_of xs) (keys_of ys) r s (λ q. sym (is_some-lookup (nat_eq q) xs) ∙ ap is_some (found q) ∙ is_some-lookup (nat_eq q) ys)) r s found

-- the rows of a table in their order are these, if under each id the same is found
pub shown : (es rows : List (ℕ × TaskRow)) → IsDistinct nat_eq (keys_of es) → Rises (keys_of rows) × ((q : ℕ) → row_of q es ≡ row_of q rows) → by_id es ≡ rows
shown es rows distinct is = same-rows (by_id es) rows (rises-by es distinct) is.0 (λ q. lookup-by q es distinct ∙ is.1 q)

-- ---- what holds in any order

length-with : (e : ℕ × TaskRow) (rows : List (ℕ × TaskRow)) → length (with_row e rows) ≡ suc (length rows)
length-with e [] = refl
length-with e (r ∷ rs) = elim (nat_lt e.0 r.0) as (λ b. length (cond b (e ∷ r ∷ rs) (r ∷ with_row e rs)) ≡ suc (suc (length rs))) [ true ↦ refl | false ↦ ap suc (length-with e rs) ]

pub length-by : (es : List (ℕ × TaskRow)) → length (by_id es) ≡ length es
length-by [] = refl
length-by (e ∷ es) = length-with e (by_id es) ∙ ap suc (length-by es)

any-with : (p : ℕ × TaskRow → Bool) (e : ℕ × TaskRow) (rows : List (ℕ × TaskRow)) → list_any p (with_row e rows) ≡ (p e || list_any p rows)
any-with p e [] = refl
any-with p e (r ∷ rs) =
    elim (nat_lt e.0 r.0) as (λ b. list_any p (cond b (e ∷ r ∷ rs) (r ∷ with_row e rs)) ≡ (p e || (p r || list_any p rs))) [
      | true ↦ refl
      | false ↦ ap (λ t. p r || t) (any-with p e rs) ∙ either (p r) (p e) (list_any p rs)
    ]
  where
    either : (a b c : Bool) → (a || (b || c)) ≡ (b || (a || c))
    either true true c = refl
    either true false c = refl
    either false true c = refl
    either false false c = refl

pub any-by : (p : ℕ × TaskRow → Bool) (es : List (ℕ × TaskRow)) → list_any p (by_id es) ≡ list_any p es
any-by p [] = refl
any-by p (e ∷ es) = any-with p e (by_id es) ∙ ap (λ t. p e || t) (any-by p es)

below-with : (n : ℕ) (e : ℕ × TaskRow) (rows : List (ℕ × TaskRow)) → e.0 < n → AreBelow n (keys_of rows) → AreBelow n (keys_of (with_row e rows))
below-with n e [] lt all = (lt, tt)
below-with n e (r ∷ rs) lt all =
    elim (nat_lt e.0 r.0) as (λ b. AreBelow n (keys_of (cond b (e ∷ r ∷ rs) (r ∷ with_row e rs)))) [ true ↦ (lt, all) | false ↦ (all.0, below-with n e rs lt all.1) ]

pub below-by : (made n : ℕ) (es : List (ℕ × TaskRow)) → made < n → AllByRecursion (λ k. k ≤ made) (keys_of es) → AreBelow n (keys_of (by_id es))
below-by made n [] lt all = tt
below-by made n (e ∷ es) lt all = let low : e.0 ≤ made = all.0 in below-with n e (by_id es) (omega (arith, lt, low)) (below-by made n es lt all.1)

-- ---- the lowest row that may go on

abbrev lowest : List (ℕ × TaskRow) → ℕ
lowest rows = unwrap_or (first_ready rows) nothing

lowest-cons : (r : ℕ × TaskRow) (rs : List (ℕ × TaskRow)) → lowest (r ∷ rs) ≡ cond (is_ready r.1) r.0 (lowest rs)
lowest-cons r rs = elim (is_ready r.1) as (λ b. unwrap_or (option_map (λ (row : ℕ × TaskRow). row.0) (cond b (Some r) (find (λ (row : ℕ × TaskRow). is_ready row.1) rs))) nothing ≡ cond b r.0 (lowest rs)) [ true ↦ refl | false ↦ refl ]

lowest-above : (n : ℕ) (rows : List (ℕ × TaskRow)) → n < nothing → AreAbove n (keys_of rows) → n ≤ lowest rows
lowest-above n [] low above = omega (arith, low)
lowest-above n (r ∷ rs) low above =
    let rest = lowest-above n rs low above.1 in
    let here : n < r.0 = above.0 in
    subst (λ m. n ≤ m) (sym (lowest-cons r rs)) (elim (is_ready r.1) as (λ b. n ≤ cond b r.0 (lowest rs)) [ true ↦ omega (arith, here) | false ↦ rest ])

lowest-nothing : (rows : List (ℕ × TaskRow)) → AreBelow nothing (keys_of rows) → lowest rows ≤ nothing
lowest-nothing [] below = omega arith
lowest-nothing (r ∷ rs) below =
    let rest = lowest-nothing rs below.1 in
    let here : r.0 < nothing = below.0 in
    subst (λ m. m ≤ nothing) (sym (lowest-cons r rs)) (elim (is_ready r.1) as (λ b. cond b r.0 (lowest rs) ≤ nothing) [ true ↦ omega (arith, here) | false ↦ rest ])

lowest-with : (e : ℕ × TaskRow) (rows : List (ℕ × TaskRow)) → Rises (keys_of rows) → AreBelow nothing (keys_of rows) → e.0 < nothing → lowest (with_row e rows) ≡ min (ready_number e) (lowest rows)
lowest-with e [] rises below low =
    lowest-cons e [] ∙ elim (is_ready e.1) as (λ b. cond b e.0 nothing ≡ min (cond b e.0 nothing) nothing) [ true ↦ omega (arith, low) | false ↦ omega arith ]
lowest-with e (r ∷ rs) rises below low =
    elim (nat_lt e.0 r.0) as (λ b. nat_lt e.0 r.0 ≡ b → lowest (cond b (e ∷ r ∷ rs) (r ∷ with_row e rs)) ≡ min (ready_number e) (lowest (r ∷ rs))) [
      | true ↦ λ lt.
          let less : e.0 < r.0 = ltb-true e.0 r.0 lt in
          let least-one = lowest-above e.0 (r ∷ rs) low (less, above-less e.0 r.0 (keys_of rs) less rises.0) in
          let most = lowest-nothing (r ∷ rs) below in
          lowest-cons e (r ∷ rs) ∙ elim (is_ready e.1) as (λ b. cond b e.0 (lowest (r ∷ rs)) ≡ min (cond b e.0 nothing) (lowest (r ∷ rs))) [ true ↦ omega (arith, least-one) | false ↦ omega (arith, most) ]
      | false ↦ λ ge.
          let le : r.0 ≤ e.0 = ltb-false e.0 r.0 ge in
          let here : r.0 < nothing = below.0 in
          lowest-cons r (with_row e rs) ∙ ap (λ n. cond (is_ready r.1) r.0 n) (lowest-with e rs rises.1 below.1 low)
          ∙ elim (is_ready r.1) as (λ b. cond b r.0 (min (ready_number e) (lowest rs)) ≡ min (ready_number e) (cond b r.0 (lowest rs))) [
            | true ↦ elim (is_ready e.1) as (λ b. r.0 ≡ min (cond b e.0 nothing) r.0) [ true ↦ omega (arith, le) | false ↦ omega (arith, here) ]
            | false ↦ refl
          ]
          ∙ ap (λ n. min (ready_number e) n) (sym (lowest-cons r rs))
    ] refl

below-nothing : (made : ℕ) (es : List (ℕ × TaskRow)) → made ≤ 2 ^ 63 → AllByRecursion (λ k. k ≤ made) (keys_of es) → AreBelow nothing (keys_of (by_id es))
below-nothing made es last all = below-by made nothing es (omega (arith, last)) all

least-lowest : (made : ℕ) (es : List (ℕ × TaskRow)) → made ≤ 2 ^ 63 → IsDistinct nat_eq (keys_of es) → AllByRecursion (λ k. k ≤ made) (keys_of es) → least (map ready_number es) ≡ lowest (by_id es)
least-lowest made [] last distinct all = refl
least-lowest made (e ∷ es) last distinct all =
    let tail = IsDistinct-tail nat_eq e.0 (keys_of es) distinct in
    let low : e.0 ≤ made = all.0 in
    ap (λ n. min (ready_number e) n) (least-lowest made es last tail all.1)
    ∙ sym (lowest-with e (by_id es) (rises-by es tail) (below-nothing made es last all.1) (omega (arith, last, low)))

found-below : (n : ℕ) (rows : List (ℕ × TaskRow)) → AreBelow nothing (keys_of rows) → first_ready rows ≡ Some n → n < nothing
found-below n [] below found = cc
found-below n (r ∷ rs) below found =
    elim (is_ready r.1) as (λ b. option_map (λ (row : ℕ × TaskRow). row.0) (cond b (Some r) (find (λ (row : ℕ × TaskRow). is_ready row.1) rs)) ≡ Some n → n < nothing) [
      | true ↦ λ here. let same : r.0 ≡ n = ap (λ (o : Option ℕ). unwrap_or o n) here in let low : r.0 < nothing = below.0 in omega (arith, same, low)
      | false ↦ λ rest. found-below n rs below.1 rest
    ] found

-- what stands for the lowest row that may go on
pub first-of : (made : ℕ) (es : List (ℕ × TaskRow)) (ns : List ℕ) (n : ℕ) → made ≤ 2 ^ 63 → IsDistinct nat_eq (keys_of es) → AllByRecursion (λ k. k ≤ made) (keys_of es) → ns ≡ map ready_number es → n ≡ least ns
    → (n ≡ nothing → None ≡ first_ready (by_id es)) × ((n ≡ nothing → ⊥) → Some n ≡ first_ready (by_id es))
first-of made es ns n last distinct all numbers is = by (first_ready (by_id es)) refl (is ∙ ap least numbers ∙ least-lowest made es last distinct all)
  where
    by : (o : Option ℕ) → first_ready (by_id es) ≡ o → n ≡ unwrap_or (first_ready (by_id es)) nothing → (n ≡ nothing → None ≡ first_ready (by_id es)) × ((n ≡ nothing → ⊥) → Some n ≡ first_ready (by_id es))
    by None at same = (λ none. sym at, λ some. absurd (some (same ∙ ap (λ (o : Option ℕ). unwrap_or o nothing) at)))
    by (Some m) at same =
        let e : n ≡ m = same ∙ ap (λ (o : Option ℕ). unwrap_or o nothing) at in
        let low = found-below m (by_id es) (below-nothing made es last all) at in (λ none. absurd (omega (arith, none, e, low)), λ some. ap Some e ∙ sym at)

-- the tree of a table has the lowest row that may go on
pub first-is : (made : ℕ) (es : List (ℕ × TaskRow)) (ns : List ℕ) (n : ℕ) → made ≤ 2 ^ 63 → IsDistinct nat_eq (keys_of es) → AllByRecursion (λ k. k ≤ made) (keys_of es) → ns ≡ map ready_number es → n ≡ least ns
    → some_id_of n ≡ first_ready (by_id es)
first-is made es ns n last distinct all numbers is =
    let both = first-of made es ns n last distinct all numbers is in
    elim (n == nothing) as (λ b. (n == nothing) ≡ b → cond b None (Some n) ≡ first_ready (by_id es)) [
      | true ↦ λ none. both.0 (eqb-true n nothing none)
      | false ↦ λ some. both.1 (eqb-false n nothing some)
    ] refl
