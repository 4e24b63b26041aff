use Rattle.std.proofs.Common.{◌≡◌, ℕ, zero, suc, ◌+◌, ◌<◌, ◌≤◌, ◌≢◌, nat_lt, drop, take, Bool, true, false, cond, List, [], ◌∷◌, ◌++◌, length, get_or, slice_get, position, Option, None, Some, is_some, nat_eq, refl, sym, ap, subst, ◌∙◌, true≢false, add-one, arith}
use Rattle.std.specs.Prelude.{◌||◌, ◌==◌, is_none, IsTrue}
use Rattle.std.specs.Cmp.{nat_eq_equiv}
use Rattle.std.specs.List.{AllByRecursion, IsDistinct, list_any}
use Rattle.std.specs.List.Sorted.{IsPermutation, IsSorted, IsStrictlyIncreasing}
use Rattle.std.specs.Map.{keys_of, values_of, lookup, remove_entry, set_value}
use Rattle.std.specs.Option.{IsSome}
use Rattle.std.specs.Ordering.{nat_cmp}
use Rattle.std.proofs.lemmas.Bool.{eqb-true, eqb-false, eq-eqb, ne_eqb, ltb-true, ltb-false}
use Rattle.std.proofs.lemmas.List.Sorted.{IsNonDecreasingBy-from_sort, list_any-IsPermutation}
use Rattle.std.proofs.lemmas.List.Quantifiers.{position-Some}
use Rattle.std.proofs.lemmas.Map.{keys-set_value, lookup-remove_entry, lookup-set_value}
use Rattle.std.proofs.lemmas.Map.Keys.{IsDistinct-IsPermutation, IsDistinct-cons, IsStrictlyIncreasing-from_distinct}
use Rattle.std.proofs.lemmas.Map.Made.{is_some-lookup}
use native.Mathlib.Numerals.{unary_clauses}
use Rattle.rising_map.specs.Rows.{AreAbove, AreBelow, Rises, first_row}

-- ---- numbers that rise

pub above-push : (n : ℕ) (ms : List ℕ) (k : ℕ) → AreAbove n ms → n < k → AreAbove n (ms ++ k ∷ [])
above-push n [] k a h = (h, tt)
above-push n (m ∷ ms) k a h = (a.0, above-push n ms k a.1 h)

rises-push : (ns : List ℕ) (k : ℕ) → Rises ns → AreBelow k ns → Rises (ns ++ k ∷ [])
rises-push [] k r b = (tt, tt)
rises-push (n ∷ ns) k r b = (above-push n ns k r.0 b.0, rises-push ns k r.1 b.1)

above-apart : (n : ℕ) (ms : List ℕ) → AreAbove n ms → AllByRecursion (λ k. nat_eq n k ≡ false) ms
above-apart n [] a = tt
above-apart n (m ∷ ms) a = (ne_eqb n m (λ same. omega (arith, a.0, same)), above-apart n ms a.1)

pub rises-distinct : (ns : List ℕ) → Rises ns → IsDistinct nat_eq ns
unfolding IsDistinct
rises-distinct [] r = tt
rises-distinct (n ∷ ns) r = IsDistinct-cons nat_eq n ns (above-apart n ns r.0) (rises-distinct ns r.1)

above-less : (n m : ℕ) (ms : List ℕ) → n < m → AreAbove m ms → AreAbove n ms
above-less n m [] h a = tt
above-less n m (k ∷ ks) h a = let above : m < k = a.0 in (omega (arith, h, above), above-less n m ks h a.1)

rises-from : (ns : List ℕ) → IsStrictlyIncreasing ns → Rises ns
rises-from [] h = tt
rises-from (n ∷ []) h = (tt, tt)
rises-from (n ∷ m ∷ ms) h =
    let rest = rises-from (m ∷ ms) (λ k within. next k (h (k + 1) (omega (arith, within)))) in
    let first : n < m = h 0 (omega arith) in ((first, above-less n m ms first rest.0), rest)
  where
    next : (k : ℕ) → get_or (n ∷ m ∷ ms) (k + 1) 0 < get_or (n ∷ m ∷ ms) (k + 1 + 1) 0 → get_or (m ∷ ms) k 0 < get_or (m ∷ ms) (k + 1) 0
    next k less = simp unary_clauses (simp unary_clauses at less)

-- ---- numbers that are there

not-above : (n : ℕ) (ms : List ℕ) → AreAbove n ms → list_any (nat_eq n) ms ≡ false
not-above n [] a = refl
not-above n (m ∷ ms) a = ap (λ t. t || list_any (nat_eq n) ms) (ne_eqb n m (λ same. omega (arith, a.0, same))) ∙ not-above n ms a.1

itself : (n : ℕ) (ms : List ℕ) → list_any (nat_eq n) (n ∷ ms) ≡ true
itself n ms = ap (λ t. t || list_any (nat_eq n) ms) (eq-eqb n n refl)

-- numbers that rise and are the same numbers are one list
pub same-numbers : (ms ks : List ℕ) → Rises ms → Rises ks → ((q : ℕ) → list_any (nat_eq q) ms ≡ list_any (nat_eq q) ks) → ms ≡ ks
same-numbers [] [] r s h = refl
same-numbers [] (b ∷ bs) r s h = absurd (true≢false (sym (itself b bs) ∙ sym (h b)))
same-numbers (a ∷ ns) [] r s h = absurd (true≢false (sym (itself a ns) ∙ h a))
same-numbers (a ∷ ns) (b ∷ bs) r s h = pick (nat_eq a b) refl (λ same. same-numbers ns bs r.1 s.1 (tails same))
  where
    not-in : (m k : ℕ) (ls : List ℕ) → m < k → AreAbove k ls → list_any (nat_eq m) (k ∷ ls) ≡ false
    not-in m k ls lt above = not-above m (k ∷ ls) (lt, above-less m k ls lt above)

    tails : a ≡ b → (q : ℕ) → list_any (nat_eq q) ns ≡ list_any (nat_eq q) bs
    tails same q = at (nat_eq q a) refl (h q)
      where
        at : (t : Bool) → nat_eq q a ≡ t → (nat_eq q a || list_any (nat_eq q) ns) ≡ (nat_eq q b || list_any (nat_eq q) bs) → list_any (nat_eq q) ns ≡ list_any (nat_eq q) bs
        at true e k =
            let mine : q ≡ a = eqb-true q a e in
            subst (λ (n : ℕ). list_any (nat_eq n) ns ≡ false) (sym mine) (not-above a ns r.0)
            ∙ sym (subst (λ (n : ℕ). list_any (nat_eq n) bs ≡ false) (sym (mine ∙ same)) (not-above b bs s.0))
        at false e k =
            sym (ap (λ t. t || list_any (nat_eq q) ns) e) ∙ k
            ∙ ap (λ t. t || list_any (nat_eq q) bs) (sym (ap (λ n. nat_eq q n) same) ∙ e)

    order : (a ≡ b → ⊥) → (t : Bool) → nat_lt a b ≡ t → a ∷ ns ≡ b ∷ bs
    order apart true lt = absurd (true≢false (sym (itself a ns) ∙ h a ∙ not-in a b bs (ltb-true a b lt) s.0))
    order apart false ge =
        let le : b ≤ a = ltb-false a b ge in let ne : a ≢ b = apart in absurd (true≢false (sym (itself b bs) ∙ sym (h b) ∙ not-in b a ns (omega (arith, le, ne)) r.0))

    pick : (t : Bool) → nat_eq a b ≡ t → (a ≡ b → ns ≡ bs) → a ∷ ns ≡ b ∷ bs
    pick true e go = let same : a ≡ b = eqb-true a b e in let rest = go same in λ j. same j ∷ rest j
    pick false e go = order (eqb-false a b e) (nat_lt a b) refl

-- the numbers of a map, sorted, are those of its rows
pub sorted-numbers : {T : Type 0} (es rows : List (ℕ × T)) (numbers : List ℕ) → IsDistinct nat_eq (keys_of es) → IsPermutation (keys_of es) numbers → IsSorted nat_cmp numbers → Rises (keys_of rows)
    → ((q : ℕ) → lookup (nat_eq q) es ≡ lookup (nat_eq q) rows) → numbers ≡ keys_of rows
sorted-numbers es rows numbers distinct moved sorted rises found =
    same-numbers numbers (keys_of rows)
    (rises-from numbers (IsStrictlyIncreasing-from_distinct numbers (IsNonDecreasingBy-from_sort (λ (n : ℕ). n) numbers sorted) (IsDistinct-IsPermutation nat_eq nat_eq_equiv.symm (keys_of es) numbers moved distinct)))
    rises
    (λ q. sym (list_any-IsPermutation (nat_eq q) (keys_of es) numbers moved) ∙ sym (is_some-lookup (nat_eq q) es) ∙ ap is_some (found q) ∙ is_some-lookup (nat_eq q) rows)

-- ---- rows

keys-push : {T : Type 0} (es : List (ℕ × T)) (e : ℕ × T) → keys_of (es ++ e ∷ []) ≡ keys_of es ++ e.0 ∷ []
keys-push [] e = refl
keys-push (x ∷ es) e = ap (λ (ks : List ℕ). x.0 ∷ ks) (keys-push es e)

lookup-push : {T : Type 0} (n q : ℕ) (x : T) (es : List (ℕ × T)) → AreBelow n (keys_of es) → cond (nat_eq n q) (Some x) (lookup (nat_eq q) es) ≡ lookup (nat_eq q) (es ++ (n, x) ∷ [])
lookup-push n q x [] b = ap (λ t. cond t (Some x) None) (nat_eq_equiv.symm n q)
lookup-push {T} n q x (e ∷ es) b = pick (nat_eq q e.0) refl (nat_eq n q) refl (lookup-push n q x es b.1)
  where
    rest : Option T
    rest = lookup (nat_eq q) (es ++ (n, x) ∷ [])

    pick : (t : Bool) → nat_eq q e.0 ≡ t → (u : Bool) → nat_eq n q ≡ u → cond (nat_eq n q) (Some x) (lookup (nat_eq q) es) ≡ rest
        → cond u (Some x) (cond t (Some e.1) (lookup (nat_eq q) es)) ≡ cond t (Some e.1) rest
    pick true at true is go =
        let low : e.0 < n = b.0 in let here : q ≡ e.0 = eqb-true q e.0 at in let there : n ≡ q = eqb-true n q is in absurd (omega (arith, low, here, there))
    pick true at false is go = refl
    pick false at true is go = sym (ap (λ u. cond u (Some x) (lookup (nat_eq q) es)) is) ∙ go
    pick false at false is go = sym (ap (λ u. cond u (Some x) (lookup (nat_eq q) es)) is) ∙ go

pub pushed : {T : Type 0} (rows es new : List (ℕ × T)) (n : ℕ) (x : T) → Rises (keys_of rows) → ((q : ℕ) → lookup (nat_eq q) es ≡ lookup (nat_eq q) rows) → AreBelow n (keys_of rows)
    → ((q : ℕ) → lookup (nat_eq q) new ≡ cond (nat_eq n q) (Some x) (lookup (nat_eq q) es)) → Rises (keys_of (rows ++ (n, x) ∷ [])) × ((q : ℕ) → lookup (nat_eq q) new ≡ lookup (nat_eq q) (rows ++ (n, x) ∷ []))
pushed rows es new n x rises found below updates = (
  rw (keys-push rows (n, x)) (rises-push (keys_of rows) n rises below),
  λ q. updates q ∙ ap (λ o. cond (nat_eq n q) (Some x) o) (found q) ∙ lookup-push n q x rows below,
)

pub replaced : {T : Type 0} (rows es new : List (ℕ × T)) (n : ℕ) (x : T) → Rises (keys_of rows) → ((q : ℕ) → lookup (nat_eq q) es ≡ lookup (nat_eq q) rows) → IsSome (lookup (nat_eq n) es)
    → ((q : ℕ) → lookup (nat_eq q) new ≡ cond (nat_eq n q) (Some x) (lookup (nat_eq q) es)) → Rises (keys_of (set_value (nat_eq n) rows x)) × ((q : ℕ) → lookup (nat_eq q) new ≡ lookup (nat_eq q) (set_value (nat_eq n) rows x))
replaced rows es new n x rises found there updates = (
  rw (keys-set_value (nat_eq n) rows x) rises,
  λ q. updates q ∙ ap (λ o. cond (nat_eq n q) (Some x) o) (found q)
      ∙ sym (lookup-set_value nat_eq_equiv (nat_eq n) (λ a b t. ap (λ m. nat_eq m b) (eqb-true n a t)) q x rows (subst IsSome (found n) there)),
)

-- no row of the number is there
pub unreplaced : {T : Type 0} (rows es : List (ℕ × T)) (n : ℕ) (x : T) → Rises (keys_of rows) → ((q : ℕ) → lookup (nat_eq q) es ≡ lookup (nat_eq q) rows) → lookup (nat_eq n) es ≡ None
    → Rises (keys_of (set_value (nat_eq n) rows x)) × ((q : ℕ) → lookup (nat_eq q) es ≡ lookup (nat_eq q) (set_value (nat_eq n) rows x))
unreplaced {T} rows es n x rises found none = (
  rw (keys-set_value (nat_eq n) rows x) rises,
  λ q. found q ∙ ap (λ rs. lookup (nat_eq q) rs) (sym (same rows (sym (found n) ∙ none))),
)
  where
    same : (rs : List (ℕ × T)) → lookup (nat_eq n) rs ≡ None → set_value (nat_eq n) rs x ≡ rs
    same [] e = refl
    same (r ∷ rs) e = pick (nat_eq n r.0) e (same rs)
      where
        pick : (t : Bool) → cond t (Some r.1) (lookup (nat_eq n) rs) ≡ None → (lookup (nat_eq n) rs ≡ None → set_value (nat_eq n) rs x ≡ rs) → cond t ((r.0, x) ∷ rs) (r ∷ set_value (nat_eq n) rs x) ≡ r ∷ rs
        pick true f go = cc
        pick false f go = ap (λ l. r ∷ l) (go f)

above-removed : {T : Type 0} (m n : ℕ) (rows : List (ℕ × T)) → AreAbove m (keys_of rows) → AreAbove m (keys_of (remove_entry (nat_eq n) rows))
above-removed m n [] a = tt
above-removed {T} m n (r ∷ rs) a = pick (nat_eq n r.0) (above-removed m n rs a.1)
  where
    pick : (t : Bool) → AreAbove m (keys_of (remove_entry (nat_eq n) rs)) → AreAbove m (keys_of (cond t rs (r ∷ remove_entry (nat_eq n) rs)))
    pick true go = a.1
    pick false go = (a.0, go)

rises-removed : {T : Type 0} (n : ℕ) (rows : List (ℕ × T)) → Rises (keys_of rows) → Rises (keys_of (remove_entry (nat_eq n) rows))
rises-removed n [] a = tt
rises-removed {T} n (r ∷ rs) a = pick (nat_eq n r.0) (rises-removed n rs a.1)
  where
    pick : (t : Bool) → Rises (keys_of (remove_entry (nat_eq n) rs)) → Rises (keys_of (cond t rs (r ∷ remove_entry (nat_eq n) rs)))
    pick true go = a.1
    pick false go = (above-removed r.0 n rs a.0, go)

pub taken : {T : Type 0} (rows es new : List (ℕ × T)) (n : ℕ) → Rises (keys_of rows) → ((q : ℕ) → lookup (nat_eq q) es ≡ lookup (nat_eq q) rows)
    → ((q : ℕ) → lookup (nat_eq q) new ≡ cond (nat_eq n q) None (lookup (nat_eq q) es)) → Rises (keys_of (remove_entry (nat_eq n) rows)) × ((q : ℕ) → lookup (nat_eq q) new ≡ lookup (nat_eq q) (remove_entry (nat_eq n) rows))
taken rows es new n rises found updates = (
  rises-removed n rows rises,
  λ q. updates q ∙ ap (λ o. cond (nat_eq n q) None o) (found q)
      ∙ sym (lookup-remove_entry nat_eq_equiv (nat_eq n) (λ a b t. ap (λ m. nat_eq m b) (eqb-true n a t)) q rows (rises-distinct (keys_of rows) rises)),
)

entry-here : {T : Type 0} (r : ℕ) (es : List (ℕ × T)) (i : ℕ) (v : T) → i < length (keys_of es) → r ≡ get_or (keys_of es) i r → slice_get (values_of es) i ≡ Some v → slice_get es i ≡ Some (r, v)
entry-here r [] i v within key value = absurd (omega arith)
entry-here r (e ∷ es) zero v within key value = let mine : e.1 ≡ v = cc in λ j. Some (sym key j, mine j)
entry-here r (e ∷ es) (suc i) v within key value = entry-here r es i v (omega arith) key value

-- what stands at the index of a number
pub entry-at : {T : Type 0} (r : ℕ) (es : List (ℕ × T)) (i : ℕ) (v : T) → position (nat_eq r) (keys_of es) ≡ Some i → slice_get (values_of es) i ≡ Some v → slice_get es i ≡ Some (r, v)
entry-at r es i v index value =
    let at = position-Some (nat_eq r) (keys_of es) i r index in entry-here r es i v at.0 (eqb-true r (get_or (keys_of es) i r) at.1) value

pub none-from : {T : Type 0} (o : Option T) → false ≡ is_some o → o ≡ None
none-from None h = refl
none-from (Some x) h = absurd (true≢false (sym h))

-- a map has an entry exactly if it has a row
pub empty-rows : {T : Type 0} (rows es : List (ℕ × T)) → ((q : ℕ) → lookup (nat_eq q) es ≡ lookup (nat_eq q) rows) → (length es == 0) ≡ is_none (first_row rows)
empty-rows [] [] found = refl
empty-rows [] (e ∷ es) found = absurd (true≢false (sym (ap (λ t. is_some (cond t (Some e.1) (lookup (nat_eq e.0) es))) (eq-eqb e.0 e.0 refl)) ∙ ap is_some (found e.0)))
empty-rows (r ∷ rs) [] found = absurd (true≢false (sym (ap (λ t. is_some (cond t (Some r.1) (lookup (nat_eq r.0) rs))) (eq-eqb r.0 r.0 refl)) ∙ sym (ap is_some (found r.0))))
empty-rows (r ∷ rs) (e ∷ es) found = ne_eqb (length (e ∷ es)) 0 (λ same. omega (arith, same))

pub tells : (b : Bool) (n : ℕ) → (IsTrue b → n ≡ 0) × (n ≡ 0 → IsTrue b) → b ≡ (n == 0)
tells true n both = sym (eq-eqb n 0 (both.0 refl))
tells false n both = sym (ne_eqb n 0 (λ same. true≢false (sym (both.1 same))))

-- ---- rows one after another

-- the row after the first ones
pub next-row : {T : Type 0} (rows : List (ℕ × T)) (i : ℕ) → i < length (keys_of rows)
    → (row : ℕ × T) × ((drop i rows ≡ row ∷ drop (suc i) rows) × ((get_or (keys_of rows) i 0 ≡ row.0) × (take (suc i) (values_of rows) ≡ take i (values_of rows) ++ row.1 ∷ [])))
next-row [] i h = absurd (omega arith)
next-row {T} (r ∷ rs) zero h = (r, (refl, (refl, refl)))
next-row {T} (r ∷ rs) (suc i) h =
    let rest = next-row rs i (omega arith) in (rest.0, (rest.1.0, (rest.1.1.0, ap (λ l. r.1 ∷ l) rest.1.1.1)))

-- The first of the rows that are left, found by its number and taken away.
pub record IsNext {T : Type 0} (numbers : List ℕ) (rows : List (ℕ × T)) (i : ℕ) : Type 0 where
  pub row : T
  pub found : lookup (nat_eq (get_or numbers i 0)) (drop i rows) ≡ Some row
  pub removed : remove_entry (nat_eq (get_or numbers i 0)) (drop i rows) ≡ drop (i + 1) rows
  pub more : take (i + 1) (values_of rows) ≡ take i (values_of rows) ++ row ∷ []

pub next-of : {T : Type 0} (numbers : List ℕ) (rows : List (ℕ × T)) (i : ℕ) → numbers ≡ keys_of rows → i < length numbers → IsNext numbers rows i
next-of {T} numbers rows i keys within =
    let at = next-row rows i (subst (λ (l : List ℕ). i < length l) keys within) in
    let n = get_or numbers i 0 in
    let same : n ≡ at.0.0 = ap (λ (l : List ℕ). get_or l i 0) keys ∙ at.1.1.0 in record {
      row = at.0.1;
      found = ap (lookup (nat_eq n)) at.1.0 ∙ ap (λ b. cond b (Some at.0.1) (lookup (nat_eq n) (drop (suc i) rows))) (eq-eqb n at.0.0 same);
      removed = ap (remove_entry (nat_eq n)) at.1.0 ∙ ap (λ b. cond b (drop (suc i) rows) (at.0 ∷ remove_entry (nat_eq n) (drop (suc i) rows))) (eq-eqb n at.0.0 same) ∙ ap (λ k. drop k rows) (sym (add-one i));
      more = ap (λ k. take k (values_of rows)) (add-one i) ∙ at.1.1.1;
    }
