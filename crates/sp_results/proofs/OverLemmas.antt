use Rattle.std.proofs.Common.{◌≡◌, ℕ, suc, ◌<◌, ◌≤◌, Bool, true, false, cond, List, [], ◌∷◌, ◌++◌, length, map, filter, Option, None, Some, nat_eq, refl, sym, ap, ◌∙◌, arith}
use Rattle.std.specs.Prelude.{◌==◌, ◌&&◌, ◌||◌, nat_le, not}
use Rattle.std.specs.List.{AllByRecursion, IsDistinct, flat_map, list_any}
use Rattle.std.specs.List.Sorted.{IsPermutation, IsSorted}
use Rattle.std.specs.Ordering.{nat_cmp}
use Rattle.std.specs.Map.{keys_of, values_of, lookup}
use Rattle.std.proofs.lemmas.Bool.{eqb-true, eq-eqb, ne_eqb, leb-false, lt-leb}
use Rattle.std.proofs.lemmas.List.Concat.{flat_map-append}
use Rattle.std.proofs.lemmas.List.Folds.{list_any-append}
use Rattle.std.proofs.lemmas.Map.Keys.{IsDistinct-cons}
use Rattle.space_ids.specs.declared.ids.ObjId.{ObjId}
use Rattle.space_ids.specs.declared.ids.Ref.{Ref}
use Rattle.space_ids.specs.declared.value.Value.{Value}
use Rattle.uuid.specs.declared.Uuid.{Uuid}
use Rattle.rising_map.specs.Rows.{AreAbove, Rises}
use Rattle.rising_map.proofs.RowLemmas.{sorted-numbers}
use Rattle.sp_rules.specs.OwnEvents.{is_over_at}
use Rattle.sp_rules.specs.References.{is_id_in, is_reference_in, own_ids, own_id, references_in}
use Rattle.sp_rules.specs.State.{KeptResult, Until, RootAcked, Acked, Passed}
use Rattle.sp_results.specs.Ended.{AreFrom, over}
use Rattle.sp_results.specs.Held.{AreCallResults, AreTicketed, of_calls, orphan_in, orphans_in, references_found, references_of_results, valued}
use Rattle.sp_results.specs.Numbers.{HaveSame}
use Rattle.sp_results.specs.declared.call_results.CallResults.{CallResults}
use Rattle.sp_results.specs.declared.orphans.Orphan.{Orphan}
use Rattle.sp_results.proofs.CallLemmas.{Results, filter-of, filter-values, over-of-call}
use Rattle.sp_results.proofs.EndLemmas.{count, count-cons, one}
use Rattle.sp_results.proofs.HeldLemmas.{rises-of}
use Rattle.sp_results.proofs.TicketLemmas.{Row, Rows, keys-valued, rises-left}

abbrev until_at : Row → Until → Row
until_at x u = (x.0, record { until = u; value = x.1.value })

abbrev pub is_due : ℕ → Orphan → Bool
is_due moment o = nat_le o.until moment

-- ---- those of the front are all whose moment has come

never-due : (k moment : ℕ) (os : List Orphan) → AreFrom k os → moment < k → filter (is_due moment) os ≡ []
never-due k moment [] from low = refl
never-due k moment (o ∷ os) from low =
    let first : k ≤ o.until = from.0 in
    ap (λ b. cond b (o ∷ filter (is_due moment) os) (filter (is_due moment) os)) (lt-leb o.until moment (omega (arith, first, low))) ∙ never-due o.until moment os from.1 (omega (arith, first, low))

pub over-due : (k moment : ℕ) (os : List Orphan) → AreFrom k os → over moment os ≡ filter (is_due moment) os
over-due k moment [] from = refl
over-due k moment (o ∷ os) from = pick (is_due moment o) refl (over-due o.until moment os from.1)
  where
    pick : (b : Bool) → is_due moment o ≡ b → over moment os ≡ filter (is_due moment) os → cond b (o ∷ over moment os) [] ≡ cond b (o ∷ filter (is_due moment) os) (filter (is_due moment) os)
    pick true is go = ap (λ (l : List Orphan). o ∷ l) go
    pick false is go = sym (never-due o.until moment os from.1 (leb-false o.until moment is))

-- ---- the same are among two lists that have the same

any-count : {A : Type 0} (p : A → Bool) (xs : List A) → list_any p xs ≡ not (count p xs == 0)
any-count p [] = sym (ap not (eq-eqb 0 0 refl))
any-count {A} p (x ∷ xs) = pick (p x) (any-count p xs)
  where
    pick : (b : Bool) → list_any p xs ≡ not (count p xs == 0) → (b || list_any p xs) ≡ not (length (cond b (x ∷ filter p xs) (filter p xs)) == 0)
    pick true go = let more = ne_eqb (suc (count p xs)) 0 (λ same. omega (arith, same)) in sym (ap not more)
    pick false go = go

pub any-same : {A : Type 0} (p : A → Bool) (xs ys : List A) → HaveSame xs ys → list_any p xs ≡ list_any p ys
any-same p xs ys same = any-count p xs ∙ ap (λ n. not (n == 0)) (same p) ∙ sym (any-count p ys)

abbrev tickets : List Orphan → List ℕ
tickets os = map (λ (o : Orphan). o.ticket) os

-- a ticket is due if it is the ticket of one that is due
abbrev is_due_as : ℕ → ℕ → Orphan → Bool
is_due_as moment q o = is_due moment o && nat_eq q o.ticket

any-due : (moment q : ℕ) (os : List Orphan) → list_any (nat_eq q) (tickets (filter (is_due moment) os)) ≡ list_any (is_due_as moment q) os
any-due moment q [] = refl
any-due moment q (o ∷ os) = pick (is_due moment o) (any-due moment q os)
  where
    pick : (b : Bool) → list_any (nat_eq q) (tickets (filter (is_due moment) os)) ≡ list_any (is_due_as moment q) os
        → list_any (nat_eq q) (tickets (cond b (o ∷ filter (is_due moment) os) (filter (is_due moment) os))) ≡ ((b && nat_eq q o.ticket) || list_any (is_due_as moment q) os)
    pick true go = ap (λ t. nat_eq q o.ticket || t) go
    pick false go = go

abbrev pub is_over : ℕ → Row → Bool
is_over moment row = is_over_at moment row.1

any-over : (moment q : ℕ) (rows : Rows) → list_any (is_due_as moment q) (orphans_in rows) ≡ list_any (nat_eq q) (keys_of (filter (is_over moment) rows))
any-over moment q [] = refl
any-over moment q (x ∷ xs) = at x.1.until (any-over moment q xs)
  where
    rest : Rows
    rest = filter (is_over moment) xs

    at : (u : Until) → list_any (is_due_as moment q) (orphans_in xs) ≡ list_any (nat_eq q) (keys_of rest)
        → list_any (is_due_as moment q) (orphan_in (until_at x u) ++ orphans_in xs) ≡ list_any (nat_eq q) (keys_of (cond (is_over moment (until_at x u)) (until_at x u ∷ rest) rest))
    at (RootAcked task) go = go
    at (Acked c n) go = go
    at (Passed m) go = pick (nat_le m moment)
      where
        pick : (b : Bool) → ((b && nat_eq q x.0) || list_any (is_due_as moment q) (orphans_in xs)) ≡ list_any (nat_eq q) (keys_of (cond b (until_at x (Passed m) ∷ rest) rest))
        pick true = ap (λ t. nat_eq q x.0 || t) go
        pick false = go

-- ---- each ticket stands once

abbrev has : ℕ → Orphan → Bool
has q o = nat_eq q o.ticket

none-above : (q s : ℕ) (rows : Rows) → AreAbove s (keys_of rows) → q ≤ s → count (has q) (orphans_in rows) ≡ 0
none-above q s [] above low = refl
none-above q s (x ∷ xs) above low = at x.1.until (none-above q s xs above.1 low)
  where
    at : (u : Until) → count (has q) (orphans_in xs) ≡ 0 → count (has q) (orphan_in (until_at x u) ++ orphans_in xs) ≡ 0
    at (RootAcked task) go = go
    at (Acked c n) go = go
    at (Passed m) go =
        let o : Orphan = record { until = m; ticket = x.0 } in
        let high : s < x.0 = above.0 in
        ap (λ b. length (cond b (o ∷ filter (has q) (orphans_in xs)) (filter (has q) (orphans_in xs)))) (ne_eqb q x.0 (λ same. omega (arith, same, high, low))) ∙ go

at-most-one : (q : ℕ) (rows : Rows) → Rises (keys_of rows) → count (has q) (orphans_in rows) ≤ 1
at-most-one q [] rises = omega arith
at-most-one q (x ∷ xs) rises = at x.1.until (at-most-one q xs rises.1)
  where
    at : (u : Until) → count (has q) (orphans_in xs) ≤ 1 → count (has q) (orphan_in (until_at x u) ++ orphans_in xs) ≤ 1
    at (RootAcked task) go = go
    at (Acked c n) go = go
    at (Passed m) go = pick (nat_eq q x.0) refl
      where
        o : Orphan
        o = record { until = m; ticket = x.0 }

        pick : (b : Bool) → nat_eq q x.0 ≡ b → length (cond b (o ∷ filter (has q) (orphans_in xs)) (filter (has q) (orphans_in xs))) ≤ 1
        pick true is = let same : q ≡ x.0 = eqb-true q x.0 is in let none = none-above q x.0 xs rises.0 (omega (arith, same)) in omega (arith, none)
        pick false is = go

apart-due : (t moment : ℕ) (os : List Orphan) → count (has t) os ≡ 0 → AllByRecursion (λ k. nat_eq t k ≡ false) (tickets (filter (is_due moment) os))
apart-due t moment [] none = tt
apart-due t moment (o ∷ os) none = pick (nat_eq t o.ticket) refl none (apart-due t moment os)
  where
    rest : List Orphan
    rest = filter (is_due moment) os

    last : nat_eq t o.ticket ≡ false → (b : Bool) → AllByRecursion (λ k. nat_eq t k ≡ false) (tickets rest) → AllByRecursion (λ k. nat_eq t k ≡ false) (tickets (cond b (o ∷ rest) rest))
    last apart true go = (apart, go)
    last apart false go = go

    pick : (b : Bool) → nat_eq t o.ticket ≡ b → length (cond b (o ∷ filter (has t) os) (filter (has t) os)) ≡ 0 → (count (has t) os ≡ 0 → AllByRecursion (λ k. nat_eq t k ≡ false) (tickets rest))
        → AllByRecursion (λ k. nat_eq t k ≡ false) (tickets (cond (is_due moment o) (o ∷ rest) rest))
    pick true is f go = absurd (omega (arith, f))
    pick false is f go = last is (is_due moment o) (go f)

pub distinct-due : (moment : ℕ) (os : List Orphan) → ((q : ℕ) → count (has q) os ≤ 1) → IsDistinct nat_eq (tickets (filter (is_due moment) os))
unfolding IsDistinct
distinct-due moment [] few = tt
distinct-due moment (o ∷ os) few = pick (is_due moment o) (distinct-due moment os (λ q. let all = few q in let this = count-cons (has q) o os in omega (arith, all, this)))
  where
    rest : List Orphan
    rest = filter (is_due moment) os

    none : count (has o.ticket) os ≡ 0
    none = let all = few o.ticket in let this = count-cons (has o.ticket) o os in let here = ap one (eq-eqb o.ticket o.ticket refl) in omega (arith, all, this, here)

    pick : (b : Bool) → IsDistinct nat_eq (tickets rest) → IsDistinct nat_eq (tickets (cond b (o ∷ rest) rest))
    pick true go = IsDistinct-cons nat_eq o.ticket (tickets rest) (apart-due o.ticket moment os none) go
    pick false go = go

-- ---- tickets, sorted

abbrev units : List ℕ → List (ℕ × Unit {0})
units ns = map (λ (n : ℕ). (n, tt)) ns

keys-units : (ns : List ℕ) → keys_of (units ns) ≡ ns
keys-units [] = refl
keys-units (n ∷ ns) = ap (λ (l : List ℕ). n ∷ l) (keys-units ns)

lookup-units : (q : ℕ) (ns : List ℕ) → lookup (nat_eq q) (units ns) ≡ cond (list_any (nat_eq q) ns) (Some tt) None
lookup-units q [] = refl
lookup-units q (n ∷ ns) = pick (nat_eq q n) (lookup-units q ns)
  where
    pick : (b : Bool) → lookup (nat_eq q) (units ns) ≡ cond (list_any (nat_eq q) ns) (Some tt) None → cond b (Some tt) (lookup (nat_eq q) (units ns)) ≡ cond (b || list_any (nat_eq q) ns) (Some tt) None
    pick true go = refl
    pick false go = go

pub same-sorted : (ms ns ks : List ℕ) → IsDistinct nat_eq ms → IsPermutation ms ns → IsSorted nat_cmp ns → Rises ks → ((q : ℕ) → list_any (nat_eq q) ms ≡ list_any (nat_eq q) ks) → ns ≡ ks
same-sorted ms ns ks distinct moved sorted rises same =
    sorted-numbers (units ms) (units ks) ns (rw (keys-units ms) distinct) (rw (keys-units ms) moved) sorted (rw (keys-units ks) rises)
    (λ q. lookup-units q ms ∙ ap (λ (b : Bool). cond {A = Option (Unit {0})} b (Some tt) None) (same q) ∙ sym (lookup-units q ks))
    ∙ keys-units ks

-- the tickets of those whose moment has come, sorted
pub sorted-over : (before moment : ℕ) (rows : Rows) (table : CallResults) (ms ns : List ℕ) → ms ≡ map (λ (o : Orphan). o.ticket) (over moment table.orphans.queue.items) → IsPermutation ms ns → IsSorted nat_cmp ns → AreTicketed before rows table
    → ns ≡ keys_of (filter (is_over moment) rows)
sorted-over before moment rows table ms ns front moved sorted a =
    let os = table.orphans.queue.items in
    let rises = rises-of rows table a.values in
    let due : ms ≡ tickets (filter (is_due moment) os) = front ∙ ap tickets (over-due 0 moment os a.in_order) in
    same-sorted ms ns (keys_of (filter (is_over moment) rows))
    (rw (due) (distinct-due moment os (λ q. let same = a.ended (has q) in let few = at-most-one q rows rises in omega (arith, same, few))))
    moved sorted (rises-left (is_over moment) rows rises)
    (λ q. ap (list_any (nat_eq q)) due ∙ any-due moment q os ∙ any-same (is_due_as moment q) os (orphans_in rows) a.ended ∙ any-over moment q rows)

-- ---- the references in results

-- what is found at tickets above another is found without it
later-found : (s : ℕ) (v : Option Value) (es : List (ℕ × Option Value)) (ks : List ℕ) → AreAbove s ks
    → flat_map (λ (t : ℕ). references_found (lookup (nat_eq t) ((s, v) ∷ es))) ks ≡ flat_map (λ (t : ℕ). references_found (lookup (nat_eq t) es)) ks
later-found s v es [] above = refl
later-found s v es (k ∷ ks) above =
    let high : s < k = above.0 in
    let here = ap (λ b. references_found (cond b (Some v) (lookup (nat_eq k) es))) (ne_eqb k s (λ same. omega (arith, same, high))) in let rest = later-found s v es ks above.1 in λ j. here j ++ rest j

above-left : (p : Row → Bool) (n : ℕ) (rows : Rows) → AreAbove n (keys_of rows) → AreAbove n (keys_of (filter p rows))
above-left p n [] a = tt
above-left p n (x ∷ xs) a = pick (p x) (above-left p n xs a.1)
  where
    pick : (b : Bool) → AreAbove n (keys_of (filter p xs)) → AreAbove n (keys_of (cond b (x ∷ filter p xs) (filter p xs)))
    pick true go = (a.0, go)
    pick false go = go

pub references-left : (p : Row → Bool) (rows : Rows) → Rises (keys_of rows) → flat_map (λ (t : ℕ). references_found (lookup (nat_eq t) (valued rows))) (keys_of (filter p rows)) ≡ references_of_results (values_of (filter p rows))
references-left p [] rises = refl
references-left p (x ∷ xs) rises = pick (p x) (later-found x.0 x.1.value (valued xs) (keys_of rest) (above-left p x.0 xs rises.0) ∙ references-left p xs rises.1)
  where
    rest : Rows
    rest = filter p xs

    at : List ℕ → List Ref
    at ks = flat_map (λ (t : ℕ). references_found (lookup (nat_eq t) (valued (x ∷ xs)))) ks

    pick : (b : Bool) → at (keys_of rest) ≡ references_of_results (values_of rest) → at (keys_of (cond b (x ∷ rest) rest)) ≡ references_of_results (values_of (cond b (x ∷ rest) rest))
    pick true go = let here = ap (λ b. references_found (cond b (Some x.1.value) (lookup (nat_eq x.0) (valued xs)))) (eq-eqb x.0 x.0 refl) in λ j. here j ++ go j
    pick false go = go

-- the references that go at a moment, of all results
pub references-over : (before moment : ℕ) (results : Results) (table : CallResults) (ns : List ℕ) (refs : List Ref) → (a : AreCallResults before results table) → ns ≡ keys_of (filter (is_over moment) a.rows)
    → refs ≡ flat_map (λ (t : ℕ). references_found (lookup (nat_eq t) (valued a.rows))) ns → refs ≡ references_of_results (filter (is_over_at moment) results)
references-over before moment results table ns refs a sorted are =
    are ∙ ap (λ (ks : List ℕ). flat_map (λ (t : ℕ). references_found (lookup (nat_eq t) (valued a.rows))) ks) sorted ∙ references-left (is_over moment) a.rows (rises-of a.rows table a.ticketed.values)
    ∙ ap references_of_results (sym (filter-values (is_over_at moment) a.rows) ∙ ap (filter (is_over_at moment)) a.are ∙ filter-of (is_over_at moment) _ (over-of-call moment) results)

-- and those in all results of calls
pub references-all : (before : ℕ) (results : Results) (table : CallResults) (ns : List ℕ) (refs : List Ref) → (a : AreCallResults before results table) → ns ≡ keys_of (valued a.rows)
    → refs ≡ flat_map (λ (t : ℕ). references_found (lookup (nat_eq t) (valued a.rows))) ns → refs ≡ references_of_results (of_calls results)
references-all before results table ns refs a all are =
    let whole = each a.rows in
    are ∙ ap (λ (ks : List ℕ). flat_map (λ (t : ℕ). references_found (lookup (nat_eq t) (valued a.rows))) ks) (all ∙ keys-valued a.rows ∙ ap (λ (l : Rows). keys_of l) (sym whole))
    ∙ references-left (λ (row : Row). true) a.rows (rises-of a.rows table a.ticketed.values) ∙ ap (λ (l : Rows). references_of_results (values_of l)) whole ∙ ap references_of_results a.are
  where
    each : (rows : Rows) → filter (λ (row : Row). true) rows ≡ rows
    each [] = refl
    each (x ∷ xs) = ap (λ (l : Rows). x ∷ l) (each xs)

-- ---- the own objects in results

pub own-of-results : (own : Uuid) (id : ObjId) (results : List KeptResult) → is_id_in (own_ids own (references_of_results results)) id ≡ list_any (λ (r : KeptResult). is_id_in (own_ids own (references_in r.value)) id) results
own-of-results own id [] = refl
own-of-results own id (r ∷ rs) =
    ap (λ (l : List ObjId). is_id_in l id) (flat_map-append (own_id own) (references_in r.value) (references_of_results rs))
    ∙ list_any-append _ (own_ids own (references_in r.value)) (own_ids own (references_of_results rs))
    ∙ ap (λ t. is_id_in (own_ids own (references_in r.value)) id || t) (own-of-results own id rs)

-- ---- a reference in results

pub any-of-results : (r : Ref) (results : List KeptResult) → is_reference_in (references_of_results results) r ≡ list_any (λ (k : KeptResult). is_reference_in (references_in k.value) r) results
any-of-results r [] = refl
any-of-results r (k ∷ ks) =
    list_any-append _ (references_in k.value) (references_of_results ks)
    ∙ ap (λ t. is_reference_in (references_in k.value) r || t) (any-of-results r ks)
