use Rattle.std.proofs.Common.{◌≡◌, ℕ, ◌+◌, ◌≤◌, Bool, true, false, cond, List, [], ◌∷◌, ◌++◌, length, map, filter, nat_eq, refl, sym, ap, subst, ◌∙◌, true≢false, length-append, arith}
use Rattle.std.specs.Prelude.{◌==◌}
use Rattle.std.specs.Cmp.{nat_eq_equiv}
use Rattle.std.specs.List.{IsDistinct}
use Rattle.std.specs.List.Sorted.{IsPermutation}
use Rattle.std.specs.Map.{keys_of, values_of}
use Rattle.std.proofs.lemmas.Bool.{eqb-true, eq-eqb}
use Rattle.std.proofs.lemmas.List.{map-id}
use Rattle.std.proofs.lemmas.List.Elements.{filter-append}
use Rattle.std.proofs.lemmas.List.Sorted.{IsPermutation-map, sum_by-IsPermutation}
use Rattle.std.proofs.lemmas.List.Sums.{length-filter}
use Rattle.std.proofs.lemmas.Map.Lookups.{hash_map_IsPermutation_from_get, map_keys}
use Rattle.indexmap.specs.IndexMap.{with_entries}
use Rattle.sp_rules.specs.Endings.{orphan}
use Rattle.sp_rules.specs.State.{KeptResult, Until, RootAcked, Acked, Passed}
use Rattle.sp_results.specs.Ended.{AreFrom, AreUntil, ended_at}
use Rattle.sp_results.specs.Held.{AreCallResults, number_on, numbers_on, orphan_in, orphans_in, valued}
use Rattle.sp_results.specs.Numbers.{AreTickets, HaveSame, without_connection}
use Rattle.sp_results.specs.declared.call_results.CallResults.{CallResults}
use Rattle.sp_results.specs.declared.orphans.Orphan.{Orphan}
use Rattle.sp_results.specs.declared.unacknowledged.Numbers.{Numbers}
use Rattle.sp_results.proofs.CallLemmas.{Results, of-calls-orphaned}
use Rattle.sp_results.proofs.NumberLemmas.{Fits, Pairs, agree}
use Rattle.sp_results.proofs.TicketLemmas.{Row, Rows}

-- ---- how often

abbrev pub count : {A : Type 0} → (A → Bool) → List A → ℕ
count is xs = length (filter is xs)

abbrev pub one : Bool → ℕ
one b = cond b 1 0

pub count-cons : {A : Type 0} (is : A → Bool) (x : A) (xs : List A) → count is (x ∷ xs) ≡ one (is x) + count is xs
count-cons {A} is x xs = pick (is x)
  where
    pick : (b : Bool) → length (cond b (x ∷ filter is xs) (filter is xs)) ≡ one b + count is xs
    pick true = omega arith
    pick false = omega arith

pub count-append : {A : Type 0} (is : A → Bool) (xs ys : List A) → count is (xs ++ ys) ≡ count is xs + count is ys
count-append is xs ys = ap length (filter-append is xs ys) ∙ length-append (filter is xs) (filter is ys)

pub moved-same : {A : Type 0} (xs ys : List A) → IsPermutation xs ys → HaveSame xs ys
moved-same xs ys moved = λ is. length-filter is xs ∙ sym (sum_by-IsPermutation (λ x. cond (is x) 1 0) xs ys moved) ∙ sym (length-filter is ys)

-- ---- the results of a connection

-- what is found alike under distinct numbers is the same
pub fitting-same : (m : Numbers) (l : Pairs) → IsDistinct nat_eq (keys_of m.tickets.entries) → IsDistinct nat_eq (keys_of l) → Fits m l → IsPermutation m.tickets.entries l
fitting-same m l own once fits =
    let moved : IsPermutation (map_keys (λ (n : ℕ). n) m.tickets.entries) (map_keys (λ (n : ℕ). n) l) =
    hash_map_IsPermutation_from_get nat_eq_equiv m.tickets (with_entries m.tickets l) own once fits (λ (n : ℕ). n) (λ a b e. eqb-true a b e) in
    subst (λ (xs : Pairs). IsPermutation xs l) (map-id m.tickets.entries) (subst (λ (ys : Pairs). IsPermutation (map_keys (λ (n : ℕ). n) m.tickets.entries) ys) (map-id l) moved)

pub ended-same : (until : ℕ) (xs ys : Pairs) → IsPermutation xs ys → HaveSame (ended_at until xs) (ended_at until ys)
ended-same until xs ys moved = moved-same (ended_at until xs) (ended_at until ys) (IsPermutation-map (λ (row : ℕ × ℕ). record { until = until; ticket = row.1 }) xs ys moved)

-- ---- rows whose connection ends

abbrev pub orphaned : ℕ → ℕ → Rows → Rows
orphaned conn moment rows = map (λ (row : Row). (row.0, orphan conn moment row.1)) rows

abbrev until_at : Row → Until → Row
until_at x u = (x.0, record { until = u; value = x.1.value })

pub keys-orphaned : (conn moment : ℕ) (rows : Rows) → keys_of (orphaned conn moment rows) ≡ keys_of rows
keys-orphaned conn moment [] = refl
keys-orphaned conn moment (x ∷ xs) = ap (λ (ks : List ℕ). x.0 ∷ ks) (keys-orphaned conn moment xs)

pub values-orphaned : (conn moment : ℕ) (rows : Rows) → values_of (orphaned conn moment rows) ≡ map (orphan conn moment) (values_of rows)
values-orphaned conn moment [] = refl
values-orphaned conn moment (x ∷ xs) = ap (λ (l : Results). orphan conn moment x.1 ∷ l) (values-orphaned conn moment xs)

same-value : (conn moment : ℕ) (r : KeptResult) → (orphan conn moment r).value ≡ r.value
same-value conn moment r = at r.until
  where
    at : (u : Until) → (orphan conn moment (record { until = u; value = r.value })).value ≡ r.value
    at (RootAcked task) = refl
    at (Passed m) = refl
    at (Acked c n) = pick (c == conn)
      where
        this : KeptResult
        this = record { until = Acked c n; value = r.value }

        pick : (b : Bool) → (cond b (record this { until = Passed (moment + 600000) }) this).value ≡ r.value
        pick true = refl
        pick false = refl

pub valued-orphaned : (conn moment : ℕ) (rows : Rows) → valued (orphaned conn moment rows) ≡ valued rows
valued-orphaned conn moment [] = refl
valued-orphaned conn moment (x ∷ xs) = let same = same-value conn moment x.1 in let rest = valued-orphaned conn moment xs in λ j. (x.0, same j) ∷ rest j

pub numbers-orphaned : (conn moment : ℕ) (rows : Rows) (q : ℕ) → without_connection conn (numbers_on rows) q ≡ numbers_on (orphaned conn moment rows) q
numbers-orphaned conn moment [] q = pick (nat_eq conn q)
  where
    none : Pairs
    none = []

    pick : (b : Bool) → cond b none none ≡ none
    pick true = refl
    pick false = refl
numbers-orphaned conn moment (x ∷ xs) q = at x.1.until (numbers-orphaned conn moment xs q)
  where
    none : Pairs
    none = []

    rest : Pairs
    rest = numbers_on xs q

    later : Pairs
    later = numbers_on (orphaned conn moment xs) q

    at : (u : Until) → cond (nat_eq conn q) none rest ≡ later → cond (nat_eq conn q) none (number_on q (until_at x u) ++ rest) ≡ number_on q (x.0, orphan conn moment (until_at x u).1) ++ later
    at (RootAcked task) go = go
    at (Passed m) go = go
    at (Acked c n) go = pick (nat_eq conn q) refl (nat_eq c conn) refl (nat_eq c q) refl go
      where
        this : KeptResult
        this = (until_at x (Acked c n)).1

        mine : Pairs
        mine = (n, x.0) ∷ []

        show : (f : Bool) → nat_eq c q ≡ f → cond f mine none ++ later ≡ number_on q (x.0, this) ++ later
        show f e = ap (λ k. cond k mine none ++ later) (sym e)

        pick : (b : Bool) → nat_eq conn q ≡ b → (d : Bool) → nat_eq c conn ≡ d → (f : Bool) → nat_eq c q ≡ f → cond b none rest ≡ later
            → cond b none (cond f mine none ++ rest) ≡ number_on q (x.0, cond d (record this { until = Passed (moment + 600000) }) this) ++ later
        pick true at_q true at_c f here h = h
        pick true at_q false at_c true here h =
            let a : conn ≡ q = eqb-true conn q at_q in let b : c ≡ q = eqb-true c q here in absurd (true≢false (sym (eq-eqb c conn (b ∙ sym a)) ∙ at_c))
        pick true at_q false at_c false here h = h ∙ show false here
        pick false at_q true at_c true here h =
            let a : c ≡ q = eqb-true c q here in let b : c ≡ conn = eqb-true c conn at_c in absurd (true≢false (sym (eq-eqb conn q (sym b ∙ a)) ∙ at_q))
        pick false at_q true at_c false here h = h
        pick false at_q false at_c true here h = ap (λ (l : Pairs). (n, x.0) ∷ l) h ∙ show true here
        pick false at_q false at_c false here h = h ∙ show false here

pub orphans-orphaned : (conn moment : ℕ) (is : Orphan → Bool) (rows : Rows) → count is (orphans_in rows) + count is (ended_at (moment + 600000) (numbers_on rows conn)) ≡ count is (orphans_in (orphaned conn moment rows))
orphans-orphaned conn moment is [] = refl
orphans-orphaned conn moment is (x ∷ xs) = at x.1.until (orphans-orphaned conn moment is xs)
  where
    until : ℕ
    until = moment + 600000

    held : List Orphan
    held = orphans_in xs

    mine : Pairs
    mine = numbers_on xs conn

    later : List Orphan
    later = orphans_in (orphaned conn moment xs)

    at : (u : Until) → count is held + count is (ended_at until mine) ≡ count is later
        → count is (orphan_in (until_at x u) ++ held) + count is (ended_at until (number_on conn (until_at x u) ++ mine)) ≡ count is (orphan_in (x.0, orphan conn moment (until_at x u).1) ++ later)
    at (RootAcked task) go = go
    at (Passed m) go =
        let o : Orphan = record { until = m; ticket = x.0 } in omega (arith, count-cons is o held, count-cons is o later, go)
    at (Acked c n) go = pick (nat_eq c conn)
      where
        this : KeptResult
        this = (until_at x (Acked c n)).1

        pick : (b : Bool) → count is held + count is (ended_at until (cond b ((n, x.0) ∷ []) [] ++ mine)) ≡ count is (orphan_in (x.0, cond b (record this { until = Passed until }) this) ++ later)
        pick true = let o : Orphan = record { until = until; ticket = x.0 } in omega (arith, count-cons is o (ended_at until mine), count-cons is o later, go)
        pick false = go

-- ---- the moments of those that are held

from-ended : (k until : ℕ) (l : Pairs) → k ≤ until → AreFrom k (ended_at until l)
from-ended k until [] low = tt
from-ended k until (x ∷ xs) low = (low, from-ended until until xs (omega arith))

pub from-more : (k until : ℕ) (os : List Orphan) (l : Pairs) → k ≤ until → AreFrom k os → AreUntil until os → AreFrom k (os ++ ended_at until l)
from-more k until [] l low from within = from-ended k until l low
from-more k until (o ∷ os) l low from within = (from.0, from-more o.until until os l within.0 from.1 within.1)

until-ended : (until : ℕ) (l : Pairs) → AreUntil until (ended_at until l)
until-ended until [] = tt
until-ended until (x ∷ xs) = (omega arith, until-ended until xs)

pub until-more : (until : ℕ) (os : List Orphan) (l : Pairs) → AreUntil until os → AreUntil until (os ++ ended_at until l)
until-more until [] l within = until-ended until l
until-more until (o ∷ os) l within = (within.0, until-more until os l within.1)

-- ---- a connection ends

-- these are its results
pub end : (conn moment : ℕ) (results : Results) (l : Pairs) (old new : CallResults) → new.values ≡ old.values → new.last ≡ old.last → new.orphans.queue.items ≡ old.orphans.queue.items ++ ended_at (moment + 600000) l
    → ((rows : Rows) → AreTickets (numbers_on rows) old.unacknowledged → AreTickets (without_connection conn (numbers_on rows)) new.unacknowledged)
    → (a : AreCallResults moment results old) → HaveSame (ended_at (moment + 600000) l) (ended_at (moment + 600000) (numbers_on a.rows conn)) → AreCallResults moment (map (orphan conn moment) results) new
end conn moment results l old new values last pushed waiting a same =
    let rows : Rows = orphaned conn moment a.rows in record {
      rows = rows;
      are = values-orphaned conn moment a.rows ∙ ap (map (orphan conn moment)) a.are ∙ sym (of-calls-orphaned conn moment results);
      ticketed = record {
        values = rw (valued-orphaned conn moment a.rows, values) a.ticketed.values;
        waiting = agree (without_connection conn (numbers_on a.rows)) (numbers_on rows) new.unacknowledged (λ q. numbers-orphaned conn moment a.rows q) (waiting a.rows a.ticketed.waiting);
        ended = λ is.
            ap (count is) pushed ∙ count-append is old.orphans.queue.items (ended_at (moment + 600000) l) ∙ (λ j. a.ticketed.ended is j + same is j) ∙ orphans-orphaned conn moment is a.rows;
        in_order = rw (pushed) (from-more 0 (moment + 600000) old.orphans.queue.items l (omega arith) a.ticketed.in_order a.ticketed.within);
        within = rw (pushed) (until-more (moment + 600000) old.orphans.queue.items l a.ticketed.within);
        given = rw (keys-orphaned conn moment a.rows, last) a.ticketed.given;
      };
    }
