use Rattle.std.proofs.Common.{◌≡◌, ℕ, suc, ◌+◌, ◌<◌, ◌≤◌, Bool, true, false, cond, List, [], ◌∷◌, ◌++◌, length, filter, nat_eq, refl, sym, ap, subst, ◌∙◌, true≢false, arith}
use Rattle.std.specs.Prelude.{◌==◌, ◌&&◌, nat_le, not}
use Rattle.std.specs.Map.{keys_of, values_of, remove_entry}
use Rattle.std.proofs.lemmas.Bool.{eqb-true, eq-eqb, ne_eqb, leb-false, le-leb, lt-leb}
use Rattle.rising_map.specs.Rows.{AreAbove, AreRows, Rises}
use Rattle.sp_rules.specs.OwnEvents.{is_over_at}
use Rattle.sp_rules.specs.State.{KeptResult, Until, RootAcked, Acked, Passed}
use Rattle.sp_results.specs.Ended.{AreFrom, AreUntil, over}
use Rattle.sp_results.specs.Held.{AreCallResults, AreTicketed, left_at, number_on, numbers_on, of_calls, orphan_in, orphans_in, valued}
use Rattle.sp_results.specs.declared.call_results.CallResults.{CallResults}
use Rattle.sp_results.specs.declared.orphans.Orphan.{Orphan}
use Rattle.sp_results.proofs.CallLemmas.{Results, filters-turn}
use Rattle.sp_results.proofs.EndLemmas.{count, count-append, count-cons, one}
use Rattle.sp_results.proofs.HeldLemmas.{rises-of}
use Rattle.sp_results.proofs.NumberLemmas.{Pairs, agree}
use Rattle.sp_results.proofs.TicketLemmas.{Row, Rows, below-removed, valued-removed}

abbrev until_at : Row → Until → Row
until_at x u = (x.0, record { until = u; value = x.1.value })

-- ---- one result goes

abbrev pub is_orphan : ℕ → ℕ → Orphan → Bool
is_orphan until t o = o.until == until && o.ticket == t

both-true : (a b : Bool) → (a && b) ≡ true → (a ≡ true) × (b ≡ true)
both-true true b e = (refl, e)
both-true false b e = absurd (true≢false (sym e))

-- a ticket that stands above others is above them
in-above : (until t s : ℕ) (rows : Rows) → 0 < count (is_orphan until t) (orphans_in rows) → AreAbove s (keys_of rows) → s < t
in-above until t s [] there above = absurd (omega arith)
in-above until t s (x ∷ xs) there above = at x.1.until there (λ more. in-above until t s xs more above.1)
  where
    rest : List Orphan
    rest = orphans_in xs

    at : (u : Until) → 0 < count (is_orphan until t) (orphan_in (until_at x u) ++ rest) → (0 < count (is_orphan until t) rest → s < t) → s < t
    at (RootAcked task) e go = go e
    at (Acked c n) e go = go e
    at (Passed m) e go = pick (is_orphan until t (record { until = m; ticket = x.0 })) refl e
      where
        o : Orphan
        o = record { until = m; ticket = x.0 }

        pick : (b : Bool) → is_orphan until t o ≡ b → 0 < length (cond b (o ∷ filter (is_orphan until t) rest) (filter (is_orphan until t) rest)) → s < t
        pick true is f = let same : x.0 ≡ t = eqb-true x.0 t (both-true (m == until) (x.0 == t) is).1 in let low : s < x.0 = above.0 in omega (arith, same, low)
        pick false is f = go f

-- the result of a ticket, which is held until a moment, goes
pub record IsPopped (until t : ℕ) (rows : Rows) : Type 0 where
  pub numbers : (q : ℕ) → numbers_on rows q ≡ numbers_on (remove_entry (nat_eq t) rows) q
  pub counts : (is : Orphan → Bool) → count is (orphans_in rows) ≡ one (is (record { until = until; ticket = t })) + count is (orphans_in (remove_entry (nat_eq t) rows))
  pub left : (moment : ℕ) → until ≤ moment → left_at moment (values_of (remove_entry (nat_eq t) rows)) ≡ left_at moment (values_of rows)

pub popped : (until t : ℕ) (rows : Rows) → Rises (keys_of rows) → 0 < count (is_orphan until t) (orphans_in rows) → IsPopped until t rows
popped until t [] rises there = absurd (omega arith)
popped until t (x ∷ xs) rises there = at x.1.until there (popped until t xs rises.1)
  where
    rest : List Orphan
    rest = orphans_in xs

    less : Rows
    less = remove_entry (nat_eq t) xs

    passing : (u : Until) → 0 < count (is_orphan until t) rest → IsPopped until t xs → IsPopped until t (until_at x u ∷ xs)
    passing u more ih =
        let y : Row = until_at x u in
        let above : x.0 < t = in-above until t x.0 xs more rises.0 in
        let other : nat_eq t x.0 ≡ false = ne_eqb t x.0 (λ same. omega (arith, above, same)) in
        let all : remove_entry (nat_eq t) (y ∷ xs) ≡ y ∷ less = ap (λ b. cond b xs (y ∷ less)) other in record {
          numbers = λ q. ap (λ (l : Pairs). number_on q y ++ l) (ih.numbers q) ∙ sym (ap (λ (l : Rows). numbers_on l q) all);
          counts = λ is.
              let here = count-append is (orphan_in y) rest in
              let then = count-append is (orphan_in y) (orphans_in less) in
              let both = ih.counts is in
              let sum : count is (orphans_in (y ∷ xs)) ≡ one (is (record { until = until; ticket = t })) + count is (orphans_in (y ∷ less)) = omega (arith, here, then, both) in
              sum ∙ sym (ap (λ (l : Rows). one (is (record { until = until; ticket = t })) + count is (orphans_in l)) all);
          left = λ moment low. ap (λ (l : Rows). left_at moment (values_of l)) all
              ∙ ap (λ (l : Results). cond (not (is_over_at moment y.1)) (y.1 ∷ l) l) (ih.left moment low);
        }

    at : (u : Until) → 0 < count (is_orphan until t) (orphan_in (until_at x u) ++ rest) → (0 < count (is_orphan until t) rest → IsPopped until t xs) → IsPopped until t (until_at x u ∷ xs)
    at (RootAcked task) e go = passing (RootAcked task) e (go e)
    at (Acked c n) e go = passing (Acked c n) e (go e)
    at (Passed m) e go = pick (is_orphan until t o) refl e
      where
        o : Orphan
        o = record { until = m; ticket = x.0 }

        y : Row
        y = until_at x (Passed m)

        here : m ≡ until → x.0 ≡ t → IsPopped until t (y ∷ xs)
        here same_m same_t =
            let all : remove_entry (nat_eq t) (y ∷ xs) ≡ xs = ap (λ b. cond b xs (y ∷ less)) (eq-eqb t x.0 (sym same_t)) in record {
              numbers = λ q. sym (ap (λ (l : Rows). numbers_on l q) all);
              counts = λ is.
                  count-cons is o rest ∙ (λ j. one (is (record { until = same_m j; ticket = same_t j })) + count is rest)
                  ∙ sym (ap (λ (l : Rows). one (is (record { until = until; ticket = t })) + count is (orphans_in l)) all);
              left = λ moment low. ap (λ (l : Rows). left_at moment (values_of l)) all
                  ∙ sym (ap (λ b. cond (not b) (y.1 ∷ left_at moment (values_of xs)) (left_at moment (values_of xs))) (le-leb m moment (omega (arith, same_m, low))));
            }

        pick : (b : Bool) → is_orphan until t o ≡ b → 0 < length (cond b (o ∷ filter (is_orphan until t) rest) (filter (is_orphan until t) rest)) → IsPopped until t (y ∷ xs)
        pick true is f = let both = both-true (m == until) (x.0 == t) is in here (eqb-true m until both.0) (eqb-true x.0 t both.1)
        pick false is f = passing (Passed m) f (go f)

itself : (until t : ℕ) → is_orphan until t (record { until = until; ticket = t }) ≡ true
itself until t = ap (λ b. b && t == t) (eq-eqb until until refl) ∙ eq-eqb t t refl

-- the first of those that are held until moments goes
pub pop : (bound until t : ℕ) (rows : Rows) (old new : CallResults) → new.unacknowledged ≡ old.unacknowledged → new.last ≡ old.last → old.orphans.queue.items ≡ record { until = until; ticket = t } ∷ new.orphans.queue.items
    → (AreRows (valued rows) old.values → AreRows (remove_entry (nat_eq t) (valued rows)) new.values) → AreTicketed bound rows old → AreTicketed bound (remove_entry (nat_eq t) rows) new × IsPopped until t rows
pop bound until t rows old new waiting last first values a =
    let o : Orphan = record { until = until; ticket = t } in
    let ended : (is : Orphan → Bool) → one (is o) + count is new.orphans.queue.items ≡ count is (orphans_in rows) =
    λ is. sym (count-cons is o new.orphans.queue.items) ∙ sym (ap (count is) first) ∙ a.ended is in
    let here = ended (is_orphan until t) in
    let yes = ap one (itself until t) in
    let there : 0 < count (is_orphan until t) (orphans_in rows) = omega (arith, here, yes) in
    let p = popped until t rows (rises-of rows old a.values) there in (
      record {
        values = rw (valued-removed t rows) (values a.values);
        waiting = rw (waiting) (agree (numbers_on rows) (numbers_on (remove_entry (nat_eq t) rows)) old.unacknowledged p.numbers a.waiting);
        ended = λ is. let now = ended is in let then = p.counts is in omega (arith, now, then);
        in_order = from-low 0 until new.orphans.queue.items (subst (AreFrom 0) first a.in_order);
        within = (subst (AreUntil (bound + 600000)) first a.within).1;
        given = rw (last) (below-removed (suc old.last) t rows a.given);
      },
      p,
    )
  where
    from-low : (k m : ℕ) (os : List Orphan) → (k ≤ m) × AreFrom m os → AreFrom k os
    from-low k m [] h = tt
    from-low k m (o ∷ os) h = let first : m ≤ o.until = h.1.0 in let low : k ≤ m = h.0 in (omega (arith, low, first), h.1.1)

-- ---- no result goes any more

late : (k moment : ℕ) (os : List Orphan) → AreFrom k os → moment < k → count (λ (o : Orphan). nat_le o.until moment) os ≡ 0
late k moment [] from low = refl
late k moment (o ∷ os) from low =
    let first : k ≤ o.until = from.0 in
    ap (λ b. length (cond b (o ∷ filter (λ (p : Orphan). nat_le p.until moment) os) (filter (λ (p : Orphan). nat_le p.until moment) os))) (lt-leb o.until moment (omega (arith, first, low)))
    ∙ late o.until moment os from.1 (omega (arith, first, low))

pub none-over : (k moment : ℕ) (os : List Orphan) → AreFrom k os → over moment os ≡ [] → count (λ (o : Orphan). nat_le o.until moment) os ≡ 0
none-over k moment [] from none = refl
none-over k moment (o ∷ os) from none = pick (nat_le o.until moment) refl none
  where
    pick : (b : Bool) → nat_le o.until moment ≡ b → cond b (o ∷ over moment os) [] ≡ [] → count (λ (p : Orphan). nat_le p.until moment) (o ∷ os) ≡ 0
    pick true is e = cc
    pick false is e =
        let low : moment < o.until = leb-false o.until moment is in
        ap (λ b. length (cond b (o ∷ filter (λ (p : Orphan). nat_le p.until moment) os) (filter (λ (p : Orphan). nat_le p.until moment) os))) is ∙ late o.until moment os from.1 low

pub all-left : (moment : ℕ) (rows : Rows) → count (λ (o : Orphan). nat_le o.until moment) (orphans_in rows) ≡ 0 → left_at moment (values_of rows) ≡ values_of rows
all-left moment [] none = refl
all-left moment (x ∷ xs) none = at x.1.until none (all-left moment xs)
  where
    is : Orphan → Bool
    is o = nat_le o.until moment

    rest : List Orphan
    rest = orphans_in xs

    at : (u : Until) → count is (orphan_in (until_at x u) ++ rest) ≡ 0 → (count is rest ≡ 0 → left_at moment (values_of xs) ≡ values_of xs)
        → cond (not (is_over_at moment (until_at x u).1)) ((until_at x u).1 ∷ left_at moment (values_of xs)) (left_at moment (values_of xs)) ≡ (until_at x u).1 ∷ values_of xs
    at (RootAcked task) e go = ap (λ (l : Results). (until_at x (RootAcked task)).1 ∷ l) (go e)
    at (Acked c n) e go = ap (λ (l : Results). (until_at x (Acked c n)).1 ∷ l) (go e)
    at (Passed m) e go = pick (nat_le m moment) e
      where
        o : Orphan
        o = record { until = m; ticket = x.0 }

        y : KeptResult
        y = (until_at x (Passed m)).1

        pick : (b : Bool) → length (cond b (o ∷ filter is rest) (filter is rest)) ≡ 0 → cond (not b) (y ∷ left_at moment (values_of xs)) (left_at moment (values_of xs)) ≡ y ∷ values_of xs
        pick true f = absurd (omega (arith, f))
        pick false f = ap (λ (l : Results). y ∷ l) (go f)

-- ---- a moment passes

-- What stays of all results at a moment is what stays of these.
pub record AreLeft (before moment : ℕ) (results : Results) (table : CallResults) : Type 0 where
  pub rows : Rows
  pub are : left_at moment (values_of rows) ≡ left_at moment (of_calls results)
  pub ticketed : AreTicketed before rows table

pub begin : (before moment : ℕ) (results : Results) (table : CallResults) → AreCallResults before results table → AreLeft before moment results table
begin before moment results table a = record { rows = a.rows; are = ap (left_at moment) a.are; ticketed = a.ticketed }

pub pop-one : (before moment until t : ℕ) (results : Results) (old new : CallResults) → until ≤ moment → new.unacknowledged ≡ old.unacknowledged → new.last ≡ old.last → old.orphans.queue.items ≡ record { until = until; ticket = t } ∷ new.orphans.queue.items
    → ((rows : Rows) → AreRows (valued rows) old.values → AreRows (remove_entry (nat_eq t) (valued rows)) new.values) → AreLeft before moment results old → AreLeft before moment results new
pop-one before moment until t results old new low waiting last first values a =
    let p = pop before until t a.rows old new waiting last first (values a.rows) a.ticketed in record {
      rows = remove_entry (nat_eq t) a.rows;
      are = p.1.left moment low ∙ a.are;
      ticketed = p.0;
    }

until-more : (k m : ℕ) (os : List Orphan) → k ≤ m → AreUntil k os → AreUntil m os
until-more k m [] low within = tt
until-more k m (o ∷ os) low within = let first : o.until ≤ k = within.0 in (omega (arith, low, first), until-more k m os low within.1)

pub ticketed-later : (before moment : ℕ) (rows : Rows) (table : CallResults) → before ≤ moment → AreTicketed before rows table → AreTicketed moment rows table
ticketed-later before moment rows table low a = record {
  values = a.values;
  waiting = a.waiting;
  ended = a.ended;
  in_order = a.in_order;
  within = until-more (before + 600000) (moment + 600000) table.orphans.queue.items (omega (arith, low)) a.within;
  given = a.given;
}

pub pass : (before moment : ℕ) (results : Results) (old new : CallResults) → before ≤ moment → new.values ≡ old.values → new.unacknowledged ≡ old.unacknowledged → new.last ≡ old.last → new.orphans.queue.items ≡ old.orphans.queue.items
    → over moment old.orphans.queue.items ≡ [] → AreLeft before moment results old → AreCallResults moment (left_at moment results) new
pass before moment results old new low values waiting last same none a =
    let never = none-over 0 moment old.orphans.queue.items a.ticketed.in_order none in
    let later = ticketed-later before moment a.rows old low a.ticketed in record {
      rows = a.rows;
      are = sym (all-left moment a.rows (sym (a.ticketed.ended (λ (o : Orphan). nat_le o.until moment)) ∙ never)) ∙ a.are ∙ filters-turn (λ (r : KeptResult). not (is_over_at moment r)) _ results;
      ticketed = record {
        values = rw (values) later.values;
        waiting = rw (waiting) later.waiting;
        ended = rw (same) later.ended;
        in_order = rw (same) later.in_order;
        within = rw (same) later.within;
        given = rw (last) later.given;
      };
    }
