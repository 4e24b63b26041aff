use Rattle.std.proofs.Common.{◌≡◌, ℕ, ◌<◌, Bool, true, false, cond, List, [], ◌∷◌, ◌++◌, filter, Option, None, Some, nat_eq, refl, sym, ap, subst, ◌∙◌, true≢false, arith}
use Rattle.std.specs.Prelude.{◌==◌, ◌&&◌, not}
use Rattle.std.specs.Cmp.{nat_eq_equiv}
use Rattle.std.specs.List.{AllByRecursion, IsDistinct}
use Rattle.std.specs.Map.{keys_of, lookup, remove_entry}
use Rattle.std.proofs.lemmas.Bool.{eqb-true, eq-eqb, ne_eqb}
use Rattle.std.proofs.lemmas.Map.Keys.{IsDistinct-head, IsDistinct-tail}
use Rattle.space_ids.specs.declared.value.Value.{Value}
use Rattle.rising_map.specs.Rows.{AreAbove, Rises}
use Rattle.sp_rules.specs.Frames.{is_acked_by}
use Rattle.sp_rules.specs.State.{Until, RootAcked, Acked, Passed}
use Rattle.sp_results.specs.Held.{number_on, numbers_on, orphan_in, orphans_in, valued}
use Rattle.sp_results.specs.Numbers.{without_number}
use Rattle.sp_results.specs.declared.orphans.Orphan.{Orphan}
use Rattle.sp_results.proofs.TicketLemmas.{Row, Rows, above-found, acked, keys-valued, unacked}

-- a row with another end of its holding
abbrev until_at : Row → Until → Row
until_at x u = (x.0, record { until = u; value = x.1.value })

-- ---- the numbers of the others

pub numbers-unacked : (conn number : ℕ) (rows : Rows) (q : ℕ) → without_number conn number (numbers_on rows) q ≡ numbers_on (filter (unacked conn number) rows) q
numbers-unacked conn number [] q = pick (nat_eq conn q)
  where
    none : List (ℕ × ℕ)
    none = []

    pick : (b : Bool) → cond b none none ≡ none
    pick true = refl
    pick false = refl
numbers-unacked conn number (x ∷ xs) q = at x.1.until (numbers-unacked conn number xs q)
  where
    rest : List (ℕ × ℕ)
    rest = numbers_on xs q

    less : List (ℕ × ℕ) → List (ℕ × ℕ)
    less l = filter (λ (p : ℕ × ℕ). not (p.0 == number)) l

    left : Rows
    left = filter (unacked conn number) xs

    Goal : Until → Type 0
    Goal u = cond (nat_eq conn q) (less (number_on q (until_at x u) ++ rest)) (number_on q (until_at x u) ++ rest) ≡ numbers_on (cond (unacked conn number (until_at x u)) (until_at x u ∷ left) left) q

    at : (u : Until) → cond (nat_eq conn q) (less rest) rest ≡ numbers_on left q → Goal u
    at (RootAcked task) go = go
    at (Passed moment) go = go
    at (Acked c n) go = pick (nat_eq conn q) refl (nat_eq c conn) refl (nat_eq c q) refl (nat_eq n number) refl go
      where
        y : Row
        y = until_at x (Acked c n)

        show : (f : Bool) → nat_eq c q ≡ f → cond f ((n, x.0) ∷ []) [] ++ numbers_on left q ≡ numbers_on (y ∷ left) q
        show f here = ap (λ k. cond k ((n, x.0) ∷ []) [] ++ numbers_on left q) (sym here)

        first : (g : Bool) → nat_eq n number ≡ g → less ((n, x.0) ∷ rest) ≡ cond (not g) ((n, x.0) ∷ less rest) (less rest)
        first g at_n = ap (λ k. cond (not k) ((n, x.0) ∷ less rest) (less rest)) at_n

        pick : (b : Bool) → nat_eq conn q ≡ b → (d : Bool) → nat_eq c conn ≡ d → (f : Bool) → nat_eq c q ≡ f → (g : Bool) → nat_eq n number ≡ g → cond b (less rest) rest ≡ numbers_on left q
            → cond b (less (cond f ((n, x.0) ∷ []) [] ++ rest)) (cond f ((n, x.0) ∷ []) [] ++ rest) ≡ numbers_on (cond (not (d && g)) (y ∷ left) left) q
        pick true at_q true at_c true here true at_n h = first true at_n ∙ h
        pick true at_q true at_c true here false at_n h = first false at_n ∙ ap (λ (l : List (ℕ × ℕ)). (n, x.0) ∷ l) h ∙ show true here
        pick true at_q true at_c false here g at_n h =
            let a : conn ≡ q = eqb-true conn q at_q in let b : c ≡ conn = eqb-true c conn at_c in absurd (true≢false (sym (eq-eqb c q (b ∙ a)) ∙ here))
        pick true at_q false at_c true here g at_n h =
            let a : conn ≡ q = eqb-true conn q at_q in let b : c ≡ q = eqb-true c q here in absurd (true≢false (sym (eq-eqb c conn (b ∙ sym a)) ∙ at_c))
        pick true at_q false at_c false here g at_n h = h ∙ show false here
        pick false at_q true at_c true here g at_n h =
            let a : c ≡ q = eqb-true c q here in let b : c ≡ conn = eqb-true c conn at_c in absurd (true≢false (sym (eq-eqb conn q (sym b ∙ a)) ∙ at_q))
        pick false at_q true at_c false here true at_n h = h
        pick false at_q true at_c false here false at_n h = h ∙ show false here
        pick false at_q false at_c true here g at_n h = ap (λ (l : List (ℕ × ℕ)). (n, x.0) ∷ l) h ∙ show true here
        pick false at_q false at_c false here g at_n h = h ∙ show false here

-- ---- the values of the others

unfound : (number : ℕ) (l : List (ℕ × ℕ)) → AllByRecursion (λ k. nat_eq number k ≡ false) (keys_of l) → lookup (nat_eq number) l ≡ None
unfound number [] a = refl
unfound number (x ∷ xs) a = ap (λ b. cond b (Some x.1) (lookup (nat_eq number) xs)) a.0 ∙ unfound number xs a.1

-- no Ack of the number comes
pub none-acked : (conn number : ℕ) (rows : Rows) → lookup (nat_eq number) (numbers_on rows conn) ≡ None → (filter (acked conn number) rows ≡ []) × (filter (unacked conn number) rows ≡ rows)
none-acked conn number [] none = (refl, refl)
none-acked conn number (x ∷ xs) none = at x.1.until none (none-acked conn number xs)
  where
    others : List (ℕ × ℕ)
    others = numbers_on xs conn

    None-in : List (ℕ × ℕ) → Type 0
    None-in l = lookup (nat_eq number) l ≡ None

    Claim : Rows → Type 0
    Claim l = (filter (acked conn number) l ≡ []) × (filter (unacked conn number) l ≡ l)

    keep : Claim xs → (y : Row) → (filter (acked conn number) xs ≡ []) × (y ∷ filter (unacked conn number) xs ≡ y ∷ xs)
    keep go y = (go.0, ap (λ (l : Rows). y ∷ l) go.1)

    at : (u : Until) → None-in (number_on conn (until_at x u) ++ others) → (None-in others → Claim xs) → Claim (until_at x u ∷ xs)
    at (RootAcked task) e go = keep (go e) (until_at x (RootAcked task))
    at (Passed moment) e go = keep (go e) (until_at x (Passed moment))
    at (Acked c n) e go = pick (c == conn) (nat_eq n number) (nat_eq_equiv.symm number n) e
      where
        pick : (b d : Bool) → nat_eq number n ≡ d → None-in (cond b ((n, x.0) ∷ []) [] ++ others)
            → (cond (b && d) (until_at x (Acked c n) ∷ filter (acked conn number) xs) (filter (acked conn number) xs) ≡ [])
            × (cond (not (b && d)) (until_at x (Acked c n) ∷ filter (unacked conn number) xs) (filter (unacked conn number) xs) ≡ until_at x (Acked c n) ∷ xs)
        pick false d f g = keep (go g) (until_at x (Acked c n))
        pick true true f g = let wrong : Some x.0 ≡ None = sym (ap (λ b. cond b (Some x.0) (lookup (nat_eq number) others)) f) ∙ g in cc
        pick true false f g = keep (go (sym (ap (λ b. cond b (Some x.0) (lookup (nat_eq number) others)) f) ∙ g)) (until_at x (Acked c n))

-- the one result that an Ack is of
pub record IsAcked (conn number ticket : ℕ) (rows : Rows) : Type 0 where
  pub value : Option Value
  pub found : lookup (nat_eq ticket) (valued rows) ≡ Some value
  pub one : filter (acked conn number) rows ≡ (ticket, record { until = Acked conn number; value = value }) ∷ []
  pub others : remove_entry (nat_eq ticket) (valued rows) ≡ valued (filter (unacked conn number) rows)

pub found-acked : (conn number ticket : ℕ) (rows : Rows) → lookup (nat_eq number) (numbers_on rows conn) ≡ Some ticket → Rises (keys_of rows) → IsDistinct nat_eq (keys_of (numbers_on rows conn)) → IsAcked conn number ticket rows
found-acked conn number ticket [] found rises once = let wrong : lookup (nat_eq number) [] ≡ Some ticket = found in cc
found-acked conn number ticket (x ∷ xs) found rises once = at x.1.until found once (found-acked conn number ticket xs)
  where
    others : List (ℕ × ℕ)
    others = numbers_on xs conn

    passing : (u : Until) → is_acked_by conn number (record { until = u; value = x.1.value }) ≡ false → IsAcked conn number ticket xs → IsAcked conn number ticket (until_at x u ∷ xs)
    passing u apart ih =
        let above : x.0 < ticket = above-found x.0 ticket ih.value (valued xs) (subst (λ (ks : List ℕ). AreAbove x.0 ks) (sym (keys-valued xs)) rises.0) ih.found in
        let other : nat_eq ticket x.0 ≡ false = ne_eqb ticket x.0 (λ same. omega (arith, above, same)) in record {
          value = ih.value;
          found = ap (λ b. cond b (Some x.1.value) (lookup (nat_eq ticket) (valued xs))) other ∙ ih.found;
          one = ap (λ b. cond b (until_at x u ∷ filter (acked conn number) xs) (filter (acked conn number) xs)) apart ∙ ih.one;
          others = ap (λ b. cond b (valued xs) ((x.0, x.1.value) ∷ remove_entry (nat_eq ticket) (valued xs))) other
              ∙ ap (λ (l : List (ℕ × Option Value)). (x.0, x.1.value) ∷ l) ih.others
              ∙ ap (λ b. valued (cond (not b) (until_at x u ∷ filter (unacked conn number) xs) (filter (unacked conn number) xs))) (sym apart);
        }

    Found-in : List (ℕ × ℕ) → Type 0
    Found-in l = lookup (nat_eq number) l ≡ Some ticket

    Once : List (ℕ × ℕ) → Type 0
    Once l = IsDistinct nat_eq (keys_of l)

    at : (u : Until) → Found-in (number_on conn (until_at x u) ++ others) → Once (number_on conn (until_at x u) ++ others) → (Found-in others → Rises (keys_of xs) → Once others → IsAcked conn number ticket xs)
        → IsAcked conn number ticket (until_at x u ∷ xs)
    at (RootAcked task) e o go = passing (RootAcked task) refl (go e rises.1 o)
    at (Passed moment) e o go = passing (Passed moment) refl (go e rises.1 o)
    at (Acked c n) e o go = pick (nat_eq c conn) refl (nat_eq n number) refl e o
      where
        y : Row
        y = until_at x (Acked c n)

        here : nat_eq c conn ≡ true → nat_eq n number ≡ true → Found-in ((n, x.0) ∷ others) → Once ((n, x.0) ∷ others) → IsAcked conn number ticket (y ∷ xs)
        here at_c at_n f p =
            let same_c : c ≡ conn = eqb-true c conn at_c in
            let same_n : n ≡ number = eqb-true n number at_n in
            let found_here : Some x.0 ≡ Some ticket = sym (ap (λ b. cond b (Some x.0) (lookup (nat_eq number) others)) (eq-eqb number n (sym same_n))) ∙ f in
            let same : x.0 ≡ ticket = cc in
            let is : nat_eq ticket x.0 ≡ true = eq-eqb ticket x.0 (sym same) in
            let both : (nat_eq c conn && nat_eq n number) ≡ true = ap (λ b. b && nat_eq n number) at_c ∙ at_n in
            let none = none-acked conn number xs (unfound number others (subst (λ (k : ℕ). AllByRecursion (λ m. nat_eq k m ≡ false) (keys_of others)) same_n (IsDistinct-head nat_eq n (keys_of others) p))) in record {
              value = x.1.value;
              found = ap (λ b. cond b (Some x.1.value) (lookup (nat_eq ticket) (valued xs))) is;
              one = ap (λ b. cond b (y ∷ filter (acked conn number) xs) (filter (acked conn number) xs)) both
                  ∙ (λ j. (same j, record { until = Acked (same_c j) (same_n j); value = x.1.value }) ∷ none.0 j);
              others = ap (λ b. cond b (valued xs) ((x.0, x.1.value) ∷ remove_entry (nat_eq ticket) (valued xs))) is ∙ ap valued (sym none.1)
                  ∙ ap (λ b. valued (cond (not b) (y ∷ filter (unacked conn number) xs) (filter (unacked conn number) xs))) (sym both);
            }

        pick : (b : Bool) → nat_eq c conn ≡ b → (d : Bool) → nat_eq n number ≡ d → Found-in (cond b ((n, x.0) ∷ []) [] ++ others) → Once (cond b ((n, x.0) ∷ []) [] ++ others) → IsAcked conn number ticket (y ∷ xs)
        pick false at_c d at_n f p = passing (Acked c n) (ap (λ b. b && nat_eq n number) at_c) (go f rises.1 p)
        pick true at_c true at_n f p = here at_c at_n f p
        pick true at_c false at_n f p =
            let later : Found-in others = sym (ap (λ b. cond b (Some x.0) (lookup (nat_eq number) others)) (nat_eq_equiv.symm number n ∙ at_n)) ∙ f in
            passing (Acked c n) (ap (λ b. b && nat_eq n number) at_c ∙ at_n) (go later rises.1 (IsDistinct-tail nat_eq n (keys_of others) p))

-- ---- those that are held until a moment stay

pub orphans-unacked : (conn number : ℕ) (rows : Rows) → orphans_in (filter (unacked conn number) rows) ≡ orphans_in rows
orphans-unacked conn number [] = refl
orphans-unacked conn number (x ∷ xs) = at x.1.until (orphans-unacked conn number xs)
  where
    left : Rows
    left = filter (unacked conn number) xs

    at : (u : Until) → orphans_in left ≡ orphans_in xs → orphans_in (cond (unacked conn number (until_at x u)) (until_at x u ∷ left) left) ≡ orphan_in (until_at x u) ++ orphans_in xs
    at (RootAcked task) go = go
    at (Passed moment) go = ap (λ (l : List Orphan). record { until = moment; ticket = x.0 } ∷ l) go
    at (Acked c n) go = pick (nat_eq c conn && nat_eq n number)
      where
        pick : (b : Bool) → orphans_in (cond (not b) (until_at x (Acked c n) ∷ left) left) ≡ orphans_in xs
        pick true = go
        pick false = go
