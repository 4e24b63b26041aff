use Rattle.std.proofs.Common.{◌≡◌, ℕ, ◌+◌, Bool, true, false, cond, List, [], ◌∷◌, ◌++◌, filter, map, Option, refl, sym, ap, ◌∙◌, true≢false}
use Rattle.std.specs.Prelude.{◌==◌, ◌||◌}
use Rattle.std.specs.List.{list_any}
use Rattle.std.specs.Map.{values_of}
use Rattle.std.proofs.lemmas.List.Elements.{filter-append}
use Rattle.space_ids.specs.declared.value.Value.{Value}
use Rattle.sp_rules.specs.Endings.{orphan}
use Rattle.sp_rules.specs.Frames.{is_acked_by}
use Rattle.sp_rules.specs.OwnEvents.{is_over_at}
use Rattle.sp_rules.specs.State.{KeptResult, Until, RootAcked, Acked, Passed}
use Rattle.sp_results.specs.Held.{is_of_call, of_calls}
use Rattle.sp_results.proofs.TicketLemmas.{Row, Rows}

abbrev pub Results : Type 0
Results = List KeptResult

abbrev Test : Type 0
Test = KeptResult → Bool

-- ---- what passes one test among those that pass another

pub any-of : (p q : Test) → ((r : KeptResult) → p r ≡ true → q r ≡ true) → (xs : Results) → list_any p (filter q xs) ≡ list_any p xs
any-of p q all [] = refl
any-of p q all (x ∷ xs) = pick (q x) refl (p x) refl (any-of p q all xs)
  where
    pick : (b : Bool) → q x ≡ b → (d : Bool) → p x ≡ d → list_any p (filter q xs) ≡ list_any p xs → list_any p (cond b (x ∷ filter q xs) (filter q xs)) ≡ (d || list_any p xs)
    pick true at d is go = ap (λ t. t || list_any p (filter q xs)) is ∙ ap (λ t. d || t) go
    pick false at true is go = absurd (true≢false (sym (all x is) ∙ at))
    pick false at false is go = go

pub filter-of : (p q : Test) → ((r : KeptResult) → p r ≡ true → q r ≡ true) → (xs : Results) → filter p (filter q xs) ≡ filter p xs
filter-of p q all [] = refl
filter-of p q all (x ∷ xs) = pick (q x) refl (p x) refl (filter-of p q all xs)
  where
    pick : (b : Bool) → q x ≡ b → (d : Bool) → p x ≡ d → filter p (filter q xs) ≡ filter p xs → filter p (cond b (x ∷ filter q xs) (filter q xs)) ≡ cond d (x ∷ filter p xs) (filter p xs)
    pick true at d is go = ap (λ t. cond t (x ∷ filter p (filter q xs)) (filter p (filter q xs))) is ∙ ap (λ (l : Results). cond d (x ∷ l) l) go
    pick false at true is go = absurd (true≢false (sym (all x is) ∙ at))
    pick false at false is go = go

pub filters-turn : (p q : Test) (xs : Results) → filter p (filter q xs) ≡ filter q (filter p xs)
filters-turn p q [] = refl
filters-turn p q (x ∷ xs) = pick (q x) refl (p x) refl (filters-turn p q xs)
  where
    pick : (b : Bool) → q x ≡ b → (d : Bool) → p x ≡ d → filter p (filter q xs) ≡ filter q (filter p xs)
        → filter p (cond b (x ∷ filter q xs) (filter q xs)) ≡ filter q (cond d (x ∷ filter p xs) (filter p xs))
    pick true at true is go = ap (λ t. cond t (x ∷ filter p (filter q xs)) (filter p (filter q xs))) is ∙ ap (λ (l : Results). x ∷ l) go ∙ sym (ap (λ t. cond t (x ∷ filter q (filter p xs)) (filter q (filter p xs))) at)
    pick true at false is go = ap (λ t. cond t (x ∷ filter p (filter q xs)) (filter p (filter q xs))) is ∙ go
    pick false at true is go = go ∙ sym (ap (λ t. cond t (x ∷ filter q (filter p xs)) (filter q (filter p xs))) at)
    pick false at false is go = go

-- ---- results and rows

pub any-values : (p : Test) (rows : Rows) → list_any p (values_of rows) ≡ list_any (λ (row : Row). p row.1) rows
any-values p [] = refl
any-values p (x ∷ xs) = ap (λ t. p x.1 || t) (any-values p xs)

pub filter-values : (p : Test) (rows : Rows) → filter p (values_of rows) ≡ values_of (filter (λ (row : Row). p row.1) rows)
filter-values p [] = refl
filter-values p (x ∷ xs) = pick (p x.1) (filter-values p xs)
  where
    pick : (b : Bool) → filter p (values_of xs) ≡ values_of (filter (λ (row : Row). p row.1) xs)
        → cond b (x.1 ∷ filter p (values_of xs)) (filter p (values_of xs)) ≡ values_of (cond b (x ∷ filter (λ (row : Row). p row.1) xs) (filter (λ (row : Row). p row.1) xs))
    pick true go = ap (λ (l : Results). x.1 ∷ l) go
    pick false go = go

-- ---- an Ack, a moment and the end of a connection touch results of calls alone

pub acked-of-call : (conn number : ℕ) (r : KeptResult) → is_acked_by conn number r ≡ true → is_of_call r ≡ true
acked-of-call conn number r = at r.until
  where
    at : (u : Until) → is_acked_by conn number (record { until = u; value = r.value }) ≡ true → is_of_call (record { until = u; value = r.value }) ≡ true
    at (RootAcked task) e = e
    at (Acked c n) e = refl
    at (Passed moment) e = refl

pub over-of-call : (moment : ℕ) (r : KeptResult) → is_over_at moment r ≡ true → is_of_call r ≡ true
over-of-call moment r = at r.until
  where
    at : (u : Until) → is_over_at moment (record { until = u; value = r.value }) ≡ true → is_of_call (record { until = u; value = r.value }) ≡ true
    at (RootAcked task) e = e
    at (Acked c n) e = refl
    at (Passed m) e = refl

pub orphan-of-call : (conn moment : ℕ) (r : KeptResult) → is_of_call (orphan conn moment r) ≡ is_of_call r
orphan-of-call conn moment r = at r.until
  where
    at : (u : Until) → is_of_call (orphan conn moment (record { until = u; value = r.value })) ≡ is_of_call (record { until = u; value = r.value })
    at (RootAcked task) = refl
    at (Passed m) = refl
    at (Acked c n) = pick (c == conn)
      where
        pick : (b : Bool) → is_of_call (cond b (record { until = Passed (moment + 600000); value = r.value }) (record { until = Acked c n; value = r.value })) ≡ true
        pick true = refl
        pick false = refl

pub of-calls-orphaned : (conn moment : ℕ) (results : Results) → of_calls (map (orphan conn moment) results) ≡ map (orphan conn moment) (of_calls results)
of-calls-orphaned conn moment [] = refl
of-calls-orphaned conn moment (x ∷ xs) =
    ap (λ b. cond b (orphan conn moment x ∷ of_calls (map (orphan conn moment) xs)) (of_calls (map (orphan conn moment) xs))) (orphan-of-call conn moment x) ∙ pick (is_of_call x) (of-calls-orphaned conn moment xs)
  where
    pick : (b : Bool) → of_calls (map (orphan conn moment) xs) ≡ map (orphan conn moment) (of_calls xs)
        → cond b (orphan conn moment x ∷ of_calls (map (orphan conn moment) xs)) (of_calls (map (orphan conn moment) xs)) ≡ map (orphan conn moment) (cond b (x ∷ of_calls xs) (of_calls xs))
    pick true go = ap (λ (l : Results). orphan conn moment x ∷ l) go
    pick false go = go

pub of-calls-more : (conn number : ℕ) (value : Option Value) (results : Results) → of_calls (results ++ record { until = Acked conn number; value = value } ∷ []) ≡ of_calls results ++ record { until = Acked conn number; value = value } ∷ []
of-calls-more conn number value results = filter-append is_of_call results (record { until = Acked conn number; value = value } ∷ [])
