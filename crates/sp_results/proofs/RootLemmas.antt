use Rattle.std.proofs.Common.{◌≡◌, ℕ, ◌≤◌, Bool, true, false, cond, List, [], ◌∷◌, ◌++◌, filter, map, Option, refl, sym, ap, ◌∙◌, true≢false, append-nil}
use Rattle.std.specs.Prelude.{◌||◌, not}
use Rattle.std.specs.List.{list_any}
use Rattle.std.proofs.lemmas.List.Concat.{flat_map-append}
use Rattle.std.proofs.lemmas.List.Elements.{filter-append}
use Rattle.space_ids.specs.declared.ids.ForeignId.{ForeignId}
use Rattle.space_ids.specs.declared.value.Value.{Value}
use Rattle.sp_rules.specs.Classes.{Setting}
use Rattle.sp_rules.specs.Endings.{orphan}
use Rattle.sp_rules.specs.Frames.{is_acked_by, let_go}
use Rattle.sp_rules.specs.Holders.{drop, drop_ids, holder_goes}
use Rattle.sp_rules.specs.Lists.{each}
use Rattle.sp_rules.specs.OwnEvents.{is_of_root, is_over_at}
use Rattle.sp_rules.specs.References.{foreign_id, foreign_ids, references_in}
use Rattle.sp_rules.specs.State.{State, KeptResult, Until, RootAcked, Acked, Passed}
use Rattle.sp_results.specs.Held.{AreCallResults, is_of_call, of_calls, of_roots, references_of_results}
use Rattle.sp_results.specs.declared.call_results.CallResults.{CallResults}
use Rattle.sp_results.proofs.CallLemmas.{Results, acked-of-call, orphan-of-call, over-of-call}
use Rattle.sp_results.proofs.PassLemmas.{ticketed-later}

abbrev Test : Type 0
Test = KeptResult → Bool

-- ---- what happens to the results of roots leaves the table

-- a result that is none of a call's comes
pub root-comes : (moment : ℕ) (results : Results) (r : KeptResult) (table : CallResults) → is_of_call r ≡ false → AreCallResults moment results table → AreCallResults moment (results ++ r ∷ []) table
root-comes moment results r table other a = record {
  rows = a.rows;
  are = a.are ∙ sym (filter-append _ results (r ∷ []) ∙ ap (λ b. of_calls results ++ cond b (r ∷ []) []) other ∙ append-nil (of_calls results));
  ticketed = a.ticketed;
}

-- what goes is none of a call's
pub others-go : (goes : Test) (results : Results) → ((r : KeptResult) → goes r ≡ true → is_of_call r ≡ false) → of_calls (filter (λ (r : KeptResult). not (goes r)) results) ≡ of_calls results
others-go goes [] all = refl
others-go goes (x ∷ xs) all = pick (goes x) refl (others-go goes xs all)
  where
    left : Results
    left = filter (λ (r : KeptResult). not (goes r)) xs

    pick : (b : Bool) → goes x ≡ b → of_calls left ≡ of_calls xs → of_calls (cond (not b) (x ∷ left) left) ≡ cond (is_of_call x) (x ∷ of_calls xs) (of_calls xs)
    pick true is go = go ∙ sym (ap (λ b. cond b (x ∷ of_calls xs) (of_calls xs)) (all x is))
    pick false is go = ap (λ (l : Results). cond (is_of_call x) (x ∷ l) l) go

root-of-root : (task : ℕ) (r : KeptResult) → is_of_root task r ≡ true → is_of_call r ≡ false
root-of-root task r = at r.until
  where
    at : (u : Until) → is_of_root task (record { until = u; value = r.value }) ≡ true → is_of_call (record { until = u; value = r.value }) ≡ false
    at (RootAcked t) e = refl
    at (Acked c n) e = absurd (true≢false (sym e))
    at (Passed m) e = absurd (true≢false (sym e))

-- the result of a root is acknowledged
pub root-goes : (moment task : ℕ) (results : Results) (table : CallResults) → AreCallResults moment results table → AreCallResults moment (filter (λ (r : KeptResult). not (is_of_root task r)) results) table
root-goes moment task results table a = record { rows = a.rows; are = a.are ∙ sym (others-go (is_of_root task) results (root-of-root task)); ticketed = a.ticketed }

-- a moment comes at which no result goes
pub later : (before moment : ℕ) (results : Results) (table : CallResults) → before ≤ moment → AreCallResults before results table → AreCallResults moment results table
later before moment results table low a = record { rows = a.rows; are = a.are; ticketed = ticketed-later before moment a.rows table low a.ticketed }

-- ---- what happens to the results of calls leaves those of roots

pub roots-more : (conn number : ℕ) (value : Option Value) (results : Results) → of_roots (results ++ record { until = Acked conn number; value = value } ∷ []) ≡ of_roots results
roots-more conn number value results = filter-append _ results (record { until = Acked conn number; value = value } ∷ []) ∙ append-nil (of_roots results)

calls-go : (goes : Test) (results : Results) → ((r : KeptResult) → goes r ≡ true → is_of_call r ≡ true) → of_roots (filter (λ (r : KeptResult). not (goes r)) results) ≡ of_roots results
calls-go goes [] all = refl
calls-go goes (x ∷ xs) all = pick (goes x) refl (calls-go goes xs all)
  where
    left : Results
    left = filter (λ (r : KeptResult). not (goes r)) xs

    pick : (b : Bool) → goes x ≡ b → of_roots left ≡ of_roots xs → of_roots (cond (not b) (x ∷ left) left) ≡ cond (not (is_of_call x)) (x ∷ of_roots xs) (of_roots xs)
    pick true is go = go ∙ sym (ap (λ b. cond (not b) (x ∷ of_roots xs) (of_roots xs)) (all x is))
    pick false is go = ap (λ (l : Results). cond (not (is_of_call x)) (x ∷ l) l) go

pub roots-released : (conn number : ℕ) (results : Results) → of_roots (filter (λ (r : KeptResult). not (is_acked_by conn number r)) results) ≡ of_roots results
roots-released conn number results = calls-go (is_acked_by conn number) results (acked-of-call conn number)

pub roots-passed : (moment : ℕ) (results : Results) → of_roots (filter (λ (r : KeptResult). not (is_over_at moment r)) results) ≡ of_roots results
roots-passed moment results = calls-go (is_over_at moment) results (over-of-call moment)

root-stays : (conn moment : ℕ) (r : KeptResult) → is_of_call r ≡ false → orphan conn moment r ≡ r
root-stays conn moment r = at r.until
  where
    at : (u : Until) → is_of_call (record { until = u; value = r.value }) ≡ false → orphan conn moment (record { until = u; value = r.value }) ≡ record { until = u; value = r.value }
    at (RootAcked task) e = refl
    at (Acked c n) e = absurd (true≢false e)
    at (Passed m) e = refl

pub roots-orphaned : (conn moment : ℕ) (results : Results) → of_roots (map (orphan conn moment) results) ≡ of_roots results
roots-orphaned conn moment [] = refl
roots-orphaned conn moment (x ∷ xs) =
    ap (λ b. cond (not b) (orphan conn moment x ∷ later_roots) later_roots) (orphan-of-call conn moment x) ∙ pick (is_of_call x) refl (roots-orphaned conn moment xs)
  where
    later_roots : Results
    later_roots = of_roots (map (orphan conn moment) xs)

    pick : (b : Bool) → is_of_call x ≡ b → later_roots ≡ of_roots xs → cond (not b) (orphan conn moment x ∷ later_roots) later_roots ≡ cond (not b) (x ∷ of_roots xs) (of_roots xs)
    pick true is go = go
    pick false is go = let same = root-stays conn moment x is in λ j. same j ∷ go j

-- ---- all results are those of roots and those of calls

pub any-of-both : (p : Test) (results : Results) → list_any p results ≡ (list_any p (of_roots results) || list_any p (of_calls results))
any-of-both p [] = refl
any-of-both p (x ∷ xs) = pick (is_of_call x) (p x) refl (any-of-both p xs)
  where
    roots : Results
    roots = of_roots xs

    calls : Results
    calls = of_calls xs

    or-true : (b : Bool) → true ≡ (b || true)
    or-true true = refl
    or-true false = refl

    pick : (b d : Bool) → p x ≡ d → list_any p xs ≡ (list_any p roots || list_any p calls) → (d || list_any p xs) ≡ (list_any p (cond (not b) (x ∷ roots) roots) || list_any p (cond b (x ∷ calls) calls))
    pick true true is go = or-true (list_any p roots) ∙ ap (λ t. list_any p roots || (t || list_any p calls)) (sym is)
    pick true false is go = go ∙ ap (λ t. list_any p roots || (t || list_any p calls)) (sym is)
    pick false true is go = ap (λ t. (t || list_any p roots) || list_any p calls) (sym is)
    pick false false is go = go ∙ ap (λ t. (t || list_any p roots) || list_any p calls) (sym is)

-- ---- results go

drop-append : (xs ys : List ForeignId) (s : State) → drop_ids (xs ++ ys) s ≡ drop_ids ys (drop_ids xs s)
unfolding drop_ids each
drop-append [] ys s = refl
drop-append (x ∷ xs) ys s = drop-append xs ys (holder_goes s x)

-- the references in results that go are let go one after another
pub let-go-each : (g : Setting) (results : Results) (s : State) → each (let_go g) results s ≡ drop g (references_of_results results) s
unfolding drop_ids each
let-go-each g [] s = refl
let-go-each g (r ∷ rs) s =
    let-go-each g rs (let_go g s r) ∙ sym (drop-append (foreign_ids g.id (references_in r.value)) (foreign_ids g.id (references_of_results rs)) s)
    ∙ ap (λ ids. drop_ids ids s) (sym (flat_map-append (foreign_id g.id) (references_in r.value) (references_of_results rs)))
