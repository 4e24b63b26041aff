-- Results that are held, of roots and of calls, as they come and go.
use Rattle.std.proofs.Common.{◌≡◌, ℕ, Bool, true, false, cond, List, [], ◌∷◌, ◌++◌, Option, refl, sym, ap, ◌∙◌, map, filter}
use Rattle.std.specs.Prelude.{not, ◌==◌, ◌||◌}
use Rattle.std.specs.List.{list_any}
use Rattle.std.proofs.lemmas.List.{map-append}
use Rattle.std.proofs.lemmas.List.Elements.{filter-append}
use Rattle.space_ids.specs.declared.value.Value.{Value}
use Rattle.space_ids.specs.declared.ids.Ref.{Ref}
use Rattle.sp_rules.specs.Classes.{Setting}
use Rattle.sp_rules.specs.Endings.{orphan}
use Rattle.sp_rules.specs.Frames.{release}
use Rattle.sp_rules.specs.Holders.{drop}
use Rattle.sp_rules.specs.OwnEvents.{is_of_root}
use Rattle.sp_rules.specs.State.{State, KeptResult, Until, RootAcked, Acked, Passed}
use Rattle.sp_results.specs.Waiting.{is_waiting, of_task, without}
use Rattle.sp_results.specs.Held.{AreCallResults, is_of_call, left_at, left_by_ack, of_roots, references_of_results, with_acked}
use Rattle.sp_results.specs.declared.call_results.CallResults.{CallResults}
use Rattle.sp_results.proofs.RootLemmas.{let-go-each, root-comes, root-goes, roots-more, roots-orphaned, roots-passed, roots-released}
use Rattle.sp_living.specs.Parts.{AreResults}
use Rattle.sp_living.specs.Views.{kept}

-- the result of a root or lookup is held
pub root-kept : (moment task : ℕ) (value : Option Value) (results : List KeptResult) (roots : List (ℕ × Option Value)) (calls : CallResults) → AreResults moment results roots calls
    → AreResults moment (results ++ record { until = RootAcked task; value = value } ∷ []) (roots ++ (task, value) ∷ []) calls
root-kept moment task value results roots calls are = record {
  of_own = map-append kept roots ((task, value) ∷ []) ∙ ap (λ (rs : List KeptResult). rs ++ kept (task, value) ∷ []) are.of_own ∙ sym (filter-append (λ (r : KeptResult). not (is_of_call r)) results (kept (task, value) ∷ []));
  of_calls = root-comes moment results (kept (task, value)) calls refl are.of_calls;
}

-- the result of a call is held
pub call-kept : (moment conn number : ℕ) (value : Option Value) (results : List KeptResult) (roots : List (ℕ × Option Value)) (calls new : CallResults)
    → AreCallResults moment (with_acked conn number value results) new → AreResults moment results roots calls → AreResults moment (with_acked conn number value results) roots new
call-kept moment conn number value results roots calls new now are = record { of_own = are.of_own ∙ sym (roots-more conn number value results); of_calls = now }

-- results of a connection are held until a moment
pub results-orphaned : (moment conn : ℕ) (results : List KeptResult) (roots : List (ℕ × Option Value)) (calls new : CallResults)
    → AreCallResults moment (map (orphan conn moment) results) new → AreResults moment results roots calls → AreResults moment (map (orphan conn moment) results) roots new
results-orphaned moment conn results roots calls new now are = record { of_own = are.of_own ∙ sym (roots-orphaned conn moment results); of_calls = now }

-- whether a result of a root or lookup is held
pub waits-as : (moment task : ℕ) (results : List KeptResult) (roots : List (ℕ × Option Value)) (calls : CallResults) → AreResults moment results roots calls
    → is_waiting roots task ≡ list_any (is_of_root task) results
waits-as moment task results roots calls are = rows roots ∙ ap (list_any (is_of_root task)) are.of_own ∙ all results
  where
    rows : (rs : List (ℕ × Option Value)) → is_waiting rs task ≡ list_any (is_of_root task) (map kept rs)
    rows [] = refl
    rows (r ∷ rs) = ap (λ b. (r.0 == task) || b) (rows rs)

    of : (u : Until) (value : Option Value) (rest more : Bool) → more ≡ rest
        → (is_of_root task (record { until = u; value = value }) || rest) ≡ cond (not (is_of_call (record { until = u; value = value }))) (is_of_root task (record { until = u; value = value }) || more) more
    of (RootAcked t) value rest more same = ap (λ b. (t == task) || b) (sym same)
    of (Acked c n) value rest more same = sym same
    of (Passed m) value rest more same = sym same

    pull : (b : Bool) (r : KeptResult) (xs : List KeptResult) → list_any (is_of_root task) (cond b (r ∷ xs) xs) ≡ cond b (is_of_root task r || list_any (is_of_root task) xs) (list_any (is_of_root task) xs)
    pull true r xs = refl
    pull false r xs = refl

    all : (rs : List KeptResult) → list_any (is_of_root task) (of_roots rs) ≡ list_any (is_of_root task) rs
    all [] = refl
    all (r ∷ rs) = pull (not (is_of_call r)) r (of_roots rs) ∙ sym (of r.until r.value (list_any (is_of_root task) rs) (list_any (is_of_root task) (of_roots rs)) (all rs))

-- ---- lists

-- two tests, one after the other
both : {A : Type 0} (p q : A → Bool) (xs : List A) → filter p (filter q xs) ≡ filter q (filter p xs)
both p q [] = refl
both {A} p q (x ∷ xs) = by (p x) (q x) refl refl (both p q xs)
  where
    by : (b c : Bool) → p x ≡ b → q x ≡ c → filter p (filter q xs) ≡ filter q (filter p xs)
        → filter p (cond c (x ∷ filter q xs) (filter q xs)) ≡ filter q (cond b (x ∷ filter p xs) (filter p xs))
    by true true px qx e = ap (λ t. cond t (x ∷ filter p (filter q xs)) (filter p (filter q xs))) px ∙ ap (λ (ys : List A). x ∷ ys) e ∙ sym (ap (λ t. cond t (x ∷ filter q (filter p xs)) (filter q (filter p xs))) qx)
    by true false px qx e = e ∙ sym (ap (λ t. cond t (x ∷ filter q (filter p xs)) (filter q (filter p xs))) qx)
    by false true px qx e = ap (λ t. cond t (x ∷ filter p (filter q xs)) (filter p (filter q xs))) px ∙ e
    by false false px qx e = e

pub any-none : {A : Type 0} (p : A → Bool) (xs : List A) → filter p xs ≡ [] → list_any p xs ≡ false
any-none p [] h = refl
any-none p (x ∷ xs) h = by (p x) h (any-none p xs)
  where
    by : (b : Bool) → cond b (x ∷ filter p xs) (filter p xs) ≡ [] → (filter p xs ≡ [] → list_any p xs ≡ false) → (b || list_any p xs) ≡ false
    by true h rest = cc
    by false h rest = rest h

pub any-some : {A : Type 0} (p : A → Bool) (xs : List A) (y : A) (ys : List A) → filter p xs ≡ y ∷ ys → list_any p xs ≡ true
any-some p [] y ys h = cc
any-some p (x ∷ xs) y ys h = by (p x) h (any-some p xs y ys)
  where
    by : (b : Bool) → cond b (x ∷ filter p xs) (filter p xs) ≡ y ∷ ys → (filter p xs ≡ y ∷ ys → list_any p xs ≡ true) → (b || list_any p xs) ≡ true
    by true h rest = refl
    by false h rest = rest h

-- ---- results that go

pub call-released : (moment conn number : ℕ) (results : List KeptResult) (roots : List (ℕ × Option Value)) (calls new : CallResults)
    → AreCallResults moment (left_by_ack conn number results) new → AreResults moment results roots calls → AreResults moment (left_by_ack conn number results) roots new
call-released moment conn number results roots calls new now are = record { of_own = are.of_own ∙ sym (roots-released conn number results); of_calls = now }

pub results-passed : (before moment : ℕ) (results : List KeptResult) (roots : List (ℕ × Option Value)) (calls new : CallResults)
    → AreCallResults moment (left_at moment results) new → AreResults before results roots calls → AreResults moment (left_at moment results) roots new
results-passed before moment results roots calls new now are = record { of_own = are.of_own ∙ sym (roots-passed moment results); of_calls = now }

-- those of a task are none but its own
only-roots : (task : ℕ) (rs : List KeptResult) → filter (is_of_root task) rs ≡ filter (is_of_root task) (of_roots rs)
only-roots task [] = refl
only-roots task (r ∷ rs) = at r.until r.value (only-roots task rs)
  where
    at : (u : Until) (v : Option Value) → filter (is_of_root task) rs ≡ filter (is_of_root task) (of_roots rs)
        → filter (is_of_root task) (record { until = u; value = v } ∷ rs) ≡ filter (is_of_root task) (of_roots (record { until = u; value = v } ∷ rs))
    at (RootAcked t) v e = ap (λ (ks : List KeptResult). cond (t == task) (record { until = RootAcked t; value = v } ∷ ks) ks) e
    at (Acked c n) v e = e
    at (Passed m) v e = e

roots-of : (task : ℕ) (rows : List (ℕ × Option Value)) → filter (is_of_root task) (map kept rows) ≡ map kept (of_task task rows)
roots-of task [] = refl
roots-of task (r ∷ rs) =
    elim (r.0 == task) as (λ b. cond b (kept r ∷ filter (is_of_root task) (map kept rs)) (filter (is_of_root task) (map kept rs)) ≡ map kept (cond b (r ∷ of_task task rs) (of_task task rs)))
    [ true ↦ ap (λ (ks : List KeptResult). kept r ∷ ks) (roots-of task rs) | false ↦ roots-of task rs ]

roots-left : (task : ℕ) (rows : List (ℕ × Option Value)) → filter (λ (r : KeptResult). not (is_of_root task r)) (map kept rows) ≡ map kept (without task rows)
roots-left task [] = refl
roots-left task (r ∷ rs) =
    elim (r.0 == task) as (λ b. cond (not b) (kept r ∷ filter (λ (r : KeptResult). not (is_of_root task r)) (map kept rs)) (filter (λ (r : KeptResult). not (is_of_root task r)) (map kept rs)) ≡ map kept (cond (not b) (r ∷ without task rs) (without task rs)))
    [ true ↦ roots-left task rs | false ↦ ap (λ (ks : List KeptResult). kept r ∷ ks) (roots-left task rs) ]

-- the results that are held of a task, as the table has them
pub of-task : (moment task : ℕ) (results : List KeptResult) (roots : List (ℕ × Option Value)) (calls : CallResults) → AreResults moment results roots calls
    → filter (is_of_root task) results ≡ map kept (of_task task roots)
of-task moment task results roots calls are = only-roots task results ∙ ap (filter (is_of_root task)) (sym are.of_own) ∙ roots-of task roots

pub root-released : (moment task : ℕ) (results : List KeptResult) (roots : List (ℕ × Option Value)) (calls : CallResults) → AreResults moment results roots calls
    → AreResults moment (filter (λ (r : KeptResult). not (is_of_root task r)) results) (without task roots) calls
root-released moment task results roots calls are = record {
  of_own = sym (roots-left task roots) ∙ ap (filter (λ (r : KeptResult). not (is_of_root task r))) are.of_own ∙ both (λ (r : KeptResult). not (is_of_root task r)) (λ (r : KeptResult). not (is_of_call r)) results;
  of_calls = root-goes moment task results calls are.of_calls;
}

-- What goes lets go its references, in their order.
pub released-as : (g : Setting) (s : State) (is : KeptResult → Bool) (refs : List Ref) → references_of_results (filter is s.results) ≡ refs
    → release g is s ≡ drop g refs (record s { results = filter (λ (r : KeptResult). not (is r)) s.results })
unfolding release
released-as g s is refs h =
    let left : State = record s { results = filter (λ (r : KeptResult). not (is r)) s.results } in
    let-go-each g (filter is s.results) left ∙ ap (λ (rs : List Ref). drop g rs left) h
