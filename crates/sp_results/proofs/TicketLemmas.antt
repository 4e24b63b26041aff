use Rattle.std.proofs.Common.{◌≡◌, ℕ, ◌<◌, ◌≤◌, Bool, true, false, cond, List, [], ◌∷◌, ◌++◌, filter, Option, Some, is_some, nat_eq, refl, sym, ap, ◌∙◌, append-nil, arith}
use Rattle.std.specs.Prelude.{◌==◌, ◌&&◌, ◌||◌, not}
use Rattle.std.specs.Cmp.{nat_eq_equiv}
use Rattle.std.specs.List.{list_any}
use Rattle.std.specs.Map.{keys_of, values_of, lookup, remove_entry}
use Rattle.std.proofs.lemmas.Bool.{eqb-true}
use Rattle.std.proofs.lemmas.List.Concat.{flat_map-append}
use Rattle.space_ids.specs.declared.value.Value.{Value}
use Rattle.rising_map.specs.Rows.{AreAbove, AreBelow, Rises}
use Rattle.sp_rules.specs.Frames.{is_acked_by}
use Rattle.sp_rules.specs.State.{KeptResult, Until, RootAcked, Acked, Passed}
use Rattle.sp_results.specs.Held.{number_on, numbers_on, orphan_in, orphans_in, valued}
use Rattle.sp_results.specs.Numbers.{with_number}

abbrev pub Row : Type 0
Row = ℕ × KeptResult

abbrev pub Rows : Type 0
Rows = List Row

-- ---- rows and their values

pub keys-valued : (rows : Rows) → keys_of (valued rows) ≡ keys_of rows
keys-valued [] = refl
keys-valued (r ∷ rs) = ap (λ (ks : List ℕ). r.0 ∷ ks) (keys-valued rs)

pub valued-more : (rows : Rows) (r : Row) → valued (rows ++ r ∷ []) ≡ valued rows ++ (r.0, r.1.value) ∷ []
valued-more [] r = refl
valued-more (x ∷ xs) r = ap (λ (vs : List (ℕ × Option Value)). (x.0, x.1.value) ∷ vs) (valued-more xs r)

pub keys-more : (rows : Rows) (r : Row) → keys_of (rows ++ r ∷ []) ≡ keys_of rows ++ r.0 ∷ []
keys-more [] r = refl
keys-more (x ∷ xs) r = ap (λ (ks : List ℕ). x.0 ∷ ks) (keys-more xs r)

pub values-more : (rows : Rows) (r : Row) → values_of (rows ++ r ∷ []) ≡ values_of rows ++ r.1 ∷ []
values-more [] r = refl
values-more (x ∷ xs) r = ap (λ (vs : List KeptResult). x.1 ∷ vs) (values-more xs r)

pub valued-removed : (t : ℕ) (rows : Rows) → valued (remove_entry (nat_eq t) rows) ≡ remove_entry (nat_eq t) (valued rows)
valued-removed t [] = refl
valued-removed t (x ∷ xs) = pick (nat_eq t x.0) (valued-removed t xs)
  where
    pick : (b : Bool) → valued (remove_entry (nat_eq t) xs) ≡ remove_entry (nat_eq t) (valued xs)
        → valued (cond b xs (x ∷ remove_entry (nat_eq t) xs)) ≡ cond b (valued xs) ((x.0, x.1.value) ∷ remove_entry (nat_eq t) (valued xs))
    pick true go = refl
    pick false go = ap (λ (vs : List (ℕ × Option Value)). (x.0, x.1.value) ∷ vs) go

-- ---- numbers of rows

pub below-last : (n k : ℕ) (ns : List ℕ) → AreBelow n ns → k < n → AreBelow n (ns ++ k ∷ [])
below-last n k [] a h = (h, tt)
below-last n k (m ∷ ms) a h = (a.0, below-last n k ms a.1 h)

pub below-more : (n m : ℕ) (ns : List ℕ) → n ≤ m → AreBelow n ns → AreBelow m ns
below-more n m [] h a = tt
below-more n m (k ∷ ks) h a = let low : k < n = a.0 in (omega (arith, low, h), below-more n m ks h a.1)

pub below-left : (p : Row → Bool) (n : ℕ) (rows : Rows) → AreBelow n (keys_of rows) → AreBelow n (keys_of (filter p rows))
below-left p n [] a = tt
below-left p n (x ∷ xs) a = pick (p x) (below-left p n xs a.1)
  where
    pick : (b : Bool) → AreBelow n (keys_of (filter p xs)) → AreBelow n (keys_of (cond b (x ∷ filter p xs) (filter p xs)))
    pick true go = (a.0, go)
    pick false go = go

pub below-removed : (n t : ℕ) (rows : Rows) → AreBelow n (keys_of rows) → AreBelow n (keys_of (remove_entry (nat_eq t) rows))
below-removed n t [] a = tt
below-removed n t (x ∷ xs) a = pick (nat_eq t x.0) (below-removed n t xs a.1)
  where
    pick : (b : Bool) → AreBelow n (keys_of (remove_entry (nat_eq t) xs)) → AreBelow n (keys_of (cond b xs (x ∷ remove_entry (nat_eq t) xs)))
    pick true go = a.1
    pick false go = (a.0, go)

above-left : (p : Row → Bool) (n : ℕ) (rows : Rows) → AreAbove n (keys_of rows) → AreAbove n (keys_of (filter p rows))
above-left p n [] a = tt
above-left p n (x ∷ xs) a = pick (p x) (above-left p n xs a.1)
  where
    pick : (b : Bool) → AreAbove n (keys_of (filter p xs)) → AreAbove n (keys_of (cond b (x ∷ filter p xs) (filter p xs)))
    pick true go = (a.0, go)
    pick false go = go

pub rises-left : (p : Row → Bool) (rows : Rows) → Rises (keys_of rows) → Rises (keys_of (filter p rows))
rises-left p [] a = tt
rises-left p (x ∷ xs) a = pick (p x) (rises-left p xs a.1)
  where
    pick : (b : Bool) → Rises (keys_of (filter p xs)) → Rises (keys_of (cond b (x ∷ filter p xs) (filter p xs)))
    pick true go = (above-left p x.0 xs a.0, go)
    pick false go = go

-- what is found stands above what is below all
pub above-found : {A : Type 0} (s t : ℕ) (v : A) (es : List (ℕ × A)) → AreAbove s (keys_of es) → lookup (nat_eq t) es ≡ Some v → s < t
above-found s t v [] a found = cc
above-found {A} s t v (e ∷ es) a found = pick (nat_eq t e.0) refl found (above-found s t v es a.1)
  where
    pick : (b : Bool) → nat_eq t e.0 ≡ b → cond b (Some e.1) (lookup (nat_eq t) es) ≡ Some v → (lookup (nat_eq t) es ≡ Some v → s < t) → s < t
    pick true at f go = let low : s < e.0 = a.0 in let here : t ≡ e.0 = eqb-true t e.0 at in omega (arith, low, here)
    pick false at f go = go f

-- ---- a result is held until its Ack

pub numbers-more : (conn number ticket : ℕ) (value : Option Value) (rows : Rows) (q : ℕ) → with_number conn number ticket (numbers_on rows) q ≡ numbers_on (rows ++ (ticket, record { until = Acked conn number; value = value }) ∷ []) q
numbers-more conn number ticket value rows q = pick (nat_eq conn q) ∙ sym (flat_map-append (number_on q) rows ((ticket, record { until = Acked conn number; value = value }) ∷ []))
  where
    pick : (b : Bool) → cond b (numbers_on rows q ++ (number, ticket) ∷ []) (numbers_on rows q) ≡ numbers_on rows q ++ (cond b ((number, ticket) ∷ []) [] ++ [])
    pick true = refl
    pick false = sym (append-nil (numbers_on rows q))

pub orphans-more : (conn number ticket : ℕ) (value : Option Value) (rows : Rows) → orphans_in (rows ++ (ticket, record { until = Acked conn number; value = value }) ∷ []) ≡ orphans_in rows
orphans-more conn number ticket value rows = flat_map-append orphan_in rows ((ticket, record { until = Acked conn number; value = value }) ∷ []) ∙ append-nil (orphans_in rows)

-- ---- a result that waits for an Ack

abbrev pub acked : ℕ → ℕ → Row → Bool
acked conn number row = is_acked_by conn number row.1

abbrev pub unacked : ℕ → ℕ → Row → Bool
unacked conn number row = not (is_acked_by conn number row.1)

-- an Ack's result comes first or is among the others
pub any-acked : (conn number : ℕ) (rows : Rows) → list_any (acked conn number) rows ≡ is_some (lookup (nat_eq number) (numbers_on rows conn))
any-acked conn number [] = refl
any-acked conn number (x ∷ xs) = at x.1.until (any-acked conn number xs)
  where
    rest : Bool
    rest = list_any (acked conn number) xs

    others : List (ℕ × ℕ)
    others = numbers_on xs conn

    is : Until → Bool
    is u = is_acked_by conn number (record { until = u; value = x.1.value })

    at : (u : Until) → rest ≡ is_some (lookup (nat_eq number) others) → (is u || rest) ≡ is_some (lookup (nat_eq number) (number_on conn (x.0, record { until = u; value = x.1.value }) ++ others))
    at (RootAcked task) go = go
    at (Passed moment) go = go
    at (Acked c n) go = pick (c == conn) (n == number) (nat_eq_equiv.symm number n)
      where
        pick : (b d : Bool) → nat_eq number n ≡ d → ((b && d) || rest) ≡ is_some (lookup (nat_eq number) (cond b ((n, x.0) ∷ []) [] ++ others))
        pick false d e = go
        pick true true e = sym (ap (λ t. is_some (cond t (Some x.0) (lookup (nat_eq number) others))) e)
        pick true false e = go ∙ sym (ap (λ t. is_some (cond t (Some x.0) (lookup (nat_eq number) others))) e)
