-- The row of deadlines as a set.
use Rattle.std.proofs.Common.{◌≡◌, ℕ, ◌<◌, ◌≤◌, Bool, true, false, cond, not, ◌==◌, zero, suc, length, get_or, List, [], ◌∷◌, Contains, refl, sym, ap, subst, ◌∙◌, arith}
use Rattle.std.specs.Prelude.{nat_lt, map, filter}
use Rattle.std.specs.declared.cmp.Ordering.{Ordering}
use Rattle.std.specs.declared.cmp.Ordering.TheVariants.{Less, Equal, Greater}
use Rattle.std.specs.declared.ops.Bound.TheVariants.{Included, Unbounded}
use Rattle.std.specs.Ordering.{ordering_then, nat_cmp, eq_by_cmp, is_lt}
use Rattle.std.specs.Cmp.{IsTotalOrder, on_total, then_total, nat_cmp_total}
use Rattle.std.specs.BTreeSet.{BTreeSet, contains, Updates}
use Rattle.std.specs.BTreeMap.Range.{range_contains}
use Rattle.std.proofs.lemmas.Bool.Decides.{nat_tests}
use Rattle.std.proofs.lemmas.Map.Lookups.{CmpEqualImpliesEq, exact_unsigned}
use Rattle.std.proofs.lemmas.Map.Views.{btree_set_contains_iff, tells_apart}
use Rattle.dgc_index.specs.declared.deadlines.Deadline.{Deadline}
use Rattle.dgc_index.specs.Deadlines.{order, indexes_up_to}

then-equal : (p q : Ordering) → ordering_then p q ≡ Equal → (p ≡ Equal) × (q ≡ Equal)
then-equal Less q h = absurd (cc)
then-equal Equal q h = (refl, h)
then-equal Greater q h = absurd (cc)

exact : CmpEqualImpliesEq order
exact x y e =
    let both = then-equal (nat_cmp x.moment y.moment) _ e in
    let p = exact_unsigned x.moment y.moment both.0 in
    let q = exact_unsigned x.index y.index both.1 in
    λ i. record { moment = p i; index = q i }

total-order : IsTotalOrder order
total-order = then_total (on_total (λ (d : Deadline). d.moment) nat_cmp_total) (on_total (λ (d : Deadline). d.index) nat_cmp_total)

has : (s : BTreeSet Deadline) (k : Deadline) → Contains s.keys k → contains order s k ≡ true
has s k = (btree_set_contains_iff total-order exact s k).1

there : (s : BTreeSet Deadline) (k : Deadline) → contains order s k ≡ true → Contains s.keys k
there s k = (btree_set_contains_iff total-order exact s k).0

-- a deadline that is added is there, with all others
pub added : (s n : BTreeSet Deadline) (k : Deadline) → Updates order s n k true → Contains n.keys k × ((other : Deadline) → Contains s.keys other → Contains n.keys other)
added s n k updates = (there n k updates.1, λ other was. there n other (updates.0 other ∙ still (eq_by_cmp order k other) (contains order s other) (has s other was)))
  where
    still : (t b : Bool) → b ≡ true → cond t true b ≡ true
    still true b h = refl
    still false b h = h

-- a deadline that is taken out leaves all others
pub removed : (s n : BTreeSet Deadline) (k : Deadline) → Updates order s n k false → (other : Deadline) → (other ≡ k → ⊥) → Contains s.keys other → Contains n.keys other
removed s n k updates other apart was =
    elim (eq_by_cmp order k other) as (λ t. eq_by_cmp order k other ≡ t → contains order n other ≡ cond t false (contains order s other) → Contains n.keys other) [
      | true ↦ λ same _. absurd (apart (sym (tells_apart exact k other same)))
      | false ↦ λ _ left. there n other (left ∙ has s other was)
    ] refl (updates.0 other)

in-range : (m : ℕ) (d : Deadline) → d.moment ≤ m → d.index ≤ 18446744073709551615
    → range_contains order Unbounded (Included (record { moment = m; index = 18446744073709551615 })) d ≡ true
in-range m d early small = ap not (not-above m d.moment 18446744073709551615 d.index early small)
  where
    not-above : (a b i j : ℕ) → b ≤ a → j ≤ i → is_lt (ordering_then (nat_cmp a b) (nat_cmp i j)) ≡ false
    not-above a b i j le few =
        let first : nat_lt a b ≡ false = grind (arith, nat_tests) in
        let second : nat_lt i j ≡ false = grind (arith, nat_tests) in
        rw (first, second) (by (a == b) (i == j))
      where
        by : (s t : Bool) → is_lt (ordering_then (cond s Equal Greater) (cond t Equal Greater)) ≡ false
        by true true = refl
        by true false = refl
        by false t = refl

one-following : {X : Type 0} (x y : X) (xs : List X) → Contains xs x → Contains (y ∷ xs) x
one-following x y xs h = (suc h.0, omega (arith, h.1), h.2)

contains-kept : (p : Deadline → Bool) (d : Deadline) → p d ≡ true → (ds : List Deadline) (k : ℕ) → k < length ds → get_or ds k d ≡ d → Contains (filter p ds) d
contains-kept p d passes [] k below is = absurd (omega arith)
contains-kept p d passes (e ∷ ds) zero below is = rw (subst (λ (x : Deadline). p x ≡ true) (sym is) passes) (0, omega arith, is)
contains-kept p d passes (e ∷ ds) (suc k) below is = elim (p e) as (λ t. Contains (cond t (e ∷ filter p ds) (filter p ds)) d)
    [ true ↦ one-following d e (filter p ds) (contains-kept p d passes ds k (omega arith) is) | false ↦ contains-kept p d passes ds k (omega arith) is ]

contains-index : (d : Deadline) (ds : List Deadline) (k : ℕ) → k < length ds → get_or ds k d ≡ d → Contains (map (λ (x : Deadline). x.index) ds) d.index
contains-index d [] k below is = absurd (omega arith)
contains-index d (e ∷ ds) zero below is = (0, omega arith, ap (λ (x : Deadline). x.index) is)
contains-index d (e ∷ ds) (suc k) below is = one-following d.index e.index (map (λ (x : Deadline). x.index) ds) (contains-index d ds k (omega arith) is)

-- a deadline up to the moment is among those up to it
pub found-up_to : (m : ℕ) (row : BTreeSet Deadline) (d : Deadline) → d.moment ≤ m → d.index ≤ 18446744073709551615 → Contains row.keys d → Contains (indexes_up_to m row) d.index
found-up_to m row d early small is =
    let p = range_contains order Unbounded (Included (record { moment = m; index = 18446744073709551615 })) in
    let kept = contains-kept p d (in-range m d early small) row.keys is.0 is.1 is.2 in
    contains-index d (filter p row.keys) kept.0 kept.1 kept.2
