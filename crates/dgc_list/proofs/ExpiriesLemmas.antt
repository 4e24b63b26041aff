-- The row of expiries as a set.
use Rattle.std.proofs.Common.{◌≡◌, ℕ, Bool, true, false, cond, List, Contains, refl, sym, ap, ◌∙◌, inl, inr}
use Rattle.std.specs.Prelude.{◌⊎◌}
use Rattle.std.specs.declared.cmp.Ordering.{Ordering}
use Rattle.std.specs.declared.cmp.Ordering.TheVariants.{Less, Equal, Greater}
use Rattle.std.specs.Ordering.{ordering_then, nat_cmp, eq_by_cmp}
use Rattle.std.specs.Cmp.{IsTotalOrder, on_total, then_total, nat_cmp_total}
use Rattle.std.specs.Cmp.Lexicographic.{nat_list_cmp_total}
use Rattle.std.proofs.lemmas.Bool.{false≢true}
use Rattle.std.specs.BTreeSet.{BTreeSet, contains, Updates}
use Rattle.std.proofs.lemmas.Map.Lookups.{CmpEqualImpliesEq, exact_unsigned, exact_bytes}
use Rattle.std.proofs.lemmas.Map.Views.{btree_set_contains_iff, tells_apart}
use Rattle.dgc_list.specs.declared.expiries.Expiry.{Expiry}
use Rattle.dgc_list.specs.contracts.expiries.ExpiryOrd.TheImpl as expiry_ord

abbrev order : Expiry → Expiry → Ordering
order = (expiry_ord.ghosts).cmp

then-equal : (p q : Ordering) → ordering_then p q ≡ Equal → (p ≡ Equal) × (q ≡ Equal)
then-equal Less q h = absurd (cc)
then-equal Equal q h = (refl, h)
then-equal Greater q h = absurd (cc)

alike : (m n : ℕ) (a b : ℕ) (c d : List ℕ) → m ≡ n → a ≡ b → c ≡ d
    → ◌≡◌ {A = Expiry} (record { moment = m; object = record { 0 = a }; client = c }) (record { moment = n; object = record { 0 = b }; client = d })
alike m n a b c d p q r =
    ap (λ (x : ℕ). let e : Expiry = record { moment = x; object = record { 0 = a }; client = c } in e) p
    ∙ ap (λ (x : ℕ). let e : Expiry = record { moment = n; object = record { 0 = x }; client = c } in e) q
    ∙ ap (λ (x : List ℕ). let e : Expiry = record { moment = n; object = record { 0 = b }; client = x } in e) r

exact : CmpEqualImpliesEq order
exact x y e =
    let first = then-equal (nat_cmp x.moment y.moment) _ e in
    let second = then-equal (nat_cmp x.object.0 y.object.0) _ first.1 in
    alike x.moment y.moment x.object.0 y.object.0 x.client y.client (exact_unsigned x.moment y.moment first.0) (exact_unsigned x.object.0 y.object.0 second.0) (exact_bytes x.client y.client second.1)

total-order : IsTotalOrder order
total-order = then_total (on_total (λ (e : Expiry). e.moment) nat_cmp_total)
    (then_total (on_total (λ (e : Expiry). e.object.0) nat_cmp_total) (on_total (λ (e : Expiry). e.client) nat_list_cmp_total))

has : (s : BTreeSet Expiry) (k : Expiry) → Contains s.keys k → contains order s k ≡ true
has s k = (btree_set_contains_iff total-order exact s k).1

there : (s : BTreeSet Expiry) (k : Expiry) → contains order s k ≡ true → Contains s.keys k
there s k = (btree_set_contains_iff total-order exact s k).0

-- an expiry that is added is there, with all others
pub added : (s n : BTreeSet Expiry) (k : Expiry) → Updates order s n k true → Contains n.keys k × ((other : Expiry) → Contains s.keys other → Contains n.keys other)
added s n k updates = (there n k updates.1, λ other was. there n other (updates.0 other ∙ still (eq_by_cmp order k other) (contains order s other) (has s other was)))
  where
    still : (t b : Bool) → b ≡ true → cond t true b ≡ true
    still true b h = refl
    still false b h = h

-- an expiry that is taken out leaves all others
pub removed : (s n : BTreeSet Expiry) (k : Expiry) → Updates order s n k false → (other : Expiry) → Contains s.keys other → (other ≡ k) ⊎ Contains n.keys other
removed s n k updates other was =
    elim (eq_by_cmp order k other) as (λ t. eq_by_cmp order k other ≡ t → contains order n other ≡ cond t false (contains order s other) → (other ≡ k) ⊎ Contains n.keys other) [
      | true ↦ λ same _. inl (sym (tells_apart exact k other same))
      | false ↦ λ _ left. inr (there n other (left ∙ has s other was))
    ] refl (updates.0 other)

-- and is not there any more
pub gone : (s n : BTreeSet Expiry) (k : Expiry) → Updates order s n k false → Contains n.keys k → ⊥
gone s n k updates left = false≢true (sym updates.1 ∙ has n k left)
