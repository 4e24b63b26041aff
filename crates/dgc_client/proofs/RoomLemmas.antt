-- In order there are no more calls than were found.
use Rattle.std.proofs.Common.{◌≡◌, ℕ, zero, suc, ◌+◌, ◌<◌, ◌≤◌, Bool, true, false, cond, List, [], ◌∷◌, ◌++◌, filter, length, get_or, take, refl, sym, ap, ◌∙◌, subst, arith, length-append}
use Rattle.std.specs.List.{flat_map, list_any}
use Rattle.std.specs.Str.{bytes_eq}
use Rattle.std.proofs.lemmas.Bool.{false≢true}
use Rattle.dgc_client.specs.declared.groups.DueCall.{DueCall}
use Rattle.dgc_client.specs.declared.lease.Due.{Due}
use Rattle.dgc_client.specs.declared.lease.Due.TheVariants.{Dirty, Clean}
use Rattle.dgc_client.specs.Groups.{is_same_kind, is_of, peers_of, cleans_of_peer}
use Rattle.dgc_client.proofs.GroupsLemmas.{right-true}
use Rattle.dgc_client.proofs.OrderLemmas.{StandOnce, self-bytes, at-peer, left-false, right-false, once-peers, nothing}

-- an element of a filter is not yet among those before it
pub filter-room : (f : DueCall → Bool) (calls : List DueCall) (i : ℕ) (d : DueCall) → i < length calls → f (get_or calls i d) ≡ true
    → length (filter f (take i calls)) + 1 ≤ length (filter f calls)
filter-room f [] i d within is = absurd (omega arith)
filter-room f (c ∷ cs) zero d within is = rw is (omega arith)
filter-room f (c ∷ cs) (suc i) d within is = by (f c) (filter-room f cs i d (omega arith) is)
  where
    by : (t : Bool) → length (filter f (take i cs)) + 1 ≤ length (filter f cs) → length (cond t (c ∷ filter f (take i cs)) (filter f (take i cs))) + 1 ≤ length (cond t (c ∷ filter f cs) (filter f cs))
    by true h = omega (arith, h)
    by false h = h

-- what one peer gives is not yet among what those before it give
pub flat-room : (f : List ℕ → List DueCall) (ps : List (List ℕ)) (i : ℕ) (d : List ℕ) → i < length ps
    → length (flat_map f (take i ps)) + length (f (get_or ps i d)) ≤ length (flat_map f ps)
flat-room f [] i d within = absurd (omega arith)
flat-room f (p ∷ ps) zero d within = omega (arith, length-append (f p) (flat_map f ps))
flat-room f (p ∷ ps) (suc i) d within =
    omega (arith, length-append (f p) (flat_map f (take i ps)), length-append (f p) (flat_map f ps), flat-room f ps i d (omega arith))

-- whether a call is of this kind
abbrev of : Due → DueCall → Bool
of k call = is_same_kind call.kind k

one-of : (t : Bool) → t ≡ true → 1 ≤ cond t 1 0
one-of true h = omega arith
one-of false h = absurd (false≢true h)

module _ (k : Due) (c : DueCall) (calls : List DueCall) where
  -- a call counts for no other peer
  others-same : (ps : List (List ℕ)) → list_any (bytes_eq c.reference.space) ps ≡ false
      → flat_map (λ p. filter (is_of p k) (c ∷ calls)) ps ≡ flat_map (λ p. filter (is_of p k) calls) ps
  others-same [] none = refl
  others-same (p ∷ ps) none =
      let apart : bytes_eq c.reference.space p ≡ false = left-false (bytes_eq c.reference.space p) (list_any (bytes_eq c.reference.space) ps) none in
      let rest = others-same ps (right-false (bytes_eq c.reference.space p) (list_any (bytes_eq c.reference.space) ps) none) in
      elim (is_of p k c) as (λ t. is_of p k c ≡ t → cond t (c ∷ filter (is_of p k) calls) (filter (is_of p k) calls) ++ flat_map (λ q. filter (is_of q k) (c ∷ calls)) ps ≡ filter (is_of p k) calls ++ flat_map (λ q. filter (is_of q k) calls) ps) [
        | true ↦ λ mine. absurd (false≢true (sym apart ∙ subst (λ (q : List ℕ). bytes_eq c.reference.space q ≡ true) (at-peer p k c mine) (self-bytes c.reference.space)))
        | false ↦ λ _. ap (λ (xs : List DueCall). filter (is_of p k) calls ++ xs) rest
      ] refl

  -- a call counts once, if it is of the kind
  one-more : (ps : List (List ℕ)) → StandOnce ps
      → length (flat_map (λ p. filter (is_of p k) (c ∷ calls)) ps) ≤ length (flat_map (λ p. filter (is_of p k) calls) ps) + cond (of k c) 1 0
  one-more [] once = omega arith
  one-more (p ∷ ps) once =
      elim (is_of p k c) as (λ t. is_of p k c ≡ t → length (cond t (c ∷ filter (is_of p k) calls) (filter (is_of p k) calls) ++ flat_map (λ q. filter (is_of q k) (c ∷ calls)) ps) ≤ length (filter (is_of p k) calls ++ flat_map (λ q. filter (is_of q k) calls) ps) + cond (of k c) 1 0) [
        | true ↦ λ mine.
            let at : c.reference.space ≡ p = at-peer p k c mine in
            let none : list_any (bytes_eq c.reference.space) ps ≡ false = subst (λ (q : List ℕ). list_any (bytes_eq q) ps ≡ false) (sym at) once.0 in
            let counts : of k c ≡ true = right-true (bytes_eq c.reference.space p) (is_same_kind c.kind k) mine in
            let same = ap (λ (xs : List DueCall). length xs) (others-same ps none) in
            omega (
              arith,
              same,
              one-of (of k c) counts,
              length-append (c ∷ filter (is_of p k) calls) (flat_map (λ q. filter (is_of q k) (c ∷ calls)) ps),
              length-append (filter (is_of p k) calls) (flat_map (λ q. filter (is_of q k) calls) ps),
            )
        | false ↦ λ _.
            omega (
              arith,
              one-more ps once.1,
              length-append (filter (is_of p k) calls) (flat_map (λ q. filter (is_of q k) (c ∷ calls)) ps),
              length-append (filter (is_of p k) calls) (flat_map (λ q. filter (is_of q k) calls) ps),
            )
      ] refl

-- The peers give no more calls of a kind than there are.
once-count : (k : Due) (ps : List (List ℕ)) → StandOnce ps → (calls : List DueCall) → length (flat_map (λ p. filter (is_of p k) calls) ps) ≤ length (filter (of k) calls)
once-count k ps once [] = rw (nothing (λ p. filter (is_of p k) []) ps (λ _. refl)) (omega arith)
once-count k ps once (c ∷ calls) = by (of k c) (one-more k c calls ps once) (once-count k ps once calls)
  where
    by : (t : Bool) → length (flat_map (λ p. filter (is_of p k) (c ∷ calls)) ps) ≤ length (flat_map (λ p. filter (is_of p k) calls) ps) + cond t 1 0
        → length (flat_map (λ p. filter (is_of p k) calls) ps) ≤ length (filter (of k) calls)
        → length (flat_map (λ p. filter (is_of p k) (c ∷ calls)) ps) ≤ length (cond t (c ∷ filter (of k) calls) (filter (of k) calls))
    by true h g = omega (arith, h, g)
    by false h g = omega (arith, h, g)

-- each call is of one kind
kinds-count : (calls : List DueCall) → length (filter (of (Clean true)) calls) + length (filter (of (Clean false)) calls) + length (filter (of Dirty) calls) ≤ length calls
kinds-count [] = omega arith
kinds-count (c ∷ calls) = by c.kind (kinds-count calls)
  where
    by : (k : Due) → length (filter (of (Clean true)) calls) + length (filter (of (Clean false)) calls) + length (filter (of Dirty) calls) ≤ length calls
        → length (cond (is_same_kind k (Clean true)) (c ∷ filter (of (Clean true)) calls) (filter (of (Clean true)) calls))
        + length (cond (is_same_kind k (Clean false)) (c ∷ filter (of (Clean false)) calls) (filter (of (Clean false)) calls))
        + length (cond (is_same_kind k Dirty) (c ∷ filter (of Dirty) calls) (filter (of Dirty) calls)) ≤ suc (length calls)
    by Dirty h = omega (arith, h)
    by (Clean true) h = omega (arith, h)
    by (Clean false) h = omega (arith, h)

-- the clean calls of the peers, by their kinds
cleans-count : (calls : List DueCall) (ps : List (List ℕ)) → length (flat_map (cleans_of_peer calls) ps)
    ≡ length (flat_map (λ p. filter (is_of p (Clean true)) calls) ps) + length (flat_map (λ p. filter (is_of p (Clean false)) calls) ps)
cleans-count calls [] = refl
cleans-count calls (p ∷ ps) =
    let strong = filter (is_of p (Clean true)) calls in
    let weak = filter (is_of p (Clean false)) calls in
    omega (
      arith,
      cleans-count calls ps,
      length-append (strong ++ weak) (flat_map (cleans_of_peer calls) ps),
      length-append strong weak,
      length-append strong (flat_map (λ q. filter (is_of q (Clean true)) calls) ps),
      length-append weak (flat_map (λ q. filter (is_of q (Clean false)) calls) ps),
    )

-- In order there are no more calls than were found.
pub order-count : (calls : List DueCall)
    → length (flat_map (cleans_of_peer calls) (peers_of true calls)) + length (flat_map (λ peer. filter (is_of peer Dirty) calls) (peers_of false calls)) ≤ length calls
order-count calls =
    omega (
      arith,
      kinds-count calls,
      cleans-count calls (peers_of true calls),
      once-count (Clean true) (peers_of true calls) (once-peers true calls) calls,
      once-count (Clean false) (peers_of true calls) (once-peers true calls) calls,
      once-count Dirty (peers_of false calls) (once-peers false calls) calls,
    )
