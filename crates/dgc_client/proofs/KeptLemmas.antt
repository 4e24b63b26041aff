-- Leases into which moments are counted when they are looked at.
use Rattle.std.proofs.Common.{◌≡◌, ℕ, zero, suc, ◌+◌, ◌-◌, ◌<◌, ◌≤◌, Bool, true, false, cond, not, ◌&&◌, ◌||◌, eqb, get_or, List, [], ◌∷◌, ◌++◌, length, take, drop, map, Option, None, Some, is_some, Result, Ok, Err, OnOk, OnErr, refl, sym, ap, subst, ◌∙◌, arith}
use Rattle.std.specs.Prelude.{unwrap_or, slice_get, position, nat_lt, option_map}
use Rattle.std.specs.Cmp.{IsEquivalence}
use Rattle.std.specs.List.{list_any, position_or_len}
use Rattle.std.specs.Map.{lookup, keys_of, values_of}
use Rattle.std.specs.Str.{bytes_eq}
use Rattle.std.proofs.lemmas.Bool.{eqb-true}
use Rattle.std.proofs.lemmas.List.Quantifiers.{position-Some}
use Rattle.std.proofs.lemmas.Slice.Eq.{bytes_eq-Decides}
use Rattle.std.proofs.lemmas.Map.Made.{is_some-lookup}
use Rattle.std.proofs.lemmas.Bool.{false≢true}
use Rattle.std.proofs.lemmas.Bool.Decides.{nat_tests}
use Rattle.indexmap.specs.IndexMap.{set_value_at, insert_entry}
use Rattle.space_ids.specs.declared.ids.ForeignId.{ForeignId}
use Rattle.dgc_client.specs.declared.lease.ClientLease.{ClientLease}
use Rattle.dgc_index.specs.declared.plans.Term.{Term}
use Rattle.dgc_client.specs.declared.leases.Kept.{Kept}
use Rattle.dgc_client.specs.Lease.{fresh, standing, is_half_over, at_moment, after_moment}
use Rattle.dgc_client.specs.Kept.{is_same, lease_now, leases_now, kept_anew, IsTimely, AreTimely}

left-true : (s t : Bool) → (s && t) ≡ true → s ≡ true
left-true true t h = refl
left-true false t h = h

right-true : (s t : Bool) → (s && t) ≡ true → t ≡ true
right-true true t h = h
right-true false t h = absurd (false≢true h)

-- references that are the same are one
pub same-reference : (a b : ForeignId) → is_same a b ≡ true → a ≡ b
same-reference a b h =
    let space : a.space ≡ b.space = (bytes_eq-Decides a.space b.space).0 (left-true (bytes_eq a.space b.space) (eqb a.id.0 b.id.0) h) in
    let id : a.id.0 ≡ b.id.0 = eqb-true _ _ (right-true (bytes_eq a.space b.space) (eqb a.id.0 b.id.0) h) in
    λ i. record { space = space i; id = record { 0 = id i } }

both-self : (s t : Bool) → s ≡ true → t ≡ true → (s && t) ≡ true
both-self true t h g = g
both-self false t h g = h

-- a reference is the same as itself
pub same-self : (a : ForeignId) → is_same a a ≡ true
same-self a = both-self (bytes_eq a.space a.space) (eqb a.id.0 a.id.0) ((bytes_eq-Decides a.space a.space).1 refl) (grind (arith, nat_tests))

same-swap : (a b : ForeignId) → is_same a b ≡ is_same b a
same-swap a b = by (is_same a b) (is_same b a) refl refl
  where
    by : (s t : Bool) → is_same a b ≡ s → is_same b a ≡ t → s ≡ t
    by true true h g = refl
    by false false h g = refl
    by true false h g = sym (subst (λ (x : ForeignId). is_same x a ≡ true) (same-reference a b h) (same-self a)) ∙ g
    by false true h g = sym h ∙ subst (λ (x : ForeignId). is_same x b ≡ true) (same-reference b a g) (same-self b)

pub same-laws : IsEquivalence is_same
same-laws = record {
  refl = same-self;
  symm = same-swap;
  congr = λ a b c h. ap (λ (x : ForeignId). is_same x c) (same-reference a b h);
}

entry-here : (r : ForeignId) (es : List (ForeignId × Kept)) (i : ℕ) (v : Kept) → i < length (keys_of es) → r ≡ get_or (keys_of es) i r → slice_get (values_of es) i ≡ Some v → slice_get es i ≡ Some (r, v)
entry-here r [] i v within key value = absurd (omega arith)
entry-here r (e ∷ es) zero v within key value = let mine : e.1 ≡ v = cc in λ j. Some (sym key j, mine j)
entry-here r (e ∷ es) (suc i) v within key value = entry-here r es i v (omega arith) key value

-- what stands at the index of a reference
pub entry-at : (r : ForeignId) (es : List (ForeignId × Kept)) (i : ℕ) (v : Kept) → position (is_same r) (keys_of es) ≡ Some i → slice_get (values_of es) i ≡ Some v → slice_get es i ≡ Some (r, v)
entry-at r es i v index value =
    let at = position-Some (is_same r) (keys_of es) i r index in
    entry-here r es i v at.0 (same-reference r (get_or (keys_of es) i r) at.1) value

-- a test of numbers, both ways
below : (a b : ℕ) → a < b → nat_lt a b ≡ true
below a b h = grind (arith, nat_tests)

not-below : (a b : ℕ) → b ≤ a → nat_lt a b ≡ false
not-below a b h = grind (arith, nat_tests)

above-test : (a b : ℕ) → nat_lt a b ≡ false → b ≤ a
above-test a b h = grind (arith, nat_tests)

below-test : (a b : ℕ) → nat_lt a b ≡ true → a < b
below-test a b h = grind (arith, nat_tests)

shifted : (a n : ℕ) → nat_lt (1 + a) (suc n) ≡ nat_lt a n
shifted a n = grind (arith, nat_tests)

within-any : (test : ForeignId → Bool) (ks : List ForeignId) → nat_lt (position_or_len test ks) (length ks) ≡ list_any test ks
within-any test [] = refl
within-any test (k ∷ ks) = elim (test k) as (λ b. nat_lt (cond (not b) (1 + position_or_len test ks) 0) (suc (length ks)) ≡ (b || list_any test ks))
    [ true ↦ below 0 (suc (length ks)) (omega arith) | false ↦ shifted (position_or_len test ks) (length ks) ∙ within-any test ks ]

is_some-position : (test : ForeignId → Bool) (ks : List ForeignId) → is_some (position test ks) ≡ list_any test ks
is_some-position test ks = is (nat_lt (position_or_len test ks) (length ks)) ∙ within-any test ks
  where
    is : (b : Bool) → is_some (cond b (Some (position_or_len test ks)) None) ≡ b
    is true = refl
    is false = refl

-- what is kept now is what was put
pub now-same : (m t : ℕ) (l : ClientLease) → lease_now m t (record { lease = l; moments = t }) ≡ l
now-same m t l = ap (λ b. cond b (after_moment m l) l) (not-below t t (omega arith))

standing-twice : (o : Option Term) (n m : ℕ) → n ≤ m → standing (standing o n) m ≡ standing o m
standing-twice None n m le = refl
standing-twice (Some term) n m le = by (nat_lt (n - term.sent) term.period) refl
  where
    by : (b : Bool) → nat_lt (n - term.sent) term.period ≡ b → standing (cond b (Some term) None) m ≡ cond (nat_lt (m - term.sent) term.period) (Some term) None
    by true h = refl
    by false h = let over : term.period ≤ m - term.sent = (let was = above-test (n - term.sent) term.period h in omega arith) in
        ap (λ b. cond b (Some term) None) (sym (not-below (m - term.sent) term.period over))

at-twice : (l : ClientLease) (n m : ℕ) → n ≤ m → at_moment m (at_moment n l) ≡ at_moment m l
at-twice l n m le = ap (λ (o : Option Term). record l { moment = m; waits = false; lease = o; renew = is_half_over o m }) (standing-twice l.lease n m le)

-- a moment, and a later one after it, are the later one
pub moment-twice : (l : ClientLease) (n m : ℕ) → n ≤ m → after_moment m (after_moment n l) ≡ after_moment m l
moment-twice l n m le = by (nat_lt n l.moment) refl
  where
    by : (b : Bool) → nat_lt n l.moment ≡ b → after_moment m (cond b l (at_moment n l)) ≡ after_moment m l
    by true h = refl
    by false h =
        let first : nat_lt m n ≡ false = not-below m n le in
        let late = above-test n l.moment h in
        let second : nat_lt m l.moment ≡ false = not-below m l.moment (omega arith) in
        rw (first, second) (at-twice l n m le)

after-early : (l : ClientLease) (m : ℕ) → m < l.moment → after_moment m l ≡ l
after-early l m early = ap (λ b. cond b l (at_moment m l)) (below m l.moment early)

moment-reached : (l : ClientLease) (m : ℕ) → l.moment ≤ m → (after_moment m l).moment ≡ m
moment-reached l m late = ap (λ (b : Bool). let x : ClientLease = cond b l (at_moment m l) in x.moment) (not-below m l.moment late)

-- a lease is at the last moment
pub moment-now : (m t : ℕ) (k : Kept) → IsTimely m t k → (lease_now m t k).moment ≡ m
moment-now m t k timely = by (nat_lt k.moments t) refl
  where
    by : (b : Bool) → nat_lt k.moments t ≡ b → (let x : ClientLease = cond b (after_moment m k.lease) k.lease in x.moment) ≡ m
    by true h = moment-reached k.lease m timely.early
    by false h = timely.now (let was = above-test k.moments t h in let came = timely.came in omega arith)

pub timely-put : (m t : ℕ) (l : ClientLease) → l.moment ≡ m → IsTimely m t (record { lease = l; moments = t })
timely-put m t l is = record { came = omega arith; early = omega arith; now = λ _. is }

pub some-one : (p q : ForeignId × ClientLease) → Some p ≡ Some q → p ≡ q
some-one p q h = cc

module _ (m t : ℕ) where
  pub keys-now : (es : List (ForeignId × Kept)) → keys_of (leases_now m t es) ≡ keys_of es
  keys-now [] = refl
  keys-now (e ∷ es) = ap (λ (ks : List ForeignId). e.0 ∷ ks) (keys-now es)

  pub length-now : (es : List (ForeignId × Kept)) → length (leases_now m t es) ≡ length es
  length-now [] = refl
  length-now (e ∷ es) = ap suc (length-now es)

  pub lookup-now : (test : ForeignId → Bool) (es : List (ForeignId × Kept)) → lookup test (leases_now m t es) ≡ option_map (lease_now m t) (lookup test es)
  lookup-now test [] = refl
  lookup-now test (e ∷ es) = elim (test e.0) as (λ b. cond b (Some (lease_now m t e.1)) (lookup test (leases_now m t es)) ≡ option_map (lease_now m t) (cond b (Some e.1) (lookup test es)))
      [ true ↦ refl | false ↦ lookup-now test es ]

  pub get-now : (es : List (ForeignId × Kept)) (i : ℕ) → slice_get (leases_now m t es) i ≡ option_map (λ (e : ForeignId × Kept). (e.0, lease_now m t e.1)) (slice_get es i)
  get-now [] i = refl
  get-now (e ∷ es) zero = refl
  get-now (e ∷ es) (suc i) = get-now es i

  pub set-now : (es : List (ForeignId × Kept)) (i : ℕ) (k : Kept) → leases_now m t (set_value_at es i k) ≡ set_value_at (leases_now m t es) i (lease_now m t k)
  set-now [] i k = refl
  set-now (e ∷ es) zero k = refl
  set-now (e ∷ es) (suc i) k = ap (λ (rest : List (ForeignId × ClientLease)). (e.0, lease_now m t e.1) ∷ rest) (set-now es i k)

  pub insert-now : (es : List (ForeignId × Kept)) (r : ForeignId) (k : Kept) → leases_now m t (insert_entry is_same es r k) ≡ insert_entry is_same (leases_now m t es) r (lease_now m t k)
  insert-now [] r k = refl
  insert-now (e ∷ es) r k = elim (is_same r e.0) as (λ b. leases_now m t (cond b ((e.0, k) ∷ es) (e ∷ insert_entry is_same es r k))
      ≡ cond b ((e.0, lease_now m t k) ∷ leases_now m t es) ((e.0, lease_now m t e.1) ∷ insert_entry is_same (leases_now m t es) r (lease_now m t k)))
      [ true ↦ refl | false ↦ ap (λ (rest : List (ForeignId × ClientLease)). (e.0, lease_now m t e.1) ∷ rest) (insert-now es r k) ]

  pub timely-set : (es : List (ForeignId × Kept)) (i : ℕ) (k : Kept) → IsTimely m t k → AreTimely m t es → AreTimely m t (set_value_at es i k)
  timely-set [] i k one all = all
  timely-set (e ∷ es) zero k one all = (one, all.1)
  timely-set (e ∷ es) (suc i) k one all = (all.0, timely-set es i k one all.1)

  pub timely-insert : (es : List (ForeignId × Kept)) (r : ForeignId) (k : Kept) → IsTimely m t k → AreTimely m t es → AreTimely m t (insert_entry is_same es r k)
  timely-insert [] r k one all = (one, tt)
  timely-insert (e ∷ es) r k one all = elim (is_same r e.0) as (λ b. AreTimely m t (cond b ((e.0, k) ∷ es) (e ∷ insert_entry is_same es r k)))
      [ true ↦ (one, all.1) | false ↦ (all.0, timely-insert es r k one all.1) ]

  pub timely-written : {T E : Type 0} (result : Result T E) (es new : List (ForeignId × Kept)) (r : ForeignId) (k : Kept)
      → OnOk result (new ≡ insert_entry is_same es r k) → OnErr result (new ≡ es) → IsTimely m t k → AreTimely m t es → AreTimely m t new
  timely-written (Ok v) es new r k ok err one all = subst (λ (xs : List (ForeignId × Kept)). AreTimely m t xs) (sym ok) (timely-insert es r k one all)
  timely-written (Err e) es new r k ok err one all = subst (λ (xs : List (ForeignId × Kept)). AreTimely m t xs) (sym err) all

  -- what is found after a write
  pub lookup-written : (es new : List (ForeignId × Kept)) (r q : ForeignId) (l : ClientLease)
      → lookup (is_same q) new ≡ cond (is_same r q) (Some (record { lease = l; moments = t })) (lookup (is_same q) es)
      → lookup (is_same q) (leases_now m t new) ≡ cond (is_same r q) (Some l) (lookup (is_same q) (leases_now m t es))
  lookup-written es new r q l at =
      lookup-now (is_same q) new ∙ ap (option_map (lease_now m t)) at
      ∙ (elim (is_same r q) as (λ b. option_map (lease_now m t) (cond b (Some (record { lease = l; moments = t })) (lookup (is_same q) es)) ≡ cond b (Some l) (lookup (is_same q) (leases_now m t es)))
      [ true ↦ ap (λ (x : ClientLease). Some x) (now-same m t l) | false ↦ sym (lookup-now (is_same q) es) ])

  pub known-now : (test : ForeignId → Bool) (es : List (ForeignId × Kept)) → is_some (lookup test (leases_now m t es)) ≡ is_some (lookup test es)
  known-now test es = ap is_some (lookup-now test es) ∙ same (lookup test es)
    where
      same : (o : Option Kept) → is_some (option_map (lease_now m t) o) ≡ is_some o
      same None = refl
      same (Some k) = refl

  -- a reference is known if it has an index
  pub known-at : (r : ForeignId) (es : List (ForeignId × Kept)) (o : Option ℕ) → o ≡ position (is_same r) (keys_of es) → is_some o ≡ is_some (lookup (is_same r) (leases_now m t es))
  known-at r es o at = ap is_some at ∙ is_some-position (is_same r) (keys_of es) ∙ sym (is_some-lookup (is_same r) es) ∙ sym (known-now (is_same r) es)

  pub none-now : (test : ForeignId → Bool) (es : List (ForeignId × Kept)) → lookup test es ≡ None → lookup test (leases_now m t es) ≡ None
  none-now test es none = lookup-now test es ∙ ap (option_map (lease_now m t)) none

  -- the lease that is found is at the last moment
  pub moment-found : (test : ForeignId → Bool) (es : List (ForeignId × Kept)) → AreTimely m t es → (unwrap_or (lookup test (leases_now m t es)) (fresh m)).moment ≡ m
  moment-found test [] all = refl
  moment-found test (e ∷ es) all = elim (test e.0) as (λ b. (unwrap_or (cond b (Some (lease_now m t e.1)) (lookup test (leases_now m t es))) (fresh m)).moment ≡ m)
      [ true ↦ moment-now m t e.1 all.0 | false ↦ moment-found test es all.1 ]

  -- so is each
  pub moment-at : (es : List (ForeignId × Kept)) → AreTimely m t es → (i : ℕ) (r : ForeignId) (l : ClientLease) → slice_get (leases_now m t es) i ≡ Some (r, l) → l.moment ≡ m
  moment-at [] all i r l h = cc
  moment-at (e ∷ es) all zero r l h =
      let pair : ForeignId × ClientLease = (e.0, lease_now m t e.1) in
      ap (λ (x : ClientLease). x.moment) (sym (ap (λ (q : ForeignId × ClientLease). q.1) (some-one pair (r, l) h))) ∙ moment-now m t e.1 all.0
  moment-at (e ∷ es) all (suc i) r l h = moment-at es all.1 i r l h

  pub index-is : (r : ForeignId) (es : List (ForeignId × Kept)) (i : ℕ) → Some i ≡ position (is_same r) (keys_of es) → i ≡ position_or_len (is_same r) (keys_of (leases_now m t es))
  index-is r es i at = by (nat_lt (position_or_len (is_same r) (keys_of es)) (length (keys_of es))) at ∙ ap (λ (ks : List ForeignId). position_or_len (is_same r) ks) (sym (keys-now es))
    where
      by : (b : Bool) → Some i ≡ cond b (Some (position_or_len (is_same r) (keys_of es))) None → i ≡ position_or_len (is_same r) (keys_of es)
      by true h = cc
      by false h = cc

  -- a moment below the last
  pub early-pass : (n : ℕ) → n < m → (es : List (ForeignId × Kept)) → AreTimely m t es
      → leases_now m t es ≡ map (λ (e : ForeignId × ClientLease). (e.0, after_moment n e.1)) (leases_now m t es)
  early-pass n early [] all = refl
  early-pass n early (e ∷ es) all =
      let at = moment-now m t e.1 all.0 in
      let same : after_moment n (lease_now m t e.1) ≡ lease_now m t e.1 = after-early (lease_now m t e.1) n (omega arith) in
      λ j. (e.0, sym same j) ∷ early-pass n early es all.1 j

  lease-pass : (n : ℕ) → m ≤ n → (k : Kept) → k.moments ≤ t → lease_now n (t + 1) k ≡ after_moment n (lease_now m t k)
  lease-pass n late k came =
      ap (λ b. cond b (after_moment n k.lease) k.lease) (below k.moments (t + 1) (omega arith))
      ∙ (elim (nat_lt k.moments t) as (λ b. after_moment n k.lease ≡ after_moment n (cond b (after_moment m k.lease) k.lease))
      [ true ↦ sym (moment-twice k.lease m n late) | false ↦ refl ])

  -- one more moment
  pub leases-pass : (n : ℕ) → m ≤ n → (es : List (ForeignId × Kept)) → AreTimely m t es
      → leases_now n (t + 1) es ≡ map (λ (e : ForeignId × ClientLease). (e.0, after_moment n e.1)) (leases_now m t es)
  leases-pass n late [] all = refl
  leases-pass n late (e ∷ es) all =
      let came = all.0 in
      λ j. (e.0, lease-pass n late e.1 came.came j) ∷ leases-pass n late es all.1 j

  pub timely-pass : (n : ℕ) → m ≤ n → (es : List (ForeignId × Kept)) → AreTimely m t es → AreTimely n (t + 1) es
  timely-pass n late [] all = tt
  timely-pass n late (e ∷ es) all =
      let one = all.0 in
      let came = one.came in
      let early = one.early in
      (record { came = omega arith; early = omega arith; now = λ same. absurd (omega arith) }, timely-pass n late es all.1)

  -- counting from 0
  pub leases-anew : (es : List (ForeignId × Kept)) → leases_now m 0 (map (λ (e : ForeignId × Kept). (e.0, kept_anew m t e.1)) es) ≡ leases_now m t es
  leases-anew [] = refl
  leases-anew (e ∷ es) = λ j. (e.0, now-same m 0 (lease_now m t e.1) j) ∷ leases-anew es j

  pub timely-anew : (es : List (ForeignId × Kept)) → AreTimely m t es → AreTimely m 0 (map (λ (e : ForeignId × Kept). (e.0, kept_anew m t e.1)) es)
  timely-anew [] all = tt
  timely-anew (e ∷ es) all = (timely-put m 0 (lease_now m t e.1) (moment-now m t e.1 all.0), timely-anew es all.1)

  -- one more is kept anew
  pub anew-next : (es now : List (ForeignId × Kept)) (i : ℕ) (v w : Kept) → i < length es
      → now ≡ map (λ (e : ForeignId × Kept). (e.0, kept_anew m t e.1)) (take i es) ++ drop i es
      → slice_get (values_of now) i ≡ Some v → w ≡ kept_anew m t v
      → set_value_at now i w ≡ map (λ (e : ForeignId × Kept). (e.0, kept_anew m t e.1)) (take (i + 1) es) ++ drop (i + 1) es
  anew-next es now i v w l is here set =
      let next : i + 1 ≡ suc i = omega arith in
      rw (set, is, next) (step es i l (subst (λ (xs : List (ForeignId × Kept)). slice_get (values_of xs) i ≡ Some v) is here))
    where
      step : (xs : List (ForeignId × Kept)) (j : ℕ) → j < length xs
          → slice_get (values_of (map (λ (e : ForeignId × Kept). (e.0, kept_anew m t e.1)) (take j xs) ++ drop j xs)) j ≡ Some v
          → set_value_at (map (λ (e : ForeignId × Kept). (e.0, kept_anew m t e.1)) (take j xs) ++ drop j xs) j (kept_anew m t v)
          ≡ map (λ (e : ForeignId × Kept). (e.0, kept_anew m t e.1)) (take (suc j) xs) ++ drop (suc j) xs
      step [] j l here = absurd (omega arith)
      step (e ∷ xs) zero l here = let same : v ≡ e.1 = cc in rw same refl
      step (e ∷ xs) (suc j) l here = ap (λ (rest : List (ForeignId × Kept)). (e.0, kept_anew m t e.1) ∷ rest) (step xs j (omega arith) here)
