use Rattle.std.proofs.Common.{◌≡◌, ℕ, zero, suc, ◌+◌, ◌-◌, ◌*◌, ◌/◌, ◌<◌, ◌≤◌, ◌≢◌, min, true, false, nat_eq, nat_lt, List, [], ◌∷◌, ◌++◌, length, take, set, refl, sym, ap, subst, ◌∙◌, get_or-set_other, get_or-set_same, get_or-take, arith}
use Rattle.std.proofs.lemmas.Bool.{eqb-true, eqb-false, ltb-true, ltb-false}
use Rattle.std.proofs.lemmas.List.{get_or_past, length-take}
use Rattle.least_tree.specs.Least.{IsLow, IsTree, least, least_below, nothing, number_at}

-- ---- an index is settled

settled-other : (ns lows : List ℕ) (index other v : ℕ) → other ≢ index → 2 * other + 1 ≢ index → 2 * other + 2 ≢ index → IsLow ns lows other → IsLow ns (set lows index v) other
settled-other ns lows index other v here left right low =
    get_or-set_other lows index other v nothing here ∙ low
    ∙ sym (λ j. min (number_at ns other) (min (get_or-set_other lows index (2 * other + 1) v nothing left j) (get_or-set_other lows index (2 * other + 2) v nothing right j)))

settled-here : (ns lows : List ℕ) (index v : ℕ) → index < length lows → v ≡ min (number_at ns index) (least_below lows index) → IsLow ns (set lows index v) index
settled-here ns lows index v within is =
    get_or-set_same lows index v nothing within ∙ is
    ∙ sym (λ j. min (number_at ns index) (min (get_or-set_other lows index (2 * index + 1) v nothing (λ e. omega (arith, e)) j) (get_or-set_other lows index (2 * index + 2) v nothing (λ e. omega (arith, e)) j)))

-- All indices but one are right. Once that is settled, all but the one above it are.
pub settled : (ns lows : List ℕ) (index v : ℕ) → index < length lows → v ≡ min (number_at ns index) (least_below lows index) → ((other : ℕ) → other ≢ index → IsLow ns lows other)
    → (other : ℕ) → 2 * other + 1 ≢ index → 2 * other + 2 ≢ index → IsLow ns (set lows index v) other
settled ns lows index v within is others other left right =
    elim (nat_eq other index) as (λ b. nat_eq other index ≡ b → IsLow ns (set lows index v) other) [
      | true ↦ λ here. subst (λ (k : ℕ). IsLow ns (set lows index v) k) (sym (eqb-true other index here)) (settled-here ns lows index v within is)
      | false ↦ λ apart. let ne : other ≢ index = eqb-false other index apart in settled-other ns lows index other v ne left right (others other ne)
    ] refl

-- An index below which nothing changed is right if it is not the one above.
pub above : (ns lows : List ℕ) (at : ℕ) → 0 < at → ((other : ℕ) → 2 * other + 1 ≢ at → 2 * other + 2 ≢ at → IsLow ns lows other) → (other : ℕ) → other ≢ (at - 1) / 2 → IsLow ns lows other
above ns lows at some low other apart = low other (λ e. apart (omega (arith, e))) (λ e. apart (omega (arith, e)))

-- ---- what stands at an index

pub number-more : (lows : List ℕ) (k : ℕ) → number_at (lows ++ nothing ∷ []) k ≡ number_at lows k
number-more [] zero = refl
number-more [] (suc k) = refl
number-more (x ∷ xs) zero = refl
number-more (x ∷ xs) (suc k) = number-more xs k

number-push : (ns : List ℕ) (n k : ℕ) → k ≢ length ns → number_at (ns ++ n ∷ []) k ≡ number_at ns k
number-push [] n zero apart = absurd (apart refl)
number-push [] n (suc k) apart = refl
number-push (x ∷ xs) n zero apart = refl
number-push (x ∷ xs) n (suc k) apart = number-push xs n k (λ e. apart (ap suc e))

pub pushed-low : (ns lows : List ℕ) (n : ℕ) → IsTree ns lows → (other : ℕ) → other ≢ length ns → IsLow (ns ++ n ∷ []) (lows ++ nothing ∷ []) other
pushed-low ns lows n tree other apart =
    number-more lows other ∙ tree.low other
    ∙ sym (λ j. min (number-push ns n other apart j) (min (number-more lows (2 * other + 1) j) (number-more lows (2 * other + 2) j)))

pub put-low : (ns lows : List ℕ) (index n : ℕ) → IsTree ns lows → (other : ℕ) → other ≢ index → IsLow (set ns index n) lows other
put-low ns lows index n tree other apart = tree.low other ∙ sym (ap (λ m. min m (least_below lows other)) (get_or-set_other ns index other n nothing apart))

-- past the end stands nothing
cut-out : (l : List ℕ) (m k : ℕ) → m ≤ k → number_at (take m l) k ≡ nothing
cut-out l m k le = get_or_past (take m l) k nothing (let long = length-take m l in omega (arith, long, le))

cut-other : (l : List ℕ) (m k : ℕ) → length l ≡ m + 1 → k ≢ m → number_at (take m l) k ≡ number_at l k
cut-other l m k long apart =
    elim (nat_lt k m) as (λ b. nat_lt k m ≡ b → number_at (take m l) k ≡ number_at l k) [
      | true ↦ λ lt. get_or-take m l k nothing (ltb-true k m lt)
      | false ↦ λ ge. let le : m ≤ k = ltb-false k m ge in cut-out l m k le ∙ sym (get_or_past l k nothing (omega (arith, long, le, apart)))
    ] refl

pub popped-low : (ns lows : List ℕ) (m : ℕ) → IsTree ns lows → length ns ≡ m + 1 → (other : ℕ) → 2 * other + 1 ≢ m → 2 * other + 2 ≢ m → IsLow (take m ns) (take m lows) other
popped-low ns lows m tree long other left right =
    let low = tree.low other in
    let much : length lows ≡ m + 1 = tree.len ∙ long in
    let below : least_below (take m lows) other ≡ least_below lows other = (λ j. min (cut-other lows m (2 * other + 1) much left j) (cut-other lows m (2 * other + 2) much right j)) in
    elim (nat_eq other m) as (λ b. nat_eq other m ≡ b → IsLow (take m ns) (take m lows) other) [
      | true ↦ λ here. let same : other ≡ m = eqb-true other m here in
          cut-out lows m other (omega (arith, same))
          ∙ sym (λ j. min (cut-out ns m other (omega (arith, same)) j) (min (cut-out lows m (2 * other + 1) (omega (arith, same)) j) (cut-out lows m (2 * other + 2) (omega (arith, same)) j)))
      | false ↦ λ apart. let ne : other ≢ m = eqb-false other m apart in
          cut-other lows m other much ne ∙ low ∙ sym (λ j. min (cut-other ns m other long ne j) (below j))
    ] refl

-- ---- the first index has the least

least-at : (ns : List ℕ) (p : ℕ) → least ns ≤ number_at ns p
least-at [] p = omega arith
least-at (n ∷ ns) zero = omega arith
least-at (n ∷ ns) (suc p) = let rest = least-at ns p in omega (arith, rest)

pub least-nothing : (ns : List ℕ) → least ns ≤ nothing
least-nothing [] = omega arith
least-nothing (n ∷ ns) = let rest = least-nothing ns in omega (arith, rest)

least-greatest : (ns : List ℕ) (m : ℕ) → ((p : ℕ) → m ≤ number_at ns p) → m ≤ least ns
least-greatest [] m all = all 0
least-greatest (n ∷ ns) m all = let here : m ≤ n = all zero in let rest = least-greatest ns m (λ p. all (suc p)) in omega (arith, here, rest)

lower : (ns lows : List ℕ) → IsTree ns lows → (fuel p : ℕ) → length ns ≤ p + fuel → least ns ≤ number_at lows p
lower ns lows tree zero p past =
    let len = tree.len in let e : number_at lows p ≡ nothing = get_or_past lows p nothing (omega (arith, len, past)) in let most = least-nothing ns in omega (arith, e, most)
lower ns lows tree (suc fuel) p past =
    let here = least-at ns p in
    let left = lower ns lows tree fuel (2 * p + 1) (omega (arith, past)) in
    let right = lower ns lows tree fuel (2 * p + 2) (omega (arith, past)) in
    let low = tree.low p in omega (arith, here, left, right, low)

-- the index above one is at most what it is
up : (ns lows : List ℕ) → IsTree ns lows → (q : ℕ) → number_at lows (q / 2) ≤ number_at lows (suc q)
up ns lows tree q =
    let low = tree.low (q / 2) in
    elim (nat_eq (2 * (q / 2)) q) as (λ b. nat_eq (2 * (q / 2)) q ≡ b → number_at lows (q / 2) ≤ number_at lows (suc q)) [
      | true ↦ λ here.
          let even : 2 * (q / 2) ≡ q = eqb-true (2 * (q / 2)) q here in
          let index : 2 * (q / 2) + 1 ≡ suc q = omega (arith, even) in
          let e : number_at lows (2 * (q / 2) + 1) ≡ number_at lows (suc q) = ap (λ k. number_at lows k) index in omega (arith, low, e)
      | false ↦ λ apart.
          let odd : 2 * (q / 2) ≢ q = eqb-false (2 * (q / 2)) q apart in
          let index : 2 * (q / 2) + 2 ≡ suc q = omega (arith, odd) in
          let e : number_at lows (2 * (q / 2) + 2) ≡ number_at lows (suc q) = ap (λ k. number_at lows k) index in omega (arith, low, e)
    ] refl

upper : (ns lows : List ℕ) → IsTree ns lows → (fuel p : ℕ) → p ≤ fuel → number_at lows 0 ≤ number_at lows p
upper ns lows tree fuel zero within = omega arith
upper ns lows tree zero (suc q) within = absurd (omega (arith, within))
upper ns lows tree (suc fuel) (suc q) within =
    let rest = upper ns lows tree fuel (q / 2) (omega (arith, within)) in let one = up ns lows tree q in omega (arith, rest, one)

pub tree-least : (ns lows : List ℕ) → IsTree ns lows → number_at lows 0 ≡ least ns
tree-least ns lows tree =
    let low = lower ns lows tree (length ns) 0 (omega arith) in
    let high = least-greatest ns (number_at lows 0) (λ p. let own = tree.low p in let first = upper ns lows tree p p (omega arith) in omega (arith, own, first)) in omega (arith, low, high)
