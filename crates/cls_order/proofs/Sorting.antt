use Rattle.std.proofs.Common.{◌≡◌, ◌≢◌, ℕ, zero, suc, ◌+◌, ◌-◌, ◌<◌, ◌≤◌, Bool, true, false, List, [], ◌∷◌, length, get_or, take, drop, min, refl, sym, subst, ap, ◌∙◌, arith, add-one, add-zero, zero-add}
use Rattle.std.specs.Prelude.{All, bytes_eq, cond, count_by}
use Rattle.std.specs.List.{AllAdjacentBelow}
use Rattle.std.specs.List.Sorted.{IsStrictlySortedBy}
use Rattle.std.specs.Ordering.{is_lt, ordering_reverse}
use Rattle.std.specs.declared.cmp.Ordering.TheVariants.{Less, Equal, Greater}
use Rattle.std.specs.FinMap.{slice_cmp-IsAntisymmetric, nat_cmp-IsAntisymmetric}
use Rattle.std.proofs.lemmas.Cmp.{nat_list_cmp_total}
use Rattle.std.proofs.lemmas.List.{get_or-drop, get_or-take, length-drop, length-take, take-append-drop}
use Rattle.std.proofs.lemmas.List.Elements.{All-from_get_or, All-head, All-tail, recursion_from_All}
use Rattle.std.proofs.lemmas.List.Sorted.{ranks_by, sorted_far}
use Rattle.std.proofs.lemmas.List.Sums.{sum_by-append}
use Rattle.std.proofs.lemmas.Map.Keys.{sorted_tail}
use Rattle.std.proofs.lemmas.Map.Views.{All-after_first}
use Rattle.std.proofs.lemmas.Slice.Eq.{bytes_eq-Decides}
use Rattle.cls_order.specs.declared.entries.Entry.{Entry}
use Rattle.cls_order.specs.Building.{AscendByName}
use Rattle.cls_order.specs.Classes.{name_cmp, names}
use Rattle.cls_order.specs.Entries.{classes_of}
use Rattle.cls_order.specs.Sets.{IsFirstDuplicate}
use Rattle.cls_order.proofs.Hierarchy.{true_false, by_contradiction_false}
use Rattle.cls_order.proofs.Names.{name_of, name_read, length_names, same_test}

abbrev pub matches : List ℕ → List ℕ → Bool
matches name n = bytes_eq n name

-- each below the next: each is below the later ones
first_far : (ks : List (List ℕ)) → ((i : ℕ) → suc i < length ks → name_cmp (get_or ks i []) (get_or ks (suc i) []) ≡ Less) → (j : ℕ) → suc j < length ks → name_cmp (get_or ks 0 []) (get_or ks (suc j) []) ≡ Less
first_far ks next zero h = next 0 h
first_far ks next (suc j) h =
    nat_list_cmp_total.trans (get_or ks 0 []) (get_or ks (suc j) []) (get_or ks (suc (suc j)) []) (first_far ks next j (omega arith)) (next (suc j) h)

pub strictly : (ks : List (List ℕ)) → ((i : ℕ) → suc i < length ks → name_cmp (get_or ks i []) (get_or ks (suc i) []) ≡ Less) → IsStrictlySortedBy name_cmp ks
unfolding IsStrictlySortedBy
strictly [] next = tt
strictly (k ∷ ks) next = (
  recursion_from_All (λ y. name_cmp k y ≡ Less) ks (All-from_get_or (λ y. name_cmp k y ≡ Less) ks [] (λ j h. first_far (k ∷ ks) next j (omega arith))),
  strictly ks (λ i h. next (suc i) (omega arith)),
)

count_cons : (name k : List ℕ) (ks : List (List ℕ)) → count_by (matches name) (k ∷ ks) ≡ cond (bytes_eq k name) 1 0 + count_by (matches name) ks
count_cons name k ks = sum_by-append (λ n. cond (matches name n) 1 0) (k ∷ []) ks ∙ ap (λ n. n + count_by (matches name) ks) (zero-add (cond (bytes_eq k name) 1 0))

count_none : (name : List ℕ) (ks : List (List ℕ)) → All (λ n. bytes_eq n name ≡ false) ks → count_by (matches name) ks ≡ 0
count_none name [] none = refl
count_none name (k ∷ ks) none =
    let first = All-head (λ n. bytes_eq n name ≡ false) k ks none in
    let rest = count_none name ks (All-tail (λ n. bytes_eq n name ≡ false) k ks none) in
    rw (count_cons name k ks, first) (omega (arith, rest))

count_some : (name : List ℕ) (ks : List (List ℕ)) (i : ℕ) → i < length ks → get_or ks i [] ≡ name → 1 ≤ count_by (matches name) ks
count_some name [] i h e = absurd (omega arith)
count_some name (k ∷ ks) zero h e =
    let first = (bytes_eq-Decides k name).1 e in
    rw (count_cons name k ks, first) (omega arith)
count_some name (k ∷ ks) (suc i) h e =
    let rest = count_some name ks i (omega arith) e in
    rw (count_cons name k ks) (omega (arith, rest))

reversed : (x y : List ℕ) → name_cmp x y ≡ Less → name_cmp y x ≡ Greater
reversed x y e = nat_list_cmp_total.antisymm y x ∙ ap ordering_reverse e

-- no name stands twice in a strictly sorted list
pub count_strict : (name : List ℕ) (ks : List (List ℕ)) → IsStrictlySortedBy name_cmp ks → count_by (matches name) ks ≤ 1
count_strict name [] s = omega arith
count_strict name (k ∷ ks) s =
    rw (count_cons name k ks)
    (elim (bytes_eq k name) as (λ b. bytes_eq k name ≡ b → cond b 1 0 + count_by (matches name) ks ≤ 1) [
      | true ↦ λ e.
          let same = (bytes_eq-Decides k name).0 e in
          let above : All (λ q. name_cmp k q ≡ Less) ks = All-after_first name_cmp k ks s in
          let none = count_none name ks (λ i d h. same_test (get_or ks i d) name Greater (reversed name (get_or ks i d) (subst (λ x. name_cmp x (get_or ks i d) ≡ Less) same (above i d h)))) in
          omega (arith, none)
      | false ↦ λ e. let rest = count_strict name ks (sorted_tail name_cmp k ks s) in omega (arith, rest)
    ] refl)

-- a name that is not above another is below it, or is the other
less_if : (x y : List ℕ) → is_lt (name_cmp y x) ≡ false → x ≢ y → name_cmp x y ≡ Less
less_if x y e ne =
    elim (name_cmp x y) as (λ r. name_cmp x y ≡ r → r ≡ Less) [
      | Less ↦ λ _. refl
      | Equal ↦ λ f. absurd (ne (slice_cmp-IsAntisymmetric nat_cmp-IsAntisymmetric x y f))
      | Greater ↦ λ f. absurd (true_false (sym (ap is_lt (nat_list_cmp_total.antisymm y x ∙ ap ordering_reverse f)) ∙ e))
    ] refl

not_less : (x y : List ℕ) → is_lt (name_cmp x y) ≡ false → name_cmp x y ≡ Less → ⊥
not_less x y e f = true_false (sym (ap is_lt f) ∙ e)

-- the name at an index, if those before it ascend strictly, it is the one before it, and no later one is below it
pub first_duplicate : (ks : List (List ℕ)) (i : ℕ) (name : List ℕ) → suc i < length ks → IsStrictlySortedBy name_cmp (take (suc i) ks) → get_or ks i [] ≡ name → get_or ks (suc i) [] ≡ name → All (λ n. is_lt (name_cmp n name) ≡ false) (drop (suc i) ks) → IsFirstDuplicate ks name
first_duplicate ks i name h front before here rest =
    let parts = λ (x : List ℕ). subst (λ l. count_by (matches x) l ≡ count_by (matches x) (take (suc i) ks) + count_by (matches x) (drop (suc i) ks)) (take-append-drop (suc i) ks) (sum_by-append (λ n. cond (matches x n) 1 0) (take (suc i) ks) (drop (suc i) ks)) in
    record {
      twice =
          let below : i < suc i = omega arith in
          let one = count_some name (take (suc i) ks) i (rw length-take (omega arith)) (rw get_or-take before) in
          let other = count_some name (drop (suc i) ks) 0 (rw length-drop (omega arith)) (rw get_or-drop (rw add-zero here)) in
          let all = parts name in
          omega (arith, one, other, all);
      first = λ other less twice.
          let one = count_strict other (take (suc i) ks) front in
          let none = count_none other (drop (suc i) ks) (λ j d l. by_contradiction_false (bytes_eq (get_or (drop (suc i) ks) j d) other) (λ same. not_less (get_or (drop (suc i) ks) j d) name (rest j d l) (subst (λ x. name_cmp x name ≡ Less) (sym ((bytes_eq-Decides (get_or (drop (suc i) ks) j d) other).0 same)) less))) in
          let all = parts other in
          absurd (omega (arith, one, none, all, twice));
    }

next_below : (entries : List Entry) (n : ℕ) → n ≤ length entries → AllAdjacentBelow (λ a b. name_cmp (name_of a) (name_of b) ≡ Less) entries n → (i : ℕ) → suc i < n → name_cmp (get_or (names (classes_of entries)) i []) (get_or (names (classes_of entries)) (suc i) []) ≡ Less
next_below [] n few below i h = absurd (omega arith)
next_below (m ∷ ms) n few below i h =
    let entries = m ∷ ms in
    let less = below i m (omega arith) in
    subst (λ x. name_cmp x (get_or (names (classes_of entries)) (suc i) []) ≡ Less) (sym (name_read entries i m [] (omega arith)))
    (subst (λ y. name_cmp (name_of (get_or entries i m)) y ≡ Less) (sym (name_read entries (suc i) m [] (omega arith))) (rw add-one at less))

-- the names of entries, each below the next
pub strictly_sorted : (entries : List Entry) (n : ℕ) → length entries ≤ n → AllAdjacentBelow (λ a b. name_cmp (name_of a) (name_of b) ≡ Less) entries n → IsStrictlySortedBy name_cmp (names (classes_of entries))
strictly_sorted entries n all below =
    strictly (names (classes_of entries)) (λ i h. next_below entries (length entries) (omega arith) (λ k d l. below k d (omega arith)) i (rw length_names at h))

front_below : (entries : List Entry) (n : ℕ) → n ≤ length entries → AllAdjacentBelow (λ a b. name_cmp (name_of a) (name_of b) ≡ Less) entries n → (j : ℕ) → suc j < length (take n (names (classes_of entries))) → name_cmp (get_or (take n (names (classes_of entries))) j []) (get_or (take n (names (classes_of entries))) (suc j) []) ≡ Less
front_below entries n some below j l =
    let within : suc j < min n (length (names (classes_of entries))) = rw length-take at l in
    let second : suc j < n = omega (arith, within) in
    let first : j < n = omega arith in
    rw (get_or-take, get_or-take) (next_below entries n some below j second)

less_one : (i : ℕ) → suc i - 1 ≡ i
less_one i = omega arith

rest_above : (entries : List Entry) (p k : ℕ) (here : Entry) (d : List ℕ) → here ≡ get_or entries p here → AscendByName entries → k < length entries - p → is_lt (name_cmp (get_or (drop p (names (classes_of entries))) k d) (name_of here)) ≡ false
rest_above entries p k here d e up l =
    let far = sorted_far (λ a b. is_lt (name_cmp (name_of a) (name_of b))) (ranks_by nat_list_cmp_total name_of) entries up p (p + k) here (omega arith) (omega arith) in
    rw get_or-drop
    (subst (λ x. is_lt (name_cmp x (name_of here)) ≡ false) (sym (name_read entries (p + k) here d (omega arith)))
    (subst (λ m. is_lt (name_cmp (name_of (get_or entries (p + k) here)) (name_of m)) ≡ false) (sym e) far))

-- the first entry whose name is that of the one before it
pub duplicate_at : (entries : List Entry) (p : ℕ) (before here : Entry) → 1 ≤ p → p < length entries → AscendByName entries → AllAdjacentBelow (λ a b. name_cmp (name_of a) (name_of b) ≡ Less) entries p → before ≡ get_or entries (p - 1) before → here ≡ get_or entries p here → name_of here ≡ name_of before → IsFirstDuplicate (names (classes_of entries)) (name_of here)
duplicate_at entries zero before here some h up below b e same = absurd (omega arith)
duplicate_at entries (suc i) before here some h up below b e same =
    let ks = names (classes_of entries) in
    first_duplicate ks i (name_of here) (rw length_names h)
    (strictly (take (suc i) ks) (front_below entries (suc i) (omega arith) below))
    (name_read entries i before [] (omega arith) ∙ (ap name_of (sym (subst (λ k. before ≡ get_or entries k before) (less_one i) b)) ∙ sym same))
    (name_read entries (suc i) here [] h ∙ ap name_of (sym e))
    (λ k d l. rest_above entries (suc i) k here d e up (rw (length-drop, length_names) at l))

-- names that ascend and differ ascend strictly
pub rises : (entries : List Entry) (p : ℕ) (d : Entry) → AscendByName entries → 1 ≤ p → p < length entries → (name_of (get_or entries p d) ≡ name_of (get_or entries (p - 1) d) → ⊥) → name_cmp (name_of (get_or entries (p - 1) d)) (name_of (get_or entries p d)) ≡ Less
rises entries p d up some h differ =
    let at = sorted_far (λ a b. is_lt (name_cmp (name_of a) (name_of b))) (ranks_by nat_list_cmp_total name_of) entries up (p - 1) p d (omega arith) h in
    less_if (name_of (get_or entries (p - 1) d)) (name_of (get_or entries p d)) at (λ e. differ (sym e))
