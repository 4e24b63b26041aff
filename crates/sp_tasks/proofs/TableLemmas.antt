use Rattle.std.proofs.Common.{◌≡◌, ℕ, zero, suc, ◌+◌, ◌-◌, ◌≤◌, ◌<◌, ◌^◌, nat_eq, true, false, cond, List, [], ◌∷◌, ◌++◌, length, map, set, take, get_or, position, slice_get, swap_remove, IfSome, not, ◌||◌, Option, None, Some, refl, sym, ap, subst, ◌∙◌, arith}
use Rattle.std.specs.Prelude.{◌==◌, Result, Ok, Err, OnOk, OnErr}
use Rattle.std.specs.List.{AllByRecursion, IsDistinct}
use Rattle.std.specs.Cmp.{nat_eq_equiv}
use Rattle.std.specs.Map.{keys_of, remove_entry, set_value, values_of}
use Rattle.std.proofs.lemmas.List.{length-map, map-append}
use Rattle.indexmap.specs.IndexMap.{IndexMap, set_value_at}
use Rattle.indexmap.proofs.CallerLemmas.{updates-with_value_at}
use Rattle.indexmap.proofs.SetLemmas.{map-swap_remove}
use Rattle.rising_map.proofs.RowLemmas.{entry-at, pushed, replaced, rises-distinct, taken}
use Rattle.least_tree.specs.Least.{Least, nothing}
use Rattle.sp_tasks.specs.Rows.{TaskRow, at_row, by_id, is_ready, lent_row, row_of, without}
use Rattle.sp_tasks.specs.Tables.{IsTable, ready_number}
use Rattle.sp_tasks.proofs.OrderLemmas.{below-by, lookup-by, rises-by, shown}
use Rattle.sp_tasks.proofs.RowLemmas.{above, distinct-started, made-started, removed, written}

abbrev Below : ℕ → List (ℕ × TaskRow) → Type 0
Below made es = AllByRecursion (λ k. k ≤ made) (keys_of es)

-- ---- a row is changed

keys-at : (es : List (ℕ × TaskRow)) (i : ℕ) (w : TaskRow) → keys_of (set_value_at es i w) ≡ keys_of es
keys-at [] i w = refl
keys-at (e ∷ es) zero w = refl
keys-at (e ∷ es) (suc i) w = ap (λ (ks : List ℕ). e.0 ∷ ks) (keys-at es i w)

numbers-at : (id : ℕ) (v w : TaskRow) (es : List (ℕ × TaskRow)) (i : ℕ) → slice_get es i ≡ Some (id, v) → map ready_number (set_value_at es i w) ≡ set (map ready_number es) i (ready_number (id, w))
numbers-at id v w [] i there = cc
numbers-at id v w (e ∷ es) zero there = let same : e ≡ (id, v) = cc in λ j. ready_number ((same j).0, w) ∷ map ready_number es
numbers-at id v w (e ∷ es) (suc i) there = ap (λ (ns : List ℕ). ready_number e ∷ ns) (numbers-at id v w es i there)

numbers-kept : (id : ℕ) (v w : TaskRow) (es : List (ℕ × TaskRow)) (i : ℕ) → slice_get es i ≡ Some (id, v) → ready_number (id, w) ≡ ready_number (id, v) → map ready_number (set_value_at es i w) ≡ map ready_number es
numbers-kept id v w [] i there keeps = cc
numbers-kept id v w (e ∷ es) zero there keeps =
    let same : e ≡ (id, v) = cc in ap (λ (n : ℕ). n ∷ map ready_number es) ((λ j. ready_number ((same j).0, w)) ∙ keeps ∙ sym (ap ready_number same))
numbers-kept id v w (e ∷ es) (suc i) there keeps = ap (λ (ns : List ℕ). ready_number e ∷ ns) (numbers-kept id v w es i there keeps)

-- a row is changed, and its number in the tree with it
pub changed : (made spare free : ℕ) (es : List (ℕ × TaskRow)) (tree new : Least) (id i : ℕ) (v w : TaskRow) → slice_get es i ≡ Some (id, v)
    → new.numbers ≡ set tree.numbers i (ready_number (id, w)) → new.room ≡ tree.room → IsTable made spare free es tree → IsTable made spare free (set_value_at es i w) new
changed made spare free es tree new id i v w there put room is = record {
  distinct = subst (λ (ks : List ℕ). IsDistinct nat_eq ks) (sym (keys-at es i w)) is.distinct;
  below = subst (λ (ks : List ℕ). AllByRecursion (λ k. k ≤ made) ks) (sym (keys-at es i w)) is.below;
  last = is.last;
  numbers = put ∙ ap (λ (ns : List ℕ). set ns i (ready_number (id, w))) is.numbers ∙ sym (numbers-at id v w es i there);
  room = is.room;
  indices = subst (λ (n : ℕ). spare ≤ n) (sym room) is.indices;
}

-- a row is changed that stays as ready as it was
pub kept : (made spare free : ℕ) (es : List (ℕ × TaskRow)) (tree : Least) (id i : ℕ) (v w : TaskRow) → slice_get es i ≡ Some (id, v)
    → ready_number (id, w) ≡ ready_number (id, v) → IsTable made spare free es tree → IsTable made spare free (set_value_at es i w) tree
kept made spare free es tree id i v w there keeps is = record {
  distinct = subst (λ (ks : List ℕ). IsDistinct nat_eq ks) (sym (keys-at es i w)) is.distinct;
  below = subst (λ (ks : List ℕ). AllByRecursion (λ k. k ≤ made) ks) (sym (keys-at es i w)) is.below;
  last = is.last;
  numbers = is.numbers ∙ sym (numbers-kept id v w es i there keeps);
  room = is.room;
  indices = is.indices;
}

-- what a change of a row shows
pub row-changed : {S : Type 0} (m : IndexMap ℕ TaskRow S) (id i : ℕ) (v w : TaskRow) (f : TaskRow → TaskRow) → IsDistinct nat_eq (keys_of m.entries) → slice_get m.entries i ≡ Some (id, v)
    → row_of id m.entries ≡ Some v → w ≡ f v → by_id (set_value_at m.entries i w) ≡ at_row id f (by_id m.entries)
row-changed m id i v w f distinct there found is =
    let es = m.entries in
    let moved = replaced (by_id es) es (set_value_at es i w) id w (rises-by es distinct) (λ q. sym (lookup-by q es distinct)) (rw found refl)
    (λ q. (updates-with_value_at m i w nat_eq_equiv distinct id v there).0 q) in
    shown (set_value_at es i w) (set_value (nat_eq id) (by_id es) w) (subst (λ (ks : List ℕ). IsDistinct nat_eq ks) (sym (keys-at es i w)) distinct) moved
    ∙ ap (set_value (nat_eq id) (by_id es)) is ∙ written id f v (by_id es) (lookup-by id es distinct ∙ found)

at-same : (id : ℕ) (rows : List (ℕ × TaskRow)) → at_row id (λ r. r) rows ≡ rows
at-same id [] = refl
at-same id (e ∷ es) = elim (e.0 == id) as (λ b. cond b (e ∷ es) (e ∷ at_row id (λ r. r) es) ≡ e ∷ es) [ true ↦ refl | false ↦ ap (λ rs. e ∷ rs) (at-same id es) ]

pub row-kept : {S : Type 0} (m : IndexMap ℕ TaskRow S) (id i : ℕ) (v w : TaskRow) → IsDistinct nat_eq (keys_of m.entries) → slice_get m.entries i ≡ Some (id, v)
    → row_of id m.entries ≡ Some v → w ≡ v → by_id (set_value_at m.entries i w) ≡ by_id m.entries
row-kept m id i v w distinct there found is = row-changed m id i v w (λ r. r) distinct there found is ∙ at-same id (by_id m.entries)

-- an index of the table is one of the tree
pub in_tree : (made spare free : ℕ) (es : List (ℕ × TaskRow)) (tree : Least) (i : ℕ) → IsTable made spare free es tree → i < length es → i < length tree.numbers
in_tree made spare free es tree i is within = subst (λ (n : ℕ). i < n) (sym (ap length is.numbers ∙ length-map es ready_number)) within

-- one of the two happens
pub either-way : {A E : Type 0} (r : Result A E) (P Q R : Type 0) → OnOk r P → OnErr r Q → (P → R) → (Q → R) → R
either-way (Ok x) P Q R p q f h = f p
either-way (Err e) P Q R p q f h = h q

-- a task that is lent, or waits already, may not go on
pub lent-number : (id : ℕ) (v : TaskRow) → ready_number (id, lent_row v) ≡ nothing
lent-number id v =
    elim v.waits as (λ b. v.waits ≡ b → cond (is_ready (cond b v (record v { lent = true }))) id nothing ≡ nothing) [
      | true ↦ λ e. ap (λ w. cond (not (w || v.lent)) id nothing) e
      | false ↦ λ e. ap (λ w. cond (not (w || true)) id nothing) e
    ] refl

-- ---- a row comes

pub started-table : (made spare free more : ℕ) (row : TaskRow) (es new : List (ℕ × TaskRow)) (tree after : Least) → IsTable made spare free es tree → made < 2 ^ 63 → 0 < spare → is_ready row ≡ true
    → new ≡ es ++ (made + 1, row) ∷ [] → free ≤ more + 1 → after.numbers ≡ tree.numbers ++ (made + 1) ∷ [] → tree.room ≤ after.room + 1 → IsTable (made + 1) (spare - 1) more new after
started-table made spare free more row es new tree after is last some ready entries left numbers indices =
    let absent = above (made + 1) made es (omega arith) is.below in record {
      distinct = subst (λ (rs : List (ℕ × TaskRow)). IsDistinct nat_eq (keys_of rs)) (sym entries) (distinct-started (made + 1) row es is.distinct absent);
      below = subst (λ (rs : List (ℕ × TaskRow)). Below (made + 1) rs) (sym entries) (made-started made row es is.below);
      last = omega (arith, last);
      numbers = numbers ∙ (λ j. is.numbers j ++ cond (sym ready j) (made + 1) nothing ∷ []) ∙ sym (map-append ready_number es ((made + 1, row) ∷ [])) ∙ ap (map ready_number) (sym entries);
      room = let enough = is.room in omega (arith, enough, left, some);
      indices = let enough = is.indices in omega (arith, enough, indices, some);
    }

pub row-started : (made : ℕ) (row : TaskRow) (es new : List (ℕ × TaskRow)) → IsDistinct nat_eq (keys_of es) → Below made es → new ≡ es ++ (made + 1, row) ∷ []
    → ((q : ℕ) → row_of q new ≡ cond (nat_eq (made + 1) q) (Some row) (row_of q es)) → by_id new ≡ by_id es ++ (made + 1, row) ∷ []
row-started made row es new distinct below entries updates =
    let absent = above (made + 1) made es (omega arith) below in
    shown new (by_id es ++ (made + 1, row) ∷ []) (subst (λ (rs : List (ℕ × TaskRow)). IsDistinct nat_eq (keys_of rs)) (sym entries) (distinct-started (made + 1) row es distinct absent))
    (pushed (by_id es) es new (made + 1) row (rises-by es distinct) (λ q. sym (lookup-by q es distinct)) (below-by made (made + 1) es (omega arith) below) updates)

-- ---- a row goes

exists-at : (es : List (ℕ × TaskRow)) (i : ℕ) → i < length es → (p : ℕ × TaskRow) × (slice_get es i ≡ Some p)
exists-at [] i within = absurd (omega (arith, within))
exists-at (e ∷ es) zero within = (e, refl)
exists-at (e ∷ es) (suc i) within = exists-at es i (omega (arith, within))

value-at : (es : List (ℕ × TaskRow)) (i : ℕ) (p : ℕ × TaskRow) → slice_get es i ≡ Some p → slice_get (values_of es) i ≡ Some p.1
value-at [] i p there = cc
value-at (e ∷ es) zero p there = let same : e ≡ p = cc in λ j. Some ((same j).1)
value-at (e ∷ es) (suc i) p there = value-at es i p there

-- the row of an id that has an index
pub there : (id i : ℕ) (es : List (ℕ × TaskRow)) → position (nat_eq id) (keys_of es) ≡ Some i → i < length es → (v : TaskRow) × (slice_get es i ≡ Some (id, v))
there id i es index within = let p = exists-at es i within in (p.0.1, entry-at id es i p.0.1 index (value-at es i p.0 p.1))

pub if-some : {A : Type 0} (r : Option A) (p : A) (P : A → Type 0) → IfSome r P → r ≡ Some p → P p
if-some r p P h e = subst (λ o. IfSome o P) e h

below-set : (made : ℕ) (es : List (ℕ × TaskRow)) (i : ℕ) (r : ℕ × TaskRow) → r.0 ≤ made → Below made es → Below made (set es i r)
below-set made [] i r low all = tt
below-set made (e ∷ es) zero r low all = (low, all.1)
below-set made (e ∷ es) (suc i) r low all = (all.0, below-set made es i r low all.1)

below-take : (made n : ℕ) (es : List (ℕ × TaskRow)) → Below made es → Below made (take n es)
below-take made zero es all = tt
below-take made (suc n) [] all = tt
below-take made (suc n) (e ∷ es) all = (all.0, below-take made n es all.1)

below-get : (made : ℕ) (es : List (ℕ × TaskRow)) (k : ℕ) (d : ℕ × TaskRow) → d.0 ≤ made → Below made es → (get_or es k d).0 ≤ made
below-get made [] k d low all = low
below-get made (e ∷ es) zero d low all = all.0
below-get made (e ∷ es) (suc k) d low all = below-get made es k d low all.1

below-found : (made : ℕ) (es : List (ℕ × TaskRow)) (i : ℕ) (p : ℕ × TaskRow) → slice_get es i ≡ Some p → Below made es → p.0 ≤ made
below-found made [] i p there all = cc
below-found made (e ∷ es) zero p there all = let same : e ≡ p = cc in subst (λ (r : ℕ × TaskRow). r.0 ≤ made) same all.0
below-found made (e ∷ es) (suc i) p there all = below-found made es i p there all.1

some-there : (es : List (ℕ × TaskRow)) (i : ℕ) (p : ℕ × TaskRow) → slice_get es i ≡ Some p → 0 < length es
some-there [] i p there = cc
some-there (e ∷ es) i p there = omega arith

pub removed-table : (made spare free more : ℕ) (es new : List (ℕ × TaskRow)) (tree after : Least) (i : ℕ) (p : ℕ × TaskRow) → IsTable made spare free es tree → slice_get es i ≡ Some p → new ≡ swap_remove es i p
    → IsDistinct nat_eq (keys_of new) → free ≤ more → ((other : ℕ) → after.numbers ≡ swap_remove tree.numbers i other) → tree.room ≤ after.room → IsTable made spare more new after
removed-table made spare free more es new tree after i p is there entries distinct left numbers indices = record {
  distinct = distinct;
  below =
      let low = below-found made es i p there is.below in
      subst (λ (rs : List (ℕ × TaskRow)). Below made rs) (sym entries)
      (below-take made (length es - 1) (set es i (get_or es (length es - 1) p)) (below-set made es i (get_or es (length es - 1) p) (below-get made es (length es - 1) p low is.below) is.below));
  last = is.last;
  numbers = numbers (ready_number p) ∙ ap (λ (ns : List ℕ). swap_remove ns i (ready_number p)) is.numbers ∙ sym (map-swap_remove ready_number es i p (some-there es i p there)) ∙ ap (map ready_number) (sym entries);
  room = let enough = is.room in omega (arith, enough, left);
  indices = let enough = is.indices in omega (arith, enough, indices);
}

pub row-removed : (id : ℕ) (es new : List (ℕ × TaskRow)) → IsDistinct nat_eq (keys_of es) → IsDistinct nat_eq (keys_of new) → ((q : ℕ) → row_of q new ≡ cond (nat_eq id q) None (row_of q es)) → by_id new ≡ without id (by_id es)
row-removed id es new distinct left updates =
    shown new (remove_entry (nat_eq id) (by_id es)) left (taken (by_id es) es new id (rises-by es distinct) (λ q. sym (lookup-by q es distinct)) updates)
    ∙ removed id (by_id es) (rises-distinct (keys_of (by_id es)) (rises-by es distinct))

-- no row of the id is there
all-others : (id : ℕ) (es : List (ℕ × TaskRow)) → row_of id es ≡ None → without id es ≡ es
all-others id [] none = refl
all-others id (e ∷ es) none =
    elim (nat_eq id e.0) as (λ b. nat_eq id e.0 ≡ b → cond b (Some e.1) (row_of id es) ≡ None → without id (e ∷ es) ≡ e ∷ es) [
      | true ↦ λ here none. cc
      | false ↦ λ apart none. ap (λ b. cond (not b) (e ∷ without id es) (without id es)) (nat_eq_equiv.symm e.0 id ∙ apart) ∙ ap (λ rs. e ∷ rs) (all-others id es none)
    ] refl none

pub row-absent : (id : ℕ) (es : List (ℕ × TaskRow)) → IsDistinct nat_eq (keys_of es) → row_of id es ≡ None → without id (by_id es) ≡ by_id es
row-absent id es distinct none = all-others id (by_id es) (lookup-by id es distinct ∙ none)

-- what the row of an id shows
pub in-view : (id : ℕ) (es : List (ℕ × TaskRow)) (v : TaskRow) → IsDistinct nat_eq (keys_of es) → row_of id es ≡ Some v → row_of id (by_id es) ≡ Some v
in-view id es v distinct found = lookup-by id es distinct ∙ found

pub out-of-view : (id : ℕ) (es : List (ℕ × TaskRow)) → IsDistinct nat_eq (keys_of es) → row_of id es ≡ None → row_of id (by_id es) ≡ None
out-of-view id es distinct none = lookup-by id es distinct ∙ none
