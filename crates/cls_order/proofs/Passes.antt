-- The pass that ranks classes.
use Rattle.std.proofs.Common.{◌≡◌, ◌≢◌, ℕ, zero, suc, ◌+◌, ◌<◌, ◌≤◌, inl, inr, Bool, true, false, Some, None, List, [], length, get_or, replicate, refl, sym, subst, ap, ◌∙◌, arith}
use Rattle.std.specs.Prelude.{All, Contains, set, slice_get}
use Rattle.std.proofs.lemmas.List.{get_or-set_other, get_or-set_same, length-set}
use Rattle.std.proofs.lemmas.List.Elements.{All-contains, All-nil, Contains-get_or}
use Rattle.std.proofs.lemmas.Option.{get_or_from_slice_get, slice_get_cases, slice_get_past, slice_get_within, slice_get-get_or}
use Rattle.space_ids.specs.declared.ids.ClassId.{ClassId}
use Rattle.cls_order.specs.declared.entries.Entry.{Entry}
use Rattle.cls_order.specs.declared.ranking.Pass.{Pass}
use Rattle.cls_order.specs.Classes.{direct_supertypes}
use Rattle.cls_order.specs.Entries.{classes_of, IsRanked}
use Rattle.cls_order.specs.Marks.{rank_at, rank_in, IsMarked}
use Rattle.cls_order.specs.Ranking.{IsPass}
use Rattle.cls_order.specs.Walks.{ups_at, ups_of, AreWithin}
use Rattle.cls_order.proofs.Heights.{long_none, none_met, to_ups}
use Rattle.cls_order.proofs.Hierarchy.{class_read, none_some, same_some, some_and, true_false}
use Rattle.cls_order.proofs.Marks.{set_grows}
use Rattle.cls_order.proofs.Walks.{before, same_or_other_index, ups_within}

abbrev pub zeros : ℕ → List ℕ
zeros n = replicate n zero

zero_passed : (n k : ℕ) → get_or (zeros n) k 0 ≡ 0
zero_passed zero k = refl
zero_passed (suc n) zero = refl
zero_passed (suc n) (suc k) = zero_passed n k

long_zeros : (n : ℕ) → length (zeros n) ≡ n
long_zeros zero = refl
long_zeros (suc n) = ap suc (long_zeros n)

-- nothing has a rank at first
pub starts : (entries : List Entry) (pass : Pass) (n : ℕ) → n ≡ length entries → pass.met.items ≡ replicate n false → pass.ranked.items ≡ replicate n false → pass.passed.items ≡ zeros n → pass.path.items ≡ [] → IsPass entries 0 pass
starts entries pass n is met ranked passed path =
    let none : (k : ℕ) → IsMarked pass.ranked.items k → ⊥ = λ k m. none_met n k (subst (λ xs. IsMarked xs k) ranked m) in
    record {
      met = ap length met ∙ (long_none n ∙ is);
      ranked = ap length ranked ∙ (long_none n ∙ is);
      passed = ap length passed ∙ (long_zeros n ∙ is);
      path = subst (All (λ k. k < length entries)) (sym path) (All-nil (λ k. k < length entries));
      below = λ k m. absurd (none k m);
      low = λ k m. absurd (none k m);
      behind = λ k i s h at. let none_yet = ap (λ xs. get_or xs k 0) passed ∙ zero_passed n k in absurd (omega (arith, h, none_yet));
    }

module _ (entries : List Entry) (rank : ℕ) (p q : Pass) (old : IsPass entries rank p) where
  -- only the path and the classes that are met change
  pub moves : length q.met.items ≡ length p.met.items → q.ranked.items ≡ p.ranked.items → q.passed.items ≡ p.passed.items → All (λ k. k < length entries) q.path.items → IsPass entries (rank + 1) q
  moves met ranked passed path =
      let back : (k : ℕ) → IsMarked q.ranked.items k → IsMarked p.ranked.items k = λ k m. subst (λ xs. IsMarked xs k) ranked m in
      record {
        met = met ∙ old.met;
        ranked = ap length ranked ∙ old.ranked;
        passed = ap length passed ∙ old.passed;
        path = path;
        below = λ k m. let low = old.below k (back k m) in omega (arith, low);
        low = λ k m.
            subst (λ (xs : List Bool). All (λ (s : ClassId). IsMarked xs s.0 × (rank_at entries s.0 < rank_at entries k)) (ups_at (classes_of entries) (record { 0 = k }))) (sym ranked) (old.low k (back k m));
        behind = λ k i s h at. subst (λ xs. IsMarked xs s.0) (sym ranked) (old.behind k i s (subst (λ (xs : List ℕ). i < get_or xs k 0) passed h) at);
      }

  -- a class has one direct supertype more behind it
  pub passes : (index supertype more : ℕ) (class : ClassId) → index < length entries → supertype ≡ get_or p.passed.items index 0 → more ≤ supertype + 1
      → slice_get (ups_at (classes_of entries) (record { 0 = index })) supertype ≡ Some class → IsMarked p.ranked.items class.0
      → q.met.items ≡ p.met.items → q.ranked.items ≡ p.ranked.items → q.passed.items ≡ set p.passed.items index more → q.path.items ≡ p.path.items → IsPass entries (rank + 1) q
  passes index supertype more class inside is few at marked met ranked passed path =
      let back : (k : ℕ) → IsMarked q.ranked.items k → IsMarked p.ranked.items k = λ k m. subst (λ xs. IsMarked xs k) ranked m in
      let long = old.passed in
      record {
        met = ap length met ∙ old.met;
        ranked = ap length ranked ∙ old.ranked;
        passed = ap length passed ∙ (length-set p.passed.items index more ∙ old.passed);
        path = subst (All (λ k. k < length entries)) (sym path) old.path;
        below = λ k m. let low = old.below k (back k m) in omega (arith, low);
        low = λ k m.
            subst (λ (xs : List Bool). All (λ (s : ClassId). IsMarked xs s.0 × (rank_at entries s.0 < rank_at entries k)) (ups_at (classes_of entries) (record { 0 = k }))) (sym ranked) (old.low k (back k m));
        behind = λ k i s h there.
            subst (λ xs. IsMarked xs s.0) (sym ranked)
            (same_or_other_index (IsMarked p.ranked.items s.0) k index
            (λ same.
            let here : i < more = subst (λ n. i < n) (get_or-set_same p.passed.items index more 0 (omega (arith, inside, long))) (subst (λ j. i < get_or (set p.passed.items index more) j 0) same (subst (λ (xs : List ℕ). i < get_or xs k 0) passed h)) in
            let seen : slice_get (ups_at (classes_of entries) (record { 0 = index })) i ≡ Some s = subst (λ j. slice_get (ups_at (classes_of entries) (record { 0 = j })) i ≡ Some s) same there in
            elim (before i supertype) [
              | inl low ↦ old.behind index i s (subst (λ n. i < n) is low) seen
              | inr high ↦
                  let last : supertype ≡ i = omega (arith, here, few, high) in
                  let one : class ≡ s = same_some (sym at ∙ (ap (slice_get (ups_at (classes_of entries) (record { 0 = index }))) last ∙ seen)) in
                  subst (λ (c : ClassId). IsMarked p.ranked.items c.0) one marked
            ])
            (λ other. old.behind k i s (subst (λ n. i < n) (get_or-set_other p.passed.items index k more 0 other) (subst (λ (xs : List ℕ). i < get_or xs k 0) passed h)) there));
      }

rank_here : (entries : List Entry) (index : ℕ) (y : Entry) → index < length entries → rank_at (set entries index y) index ≡ y.rank
rank_here entries index y inside =
    let long = length-set entries index y in
    ap rank_in (slice_get-get_or (set entries index y) index y (omega (arith, inside, long)) ∙ ap (λ x. Some x) (get_or-set_same entries index y y inside))

rank_other : (entries : List Entry) (index k : ℕ) (y : Entry) → k ≢ index → rank_at (set entries index y) k ≡ rank_at entries k
rank_other entries index k y ne =
    let long = length-set entries index y in
    elim (slice_get_cases entries k).1 [
      | inl r ↦ ap rank_in (slice_get-get_or (set entries index y) k r.0 (omega (arith, r.1, long)) ∙ (ap (λ x. Some x) (get_or-set_other entries index k y r.0 ne ∙ r.3) ∙ sym r.2))
      | inr r ↦ ap rank_in (slice_get_past (set entries index y) k (omega (arith, r.0, long)) ∙ sym r.1)
    ]

-- no item past the end
all_before : (xs : List ClassId) (n i : ℕ) → slice_get xs n ≡ None → i < length xs → i < n
all_before xs n i none h =
    elim (slice_get_cases xs n).1 [
      | inl r ↦ absurd (none_some (sym none ∙ r.2))
      | inr r ↦ omega (arith, h, r.0)
    ]

-- a class whose direct supertypes have ranks has one above them
pub ranks_one : (entries : List Entry) (rank : ℕ) (p q : Pass) (index : ℕ) (y : Entry) → IsPass entries rank p → index < length entries → y.rank ≡ rank → classes_of (set entries index y) ≡ classes_of entries
    → get_or p.ranked.items index false ≡ false → slice_get (ups_at (classes_of entries) (record { 0 = index })) (get_or p.passed.items index 0) ≡ None
    → q.met.items ≡ p.met.items → q.ranked.items ≡ set p.ranked.items index true → q.passed.items ≡ p.passed.items → q.path.items ≡ p.path.items → IsPass (set entries index y) (rank + 1) q
ranks_one entries rank p q index y old inside high same unranked end met ranked passed path =
    let long = length-set entries index y in
    let wide = old.ranked in
    let room : index < length p.ranked.items = omega (arith, inside, wide) in
    let at : ℕ → List ClassId = λ k. ups_at (classes_of entries) (record { 0 = k }) in
    let other : (s : ℕ) → IsMarked p.ranked.items s → s ≢ index = λ s m e. true_false (sym (subst (IsMarked p.ranked.items) e m) ∙ unranked) in
    let grown : (s : ℕ) → IsMarked p.ranked.items s → IsMarked q.ranked.items s = λ s m. subst (λ xs. IsMarked xs s) (sym ranked) (set_grows p.ranked.items index s room m) in
    let left : (s : ℕ) → s ≢ index → IsMarked q.ranked.items s → IsMarked p.ranked.items s = λ s ne m. sym (get_or-set_other p.ranked.items index s true false ne) ∙ subst (λ xs. IsMarked xs s) ranked m in
    let kept : (s : ℕ) → IsMarked p.ranked.items s → rank_at (set entries index y) s ≡ rank_at entries s = λ s m. rank_other entries index s y (other s m) in
    let own : rank_at (set entries index y) index ≡ rank = rank_here entries index y inside ∙ high in
    record {
      met = ap length met ∙ (old.met ∙ sym long);
      ranked = ap length ranked ∙ (length-set p.ranked.items index true ∙ (old.ranked ∙ sym long));
      passed = ap length passed ∙ (old.passed ∙ sym long);
      path = subst (λ n. All (λ k. k < n) q.path.items) (sym long) (subst (All (λ k. k < length entries)) (sym path) old.path);
      below = λ k m.
          same_or_other_index (rank_at (set entries index y) k < rank + 1) k index
          (λ e. subst (λ j. rank_at (set entries index y) j < rank + 1) (sym e) (omega (arith, own)))
          (λ ne. let was = left k ne m in let is = kept k was in let low = old.below k was in omega (arith, is, low));
      low = λ k m.
          subst (λ cs. All (λ (s : ClassId). IsMarked q.ranked.items s.0 × (rank_at (set entries index y) s.0 < rank_at (set entries index y) k)) (ups_at cs (record { 0 = k }))) (sym same)
          (same_or_other_index (All (λ (s : ClassId). IsMarked q.ranked.items s.0 × (rank_at (set entries index y) s.0 < rank_at (set entries index y) k)) (at k)) k index
          (λ e.
          subst (λ j. All (λ (s : ClassId). IsMarked q.ranked.items s.0 × (rank_at (set entries index y) s.0 < rank_at (set entries index y) j)) (at j)) (sym e)
          (λ i d h.
          let s = get_or (at index) i d in
          let was : IsMarked p.ranked.items s.0 = old.behind index i s (all_before (at index) (get_or p.passed.items index 0) i end h) (slice_get-get_or (at index) i d h) in
          let is = kept s.0 was in
          let low = old.below s.0 was in
          (grown s.0 was, omega (arith, own, is, low))))
          (λ ne i d h.
          let s = get_or (at k) i d in
          let was = left k ne m in
          let one = old.low k was i d h in
          let is = kept s.0 one.0 in
          let mine = kept k was in
          let low = one.1 in
          (grown s.0 one.0, omega (arith, is, mine, low))));
      behind = λ k i s h there.
          grown s.0 (old.behind k i s (subst (λ (xs : List ℕ). i < get_or xs k 0) passed h) (subst (λ cs. slice_get (ups_at cs (record { 0 = k })) i ≡ Some s) same there));
    }

-- a direct supertype stands in the list
pub up_within : (entries : List Entry) (index supertype : ℕ) (class : ClassId) → AreWithin (length entries) (classes_of entries)
    → slice_get (ups_at (classes_of entries) (record { 0 = index })) supertype ≡ Some class → class.0 < length entries
up_within entries index supertype class within at =
    let above = ups_at (classes_of entries) (record { 0 = index }) in
    subst (λ (s : ClassId). s.0 < length entries) (get_or_from_slice_get above supertype class class at)
    (ups_within (length entries) (classes_of entries) (record { 0 = index }) within supertype class (slice_get_within above supertype class at))

-- if each class has a rank, each is ranked above its direct supertypes
pub all_ranked : (entries : List Entry) (rank : ℕ) (p : Pass) → IsPass entries rank p → AreWithin (length entries) (classes_of entries) → ((k : ℕ) → k < length entries → IsMarked p.ranked.items k) → All (IsRanked entries) entries
all_ranked entries rank p pass within all k d l i e h =
    let m = get_or entries k d in
    let s = get_or (direct_supertypes m.class) i e in
    let here : slice_get (classes_of entries) k ≡ Some m.class = class_read entries d k k refl l in
    let among : Contains (ups_at (classes_of entries) (record { 0 = k })) s = subst (λ o. Contains (ups_of o) s) (sym here) (to_ups m.class s (Contains-get_or (direct_supertypes m.class) i e h)) in
    let inside : s.0 < length entries = All-contains (λ (s : ClassId). s.0 < length entries) (ups_at (classes_of entries) (record { 0 = k })) s (ups_within (length entries) (classes_of entries) (record { 0 = k }) within) among in
    let low = (All-contains (λ (s : ClassId). IsMarked p.ranked.items s.0 × (rank_at entries s.0 < rank_at entries k)) (ups_at (classes_of entries) (record { 0 = k })) s (pass.low k (all k l)) among).1 in
    let mine : rank_at entries k ≡ m.rank = ap rank_in (slice_get-get_or entries k d l) in
    let its : rank_at entries s.0 ≡ (get_or entries s.0 d).rank = ap rank_in (slice_get-get_or entries s.0 d inside) in
    some_and (slice_get entries s.0) (λ (t : Entry). t.rank < m.rank) (get_or entries s.0 d) (slice_get-get_or entries s.0 d inside) (omega (arith, low, mine, its))
