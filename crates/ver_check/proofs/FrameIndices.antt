-- The indices of the declared frames, found by one pass over them and the offsets of the instructions.
use Rattle.std.proofs.Common.{◌≡◌, ◌≢◌, ℕ, zero, suc, ◌+◌, ◌<◌, ◌≤◌, Bool, true, false, Option, Some, None, List, [], ◌∷◌, length, refl, sym, ap, subst, ◌∙◌, arith, true≢false, add-one, append_assoc, drop-cons, drop, get_or, ◌++◌}
use Rattle.std.specs.Prelude.{◌==◌, if◌then◌else◌, map, slice_get, slice_index, option_and_then}
use Rattle.std.specs.Option.{option_map_or}
use Rattle.std.specs.List.{AllByRecursion, list_any}
use Rattle.std.specs.List.Sorted.{IsStrictlyIncreasing}
use Rattle.std.proofs.lemmas.Bool.{eq-eqb, ne_eqb}
use Rattle.std.proofs.lemmas.List.{append-nil, drop_all}
use Rattle.std.proofs.lemmas.Option.{slice_get_past, slice_get_read}
use Rattle.std.proofs.lemmas.Bool.Decides.{nat_tests}
use Rattle.ver_check.specs.Bodies.{frame_at_offset}
use Rattle.ver_check.specs.Indices.{frame_of, AreIndices}
use Rattle.ver_check.specs.Offsets.{declared_offsets}
use Rattle.ver_frames.specs.Frames.{Frame}

-- ---- what an index finds

same_heads : {A : Type 0} (x y : A) (xs ys : List A) → x ∷ xs ≡ y ∷ ys → (x ≡ y) × (xs ≡ ys)
same_heads x y xs ys e = (cc, cc)

-- the frame of the index of an instruction is the one that is declared at its offset
pub index_finds : (declared : List (ℕ × Frame)) (offsets : List ℕ) (indices : List ℕ) (index : ℕ) → AreIndices declared offsets indices
    → option_and_then (frame_of declared) (slice_get indices index) ≡ option_and_then (frame_at_offset declared) (slice_get offsets index)
index_finds declared [] [] index e = refl
index_finds declared [] (i ∷ is) index e = absurd (cc)
index_finds declared (o ∷ os) [] index e = absurd (cc)
index_finds declared (o ∷ os) (i ∷ is) zero e = (same_heads (frame_of declared i) (frame_at_offset declared o) (map (frame_of declared) is) (map (frame_at_offset declared) os) e).0
index_finds declared (o ∷ os) (i ∷ is) (suc index) e =
    index_finds declared os is index (same_heads (frame_of declared i) (frame_at_offset declared o) (map (frame_of declared) is) (map (frame_at_offset declared) os) e).1

-- the same of the index that was read at a i
pub read_index : (declared : List (ℕ × Frame)) (offsets : List ℕ) (indices : List ℕ) (i : ℕ) (index : ℕ) → AreIndices declared offsets indices → i < length indices → index ≡ get_or indices i index
    → frame_of declared index ≡ option_and_then (frame_at_offset declared) (slice_get offsets i)
read_index declared offsets indices i index are within e =
    let at : slice_get indices i ≡ Some index = slice_get_read indices (length indices) i index refl within e in
    rw at at (index_finds declared offsets indices i are)

-- past the indices no frame is declared
pub past_indices : (declared : List (ℕ × Frame)) (offsets : List ℕ) (indices : List ℕ) (index : ℕ) → AreIndices declared offsets indices → length indices ≤ index
    → None ≡ option_and_then (frame_at_offset declared) (slice_get offsets index)
past_indices declared offsets indices index are past =
    let at : slice_get indices index ≡ None = slice_get_past indices index past in
    rw at at (index_finds declared offsets indices index are)

-- past the last frame there is none
pub past_last : (declared : List (ℕ × Frame)) → frame_of declared (length declared) ≡ None
past_last declared = rw (slice_get_past declared (length declared) (omega arith))

-- ---- the pass

-- the frame at an index is declared at an offset
abbrev pub is_at : List (ℕ × Frame) → ℕ → ℕ → Bool
is_at declared next offset = option_map_or (λ (d : ℕ × Frame). d.0 == offset) (slice_get declared next) false

-- the indices of the frames at these offsets, if the frames before an index are those of earlier offsets
unfoldable pub found_from : List (ℕ × Frame) → ℕ → List ℕ → List ℕ
found_from declared next [] = []
found_from declared next (o ∷ os) =
    if is_at declared next o then next ∷ found_from declared (suc next) os else length declared ∷ found_from declared next os

-- numbers that rise from above one
abbrev RiseAbove : ℕ → List ℕ → Type 0
RiseAbove n [] = Unit {0}
RiseAbove n (x ∷ xs) = (n < x) × RiseAbove x xs

abbrev Rise : List ℕ → Type 0
Rise [] = Unit {0}
Rise (x ∷ xs) = RiseAbove x xs

rise_above : (x : ℕ) (xs : List ℕ) → ((k : ℕ) → suc k < length (x ∷ xs) → slice_index (x ∷ xs) k < slice_index (x ∷ xs) (suc k)) → RiseAbove x xs
rise_above x [] rising = tt
rise_above x (y ∷ ys) rising = (rising 0 (omega arith), rise_above y ys (λ k lt. rising (suc k) (omega arith)))

rise : (xs : List ℕ) → IsStrictlyIncreasing xs → Rise xs
rise [] rising = tt
rise (x ∷ xs) rising = rise_above x xs (λ k lt. let next : k + 1 ≡ suc k = add-one k in rw next at (rising k (omega arith)))

above_rise : (n : ℕ) (xs : List ℕ) → RiseAbove n xs → Rise xs
above_rise n [] above = tt
above_rise n (x ∷ xs) above = above.1

lower : (n m : ℕ) (xs : List ℕ) → n ≤ m → RiseAbove m xs → RiseAbove n xs
lower n m [] le above = tt
lower n m (x ∷ xs) le above = (omega (arith, above.0), above.1)

-- a number below them is none of them
not_below : (n x : ℕ) (xs : List ℕ) → RiseAbove n xs → x ≤ n → list_any (λ y. y == x) xs ≡ false
not_below n x [] above le = refl
not_below n x (y ∷ ys) above le =
    let first : y ≢ x = λ same. omega (arith, above.0) in
    let others : list_any (λ z. z == x) ys ≡ false = not_below y x ys above.1 (omega (arith, above.0)) in
    grind (arith, nat_tests, others)

-- one of them is above
member_above : (n x : ℕ) (xs : List ℕ) → RiseAbove n xs → list_any (λ y. y == x) xs ≡ true → n < x
member_above n x xs above is = grind (arith, not_below n x xs above)

among_later : (o x : ℕ) (os : List ℕ) → x ≢ o → list_any (λ y. y == x) (o ∷ os) ≡ true → list_any (λ y. y == x) os ≡ true
among_later o x os differ is = grind (arith, nat_tests)

-- each of the frames is declared at one of these offsets
abbrev Stand : List ℕ → List (ℕ × Frame) → Type 0
Stand os ds = AllByRecursion (λ (d : ℕ × Frame). list_any (λ start. start == d.0) os ≡ true) ds

stand_later : (o : ℕ) (os : List ℕ) (ds : List (ℕ × Frame)) → RiseAbove o (declared_offsets ds) → Stand (o ∷ os) ds → Stand os ds
stand_later o os [] above stand = tt
stand_later o os (d ∷ ds) above stand =
    (among_later o d.0 os (λ same. omega (arith, above.0)) stand.0, stand_later o os ds (lower o d.0 (declared_offsets ds) (omega (arith, above.0)) above.1) stand.1)

none_above : (x : ℕ) (ds : List (ℕ × Frame)) → RiseAbove x (declared_offsets ds) → frame_at_offset ds x ≡ None
unfolding frame_at_offset
none_above x [] above = refl
none_above x (d ∷ ds) above =
    let differ : d.0 ≢ x = λ same. omega (arith, above.0) in
    rw (ne_eqb d.0 x differ) (none_above x ds (lower x d.0 (declared_offsets ds) (omega (arith, above.0)) above.1))

-- a frame that stands before them says nothing at later offsets
passed : (d : ℕ × Frame) (ds : List (ℕ × Frame)) (n : ℕ) (os : List ℕ) → d.0 ≤ n → RiseAbove n os
    → map (frame_at_offset ds) os ≡ map (frame_at_offset (d ∷ ds)) os
unfolding frame_at_offset
passed d ds n [] le above = refl
passed d ds n (o ∷ os) le above =
    let differ : d.0 ≢ o = λ same. omega (arith, above.0) in
    let others : map (frame_at_offset ds) os ≡ map (frame_at_offset (d ∷ ds)) os = passed d ds o os (omega (arith, above.0)) above.1 in
    rw (ne_eqb d.0 o differ, others)

abbrev Left : List (ℕ × Frame) → ℕ → List (ℕ × Frame) → Type 0
Left declared next ds = (j : ℕ) → slice_get declared (next + j) ≡ slice_get ds j

left_one : (declared : List (ℕ × Frame)) (next : ℕ) (d : ℕ × Frame) (ds : List (ℕ × Frame)) → Left declared next (d ∷ ds) → Left declared (suc next) ds
left_one declared next d ds left j =
    let e : suc next + j ≡ next + suc j = omega arith in
    rw e (left (suc j))

first_left : (declared : List (ℕ × Frame)) (next : ℕ) (ds : List (ℕ × Frame)) → Left declared next ds → slice_get declared next ≡ slice_get ds 0
first_left declared next ds left = let e : next + 0 ≡ next = omega arith in rw e at (left 0)

abbrev Finds : List (ℕ × Frame) → ℕ → List (ℕ × Frame) → List ℕ → Type 0
Finds declared next ds os =
    Left declared next ds → Rise (declared_offsets ds) → Rise os → Stand os ds
    → map (frame_of declared) (found_from declared next os) ≡ map (frame_at_offset ds) os

by_test : (declared : List (ℕ × Frame)) (next : ℕ) (d : ℕ × Frame) (ds : List (ℕ × Frame)) (o : ℕ) (os : List ℕ) (test : Bool) → (d.0 == o) ≡ test
    → Finds declared (suc next) ds os → Finds declared next (d ∷ ds) os
    → Left declared next (d ∷ ds) → RiseAbove d.0 (declared_offsets ds) → RiseAbove o os → Stand (o ∷ os) (d ∷ ds)
    → map (frame_of declared) (if test then next ∷ found_from declared (suc next) os else length declared ∷ found_from declared next os) ≡ map (frame_at_offset (d ∷ ds)) (o ∷ os)
unfolding frame_at_offset
by_test declared next d ds o os true e hit miss left rises rising stand =
    let same : d.0 ≡ o = grind (arith, nat_tests, e) in
    let others : map (frame_of declared) (found_from declared (suc next) os) ≡ map (frame_at_offset ds) os =
    hit (left_one declared next d ds left) (above_rise d.0 (declared_offsets ds) rises) (above_rise o os rising)
    (stand_later o os ds (lower o d.0 (declared_offsets ds) (omega (arith, same)) rises) stand.1) in
    rw (e, first_left declared next (d ∷ ds) left) (ap (λ (fs : List (Option Frame)). Some d.1 ∷ fs) (others ∙ passed d ds o os (omega (arith, same)) rising))
by_test declared next d ds o os false e hit miss left rises rising stand =
    let differ : o ≢ d.0 = λ same. true≢false (sym (eq-eqb d.0 o (sym same)) ∙ e) in
    let later : o < d.0 = member_above o d.0 os rising (among_later o d.0 os (λ same. differ (sym same)) stand.0) in
    let others : map (frame_of declared) (found_from declared next os) ≡ map (frame_at_offset (d ∷ ds)) os =
    miss left rises (above_rise o os rising) (stand_later o os (d ∷ ds) (later, rises) stand) in
    let none : frame_at_offset ds o ≡ None = none_above o ds (lower o d.0 (declared_offsets ds) (omega (arith, later)) rises) in
    rw (e, none, past_last declared) (ap (λ (fs : List (Option Frame)). None ∷ fs) others)

found_all : (declared : List (ℕ × Frame)) (next : ℕ) (ds : List (ℕ × Frame)) (os : List ℕ) → Finds declared next ds os
unfolding found_from
found_all declared next ds [] left rises rising stand = refl
found_all declared next [] (o ∷ os) left rises rising stand =
    let others : map (frame_of declared) (found_from declared next os) ≡ map (frame_at_offset []) os = found_all declared next [] os left tt (above_rise o os rising) tt in
    let here : frame_at_offset [] o ≡ None = none_above o [] tt in
    rw (first_left declared next [] left, here, past_last declared, others)
found_all declared next (d ∷ ds) (o ∷ os) left rises rising stand =
    let tested : is_at declared next o ≡ (d.0 == o) = rw (first_left declared next (d ∷ ds) left) in
    rw tested (by_test declared next d ds o os (d.0 == o) refl (found_all declared (suc next) ds os) (found_all declared next (d ∷ ds) os) left rises rising stand)

-- the pass finds the frame of each instruction
pub pass_finds : (declared : List (ℕ × Frame)) (offsets : List ℕ) → IsStrictlyIncreasing (declared_offsets declared) → IsStrictlyIncreasing offsets → Stand offsets declared
    → AreIndices declared offsets (found_from declared 0 offsets)
pass_finds declared offsets rises rising stand = found_all declared 0 declared offsets from_start (rise (declared_offsets declared) rises) (rise offsets rising) stand
  where
    from_start : Left declared 0 declared
    from_start j = let e : 0 + j ≡ j = omega arith in rw e

-- the pass after an instruction at which a frame is declared
pub step_hit : (front : List ℕ) (declared : List (ℕ × Frame)) (next : ℕ) (offsets : List ℕ) (k : ℕ) (total : List ℕ) → k < length offsets → is_at declared next (get_or offsets k 0) ≡ true
    → front ++ found_from declared next (drop k offsets) ≡ total
    → (front ++ next ∷ []) ++ found_from declared (next + 1) (drop (k + 1) offsets) ≡ total
unfolding found_from
step_hit front declared next offsets k total below hit so_far =
    rw (add-one next, add-one k) (simp append_assoc (rw (drop-cons offsets k 0, hit) at so_far))

-- and after any other
pub step_miss : (front : List ℕ) (declared : List (ℕ × Frame)) (next : ℕ) (offsets : List ℕ) (k : ℕ) (total : List ℕ) → k < length offsets → is_at declared next (get_or offsets k 0) ≡ false
    → front ++ found_from declared next (drop k offsets) ≡ total
    → (front ++ length declared ∷ []) ++ found_from declared next (drop (k + 1) offsets) ≡ total
unfolding found_from
step_miss front declared next offsets k total below miss so_far =
    rw (add-one k) (simp append_assoc (rw (drop-cons offsets k 0, miss) at so_far))

-- the end of the pass
pub pass_ends : (front : List ℕ) (declared : List (ℕ × Frame)) (next : ℕ) (offsets : List ℕ) (k : ℕ) → length offsets ≤ k
    → IsStrictlyIncreasing (declared_offsets declared) → IsStrictlyIncreasing offsets → AllByRecursion (λ (d : ℕ × Frame). list_any (λ start. start == d.0) offsets ≡ true) declared
    → front ++ found_from declared next (drop k offsets) ≡ found_from declared 0 offsets → AreIndices declared offsets front
unfolding found_from
pass_ends front declared next offsets k le rises rising stand so_far =
    let all : front ≡ found_from declared 0 offsets = sym (append-nil front) ∙ (rw (drop_all k offsets le) at so_far) in
    subst (λ (is : List ℕ). AreIndices declared offsets is) (sym all) (pass_finds declared offsets rises rising stand)
