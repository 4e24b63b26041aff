-- What a binary search by offset finds in a listing.
use Rattle.std.proofs.Common.{◌≡◌, ℕ, ℤ, pos, negsuc, ◌<◌, ◌≤◌, false, List, length, get_or, Result, Ok, Err, is_ok, eqb, eq-eqb, sym, ap, refl, ◌∙◌, arith}
use Rattle.std.specs.List.{list_any}
use Rattle.std.specs.List.Sorted.{IsSearchInRange, IsBinarySearchResult, IsNonDecreasingBy}
use Rattle.std.specs.Int.{FitsUnsignedBits, w64}
use lib.IntN.{nat_abs}
use Rattle.std.proofs.lemmas.Int.{ints}
use mir.Val.{SFits}
use Rattle.std.specs.Ordering.{nat_cmp, ordering_index}
use Rattle.std.proofs.lemmas.Cmp.{ranked}
use Rattle.std.proofs.lemmas.List.Sorted.{IsNonDecreasingBy-from_default}
use Rattle.std.proofs.Math.ListN.{get_or-map, length-map}
use Rattle.std.proofs.lemmas.List.Folds.{list_any_at, list_any_none}
use Rattle.std.proofs.lemmas.List.{get_or_default}
use Rattle.std.proofs.lemmas.Bool.{ne_eqb}
use Rattle.std.proofs.lemmas.Bool.Decides.{nat_tests}
use Rattle.cf_insns.specs.declared.insn.Insn.TheVariants.{Nop}
use Rattle.cf_insns.specs.Listing.{Listing, offsets, Rises, begins_at}

-- an offset of a listing is that of its entry
offsets-at : (listing : Listing) (i : ℕ) → get_or (offsets listing) i 0 ≡ (get_or listing i (0, Nop)).0
offsets-at listing i = get_or-map (λ entry. entry.0) listing i (0, Nop)

length-offsets : (listing : Listing) → length (offsets listing) ≡ length listing
length-offsets listing = length-map listing (λ entry. entry.0)

-- a target that is a number begins an instruction if its number does
pub begins_at-number : (offsets : List ℕ) (target : ℤ) (n : ℕ) → FitsUnsignedBits 64 target × (n ≡ nat_abs target) → list_any (λ offset. eqb offset n) offsets ≡ begins_at offsets target
begins_at-number offsets (pos m) n h = rw h.1 refl
begins_at-number offsets (negsuc m) n h = absurd h.0

-- one before the code begins none
pub begins_at-before : (offsets : List ℕ) (target : ℤ) → SFits w64 target → (FitsUnsignedBits 64 target → ⊥) → false ≡ begins_at offsets target
begins_at-before offsets (pos m) fits none = absurd (none (omega (arith, ints)))
begins_at-before offsets (negsuc m) fits none = refl

module _ (listing : Listing) (rises : Rises (offsets listing)) (target : ℕ) where
  -- the comparisons with the target rise along the listing, as a binary search asks
  comparisons_rise : IsNonDecreasingBy (λ entry. ordering_index (nat_cmp entry.0 target)) listing
  comparisons_rise = IsNonDecreasingBy-from_default (λ entry. ordering_index (nat_cmp entry.0 target)) listing (0, Nop) (λ i j le in_range.
      let at_i = offsets-at listing i in
      let at_j = offsets-at listing j in
      let rise : get_or (offsets listing) i 0 ≤ get_or (offsets listing) j 0 = grind (arith, rises i j, λ (same : i ≡ j). ap (λ k. get_or (offsets listing) k 0) same, length-offsets listing) in
      grind (arith, nat_tests))

  -- a binary search says whether an instruction begins at the target
  pub searched : (r : Result ℕ ℕ) → IsSearchInRange r (length listing) → IsBinarySearchResult (λ entry. nat_cmp entry.0 target) listing r → is_ok r ≡ list_any (λ offset. eqb offset target) (offsets listing)
  searched (Ok at) in_range equal =
      let here = ranked _ target _ (sym (equal (0, Nop))) in
      sym (list_any_at (λ offset. eqb offset target) (offsets listing) at 0 (omega (arith, length-offsets listing)) (rw (offsets-at listing at) (eq-eqb _ _ here)))
  searched (Err at) in_range parted =
      let parts = parted comparisons_rise in
      sym (list_any_none (λ offset. eqb offset target) (offsets listing) (λ k d within.
      let here : get_or (offsets listing) k d ≡ (get_or listing k (0, Nop)).0 = get_or_default (offsets listing) k d 0 within ∙ offsets-at listing k in
      let inside : k < length listing = omega (arith, length-offsets listing) in
      let smaller : k < at → (get_or listing k (0, Nop)).0 < target = λ before. ranked _ target _ (sym (parts.0 k (0, Nop) (omega arith) before)) in
      let greater : at ≤ k → target < (get_or listing k (0, Nop)).0 = λ following. ranked _ target _ (sym (parts.1 k (0, Nop) following inside)) in
      ne_eqb _ _ (λ same. grind (arith, smaller, greater, here, same))))
