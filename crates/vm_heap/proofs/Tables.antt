-- Each reference of a task stands once in its list.
use Rattle.std.proofs.Common.{◌≡◌, ◌<◌, ◌≤◌, ◌+◌, ℕ, zero, suc, ◌⊎◌, inl, inr, Bool, true, List, [], ◌∷◌, ◌++◌, length, Some, None, slice_get, refl, arith, ap, sym, ◌∙◌}
use Rattle.std.specs.Str.{bytes_eq}
use Rattle.std.specs.List.{position}
use Rattle.std.proofs.lemmas.List.Quantifiers.{position-Some}
use Rattle.std.specs.List.{prefix_len}
use Rattle.std.specs.Prelude.{not, map}
use Rattle.std.proofs.lemmas.List.Sums.{prefix_len-le-length}
use Rattle.std.proofs.lemmas.Cmp.{nat_list_eq_equiv}
use Rattle.std.proofs.lemmas.Grind.{common_steps}
use Rattle.space_ids.specs.declared.ids.Ref.{Ref}
use Rattle.uuid.specs.declared.Uuid.{Uuid}
use Rattle.vm_heap.specs.References.{is_same_reference, row_of}

pub row_within : (rows : List Ref) (r : Ref) (row : ℕ) → row_of rows r ≡ Some row → row < length rows
unfolding row_of
row_within rows r row e = (position-Some (is_same_reference r) rows row r e).0

position_kept : (p : Ref → Bool) (xs : List Ref) (y : Ref) (k : ℕ) → position p xs ≡ Some k → position p (xs ++ y ∷ []) ≡ Some k
position_kept p xs y k e = grind (arith, common_steps)

position_new : (p : Ref → Bool) (xs : List Ref) (y : Ref) → position p xs ≡ None → p y ≡ true → position p (xs ++ y ∷ []) ≡ Some (length xs)
position_new p xs y e is = let h : prefix_len (λ x. not (p x)) xs ≤ length xs = prefix_len-le-length (λ x. not (p x)) xs in grind (arith, common_steps)

same_as_itself : (r : Ref) → is_same_reference r r ≡ true
same_as_itself r = let e : bytes_eq r.space r.space ≡ true = nat_list_eq_equiv.refl r.space in rw e grind arith

row_kept : (rows : List Ref) (new r : Ref) (row : ℕ) → row_of rows r ≡ Some row → row_of (rows ++ new ∷ []) r ≡ Some row
unfolding row_of
row_kept rows new r row e = position_kept (is_same_reference r) rows new row e

row_new : (rows : List Ref) (new : Ref) → row_of rows new ≡ None → row_of (rows ++ new ∷ []) new ≡ Some (length rows)
unfolding row_of
row_new rows new e = position_new (is_same_reference new) rows new e (same_as_itself new)

get_added : (rows : List Ref) (new r : Ref) (row : ℕ) → slice_get (rows ++ new ∷ []) row ≡ Some r → (slice_get rows row ≡ Some r) ⊎ ((row ≡ length rows) × (r ≡ new))
get_added [] new r zero e = inr (refl, (cc))
get_added [] new r (suc row) e = absurd (cc)
get_added (x ∷ rows) new r zero e = inl e
get_added (x ∷ rows) new r (suc row) e = more (get_added rows new r row e)
  where
    more : (slice_get rows row ≡ Some r) ⊎ ((row ≡ length rows) × (r ≡ new)) → (slice_get (x ∷ rows) (suc row) ≡ Some r) ⊎ ((suc row ≡ length (x ∷ rows)) × (r ≡ new))
    more (inl there) = inl there
    more (inr at) = inr (ap suc at.0, at.1)

pub added : (rows : List Ref) (new : Ref) → ((row : ℕ) (r : Ref) → slice_get rows row ≡ Some r → row_of rows r ≡ Some row) → row_of rows new ≡ None
    → (row : ℕ) (r : Ref) → slice_get (rows ++ new ∷ []) row ≡ Some r → row_of (rows ++ new ∷ []) r ≡ Some row
added rows new once absent row r e = each (get_added rows new r row e)
  where
    each : (slice_get rows row ≡ Some r) ⊎ ((row ≡ length rows) × (r ≡ new)) → row_of (rows ++ new ∷ []) r ≡ Some row
    each (inl there) = row_kept rows new r row (once row r there)
    each (inr at) = rw (at.0, at.1) (row_new rows new absent)

pub length_added : (rows : List Ref) (new : Ref) → length (rows ++ new ∷ []) ≡ length rows + 1
length_added [] new = refl
length_added (x ∷ rows) new = omega (arith, length_added rows new)

map_added : (f : Ref → Bool) (rows : List Ref) (new : Ref) → map f (rows ++ new ∷ []) ≡ map f rows ++ f new ∷ []
map_added f [] new = refl
map_added f (x ∷ rows) new = ap (λ (l : List Bool). f x ∷ l) (map_added f rows new)

-- with one more reference it is known of each of them whether it is to an object of this space
pub mark_added : (own : Uuid) (rows : List Ref) (new : Ref) (known : List Bool) (is : Bool) → known ≡ map (λ (r : Ref). bytes_eq r.space own) rows
    → is ≡ bytes_eq new.space own → known ++ is ∷ [] ≡ map (λ (r : Ref). bytes_eq r.space own) (rows ++ new ∷ [])
mark_added own rows new known is e same =
    ap (λ (l : List Bool). l ++ is ∷ []) e ∙ (ap (λ (b : Bool). map (λ (r : Ref). bytes_eq r.space own) rows ++ b ∷ []) same ∙ sym (map_added (λ (r : Ref). bytes_eq r.space own) rows new))
