-- A client's index in a row, and what a change there leaves.
use Rattle.std.proofs.Common.{◌≡◌, ℕ, zero, suc, ◌+◌, ◌<◌, Bool, true, false, cond, List, [], ◌∷◌, length, take, get_or, None, Some, refl, sym, ap, subst, ◌∙◌, arith}
use Rattle.std.specs.Prelude.{position, slice_set}
use Rattle.std.specs.List.{AllByRecursion, IsDistinct, position_from, remove}
use Rattle.std.specs.Map.{lookup, keys_of, remove_entry, set_value}
use Rattle.std.specs.Str.{bytes_eq}
use Rattle.std.proofs.lemmas.Iterator.Adapters.{position_from-zero}
use Rattle.std.proofs.lemmas.Map.Keys.{IsDistinct-head, IsDistinct-tail}
use Rattle.dgc_list.specs.declared.remembered.Remembered.{Remembered}
use Rattle.dgc_list.specs.Clients.{is_known}
use Rattle.dgc_list.proofs.ClientsLemmas.{bytes_eq-laws}

abbrev pub is_own : List ℕ → List ℕ × Remembered → Bool
is_own c e = bytes_eq c e.0

-- the client stands at this index, first
pub record StandsAt (c : List ℕ) (es : List (List ℕ × Remembered)) (i : ℕ) : Type 0 where
  pub within : i < length es
  pub found : (d : List ℕ × Remembered) → lookup (bytes_eq c) es ≡ Some (get_or es i d).1
  pub removed : remove es i ≡ remove_entry (bytes_eq c) es
  pub written : (d : List ℕ × Remembered) (r : Remembered) → slice_set es i ((get_or es i d).0, r) ≡ set_value (bytes_eq c) es r

stands-first : (c : List ℕ) (e : List ℕ × Remembered) (es : List (List ℕ × Remembered)) → bytes_eq c e.0 ≡ true → StandsAt c (e ∷ es) 0
stands-first c e es here = record {
  within = omega arith;
  found = λ d. rw here refl;
  removed = rw here refl;
  written = λ d r. rw here refl;
}

stands-later : (c : List ℕ) (e : List ℕ × Remembered) (es : List (List ℕ × Remembered)) (i : ℕ) → bytes_eq c e.0 ≡ false → StandsAt c es i
    → StandsAt c (e ∷ es) (suc i)
stands-later c e es i apart rest = record {
  within = let within : i < length es = rest.within in omega (arith, within);
  found = λ d. rw apart (rest.found d);
  removed = rw apart (ap (λ (xs : List (List ℕ × Remembered)). e ∷ xs) rest.removed);
  written = λ d r. rw apart (ap (λ (xs : List (List ℕ × Remembered)). e ∷ xs) (rest.written d r));
}

stands-from : (c : List ℕ) (es : List (List ℕ × Remembered)) (n i : ℕ) → position_from (is_own c) n es ≡ Some i → (j : ℕ) × ((n + j ≡ i) × StandsAt c es j)
stands-from c [] n i found = absurd (cc)
stands-from c (e ∷ es) n i found =
    elim (bytes_eq c e.0) as (λ t. bytes_eq c e.0 ≡ t → cond t (Some n) (position_from (is_own c) (n + 1) es) ≡ Some i → (j : ℕ) × ((n + j ≡ i) × StandsAt c (e ∷ es) j)) [
      | true ↦ λ here same. (0, (let is : n ≡ i = cc in omega (arith, is), stands-first c e es here))
      | false ↦ λ apart rest. let next = stands-from c es (n + 1) i rest in (suc next.0, (let is = next.1.0 in omega (arith, is), stands-later c e es next.0 apart next.1.1))
    ] refl found

pub stands-at : (c : List ℕ) (es : List (List ℕ × Remembered)) (i : ℕ) → position (is_own c) es ≡ Some i → StandsAt c es i
stands-at c es i found =
    let from = stands-from c es 0 i (sym (position_from-zero (is_own c) es) ∙ found) in
    let is : from.0 ≡ i = let same = from.1.0 in omega (arith, same) in
    subst (λ (j : ℕ). StandsAt c es j) is from.1.1

pub found-at : (c : List ℕ) (es : List (List ℕ × Remembered)) (i : ℕ) (e : List ℕ × Remembered) → StandsAt c es i → e ≡ get_or es i e
    → lookup (bytes_eq c) es ≡ Some e.1
found-at c es i e here is = here.found e ∙ ap (λ (x : List ℕ × Remembered). Some x.1) (sym is)

pub written-at : (c : List ℕ) (r : Remembered) (es : List (List ℕ × Remembered)) (i : ℕ) (e : List ℕ × Remembered) → StandsAt c es i → e ≡ get_or es i e
    → slice_set es i (e.0, r) ≡ set_value (bytes_eq c) es r
written-at c r es i e here is = ap (λ (x : List ℕ × Remembered). slice_set es i (x.0, r)) is ∙ here.written e r

absent-from : (c : List ℕ) (es : List (List ℕ × Remembered)) (n : ℕ) → position_from (is_own c) n es ≡ None
    → (lookup (bytes_eq c) es ≡ None) × (remove_entry (bytes_eq c) es ≡ es)
absent-from c [] n none = (refl, refl)
absent-from c (e ∷ es) n none =
    elim (bytes_eq c e.0) as (λ t. cond t (Some n) (position_from (is_own c) (n + 1) es) ≡ None
    → (cond t (Some e.1) (lookup (bytes_eq c) es) ≡ None) × (cond t es (e ∷ remove_entry (bytes_eq c) es) ≡ e ∷ es)) [
      | true ↦ λ some. absurd (cc)
      | false ↦ λ rest. let left = absent-from c es (n + 1) rest in (left.0, ap (λ (xs : List (List ℕ × Remembered)). e ∷ xs) left.1)
    ] none

-- the client does not stand in the row
pub absent-at : (c : List ℕ) (es : List (List ℕ × Remembered)) → position (is_own c) es ≡ None
    → (lookup (bytes_eq c) es ≡ None) × (remove_entry (bytes_eq c) es ≡ es)
absent-at c es none = absent-from c es 0 (sym (position_from-zero (is_own c) es) ∙ none)

-- ---- a row whose clients are added to a table in turn

each-at : (P : List ℕ → Type 0) (es : List (List ℕ × Remembered)) (i : ℕ) (d : List ℕ × Remembered) → AllByRecursion P (keys_of es) → i < length es → P (get_or es i d).0
each-at P [] i d all within = absurd (omega (arith, within))
each-at P (e ∷ es) zero d all within = all.0
each-at P (e ∷ es) (suc i) d all within = each-at P es i d all.1 (omega (arith, within))

-- a client is none of those before it
pub new-at : (es : List (List ℕ × Remembered)) (i : ℕ) (d : List ℕ × Remembered) → IsDistinct bytes_eq (keys_of es) → i < length es
    → is_known (take i es) (get_or es i d).0 ≡ false
new-at [] i d distinct within = absurd (omega (arith, within))
new-at (e ∷ es) zero d distinct within = refl
new-at (e ∷ es) (suc i) d distinct within =
    let inside : i < length es = omega (arith, within) in
    let apart : bytes_eq (get_or es i d).0 e.0 ≡ false =
    bytes_eq-laws.symm (get_or es i d).0 e.0 ∙ each-at (λ k. bytes_eq e.0 k ≡ false) es i d (IsDistinct-head bytes_eq e.0 (keys_of es) distinct) inside in
    rw apart (new-at es i d (IsDistinct-tail bytes_eq e.0 (keys_of es) distinct) inside)
