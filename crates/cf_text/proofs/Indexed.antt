-- Types by their indices in a table.
use Rattle.std.proofs.Common.{◌≡◌, ℕ, zero, suc, List, [], ◌∷◌, ◌++◌, length, Option, Some, None, refl, ap, arith}
use Rattle.std.specs.Prelude.{slice_get}
use Rattle.cf_text.specs.TypesAt.{types_at, with_first}
use Rattle.cf_text.specs.declared.types.FieldType.{FieldType}

-- if the table has the types of all indices, it has that of each
pub type_at : (table : List FieldType) (indices : List ℕ) (k index : ℕ) → length (types_at table indices) ≡ length indices → slice_get indices k ≡ Some index
    → (kind : FieldType) × (slice_get (types_at table indices) k ≡ Some kind) × (slice_get table index ≡ Some kind)
unfolding types_at
type_at table [] k index all at = absurd (cc)
type_at table (first ∷ others) k index all at = by k (slice_get table first) refl at all (λ (n : ℕ) long there. type_at table others n index long there)
  where
    by : (k : ℕ) (o : Option FieldType) → slice_get table first ≡ o → slice_get (first ∷ others) k ≡ Some index → length (with_first o (types_at table others)) ≡ suc (length others)
        → ((n : ℕ) → length (types_at table others) ≡ length others → slice_get others n ≡ Some index
        → (kind : FieldType) × (slice_get (types_at table others) n ≡ Some kind) × (slice_get table index ≡ Some kind))
        → (kind : FieldType) × (slice_get (with_first o (types_at table others)) k ≡ Some kind) × (slice_get table index ≡ Some kind)
    by k None is there long later = absurd (omega (arith, long))
    by zero (Some kind) is there long later = let same : first ≡ index = cc in (kind, refl, rw (← same) is)
    by (suc k) (Some kind) is there long later = later k (omega (arith, long)) there

-- one more
pub types_push : (table : List FieldType) (indices : List ℕ) (index : ℕ) (kind : FieldType) → length (types_at table indices) ≡ length indices → slice_get table index ≡ Some kind
    → types_at table (indices ++ index ∷ []) ≡ types_at table indices ++ kind ∷ []
unfolding types_at
types_push table [] index kind all is = rw is refl
types_push table (first ∷ others) index kind all is = by (slice_get table first) all (λ long. types_push table others index kind long is)
  where
    by : (o : Option FieldType) → length (with_first o (types_at table others)) ≡ suc (length others)
        → (length (types_at table others) ≡ length others → types_at table (others ++ index ∷ []) ≡ types_at table others ++ kind ∷ [])
        → with_first o (types_at table (others ++ index ∷ [])) ≡ with_first o (types_at table others) ++ kind ∷ []
    by None long later = absurd (omega (arith, long))
    by (Some type) long later = ap (λ types. type ∷ types) (later (omega (arith, long)))

-- the first of those that are left
pub first_left : (table : List FieldType) (first : ℕ) (others : List ℕ) (kind : FieldType) → slice_get table first ≡ Some kind → types_at table (first ∷ others) ≡ kind ∷ types_at table others
unfolding types_at
first_left table first others kind is = rw is refl

-- none are left after an index that the table does not have
pub none_left : (table : List FieldType) (first : ℕ) (others : List ℕ) → slice_get table first ≡ None → types_at table (first ∷ others) ≡ []
unfolding types_at
none_left table first others is = rw is refl
