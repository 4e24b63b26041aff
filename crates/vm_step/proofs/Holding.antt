-- Arguments that are references: the task comes by each of them, and keeps it.
use Rattle.std.proofs.Common.{◌+◌, ◌≡◌, ℕ, ◌<◌, ◌≤◌, Bool, true, false, List, [], ◌∷◌, ◌++◌, length, drop, get_or, refl, ap, sym, subst, ◌∙◌, arith, add-one, zero, suc, Option, Some, None}
use Rattle.std.specs.Prelude.{◌&&◌, IsSome, nat_lt, not, option_map, if◌then◌else◌}
use Rattle.std.specs.List.{position, prefix_len}
use Rattle.std.specs.Str.{bytes_eq}
use Rattle.std.proofs.lemmas.Cmp.{nat_list_eq_equiv}
use Rattle.std.proofs.lemmas.Grind.{common_steps}
use Rattle.std.proofs.lemmas.List.Elements.{All-from_get_or, All-cons}
use Rattle.std.proofs.lemmas.List.Sums.{prefix_len-le-length}
use Rattle.space_ids.specs.declared.ids.Ref.{Ref}
use Rattle.space_ids.specs.declared.value.Value.{Value}
use Rattle.space_ids.specs.declared.value.Value.TheVariants as value
use Rattle.vm_heap.specs.References.{Table, is_same_reference, row_for, row_of, row_or_new, with_reference, with_reference_unless}
use Rattle.vm_heap.specs.Tagged.{Tagged, Remote}
use Rattle.vm_step.proofs.Copying.{dropped}
use Rattle.vm_step.specs.Start.{has_row, have_rows, is_row, remote_at, with_arguments, with_value, AreHeld, IsHeld}

position_kept : (p : Ref → Bool) (xs : List Ref) (y : Ref) (k : ℕ) → position p xs ≡ Some k → position p (xs ++ y ∷ []) ≡ Some k
position_kept p xs y k e = grind (arith, common_steps)

position_new : (p : Ref → Bool) (xs : List Ref) (y : Ref) → position p xs ≡ None → p y ≡ true → position p (xs ++ y ∷ []) ≡ Some (length xs)
position_new p xs y e is = let h : prefix_len (λ x. not (p x)) xs ≤ length xs = prefix_len-le-length (λ x. not (p x)) xs in grind (arith, common_steps)

same_as_itself : (r : Ref) → is_same_reference r r ≡ true
same_as_itself r = let e : bytes_eq r.space r.space ≡ true = nat_list_eq_equiv.refl r.space in rw e grind arith

some_is : {A : Type 0} (o : Option A) (x : A) → o ≡ Some x → IsSome o
some_is o x e = subst IsSome (sym e) refl

row_kept : (rows : List Ref) (new r : Ref) → IsSome (row_of rows r) → IsSome (row_of (rows ++ new ∷ []) r)
unfolding row_of
row_kept rows new r some = by (position (is_same_reference r) rows) refl some
  where
    by : (o : Option ℕ) → position (is_same_reference r) rows ≡ o → IsSome o → IsSome (position (is_same_reference r) (rows ++ new ∷ []))
    by None e some = absurd (cc)
    by (Some k) e some = some_is (position (is_same_reference r) (rows ++ new ∷ [])) k (position_kept (is_same_reference r) rows new k e)

row_new : (rows : List Ref) (new : Ref) → row_of rows new ≡ None → IsSome (row_of (rows ++ new ∷ []) new)
unfolding row_of
row_new rows new e = some_is (position (is_same_reference new) (rows ++ new ∷ [])) (length rows) (position_new (is_same_reference new) rows new e (same_as_itself new))

-- a task keeps each reference by which it has come
held_kept : (w v : Value) (table : Table) → IsHeld table v → IsHeld (with_value w table) v
held_kept w value.Null table is = tt
held_kept w (value.Int n) table is = tt
held_kept w (value.Ints elements) table is = tt
held_kept value.Null (value.Ref reference) table is = is
held_kept (value.Int n) (value.Ref reference) table is = is
held_kept (value.Ints elements) (value.Ref reference) table is = is
held_kept (value.Ref new) (value.Ref reference) table is = by (row_of table.rows new)
  where
    more : (b : Bool) → IsSome (row_of (if b then record table { rows = table.rows ++ new ∷ [] } else table).rows reference)
    more true = row_kept table.rows new reference is
    more false = is

    by : (o : Option ℕ) → IsSome (row_of (with_reference_unless new table o).rows reference)
    by None = more (nat_lt (length table.rows) table.limit)
    by (Some row) = is

held_all : (values : List Value) (v : Value) (table : Table) → IsHeld table v → IsHeld (with_arguments values table) v
unfolding with_arguments
held_all [] v table is = is
held_all (w ∷ values) v table is = held_all values v (with_value w table) (held_kept w v table is)

-- it has come by a reference that is within the limit
held_after : (v : Value) (table : Table) → has_row v table ≡ true → IsHeld (with_value v table) v
held_after value.Null table is = tt
held_after (value.Int n) table is = tt
held_after (value.Ints elements) table is = tt
held_after (value.Ref reference) table is = by (row_of table.rows reference) refl is
  where
    more : (b : Bool) → row_of table.rows reference ≡ None → is_row (if b then Some (length table.rows) else None) ≡ true
        → IsSome (row_of (if b then record table { rows = table.rows ++ reference ∷ [] } else table).rows reference)
    more true e has = row_new table.rows reference e
    more false e has = absurd (cc)

    by : (o : Option ℕ) → row_of table.rows reference ≡ o → is_row (row_or_new table o) ≡ true → IsSome (row_of (with_reference_unless reference table o).rows reference)
    by None e has = more (nat_lt (length table.rows) table.limit) e has
    by (Some row) e has = some_is (row_of table.rows reference) row e

both : (a b : Bool) → (a && b) ≡ true → (a ≡ true) × (b ≡ true)
both true b e = (refl, e)
both false b e = absurd (cc)

-- so it has come by all of them
pub are_held : (values : List Value) (table : Table) → have_rows values table ≡ true → AreHeld (with_arguments values table) values
unfolding have_rows with_arguments
are_held [] table is = All-from_get_or (IsHeld table) [] value.Null (λ i within. absurd (omega (arith, within)))
are_held (v ∷ values) table is =
    let parts = both (has_row v table) (have_rows values (with_value v table)) is in
    All-cons (IsHeld (with_arguments values (with_value v table))) v values (held_all values v (with_value v table) (held_after v table parts.0)) (are_held values (with_value v table) parts.1)

-- its space stays
own_value : (v : Value) (table : Table) → (with_value v table).own ≡ table.own
own_value value.Null table = refl
own_value (value.Int n) table = refl
own_value (value.Ints elements) table = refl
own_value (value.Ref reference) table = by (row_of table.rows reference)
  where
    more : (b : Bool) → (if b then record table { rows = table.rows ++ reference ∷ [] } else table).own ≡ table.own
    more true = refl
    more false = refl

    by : (o : Option ℕ) → (with_reference_unless reference table o).own ≡ table.own
    by None = more (nat_lt (length table.rows) table.limit)
    by (Some row) = refl

pub own_stays : (values : List Value) (table : Table) → (with_arguments values table).own ≡ table.own
unfolding with_arguments
own_stays [] table = refl
own_stays (v ∷ values) table = own_stays values (with_value v table) ∙ own_value v table

-- one argument more
row_at : (arguments : List Value) (index : ℕ) (table : Table) (v d : Value) → v ≡ get_or arguments index d → index < length arguments
    → have_rows (drop index arguments) table ≡ (has_row v table && have_rows (drop (index + 1) arguments) (with_value v table))
unfolding have_rows
row_at arguments index table v d is within = rw (add-one index) (at arguments index within is)
  where
    at : (arguments : List Value) (index : ℕ) → index < length arguments → v ≡ get_or arguments index d
        → have_rows (drop index arguments) table ≡ (has_row v table && have_rows (drop (suc index) arguments) (with_value v table))
    at [] index within is = absurd (omega (arith, within))
    at (a ∷ arguments) zero within is = rw is refl
    at (a ∷ arguments) (suc index) within is = at arguments index (omega (arith, within)) is

table_at : (arguments : List Value) (index : ℕ) (table : Table) (v d : Value) → v ≡ get_or arguments index d → index < length arguments
    → with_arguments (drop index arguments) table ≡ with_arguments (drop (index + 1) arguments) (with_value v table)
unfolding with_arguments
table_at arguments index table v d is within = rw (add-one index) (at arguments index within is)
  where
    at : (arguments : List Value) (index : ℕ) → index < length arguments → v ≡ get_or arguments index d
        → with_arguments (drop index arguments) table ≡ with_arguments (drop (suc index) arguments) (with_value v table)
    at [] index within is = absurd (omega (arith, within))
    at (a ∷ arguments) zero within is = rw is refl
    at (a ∷ arguments) (suc index) within is = at arguments index (omega (arith, within)) is

first_no : (b c : Bool) → false ≡ b → false ≡ (b && c)
first_no true c fails = absurd (cc)
first_no false c fails = refl

first_yes : (b c : Bool) → true ≡ b → c ≡ (b && c)
first_yes true c holds = refl
first_yes false c holds = absurd (cc)

-- what is left of the arguments, from an index on
pub record Holds (arguments : List Value) (before : Table) (index : ℕ) (now : Table) : Type 0 where
  pub rows : have_rows (drop index arguments) now ≡ have_rows arguments before
  pub table : with_arguments (drop index arguments) now ≡ with_arguments arguments before

pub holds_no : (arguments : List Value) (before : Table) (index : ℕ) (table : Table) (v d : Value) → v ≡ get_or arguments index d → index < length arguments
    → false ≡ has_row v table → Holds arguments before index table → false ≡ have_rows arguments before
holds_no arguments before index table v d is within fails so =
    first_no (has_row v table) (have_rows (drop (index + 1) arguments) (with_value v table)) fails ∙ (sym (row_at arguments index table v d is within) ∙ so.rows)

pub holds_more : (arguments : List Value) (before : Table) (index : ℕ) (table after : Table) (v d : Value) → v ≡ get_or arguments index d → index < length arguments
    → true ≡ has_row v table → after ≡ with_value v table → Holds arguments before index table → Holds arguments before (index + 1) after
holds_more arguments before index table after v d is within holds now so = record {
  rows = ap (have_rows (drop (index + 1) arguments)) now
      ∙ (first_yes (has_row v table) (have_rows (drop (index + 1) arguments) (with_value v table)) holds ∙ (sym (row_at arguments index table v d is within) ∙ so.rows));
  table = ap (with_arguments (drop (index + 1) arguments)) now ∙ (sym (table_at arguments index table v d is within) ∙ so.table);
}

pub holds_all : (arguments : List Value) (before : Table) (index : ℕ) (table : Table) → length arguments ≤ index → Holds arguments before index table
    → (true ≡ have_rows arguments before) × (table ≡ with_arguments arguments before)
unfolding have_rows with_arguments
holds_all arguments before index table end so = (
  sym (ap (λ (vs : List Value). have_rows vs table) (dropped arguments index end)) ∙ so.rows,
  sym (ap (λ (vs : List Value). with_arguments vs table) (dropped arguments index end)) ∙ so.table,
)

-- the word of a reference by which the task has come
pub held_word : (table : Table) (reference : Ref) → IsSome (row_of table.rows reference)
    → (option_map (λ row. Remote row) (row_for reference table) ≡ Some (remote_at (row_of table.rows reference))) × (with_reference reference table ≡ table)
held_word table reference some = by (row_of table.rows reference) some
  where
    by : (o : Option ℕ) → IsSome o → (option_map (λ row. Remote row) (row_or_new table o) ≡ Some (remote_at o)) × (with_reference_unless reference table o ≡ table)
    by None some = absurd (cc)
    by (Some row) some = (refl, refl)

pub row_told : (o : Option ℕ) (told : Option Tagged) → told ≡ option_map (λ row. Remote row) o → (w : Tagged) → told ≡ Some w → true ≡ is_row o
row_told None told e w is = absurd (cc)
row_told (Some row) told e w is = refl

pub no_row_told : (o : Option ℕ) (told : Option Tagged) → told ≡ option_map (λ row. Remote row) o → told ≡ None → false ≡ is_row o
no_row_told None told e is = refl
no_row_told (Some row) told e is = absurd (cc)
