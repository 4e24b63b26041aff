-- References that come: those of a machine's table and those that a task of the rules holds are the same.
use Rattle.std.proofs.Common.{◌≡◌, ℕ, ◌+◌, ◌≤◌, Bool, true, false, cond, List, [], ◌∷◌, ◌++◌, length, refl, ap, sym, subst, ◌∙◌, arith, length-append, Option, Some, None}
use Rattle.std.specs.Prelude.{◌||◌, nat_le, nat_lt, is_some, if◌then◌else◌}
use Rattle.std.specs.List.{list_any, position_from}
use Rattle.std.proofs.lemmas.Bool.Decides.{nat_tests}
use Rattle.std.proofs.lemmas.Iterator.Adapters.{position_from-zero}
use Rattle.space_ids.specs.declared.ids.Ref.{Ref}
use Rattle.vm_heap.specs.References.{Table, is_same_reference, new_row, row_for, row_of, row_or_new, with_new_row, with_reference, with_reference_unless}
use Rattle.sp_rules.specs.Classes.{Setting}
use Rattle.sp_rules.specs.References as rules
use Rattle.sp_behaviours.specs.Follows.{HoldsAs}

-- a reference is among these where it has a row
from-any : (p : Ref → Bool) (i : ℕ) (xs : List Ref) → is_some (position_from p i xs) ≡ list_any p xs
from-any p i [] = refl
from-any p i (x ∷ xs) =
    elim (p x) as (λ b. is_some (cond b (Some i) (position_from p (i + 1) xs)) ≡ (b || list_any p xs)) [ true ↦ refl | false ↦ from-any p (i + 1) xs ]

row-any : (rows : List Ref) (r : Ref) → is_some (row_of rows r) ≡ rules.is_reference_in rows r
unfolding row_of
row-any rows r = ap is_some (position_from-zero (is_same_reference r) rows) ∙ from-any (is_same_reference r) 0 rows

-- numbers, and tests of them
next-below : (a b : ℕ) → nat_le (a + 1) b ≡ nat_lt a b
next-below a b = grind (arith, nat_tests)

le-test : (a b : ℕ) → a ≤ b → nat_le a b ≡ true
le-test a b le = grind (arith, nat_tests)

test-le : (a b : ℕ) → nat_le a b ≡ true → a ≤ b
test-le a b is = grind (arith, nat_tests)

pub over-more : (a b n : ℕ) → a ≤ b → nat_le a n ≡ false → nat_le b n ≡ false
over-more a b n le over = grind (arith, nat_tests)

-- one more is within a limit where there is room for a new row
room-is : (held : List Ref) (r : Ref) (limit : ℕ) → nat_le (length (held ++ r ∷ [])) limit ≡ nat_lt (length held) limit
room-is held r limit =
    let more : length (held ++ r ∷ []) ≡ length held + 1 = omega (arith, length-append held (r ∷ [])) in
    ap (λ n. nat_le n limit) more ∙ next-below (length held) limit

within-is : (held : List Ref) (limit : ℕ) → length held ≤ limit → nat_le (length held) limit ≡ true
within-is held limit within = le-test (length held) limit within

within-from : (held : List Ref) (limit : ℕ) → nat_le (length held) limit ≡ true → length held ≤ limit
within-from held limit is = test-le (length held) limit is

-- what comes of a reference: it has a row, and is held, within the limit; or it has none, and is one too many
pub record Arrives (g : Setting) (held : List Ref) (table : Table) : Type 0 where
  pub fits : nat_le (length held) g.limits.references ≡ true
  pub holds : HoldsAs g held table

pub record Overflows (g : Setting) (held : List Ref) : Type 0 where
  pub over : nat_le (length held) g.limits.references ≡ false

abbrev pub Comes : Setting → List Ref → Table → Option ℕ → Type 0
Comes g held table None = Overflows g held
Comes g held table (Some row) = Arrives g held table

pub comes : (g : Setting) (held : List Ref) (table : Table) (r : Ref) → HoldsAs g held table
    → Comes g (rules.with_reference held r) (with_reference r table) (row_for r table)
comes g held table r holds = by (row_of table.rows r) (row-any table.rows r ∙ ap (λ rows. rules.is_reference_in rows r) holds.rows)
  where
    more : (b : Bool) → nat_lt (length held) g.limits.references ≡ b → nat_lt (length table.rows) table.limit ≡ b
        → Comes g (held ++ r ∷ []) (if b then record table { rows = table.rows ++ r ∷ [] } else table) (if b then Some (length table.rows) else None)
    more true room here =
        let fits : nat_le (length (held ++ r ∷ [])) g.limits.references ≡ true = room-is held r g.limits.references ∙ room in
        record {
          fits = fits;
          holds = record {
            rows = ap (λ rows. rows ++ r ∷ []) holds.rows;
            own = holds.own;
            limit = holds.limit;
            within = within-from (held ++ r ∷ []) g.limits.references fits;
          };
        }
    more false room here = record { over = room-is held r g.limits.references ∙ room }

    new : (b : Bool) → nat_lt (length table.rows) table.limit ≡ b
        → Comes g (held ++ r ∷ []) (if b then record table { rows = table.rows ++ r ∷ [] } else table) (if b then Some (length table.rows) else None)
    new b here =
        let same : nat_lt (length table.rows) table.limit ≡ nat_lt (length held) g.limits.references = λ j. nat_lt (length (holds.rows j)) (holds.limit j) in
        more b (sym same ∙ here) here

    by : (o : Option ℕ) → is_some o ≡ rules.is_reference_in held r
        → Comes g (if rules.is_reference_in held r then held else held ++ r ∷ []) (with_reference_unless r table o) (row_or_new table o)
    by None e =
        subst (λ (b : Bool). Comes g (if b then held else held ++ r ∷ []) (with_new_row r table) (new_row table)) e (new (nat_lt (length table.rows) table.limit) refl)
    by (Some row) e =
        subst (λ (b : Bool). Comes g (if b then held else held ++ r ∷ []) table (Some row)) e
        (record { fits = within-is held g.limits.references holds.within; holds = holds })

-- where nothing comes
pub stays-within : (g : Setting) (held : List Ref) (table : Table) → HoldsAs g held table → nat_le (length held) g.limits.references ≡ true
stays-within g held table holds = within-is held g.limits.references holds.within
