-- Arguments that are copied into the heap, and passed one after another.
use Rattle.std.proofs.Common.{◌≡◌, ℕ, zero, suc, ◌+◌, ◌-◌, ◌<◌, ◌≤◌, Bool, true, false, List, [], ◌∷◌, ◌++◌, length, get_or, drop, refl, ap, sym, ◌∙◌, arith, add-one, Some, None, eqb-true, ltb-true, lt-ltb, le-leb, leb-true}
use Rattle.std.specs.Prelude.{ℤ, ◌↔◌, ◌^◌, ◌&&◌, nat_eq, nat_lt, nat_le, if◌then◌else◌, IsTrue}
use Rattle.std.specs.Bool.{OnTrue}
use Rattle.cls_set.specs.declared.class.Class.{Class}
use Rattle.space_ids.specs.declared.value.Value.{Value}
use Rattle.space_ids.specs.declared.value.Value.TheVariants as value
use Rattle.vm_heap.specs.Heap.{Cell, Object, Ints, Store, all_cost, cell_at, cost, with_new}
use Rattle.vm_step.specs.Start.{copy_of, fill, has_room_for, is_of_type}
use Rattle.cf_text.specs.declared.types.FieldType.{FieldType}

cost_some : (c : Cell) → 0 < cost c
unfolding cost
cost_some (Object class fields) = omega arith
cost_some (Ints elements) = omega arith

-- a cell with others after it stands at its address
pub cell_between : (before : List Cell) (cell : Cell) (following : List Cell) → cell_at (before ++ cell ∷ following) (all_cost before) ≡ Some cell
unfolding cell_at all_cost
cell_between [] cell following = refl
cell_between (c ∷ cs) cell following = at_first (cell_between cs cell following) (nat_eq (cost c + all_cost cs) 0) refl
  where
    at_next : cell_at (cs ++ cell ∷ following) (all_cost cs) ≡ Some cell → (b : Bool) → nat_lt (cost c + all_cost cs) (cost c) ≡ b
        → (if b then None else cell_at (cs ++ cell ∷ following) (cost c + all_cost cs - cost c)) ≡ Some cell
    at_next go true lt = let less : cost c + all_cost cs < cost c = ltb-true (cost c + all_cost cs) (cost c) lt in absurd (omega arith)
    at_next go false lt = let same : cost c + all_cost cs - cost c ≡ all_cost cs = omega arith in rw same go

    at_first : cell_at (cs ++ cell ∷ following) (all_cost cs) ≡ Some cell → (b : Bool) → nat_eq (cost c + all_cost cs) 0 ≡ b
        → (if b then Some c else (if nat_lt (cost c + all_cost cs) (cost c) then None else cell_at (cs ++ cell ∷ following) (cost c + all_cost cs - cost c))) ≡ Some cell
    at_first go true eq = let none : cost c + all_cost cs ≡ 0 = eqb-true (cost c + all_cost cs) 0 eq in absurd (omega (arith, cost_some c))
    at_first go false eq = at_next go (nat_lt (cost c + all_cost cs) (cost c)) refl

pub all_cost-append : (before following : List Cell) → all_cost (before ++ following) ≡ all_cost before + all_cost following
unfolding all_cost
all_cost-append [] following = let e : 0 + all_cost following ≡ all_cost following = omega arith in sym e
all_cost-append (c ∷ cs) following = let so : all_cost (cs ++ following) ≡ all_cost cs + all_cost following = all_cost-append cs following in rw so (omega arith)

-- how many words the copy of an argument takes
pub words_of_ints : (v : Value) (elements : List ℤ) → v ≡ value.Ints elements → length elements + 2 ≡ all_cost (copy_of v)
unfolding all_cost cost
words_of_ints v elements is = rw is (omega arith)

pub words_of_other : (v : Value) → ((elements : List ℤ) → v ≡ value.Ints elements → ⊥) → 0 ≡ all_cost (copy_of v)
unfolding all_cost
words_of_other value.Null not_ints = refl
words_of_other (value.Int n) not_ints = refl
words_of_other (value.Ints elements) not_ints = absurd (not_ints elements refl)
words_of_other (value.Ref reference) not_ints = refl

-- arguments of another number than the parameters do not fill them
and_false : (b c : Bool) → false ≡ c → false ≡ (b && c)
and_false true c is = is
and_false false c is = refl

pub fill_other : (classes : List Class) (kinds : List FieldType) (values : List Value) → (length kinds ≡ length values → ⊥) → false ≡ fill classes kinds values
unfolding fill
fill_other classes [] [] other = absurd (other refl)
fill_other classes [] (v ∷ values) other = refl
fill_other classes (kind ∷ kinds) [] other = refl
fill_other classes (kind ∷ kinds) (v ∷ values) other = and_false (is_of_type classes kind v) (fill classes kinds values) (fill_other classes kinds values (λ same. other (ap (λ (n : ℕ). suc n) same)))

-- those from an index on
pub fill_at : (classes : List Class) (kinds : List FieldType) (values : List Value) (index : ℕ) (k d : FieldType) (v e : Value) → index < length kinds → index < length values
    → k ≡ get_or kinds index d → v ≡ get_or values index e → fill classes (drop index kinds) (drop index values) ≡ (is_of_type classes k v && fill classes (drop (index + 1) kinds) (drop (index + 1) values))
unfolding fill
fill_at classes kinds values index k d v e within room is was = rw (add-one index) (at kinds values index within room is was)
  where
    at : (kinds : List FieldType) (values : List Value) (index : ℕ) → index < length kinds → index < length values → k ≡ get_or kinds index d → v ≡ get_or values index e
        → fill classes (drop index kinds) (drop index values) ≡ (is_of_type classes k v && fill classes (drop (suc index) kinds) (drop (suc index) values))
    at [] values index within room is was = absurd (omega (arith, within))
    at (kind ∷ kinds) [] index within room is was = absurd (omega (arith, room))
    at (kind ∷ kinds) (x ∷ values) zero within room is was = rw (is, was) refl
    at (kind ∷ kinds) (x ∷ values) (suc index) within room is was = at kinds values index (omega (arith, within)) (omega (arith, room)) is was

pub fill_none : (classes : List Class) → fill classes [] [] ≡ true
unfolding fill
fill_none classes = refl

first_no : (b c : Bool) → false ≡ b → false ≡ (b && c)
first_no true c fails = absurd (cc)
first_no false c fails = refl

first_yes : (b c : Bool) → true ≡ b → c ≡ (b && c)
first_yes true c holds = refl
first_yes false c holds = absurd (cc)

pub fill_no : (classes : List Class) (kinds : List FieldType) (values : List Value) (index : ℕ) (k d : FieldType) (v e : Value) → index < length kinds → index < length values
    → k ≡ get_or kinds index d → v ≡ get_or values index e → false ≡ is_of_type classes k v → fill classes (drop index kinds) (drop index values) ≡ fill classes kinds values → false ≡ fill classes kinds values
fill_no classes kinds values index k d v e within room is was fails so =
    first_no (is_of_type classes k v) (fill classes (drop (index + 1) kinds) (drop (index + 1) values)) fails ∙ (sym (fill_at classes kinds values index k d v e within room is was) ∙ so)

pub fill_more : (classes : List Class) (kinds : List FieldType) (values : List Value) (index : ℕ) (k d : FieldType) (v e : Value) → index < length kinds → index < length values
    → k ≡ get_or kinds index d → v ≡ get_or values index e → true ≡ is_of_type classes k v → fill classes (drop index kinds) (drop index values) ≡ fill classes kinds values
    → fill classes (drop (index + 1) kinds) (drop (index + 1) values) ≡ fill classes kinds values
fill_more classes kinds values index k d v e within room is was holds so =
    first_yes (is_of_type classes k v) (fill classes (drop (index + 1) kinds) (drop (index + 1) values)) holds ∙ (sym (fill_at classes kinds values index k d v e within room is was) ∙ so)

pub dropped : {A : Type 0} (xs : List A) (n : ℕ) → length xs ≤ n → drop n xs ≡ []
dropped [] zero h = refl
dropped [] (suc n) h = refl
dropped (x ∷ xs) zero h = absurd (omega (arith, h))
dropped (x ∷ xs) (suc n) h = dropped xs n (omega (arith, h))

pub fill_end : (classes : List Class) (kinds : List FieldType) (values : List Value) (index : ℕ) → length kinds ≤ index → length values ≤ index → true ≡ fill classes (drop index kinds) (drop index values)
fill_end classes kinds values index k v = rw (dropped kinds index k, dropped values index v) (sym (fill_none classes))

-- ---- the copies

room_of : (r a b : Bool) (P Q : Type 0) → (r ≡ true → P × Q) → (P × Q → r ≡ true) → (P → a ≡ true) → (a ≡ true → P) → (Q → b ≡ true) → (b ≡ true → Q) → r ≡ (a && b)
room_of true a b P Q to from pa ap' qb bq = let both = to refl in sym (rw (pa both.0, qb both.1) refl)
room_of false true true P Q to from pa ap' qb bq = from (ap' refl, bq refl)
room_of false true false P Q to from pa ap' qb bq = refl
room_of false false b P Q to from pa ap' qb bq = refl

pub room_for : (r : Bool) (v : Value) (elements given : List ℤ) (words : ℕ) → v ≡ value.Ints elements → given ≡ elements
    → (IsTrue r ↔ (length given < 2 ^ 31) × (cost (Ints given) ≤ words)) → r ≡ has_room_for v words
unfolding all_cost
room_for r v elements given words is same fits =
    let whole : cost (Ints elements) + 0 ≡ cost (Ints elements) = omega arith in
    rw (is, ← same) (room_of r (nat_lt (length given) (2 ^ 31)) (nat_le (cost (Ints given) + 0) words) (length given < 2 ^ 31) (cost (Ints given) ≤ words) fits.0 fits.1
    (λ p. lt-ltb (length given) (2 ^ 31) p) (λ e. ltb-true (length given) (2 ^ 31) e) (λ q. le-leb (cost (Ints given) + 0) words (omega (arith, q)))
    (λ e. let h : cost (Ints given) + 0 ≤ words = leb-true (cost (Ints given) + 0) words e in omega (arith, h)))

pub copied_free : (r : Bool) (v : Value) (elements given : List ℤ) (before after : Store) → v ≡ value.Ints elements → given ≡ elements
    → (IsTrue r ↔ (length given < 2 ^ 31) × (cost (Ints given) ≤ before.free)) → OnTrue r (after ≡ with_new (Ints given) before)
    → OnTrue r (after.free + all_cost (copy_of v) ≡ before.free)
unfolding all_cost
copied_free false v elements given before after is same fits copied = tt
copied_free true v elements given before after is same fits copied =
    let enough = (fits.0 refl).1 in
    let left : after.free ≡ before.free - cost (Ints given) = ap (λ (s : Store). s.free) copied in
    let size : cost (Ints elements) ≡ cost (Ints given) = ap (λ (xs : List ℤ). cost (Ints xs)) (sym same) in
    rw is (omega (arith, enough, left, size))

pub nil_right : {A : Type 0} (xs : List A) → xs ≡ xs ++ []
nil_right [] = refl
nil_right (x ∷ xs) = ap (λ rest. x ∷ rest) (nil_right xs)

pub record Untouched (v : Value) (s : Store) : Type 0 where
  pub fits : true ≡ has_room_for v s.free
  pub cells : s.cells ≡ s.cells ++ copy_of v
  pub free : s.free + all_cost (copy_of v) ≡ s.free

nothing_copied : (s : Store) → (true ≡ nat_le (all_cost []) s.free) × (s.cells ≡ s.cells ++ []) × (s.free + all_cost [] ≡ s.free)
unfolding all_cost
nothing_copied s = (sym (le-leb 0 s.free (omega arith)), nil_right s.cells, omega arith)

pub untouched : (v : Value) (s : Store) → ((elements : List ℤ) → v ≡ value.Ints elements → ⊥) → Untouched v s
untouched value.Null s not_ints = let so = nothing_copied s in record { fits = so.0; cells = so.1; free = so.2 }
untouched (value.Int n) s not_ints = let so = nothing_copied s in record { fits = so.0; cells = so.1; free = so.2 }
untouched (value.Ints elements) s not_ints = absurd (not_ints elements refl)
untouched (value.Ref reference) s not_ints = let so = nothing_copied s in record { fits = so.0; cells = so.1; free = so.2 }
