-- Arguments that are passed one after another.
use Rattle.std.proofs.Common.{◌≡◌, ℕ, zero, suc, ◌+◌, ◌-◌, ◌<◌, ◌≤◌, Bool, true, false, List, [], ◌∷◌, ◌++◌, length, get_or, take, drop, refl, ap, sym, subst, ◌∙◌, arith, add-one, append_assoc}
use Rattle.std.proofs.Math.ListN.{set}
use Rattle.std.specs.Prelude.{◌&&◌}
use Rattle.space_ids.specs.declared.value.Value.{Value}
use Rattle.vm_heap.specs.Heap.{Cell, Store, all_cost}
use Rattle.vm_heap.specs.References.{Table}
use Rattle.vm_heap.specs.Tagged.{Tagged}
use Rattle.vm_step.specs.Start.{copies, copy_of, has_room_for, have_room, passed_at, passed_from}
use Rattle.vm_step.proofs.Copying.{all_cost-append, dropped, nil_right}

-- the copies of the arguments so far, and the next one
copied_suc : (arguments : List Value) (index : ℕ) (v d : Value) → v ≡ get_or arguments index d → index < length arguments
    → all_cost (copies (take (suc index) arguments)) ≡ all_cost (copies (take index arguments)) + all_cost (copy_of v)
unfolding copies all_cost
copied_suc [] index v d is within = absurd (omega (arith, within))
copied_suc (a ∷ arguments) zero v d is within =
    let whole = all_cost-append (copy_of a) [] in
    rw is (omega (arith, whole))
copied_suc (a ∷ arguments) (suc index) v d is within =
    let next = copied_suc arguments index v d is (omega (arith, within)) in
    let one = all_cost-append (copy_of a) (copies (take (suc index) arguments)) in
    let other = all_cost-append (copy_of a) (copies (take index arguments)) in
    omega (arith, next, one, other)

pub copied_one : (arguments : List Value) (index : ℕ) (v d : Value) → v ≡ get_or arguments index d → index < length arguments
    → all_cost (copies (take (index + 1) arguments)) ≡ all_cost (copies (take index arguments)) + all_cost (copy_of v)
copied_one arguments index v d is within = rw (add-one index) (copied_suc arguments index v d is within)

-- are no more than all copies
pub copied_within : (arguments : List Value) (index : ℕ) → all_cost (copies (take index arguments)) ≤ all_cost (copies arguments)
unfolding copies all_cost
copied_within [] zero = omega arith
copied_within [] (suc index) = omega arith
copied_within (a ∷ arguments) zero = omega arith
copied_within (a ∷ arguments) (suc index) =
    let rest = copied_within arguments index in
    let one = all_cost-append (copy_of a) (copies (take index arguments)) in
    let other = all_cost-append (copy_of a) (copies arguments) in
    omega (arith, rest, one, other)

-- the variable after those that hold the arguments so far gets the next one
passed_suc : (table : Table) (address : ℕ) (arguments : List Value) (locals : List Tagged) (index : ℕ) (v d : Value) → v ≡ get_or arguments index d → index < length arguments → index < length locals
    → set (passed_from address table (take index arguments) ++ drop index locals) index (passed_at (address + all_cost (copies (take index arguments))) table v)
    ≡ passed_from address table (take (suc index) arguments) ++ drop (suc index) locals
unfolding copies passed_from all_cost
passed_suc table address [] locals index v d is within room = absurd (omega (arith, within))
passed_suc table address (a ∷ arguments) [] index v d is within room = absurd (omega (arith, room))
passed_suc table address (a ∷ arguments) (x ∷ locals) zero v d is within room = let same : address + 0 ≡ address = omega arith in rw (is, same) refl
passed_suc table address (a ∷ arguments) (x ∷ locals) (suc index) v d is within room =
    let so : address + all_cost (copy_of a ++ copies (take index arguments)) ≡ address + all_cost (copy_of a) + all_cost (copies (take index arguments)) =
    omega (arith, all_cost-append (copy_of a) (copies (take index arguments))) in
    rw so
    (ap (λ (rest : List Tagged). passed_at address table a ∷ rest) (passed_suc table (address + all_cost (copy_of a)) arguments locals index v d is (omega (arith, within)) (omega (arith, room))))

pub passed_one : (table : Table) (arguments : List Value) (locals : List Tagged) (index address : ℕ) (v d : Value) (value : Tagged) → address ≡ all_cost (copies (take index arguments))
    → value ≡ passed_at address table v → v ≡ get_or arguments index d → index < length arguments → index < length locals
    → set (passed_from 0 table (take index arguments) ++ drop index locals) index value ≡ passed_from 0 table (take (index + 1) arguments) ++ drop (index + 1) locals
passed_one table arguments locals index address v d value at was is within room =
    let from : 0 + all_cost (copies (take index arguments)) ≡ address = omega (arith, at) in
    let so = passed_suc table 0 arguments locals index v d is within room in
    rw (add-one index, was) (subst (λ a. set (passed_from 0 table (take index arguments) ++ drop index locals) index (passed_at a table v) ≡ passed_from 0 table (take (suc index) arguments) ++ drop (suc index) locals) from so)

-- what is left of the arguments, from an index on
pub room_at : (arguments : List Value) (index words : ℕ) (v d : Value) → v ≡ get_or arguments index d → index < length arguments
    → have_room (drop index arguments) words ≡ (has_room_for v words && have_room (drop (index + 1) arguments) (words - all_cost (copy_of v)))
unfolding have_room
room_at arguments index words v d is within = rw (add-one index) (at arguments index within is)
  where
    at : (arguments : List Value) (index : ℕ) → index < length arguments → v ≡ get_or arguments index d
        → have_room (drop index arguments) words ≡ (has_room_for v words && have_room (drop (suc index) arguments) (words - all_cost (copy_of v)))
    at [] index within is = absurd (omega (arith, within))
    at (a ∷ arguments) zero within is = rw is refl
    at (a ∷ arguments) (suc index) within is = at arguments index (omega (arith, within)) is

pub copies_at : (arguments : List Value) (index : ℕ) (v d : Value) → v ≡ get_or arguments index d → index < length arguments
    → copies (drop index arguments) ≡ copy_of v ++ copies (drop (index + 1) arguments)
unfolding copies
copies_at arguments index v d is within = rw (add-one index) (at arguments index within is)
  where
    at : (arguments : List Value) (index : ℕ) → index < length arguments → v ≡ get_or arguments index d
        → copies (drop index arguments) ≡ copy_of v ++ copies (drop (suc index) arguments)
    at [] index within is = absurd (omega (arith, within))
    at (a ∷ arguments) zero within is = rw is refl
    at (a ∷ arguments) (suc index) within is = at arguments index (omega (arith, within)) is

first_no : (b c : Bool) → false ≡ b → false ≡ (b && c)
first_no true c fails = absurd (cc)
first_no false c fails = refl

first_yes : (b c : Bool) → true ≡ b → c ≡ (b && c)
first_yes true c holds = refl
first_yes false c holds = absurd (cc)

module _ (arguments : List Value) (before : Store) where
  -- what is left to copy, from an index on
  pub record Copied (index : ℕ) (s : Store) : Type 0 where
    pub room : have_room (drop index arguments) s.free ≡ have_room arguments before.free
    pub cells : s.cells ++ copies (drop index arguments) ≡ before.cells ++ copies arguments
    pub free : s.free + all_cost (copies arguments) ≡ before.free + all_cost (copies (drop index arguments))

  pub copied_no : (index : ℕ) (s : Store) (v d : Value) → v ≡ get_or arguments index d → index < length arguments → false ≡ has_room_for v s.free → Copied index s
      → false ≡ have_room arguments before.free
  copied_no index s v d is within fails so =
      first_no (has_room_for v s.free) (have_room (drop (index + 1) arguments) (s.free - all_cost (copy_of v))) fails ∙ (sym (room_at arguments index s.free v d is within) ∙ so.room)

  pub copied_more : (index : ℕ) (s after : Store) (v d : Value) → v ≡ get_or arguments index d → index < length arguments → true ≡ has_room_for v s.free
      → after.cells ≡ s.cells ++ copy_of v → after.free + all_cost (copy_of v) ≡ s.free → Copied index s → Copied (index + 1) after
  copied_more index s after v d is within holds cells free so =
      let rest = copies_at arguments index v d is within in
      let left : s.free - all_cost (copy_of v) ≡ after.free = omega (arith, free) in
      let sizes : all_cost (copies (drop index arguments)) ≡ all_cost (copy_of v) + all_cost (copies (drop (index + 1) arguments)) =
      ap all_cost rest ∙ all_cost-append (copy_of v) (copies (drop (index + 1) arguments)) in
      record {
        room = ap (have_room (drop (index + 1) arguments)) (sym left)
            ∙ (first_yes (has_room_for v s.free) (have_room (drop (index + 1) arguments) (s.free - all_cost (copy_of v))) holds ∙ (sym (room_at arguments index s.free v d is within) ∙ so.room));
        cells = ap (λ (cs : List Cell). cs ++ copies (drop (index + 1) arguments)) cells
            ∙ (append_assoc s.cells (copy_of v) (copies (drop (index + 1) arguments)) ∙ (ap (λ (cs : List Cell). s.cells ++ cs) (sym rest) ∙ so.cells));
        free = omega (arith, so.free, free, sizes);
      }

  none_left : (index : ℕ) → length arguments ≤ index → copies (drop index arguments) ≡ []
  unfolding copies
  none_left index end = ap copies (dropped arguments index end)

  pub copied_room : (index : ℕ) (s : Store) → length arguments ≤ index → Copied index s → true ≡ have_room arguments before.free
  unfolding have_room
  copied_room index s end so = sym (ap (λ (vs : List Value). have_room vs s.free) (dropped arguments index end)) ∙ so.room

  pub copied_cells : (index : ℕ) (s : Store) → length arguments ≤ index → Copied index s → s.cells ≡ before.cells ++ copies arguments
  copied_cells index s end so = nil_right s.cells ∙ (ap (λ (cs : List Cell). s.cells ++ cs) (sym (none_left index end)) ∙ so.cells)

  pub copied_free_all : (index : ℕ) (s : Store) → length arguments ≤ index → Copied index s → s.free + all_cost (copies arguments) ≡ before.free
  unfolding all_cost
  copied_free_all index s end so = let none : all_cost (copies (drop index arguments)) ≡ 0 = ap all_cost (none_left index end) in omega (arith, so.free, none)

-- as many local variables as before
pub length-passed : (table : Table) (address : ℕ) (arguments : List Value) (locals : List Tagged) (index : ℕ) → index ≤ length arguments → length arguments ≤ length locals
    → length (passed_from address table (take index arguments) ++ drop index locals) ≡ length locals
unfolding passed_from
length-passed table address arguments locals zero within room = refl
length-passed table address [] locals (suc index) within room = absurd (omega (arith, within))
length-passed table address (a ∷ arguments) [] (suc index) within room = absurd (omega (arith, room))
length-passed table address (a ∷ arguments) (x ∷ locals) (suc index) within room =
    ap (λ (n : ℕ). suc n) (length-passed table (address + all_cost (copy_of a)) arguments locals index (omega (arith, within)) (omega (arith, room)))
