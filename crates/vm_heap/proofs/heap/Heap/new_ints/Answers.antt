use Rattle.std.proofs.Common.{◌≡◌, ◌+◌, ◌-◌, ◌<◌, ◌≤◌, ◌^◌, ◌++◌, ◌∷◌, [], List, length, sym, ap, ◌∙◌, arith, refl, Option, Some, None, suc, ℕ, slice_get, slice_set, map}
use Rattle.std.specs.Prelude.{ℤ, pos, IsSome, option_map, replicate}
use Rattle.vm_heap.specs.Tagged.{Tagged, Int, Head, OfClass, OfInts, Length, int_of, class_of_head}
use Rattle.vm_heap.specs.Words.{Row}
use Rattle.vm_heap.specs.Heap.{Cell, Object, Ints, cell_at, field_at, length_at, element_at, spelled, with_field, with_element, all_cost, cost, default, class_of, new_cell}
use Rattle.vm_heap.proofs.Cells.{Stands, some, read_is, read_in, first_of, first_stands, first_is, class_first, field_stands, length_stands, element_stands, field_written, element_written, length-set, int_is, length-spelled, length-added, cost-object, cost-ints, object_added, ints_added}
use Rattle.vm_heap.proofs.heap.Heap.new_ints.Goals as goal

pub returns-then-room-len-clause-full : goal.returns-then-room-len-clause-full
returns-then-room-len-clause-full c = λ _.
    let less : c.self.inside.words.room - length c.self.inside.words.values < cost (Ints (replicate c.args.count (pos 0))) =
    omega (arith, c.if-room-len.true, c.room.ensures, c.len.ensures, cost-ints c.args.count) in
    rw (← c.self.view_is) less

pub local-requires : goal.local-requires
local-requires c = omega (arith, c.len-address.ensures, c.room.ensures, c.len.ensures, c.if-room-len.false, c.self.invariant.within, c.self.invariant.small)

pub invariant_of-self : goal.invariant_of-self
invariant_of-self c =
    let row : c.add_zeros.new.self.values ≡ spelled (c.self.inside.cells.value ++ Ints (replicate c.args.count (pos 0)) ∷ []) = rw (c.add_zeros.ensures, c.push_reserved-2.ensures, c.length.ensures, c.push_reserved.ensures, c.of_ints.ensures) (ints_added c.self.inside.words.values c.self.inside.cells.value c.args.count c.self.invariant.row) in
    let room : c.add_zeros.new.self.room ≡ c.self.inside.words.room = ap (λ (r : Row). r.room) c.add_zeros.ensures ∙ ap (λ (r : Row). r.room) c.push_reserved-2.ensures ∙ ap (λ (r : Row). r.room) c.push_reserved.ensures in
    let old : length c.self.inside.words.values ≡ length (spelled c.self.inside.cells.value) = ap length c.self.invariant.row in
    let new : length c.add_zeros.new.self.values ≡ length (spelled c.self.inside.cells.value) + cost (Ints (replicate c.args.count (pos 0))) = ap length row ∙ length-added c.self.inside.cells.value (Ints (replicate c.args.count (pos 0))) in
    let fits : cost (Ints (replicate c.args.count (pos 0))) ≤ c.self.inside.words.room - length c.self.inside.words.values =
    omega (arith, c.if-room-len.false, c.room.ensures, c.len.ensures, cost-ints c.args.count) in
    rw (c.of.ensures, c.copy.ensures) record {
      row = row;
      within = omega (arith, room, old, new, fits, c.self.invariant.within);
      small = omega (arith, room, c.self.invariant.small);
    }

pub returns-clause-made : goal.returns-clause-made
returns-clause-made c =
    let row : c.add_zeros.new.self.values ≡ spelled (c.self.inside.cells.value ++ Ints (replicate c.args.count (pos 0)) ∷ []) = rw (c.add_zeros.ensures, c.push_reserved-2.ensures, c.length.ensures, c.push_reserved.ensures, c.of_ints.ensures) (ints_added c.self.inside.words.values c.self.inside.cells.value c.args.count c.self.invariant.row) in
    let room : c.add_zeros.new.self.room ≡ c.self.inside.words.room = ap (λ (r : Row). r.room) c.add_zeros.ensures ∙ ap (λ (r : Row). r.room) c.push_reserved-2.ensures ∙ ap (λ (r : Row). r.room) c.push_reserved.ensures in
    let old : length c.self.inside.words.values ≡ length (spelled c.self.inside.cells.value) = ap length c.self.invariant.row in
    let new : length c.add_zeros.new.self.values ≡ length (spelled c.self.inside.cells.value) + cost (Ints (replicate c.args.count (pos 0))) = ap length row ∙ length-added c.self.inside.cells.value (Ints (replicate c.args.count (pos 0))) in
    let fits : cost (Ints (replicate c.args.count (pos 0))) ≤ c.self.inside.words.room - length c.self.inside.words.values =
    omega (arith, c.if-room-len.false, c.room.ensures, c.len.ensures, cost-ints c.args.count) in
    let at_end : c.len-address.result ≡ all_cost c.self.inside.cells.value = omega (arith, c.len-address.ensures, old, length-spelled c.self.inside.cells.value) in
    let left : c.add_zeros.new.self.room - length c.add_zeros.new.self.values ≡ c.self.inside.words.room - length c.self.inside.words.values - cost (Ints (replicate c.args.count (pos 0))) =
    omega (arith, room, old, new, fits) in
    rw (← c.self.view_is) (fits, rw (c.local.ensures, at_end) refl, rw (c.of.ensures, c.copy.ensures, left) refl)
