use Rattle.std.proofs.Common.{◌≡◌, ◌+◌, ◌-◌, ◌<◌, ◌≤◌, ◌^◌, ◌++◌, ◌∷◌, [], List, length, sym, ap, ◌∙◌, arith, refl, Option, Some, None, suc, ℕ, slice_get, slice_set, map}
use Rattle.std.specs.Prelude.{ℤ, pos, IsSome, option_map, replicate}
use Rattle.vm_heap.specs.Tagged.{Tagged, Int, Head, OfClass, OfInts, Length, int_of, class_of_head}
use Rattle.vm_heap.specs.Words.{Row}
use Rattle.vm_heap.specs.Heap.{Cell, Object, Ints, cell_at, field_at, length_at, element_at, spelled, with_field, with_element, all_cost, cost, default, class_of, new_cell}
use Rattle.vm_heap.proofs.Cells.{Stands, some, read_is, read_in, first_of, first_stands, first_is, class_first, field_stands, length_stands, element_stands, field_written, element_written, length-set, int_is, length-spelled, length-added, cost-object, cost-ints, object_added, ints_added}
use Rattle.vm_heap.proofs.heap.Heap.length.Goals as goal

pub overflow_add-address : goal.overflow_add-address
overflow_add-address c =
    let there = some (length_at c.args.address c.self.inside.cells.value) (rw (← c.self.view_is) at c.requires) in
    let stands : Stands c.self.inside.cells.value c.args.address 1 (Head (Length there.0)) = length_stands c.self.inside.cells.value c.args.address there.0 there.1 in
    let inside : c.args.address + 1 < length c.self.inside.words.values = read_in c.self.inside.words.values c.self.inside.cells.value c.args.address 1 (Head (Length there.0)) c.self.invariant.row stands in
    omega (arith, c.self.invariant.within, c.self.invariant.small)

pub get-requires : goal.get-requires
get-requires c =
    let there = some (length_at c.args.address c.self.inside.cells.value) (rw (← c.self.view_is) at c.requires) in
    let stands : Stands c.self.inside.cells.value c.args.address 1 (Head (Length there.0)) = length_stands c.self.inside.cells.value c.args.address there.0 there.1 in
    let inside : c.args.address + 1 < length c.self.inside.words.values = read_in c.self.inside.words.values c.self.inside.cells.value c.args.address 1 (Head (Length there.0)) c.self.invariant.row stands in
    omega arith

pub as_length-requires : goal.as_length-requires
as_length-requires c =
    let there = some (length_at c.args.address c.self.inside.cells.value) (rw (← c.self.view_is) at c.requires) in
    let stands : Stands c.self.inside.cells.value c.args.address 1 (Head (Length there.0)) = length_stands c.self.inside.cells.value c.args.address there.0 there.1 in
    let inside : c.args.address + 1 < length c.self.inside.words.values = read_in c.self.inside.words.values c.self.inside.cells.value c.args.address 1 (Head (Length there.0)) c.self.invariant.row stands in
    let where_is : c.args.address + 1 ≡ c.args.address + 1 = omega arith in
    let is : c.get.result ≡ Head (Length there.0) = read_is c.self.inside.words.values c.self.inside.cells.value c.args.address 1 (c.args.address + 1) (Head (Length there.0)) c.get.result c.self.invariant.row stands where_is c.get.ensures in
    rw is tt

pub returns-clause-value : goal.returns-clause-value
returns-clause-value c =
    let there = some (length_at c.args.address c.self.inside.cells.value) (rw (← c.self.view_is) at c.requires) in
    let stands : Stands c.self.inside.cells.value c.args.address 1 (Head (Length there.0)) = length_stands c.self.inside.cells.value c.args.address there.0 there.1 in
    let inside : c.args.address + 1 < length c.self.inside.words.values = read_in c.self.inside.words.values c.self.inside.cells.value c.args.address 1 (Head (Length there.0)) c.self.invariant.row stands in
    let where_is : c.args.address + 1 ≡ c.args.address + 1 = omega arith in
    let is : c.get.result ≡ Head (Length there.0) = read_is c.self.inside.words.values c.self.inside.cells.value c.args.address 1 (c.args.address + 1) (Head (Length there.0)) c.get.result c.self.invariant.row stands where_is c.get.ensures in
    let told : Head (Length there.0) ≡ Head (Length c.as_length-2.result) = sym is ∙ c.as_length-2.ensures.value in
    let same : there.0 ≡ c.as_length-2.result = cc in
    rw (← c.self.view_is) (there.1 ∙ ap Some same)
