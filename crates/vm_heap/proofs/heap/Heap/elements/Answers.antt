use Rattle.std.proofs.Common.{◌≡◌, ◌+◌, ◌∙◌, List, length, map, take, drop, ap, sym, arith, Some}
use Rattle.std.specs.Prelude.{ℤ}
use Rattle.std.proofs.lemmas.Result.{IfOk-weaker}
use Rattle.vm_heap.specs.Tagged.{Tagged, Int}
use Rattle.vm_heap.specs.Heap.{Ints, spelled}
use Rattle.vm_heap.proofs.Cells.{Array, array_lies}
use Rattle.vm_heap.proofs.heap.Heap.elements.Goals as goal

pub overflow_add-address : goal.overflow_add-address
overflow_add-address c =
    let array : Array c.self.inside.cells.value c.args.address c.length-count.result = array_lies c.self.inside.cells.value c.args.address c.length-count.result (rw (← c.self.view_is) at c.length-count.ensures.value) in
    let long : length c.self.inside.words.values ≡ length (spelled c.self.inside.cells.value) = ap length c.self.invariant.row in
    omega (arith, array.inside, long, c.self.invariant.within, c.self.invariant.small)

pub ints-requires : goal.ints-requires
ints-requires c =
    let array : Array c.self.inside.cells.value c.args.address c.length-count.result = array_lies c.self.inside.cells.value c.args.address c.length-count.result (rw (← c.self.view_is) at c.length-count.ensures.value) in
    let long : length c.self.inside.words.values ≡ length (spelled c.self.inside.cells.value) = ap length c.self.invariant.row in
    omega (arith, array.inside, long)

pub returns : goal.returns
returns c =
    let array : Array c.self.inside.cells.value c.args.address c.length-count.result = array_lies c.self.inside.cells.value c.args.address c.length-count.result (rw (← c.self.view_is) at c.length-count.ensures.value) in
    let read : take c.length-count.result (drop (c.args.address + 2) c.self.inside.words.values) ≡ map Int array.elements =
    ap (λ (values : List Tagged). take c.length-count.result (drop (c.args.address + 2) values)) c.self.invariant.row ∙ array.read in
    rw (← c.self.view_is)
    (IfOk-weaker c.ints.result _ _ (λ elements is. array.is ∙ ap (λ (ints : List ℤ). Some (Ints ints)) (sym (is array.elements read))) c.ints.ensures)
