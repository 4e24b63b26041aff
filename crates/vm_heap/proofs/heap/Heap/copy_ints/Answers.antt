use Rattle.std.proofs.Common.{◌≡◌, ◌+◌, ◌-◌, ◌<◌, ◌≤◌, ◌++◌, ◌∷◌, [], length, ap, ◌∙◌, arith, refl}
use Rattle.vm_heap.specs.Words.{Row}
use Rattle.vm_heap.specs.Heap.{Ints, spelled, all_cost, cost}
use Rattle.vm_heap.proofs.Cells.{length-spelled, length-added, cost-elements, copy_added}
use Rattle.vm_heap.proofs.heap.Heap.copy_ints.Goals as goal

pub returns-then-room-len-clause-full : goal.returns-then-room-len-clause-full
returns-then-room-len-clause-full c = λ _.
    let less : c.self.inside.words.room - length c.self.inside.words.values < cost (Ints c.args.elements.now) =
    omega (arith, c.if-room-len.true, c.room.ensures, c.len.ensures, cost-elements c.args.elements.now) in
    rw (← c.self.view_is) less

pub invariant_of-self : goal.invariant_of-self
invariant_of-self c =
    let row : c.add_ints.new.self.values ≡ spelled (c.self.inside.cells.value ++ Ints c.args.elements.now ∷ []) = rw (c.add_ints.ensures, c.push_reserved-2.ensures, c.length.ensures, c.push_reserved.ensures, c.of_ints.ensures) (copy_added c.self.inside.words.values c.self.inside.cells.value (length c.args.elements.now) c.args.elements.now refl c.self.invariant.row) in
    let room : c.add_ints.new.self.room ≡ c.self.inside.words.room = ap (λ (r : Row). r.room) c.add_ints.ensures ∙ ap (λ (r : Row). r.room) c.push_reserved-2.ensures ∙ ap (λ (r : Row). r.room) c.push_reserved.ensures in
    let old : length c.self.inside.words.values ≡ length (spelled c.self.inside.cells.value) = ap length c.self.invariant.row in
    let new : length c.add_ints.new.self.values ≡ length (spelled c.self.inside.cells.value) + cost (Ints c.args.elements.now) = ap length row ∙ length-added c.self.inside.cells.value (Ints c.args.elements.now) in
    let fits : cost (Ints c.args.elements.now) ≤ c.self.inside.words.room - length c.self.inside.words.values =
    omega (arith, c.if-room-len.false, c.room.ensures, c.len.ensures, cost-elements c.args.elements.now) in
    rw (c.of.ensures, c.copy.ensures) record {
      row = row;
      within = omega (arith, room, old, new, fits, c.self.invariant.within);
      small = omega (arith, room, c.self.invariant.small);
    }

pub returns-clause-made : goal.returns-clause-made
returns-clause-made c =
    let row : c.add_ints.new.self.values ≡ spelled (c.self.inside.cells.value ++ Ints c.args.elements.now ∷ []) = rw (c.add_ints.ensures, c.push_reserved-2.ensures, c.length.ensures, c.push_reserved.ensures, c.of_ints.ensures) (copy_added c.self.inside.words.values c.self.inside.cells.value (length c.args.elements.now) c.args.elements.now refl c.self.invariant.row) in
    let room : c.add_ints.new.self.room ≡ c.self.inside.words.room = ap (λ (r : Row). r.room) c.add_ints.ensures ∙ ap (λ (r : Row). r.room) c.push_reserved-2.ensures ∙ ap (λ (r : Row). r.room) c.push_reserved.ensures in
    let old : length c.self.inside.words.values ≡ length (spelled c.self.inside.cells.value) = ap length c.self.invariant.row in
    let new : length c.add_ints.new.self.values ≡ length (spelled c.self.inside.cells.value) + cost (Ints c.args.elements.now) = ap length row ∙ length-added c.self.inside.cells.value (Ints c.args.elements.now) in
    let fits : cost (Ints c.args.elements.now) ≤ c.self.inside.words.room - length c.self.inside.words.values =
    omega (arith, c.if-room-len.false, c.room.ensures, c.len.ensures, cost-elements c.args.elements.now) in
    let at_end : c.len-address.result ≡ all_cost c.self.inside.cells.value = omega (arith, c.len-address.ensures, old, length-spelled c.self.inside.cells.value) in
    let left : c.add_ints.new.self.room - length c.add_ints.new.self.values ≡ c.self.inside.words.room - length c.self.inside.words.values - cost (Ints c.args.elements.now) =
    omega (arith, room, old, new, fits) in
    rw (← c.self.view_is) (fits, rw (c.local.ensures, at_end) refl, rw (c.of.ensures, c.copy.ensures, left) refl)
