use Rattle.std.proofs.Common.{◌+◌, ◌≤◌, length, arith}
use Rattle.std.specs.Prelude.{vec_capacity}
use Rattle.vm_heap.proofs.words.Words.add_zeros.Goals as goal

pub add_zero_bits-requires : goal.add_zero_bits-requires
add_zero_bits-requires c =
    let h : length c.self.inside.tags.value + c.args.count ≤ vec_capacity c.self.inside.bits = rw (← c.self.view_is) at c.requires in
    omega (arith, h, c.self.invariant.len)

pub invariant_of-self : goal.invariant_of-self
invariant_of-self c = rw (c.of.ensures, c.copy.ensures) (c.add_zero_bits.ensures.words c.self.inside.tags.value c.self.invariant)
