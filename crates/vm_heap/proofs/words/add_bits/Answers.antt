use Rattle.std.proofs.Common.{rules, ◌≡◌, ℤ, pos, get_or, arith}
use Rattle.std.specs.Int.{w32, cast_signed}
use Rattle.vm_heap.proofs.Images.{int_added}
use Rattle.vm_heap.proofs.words.add_bits.Goals as goal

pub loop-int-preserved : goal.loop-int-preserved
loop-int-preserved c =
    let n : ℤ = get_or c.args.ints.now c.loop-int.int-index (pos 0) in
    let is : n ≡ cast_signed w32 c.cast_unsigned.result = search rules in
    let inv = c.loop-int.invariant in
    let push = c.push_reserved.ensures in
    record {
      words = λ values are. rw push.items (int_added values c.args.ints.now c.loop-int.int-index (pos 0) c.loop-int.row.items c.cast_unsigned.result c.loop-int-test.true is (inv.words values are));
      len = omega (arith, push.len, inv.len);
      room = omega (arith, push.capacity, inv.room);
    }
