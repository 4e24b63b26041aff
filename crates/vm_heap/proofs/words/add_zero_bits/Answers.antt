use Rattle.std.proofs.Common.{arith}
use Rattle.vm_heap.proofs.Images.{zero_added}
use Rattle.vm_heap.proofs.words.add_zero_bits.Goals as goal

pub loop-preserved : goal.loop-preserved
loop-preserved c =
    let inv = c.loop.invariant in
    let push = c.push_reserved.ensures in
    record {
      words = λ values are. rw push.items (zero_added values c.loop.counter c.loop.row.items (inv.words values are));
      len = omega (arith, push.len, inv.len);
      room = omega (arith, push.capacity, inv.room);
    }
