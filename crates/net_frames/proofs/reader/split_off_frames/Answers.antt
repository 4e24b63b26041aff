use Rattle.std.proofs.Common.{arith}
use Rattle.net_frames.proofs.StreamLaws.{wire_len, one_frame_more, is_split}
use Rattle.net_frames.proofs.reader.split_off_frames.Goals as goal

pub loop-frames-smaller : goal.loop-frames-smaller
loop-frames-smaller c =
    let next = rw c.in-Frame.is at c.in_ok-next.ensures in
    omega (arith, next.0, wire_len c.split_at.result.1.now c.in-Frame.length c.in-Frame.frame next.1, c.split_at.ensures.back_len, c.loop-frames.invariant.0)

pub loop-frames-preserved : goal.loop-frames-preserved
loop-frames-preserved c =
    let next = rw c.in-Frame.is at c.in_ok-next.ensures in (
      omega (arith, next.0, c.split_at.ensures.back_len),
      rw c.in_ok-push-in-Frame.ensures.items
          (one_frame_more c.args.bytes.now c.split_at.result.1.now c.loop-frames.frames.items c.loop-frames.taken c.in-Frame.length c.in-Frame.frame c.split_at.ensures.back next.1 c.loop-frames.invariant.1),
    )

pub returns-in-End : goal.returns-in-End
returns-in-End c =
    let next = rw c.in-End.is at c.in_ok-next.ensures in
    is_split c.args.bytes.now c.split_at.result.1.now c.loop-frames.frames.items c.loop-frames.taken c.in-End.fault c.split_at.ensures.back next c.loop-frames.invariant.0 c.loop-frames.invariant.1
