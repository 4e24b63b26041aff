use Rattle.std.proofs.Common.{sym, ◌∙◌}
use Rattle.ver_check.proofs.FrameIndices.{found_from, step_hit, step_miss, pass_ends}
use Rattle.ver_check.proofs.indices.find_frames.Goals.{then-is_at+in_ok-push, else-is_at+in_ok-push-2}
use Rattle.ver_check.proofs.indices.find_frames.Goals as goal

pub loop-offset-preserved : goal.loop-offset-preserved
loop-offset-preserved c =
    let declared = c.args.declared.now in
    let offsets = c.args.offsets.now in
    elim c.if-is_at.branch [
      | then-is_at+in_ok-push w ↦ rw (w.indices-is, w.next-is, w.in_ok-push.ensures.items) (step_hit c.loop-offset.indices.items declared c.loop-offset.next offsets c.loop-offset.offset-index (found_from declared 0 offsets) c.loop-offset-test.true (sym c.is_at.ensures.test ∙ w.if-is_at.true) c.loop-offset.invariant)
      | else-is_at+in_ok-push-2 w ↦ rw (w.indices-is, w.next-is, w.in_ok-push-2.ensures.items, w.len.ensures) (step_miss c.loop-offset.indices.items declared c.loop-offset.next offsets c.loop-offset.offset-index (found_from declared 0 offsets) c.loop-offset-test.true (sym c.is_at.ensures.test ∙ w.if-is_at.false) c.loop-offset.invariant)
    ]

pub returns : goal.returns
returns c =
    pass_ends c.loop-offset.indices.items c.args.declared.now c.loop-offset.next c.args.offsets.now c.loop-offset.offset-index c.loop-offset-test.false c.requires.declared c.requires.offsets c.requires.starts c.loop-offset.invariant
