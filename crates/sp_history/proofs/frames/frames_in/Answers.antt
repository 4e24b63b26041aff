use Rattle.std.proofs.Common.{sym, ◌∙◌}
use Rattle.sp_history.proofs.FrameLemmas.{counts_on, counts_past}
use Rattle.sp_history.proofs.frames.frames_in.Goals as goal
use Rattle.sp_history.proofs.frames.frames_in.Goals.{then-is_frame_on, else-is_frame_on}

pub loop-output-preserved : goal.loop-output-preserved
loop-output-preserved c = elim c.if-is_frame_on.branch [
  | then-is_frame_on w ↦
      counts_on c.args.conn c.args.outputs.now c.loop-output.output-index c.output-item.result c.loop-output.frames c.if-is_frame_on.frames c.loop-output-test.true c.output-item.is (sym c.is_frame_on.ensures ∙ w.if-is_frame_on.true) w.frames-is c.loop-output.invariant
  | else-is_frame_on w ↦
      counts_past c.args.conn c.args.outputs.now c.loop-output.output-index c.output-item.result c.loop-output.frames c.if-is_frame_on.frames c.loop-output-test.true c.output-item.is (sym c.is_frame_on.ensures ∙ w.if-is_frame_on.false) w.frames-is c.loop-output.invariant
]
