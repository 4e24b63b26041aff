use Rattle.std.proofs.Common.{◌+◌, ◌-◌, ◌^◌, map, min, ap, ◌∙◌}
use Rattle.sp_outputs.specs.Notes.{output_of}
use Rattle.sp_history.specs.Frames.{frames_on}
use Rattle.sp_history.proofs.FrameLemmas.{counts_batch}
use Rattle.sp_history.proofs.frames.unsent_with.Goals as goal

pub loop-batch-preserved : goal.loop-batch-preserved
loop-batch-preserved c =
    let here = c.frames_in.ensures ∙ ap (λ l. frames_on c.args.conn (map output_of l)) c.as_slice.ensures.value in
    counts_batch c.args.conn c.args.unsent c.loop-batch.frames c.saturating_add-frames.result c.args.batches.now c.loop-batch.batch-index c.batch-item.result c.loop-batch-test.true c.batch-item.is c.loop-batch.invariant
    (c.saturating_add-frames.ensures ∙ ap (λ k. min (c.loop-batch.frames + k) (2 ^ 64 - 1)) here)
