use Rattle.std.specs.Prelude.{◌≡◌, take}
use Rattle.sp_history.specs.Entries.{outputs_in_all}
use Rattle.sp_history.specs.Frames.{frames_on, unsent_with}
use Rattle.sp_history.proofs.frames.unsent_with.Given as goal

-- those in the batches so far are counted
abbrev pub invariant-loop-batch : goal.invariant-loop-batch
invariant-loop-batch l = l.frames ≡ unsent_with l.fn.unsent (frames_on l.conn (outputs_in_all (take l.batch-index l.batches)))
