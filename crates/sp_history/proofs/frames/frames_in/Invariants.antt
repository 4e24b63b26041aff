use Rattle.std.specs.Prelude.{◌≡◌, ◌≤◌, map, take}
use Rattle.sp_history.specs.Frames.{frames_on}
use Rattle.sp_outputs.specs.Notes.{output_of}
use Rattle.sp_history.proofs.frames.frames_in.Given as goal

-- those so far are counted
abbrev pub invariant-loop-output : goal.invariant-loop-output
invariant-loop-output l = (l.frames ≡ frames_on l.conn (map output_of (take l.output-index l.outputs))) × (l.frames ≤ l.output-index)
