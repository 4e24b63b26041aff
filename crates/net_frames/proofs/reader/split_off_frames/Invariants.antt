use Rattle.std.proofs.Common.{◌≤◌, ◌-◌, length}
use Rattle.net_frames.proofs.StreamLaws.{GoesOn}
use Rattle.net_frames.proofs.reader.split_off_frames.Given as goal

abbrev pub invariant-loop-frames : goal.invariant-loop-frames
invariant-loop-frames l = (l.taken ≤ length l.bytes) × GoesOn l.bytes l.frames.items l.taken

abbrev pub decreases-loop-frames : goal.decreases-loop-frames
decreases-loop-frames l = length l.bytes - l.taken
