use Rattle.std.proofs.Common.{◌≡◌, ◌++◌, drop}
use Rattle.ver_check.proofs.FrameIndices.{found_from}
use Rattle.ver_check.proofs.indices.find_frames.Given as goal

abbrev pub invariant-loop-offset : goal.invariant-loop-offset
invariant-loop-offset l =
    l.indices.items ++ found_from l.declared l.next (drop l.offset-index l.offsets) ≡ found_from l.declared 0 l.offsets
