use Rattle.std.proofs.Common.{◌≤◌, ◌-◌, length, take}
use Rattle.std.specs.Io.KnownBytes.{Appends}
use Rattle.sp_texts.proofs.report.write_whole.Given as goal

-- the writer has taken the bytes so far
abbrev pub invariant-loop-taken : goal.invariant-loop-taken
invariant-loop-taken g l =
    (l.taken ≤ length l.text) × Appends (g.W.Write.contents l.initial.to) (g.W.Write.contents l.to) (take l.taken l.text)

abbrev pub decreases-loop-taken : goal.decreases-loop-taken
decreases-loop-taken g l = length l.text - l.taken
