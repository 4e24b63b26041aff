use Rattle.std.proofs.Common.{◌≤◌, ◌-◌, length, take}
use Rattle.std.specs.Io.KnownBytes.{Appends}
use Rattle.dev_io.proofs.writing.write_all.Given as goal

-- the sink has taken the bytes so far
abbrev pub invariant-loop-taken : goal.invariant-loop-taken
invariant-loop-taken g l =
    (l.taken ≤ length l.bytes) × Appends (g.K.Sink.contents l.initial.sink) (g.K.Sink.contents l.sink) (take l.taken l.bytes)

abbrev pub decreases-loop-taken : goal.decreases-loop-taken
decreases-loop-taken g l = length l.bytes - l.taken
