use Rattle.std.proofs.Common.{◌≡◌, ◌≤◌, ◌-◌, length, take}
use Rattle.std.specs.Io.KnownBytes.{Keeps}
use Rattle.net_engine.specs.Engine.{known, IsWithinFirst}
use Rattle.net_engine.proofs.inbound.fill.Given as goal

-- what was read of the first frame is in the buffer, and the rest in the source
abbrev pub invariant-loop-look : goal.invariant-loop-look
invariant-loop-look g l =
    (length l.buffer ≡ 65540) × (l.filled ≤ 65540) × IsWithinFirst (take l.filled l.buffer)
    × Keeps (known g.S.Source.remaining (take l.initial.filled l.initial.buffer) l.initial.source) (known g.S.Source.remaining (take l.filled l.buffer) l.source)

abbrev pub decreases-loop-look : goal.decreases-loop-look
decreases-loop-look g l = 65540 - l.filled
