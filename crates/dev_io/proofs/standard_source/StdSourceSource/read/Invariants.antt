use Rattle.std.proofs.Common.{◌≡◌, false}
use Rattle.std.specs.Io.KnownBytes.{Keeps}
use Rattle.dev_io.proofs.standard_source.StdSourceSource.read.Given as goal

-- no call has failed, and the interrupted ones changed nothing
abbrev pub invariant-loop : goal.invariant-loop
invariant-loop g l =
    (l.self.failed ≡ false) × Keeps (g.R.Read.remaining l.initial.self.reader) (g.R.Read.remaining l.self.reader)
