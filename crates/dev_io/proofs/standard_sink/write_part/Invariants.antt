use Rattle.std.specs.Io.KnownBytes.{Keeps}
use Rattle.dev_io.proofs.standard_sink.write_part.Given as goal

-- the interrupted calls changed nothing
abbrev pub invariant-loop : goal.invariant-loop
invariant-loop g l = Keeps (g.W.Write.contents l.initial.writer) (g.W.Write.contents l.writer)
