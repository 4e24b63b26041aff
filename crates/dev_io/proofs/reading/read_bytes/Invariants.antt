use Rattle.std.proofs.Common.{◌-◌, ◌<◌, vec_len}
use Rattle.std.specs.Io.KnownBytes.{Consumes}
use Rattle.dev_io.proofs.reading.read_bytes.Given as goal

-- the source gave these bytes, and fewer than are asked in all
abbrev pub invariant-pieces : goal.invariant-pieces
invariant-pieces g l = record {
  passed : Consumes (g.S.Source.remaining l.initial.source) (g.S.Source.remaining l.source) l.bytes.items;
  within : vec_len l.bytes < l.most;
}

abbrev pub decreases-pieces : goal.decreases-pieces
decreases-pieces g l = l.most - vec_len l.bytes
