use Rattle.std.proofs.Common.{◌≡◌, drop}
use Rattle.cf_descriptors.specs.Descriptors.{ArePackedTypes}
use Rattle.cf_reader.specs.Builds.{method_from, each}
use Rattle.cf_reader.proofs.Each.{before}
use Rattle.cf_reader.proofs.build.methods_with.Given as goal

-- those so far and those that follow are all of them, and the descriptors that are kept are those of the pool
abbrev pub invariant-loop-item : goal.invariant-loop-item
invariant-loop-item l = (before l.methods.items (each (method_from l.bytes l.pool) (drop l.item-index l.items)) ≡ each (method_from l.bytes l.pool) l.items) × ArePackedTypes l.pool l.packed
