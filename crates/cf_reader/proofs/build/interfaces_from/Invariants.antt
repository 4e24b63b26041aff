use Rattle.std.proofs.Common.{◌≡◌, drop}
use Rattle.cf_reader.specs.Builds.{class_name_of, each}
use Rattle.cf_reader.proofs.Each.{before}
use Rattle.cf_reader.proofs.build.interfaces_from.Given as goal

-- those so far and those that follow are all of them
abbrev pub invariant-loop-item : goal.invariant-loop-item
invariant-loop-item l = before l.names.items (each (class_name_of l.pool) (drop l.item-index l.items)) ≡ each (class_name_of l.pool) l.items
