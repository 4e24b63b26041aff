use Rattle.std.proofs.Common.{◌≡◌, ◌++◌}
use Rattle.std.specs.Prelude.{All}
use Rattle.std.specs.Vec.Iter.{into_iter_items}
use Rattle.cf_reader.specs.WellFormed.{IsWellFormed}
use Rattle.cls_set.proofs.arranging.class_files.Given as goal

-- the files so far are well formed, and with what is left they are all
abbrev pub invariant-loop-class : goal.invariant-loop-class
invariant-loop-class l = (l.files.items ++ into_iter_items l.class-iterator ≡ l.fn.read.items) × All IsWellFormed l.files.items
