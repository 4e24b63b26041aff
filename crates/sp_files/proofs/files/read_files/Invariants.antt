use Rattle.std.specs.Prelude.{take}
use Rattle.sp_files.specs.Files.{AreSpelled}
use Rattle.sp_files.proofs.files.read_files.Given as goal

-- the files so far spell the class files so far
abbrev pub invariant-loop-index : goal.invariant-loop-index
invariant-loop-index l = AreSpelled (take l.index l.files) l.classes.items
