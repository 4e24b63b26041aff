use Rattle.sp_words.specs.Folders.{AreBelow}
use Rattle.sp_words.proofs.folder.DiskFolder.paths.Given as goal

-- what was found is below the folder
abbrev pub invariant-loop : goal.invariant-loop
invariant-loop g l = AreBelow l.folder l.found
