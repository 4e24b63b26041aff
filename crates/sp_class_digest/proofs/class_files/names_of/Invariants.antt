use Rattle.std.specs.Prelude.{take}
use Rattle.std.specs.List.{AllZip}
use Rattle.sp_class_digest.specs.ClassDigests.{HasName}
use Rattle.sp_class_digest.proofs.class_files.names_of.Given as goal

-- the names so far are those of the files so far
abbrev pub invariant-loop-file : goal.invariant-loop-file
invariant-loop-file l = AllZip HasName (take l.file-index l.files) l.names.items
