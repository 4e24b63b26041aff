use Rattle.std.specs.Prelude.{string_bytes}
use Rattle.sp_words.specs.Folders.{Keeps}
use Rattle.sp_words.proofs.folder.list_folder.Given as goal

-- what was found stays below each folder that this one is below
abbrev pub invariant-loop-byte : goal.invariant-loop-byte
invariant-loop-byte g l = Keeps (string_bytes l.fn.folder) l.initial.found l.found
