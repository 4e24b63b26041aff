use Rattle.std.specs.Prelude.{All, take}
use Rattle.std.specs.List.{AllZip}
use Rattle.sp_digest.specs.Digests.{IsShort}
use Rattle.sp_class_digest.specs.ClassDigests.{IsNamed}
use Rattle.sp_class_digest.proofs.class_files.named_files.Given as goal

-- the files so far are short, and each has the name of its class
abbrev pub invariant-loop-index : goal.invariant-loop-index
invariant-loop-index l = All IsShort l.named.items × AllZip IsNamed (take l.index l.files) l.named.items
