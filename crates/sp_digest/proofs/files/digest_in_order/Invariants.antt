use Rattle.std.proofs.Common.{take}
use Rattle.sha2.specs.Hashers.{Holds256}
use Rattle.sp_digest.specs.Digests.{spelled}
use Rattle.sp_digest.proofs.files.digest_in_order.Given as goal

-- the files so far are fed
abbrev pub invariant-loop-file : goal.invariant-loop-file
invariant-loop-file l = Holds256 l.hasher (spelled (take l.file-index l.files))
