-- The instructions of a method, each after the one before it (JVMS 4.9.1).
use Rattle.std.specs.Prelude.{◌≡◌, length}
use Rattle.std.specs.List.Sorted.{IsStrictlyIncreasing}
use Rattle.cls_link.specs.declared.linked_code.LinkedCode.{LinkedCode}

-- ---- offsets

-- the instructions stand at rising offsets
pub record IsListed (code : LinkedCode) : Type 0 where
  pub rising : IsStrictlyIncreasing code.offsets
  pub listed : length code.offsets ≡ length code.insns
