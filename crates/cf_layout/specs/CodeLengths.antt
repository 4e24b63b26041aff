-- How long the code of a Code attribute is (JVMS 4.7.3).
use Rattle.std.specs.Prelude.{◌≡◌, ◌≤◌, ◌+◌, ◌-◌}
use Rattle.cf_layout.specs.declared.items.CodeHead.{CodeHead}
use Rattle.cf_layout.specs.declared.items.CodeLayout.{CodeLayout}

-- the code begins after this head, and its length is the one in the head
pub record EndsAfter (front : CodeHead) (code : CodeLayout) : Type 0 where
  pub head : code.head ≡ front
  pub end : code.code_end ≡ front.code + front.length

-- the code has 65,535 bytes at most
abbrev pub IsShort : CodeLayout → Type 0
IsShort code = code.code_end - code.head.code ≤ 65535
