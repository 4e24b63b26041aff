-- Type frames: the types of a method's local variables and operands at an instruction (JVMS 4.10.1.4).
use Rattle.std.specs.Prelude.{ℕ, ◌-◌, Bool, List, ◌++◌, length, replicate, take}
use Rattle.ver_frames.specs.declared.vtype.VType.{VType}
use Rattle.ver_frames.specs.declared.vtype.VType.TheVariants.{Top}

-- the types of local variables by number and of operands, the one on top first, and whether this is
-- an <init> that has called no other <init> yet (JVMS 4.10.1.4)
pub record Frame : Type 0 where
  pub locals : List VType
  pub stack : List VType
  pub flag_this_uninit : Bool

-- the types, and top up to n of them
abbrev pub filled : ℕ → List VType → List VType
filled n types = types ++ replicate (n - length types) Top

-- the first n types, top after the last
abbrev pub first_types : ℕ → List VType → List VType
first_types n types = take n (filled n types)
