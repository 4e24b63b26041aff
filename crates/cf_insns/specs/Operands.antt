-- 'Multibyte data items are always stored in big-endian order, where the high bytes come first' (JVMS 4, 2.11): the numbers after an opcode,
-- of one, two or four bytes. Signed ones are in two's complement.
use Rattle.std.specs.Prelude.{ℕ, ℤ, List, [], ◌∷◌, ◌++◌, Result, Ok, Err}
use Rattle.std.specs.Int.{w8, w16, w32, cast_signed}
use Rattle.byteorder.specs.Endian.{big_number}
use Rattle.cf_insns.specs.declared.fault.CodeRule.{CodeRule}
use Rattle.cf_insns.specs.declared.fault.CodeRule.TheVariants.{Cut}
use Rattle.cf_insns.specs.declared.insn.SwitchCase.{SwitchCase}

abbrev pub signed_byte : ℕ → ℤ
signed_byte a = cast_signed w8 a

abbrev pub short : ℕ → ℕ → ℕ
short a b = big_number 2 (a ∷ b ∷ [])

abbrev pub signed_short : ℕ → ℕ → ℤ
signed_short a b = cast_signed w16 (short a b)

abbrev pub signed_int : ℕ → ℕ → ℕ → ℕ → ℤ
signed_int a b c d = cast_signed w32 (big_number 4 (a ∷ b ∷ c ∷ d ∷ []))

-- the bytes are this signed number of four bytes
pub data IsInt : List ℕ → ℤ → Type 0 where
  int : (a b c d : ℕ) → IsInt (a ∷ b ∷ c ∷ d ∷ []) (signed_int a b c d)

-- the bytes are these numbers, one after the other
pub data AreInts : List ℕ → List ℤ → Type 0 where
  no_ints : AreInts [] []
  ints : {bytes rest : List ℕ} {n : ℤ} {ns : List ℤ} → IsInt bytes n → AreInts rest ns → AreInts (bytes ++ rest) (n ∷ ns)

-- the bytes are these cases of a switch, one after the other: the key, and then the branch
pub data AreCases : List ℕ → List SwitchCase → Type 0 where
  no_cases : AreCases [] []
  cases : {key branch rest : List ℕ} {k b : ℤ} {more : List SwitchCase} → IsInt key k → IsInt branch b → AreCases rest more
      → AreCases (key ++ (branch ++ rest)) (record { key = k; branch = b } ∷ more)

-- The operand at the front of the bytes, if they do not end inside it.

abbrev pub byte_of : List ℕ → Result ℕ CodeRule
byte_of [] = Err Cut
byte_of (a ∷ _) = Ok a

abbrev pub signed_byte_of : List ℕ → Result ℤ CodeRule
signed_byte_of [] = Err Cut
signed_byte_of (a ∷ _) = Ok (signed_byte a)

abbrev pub short_of : List ℕ → Result ℕ CodeRule
short_of (a ∷ b ∷ _) = Ok (short a b)
short_of _ = Err Cut

abbrev pub signed_short_of : List ℕ → Result ℤ CodeRule
signed_short_of (a ∷ b ∷ _) = Ok (signed_short a b)
signed_short_of _ = Err Cut

abbrev pub signed_int_of : List ℕ → Result ℤ CodeRule
signed_int_of (a ∷ b ∷ c ∷ d ∷ _) = Ok (signed_int a b c d)
signed_int_of _ = Err Cut
