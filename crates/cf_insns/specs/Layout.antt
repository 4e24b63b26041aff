-- 'Instruction format' (JVMS 6.4, 6.5): of how many bytes an instruction is made, whatever their values say beyond that.
use Rattle.std.specs.Prelude.{◌≡◌, ◌≤◌, ◌+◌, ◌-◌, ◌*◌, ◌%◌, ◌||◌, ◌&&◌, nat_le, ◌==◌, if◌then◌else◌, ℕ, Bool, ℤ, pos, negsuc, ◌-ℤ◌, List, ◌∷◌, ◌++◌, length, Option, Some, None}
use Rattle.cf_insns.specs.declared.opcode.TheConstants as op
use Rattle.cf_insns.specs.Operands.{IsInt}

-- whether a number is one from low to high
abbrev pub within : ℕ → ℕ → ℕ → Bool
within low high n = nat_le low n && nat_le n high

-- the opcode alone is the instruction
abbrev pub stands_alone : ℕ → Bool
stands_alone n =
    nat_le n op.ICONST_5 || (within op.ILOAD_0 op.ILOAD_3 n || (within op.ALOAD_0 op.IALOAD n || (within op.ISTORE_0 op.ISTORE_3 n || (within op.ASTORE_0 op.IASTORE n || (within op.POP op.SWAP n
    || (n == op.IADD || (n == op.ISUB || (n == op.IMUL || (n == op.IDIV || (n == op.IREM || (n == op.INEG || (n == op.ISHL || (n == op.ISHR || (n == op.IUSHR || (n == op.IAND || (n == op.IOR || (n == op.IXOR
    || (within op.I2B op.I2S n || (n == op.IRETURN || (within op.ARETURN op.RETURN n || within op.ARRAYLENGTH op.ATHROW n))))))))))))))))))))

-- one byte of operands stands after it
abbrev pub has_one : ℕ → Bool
has_one n = n == op.BIPUSH || (n == op.LDC || (n == op.ILOAD || (n == op.ALOAD || (n == op.ISTORE || (n == op.ASTORE || n == op.NEWARRAY)))))

-- two bytes stand after it
abbrev pub has_two : ℕ → Bool
has_two n =
    n == op.SIPUSH || (n == op.LDC_W || (n == op.IINC || (within op.IFEQ op.GOTO n || (n == op.GETSTATIC || (within op.GETFIELD op.INVOKESTATIC n || (n == op.NEW || (within op.CHECKCAST op.INSTANCEOF n || within op.IFNULL op.IFNONNULL n)))))))

-- four bytes stand after it
abbrev pub has_four : ℕ → Bool
has_four n = n == op.INVOKEINTERFACE || n == op.GOTO_W

-- how many bytes of operands stand after an opcode of the profile, if it always has the same number
abbrev pub operand_count : ℕ → Option ℕ
operand_count n =
    if stands_alone n then Some 0
    else (if has_one n then Some 1
    else (if has_two n then Some 2
    else (if has_four n then Some 4
    else None)))

-- how many stand after an opcode that wide widens
abbrev pub widened_count : ℕ → Option ℕ
widened_count n =
    if n == op.ILOAD || (n == op.ALOAD || (n == op.ISTORE || n == op.ASTORE)) then Some 2
    else (if n == op.IINC then Some 4 else None)

-- 'Immediately after the opcode, between zero and three bytes must act as padding, such that the next operand begins at an address
-- that is a multiple of four bytes from the start of the current method' (JVMS 6.5.tableswitch, 6.5.lookupswitch)
pub record IsPadding (offset : ℕ) (padding : List ℕ) : Type 0 where
  pub few : length padding ≤ 3
  pub aligned : (offset + 1 + length padding) % 4 ≡ 0

-- how many bytes of padding stand after an opcode at an offset
abbrev pub padding_length : ℕ → ℕ
padding_length offset = 3 - offset % 4

-- how many ints there are from a lowest one to one at this distance above it: none if the distance is negative
abbrev pub counted : ℤ → ℕ
counted (pos n) = n + 1
counted (negsuc n) = 0

-- the number that a count says, 0 if it is negative
abbrev pub count_of : ℤ → ℕ
count_of (pos n) = n
count_of (negsuc n) = 0

-- the bytes have the length of an instruction at this offset of the code
pub data IsLaidOut : ℕ → List ℕ → Type 0 where
  fixed : {offset opcode : ℕ} (operands : List ℕ) → operand_count opcode ≡ Some (length operands) → IsLaidOut offset (opcode ∷ operands)
  widened : {offset opcode : ℕ} (operands : List ℕ) → widened_count opcode ≡ Some (length operands) → IsLaidOut offset (op.WIDE ∷ opcode ∷ operands)
  table : {offset : ℕ} {padding low high : List ℕ} {l h : ℤ} (default rows : List ℕ) → IsPadding offset padding → length default ≡ 4 → IsInt low l → IsInt high h
      → length rows ≡ 4 * counted (h -ℤ l) → IsLaidOut offset (op.TABLESWITCH ∷ padding ++ (default ++ (low ++ (high ++ rows))))
  lookup : {offset : ℕ} {padding npairs : List ℕ} {n : ℤ} (default rows : List ℕ) → IsPadding offset padding → length default ≡ 4 → IsInt npairs n
      → length rows ≡ 8 * count_of n → IsLaidOut offset (op.LOOKUPSWITCH ∷ padding ++ (default ++ (npairs ++ rows)))
