-- What is spelled is read again, whatever follows it.
use Rattle.std.proofs.Common.{◌≡◌, ℕ, zero, suc, ◌+◌, ◌≤◌, pos, ◌-ℤ◌, List, [], ◌∷◌, ◌++◌, length, Ok, refl, arith}
use Rattle.cf_insns.specs.declared.insn.Insn.{Insn}
use Rattle.cf_insns.specs.declared.insn.Insn.TheVariants.{Constant, Load, Store}
use Rattle.cf_insns.specs.declared.insn.ValueKind.TheVariants.{Int, Reference}
use Rattle.cf_insns.specs.declared.insn.StackOperation.TheVariants as stacks
use Rattle.cf_insns.specs.declared.insn.UnaryOperator.TheVariants.{Negate, ToByte, ToChar, ToShort}
use Rattle.cf_insns.specs.declared.insn.BinaryOperator.TheVariants.{Add, Subtract, Multiply, Divide, Remainder, ShiftLeft, ShiftRight, ShiftRightUnsigned, And, Or, Xor}
use Rattle.cf_insns.specs.declared.insn.Condition.TheVariants.{Equal, NotEqual, Less, GreaterOrEqual, Greater, LessOrEqual}
use Rattle.cf_insns.specs.declared.insn.Equality.TheVariants as equality
use Rattle.cf_insns.specs.declared.insn.FieldOperation.TheVariants.{GetStatic, GetField, PutField}
use Rattle.cf_insns.specs.declared.insn.InvokeKind.TheVariants.{Virtual, Special, Static}
use Rattle.cf_insns.specs.declared.insn.ClassOperation.TheVariants.{New, CheckCast, InstanceOf}
use Rattle.cf_insns.specs.declared.opcode.TheConstants as op
use Rattle.cf_insns.specs.Spelling.{Spells, nop, aconst_null, iconst, bipush, sipush, ldc, ldc_w, load_n, load, wide_load, store_n, store, wide_store, stack, unary, binary, iinc, wide_iinc, iaload, iastore, newarray, arraylength, if, if_icmp, if_acmp, if_null, goto, goto_w, tableswitch, lookupswitch, return_value, return, athrow, field, invoke, invokeinterface, class}
use Rattle.cf_insns.specs.Reading as reading
use Rattle.cf_insns.specs.Reading.{instruction, spelled}
use Rattle.cf_insns.proofs.SwitchesAgain.{table_again, lookup_again}

up_to_3 : (P : ℕ → Type 0) → P 0 → P 1 → P 2 → P 3 → (n : ℕ) → n ≤ 3 → P n
up_to_3 P p0 p1 p2 p3 zero le = p0
up_to_3 P p0 p1 p2 p3 (suc zero) le = p1
up_to_3 P p0 p1 p2 p3 (suc (suc zero)) le = p2
up_to_3 P p0 p1 p2 p3 (suc (suc (suc zero))) le = p3
up_to_3 P p0 p1 p2 p3 (suc (suc (suc (suc n)))) le = absurd (omega arith)

pub up_to_5 : (P : ℕ → Type 0) → P 0 → P 1 → P 2 → P 3 → P 4 → P 5 → (n : ℕ) → n ≤ 5 → P n
up_to_5 P p0 p1 p2 p3 p4 p5 (suc (suc n)) le = up_to_3 (λ k. P (suc (suc k))) p2 p3 p4 p5 n (omega arith)
up_to_5 P p0 p1 p2 p3 p4 p5 zero le = p0
up_to_5 P p0 p1 p2 p3 p4 p5 (suc zero) le = p1

up_to_6 : (P : ℕ → Type 0) → P 0 → P 1 → P 2 → P 3 → P 4 → P 5 → P 6 → (n : ℕ) → n ≤ 6 → P n
up_to_6 P p0 p1 p2 p3 p4 p5 p6 (suc n) le = up_to_5 (λ k. P (suc k)) p1 p2 p3 p4 p5 p6 n (omega arith)
up_to_6 P p0 p1 p2 p3 p4 p5 p6 zero le = p0

-- an opcode and operands that are read as the instruction, whatever follows them
pub record IsRead (offset : ℕ) (bytes : List ℕ) (insn : Insn) : Type 0 where
  pub opcode : ℕ
  pub operands : List ℕ
  pub bytes_are : bytes ≡ opcode ∷ operands
  pub read : (rest : List ℕ) → instruction offset opcode (operands ++ rest) ≡ Ok (record { insn = insn; operands = length operands })

reads : {offset : ℕ} {insn : Insn} (opcode : ℕ) (operands : List ℕ) → ((rest : List ℕ) → instruction offset opcode (operands ++ rest) ≡ Ok (record { insn = insn; operands = length operands }))
    → IsRead offset (opcode ∷ operands) insn
reads opcode operands read = record { opcode = opcode; operands = operands; bytes_are = refl; read = read }

-- what is spelled is read, whatever follows it
pub again : {offset : ℕ} {bytes : List ℕ} {insn : Insn} → Spells offset bytes insn → IsRead offset bytes insn
unfolding reading.instruction reading.plain reading.constant reading.load reading.store reading.stack_operator reading.math reading.binary_operator reading.conversion reading.comparison reading.condition reading.control reading.extended reading.wide reading.member reading.invoke_interface reading.new_array
again nop = reads op.NOP [] (λ rest. refl)
again aconst_null = reads op.ACONST_NULL [] (λ rest. refl)
again {offset = offset} (iconst n le) =
    up_to_6 (λ n. IsRead offset ((op.ICONST_M1 + n) ∷ []) (Constant (pos n -ℤ pos 1)))
    (reads 2 [] (λ rest. refl)) (reads 3 [] (λ rest. refl)) (reads 4 [] (λ rest. refl)) (reads 5 [] (λ rest. refl)) (reads 6 [] (λ rest. refl)) (reads 7 [] (λ rest. refl)) (reads 8 [] (λ rest. refl))
    n le
again (bipush a) = reads op.BIPUSH (a ∷ []) (λ rest. refl)
again (sipush a b) = reads op.SIPUSH (a ∷ b ∷ []) (λ rest. refl)
again (ldc a) = reads op.LDC (a ∷ []) (λ rest. refl)
again (ldc_w a b) = reads op.LDC_W (a ∷ b ∷ []) (λ rest. refl)
again {offset = offset} (load_n Int n le) =
    up_to_3 (λ n. IsRead offset ((26 + n) ∷ []) (Load Int n)) (reads 26 [] (λ rest. refl)) (reads 27 [] (λ rest. refl)) (reads 28 [] (λ rest. refl)) (reads 29 [] (λ rest. refl)) n le
again {offset = offset} (load_n Reference n le) =
    up_to_3 (λ n. IsRead offset ((42 + n) ∷ []) (Load Reference n)) (reads 42 [] (λ rest. refl)) (reads 43 [] (λ rest. refl)) (reads 44 [] (λ rest. refl)) (reads 45 [] (λ rest. refl)) n le
again (load Int a) = reads op.ILOAD (a ∷ []) (λ rest. refl)
again (load Reference a) = reads op.ALOAD (a ∷ []) (λ rest. refl)
again (wide_load Int a b) = reads op.WIDE (op.ILOAD ∷ a ∷ b ∷ []) (λ rest. refl)
again (wide_load Reference a b) = reads op.WIDE (op.ALOAD ∷ a ∷ b ∷ []) (λ rest. refl)
again {offset = offset} (store_n Int n le) =
    up_to_3 (λ n. IsRead offset ((59 + n) ∷ []) (Store Int n)) (reads 59 [] (λ rest. refl)) (reads 60 [] (λ rest. refl)) (reads 61 [] (λ rest. refl)) (reads 62 [] (λ rest. refl)) n le
again {offset = offset} (store_n Reference n le) =
    up_to_3 (λ n. IsRead offset ((75 + n) ∷ []) (Store Reference n)) (reads 75 [] (λ rest. refl)) (reads 76 [] (λ rest. refl)) (reads 77 [] (λ rest. refl)) (reads 78 [] (λ rest. refl)) n le
again (store Int a) = reads op.ISTORE (a ∷ []) (λ rest. refl)
again (store Reference a) = reads op.ASTORE (a ∷ []) (λ rest. refl)
again (wide_store Int a b) = reads op.WIDE (op.ISTORE ∷ a ∷ b ∷ []) (λ rest. refl)
again (wide_store Reference a b) = reads op.WIDE (op.ASTORE ∷ a ∷ b ∷ []) (λ rest. refl)
again (stack stacks.Pop) = reads op.POP [] (λ rest. refl)
again (stack stacks.Pop2) = reads op.POP2 [] (λ rest. refl)
again (stack stacks.Dup) = reads op.DUP [] (λ rest. refl)
again (stack stacks.DupX1) = reads op.DUP_X1 [] (λ rest. refl)
again (stack stacks.DupX2) = reads op.DUP_X2 [] (λ rest. refl)
again (stack stacks.Dup2) = reads op.DUP2 [] (λ rest. refl)
again (stack stacks.Dup2X1) = reads op.DUP2_X1 [] (λ rest. refl)
again (stack stacks.Dup2X2) = reads op.DUP2_X2 [] (λ rest. refl)
again (stack stacks.Swap) = reads op.SWAP [] (λ rest. refl)
again (unary Negate) = reads op.INEG [] (λ rest. refl)
again (unary ToByte) = reads op.I2B [] (λ rest. refl)
again (unary ToChar) = reads op.I2C [] (λ rest. refl)
again (unary ToShort) = reads op.I2S [] (λ rest. refl)
again (binary Add) = reads op.IADD [] (λ rest. refl)
again (binary Subtract) = reads op.ISUB [] (λ rest. refl)
again (binary Multiply) = reads op.IMUL [] (λ rest. refl)
again (binary Divide) = reads op.IDIV [] (λ rest. refl)
again (binary Remainder) = reads op.IREM [] (λ rest. refl)
again (binary ShiftLeft) = reads op.ISHL [] (λ rest. refl)
again (binary ShiftRight) = reads op.ISHR [] (λ rest. refl)
again (binary ShiftRightUnsigned) = reads op.IUSHR [] (λ rest. refl)
again (binary And) = reads op.IAND [] (λ rest. refl)
again (binary Or) = reads op.IOR [] (λ rest. refl)
again (binary Xor) = reads op.IXOR [] (λ rest. refl)
again (iinc a b) = reads op.IINC (a ∷ b ∷ []) (λ rest. refl)
again (wide_iinc a b c d) = reads op.WIDE (op.IINC ∷ a ∷ b ∷ c ∷ d ∷ []) (λ rest. refl)
again iaload = reads op.IALOAD [] (λ rest. refl)
again iastore = reads op.IASTORE [] (λ rest. refl)
again newarray = reads op.NEWARRAY (10 ∷ []) (λ rest. refl)
again arraylength = reads op.ARRAYLENGTH [] (λ rest. refl)
again (if Equal a b) = reads 153 (a ∷ b ∷ []) (λ rest. refl)
again (if NotEqual a b) = reads 154 (a ∷ b ∷ []) (λ rest. refl)
again (if Less a b) = reads 155 (a ∷ b ∷ []) (λ rest. refl)
again (if GreaterOrEqual a b) = reads 156 (a ∷ b ∷ []) (λ rest. refl)
again (if Greater a b) = reads 157 (a ∷ b ∷ []) (λ rest. refl)
again (if LessOrEqual a b) = reads 158 (a ∷ b ∷ []) (λ rest. refl)
again (if_icmp Equal a b) = reads 159 (a ∷ b ∷ []) (λ rest. refl)
again (if_icmp NotEqual a b) = reads 160 (a ∷ b ∷ []) (λ rest. refl)
again (if_icmp Less a b) = reads 161 (a ∷ b ∷ []) (λ rest. refl)
again (if_icmp GreaterOrEqual a b) = reads 162 (a ∷ b ∷ []) (λ rest. refl)
again (if_icmp Greater a b) = reads 163 (a ∷ b ∷ []) (λ rest. refl)
again (if_icmp LessOrEqual a b) = reads 164 (a ∷ b ∷ []) (λ rest. refl)
again (if_acmp equality.Equal a b) = reads op.IF_ACMPEQ (a ∷ b ∷ []) (λ rest. refl)
again (if_acmp equality.NotEqual a b) = reads op.IF_ACMPNE (a ∷ b ∷ []) (λ rest. refl)
again (if_null equality.Equal a b) = reads op.IFNULL (a ∷ b ∷ []) (λ rest. refl)
again (if_null equality.NotEqual a b) = reads op.IFNONNULL (a ∷ b ∷ []) (λ rest. refl)
again (goto a b) = reads op.GOTO (a ∷ b ∷ []) (λ rest. refl)
again (goto_w a b c d) = reads op.GOTO_W (a ∷ b ∷ c ∷ d ∷ []) (λ rest. refl)
again (tableswitch n padding default low high rows count many) = reads op.TABLESWITCH _ (λ rest. table_again n padding default low high rows count many rest)
again (lookupswitch padding default npairs rows rise) = reads op.LOOKUPSWITCH _ (λ rest. lookup_again padding default npairs rows rise rest)
again (return_value Int) = reads op.IRETURN [] (λ rest. refl)
again (return_value Reference) = reads op.ARETURN [] (λ rest. refl)
again return = reads op.RETURN [] (λ rest. refl)
again athrow = reads op.ATHROW [] (λ rest. refl)
again (field GetStatic a b) = reads op.GETSTATIC (a ∷ b ∷ []) (λ rest. refl)
again (field GetField a b) = reads op.GETFIELD (a ∷ b ∷ []) (λ rest. refl)
again (field PutField a b) = reads op.PUTFIELD (a ∷ b ∷ []) (λ rest. refl)
again (invoke Virtual a b) = reads op.INVOKEVIRTUAL (a ∷ b ∷ []) (λ rest. refl)
again (invoke Special a b) = reads op.INVOKESPECIAL (a ∷ b ∷ []) (λ rest. refl)
again (invoke Static a b) = reads op.INVOKESTATIC (a ∷ b ∷ []) (λ rest. refl)
again (invokeinterface a b count) = reads op.INVOKEINTERFACE (a ∷ b ∷ count ∷ 0 ∷ []) (λ rest. refl)
again (class New a b) = reads op.NEW (a ∷ b ∷ []) (λ rest. refl)
again (class CheckCast a b) = reads op.CHECKCAST (a ∷ b ∷ []) (λ rest. refl)
again (class InstanceOf a b) = reads op.INSTANCEOF (a ∷ b ∷ []) (λ rest. refl)
