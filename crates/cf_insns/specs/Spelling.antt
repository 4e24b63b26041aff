-- 'The format of an instruction: the mnemonic is the opcode, and its operands follow' (JVMS 6.4, 6.5): how instructions are spelled, a rule
-- a form. Some have several spellings. The spelling of a switch depends on its offset, which decides the length of its padding.
use Rattle.std.specs.Prelude.{◌≡◌, ℕ, ◌+◌, ◌≤◌, ℤ, pos, ◌-ℤ◌, ◌<ℤ◌, List, [], ◌∷◌, ◌++◌, length}
use Rattle.cf_insns.specs.declared.insn.Insn.{Insn}
use Rattle.cf_insns.specs.declared.insn.Insn.TheVariants.{Nop, Null, Constant, LoadConstant, Load, Store, Increment, Stack, Unary, Binary, Array, If, IfCompare, IfSame, IfNull, Goto, TableSwitch, LookupSwitch, ReturnValue, Return, Throw, Field, Invoke, InvokeInterface, Class}
use Rattle.cf_insns.specs.declared.insn.ArrayOperation.TheVariants as array
use Rattle.cf_insns.specs.declared.insn.ValueKind.{ValueKind}
use Rattle.cf_insns.specs.declared.insn.StackOperation.{StackOperation}
use Rattle.cf_insns.specs.declared.insn.UnaryOperator.{UnaryOperator}
use Rattle.cf_insns.specs.declared.insn.BinaryOperator.{BinaryOperator}
use Rattle.cf_insns.specs.declared.insn.Condition.{Condition}
use Rattle.cf_insns.specs.declared.insn.Equality.{Equality}
use Rattle.cf_insns.specs.declared.insn.FieldOperation.{FieldOperation}
use Rattle.cf_insns.specs.declared.insn.InvokeKind.{InvokeKind}
use Rattle.cf_insns.specs.declared.insn.ClassOperation.{ClassOperation}
use Rattle.cf_insns.specs.declared.insn.SwitchCase.{SwitchCase}
use Rattle.cf_insns.specs.declared.opcode.TheConstants as op
use Rattle.cf_insns.specs.Layout.{IsPadding}
use Rattle.cf_insns.specs.Operands.{short, signed_byte, signed_short, signed_int, IsInt, AreInts, AreCases}
use Rattle.cf_insns.specs.Opcodes.{load_opcode, load_0_opcode, store_opcode, store_0_opcode, return_opcode, stack_opcode, unary_opcode, binary_opcode, condition_index, if_same_opcode, if_null_opcode, field_opcode, invoke_opcode, class_opcode}

-- 'the match-offset pairs must be sorted in increasing numerical order by match' (JVMS 6.5.lookupswitch), no key twice (JVMS 4.9.1)
abbrev pub KeysRise : List SwitchCase → Type 0
KeysRise [] = Unit {0}
KeysRise (one ∷ []) = Unit {0}
KeysRise (one ∷ other ∷ cases) = (one.key <ℤ other.key) × KeysRise (other ∷ cases)

-- the bytes are a spelling of the instruction at this offset of the code
pub data Spells : ℕ → List ℕ → Insn → Type 0 where
  nop : {offset : ℕ} → Spells offset (op.NOP ∷ []) Nop
  aconst_null : {offset : ℕ} → Spells offset (op.ACONST_NULL ∷ []) Null
  -- iconst_m1 to iconst_5
  iconst : {offset : ℕ} (n : ℕ) → n ≤ 6 → Spells offset ((op.ICONST_M1 + n) ∷ []) (Constant (pos n -ℤ pos 1))
  bipush : {offset : ℕ} (a : ℕ) → Spells offset (op.BIPUSH ∷ a ∷ []) (Constant (signed_byte a))
  sipush : {offset : ℕ} (a b : ℕ) → Spells offset (op.SIPUSH ∷ a ∷ b ∷ []) (Constant (signed_short a b))
  ldc : {offset : ℕ} (a : ℕ) → Spells offset (op.LDC ∷ a ∷ []) (LoadConstant a)
  ldc_w : {offset : ℕ} (a b : ℕ) → Spells offset (op.LDC_W ∷ a ∷ b ∷ []) (LoadConstant (short a b))
  -- iload_0 to iload_3, aload_0 to aload_3; then iload, aload; and these after wide
  load_n : {offset : ℕ} (kind : ValueKind) (n : ℕ) → n ≤ 3 → Spells offset ((load_0_opcode kind + n) ∷ []) (Load kind n)
  load : {offset : ℕ} (kind : ValueKind) (a : ℕ) → Spells offset (load_opcode kind ∷ a ∷ []) (Load kind a)
  wide_load : {offset : ℕ} (kind : ValueKind) (a b : ℕ) → Spells offset (op.WIDE ∷ load_opcode kind ∷ a ∷ b ∷ []) (Load kind (short a b))
  -- istore_0 to istore_3, astore_0 to astore_3; then istore, astore; and these after wide
  store_n : {offset : ℕ} (kind : ValueKind) (n : ℕ) → n ≤ 3 → Spells offset ((store_0_opcode kind + n) ∷ []) (Store kind n)
  store : {offset : ℕ} (kind : ValueKind) (a : ℕ) → Spells offset (store_opcode kind ∷ a ∷ []) (Store kind a)
  wide_store : {offset : ℕ} (kind : ValueKind) (a b : ℕ) → Spells offset (op.WIDE ∷ store_opcode kind ∷ a ∷ b ∷ []) (Store kind (short a b))
  stack : {offset : ℕ} (operation : StackOperation) → Spells offset (stack_opcode operation ∷ []) (Stack operation)
  unary : {offset : ℕ} (operator : UnaryOperator) → Spells offset (unary_opcode operator ∷ []) (Unary operator)
  binary : {offset : ℕ} (operator : BinaryOperator) → Spells offset (binary_opcode operator ∷ []) (Binary operator)
  iinc : {offset : ℕ} (a b : ℕ) → Spells offset (op.IINC ∷ a ∷ b ∷ []) (Increment a (signed_byte b))
  wide_iinc : {offset : ℕ} (a b c d : ℕ) → Spells offset (op.WIDE ∷ op.IINC ∷ a ∷ b ∷ c ∷ d ∷ []) (Increment (short a b) (signed_short c d))
  iaload : {offset : ℕ} → Spells offset (op.IALOAD ∷ []) (Array array.Load)
  iastore : {offset : ℕ} → Spells offset (op.IASTORE ∷ []) (Array array.Store)
  -- newarray of ints, whose type code is 10
  newarray : {offset : ℕ} → Spells offset (op.NEWARRAY ∷ 10 ∷ []) (Array array.New)
  arraylength : {offset : ℕ} → Spells offset (op.ARRAYLENGTH ∷ []) (Array array.Length)
  -- ifeq to ifle, if_icmpeq to if_icmple
  if : {offset : ℕ} (condition : Condition) (a b : ℕ) → Spells offset ((op.IFEQ + condition_index condition) ∷ a ∷ b ∷ []) (If condition (signed_short a b))
  if_icmp : {offset : ℕ} (condition : Condition) (a b : ℕ) → Spells offset ((op.IF_ICMPEQ + condition_index condition) ∷ a ∷ b ∷ []) (IfCompare condition (signed_short a b))
  if_acmp : {offset : ℕ} (equality : Equality) (a b : ℕ) → Spells offset (if_same_opcode equality ∷ a ∷ b ∷ []) (IfSame equality (signed_short a b))
  if_null : {offset : ℕ} (equality : Equality) (a b : ℕ) → Spells offset (if_null_opcode equality ∷ a ∷ b ∷ []) (IfNull equality (signed_short a b))
  goto : {offset : ℕ} (a b : ℕ) → Spells offset (op.GOTO ∷ a ∷ b ∷ []) (Goto (signed_short a b))
  goto_w : {offset : ℕ} (a b c d : ℕ) → Spells offset (op.GOTO_W ∷ a ∷ b ∷ c ∷ d ∷ []) (Goto (signed_int a b c d))
  -- a branch for each int from low to high, of which there is one at least
  tableswitch : {offset : ℕ} {padding default low high rows : List ℕ} {d l h : ℤ} {branches : List ℤ} (n : ℕ)
      → IsPadding offset padding → IsInt default d → IsInt low l → IsInt high h → AreInts rows branches
      → h -ℤ l ≡ pos n → length branches ≡ n + 1
      → Spells offset (op.TABLESWITCH ∷ padding ++ (default ++ (low ++ (high ++ rows)))) (TableSwitch d l branches)
  -- npairs cases, their keys rising
  lookupswitch : {offset : ℕ} {padding default npairs rows : List ℕ} {d : ℤ} {cases : List SwitchCase}
      → IsPadding offset padding → IsInt default d → IsInt npairs (pos (length cases)) → AreCases rows cases → KeysRise cases
      → Spells offset (op.LOOKUPSWITCH ∷ padding ++ (default ++ (npairs ++ rows))) (LookupSwitch d cases)
  return_value : {offset : ℕ} (kind : ValueKind) → Spells offset (return_opcode kind ∷ []) (ReturnValue kind)
  return : {offset : ℕ} → Spells offset (op.RETURN ∷ []) Return
  athrow : {offset : ℕ} → Spells offset (op.ATHROW ∷ []) Throw
  field : {offset : ℕ} (operation : FieldOperation) (a b : ℕ) → Spells offset (field_opcode operation ∷ a ∷ b ∷ []) (Field operation (short a b))
  invoke : {offset : ℕ} (kind : InvokeKind) (a b : ℕ) → Spells offset (invoke_opcode kind ∷ a ∷ b ∷ []) (Invoke kind (short a b))
  invokeinterface : {offset : ℕ} (a b count : ℕ) → Spells offset (op.INVOKEINTERFACE ∷ a ∷ b ∷ count ∷ 0 ∷ []) (InvokeInterface (short a b) count)
  class : {offset : ℕ} (operation : ClassOperation) (a b : ℕ) → Spells offset (class_opcode operation ∷ a ∷ b ∷ []) (Class operation (short a b))

-- no spelling begins with these bytes
abbrev pub NoneBegins : List ℕ → Type 0
NoneBegins front = (offset : ℕ) (more : List ℕ) (insn : Insn) → Spells offset (front ++ more) insn → ⊥
