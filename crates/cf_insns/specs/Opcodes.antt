-- 'The opcode mnemonics, by opcode' (JVMS 7): those of the instructions that differ in their opcode alone.
use Rattle.std.specs.Prelude.{ℕ}
use Rattle.cf_insns.specs.declared.insn.StackOperation.{StackOperation}
use Rattle.cf_insns.specs.declared.insn.StackOperation.TheVariants as stack
use Rattle.cf_insns.specs.declared.insn.UnaryOperator.{UnaryOperator}
use Rattle.cf_insns.specs.declared.insn.UnaryOperator.TheVariants as unary
use Rattle.cf_insns.specs.declared.insn.BinaryOperator.{BinaryOperator}
use Rattle.cf_insns.specs.declared.insn.BinaryOperator.TheVariants as binary
use Rattle.cf_insns.specs.declared.insn.Condition.{Condition}
use Rattle.cf_insns.specs.declared.insn.Condition.TheVariants as condition
use Rattle.cf_insns.specs.declared.insn.Equality.{Equality}
use Rattle.cf_insns.specs.declared.insn.Equality.TheVariants as equality
use Rattle.cf_insns.specs.declared.insn.FieldOperation.{FieldOperation}
use Rattle.cf_insns.specs.declared.insn.FieldOperation.TheVariants as field
use Rattle.cf_insns.specs.declared.insn.InvokeKind.{InvokeKind}
use Rattle.cf_insns.specs.declared.insn.InvokeKind.TheVariants as invoke
use Rattle.cf_insns.specs.declared.insn.ClassOperation.{ClassOperation}
use Rattle.cf_insns.specs.declared.insn.ClassOperation.TheVariants as class
use Rattle.cf_insns.specs.declared.insn.ValueKind.{ValueKind}
use Rattle.cf_insns.specs.declared.insn.ValueKind.TheVariants as kind
use Rattle.cf_insns.specs.declared.opcode.TheConstants as op

-- iload, aload
abbrev pub load_opcode : ValueKind → ℕ
load_opcode kind.Int = op.ILOAD
load_opcode kind.Reference = op.ALOAD

-- iload_0, aload_0: the opcodes of iload_1 to iload_3 and aload_1 to aload_3 follow
abbrev pub load_0_opcode : ValueKind → ℕ
load_0_opcode kind.Int = op.ILOAD_0
load_0_opcode kind.Reference = op.ALOAD_0

-- istore, astore
abbrev pub store_opcode : ValueKind → ℕ
store_opcode kind.Int = op.ISTORE
store_opcode kind.Reference = op.ASTORE

-- istore_0, astore_0
abbrev pub store_0_opcode : ValueKind → ℕ
store_0_opcode kind.Int = op.ISTORE_0
store_0_opcode kind.Reference = op.ASTORE_0

-- ireturn, areturn
abbrev pub return_opcode : ValueKind → ℕ
return_opcode kind.Int = op.IRETURN
return_opcode kind.Reference = op.ARETURN

abbrev pub stack_opcode : StackOperation → ℕ
stack_opcode stack.Pop = op.POP
stack_opcode stack.Pop2 = op.POP2
stack_opcode stack.Dup = op.DUP
stack_opcode stack.DupX1 = op.DUP_X1
stack_opcode stack.DupX2 = op.DUP_X2
stack_opcode stack.Dup2 = op.DUP2
stack_opcode stack.Dup2X1 = op.DUP2_X1
stack_opcode stack.Dup2X2 = op.DUP2_X2
stack_opcode stack.Swap = op.SWAP

abbrev pub unary_opcode : UnaryOperator → ℕ
unary_opcode unary.Negate = op.INEG
unary_opcode unary.ToByte = op.I2B
unary_opcode unary.ToChar = op.I2C
unary_opcode unary.ToShort = op.I2S

abbrev pub binary_opcode : BinaryOperator → ℕ
binary_opcode binary.Add = op.IADD
binary_opcode binary.Subtract = op.ISUB
binary_opcode binary.Multiply = op.IMUL
binary_opcode binary.Divide = op.IDIV
binary_opcode binary.Remainder = op.IREM
binary_opcode binary.ShiftLeft = op.ISHL
binary_opcode binary.ShiftRight = op.ISHR
binary_opcode binary.ShiftRightUnsigned = op.IUSHR
binary_opcode binary.And = op.IAND
binary_opcode binary.Or = op.IOR
binary_opcode binary.Xor = op.IXOR

-- ifeq, ifne, iflt, ifge, ifgt, ifle stand in this order, and so do if_icmpeq to if_icmple
abbrev pub condition_index : Condition → ℕ
condition_index condition.Equal = 0
condition_index condition.NotEqual = 1
condition_index condition.Less = 2
condition_index condition.GreaterOrEqual = 3
condition_index condition.Greater = 4
condition_index condition.LessOrEqual = 5

-- if_acmpeq, if_acmpne
abbrev pub if_same_opcode : Equality → ℕ
if_same_opcode equality.Equal = op.IF_ACMPEQ
if_same_opcode equality.NotEqual = op.IF_ACMPNE

-- ifnull, ifnonnull
abbrev pub if_null_opcode : Equality → ℕ
if_null_opcode equality.Equal = op.IFNULL
if_null_opcode equality.NotEqual = op.IFNONNULL

abbrev pub field_opcode : FieldOperation → ℕ
field_opcode field.GetStatic = op.GETSTATIC
field_opcode field.GetField = op.GETFIELD
field_opcode field.PutField = op.PUTFIELD

abbrev pub invoke_opcode : InvokeKind → ℕ
invoke_opcode invoke.Virtual = op.INVOKEVIRTUAL
invoke_opcode invoke.Special = op.INVOKESPECIAL
invoke_opcode invoke.Static = op.INVOKESTATIC

abbrev pub class_opcode : ClassOperation → ℕ
class_opcode class.New = op.NEW
class_opcode class.CheckCast = op.CHECKCAST
class_opcode class.InstanceOf = op.INSTANCEOF
