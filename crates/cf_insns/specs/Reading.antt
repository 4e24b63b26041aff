-- What is read of the bytes of one instruction from the left, as the code of this crate reads them, or the first rule that they break. Laws
-- say that this is the relation `Spells`, and that the rule is broken. (This project's own; JVMS 6.5: `Spelling`.)
use Rattle.std.specs.Prelude.{ℕ, suc, ◌+◌, ◌-◌, ◌*◌, ℤ, pos, negsuc, ◌-ℤ◌, ◌&&◌, nat_le, nat_lt, ◌==◌, if◌then◌else◌, Bool, true, List, [], ◌∷◌, drop, length, Option, Some, None, Result, Ok, Err, ok_or, int_lt}
use Rattle.cf_insns.specs.declared.fault.CodeRule.{CodeRule}
use Rattle.cf_insns.specs.declared.fault.CodeRule.TheVariants.{Opcode, Cut, Padding, Keys, OutOfProfile}
use Rattle.cf_insns.specs.declared.insn.Insn.{Insn}
use Rattle.cf_insns.specs.declared.insn.Insn.TheVariants.{Nop, Null, Constant, LoadConstant, Load, Store, Increment, Stack, Unary, Binary, Array, If, IfCompare, IfSame, IfNull, Goto, TableSwitch, LookupSwitch, ReturnValue, Return, Throw, Field, Invoke, InvokeInterface, Class}
use Rattle.cf_insns.specs.declared.insn.ValueKind.TheVariants.{Int, Reference}
use Rattle.cf_insns.specs.declared.insn.StackOperation.{StackOperation}
use Rattle.cf_insns.specs.declared.insn.StackOperation.TheVariants as stack
use Rattle.cf_insns.specs.declared.insn.UnaryOperator.TheVariants.{Negate, ToByte, ToChar, ToShort}
use Rattle.cf_insns.specs.declared.insn.BinaryOperator.{BinaryOperator}
use Rattle.cf_insns.specs.declared.insn.BinaryOperator.TheVariants.{Add, Subtract, Multiply, Divide, Remainder, ShiftLeft, ShiftRight, ShiftRightUnsigned, And, Or, Xor}
use Rattle.cf_insns.specs.declared.insn.ArrayOperation.TheVariants as array
use Rattle.cf_insns.specs.declared.insn.Condition.{Condition}
use Rattle.cf_insns.specs.declared.insn.Condition.TheVariants.{Equal, NotEqual, Less, GreaterOrEqual, Greater, LessOrEqual}
use Rattle.cf_insns.specs.declared.insn.Equality.TheVariants as equality
use Rattle.cf_insns.specs.declared.insn.FieldOperation.{FieldOperation}
use Rattle.cf_insns.specs.declared.insn.FieldOperation.TheVariants.{GetStatic, GetField, PutField}
use Rattle.cf_insns.specs.declared.insn.InvokeKind.{InvokeKind}
use Rattle.cf_insns.specs.declared.insn.InvokeKind.TheVariants.{Virtual, Special, Static}
use Rattle.cf_insns.specs.declared.insn.ClassOperation.{ClassOperation}
use Rattle.cf_insns.specs.declared.insn.ClassOperation.TheVariants.{New, CheckCast, InstanceOf}
use Rattle.cf_insns.specs.declared.insn.SwitchCase.{SwitchCase}
use Rattle.cf_insns.specs.declared.reading.Spelled.{Spelled}
use Rattle.cf_insns.specs.declared.opcode.TheConstants as op
use Rattle.cf_insns.specs.Layout.{within, padding_length, counted}
use Rattle.cf_insns.specs.Operands.{byte_of, signed_byte_of, short_of, signed_short_of, signed_int_of, signed_int}

infixl 10 ◌>>=◌
abbrev pub ◌>>=◌ : {A B E : Type 0} → Result A E → (A → Result B E) → Result B E
(Ok x) >>= f = f x
(Err e) >>= f = Err e

-- an instruction with its number of bytes after the opcode
abbrev pub spelled : Insn → ℕ → Result Spelled CodeRule
spelled insn operands = Ok (record { insn = insn; operands = operands })

-- The groups of the opcode table (JVMS 7), each with the bytes after the opcode.

unfoldable pub constant : ℕ → List ℕ → Result Spelled CodeRule
constant opcode operands =
    if opcode == op.NOP then spelled Nop 0
    else (if opcode == op.ACONST_NULL then spelled Null 0
    else (if within op.ICONST_M1 op.ICONST_5 opcode then spelled (Constant (pos opcode -ℤ pos 3)) 0
    else (if opcode == op.BIPUSH then (signed_byte_of operands >>= λ n. spelled (Constant n) 1)
    else (if opcode == op.SIPUSH then (signed_short_of operands >>= λ n. spelled (Constant n) 2)
    else (if opcode == op.LDC then (byte_of operands >>= λ index. spelled (LoadConstant index) 1)
    else (if opcode == op.LDC_W then (short_of operands >>= λ index. spelled (LoadConstant index) 2)
    else Err OutOfProfile))))))

-- a local variable that one byte tells
abbrev pub local : List ℕ → Result ℕ CodeRule
local operands = byte_of operands

unfoldable pub load : ℕ → List ℕ → Result Spelled CodeRule
load opcode operands =
    if opcode == op.ILOAD then (local operands >>= λ n. spelled (Load Int n) 1)
    else (if opcode == op.ALOAD then (local operands >>= λ n. spelled (Load Reference n) 1)
    else (if within op.ILOAD_0 op.ILOAD_3 opcode then spelled (Load Int (opcode - op.ILOAD_0)) 0
    else (if within op.ALOAD_0 op.ALOAD_3 opcode then spelled (Load Reference (opcode - op.ALOAD_0)) 0
    else (if opcode == op.IALOAD then spelled (Array array.Load) 0
    else Err OutOfProfile))))

unfoldable pub store : ℕ → List ℕ → Result Spelled CodeRule
store opcode operands =
    if opcode == op.ISTORE then (local operands >>= λ n. spelled (Store Int n) 1)
    else (if opcode == op.ASTORE then (local operands >>= λ n. spelled (Store Reference n) 1)
    else (if within op.ISTORE_0 op.ISTORE_3 opcode then spelled (Store Int (opcode - op.ISTORE_0)) 0
    else (if within op.ASTORE_0 op.ASTORE_3 opcode then spelled (Store Reference (opcode - op.ASTORE_0)) 0
    else (if opcode == op.IASTORE then spelled (Array array.Store) 0
    else Err OutOfProfile))))

unfoldable pub stack_operator : ℕ → Option StackOperation
stack_operator opcode =
    if opcode == op.POP then Some stack.Pop
    else (if opcode == op.POP2 then Some stack.Pop2
    else (if opcode == op.DUP then Some stack.Dup
    else (if opcode == op.DUP_X1 then Some stack.DupX1
    else (if opcode == op.DUP_X2 then Some stack.DupX2
    else (if opcode == op.DUP2 then Some stack.Dup2
    else (if opcode == op.DUP2_X1 then Some stack.Dup2X1
    else (if opcode == op.DUP2_X2 then Some stack.Dup2X2
    else (if opcode == op.SWAP then Some stack.Swap
    else None))))))))

abbrev pub stack_operation : ℕ → Result Spelled CodeRule
stack_operation opcode = ok_or (stack_operator opcode) OutOfProfile >>= λ operation. spelled (Stack operation) 0

unfoldable pub binary_operator : ℕ → Option BinaryOperator
binary_operator opcode =
    if opcode == op.IADD then Some Add
    else (if opcode == op.ISUB then Some Subtract
    else (if opcode == op.IMUL then Some Multiply
    else (if opcode == op.IDIV then Some Divide
    else (if opcode == op.IREM then Some Remainder
    else (if opcode == op.ISHL then Some ShiftLeft
    else (if opcode == op.ISHR then Some ShiftRight
    else (if opcode == op.IUSHR then Some ShiftRightUnsigned
    else (if opcode == op.IAND then Some And
    else (if opcode == op.IOR then Some Or
    else (if opcode == op.IXOR then Some Xor
    else None))))))))))

unfoldable pub math : ℕ → List ℕ → Result Spelled CodeRule
math opcode operands =
    if opcode == op.INEG then spelled (Unary Negate) 0
    else (if opcode == op.IINC then (byte_of operands >>= λ local. signed_byte_of (drop 1 operands) >>= λ by. spelled (Increment local by) 2)
    else (ok_or (binary_operator opcode) OutOfProfile >>= λ operator. spelled (Binary operator) 0))

unfoldable pub conversion : ℕ → Result Spelled CodeRule
conversion opcode =
    if opcode == op.I2B then spelled (Unary ToByte) 0
    else (if opcode == op.I2C then spelled (Unary ToChar) 0
    else (if opcode == op.I2S then spelled (Unary ToShort) 0
    else Err OutOfProfile))

-- the condition of ifeq to ifle and of if_icmpeq to if_icmple, by its index among them
unfoldable pub condition : ℕ → Condition
condition index =
    if index == 0 then Equal
    else (if index == 1 then NotEqual
    else (if index == 2 then Less
    else (if index == 3 then GreaterOrEqual
    else (if index == 4 then Greater
    else LessOrEqual))))

-- a branch of two bytes
abbrev pub branch : List ℕ → Result ℤ CodeRule
branch operands = signed_short_of operands

unfoldable pub comparison : ℕ → List ℕ → Result Spelled CodeRule
comparison opcode operands =
    if within op.IFEQ op.IFLE opcode then (branch operands >>= λ branch. spelled (If (condition (opcode - op.IFEQ)) branch) 2)
    else (if within op.IF_ICMPEQ op.IF_ICMPLE opcode then (branch operands >>= λ branch. spelled (IfCompare (condition (opcode - op.IF_ICMPEQ)) branch) 2)
    else (if opcode == op.IF_ACMPEQ then (branch operands >>= λ branch. spelled (IfSame equality.Equal branch) 2)
    else (if opcode == op.IF_ACMPNE then (branch operands >>= λ branch. spelled (IfSame equality.NotEqual branch) 2)
    else Err OutOfProfile)))

unfoldable pub control : ℕ → List ℕ → Result Spelled CodeRule
control opcode operands =
    if opcode == op.GOTO then (branch operands >>= λ branch. spelled (Goto branch) 2)
    else (if opcode == op.IRETURN then spelled (ReturnValue Int) 0
    else (if opcode == op.ARETURN then spelled (ReturnValue Reference) 0
    else (if opcode == op.RETURN then spelled Return 0
    else Err OutOfProfile)))

-- wide: the opcode that it widens is its first operand
unfoldable pub wide : List ℕ → Result Spelled CodeRule
wide operands = byte_of operands >>= λ opcode.
    if opcode == op.ILOAD then (short_of (drop 1 operands) >>= λ local. spelled (Load Int local) 3)
    else (if opcode == op.ALOAD then (short_of (drop 1 operands) >>= λ local. spelled (Load Reference local) 3)
    else (if opcode == op.ISTORE then (short_of (drop 1 operands) >>= λ local. spelled (Store Int local) 3)
    else (if opcode == op.ASTORE then (short_of (drop 1 operands) >>= λ local. spelled (Store Reference local) 3)
    else (if opcode == op.IINC then (short_of (drop 1 operands) >>= λ local. signed_short_of (drop 3 operands) >>= λ by. spelled (Increment local by) 5)
    else Err OutOfProfile))))

unfoldable pub extended : ℕ → List ℕ → Result Spelled CodeRule
extended opcode operands =
    if opcode == op.WIDE then wide operands
    else (if opcode == op.IFNULL then (branch operands >>= λ branch. spelled (IfNull equality.Equal branch) 2)
    else (if opcode == op.IFNONNULL then (branch operands >>= λ branch. spelled (IfNull equality.NotEqual branch) 2)
    else (if opcode == op.GOTO_W then (signed_int_of operands >>= λ branch. spelled (Goto branch) 4)
    else Err OutOfProfile)))

-- fields, methods, classes and arrays

abbrev pub field : FieldOperation → List ℕ → Result Spelled CodeRule
field operation operands = short_of operands >>= λ index. spelled (Field operation index) 2

abbrev pub invoke : InvokeKind → List ℕ → Result Spelled CodeRule
invoke kind operands = short_of operands >>= λ index. spelled (Invoke kind index) 2

abbrev pub class : ClassOperation → List ℕ → Result Spelled CodeRule
class operation operands = short_of operands >>= λ index. spelled (Class operation index) 2

unfoldable pub invoke_interface : List ℕ → Result Spelled CodeRule
invoke_interface operands =
    short_of operands >>= λ index. byte_of (drop 2 operands) >>= λ count. byte_of (drop 3 operands) >>= λ fourth.
    if fourth == 0 then spelled (InvokeInterface index count) 4 else Err Padding

unfoldable pub new_array : List ℕ → Result Spelled CodeRule
new_array operands = byte_of operands >>= λ kind. if kind == 10 then spelled (Array array.New) 1 else Err OutOfProfile

unfoldable pub member : ℕ → List ℕ → Result Spelled CodeRule
member opcode operands =
    if opcode == op.GETSTATIC then field GetStatic operands
    else (if opcode == op.GETFIELD then field GetField operands
    else (if opcode == op.PUTFIELD then field PutField operands
    else (if opcode == op.INVOKEVIRTUAL then invoke Virtual operands
    else (if opcode == op.INVOKESPECIAL then invoke Special operands
    else (if opcode == op.INVOKESTATIC then invoke Static operands
    else (if opcode == op.INVOKEINTERFACE then invoke_interface operands
    else (if opcode == op.NEW then class New operands
    else (if opcode == op.NEWARRAY then new_array operands
    else (if opcode == op.ARRAYLENGTH then spelled (Array array.Length) 0
    else (if opcode == op.ATHROW then spelled Throw 0
    else (if opcode == op.CHECKCAST then class CheckCast operands
    else (if opcode == op.INSTANCEOF then class InstanceOf operands
    else Err OutOfProfile))))))))))))

-- an instruction that is no switch
unfoldable pub plain : ℕ → List ℕ → Result Spelled CodeRule
plain opcode operands =
    if nat_le opcode op.LDC2_W then constant opcode operands
    else (if nat_le opcode op.SALOAD then load opcode operands
    else (if nat_le opcode op.SASTORE then store opcode operands
    else (if nat_le opcode op.SWAP then stack_operation opcode
    else (if nat_le opcode op.IINC then math opcode operands
    else (if nat_le opcode op.I2S then conversion opcode
    else (if nat_le opcode op.IF_ACMPNE then comparison opcode operands
    else (if nat_le opcode op.RETURN then control opcode operands
    else (if nat_le opcode op.INSTANCEOF then member opcode operands
    else (if nat_le opcode op.JSR_W then extended opcode operands
    else Err Opcode)))))))))

-- The switches.

-- the first n numbers
abbrev pub ints_of : ℕ → List ℕ → List ℤ
ints_of (suc n) (a ∷ b ∷ c ∷ d ∷ rest) = signed_int a b c d ∷ ints_of n rest
ints_of _ _ = []

-- the first n cases
abbrev pub cases_of : ℕ → List ℕ → List SwitchCase
cases_of (suc n) (a ∷ b ∷ c ∷ d ∷ e ∷ f ∷ g ∷ h ∷ rest) = record { key = signed_int a b c d; branch = signed_int e f g h } ∷ cases_of n rest
cases_of _ _ = []

-- whether each key is above the one before it
abbrev pub keys_rise : List SwitchCase → Bool
keys_rise [] = true
keys_rise (one ∷ []) = true
keys_rise (one ∷ other ∷ cases) = int_lt one.key other.key && keys_rise (other ∷ cases)

-- the end of the rows, which the code has to reach
abbrev pub rows_end : ℕ → List ℕ → Result ℕ CodeRule
rows_end end operands = if nat_lt (length operands) end then Err Cut else Ok end

-- a table of `count` branches, from an index of the operands on, and its end
abbrev pub table_rows : ℕ → ℤ → ℤ → ℕ → List ℕ → Result Spelled CodeRule
table_rows from default low count operands = rows_end (from + 4 * count) operands >>= λ end.
    if count == 0 then Err Keys else spelled (TableSwitch default low (ints_of count (drop from operands))) end

unfoldable pub table_switch : ℕ → List ℕ → Result Spelled CodeRule
table_switch offset operands =
    signed_int_of (drop (padding_length offset) operands) >>= λ default.
    signed_int_of (drop (padding_length offset + 4) operands) >>= λ low.
    signed_int_of (drop (padding_length offset + 8) operands) >>= λ high.
    table_rows (padding_length offset + 12) default low (counted (high -ℤ low)) operands

-- the cases if their keys rise, else a fault
abbrev pub sorted : ℤ → List SwitchCase → ℕ → Result Spelled CodeRule
sorted default cases end = if keys_rise cases then spelled (LookupSwitch default cases) end else Err Keys

-- `count` cases, from an index of the operands on, and their end
abbrev pub lookup_rows : ℕ → ℤ → ℤ → List ℕ → Result Spelled CodeRule
lookup_rows from default (pos count) operands = rows_end (from + 8 * count) operands >>= λ end. sorted default (cases_of count (drop from operands)) end
lookup_rows from default (negsuc count) operands = Err Keys

unfoldable pub lookup_switch : ℕ → List ℕ → Result Spelled CodeRule
lookup_switch offset operands =
    signed_int_of (drop (padding_length offset) operands) >>= λ default.
    signed_int_of (drop (padding_length offset + 4) operands) >>= λ count.
    lookup_rows (padding_length offset + 8) default count operands

-- the instruction at an offset, of its opcode and the bytes after it
unfoldable pub instruction : ℕ → ℕ → List ℕ → Result Spelled CodeRule
instruction offset opcode operands =
    if opcode == op.TABLESWITCH then table_switch offset operands
    else (if opcode == op.LOOKUPSWITCH then lookup_switch offset operands
    else plain opcode operands)
