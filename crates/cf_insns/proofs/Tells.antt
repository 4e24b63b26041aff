-- What is read of an opcode and operands is spelled so, or the rule is broken.
use Rattle.std.proofs.Common.{◌≡◌, ℕ, pos, ℤ, ◌+◌, ◌-◌, ◌-ℤ◌, ◌<◌, ◌≤◌, nat_le, eqb, List, [], ◌∷◌, ◌++◌, length, drop, inl, inr, eq-eqb, Option, Some, Result, Ok, Err, ok_or, refl, ap, sym, subst, ◌∙◌, arith, length-append}
use Rattle.std.proofs.lemmas.Bool.{eqb-true, false≢true}
use Rattle.std.proofs.lemmas.Bool.Decides.{nat_tests}
use Rattle.std.proofs.lemmas.Int.{ints}
use Rattle.cf_insns.specs.declared.fault.CodeRule.{CodeRule}
use Rattle.cf_insns.specs.declared.fault.CodeRule.TheVariants.{Opcode, Cut, Padding, OutOfProfile}
use Rattle.cf_insns.specs.declared.reading.Spelled.{Spelled}
use Rattle.cf_insns.specs.declared.insn.Insn.{Insn}
use Rattle.cf_insns.specs.declared.insn.Insn.TheVariants.{Nop, Null, Constant, LoadConstant, Load, Store, Increment, Stack, Binary, Array, If, IfCompare, IfSame, IfNull, Goto, Field, Invoke, InvokeInterface, Class}
use Rattle.cf_insns.specs.declared.insn.ValueKind.TheVariants.{Int, Reference}
use Rattle.cf_insns.specs.declared.insn.StackOperation.{StackOperation}
use Rattle.cf_insns.specs.declared.insn.StackOperation.TheVariants as stacks
use Rattle.cf_insns.specs.declared.insn.UnaryOperator.TheVariants.{Negate, ToByte, ToChar, ToShort}
use Rattle.cf_insns.specs.declared.insn.BinaryOperator.{BinaryOperator}
use Rattle.cf_insns.specs.declared.insn.BinaryOperator.TheVariants.{Add, Subtract, Multiply, Divide, Remainder, ShiftLeft, ShiftRight, ShiftRightUnsigned, And, Or, Xor}
use Rattle.cf_insns.specs.declared.insn.ArrayOperation.TheVariants as arrays
use Rattle.cf_insns.specs.declared.insn.Equality.TheVariants as equality
use Rattle.cf_insns.specs.declared.insn.FieldOperation.TheVariants.{GetStatic, GetField, PutField}
use Rattle.cf_insns.specs.declared.insn.InvokeKind.TheVariants.{Virtual, Special, Static}
use Rattle.cf_insns.specs.declared.insn.ClassOperation.TheVariants.{New, CheckCast, InstanceOf}
use Rattle.cf_insns.specs.declared.opcode.TheConstants as op
use Rattle.cf_insns.specs.Faults.{no_opcode, out_of_profile, not_widened, other_array, fourth}
use Rattle.cf_insns.specs.Layout.{fixed, widened, operand_count, widened_count, within}
use Rattle.cf_insns.specs.Opcodes.{condition_index}
use Rattle.cf_insns.specs.Operands.{byte_of, signed_byte_of, short_of, signed_short_of, signed_int_of, short, signed_byte, signed_short, signed_int}
use Rattle.cf_insns.specs.Reading as reading
use Rattle.cf_insns.specs.Reading.{instruction, spelled, ◌>>=◌}
use Rattle.cf_insns.specs.Spelling.{Spells, NoneBegins, nop, aconst_null, iconst, bipush, sipush, ldc, ldc_w, load_n, load, wide_load, store_n, store, wide_store, stack, unary, binary, iinc, wide_iinc, iaload, iastore, newarray, arraylength, if, if_icmp, if_acmp, if_null, goto, goto_w, return_value, return, athrow, field, invoke, invokeinterface, class}
use Rattle.cf_insns.proofs.Again.{again, up_to_5}
use Rattle.cf_insns.proofs.Cases.{by_test}
use Rattle.cf_insns.proofs.SwitchParts.{completed, order, zeros, zeros_length}
use Rattle.cf_insns.proofs.Told.{Tells, takes, breaks}
use Rattle.cf_insns.proofs.SwitchesTell.{table_tells, lookup_tells}

-- an opcode with n bytes of operands, and fewer after it
short_of_operands : (offset opcode n : ℕ) (operands : List ℕ) → operand_count opcode ≡ Some n → length operands < n → Tells offset opcode operands (Err Cut)
short_of_operands offset opcode n operands has few =
    let k = n - length operands in
    let filled : length (operands ++ zeros k) ≡ n = length-append operands (zeros k) ∙ omega (arith, zeros_length k) in
    breaks Cut (completed offset opcode operands (zeros k) (omega (arith, zeros_length k)) (fixed (operands ++ zeros k) (has ∙ ap Some (sym filled))))

-- the same after wide
short_of_widened : (offset opcode n : ℕ) (operands : List ℕ) → widened_count opcode ≡ Some n → length operands < n → Tells offset op.WIDE (opcode ∷ operands) (Err Cut)
short_of_widened offset opcode n operands has few =
    let k = n - length operands in
    let filled : length (operands ++ zeros k) ≡ n = length-append operands (zeros k) ∙ omega (arith, zeros_length k) in
    breaks Cut (completed offset op.WIDE (opcode ∷ operands) (zeros k) (omega (arith, zeros_length k)) (widened (operands ++ zeros k) (has ∙ ap Some (sym filled))))

-- An opcode with one operand, which says the instruction.

byte_tells : (offset opcode : ℕ) (f : ℕ → Insn) → operand_count opcode ≡ Some 1 → ((a : ℕ) → Spells offset (opcode ∷ a ∷ []) (f a)) → (operands : List ℕ)
    → Tells offset opcode operands (byte_of operands >>= λ a. spelled (f a) 1)
byte_tells offset opcode f has spells [] = short_of_operands offset opcode 1 [] has (omega arith)
byte_tells offset opcode f has spells (a ∷ rest) = takes (f a) 1 (spells a) (omega arith)

signed_byte_tells : (offset opcode : ℕ) (f : ℤ → Insn) → operand_count opcode ≡ Some 1 → ((a : ℕ) → Spells offset (opcode ∷ a ∷ []) (f (signed_byte a))) → (operands : List ℕ)
    → Tells offset opcode operands (signed_byte_of operands >>= λ n. spelled (f n) 1)
signed_byte_tells offset opcode f has spells [] = short_of_operands offset opcode 1 [] has (omega arith)
signed_byte_tells offset opcode f has spells (a ∷ rest) = takes (f (signed_byte a)) 1 (spells a) (omega arith)

short_tells : (offset opcode : ℕ) (f : ℕ → Insn) → operand_count opcode ≡ Some 2 → ((a b : ℕ) → Spells offset (opcode ∷ a ∷ b ∷ []) (f (short a b))) → (operands : List ℕ)
    → Tells offset opcode operands (short_of operands >>= λ n. spelled (f n) 2)
short_tells offset opcode f has spells [] = short_of_operands offset opcode 2 [] has (omega arith)
short_tells offset opcode f has spells (a ∷ []) = short_of_operands offset opcode 2 (a ∷ []) has (omega arith)
short_tells offset opcode f has spells (a ∷ b ∷ rest) = takes (f (short a b)) 2 (spells a b) (omega arith)

signed_short_tells : (offset opcode : ℕ) (f : ℤ → Insn) → operand_count opcode ≡ Some 2 → ((a b : ℕ) → Spells offset (opcode ∷ a ∷ b ∷ []) (f (signed_short a b))) → (operands : List ℕ)
    → Tells offset opcode operands (signed_short_of operands >>= λ n. spelled (f n) 2)
signed_short_tells offset opcode f has spells [] = short_of_operands offset opcode 2 [] has (omega arith)
signed_short_tells offset opcode f has spells (a ∷ []) = short_of_operands offset opcode 2 (a ∷ []) has (omega arith)
signed_short_tells offset opcode f has spells (a ∷ b ∷ rest) = takes (f (signed_short a b)) 2 (spells a b) (omega arith)

signed_int_tells : (offset opcode : ℕ) (f : ℤ → Insn) → operand_count opcode ≡ Some 4 → ((a b c d : ℕ) → Spells offset (opcode ∷ a ∷ b ∷ c ∷ d ∷ []) (f (signed_int a b c d))) → (operands : List ℕ)
    → Tells offset opcode operands (signed_int_of operands >>= λ n. spelled (f n) 4)
signed_int_tells offset opcode f has spells [] = short_of_operands offset opcode 4 [] has (omega arith)
signed_int_tells offset opcode f has spells (a ∷ []) = short_of_operands offset opcode 4 (a ∷ []) has (omega arith)
signed_int_tells offset opcode f has spells (a ∷ b ∷ []) = short_of_operands offset opcode 4 (a ∷ b ∷ []) has (omega arith)
signed_int_tells offset opcode f has spells (a ∷ b ∷ c ∷ []) = short_of_operands offset opcode 4 (a ∷ b ∷ c ∷ []) has (omega arith)
signed_int_tells offset opcode f has spells (a ∷ b ∷ c ∷ d ∷ rest) = takes (f (signed_int a b c d)) 4 (spells a b c d) (omega arith)

wide_short_tells : (offset opcode : ℕ) (f : ℕ → Insn) → widened_count opcode ≡ Some 2 → ((a b : ℕ) → Spells offset (op.WIDE ∷ opcode ∷ a ∷ b ∷ []) (f (short a b))) → (operands : List ℕ)
    → Tells offset op.WIDE (opcode ∷ operands) (short_of operands >>= λ n. spelled (f n) 3)
wide_short_tells offset opcode f has spells [] = short_of_widened offset opcode 2 [] has (omega arith)
wide_short_tells offset opcode f has spells (a ∷ []) = short_of_widened offset opcode 2 (a ∷ []) has (omega arith)
wide_short_tells offset opcode f has spells (a ∷ b ∷ rest) = takes (f (short a b)) 3 (spells a b) (omega arith)

iinc_tells : (offset : ℕ) (operands : List ℕ)
    → Tells offset op.IINC operands (byte_of operands >>= λ local. signed_byte_of (drop 1 operands) >>= λ by. spelled (Increment local by) 2)
iinc_tells offset [] = short_of_operands offset op.IINC 2 [] refl (omega arith)
iinc_tells offset (a ∷ []) = short_of_operands offset op.IINC 2 (a ∷ []) refl (omega arith)
iinc_tells offset (a ∷ b ∷ rest) = takes (Increment a (signed_byte b)) 2 (iinc a b) (omega arith)

wide_iinc_tells : (offset : ℕ) (operands : List ℕ)
    → Tells offset op.WIDE (op.IINC ∷ operands) (short_of operands >>= λ local. signed_short_of (drop 2 operands) >>= λ by. spelled (Increment local by) 5)
wide_iinc_tells offset [] = short_of_widened offset op.IINC 4 [] refl (omega arith)
wide_iinc_tells offset (a ∷ []) = short_of_widened offset op.IINC 4 (a ∷ []) refl (omega arith)
wide_iinc_tells offset (a ∷ b ∷ []) = short_of_widened offset op.IINC 4 (a ∷ b ∷ []) refl (omega arith)
wide_iinc_tells offset (a ∷ b ∷ c ∷ []) = short_of_widened offset op.IINC 4 (a ∷ b ∷ c ∷ []) refl (omega arith)
wide_iinc_tells offset (a ∷ b ∷ c ∷ d ∷ rest) = takes (Increment (short a b) (signed_short c d)) 5 (wide_iinc a b c d) (omega arith)

-- an opcode that is read as out of profile, whatever follows it, begins no spelling
none_begins : (opcode : ℕ) → ((offset : ℕ) (operands : List ℕ) → instruction offset opcode operands ≡ Err OutOfProfile) → NoneBegins (opcode ∷ [])
none_begins opcode out offset more insn spells =
    let read = again spells in
    let opcode_is : opcode ≡ read.opcode = cc in
    let clash : ◌≡◌ {A = Result Spelled CodeRule} (Err OutOfProfile) (Ok (record { insn = insn; operands = length read.operands })) =
    sym (out offset (read.operands ++ [])) ∙ ap (λ o. instruction offset o (read.operands ++ [])) opcode_is ∙ read.read [] in
    cc

-- nor does any instruction begin with this opcode and the byte after it
none_begins_two : (opcode second : ℕ) → ((offset : ℕ) (operands : List ℕ) → instruction offset opcode (second ∷ operands) ≡ Err OutOfProfile) → NoneBegins (opcode ∷ second ∷ [])
none_begins_two opcode second out offset more insn spells =
    let read = again spells in
    let opcode_is : opcode ≡ read.opcode = cc in
    let operands_are : second ∷ more ≡ read.operands = cc in
    let clash : ◌≡◌ {A = Result Spelled CodeRule} (Err OutOfProfile) (Ok (record { insn = insn; operands = length read.operands })) =
    sym (out offset (more ++ [])) ∙ ap (λ o. instruction offset o ((second ∷ more) ++ [])) opcode_is ∙ ap (λ operands. instruction offset read.opcode (operands ++ [])) operands_are ∙ read.read [] in
    cc

-- all that is read of an opcode is what a group reads of it
abbrev IsReadBy : ℕ → (List ℕ → Result Spelled CodeRule) → Type 0
IsReadBy opcode group = (offset : ℕ) (operands : List ℕ) → instruction offset opcode operands ≡ group operands

out_of : (offset opcode : ℕ) → opcode ≤ 201 → IsReadBy opcode (λ _. Err OutOfProfile) → (operands : List ℕ) → Tells offset opcode operands (Err OutOfProfile)
out_of offset opcode le out operands = breaks OutOfProfile (out_of_profile opcode operands le (none_begins opcode out))

constant_tells : (offset opcode : ℕ) → opcode ≤ 201 → IsReadBy opcode (reading.constant opcode) → (operands : List ℕ) → Tells offset opcode operands (reading.constant opcode operands)
unfolding reading.constant
constant_tells offset opcode le here operands =
    by_test (Tells offset opcode operands) (eqb opcode op.NOP) _ _
    (λ is. rw (eqb-true _ _ is) (takes Nop 0 nop (omega arith)))
    (λ not_1. by_test (Tells offset opcode operands) (eqb opcode op.ACONST_NULL) _ _
    (λ is. rw (eqb-true _ _ is) (takes Null 0 aconst_null (omega arith)))
    (λ not_2. by_test (Tells offset opcode operands) (within op.ICONST_M1 op.ICONST_5 opcode) _ _
    (λ is.
    let low : op.ICONST_M1 ≤ opcode = grind (arith, nat_tests) in
    let high : opcode ≤ op.ICONST_5 = grind (arith, nat_tests) in
    let opcode_is : op.ICONST_M1 + (opcode - op.ICONST_M1) ≡ opcode = omega arith in
    let value_is : pos (opcode - op.ICONST_M1) -ℤ pos 1 ≡ pos opcode -ℤ pos 3 = omega (arith, ints) in
    takes _ 0 (subst (λ n. Spells offset (opcode ∷ []) (Constant n)) value_is (subst (λ o. Spells offset (o ∷ []) (Constant (pos (opcode - op.ICONST_M1) -ℤ pos 1))) opcode_is (iconst (opcode - op.ICONST_M1) (omega arith)))) (omega arith))
    (λ not_3. by_test (Tells offset opcode operands) (eqb opcode op.BIPUSH) _ _
    (λ is. rw (eqb-true _ _ is) (signed_byte_tells offset op.BIPUSH Constant refl bipush operands))
    (λ not_4. by_test (Tells offset opcode operands) (eqb opcode op.SIPUSH) _ _
    (λ is. rw (eqb-true _ _ is) (signed_short_tells offset op.SIPUSH Constant refl sipush operands))
    (λ not_5. by_test (Tells offset opcode operands) (eqb opcode op.LDC) _ _
    (λ is. rw (eqb-true _ _ is) (byte_tells offset op.LDC LoadConstant refl ldc operands))
    (λ not_6. by_test (Tells offset opcode operands) (eqb opcode op.LDC_W) _ _
    (λ is. rw (eqb-true _ _ is) (short_tells offset op.LDC_W LoadConstant refl ldc_w operands))
    (λ not_7. out_of offset opcode le (λ offset operands. here offset operands ∙ rw (not_1, not_2, not_3, not_4, not_5, not_6, not_7) refl) operands)))))))

load_tells : (offset opcode : ℕ) → opcode ≤ 201 → IsReadBy opcode (reading.load opcode) → (operands : List ℕ) → Tells offset opcode operands (reading.load opcode operands)
unfolding reading.load
load_tells offset opcode le here operands =
    by_test (Tells offset opcode operands) (eqb opcode op.ILOAD) _ _
    (λ is. rw (eqb-true _ _ is) (byte_tells offset op.ILOAD (Load Int) refl (load Int) operands))
    (λ not_1. by_test (Tells offset opcode operands) (eqb opcode op.ALOAD) _ _
    (λ is. rw (eqb-true _ _ is) (byte_tells offset op.ALOAD (Load Reference) refl (load Reference) operands))
    (λ not_2. by_test (Tells offset opcode operands) (within op.ILOAD_0 op.ILOAD_3 opcode) _ _
    (λ is.
    let low : op.ILOAD_0 ≤ opcode = grind (arith, nat_tests) in
    let high : opcode ≤ op.ILOAD_3 = grind (arith, nat_tests) in
    let opcode_is : op.ILOAD_0 + (opcode - op.ILOAD_0) ≡ opcode = omega arith in
    takes _ 0 (subst (λ o. Spells offset (o ∷ []) (Load Int (opcode - op.ILOAD_0))) opcode_is (load_n Int (opcode - op.ILOAD_0) (omega arith))) (omega arith))
    (λ not_3. by_test (Tells offset opcode operands) (within op.ALOAD_0 op.ALOAD_3 opcode) _ _
    (λ is.
    let low : op.ALOAD_0 ≤ opcode = grind (arith, nat_tests) in
    let high : opcode ≤ op.ALOAD_3 = grind (arith, nat_tests) in
    let opcode_is : op.ALOAD_0 + (opcode - op.ALOAD_0) ≡ opcode = omega arith in
    takes _ 0 (subst (λ o. Spells offset (o ∷ []) (Load Reference (opcode - op.ALOAD_0))) opcode_is (load_n Reference (opcode - op.ALOAD_0) (omega arith))) (omega arith))
    (λ not_4. by_test (Tells offset opcode operands) (eqb opcode op.IALOAD) _ _
    (λ is. rw (eqb-true _ _ is) (takes (Array arrays.Load) 0 iaload (omega arith)))
    (λ not_5. out_of offset opcode le (λ offset operands. here offset operands ∙ rw (not_1, not_2, not_3, not_4, not_5) refl) operands)))))

store_tells : (offset opcode : ℕ) → opcode ≤ 201 → IsReadBy opcode (reading.store opcode) → (operands : List ℕ) → Tells offset opcode operands (reading.store opcode operands)
unfolding reading.store
store_tells offset opcode le here operands =
    by_test (Tells offset opcode operands) (eqb opcode op.ISTORE) _ _
    (λ is. rw (eqb-true _ _ is) (byte_tells offset op.ISTORE (Store Int) refl (store Int) operands))
    (λ not_1. by_test (Tells offset opcode operands) (eqb opcode op.ASTORE) _ _
    (λ is. rw (eqb-true _ _ is) (byte_tells offset op.ASTORE (Store Reference) refl (store Reference) operands))
    (λ not_2. by_test (Tells offset opcode operands) (within op.ISTORE_0 op.ISTORE_3 opcode) _ _
    (λ is.
    let low : op.ISTORE_0 ≤ opcode = grind (arith, nat_tests) in
    let high : opcode ≤ op.ISTORE_3 = grind (arith, nat_tests) in
    let opcode_is : op.ISTORE_0 + (opcode - op.ISTORE_0) ≡ opcode = omega arith in
    takes _ 0 (subst (λ o. Spells offset (o ∷ []) (Store Int (opcode - op.ISTORE_0))) opcode_is (store_n Int (opcode - op.ISTORE_0) (omega arith))) (omega arith))
    (λ not_3. by_test (Tells offset opcode operands) (within op.ASTORE_0 op.ASTORE_3 opcode) _ _
    (λ is.
    let low : op.ASTORE_0 ≤ opcode = grind (arith, nat_tests) in
    let high : opcode ≤ op.ASTORE_3 = grind (arith, nat_tests) in
    let opcode_is : op.ASTORE_0 + (opcode - op.ASTORE_0) ≡ opcode = omega arith in
    takes _ 0 (subst (λ o. Spells offset (o ∷ []) (Store Reference (opcode - op.ASTORE_0))) opcode_is (store_n Reference (opcode - op.ASTORE_0) (omega arith))) (omega arith))
    (λ not_4. by_test (Tells offset opcode operands) (eqb opcode op.IASTORE) _ _
    (λ is. rw (eqb-true _ _ is) (takes (Array arrays.Store) 0 iastore (omega arith)))
    (λ not_5. out_of offset opcode le (λ offset operands. here offset operands ∙ rw (not_1, not_2, not_3, not_4, not_5) refl) operands)))))

-- what is read of an operator, or of none
abbrev of_stack_operator : Option StackOperation → Result Spelled CodeRule
of_stack_operator found = ok_or found OutOfProfile >>= λ found. spelled (Stack found) 0

stack_tells : (offset opcode : ℕ) → opcode ≤ 201 → IsReadBy opcode (λ _. of_stack_operator (reading.stack_operator opcode)) → (operands : List ℕ) → Tells offset opcode operands (of_stack_operator (reading.stack_operator opcode))
unfolding reading.stack_operator
stack_tells offset opcode le here operands =
    let P : Option StackOperation → Type 0 = λ found. Tells offset opcode operands (of_stack_operator found) in
    by_test P (eqb opcode op.POP) _ _ (λ is. rw (eqb-true _ _ is) (takes _ 0 (stack stacks.Pop) (omega arith)))
    (λ not_1. by_test P (eqb opcode op.POP2) _ _ (λ is. rw (eqb-true _ _ is) (takes _ 0 (stack stacks.Pop2) (omega arith)))
    (λ not_2. by_test P (eqb opcode op.DUP) _ _ (λ is. rw (eqb-true _ _ is) (takes _ 0 (stack stacks.Dup) (omega arith)))
    (λ not_3. by_test P (eqb opcode op.DUP_X1) _ _ (λ is. rw (eqb-true _ _ is) (takes _ 0 (stack stacks.DupX1) (omega arith)))
    (λ not_4. by_test P (eqb opcode op.DUP_X2) _ _ (λ is. rw (eqb-true _ _ is) (takes _ 0 (stack stacks.DupX2) (omega arith)))
    (λ not_5. by_test P (eqb opcode op.DUP2) _ _ (λ is. rw (eqb-true _ _ is) (takes _ 0 (stack stacks.Dup2) (omega arith)))
    (λ not_6. by_test P (eqb opcode op.DUP2_X1) _ _ (λ is. rw (eqb-true _ _ is) (takes _ 0 (stack stacks.Dup2X1) (omega arith)))
    (λ not_7. by_test P (eqb opcode op.DUP2_X2) _ _ (λ is. rw (eqb-true _ _ is) (takes _ 0 (stack stacks.Dup2X2) (omega arith)))
    (λ not_8. by_test P (eqb opcode op.SWAP) _ _ (λ is. rw (eqb-true _ _ is) (takes _ 0 (stack stacks.Swap) (omega arith)))
    (λ not_9. out_of offset opcode le (λ offset operands. here offset operands ∙ rw (not_1, not_2, not_3, not_4, not_5, not_6, not_7, not_8, not_9) refl) operands)))))))))

-- what is read of an operator, or of none
abbrev of_binary_operator : Option BinaryOperator → Result Spelled CodeRule
of_binary_operator found = ok_or found OutOfProfile >>= λ found. spelled (Binary found) 0

binary_tells : (offset opcode : ℕ) → opcode ≤ 201 → IsReadBy opcode (λ _. of_binary_operator (reading.binary_operator opcode)) → (operands : List ℕ) → Tells offset opcode operands (of_binary_operator (reading.binary_operator opcode))
unfolding reading.binary_operator
binary_tells offset opcode le here operands =
    let P : Option BinaryOperator → Type 0 = λ found. Tells offset opcode operands (of_binary_operator found) in
    by_test P (eqb opcode op.IADD) _ _ (λ is. rw (eqb-true _ _ is) (takes _ 0 (binary Add) (omega arith)))
    (λ not_1. by_test P (eqb opcode op.ISUB) _ _ (λ is. rw (eqb-true _ _ is) (takes _ 0 (binary Subtract) (omega arith)))
    (λ not_2. by_test P (eqb opcode op.IMUL) _ _ (λ is. rw (eqb-true _ _ is) (takes _ 0 (binary Multiply) (omega arith)))
    (λ not_3. by_test P (eqb opcode op.IDIV) _ _ (λ is. rw (eqb-true _ _ is) (takes _ 0 (binary Divide) (omega arith)))
    (λ not_4. by_test P (eqb opcode op.IREM) _ _ (λ is. rw (eqb-true _ _ is) (takes _ 0 (binary Remainder) (omega arith)))
    (λ not_5. by_test P (eqb opcode op.ISHL) _ _ (λ is. rw (eqb-true _ _ is) (takes _ 0 (binary ShiftLeft) (omega arith)))
    (λ not_6. by_test P (eqb opcode op.ISHR) _ _ (λ is. rw (eqb-true _ _ is) (takes _ 0 (binary ShiftRight) (omega arith)))
    (λ not_7. by_test P (eqb opcode op.IUSHR) _ _ (λ is. rw (eqb-true _ _ is) (takes _ 0 (binary ShiftRightUnsigned) (omega arith)))
    (λ not_8. by_test P (eqb opcode op.IAND) _ _ (λ is. rw (eqb-true _ _ is) (takes _ 0 (binary And) (omega arith)))
    (λ not_9. by_test P (eqb opcode op.IOR) _ _ (λ is. rw (eqb-true _ _ is) (takes _ 0 (binary Or) (omega arith)))
    (λ not_10. by_test P (eqb opcode op.IXOR) _ _ (λ is. rw (eqb-true _ _ is) (takes _ 0 (binary Xor) (omega arith)))
    (λ not_11. out_of offset opcode le (λ offset operands. here offset operands ∙ rw (not_1, not_2, not_3, not_4, not_5, not_6, not_7, not_8, not_9, not_10, not_11) refl) operands)))))))))))

math_tells : (offset opcode : ℕ) → opcode ≤ 201 → IsReadBy opcode (reading.math opcode) → (operands : List ℕ) → Tells offset opcode operands (reading.math opcode operands)
unfolding reading.math
math_tells offset opcode le here operands =
    by_test (Tells offset opcode operands) (eqb opcode op.INEG) _ _
    (λ is. rw (eqb-true _ _ is) (takes _ 0 (unary Negate) (omega arith)))
    (λ not_1. by_test (Tells offset opcode operands) (eqb opcode op.IINC) _ _
    (λ is. rw (eqb-true _ _ is) (iinc_tells offset operands))
    (λ not_2. binary_tells offset opcode le (λ offset operands. here offset operands ∙ rw (not_1, not_2) refl) operands))

conversion_tells : (offset opcode : ℕ) → opcode ≤ 201 → IsReadBy opcode (λ _. reading.conversion opcode) → (operands : List ℕ) → Tells offset opcode operands (reading.conversion opcode)
unfolding reading.conversion
conversion_tells offset opcode le here operands =
    by_test (Tells offset opcode operands) (eqb opcode op.I2B) _ _
    (λ is. rw (eqb-true _ _ is) (takes _ 0 (unary ToByte) (omega arith)))
    (λ not_1. by_test (Tells offset opcode operands) (eqb opcode op.I2C) _ _
    (λ is. rw (eqb-true _ _ is) (takes _ 0 (unary ToChar) (omega arith)))
    (λ not_2. by_test (Tells offset opcode operands) (eqb opcode op.I2S) _ _
    (λ is. rw (eqb-true _ _ is) (takes _ 0 (unary ToShort) (omega arith)))
    (λ not_3. out_of offset opcode le (λ offset operands. here offset operands ∙ rw (not_1, not_2, not_3) refl) operands)))

condition_index-condition : (n : ℕ) → n ≤ 5 → condition_index (reading.condition n) ≡ n
unfolding reading.condition
condition_index-condition n le = up_to_5 (λ n. condition_index (reading.condition n) ≡ n) refl refl refl refl refl refl n le

-- ifeq to if_icmple have two bytes of operands
is_two : (opcode : ℕ) → op.IFEQ ≤ opcode → opcode ≤ op.IF_ICMPLE → operand_count opcode ≡ Some 2
is_two opcode low high =
    let opcode_is : op.IFEQ + (opcode - op.IFEQ) ≡ opcode = omega arith in
    subst (λ o. operand_count o ≡ Some 2) opcode_is (up_to_11 (opcode - op.IFEQ) (omega arith))
  where
    up_to_11 : (n : ℕ) → n ≤ 11 → operand_count (153 + n) ≡ Some 2
    up_to_11 n le = elim (order n 5) [
      | inl low ↦ up_to_5 (λ n. operand_count (153 + n) ≡ Some 2) refl refl refl refl refl refl n low
      | inr high ↦ let n_is : 6 + (n - 6) ≡ n = omega arith in subst (λ n. operand_count (153 + n) ≡ Some 2) n_is (up_to_5 (λ n. operand_count (153 + (6 + n)) ≡ Some 2) refl refl refl refl refl refl (n - 6) (omega arith))
    ]

comparison_tells : (offset opcode : ℕ) → opcode ≤ 201 → IsReadBy opcode (reading.comparison opcode) → (operands : List ℕ) → Tells offset opcode operands (reading.comparison opcode operands)
unfolding reading.comparison
comparison_tells offset opcode le here operands =
    by_test (Tells offset opcode operands) (within op.IFEQ op.IFLE opcode) _ _
    (λ is.
    let low : op.IFEQ ≤ opcode = grind (arith, nat_tests) in
    let high : opcode ≤ op.IFLE = grind (arith, nat_tests) in
    let index = opcode - op.IFEQ in
    let opcode_is : op.IFEQ + condition_index (reading.condition index) ≡ opcode = omega (arith, condition_index-condition index (omega arith)) in
    signed_short_tells offset opcode (If (reading.condition index)) (is_two opcode low (omega arith)) (λ a b. subst (λ o. Spells offset (o ∷ a ∷ b ∷ []) (If (reading.condition index) (signed_short a b))) opcode_is (if (reading.condition index) a b)) operands)
    (λ not_1. by_test (Tells offset opcode operands) (within op.IF_ICMPEQ op.IF_ICMPLE opcode) _ _
    (λ is.
    let low : op.IF_ICMPEQ ≤ opcode = grind (arith, nat_tests) in
    let high : opcode ≤ op.IF_ICMPLE = grind (arith, nat_tests) in
    let index = opcode - op.IF_ICMPEQ in
    let opcode_is : op.IF_ICMPEQ + condition_index (reading.condition index) ≡ opcode = omega (arith, condition_index-condition index (omega arith)) in
    signed_short_tells offset opcode (IfCompare (reading.condition index)) (is_two opcode (omega arith) high) (λ a b. subst (λ o. Spells offset (o ∷ a ∷ b ∷ []) (IfCompare (reading.condition index) (signed_short a b))) opcode_is (if_icmp (reading.condition index) a b)) operands)
    (λ not_2. by_test (Tells offset opcode operands) (eqb opcode op.IF_ACMPEQ) _ _
    (λ is. rw (eqb-true _ _ is) (signed_short_tells offset op.IF_ACMPEQ (IfSame equality.Equal) refl (if_acmp equality.Equal) operands))
    (λ not_3. by_test (Tells offset opcode operands) (eqb opcode op.IF_ACMPNE) _ _
    (λ is. rw (eqb-true _ _ is) (signed_short_tells offset op.IF_ACMPNE (IfSame equality.NotEqual) refl (if_acmp equality.NotEqual) operands))
    (λ not_4. out_of offset opcode le (λ offset operands. here offset operands ∙ rw (not_1, not_2, not_3, not_4) refl) operands))))

control_tells : (offset opcode : ℕ) → opcode ≤ 201 → IsReadBy opcode (reading.control opcode) → (operands : List ℕ) → Tells offset opcode operands (reading.control opcode operands)
unfolding reading.control
control_tells offset opcode le here operands =
    by_test (Tells offset opcode operands) (eqb opcode op.GOTO) _ _
    (λ is. rw (eqb-true _ _ is) (signed_short_tells offset op.GOTO Goto refl goto operands))
    (λ not_1. by_test (Tells offset opcode operands) (eqb opcode op.IRETURN) _ _
    (λ is. rw (eqb-true _ _ is) (takes _ 0 (return_value Int) (omega arith)))
    (λ not_2. by_test (Tells offset opcode operands) (eqb opcode op.ARETURN) _ _
    (λ is. rw (eqb-true _ _ is) (takes _ 0 (return_value Reference) (omega arith)))
    (λ not_3. by_test (Tells offset opcode operands) (eqb opcode op.RETURN) _ _
    (λ is. rw (eqb-true _ _ is) (takes _ 0 return (omega arith)))
    (λ not_4. out_of offset opcode le (λ offset operands. here offset operands ∙ rw (not_1, not_2, not_3, not_4) refl) operands))))

widened_tells : (offset opcode : ℕ) (operands : List ℕ) → IsReadBy op.WIDE reading.wide → Tells offset op.WIDE (opcode ∷ operands) (reading.wide (opcode ∷ operands))
unfolding reading.wide
widened_tells offset opcode operands here =
    by_test (Tells offset op.WIDE (opcode ∷ operands)) (eqb opcode op.ILOAD) _ _
    (λ is. rw (eqb-true _ _ is) (wide_short_tells offset op.ILOAD (Load Int) refl (wide_load Int) operands))
    (λ not_1. by_test (Tells offset op.WIDE (opcode ∷ operands)) (eqb opcode op.ALOAD) _ _
    (λ is. rw (eqb-true _ _ is) (wide_short_tells offset op.ALOAD (Load Reference) refl (wide_load Reference) operands))
    (λ not_2. by_test (Tells offset op.WIDE (opcode ∷ operands)) (eqb opcode op.ISTORE) _ _
    (λ is. rw (eqb-true _ _ is) (wide_short_tells offset op.ISTORE (Store Int) refl (wide_store Int) operands))
    (λ not_3. by_test (Tells offset op.WIDE (opcode ∷ operands)) (eqb opcode op.ASTORE) _ _
    (λ is. rw (eqb-true _ _ is) (wide_short_tells offset op.ASTORE (Store Reference) refl (wide_store Reference) operands))
    (λ not_4. by_test (Tells offset op.WIDE (opcode ∷ operands)) (eqb opcode op.IINC) _ _
    (λ is. rw (eqb-true _ _ is) (wide_iinc_tells offset operands))
    (λ not_5. breaks OutOfProfile (not_widened opcode operands (none_begins_two op.WIDE opcode (λ offset operands. here offset (opcode ∷ operands) ∙ rw (not_1, not_2, not_3, not_4, not_5) refl))))))))

wide_tells : (offset : ℕ) → IsReadBy op.WIDE reading.wide → (operands : List ℕ) → Tells offset op.WIDE operands (reading.wide operands)
unfolding reading.wide
wide_tells offset here [] = breaks Cut (completed offset op.WIDE [] (op.ILOAD ∷ zeros 2) (omega arith) (widened (zeros 2) refl))
wide_tells offset here (opcode ∷ operands) = widened_tells offset opcode operands here

-- reading by the group of an opcode, at the number that the opcode is
read_at : (opcode n : ℕ) (group : ℕ → List ℕ → Result Spelled CodeRule) → opcode ≡ n → IsReadBy opcode (group opcode) → IsReadBy n (group n)
read_at opcode n group is here = subst (λ n. IsReadBy n (group n)) is here

extended_tells : (offset opcode : ℕ) → opcode ≤ 201 → IsReadBy opcode (reading.extended opcode) → (operands : List ℕ) → Tells offset opcode operands (reading.extended opcode operands)
unfolding reading.extended
extended_tells offset opcode le here operands =
    by_test (Tells offset opcode operands) (eqb opcode op.WIDE) _ _
    (λ is. rw (eqb-true _ _ is) (wide_tells offset (λ offset operands. read_at opcode op.WIDE reading.extended (eqb-true _ _ is) here offset operands) operands))
    (λ not_1. by_test (Tells offset opcode operands) (eqb opcode op.IFNULL) _ _
    (λ is. rw (eqb-true _ _ is) (signed_short_tells offset op.IFNULL (IfNull equality.Equal) refl (if_null equality.Equal) operands))
    (λ not_2. by_test (Tells offset opcode operands) (eqb opcode op.IFNONNULL) _ _
    (λ is. rw (eqb-true _ _ is) (signed_short_tells offset op.IFNONNULL (IfNull equality.NotEqual) refl (if_null equality.NotEqual) operands))
    (λ not_3. by_test (Tells offset opcode operands) (eqb opcode op.GOTO_W) _ _
    (λ is. rw (eqb-true _ _ is) (signed_int_tells offset op.GOTO_W Goto refl goto_w operands))
    (λ not_4. out_of offset opcode le (λ offset operands. here offset operands ∙ rw (not_1, not_2, not_3, not_4) refl) operands))))

invoke_interface_tells : (offset : ℕ) (operands : List ℕ) → Tells offset op.INVOKEINTERFACE operands (reading.invoke_interface operands)
unfolding reading.invoke_interface
invoke_interface_tells offset [] = short_of_operands offset op.INVOKEINTERFACE 4 [] refl (omega arith)
invoke_interface_tells offset (a ∷ []) = short_of_operands offset op.INVOKEINTERFACE 4 (a ∷ []) refl (omega arith)
invoke_interface_tells offset (a ∷ b ∷ []) = short_of_operands offset op.INVOKEINTERFACE 4 (a ∷ b ∷ []) refl (omega arith)
invoke_interface_tells offset (a ∷ b ∷ c ∷ []) = short_of_operands offset op.INVOKEINTERFACE 4 (a ∷ b ∷ c ∷ []) refl (omega arith)
invoke_interface_tells offset (a ∷ b ∷ count ∷ byte ∷ rest) =
    by_test (Tells offset op.INVOKEINTERFACE (a ∷ b ∷ count ∷ byte ∷ rest)) (eqb byte 0) _ _
    (λ is. rw (eqb-true _ _ is) (takes (InvokeInterface (short a b) count) 4 (invokeinterface a b count) (omega arith)))
    (λ not_0. breaks Padding (fourth a b count byte rest (λ is_0. false≢true (sym not_0 ∙ eq-eqb byte 0 is_0))))

new_array_tells : (offset : ℕ) → IsReadBy op.NEWARRAY reading.new_array → (operands : List ℕ) → Tells offset op.NEWARRAY operands (reading.new_array operands)
unfolding reading.new_array
new_array_tells offset here [] = short_of_operands offset op.NEWARRAY 1 [] refl (omega arith)
new_array_tells offset here (kind ∷ rest) =
    by_test (Tells offset op.NEWARRAY (kind ∷ rest)) (eqb kind 10) _ _
    (λ is. rw (eqb-true _ _ is) (takes _ 1 newarray (omega arith)))
    (λ not_1. breaks OutOfProfile (other_array kind rest (none_begins_two op.NEWARRAY kind (λ offset operands. here offset (kind ∷ operands) ∙ rw not_1 refl))))

member_tells : (offset opcode : ℕ) → opcode ≤ 201 → IsReadBy opcode (reading.member opcode) → (operands : List ℕ) → Tells offset opcode operands (reading.member opcode operands)
unfolding reading.member
member_tells offset opcode le here operands =
    by_test (Tells offset opcode operands) (eqb opcode op.GETSTATIC) _ _
    (λ is. rw (eqb-true _ _ is) (short_tells offset op.GETSTATIC (Field GetStatic) refl (field GetStatic) operands))
    (λ not_1. by_test (Tells offset opcode operands) (eqb opcode op.GETFIELD) _ _
    (λ is. rw (eqb-true _ _ is) (short_tells offset op.GETFIELD (Field GetField) refl (field GetField) operands))
    (λ not_2. by_test (Tells offset opcode operands) (eqb opcode op.PUTFIELD) _ _
    (λ is. rw (eqb-true _ _ is) (short_tells offset op.PUTFIELD (Field PutField) refl (field PutField) operands))
    (λ not_3. by_test (Tells offset opcode operands) (eqb opcode op.INVOKEVIRTUAL) _ _
    (λ is. rw (eqb-true _ _ is) (short_tells offset op.INVOKEVIRTUAL (Invoke Virtual) refl (invoke Virtual) operands))
    (λ not_4. by_test (Tells offset opcode operands) (eqb opcode op.INVOKESPECIAL) _ _
    (λ is. rw (eqb-true _ _ is) (short_tells offset op.INVOKESPECIAL (Invoke Special) refl (invoke Special) operands))
    (λ not_5. by_test (Tells offset opcode operands) (eqb opcode op.INVOKESTATIC) _ _
    (λ is. rw (eqb-true _ _ is) (short_tells offset op.INVOKESTATIC (Invoke Static) refl (invoke Static) operands))
    (λ not_6. by_test (Tells offset opcode operands) (eqb opcode op.INVOKEINTERFACE) _ _
    (λ is. rw (eqb-true _ _ is) (invoke_interface_tells offset operands))
    (λ not_7. by_test (Tells offset opcode operands) (eqb opcode op.NEW) _ _
    (λ is. rw (eqb-true _ _ is) (short_tells offset op.NEW (Class New) refl (class New) operands))
    (λ not_8. by_test (Tells offset opcode operands) (eqb opcode op.NEWARRAY) _ _
    (λ is. rw (eqb-true _ _ is) (new_array_tells offset (λ offset operands. read_at opcode op.NEWARRAY reading.member (eqb-true _ _ is) here offset operands) operands))
    (λ not_9. by_test (Tells offset opcode operands) (eqb opcode op.ARRAYLENGTH) _ _
    (λ is. rw (eqb-true _ _ is) (takes _ 0 arraylength (omega arith)))
    (λ not_10. by_test (Tells offset opcode operands) (eqb opcode op.ATHROW) _ _
    (λ is. rw (eqb-true _ _ is) (takes _ 0 athrow (omega arith)))
    (λ not_11. by_test (Tells offset opcode operands) (eqb opcode op.CHECKCAST) _ _
    (λ is. rw (eqb-true _ _ is) (short_tells offset op.CHECKCAST (Class CheckCast) refl (class CheckCast) operands))
    (λ not_12. by_test (Tells offset opcode operands) (eqb opcode op.INSTANCEOF) _ _
    (λ is. rw (eqb-true _ _ is) (short_tells offset op.INSTANCEOF (Class InstanceOf) refl (class InstanceOf) operands))
    (λ not_13. out_of offset opcode le (λ offset operands. here offset operands ∙ rw (not_1, not_2, not_3, not_4, not_5, not_6, not_7, not_8, not_9, not_10, not_11, not_12, not_13) refl) operands)))))))))))))

plain_tells : (offset opcode : ℕ) → IsReadBy opcode (reading.plain opcode) → (operands : List ℕ) → Tells offset opcode operands (reading.plain opcode operands)
unfolding reading.plain
plain_tells offset opcode here operands =
    by_test (Tells offset opcode operands) (nat_le opcode op.LDC2_W) _ _ (λ is. constant_tells offset opcode (grind (arith, nat_tests)) (λ offset operands. here offset operands ∙ rw (is) refl) operands)
    (λ over_1. by_test (Tells offset opcode operands) (nat_le opcode op.SALOAD) _ _ (λ is. load_tells offset opcode (grind (arith, nat_tests)) (λ offset operands. here offset operands ∙ rw (over_1, is) refl) operands)
    (λ over_2. by_test (Tells offset opcode operands) (nat_le opcode op.SASTORE) _ _ (λ is. store_tells offset opcode (grind (arith, nat_tests)) (λ offset operands. here offset operands ∙ rw (over_1, over_2, is) refl) operands)
    (λ over_3. by_test (Tells offset opcode operands) (nat_le opcode op.SWAP) _ _ (λ is. stack_tells offset opcode (grind (arith, nat_tests)) (λ offset operands. here offset operands ∙ rw (over_1, over_2, over_3, is) refl) operands)
    (λ over_4. by_test (Tells offset opcode operands) (nat_le opcode op.IINC) _ _ (λ is. math_tells offset opcode (grind (arith, nat_tests)) (λ offset operands. here offset operands ∙ rw (over_1, over_2, over_3, over_4, is) refl) operands)
    (λ over_5. by_test (Tells offset opcode operands) (nat_le opcode op.I2S) _ _ (λ is. conversion_tells offset opcode (grind (arith, nat_tests)) (λ offset operands. here offset operands ∙ rw (over_1, over_2, over_3, over_4, over_5, is) refl) operands)
    (λ over_6. by_test (Tells offset opcode operands) (nat_le opcode op.IF_ACMPNE) _ _ (λ is. comparison_tells offset opcode (grind (arith, nat_tests)) (λ offset operands. here offset operands ∙ rw (over_1, over_2, over_3, over_4, over_5, over_6, is) refl) operands)
    (λ over_7. by_test (Tells offset opcode operands) (nat_le opcode op.RETURN) _ _ (λ is. control_tells offset opcode (grind (arith, nat_tests)) (λ offset operands. here offset operands ∙ rw (over_1, over_2, over_3, over_4, over_5, over_6, over_7, is) refl) operands)
    (λ over_8. by_test (Tells offset opcode operands) (nat_le opcode op.INSTANCEOF) _ _ (λ is. member_tells offset opcode (grind (arith, nat_tests)) (λ offset operands. here offset operands ∙ rw (over_1, over_2, over_3, over_4, over_5, over_6, over_7, over_8, is) refl) operands)
    (λ over_9. by_test (Tells offset opcode operands) (nat_le opcode op.JSR_W) _ _ (λ is. extended_tells offset opcode (grind (arith, nat_tests)) (λ offset operands. here offset operands ∙ rw (over_1, over_2, over_3, over_4, over_5, over_6, over_7, over_8, over_9, is) refl) operands)
    (λ over_10. breaks Opcode (no_opcode opcode operands (grind (arith, nat_tests)))))))))))))

-- what is read of an opcode and operands is spelled so, or the rule is broken
pub tells : (offset opcode : ℕ) (operands : List ℕ) → Tells offset opcode operands (instruction offset opcode operands)
unfolding instruction
tells offset opcode operands =
    by_test (Tells offset opcode operands) (eqb opcode op.TABLESWITCH) _ _
    (λ is. rw (eqb-true _ _ is) (table_tells offset operands))
    (λ not_1. by_test (Tells offset opcode operands) (eqb opcode op.LOOKUPSWITCH) _ _
    (λ is. rw (eqb-true _ _ is) (lookup_tells offset operands))
    (λ not_2. plain_tells offset opcode (λ offset operands. rw (not_1, not_2) refl) operands))
