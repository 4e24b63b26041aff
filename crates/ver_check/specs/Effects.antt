-- The effect of each instruction on a frame (JVMS 4.10.1.9): the frame after it, or the first rule that it breaks.
use Rattle.std.specs.Prelude.{ℕ, Bool, true, false, not, if◌then◌else◌, Option, Some, None, Result, Ok, Err, List, [], ◌∷◌, is_none, codes, slice_get}
use Rattle.std.specs.Option.{option_map_or}
use Rattle.cf_insns.specs.declared.insn.ArrayOperation.{ArrayOperation}
use Rattle.cf_insns.specs.declared.insn.ArrayOperation.TheVariants as array
use Rattle.cf_insns.specs.declared.insn.ValueKind.TheVariants as kind
use Rattle.cls_resolve.specs.declared.named.CastType.{CastType}
use Rattle.cls_resolve.specs.declared.named.CastType.TheVariants as cast
use Rattle.cls_link.specs.declared.linked_code.LinkedInsn.{LinkedInsn}
use Rattle.cls_link.specs.declared.linked_code.LinkedInsn.TheVariants as insn
use Rattle.cls_link.specs.declared.linked_code.LinkedSwitch.{LinkedSwitch}
use Rattle.cls_link.specs.declared.linked_code.LinkedSwitch.TheVariants as switch
use Rattle.cls_set.specs.declared.class.Class.{Class}
use Rattle.cls_set.specs.Classes.{number_of}
use Rattle.space_ids.specs.declared.ids.ClassId.{ClassId}
use Rattle.ver_check.specs.Bodies.{Body}
use Rattle.ver_check.specs.Members.{call, call_interface, field_at, get_field, make_new, method_at, put_field}
use Rattle.ver_check.specs.Steps.{◌>>=◌, combined, demand, found_or, give, incremented, load, rearranged, replaced, store, take, take_two}
use Rattle.ver_rules.specs.Wants.{is_int, is_reference}
use Rattle.ver_rules.specs.declared.fault.CheckRule.{CheckRule}
use Rattle.ver_rules.specs.declared.fault.CheckRule.TheVariants as rule
use Rattle.ver_rules.specs.declared.want.Want.TheVariants as want
use Rattle.ver_frames.specs.Frames.{Frame}
use Rattle.ver_frames.specs.declared.vtype.VType.{VType}
use Rattle.ver_frames.specs.declared.vtype.VType.TheVariants.{Top, Int, Null, Object, IntArray}

-- At one instruction the local variable comes first, then the operands from the top, then further conditions, then the result of the
-- method, then the room on the operand stack.

-- ---- arrays of ints

unfoldable pub array_effect : Body → ArrayOperation → Frame → Result Frame CheckRule
array_effect body array.New f = take body want.Int f >>= give body IntArray
array_effect body array.Load f = take body want.Int f >>= take body (want.Fits IntArray) >>= give body Int
array_effect body array.Store f = take body want.Int f >>= take body want.Int >>= take body (want.Fits IntArray)
array_effect body array.Length f = take body (want.Fits IntArray) f >>= give body Int

-- ---- returns and athrow

-- the type of a method's result, if that is a reference
abbrev pub reference_result : Option VType → Option VType
reference_result None = None
reference_result (Some t) = if is_reference t then Some t else None

-- ireturn: the method's result is int
unfoldable pub return_int : Body → Frame → Result Frame CheckRule
return_int body f = take body want.Int f >>= demand rule.Return (option_map_or is_int body.result false)

-- areturn: the value fits the method's result; in a method with no reference as its result the rule on results is broken
unfoldable pub return_reference : Body → Frame → Result Frame CheckRule
return_reference body f =
    option_map_or (λ (t : VType). take body (want.Fits t) f) (reference_result body.result) (take body want.Reference f >>= λ g. Err rule.Return)

-- return: the method has no result, and if it is an `<init>`, it has called another one
unfoldable pub return_nothing : Body → Frame → Result Frame CheckRule
return_nothing body f =
    demand rule.Uninitialized (not f.flag_this_uninit) f >>= demand rule.Return (is_none body.result)

-- the type of what is thrown: java/lang/Throwable, which stands in every class set
abbrev pub throwable : List Class → VType
throwable classes = option_map_or Object (number_of classes (codes "java/lang/Throwable")) Top

-- ---- casts

abbrev pub cast_vtype : CastType → VType
cast_vtype (cast.Class class) = Object class
cast_vtype cast.IntArray = IntArray

-- ---- all instructions

-- the effect of the instruction at an offset
unfoldable pub effect : Body → ℕ → LinkedInsn → Frame → Result Frame CheckRule
effect body at insn.Nop f = Ok f
effect body at insn.Null f = give body Null f
effect body at (insn.Constant value) f = give body Int f
effect body at (insn.Load k n) f = load body k n f
effect body at (insn.Store k n) f = store body k n f
effect body at (insn.Increment n by) f = incremented body n f
effect body at (insn.Stack operation) f = rearranged body operation f
effect body at (insn.Unary operator) f = replaced body want.Int Int f
effect body at (insn.Binary operator) f = combined body f
effect body at (insn.Array operation) f = array_effect body operation f
effect body at (insn.If condition target) f = take body want.Int f
effect body at (insn.IfCompare condition target) f = take_two body want.Int f
effect body at (insn.IfSame equality target) f = take_two body want.Reference f
effect body at (insn.IfNull equality target) f = take body want.Reference f
effect body at (insn.Goto target) f = Ok f
effect body at (insn.Switch index) f = take body want.Int f
effect body at (insn.ReturnValue kind.Int) f = return_int body f
effect body at (insn.ReturnValue kind.Reference) f = return_reference body f
effect body at insn.Return f = return_nothing body f
effect body at insn.Throw f = take body (want.Fits (throwable body.classes)) f
effect body at (insn.GetField class m) f = found_or rule.Mismatch (field_at body.classes m) >>= λ field. get_field body class field f
effect body at (insn.PutField class m) f = found_or rule.Mismatch (field_at body.classes m) >>= λ field. put_field body class m field f
effect body at (insn.Invoke k class m) f = found_or rule.Mismatch (method_at body.classes m) >>= λ method. call body k class method f
effect body at (insn.InvokeInterface count class m) f =
    found_or rule.Mismatch (method_at body.classes m) >>= λ method. call_interface body count class method f
effect body at (insn.New class) f = make_new body at f
effect body at (insn.CheckCast type) f = replaced body want.Initialized (cast_vtype type) f
effect body at (insn.InstanceOf type) f = replaced body want.Initialized Int f

-- ---- what comes after an instruction

-- whether the next instruction may come after it
abbrev pub falls_through : LinkedInsn → Bool
falls_through (insn.Goto target) = false
falls_through (insn.Switch index) = false
falls_through (insn.ReturnValue k) = false
falls_through insn.Return = false
falls_through insn.Throw = false
falls_through _ = true

-- what a switch goes to: the default target first, then the others in order
abbrev pub switch_targets : LinkedSwitch → List ℕ
switch_targets (switch.Table default low targets) = default ∷ targets
switch_targets (switch.Lookup default keys targets) = default ∷ targets

-- the indices of the instructions to which an instruction may branch
abbrev pub targets : Body → LinkedInsn → List ℕ
targets body (insn.If condition target) = target ∷ []
targets body (insn.IfCompare condition target) = target ∷ []
targets body (insn.IfSame equality target) = target ∷ []
targets body (insn.IfNull equality target) = target ∷ []
targets body (insn.Goto target) = target ∷ []
targets body (insn.Switch index) = option_map_or switch_targets (slice_get body.switches index) []
targets body _ = []
