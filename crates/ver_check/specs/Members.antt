-- The effect of the instructions on fields and methods, and of `new` (JVMS 4.10.1.9).
use Rattle.std.specs.Prelude.{ℕ, suc, Bool, true, false, not, nat_eq, ◌==◌, ◌||◌, ◌&&◌, if◌then◌else◌, Option, Some, None, Result, Ok, Err, List, [], ◌∷◌, length, map, reverse, bytes_eq, codes, option_and_then, slice_get}
use Rattle.std.specs.List.{list_any}
use Rattle.std.specs.Option.{option_map_or}
use Rattle.cf_insns.specs.declared.insn.InvokeKind.{InvokeKind}
use Rattle.cf_insns.specs.declared.insn.InvokeKind.TheVariants.{Virtual, Special, Static}
use Rattle.cf_reader.specs.declared.class_file.Field.{Field}
use Rattle.cf_reader.specs.declared.class_file.Method.{Method}
use Rattle.cf_text.specs.declared.types.FieldType.{FieldType}
use Rattle.cls_resolve.specs.declared.named.MemberIndex.{MemberIndex}
use Rattle.cls_set.specs.declared.class.Class.{Class}
use Rattle.space_ids.specs.declared.ids.ClassId.{ClassId}
use Rattle.ver_check.specs.Bodies.{Body}
use Rattle.ver_check.specs.Steps.{◌>>=◌, demand, give, take, take_all}
use Rattle.ver_rules.specs.declared.fault.CheckRule.{CheckRule}
use Rattle.ver_rules.specs.declared.fault.CheckRule.TheVariants as rule
use Rattle.ver_rules.specs.declared.want.Want.{Want}
use Rattle.ver_rules.specs.declared.want.Want.TheVariants as want
use Rattle.ver_frames.specs.AssignableTest.{is_assignable, superclass_of}
use Rattle.ver_frames.specs.Changes.{cleared, is_made_at, made_is, map_locals, map_types, this_is}
use Rattle.ver_frames.specs.Frames.{Frame}
use Rattle.ver_frames.specs.Made.{made_at}
use Rattle.ver_frames.specs.Types.{field_vtype}
use Rattle.ver_frames.specs.declared.vtype.VType.{VType}
use Rattle.ver_frames.specs.declared.vtype.VType.TheVariants.{Object, Uninitialized, UninitializedThis}

-- the field that a class declares, by its index: linking finds one for each instruction that names a field
abbrev pub field_at : List Class → MemberIndex → Option Field
field_at classes m = option_and_then (λ (c : Class). slice_get c.file.fields m.index) (slice_get classes m.class.0)

-- the method that a class declares, by its index: linking finds one for each instruction that names a method
abbrev pub method_at : List Class → MemberIndex → Option Method
method_at classes m = option_and_then (λ (c : Class). slice_get c.file.methods m.index) (slice_get classes m.class.0)

-- ---- getfield, putfield

-- an object of the named class becomes the value of the field
unfoldable pub get_field : Body → ClassId → Field → Frame → Result Frame CheckRule
get_field body class field f =
    take body (want.Fits (Object class)) f >>= give body (field_vtype body.classes field.kind)

-- whether a field is written that the class of this `<init>` declares: that may be done before it has called another `<init>`
abbrev pub is_own_field : Body → MemberIndex → Bool
is_own_field body m = body.is_init && nat_eq m.class.0 body.class_id.0

-- what is asked of the object whose field is written: one of the named class, or for an own field the receiver that is not initialized
abbrev pub written_object : Body → ClassId → MemberIndex → Want
written_object body class m = if is_own_field body m then want.FitsOrThis class else want.Fits (Object class)

-- the value, which fits the field, and the object below it
unfoldable pub put_field : Body → ClassId → MemberIndex → Field → Frame → Result Frame CheckRule
put_field body class m field f =
    take body (want.Fits (field_vtype body.classes field.kind)) f >>= take body (written_object body class m)

-- ---- new

-- no operand may be what the same instruction made before, and no local variable is that any more
unfoldable pub make_new : Body → ℕ → Frame → Result Frame CheckRule
make_new body at f =
    demand rule.Uninitialized (not (list_any (is_made_at at) f.stack)) f >>= λ g. give body (Uninitialized at) (map_locals (cleared at) g)

-- ---- invokevirtual, invokespecial, invokestatic, invokeinterface

-- the types of the arguments of a method as they lie on the stack, the last on top
unfoldable pub arguments_of : Body → Method → List VType
arguments_of body method = reverse (map (field_vtype body.classes) method.types.parameters)

-- puts the result of a method on top, if it has one
unfoldable pub give_result : Body → Method → Frame → Result Frame CheckRule
give_result body method f = option_map_or (λ (kind : FieldType). give body (field_vtype body.classes kind) f) method.types.result (Ok f)

-- the frame without the arguments of a method
abbrev pub take_arguments : Body → Method → Frame → Result Frame CheckRule
take_arguments body method f = take_all body (arguments_of body method) f

unfoldable pub call_static : Body → Method → Frame → Result Frame CheckRule
call_static body method f = take_arguments body method f >>= give_result body method

-- the receiver is one of the named class
unfoldable pub call_virtual : Body → ClassId → Method → Frame → Result Frame CheckRule
call_virtual body class method f =
    take_arguments body method f >>= take body (want.Fits (Object class)) >>= give_result body method

-- the receiver is one of the named interface, and the count is that of the receiver and the arguments
unfoldable pub call_interface : Body → ℕ → ClassId → Method → Frame → Result Frame CheckRule
call_interface body count class method f =
    take_arguments body method f >>= take body (want.Fits (Object class))
    >>= demand rule.Mismatch (count == suc (length method.types.parameters)) >>= give_result body method

-- the receiver is one of the current class, which may stand for the named class
unfoldable pub call_super : Body → ClassId → Method → Frame → Result Frame CheckRule
call_super body class method f =
    take_arguments body method f >>= take body (want.Fits (Object body.class_id))
    >>= demand rule.Mismatch (is_assignable body.classes (Object body.class_id) (Object class)) >>= give_result body method

-- whether the `new` at an offset names the class
abbrev pub is_made_of : Body → ℕ → ClassId → Bool
is_made_of body offset class = option_map_or (λ (made : ClassId). nat_eq made.0 class.0) (made_at body.insns body.offsets offset) false

-- whether the class is the direct superclass of the current class
abbrev pub is_own_superclass : Body → ClassId → Bool
is_own_superclass body class = option_map_or (λ (up : ClassId). nat_eq up.0 class.0) (superclass_of body.classes body.class_id) false

-- whether the class is the current class or its direct superclass
abbrev pub is_own_init : Body → ClassId → Bool
is_own_init body class = nat_eq class.0 body.class_id.0 || is_own_superclass body class

-- the receiver is initialized, in every copy, and the flag goes
abbrev pub this_initialized : Body → Frame → Frame
this_initialized body f = record (map_types (this_is body.class_id) f) { flag_this_uninit = false }

-- `<init>` of a class runs on the operand on top: on what a `new` of the class made, or on the receiver that is not initialized, by an
-- `<init>` of its class or of the superclass of that. Every copy is initialized then; no other operand may be there
unfoldable pub construct : Body → ClassId → Frame → Result Frame CheckRule
construct body class f = construct_on f.stack
  where
    construct_on : List VType → Result Frame CheckRule
    construct_on [] = Err rule.Underflow
    construct_on (Uninitialized offset ∷ below) =
        if is_made_of body offset class then Ok (map_types (made_is offset class) (record f { stack = below })) else Err rule.Mismatch
    construct_on (UninitializedThis ∷ below) =
        if is_own_init body class then Ok (this_initialized body (record f { stack = below })) else Err rule.Mismatch
    construct_on (_ ∷ below) = Err rule.Mismatch

-- whether a method is an `<init>`
abbrev pub is_init : Method → Bool
is_init method = bytes_eq method.name (codes "<init>")

unfoldable pub call_special : Body → ClassId → Method → Frame → Result Frame CheckRule
call_special body class method f =
    if is_init method then take_arguments body method f >>= construct body class else call_super body class method f

unfoldable pub call : Body → InvokeKind → ClassId → Method → Frame → Result Frame CheckRule
call body Virtual class method f = call_virtual body class method f
call body Special class method f = call_special body class method f
call body Static class method f = call_static body method f
