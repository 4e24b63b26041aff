-- Instructions are type safe (JVMS 4.10.1.9): if the checker's effect of an instruction takes the type frame of a method, the act of the
-- instruction takes a machine that fits the frame.
use Rattle.std.specs.Prelude.{◌≡◌, ℕ, ◌+◌, ◌<◌, true, ℤ, Option, Some, Ok, List, length, slice_get, IsSome, codes, false, map, option_map}
use Rattle.std.specs.List.{AllByRecursion, AllZip}
use Rattle.cf_reader.specs.declared.class_file.Field.{Field}
use Rattle.cls_link.specs.Targets.{index_from}
use Rattle.cls_resolve.specs.Meanings.{field_of}
use Rattle.cls_resolve.specs.declared.named.CastType.{CastType}
use Rattle.cls_resolve.specs.declared.named.CastType.TheVariants as cast
use Rattle.cls_resolve.specs.declared.named.MemberIndex.{MemberIndex}
use Rattle.cls_set.specs.Classes.{number_of}
use Rattle.space_ids.specs.declared.ids.ClassId.{ClassId}
use Rattle.ver_check.specs.Members.{field_at, method_at}
use Rattle.ver_frames.specs.Assignable.{IsObjectAssignable}
use Rattle.ver_frames.specs.Types.{field_vtype}
use Rattle.vm_code.specs.Classes.{is_subtype}
use Rattle.vm_code.specs.Fields.{kinds_of, slot_of}
use Rattle.vm_heap.specs.declared.heap.WordKind.{WordKind}
use Rattle.vm_heap.specs.Tagged.{Site}
use Rattle.vm_typing.specs.Fits.{held_by}
use Rattle.vm_typing.specs.Owed.{HasKind, IsCallee, Selects, Takes}
use Rattle.cf_insns.specs.declared.insn.ArrayOperation.{ArrayOperation}
use Rattle.cf_insns.specs.declared.insn.BinaryOperator.{BinaryOperator}
use Rattle.cf_insns.specs.declared.insn.Condition.{Condition}
use Rattle.cf_insns.specs.declared.insn.Equality.{Equality}
use Rattle.cf_insns.specs.declared.insn.StackOperation.{StackOperation}
use Rattle.cf_insns.specs.declared.insn.UnaryOperator.{UnaryOperator}
use Rattle.cf_insns.specs.declared.insn.ValueKind.{ValueKind}
use Rattle.cls_link.specs.Links as declarations
use Rattle.cls_link.specs.Links.{Links}
use Rattle.cls_link.specs.declared.linked_code.LinkedInsn.{LinkedInsn}
use Rattle.cls_link.specs.declared.linked_code.LinkedInsn.TheVariants as insn
use Rattle.ver_check.specs.Bodies.{Body, offset_at}
use Rattle.ver_check.specs.Effects.{effect, falls_through, targets}
use Rattle.ver_frames.specs.Frames.{Frame}
use Rattle.ver_frames.specs.Made.{made_at}
use Rattle.ver_frames.specs.declared.vtype.VType.{VType}
use Rattle.vm_act.specs.declared.machine.Machine.{Machine}
use Rattle.vm_code.specs.Act.{act, switch_at}
use Rattle.vm_typing.specs.Laws.{Leads}
use Rattle.vm_typing.specs.Typed.{IsAt}
use Rattle.vm_typing.specs.World.{World, ArePlain, IsKnown, Enters}
use Rattle.cf_insns.specs.declared.insn.InvokeKind.{InvokeKind}
use Rattle.cf_insns.specs.declared.insn.InvokeKind.TheVariants as invoke
use Rattle.cf_reader.specs.declared.class_file.Method.{Method}
use Rattle.cls_link.specs.declared.linked_code.LinkedMethod.{LinkedMethod}
use Rattle.cls_link.specs.declared.linked_code.LinkedSwitch.{LinkedSwitch}
use Rattle.vm_act.specs.declared.calls.Callee.{Callee}
use Rattle.vm_act.specs.declared.calls.Selected.{Selected}
use Rattle.vm_code.specs.Calls.{id_of}
use Rattle.vm_code.specs.Parameters.{parameters_of}
use Rattle.vm_code.specs.Methods as methods
use Rattle.vm_code.specs.Methods.{callee_of, init_begins_uninit, interface_selected, is_init, object_of, selected_of, special_start}

-- A field that an instruction names, and its slot in objects of the named class, and of the class that declares it.
pub record NamesField (w : World) (class : ClassId) (member : MemberIndex) : Type 0 where
  pub field : Field
  pub declared : field_at w.classes member ≡ Some field
  pub slot : ℕ
  pub kept : slot_of w.classes (field_of member) ≡ Some slot
  pub typed : slice_get (w.fields class) slot ≡ Some (field_vtype w.classes field.kind)
  pub own : slice_get (w.fields member.class) slot ≡ Some (field_vtype w.classes field.kind)

-- a class of which objects are made, and what their fields hold
pub record MakesObjects (w : World) (class : ClassId) : Type 0 where
  pub known : IsKnown w class
  pub kinds : List WordKind
  pub held : kinds_of w.classes class ≡ Some kinds
  pub of_types : AllZip HasKind (w.fields class) kinds

-- java/lang/Throwable stands in the set, and java/lang/Object may not stand for it
pub record HasThrowable (w : World) : Type 0 where
  pub class : ClassId
  pub named : number_of w.classes (codes "java/lang/Throwable") ≡ Some class
  pub not_above : ¬ IsObjectAssignable w.classes w.object class

-- what is an instance of a class may stand for it
abbrev pub CastsTo : World → CastType → Type 0
CastsTo w (cast.Class asked) = (class : ClassId) → IsKnown w class → is_subtype w.classes class asked ≡ true → IsObjectAssignable w.classes class asked
CastsTo w cast.IntArray = Unit {0}

-- ---- methods that calls name

-- the types of the arguments of a method, and of its result
abbrev pub arguments_in : World → Method → List VType
arguments_in w method = map (field_vtype w.classes) method.types.parameters

abbrev pub result_in : World → Method → Option VType
result_in w method = option_map (field_vtype w.classes) method.types.result

-- a call runs a method that is passed these arguments and gives this result
pub record RunsAs (w : World) (callee : Callee) (arguments : List VType) (result : Option VType) : Type 0 where
  pub agrees : IsCallee w callee
  pub normal : (w.method callee.method).is_init ≡ false
  pub passed : (w.method callee.method).arguments ≡ arguments
  pub gives : (w.method callee.method).result ≡ result

-- invokestatic: the named method, if it has code
pub record NamesStatic (w : World) (member : MemberIndex) : Type 0 where
  pub method : Method
  pub declared : method_at w.classes member ≡ Some method
  pub plain : ArePlain (arguments_in w method)
  pub runs : (callee : Callee) → callee_of w.classes false (id_of w.classes member) ≡ Some callee → RunsAs w callee (arguments_in w method) (result_in w method)

-- what the objects of a class and of those below it select, and arrays, of which java/lang/Object is the class
pub record SelectsBelow (w : World) (class : ClassId) (method : Method) (select : ClassId → Selected) : Type 0 where
  pub object : object_of w.classes ≡ Some w.object
  pub runs : (below : ClassId) → IsKnown w below → IsObjectAssignable w.classes below class → Selects w below (arguments_in w method) (result_in w method) (select below)

-- invokevirtual
pub record NamesVirtual (w : World) (class : ClassId) (member : MemberIndex) : Type 0 where
  pub method : Method
  pub declared : method_at w.classes member ≡ Some method
  pub plain : ArePlain (arguments_in w method)
  pub selects : SelectsBelow w class method (λ below. selected_of w.classes below (id_of w.classes member))

-- invokeinterface
pub record NamesInterface (w : World) (class : ClassId) (member : MemberIndex) : Type 0 where
  pub method : Method
  pub declared : method_at w.classes member ≡ Some method
  pub plain : ArePlain (arguments_in w method)
  pub selects : SelectsBelow w class method (λ below. interface_selected w.classes below class (id_of w.classes member))
  -- what it takes and gives, if it is called on a stub
  pub takes : w.takes (id_of w.classes member).0 ≡ parameters_of method
  pub gives : w.gives (id_of w.classes member).0 ≡ result_in w method
  pub types : AllZip Takes (w.takes (id_of w.classes member).0) (arguments_in w method)

-- an `<init>` of a class that runs
pub record Constructs (w : World) (class : ClassId) (callee : Callee) (arguments : List VType) : Type 0 where
  pub agrees : IsCallee w callee
  pub init : (w.method callee.method).is_init ≡ true
  pub passed : (w.method callee.method).arguments ≡ arguments
  pub owner : (w.method callee.method).owner ≡ class

-- invokespecial, in a method of the current class: an `<init>` of the named class, or what the current class and those below it select
-- above it, if the current class may stand for the one that is named
pub record NamesSpecial (w : World) (current class : ClassId) (member : MemberIndex) : Type 0 where
  pub method : Method
  pub declared : method_at w.classes member ≡ Some method
  pub plain : ArePlain (arguments_in w method)
  pub init : is_init method ≡ true → (callee : Callee) → callee_of w.classes (init_begins_uninit w.classes member.class) (id_of w.classes member) ≡ Some callee
      → Constructs w class callee (arguments_in w method)
  pub selects : is_init method ≡ false → IsObjectAssignable w.classes current class
      → SelectsBelow w current method (λ below. selected_of w.classes (special_start w.classes current class) (id_of w.classes member))

abbrev pub NamesMethod : World → ClassId → InvokeKind → ClassId → MemberIndex → Type 0
NamesMethod w current invoke.Virtual class member = NamesVirtual w class member
NamesMethod w current invoke.Special class member = NamesSpecial w current class member
NamesMethod w current invoke.Static class member = NamesStatic w member

-- what linking gives of what an instruction names, in a method of the current class with these switches
abbrev pub Names : World → ClassId → List LinkedSwitch → LinkedInsn → Type 0
Names w current switches (insn.Switch index) = IsSome (slice_get switches index)
Names w current switches insn.Throw = HasThrowable w
Names w current switches (insn.GetField class field) = NamesField w class field
Names w current switches (insn.PutField class field) = NamesField w class field
Names w current switches (insn.Invoke kind class member) = NamesMethod w current kind class member
Names w current switches (insn.InvokeInterface count class member) = NamesInterface w class member
Names w current switches (insn.New class) = MakesObjects w class
Names w current switches (insn.CheckCast type) = CastsTo w type
Names w current switches _ = Unit {0}

-- what is checked of a method is what the world says of it
pub record IsBodyOf (links : Links) (w : World) (number : ℕ) (body : Body) : Type 0 where
  pub linked : links.classes ≡ w.classes
  pub classes : body.classes ≡ w.classes
  pub owner : body.class_id ≡ (w.method number).owner
  pub is_init : body.is_init ≡ (w.method number).is_init
  pub result : body.result ≡ (w.method number).result
  pub max_stack : body.max_stack ≡ (w.method number).max_stack
  pub count : length body.insns ≡ (w.method number).count
  pub offsets : (index : ℕ) → (w.method number).offset_at index ≡ offset_at body index
  pub made : (offset : ℕ) → (w.method number).made_at offset ≡ made_at body.insns body.offsets offset
  -- each instruction has an offset of its own
  pub found : (index : ℕ) → index < length body.insns → index_from 0 body.offsets (offset_at body index) ≡ Some index
  pub declared_by : option_map (λ (entry : LinkedMethod). entry.class) (slice_get links.methods number) ≡ Some body.class_id
  pub switches : (index : ℕ) → switch_at links number index ≡ slice_get body.switches index
  -- its name and its result are those of the method which is declared
  pub declaration : Method
  pub declared : declarations.method_at links.classes (record { 0 = number }) ≡ Some declaration
  pub named : body.is_init ≡ methods.is_init declaration
  pub gives : body.result ≡ option_map (field_vtype w.classes) declaration.types.result

-- A machine stands at an instruction of a method. The instruction's effect on the frame there gives a frame that comes in at each index to
-- which the instruction leads.
pub record StandsAt (links : Links) (w : World) (body : Body) (insn : LinkedInsn) (f after : Frame) (m : Machine) : Type 0 where
  pub body_of : IsBodyOf links w m.stack.frame.method body
  pub is : slice_get body.insns m.stack.frame.index ≡ Some insn
  pub typed : (w.method m.stack.frame.method).frames m.stack.frame.index ≡ f
  pub names : Names w body.class_id body.switches insn
  pub effect : effect body (offset_at body m.stack.frame.index) insn f ≡ Ok after
  pub lands : AllByRecursion (λ to. Enters w m.stack.frame.method to after) (targets body insn)
  pub goes_on : falls_through insn ≡ true → Enters w m.stack.frame.method (m.stack.frame.index + 1) after

-- the act of an instruction leads to a typed machine, or ends its task with what it may give
abbrev pub IsRow : Links → World → Body → LinkedInsn → Type 0
IsRow links w body insn = (asked : Option VType) (fresh : ℕ → Site) (receiver : Site) (f after : Frame) (m : Machine) → StandsAt links w body insn f after m
    → IsAt w asked fresh receiver f m → Leads w asked (held_by m) (act links insn m)

-- Constants, local variables, and the operands as such
pub record WordRows (links : Links) (w : World) (body : Body) : Type 0 where
  pub nop : IsRow links w body insn.Nop
  pub null : IsRow links w body insn.Null
  pub constant : (n : ℤ) → IsRow links w body (insn.Constant n)
  pub load : (kind : ValueKind) (local : ℕ) → IsRow links w body (insn.Load kind local)
  pub store : (kind : ValueKind) (local : ℕ) → IsRow links w body (insn.Store kind local)
  pub increment : (local : ℕ) (by : ℤ) → IsRow links w body (insn.Increment local by)
  pub stack : (operation : StackOperation) → IsRow links w body (insn.Stack operation)

-- Operators on ints, arrays of ints, and branches
pub record IntRows (links : Links) (w : World) (body : Body) : Type 0 where
  pub unary : (operator : UnaryOperator) → IsRow links w body (insn.Unary operator)
  pub binary : (operator : BinaryOperator) → IsRow links w body (insn.Binary operator)
  pub array : (operation : ArrayOperation) → IsRow links w body (insn.Array operation)
  pub if_zero : (condition : Condition) (target : ℕ) → IsRow links w body (insn.If condition target)
  pub if_compare : (condition : Condition) (target : ℕ) → IsRow links w body (insn.IfCompare condition target)
  pub if_same : (equality : Equality) (target : ℕ) → IsRow links w body (insn.IfSame equality target)
  pub if_null : (equality : Equality) (target : ℕ) → IsRow links w body (insn.IfNull equality target)
  pub goto : (target : ℕ) → IsRow links w body (insn.Goto target)
  pub switch : (index : ℕ) → IsRow links w body (insn.Switch index)

-- Returns, and athrow
pub record ReturnRows (links : Links) (w : World) (body : Body) : Type 0 where
  pub return_value : (kind : ValueKind) → IsRow links w body (insn.ReturnValue kind)
  pub return_nothing : IsRow links w body insn.Return
  pub throw : IsRow links w body insn.Throw

-- Objects, their fields, and casts
pub record ObjectRows (links : Links) (w : World) (body : Body) : Type 0 where
  pub new : (class : ClassId) → IsRow links w body (insn.New class)
  pub get_field : (class : ClassId) (field : MemberIndex) → IsRow links w body (insn.GetField class field)
  pub put_field : (class : ClassId) (field : MemberIndex) → IsRow links w body (insn.PutField class field)
  pub check_cast : (type : CastType) → IsRow links w body (insn.CheckCast type)
  pub instance_of : (type : CastType) → IsRow links w body (insn.InstanceOf type)

-- Calls
pub record CallRows (links : Links) (w : World) (body : Body) : Type 0 where
  pub invoke : (kind : InvokeKind) (class : ClassId) (method : MemberIndex) → IsRow links w body (insn.Invoke kind class method)
  pub invoke_interface : (count : ℕ) (class : ClassId) (method : MemberIndex) → IsRow links w body (insn.InvokeInterface count class method)
