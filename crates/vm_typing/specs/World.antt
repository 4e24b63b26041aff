-- What is known of the classes and methods of a program as types (JVMS 4.10.1), when a machine runs it.
use Rattle.std.specs.Prelude.{ℕ, ◌-◌, ◌<◌, Bool, true, false, nat_eq, if◌then◌else◌, Option, List, [], ◌∷◌, ◌++◌, length, map, replicate}
use Rattle.space_ids.specs.declared.ids.ClassId.{ClassId}
use Rattle.cls_set.specs.declared.class.Class.{Class}
use Rattle.ver_frames.specs.Frames.{Frame}
use Rattle.ver_frames.specs.Assignable.{IsFrameAssignable}
use Rattle.ver_frames.specs.declared.vtype.VType.{VType}
use Rattle.ver_frames.specs.declared.vtype.VType.TheVariants as vtype
use Rattle.vm_act.specs.declared.crossing.Parameter.{Parameter}

-- a method with code
pub record MethodType : Type 0 where
  -- the class that declares it
  pub owner : ClassId
  -- whether it is an `<init>`
  pub is_init : Bool
  -- whether its receiver is not initialised as it begins: an `<init>` that has to call another one
  pub begins_uninit : Bool
  -- what it is passed: the receiver of an instance method among them, but not that of an `<init>`
  pub arguments : List VType
  pub result : Option VType
  pub max_locals : ℕ
  pub max_stack : ℕ
  -- how many instructions it has
  pub count : ℕ
  -- the type frame at each of them, by index
  pub frames : ℕ → Frame
  -- the offset of the instruction of an index, and the index of the instruction at an offset
  pub offset_at : ℕ → ℕ
  pub index_at : ℕ → ℕ
  -- the class that the `new` at an offset names
  pub made_at : ℕ → Option ClassId

-- the classes of a program, and its methods by number
pub record World : Type 0 where
  pub classes : List Class
  -- java/lang/Object
  pub object : ClassId
  -- the types of the fields of an object of a class, by slot
  pub fields : ClassId → List VType
  -- whether the method of a number has code
  pub has_code : ℕ → Bool
  pub method : ℕ → MethodType
  -- what the method of a number takes and gives when it is called on a stub, whether it has code or not
  pub takes : ℕ → List Parameter
  pub gives : ℕ → Option VType

-- a class of the set
abbrev pub IsKnown : World → ClassId → Type 0
IsKnown w class = class.0 < length w.classes

-- the types that fields, parameters and results have
abbrev pub IsPlain : VType → Type 0
IsPlain vtype.Int = Unit {0}
IsPlain (vtype.Object class) = Unit {0}
IsPlain vtype.IntArray = Unit {0}
IsPlain vtype.Top = ⊥
IsPlain vtype.Null = ⊥
IsPlain (vtype.Uninitialized offset) = ⊥
IsPlain vtype.UninitializedThis = ⊥

abbrev pub ArePlain : List VType → Type 0
ArePlain [] = Unit {0}
ArePlain (t ∷ types) = IsPlain t × ArePlain types

-- the receiver of an `<init>` as it begins
abbrev pub init_receiver : Bool → ClassId → VType
init_receiver true owner = vtype.UninitializedThis
init_receiver false owner = vtype.Object owner

abbrev pub parameters_of : Bool → VType → List VType → List VType
parameters_of true receiver arguments = receiver ∷ arguments
parameters_of false receiver arguments = arguments

-- the types of all words that a method is passed
abbrev pub parameters : MethodType → List VType
parameters m = parameters_of m.is_init (init_receiver m.begins_uninit m.owner) m.arguments

-- the frame with which a method begins (JVMS 4.10.1.6)
abbrev pub opening : MethodType → Frame
opening m = record {
  locals = parameters m ++ replicate (m.max_locals - length (parameters m)) vtype.Top;
  stack = [];
  flag_this_uninit = m.begins_uninit;
}

-- a frame comes in at an index of a method, and there is an instruction at that index
pub record Enters (w : World) (number index : ℕ) (given : Frame) : Type 0 where
  pub inside : index < (w.method number).count
  pub to : IsFrameAssignable w.classes given ((w.method number).frames index)

-- whether a type is that of what the `new` at an offset made
abbrev pub is_made_at : ℕ → VType → Bool
is_made_at offset vtype.Top = false
is_made_at offset vtype.Int = false
is_made_at offset vtype.Null = false
is_made_at offset (vtype.Object class) = false
is_made_at offset vtype.IntArray = false
is_made_at offset (vtype.Uninitialized made) = nat_eq made offset
is_made_at offset vtype.UninitializedThis = false

-- new: local variables lose an older object of the same instruction (JVMS 4.10.1.9)
abbrev pub cleared : ℕ → VType → VType
cleared offset t = if is_made_at offset t then vtype.Top else t

-- what a type becomes when an `<init>` is called on an object that the `new` at an offset made: a class (JVMS 4.10.1.9, invokespecial)
abbrev pub made_is : ℕ → ClassId → VType → VType
made_is offset class t = if is_made_at offset t then vtype.Object class else t

-- the same when an `<init>` calls another one on its own receiver
abbrev pub this_is : ClassId → VType → VType
this_is class vtype.Top = vtype.Top
this_is class vtype.Int = vtype.Int
this_is class vtype.Null = vtype.Null
this_is class (vtype.Object c) = vtype.Object c
this_is class vtype.IntArray = vtype.IntArray
this_is class (vtype.Uninitialized made) = vtype.Uninitialized made
this_is class vtype.UninitializedThis = vtype.Object class

-- the types of local variables and operands, each changed
abbrev pub map_types : (VType → VType) → Frame → Frame
map_types change f = record f { locals = map change f.locals; stack = map change f.stack }
