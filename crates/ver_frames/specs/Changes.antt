-- What becomes of the types of an object that is not initialized (JVMS 4.10.1.9, new and invokespecial), in every copy of it.
use Rattle.std.specs.Prelude.{ℕ, Bool, true, false, nat_eq, if◌then◌else◌, map}
use Rattle.space_ids.specs.declared.ids.ClassId.{ClassId}
use Rattle.ver_frames.specs.Frames.{Frame}
use Rattle.ver_frames.specs.declared.changes.TypeChange.{TypeChange}
use Rattle.ver_frames.specs.declared.changes.TypeChange.TheVariants.{MadeAgain, Initialized, ThisInitialized}
use Rattle.ver_frames.specs.declared.vtype.VType.{VType}
use Rattle.ver_frames.specs.declared.vtype.VType.TheVariants as vtype

-- whether a type is that of what the `new` at an offset made
abbrev pub is_made_at : ℕ → VType → Bool
is_made_at offset vtype.Top = false
is_made_at offset vtype.Int = false
is_made_at offset vtype.Null = false
is_made_at offset (vtype.Object class) = false
is_made_at offset vtype.IntArray = false
is_made_at offset (vtype.Uninitialized made) = nat_eq made offset
is_made_at offset vtype.UninitializedThis = false

-- new: an older object of the same instruction may not be used again
abbrev pub cleared : ℕ → VType → VType
cleared offset t = if is_made_at offset t then vtype.Top else t

-- an `<init>` has run on what the `new` at an offset made: it is an object of the class
abbrev pub made_is : ℕ → ClassId → VType → VType
made_is offset class t = if is_made_at offset t then vtype.Object class else t

-- an `<init>` has called another one on its own receiver: that is an object of the class
abbrev pub this_is : ClassId → VType → VType
this_is class vtype.Top = vtype.Top
this_is class vtype.Int = vtype.Int
this_is class vtype.Null = vtype.Null
this_is class (vtype.Object c) = vtype.Object c
this_is class vtype.IntArray = vtype.IntArray
this_is class (vtype.Uninitialized made) = vtype.Uninitialized made
this_is class vtype.UninitializedThis = vtype.Object class

-- a change of a type
abbrev pub changed : TypeChange → VType → VType
changed (MadeAgain offset) = cleared offset
changed (Initialized offset class) = made_is offset class
changed (ThisInitialized class) = this_is class

-- the types of local variables and operands, each changed
abbrev pub map_types : (VType → VType) → Frame → Frame
map_types change f = record f { locals = map change f.locals; stack = map change f.stack }

-- the types of the local variables, each changed
abbrev pub map_locals : (VType → VType) → Frame → Frame
map_locals change f = record f { locals = map change f.locals }
