-- Which types and frames may stand for which (JVMS 4.10.1.2, 4.10.1.4).
use Rattle.std.specs.Prelude.{◌≡◌, ◌⊎◌, Some, List, IsTrue, IsSomeAnd, slice_get, codes, ⊤}
use Rattle.cls_set.specs.declared.class.Class.{Class}
use Rattle.space_ids.specs.declared.ids.ClassId.{ClassId}
use Rattle.ver_frames.specs.Frames.{Frame}
use Rattle.std.specs.List.{AllZip}
use Rattle.cls_set.specs.Classes.{name_at, IsInterface}
use Rattle.cls_set.specs.Subtypes.{IsSubclass}
use Rattle.ver_frames.specs.declared.vtype.VType.{VType}
use Rattle.ver_frames.specs.declared.vtype.VType.TheVariants.{Top, Int, Null, Object, IntArray, Uninitialized, UninitializedThis}

-- ---- types

-- an object of the first class may stand where one of the second is asked: the second is an interface, a superclass of the first, or the
-- first itself; an interface is treated like java/lang/Object
abbrev pub IsObjectAssignable : List Class → ClassId → ClassId → Type 0
IsObjectAssignable classes given asked =
    IsSomeAnd (slice_get classes asked.0) IsInterface ⊎ IsSubclass classes given asked

-- a value of the first type may stand where the second is asked (JVMS 4.10.1.2): each type for
-- itself and for top, null for classes and arrays, a class for its superclasses and for any
-- interface, an array for java/lang/Object
unfoldable pub IsAssignable : List Class → VType → VType → Type 0
IsAssignable classes _ Top = ⊤
IsAssignable classes Int Int = ⊤
IsAssignable classes Null Null = ⊤
IsAssignable classes Null (Object asked) = ⊤
IsAssignable classes Null IntArray = ⊤
IsAssignable classes (Object given) (Object asked) = IsObjectAssignable classes given asked
IsAssignable classes IntArray (Object asked) = name_at classes asked ≡ Some (codes "java/lang/Object")
IsAssignable classes IntArray IntArray = ⊤
IsAssignable classes (Uninitialized made) (Uninitialized asked) = made ≡ asked
IsAssignable classes UninitializedThis UninitializedThis = ⊤
IsAssignable classes _ _ = ⊥

-- the two lists have one length, and each type is assignable to the one asked at its index
abbrev pub AreAssignable : List Class → List VType → List VType → Type 0
AreAssignable classes = AllZip (IsAssignable classes)

-- a frame may stand where another is asked (JVMS 4.10.1.4): both have the same number of local variables and of operands; each type may
-- stand where the other's is asked; its flag is set only if the other's is
pub record IsFrameAssignable (classes : List Class) (given asked : Frame) : Type 0 where
  pub locals : AreAssignable classes given.locals asked.locals
  pub stack : AreAssignable classes given.stack asked.stack
  pub flag : IsTrue given.flag_this_uninit → IsTrue asked.flag_this_uninit
