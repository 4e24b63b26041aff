-- Which verification types may stand for which (JVMS 4.10.1.2), as a test. For the classes of a set it passes exactly if the types are
-- assignable.
use Rattle.std.specs.Prelude.{ℕ, zero, suc, Bool, true, false, not, nat_eq, ◌||◌, ◌==◌, Option, option_and_then, List, slice_get, length, bit_and, bytes_eq, codes}
use Rattle.std.specs.Option.{option_map_or}
use Rattle.cf_reader.specs.declared.flags.TheConstants.Flags.{INTERFACE}
use Rattle.cls_set.specs.Classes.{name_at}
use Rattle.cls_set.specs.declared.class.Class.{Class}
use Rattle.space_ids.specs.declared.ids.ClassId.{ClassId}
use Rattle.ver_frames.specs.declared.vtype.VType.{VType}
use Rattle.ver_frames.specs.declared.vtype.VType.TheVariants.{Top, Int, Null, Object, IntArray, Uninitialized, UninitializedThis}

-- the direct superclass of a class
abbrev pub superclass_of : List Class → ClassId → Option ClassId
superclass_of classes class = option_and_then (λ (c : Class). c.superclass) (slice_get classes class.0)

-- whether the first class is the second, or has it among its first n superclasses
unfoldable pub is_below : ℕ → List Class → ClassId → ClassId → Bool
is_below zero classes given asked = nat_eq given.0 asked.0
is_below (suc n) classes given asked =
    nat_eq given.0 asked.0 || option_map_or (λ (up : ClassId). is_below n classes up asked) (superclass_of classes given) false

-- whether the class is an interface of the set
unfoldable pub is_interface : List Class → ClassId → Bool
is_interface classes class = option_map_or (λ (c : Class). not (bit_and c.file.flags.bits INTERFACE == 0)) (slice_get classes class.0) false

-- whether the class is java/lang/Object
unfoldable pub is_named_object : List Class → ClassId → Bool
is_named_object classes class = option_map_or (λ name. bytes_eq name (codes "java/lang/Object")) (name_at classes class) false

-- whether a value of the first type may stand where the second is asked: each type for itself and for top, null for classes and arrays, a
-- class for its superclasses and for any interface, an array for java/lang/Object. There are fewer superclasses than classes
unfoldable pub is_assignable : List Class → VType → VType → Bool
is_assignable classes _ Top = true
is_assignable classes Int Int = true
is_assignable classes Null Null = true
is_assignable classes Null (Object asked) = true
is_assignable classes Null IntArray = true
is_assignable classes (Object given) (Object asked) = is_interface classes asked || is_below (length classes) classes given asked
is_assignable classes IntArray (Object asked) = is_named_object classes asked
is_assignable classes IntArray IntArray = true
is_assignable classes (Uninitialized made) (Uninitialized asked) = made == asked
is_assignable classes UninitializedThis UninitializedThis = true
is_assignable classes _ _ = false
