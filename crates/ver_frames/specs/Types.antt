-- The verification type of a field type (JVMS 4.10.1.2).
use Rattle.std.specs.Prelude.{Bool, true, false, ◌==◌, ◌&&◌, if◌then◌else◌, List}
use Rattle.std.specs.Option.{option_map_or}
use Rattle.cf_text.specs.declared.types.ElementType.{ElementType}
use Rattle.cf_text.specs.declared.types.ElementType.TheVariants as element
use Rattle.cf_text.specs.declared.types.FieldType.{FieldType}
use Rattle.cls_set.specs.declared.class.Class.{Class}
use Rattle.cls_set.specs.Classes.{number_of}
use Rattle.ver_frames.specs.declared.vtype.VType.{VType}
use Rattle.ver_frames.specs.declared.vtype.VType.TheVariants.{Top, Int, Object, IntArray}

-- the verification type of an element that is no array; one out of this project's profile is top
unfoldable pub element_type : List Class → ElementType → VType
element_type classes element.Int = Int
element_type classes element.Boolean = Int
element_type classes (element.Class name) = option_map_or Object (number_of classes name) Top
element_type classes _ = Top

-- whether an element is int
abbrev pub is_int : ElementType → Bool
is_int element.Int = true
is_int _ = false

-- the verification type of a field type (JVMS 4.10.1.2); one out of this project's profile is top
unfoldable pub field_vtype : List Class → FieldType → VType
field_vtype classes kind =
    if kind.dimensions == 0 then element_type classes kind.element
    else (if (kind.dimensions == 1) && is_int kind.element then IntArray else Top)
