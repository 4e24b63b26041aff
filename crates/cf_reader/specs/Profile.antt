-- 'ACC_ENUM, ACC_ANNOTATION, ACC_PROTECTED, ACC_SYNCHRONIZED, ACC_NATIVE' (JVMS 4.1, 4.5, 4.6) and the field types of JVMS 4.3.2 that this
-- project's profile leaves out.
use Rattle.std.specs.Prelude.{ℕ, Bool, true, false, ◌==◌, ◌&&◌, ◌||◌, not, List, Option, Some, None, codes}
use Rattle.std.specs.List.{list_all}
use Rattle.std.specs.Str.{bytes_eq}
use Rattle.cf_text.specs.declared.types.ElementType.{ElementType}
use Rattle.cf_text.specs.declared.types.ElementType.TheVariants.{Byte, Char, Double, Float, Int, Long, Short, Boolean, Class}
use Rattle.cf_text.specs.declared.types.FieldType.{FieldType}
use Rattle.cf_text.specs.declared.types.MethodDescriptor.{MethodDescriptor}
use Rattle.cf_reader.specs.declared.flags.TheConstants.Flags.{PUBLIC, PROTECTED, STATIC, FINAL, SYNCHRONIZED, NATIVE, INTERFACE, ABSTRACT, ANNOTATION, ENUM}
use Rattle.cf_reader.specs.Rules.{has}

-- no annotation types, no enums
unfoldable pub class_flags_in_profile : ℕ → Bool
class_flags_in_profile bits = not (has bits ANNOTATION) && not (has bits ENUM)

-- an int or a boolean
abbrev pub is_int_element : ElementType → Bool
is_int_element Int = true
is_int_element Boolean = true
is_int_element Byte = false
is_int_element Char = false
is_int_element Double = false
is_int_element Float = false
is_int_element Long = false
is_int_element Short = false
is_int_element (Class name) = false

unfoldable pub is_int_type : FieldType → Bool
is_int_type type = type.dimensions == 0 && is_int_element type.element

-- no protected fields, and of static ones final constants of type int or boolean alone
unfoldable pub field_flags_in_profile : Bool → Bool → ℕ → Bool
field_flags_in_profile is_int has_constant bits =
    not (has bits PROTECTED) && not (has bits ENUM) && (not (has bits STATIC) || (has bits FINAL && is_int && has_constant))

-- an int, a boolean or a class
abbrev pub is_single_element : ElementType → Bool
is_single_element (Class name) = true
is_single_element Int = true
is_single_element Boolean = true
is_single_element Byte = false
is_single_element Char = false
is_single_element Double = false
is_single_element Float = false
is_single_element Long = false
is_single_element Short = false

-- an int
abbrev pub is_array_element : ElementType → Bool
is_array_element Int = true
is_array_element Boolean = false
is_array_element Byte = false
is_array_element Char = false
is_array_element Double = false
is_array_element Float = false
is_array_element Long = false
is_array_element Short = false
is_array_element (Class name) = false

-- the types of the profile: int, boolean, classes and arrays of ints
unfoldable pub is_profile_type : FieldType → Bool
is_profile_type type =
    (type.dimensions == 0 && is_single_element type.element) || (type.dimensions == 1 && is_array_element type.element)

-- No protected, synchronized or native methods, and of an interface's methods public abstract ones alone.
unfoldable pub method_flags_in_profile : ℕ → ℕ → Bool
method_flags_in_profile class bits =
    not (has bits PROTECTED) && not (has bits SYNCHRONIZED) && not (has bits NATIVE)
    && (not (has class INTERFACE) || (has bits PUBLIC && has bits ABSTRACT))

-- no class initializers
unfoldable pub method_name_in_profile : List ℕ → Bool
method_name_in_profile name = not (bytes_eq name (codes "<clinit>"))

-- a result: none, or of a type of the profile
abbrev pub result_in_profile : Option FieldType → Bool
result_in_profile None = true
result_in_profile (Some type) = is_profile_type type

-- Parameters and results are of types of the profile.
unfoldable pub method_type_in_profile : MethodDescriptor → Bool
method_type_in_profile type = list_all is_profile_type type.parameters && result_in_profile type.result

-- no exception handlers
unfoldable pub handlers_in_profile : ℕ → Bool
handlers_in_profile count = count == 0
