-- Descriptors (JVMS 4.3), read from the front of a text: what is read, and the text after it. A fault is at the position at which the text
-- is used.
use Rattle.std.specs.Prelude.{ℕ, zero, suc, Bool, false, ◌==◌, ◌&&◌, ◌+◌, not, nat_lt, List, [], ◌∷◌, length, take, drop, Option, Some, None, Result, Ok, Err, is_ok, if◌then◌else◌}
use Rattle.cf_text.specs.declared.fault.ReadFault.{ReadFault}
use Rattle.cf_text.specs.declared.fault.ReadFault.TheVariants.{Broken}
use Rattle.cf_text.specs.declared.fault.Rule.TheVariants as rules
use Rattle.cf_text.specs.declared.types.FieldType.{FieldType}
use Rattle.cf_text.specs.declared.types.ElementType.{ElementType}
use Rattle.cf_text.specs.declared.types.ElementType.TheVariants.{Byte, Char, Double, Float, Int, Long, Short, Boolean, Class}
use Rattle.cf_text.specs.declared.types.MethodDescriptor.{MethodDescriptor}
use Rattle.cf_text.specs.declared.types.Descriptor.{Descriptor}
use Rattle.cf_text.specs.declared.types.Descriptor.TheVariants.{Field, Method}
use Rattle.cf_text.specs.Reading.{◌>>=◌}
use Rattle.cf_text.specs.Names.{is_class_name}

-- the fault of a text that is no descriptor
abbrev pub malformed : {A : Type 0} → ℕ → Result A ReadFault
malformed at = Err (Broken rules.Descriptor at)

-- the number of brackets at the front of a text: its dimensions
abbrev pub dimensions_of : List ℕ → ℕ
dimensions_of [] = 0
dimensions_of (b ∷ bs) = if b == 91 then dimensions_of bs + 1 else 0

-- what a letter says by itself
abbrev pub letter_type : ℕ → Option ElementType
letter_type b =
    if b == 66 then Some Byte else if b == 67 then Some Char else if b == 68 then Some Double
    else if b == 70 then Some Float else if b == 73 then Some Int else if b == 74 then Some Long
    else if b == 83 then Some Short else if b == 90 then Some Boolean else None

-- the front of a text up to a semicolon, or all of it
abbrev pub name_length : List ℕ → ℕ
name_length [] = 0
name_length (b ∷ bs) = if b == 59 then 0 else name_length bs + 1

-- whether a text begins with a byte
abbrev pub begins_with : ℕ → List ℕ → Bool
begins_with c [] = false
begins_with c (b ∷ bs) = b == c

-- a class after its L: a name, and a semicolon
unfoldable pub class_type_of : ℕ → List ℕ → Result (ElementType × List ℕ) ReadFault
class_type_of at text =
    let name = take (name_length text) text in
    if nat_lt (name_length text) (length text) && is_class_name name
    then Ok (Class name, drop (name_length text + 1) text) else malformed at

-- the same, with the text after it
abbrev pub plain_type_of : ℕ → Option ElementType → List ℕ → Result (ElementType × List ℕ) ReadFault
plain_type_of at None rest = malformed at
plain_type_of at (Some element) rest = Ok (element, rest)

-- a field type without its dimensions
unfoldable pub element_type_of : ℕ → List ℕ → Result (ElementType × List ℕ) ReadFault
element_type_of at [] = malformed at
element_type_of at (b ∷ bs) = if b == 76 then class_type_of at bs else plain_type_of at (letter_type b) bs

-- a field type (JVMS 4.3.2)
unfoldable pub field_type_of : ℕ → List ℕ → Result (FieldType × List ℕ) ReadFault
field_type_of at text = if nat_lt 255 (dimensions_of text) then malformed at else do
  element ← element_type_of at (drop (dimensions_of text) text)
  Ok (record { dimensions = dimensions_of text; element = element.0 }, element.1)

-- field types up to a closing parenthesis, at most n
unfoldable pub parameters_of : ℕ → ℕ → List ℕ → Result (List FieldType × List ℕ) ReadFault
parameters_of zero at text = malformed at
parameters_of (suc n) at text = if begins_with 41 text then Ok ([], drop 1 text) else do
  first ← field_type_of at text
  others ← parameters_of n at first.1
  Ok (first.0 ∷ others.0, others.1)

-- a text that is a field type and nothing else
unfoldable pub field_descriptor_of : ℕ → List ℕ → Result FieldType ReadFault
field_descriptor_of at text = do
  type ← field_type_of at text
  if length type.1 == 0 then Ok type.0 else malformed at

-- a method's result: V, or a field type
unfoldable pub result_of : ℕ → List ℕ → Result (Option FieldType) ReadFault
result_of at text = if begins_with 86 text then (if length text == 1 then Ok None else malformed at) else do
  type ← field_descriptor_of at text
  Ok (Some type)

-- a method descriptor (JVMS 4.3.3)
unfoldable pub method_descriptor_of : ℕ → List ℕ → Result MethodDescriptor ReadFault
method_descriptor_of at text = if not (begins_with 40 text) then malformed at else do
  parameters ← parameters_of (length text) at (drop 1 text)
  result ← result_of at parameters.1
  Ok (record { parameters = parameters.0; result = result })

-- whichever of the two it is
unfoldable pub descriptor_of : List ℕ → Result Descriptor ReadFault
descriptor_of text = if begins_with 40 text then (do
  type ← method_descriptor_of 0 text
  Ok (Method type)) else (do
    type ← field_descriptor_of 0 text
    Ok (Field type))

-- what was read, or none
abbrev pub as_found : Result Descriptor ReadFault → Option Descriptor
as_found (Ok descriptor) = Some descriptor
as_found (Err fault) = None

-- what a text says as a descriptor: none if it is not one
unfoldable pub descriptor_in : List ℕ → Option Descriptor
descriptor_in text = as_found (descriptor_of text)

-- a text is a field descriptor
unfoldable pub is_field_descriptor : List ℕ → Bool
is_field_descriptor text = is_ok (field_descriptor_of 0 text)
