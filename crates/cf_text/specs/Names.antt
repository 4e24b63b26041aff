-- Names (JVMS 4.2), as bytes of modified UTF-8.
use Rattle.std.specs.Prelude.{ℕ, Bool, true, ◌==◌, ◌&&◌, ◌||◌, not, List, [], ◌∷◌, length, if◌then◌else◌}
use Rattle.std.specs.List.{list_all}
use Rattle.std.specs.Str.{bytes_eq}

-- a byte of an unqualified name: none of . ; [ /
abbrev pub is_name_byte : ℕ → Bool
is_name_byte b = not (b == 46 || b == 59 || b == 91 || b == 47)

-- an unqualified name (JVMS 4.2.2): of a field, and of what a NameAndType names
abbrev pub is_name : List ℕ → Bool
is_name text = not (length text == 0) && list_all is_name_byte text

-- a byte of a method's name: none of . ; [ / < >
abbrev pub is_method_name_byte : ℕ → Bool
is_method_name_byte b = is_name_byte b && not (b == 60 || b == 62)

-- <init>
abbrev pub initializer : List ℕ
initializer = 60 ∷ 105 ∷ 110 ∷ 105 ∷ 116 ∷ 62 ∷ []

-- <clinit>
abbrev pub class_initializer : List ℕ
class_initializer = 60 ∷ 99 ∷ 108 ∷ 105 ∷ 110 ∷ 105 ∷ 116 ∷ 62 ∷ []

-- a method's name (JVMS 4.2.2): one of the two special names, or an unqualified name without < and >
abbrev pub is_method_name : List ℕ → Bool
is_method_name text =
    bytes_eq text initializer || bytes_eq text class_initializer
    || (not (length text == 0) && list_all is_method_name_byte text)

-- unqualified names parted by /; if `begins`, a name has to begin here
abbrev pub are_parts : Bool → List ℕ → Bool
are_parts begins [] = not begins
are_parts begins (b ∷ bs) = (if b == 47 then not begins else is_name_byte b) && are_parts (b == 47) bs

-- the name of a class in internal form (JVMS 4.2.1)
abbrev pub is_class_name : List ℕ → Bool
is_class_name text = are_parts true text
