-- The classes of a set by number and by name: numbers follow the order of names (a rule of this project).
use Rattle.std.specs.Prelude.{ℕ, suc, Option, Some, None, List, [], ◌∷◌, ◌++◌, ◌≢◌, map, slice_get, bytes_eq, if◌then◌else◌, bit_and, option_to_list}
use Rattle.std.specs.Ordering.{nat_cmp}
use Rattle.std.specs.declared.cmp.Ordering.{Ordering}
use Rattle.std.specs.Cmp.Lexicographic.{slice_cmp}
use Rattle.cls_order.specs.declared.class.Class.{Class}
use Rattle.space_ids.specs.declared.ids.ClassId.{ClassId}
use Rattle.cf_reader.specs.declared.flags.TheConstants.Flags.{INTERFACE}

-- In a list of classes a class's number is its index. Names are lists of bytes.

-- the order of names: by their bytes
abbrev pub name_cmp : List ℕ → List ℕ → Ordering
name_cmp = slice_cmp nat_cmp

-- the names of the classes
abbrev pub names : List Class → List (List ℕ)
names classes = map (λ c. c.file.name) classes

-- the name of the class with this number
abbrev pub name_at : List Class → ClassId → Option (List ℕ)
name_at classes id = slice_get (names classes) id.0

-- the number of the first class of this name; the first of the classes has the number k
abbrev pub number_from : ℕ → List Class → List ℕ → Option ClassId
number_from k [] name = None
number_from k (c ∷ cs) name = if bytes_eq c.file.name name then Some (record { 0 = k }) else number_from (suc k) cs name

-- the number of the class of this name
abbrev pub number_of : List Class → List ℕ → Option ClassId
number_of classes name = number_from 0 classes name

-- whether a class is an interface (JVMS 4.1)
abbrev pub IsInterface : Class → Type 0
IsInterface c = bit_and c.file.flags.bits INTERFACE ≢ 0

-- the numbers of a class's direct superclass and of its direct superinterfaces
abbrev pub direct_supertypes : Class → List ClassId
direct_supertypes c = option_to_list c.superclass ++ c.interfaces
