-- How many names are bound to an object. (This project's own.)
use Rattle.std.specs.Prelude.{ℕ, Bool, List, ◌==◌, filter, length, unwrap_or}
use Rattle.std.specs.Map.{lookup}
use Rattle.space_ids.specs.declared.ids.ObjId.{ObjId}
use Rattle.sp_registry.specs.declared.registry.Binding.{Binding}

-- whether two ids are one
abbrev pub is_same : ObjId → ObjId → Bool
is_same a b = a.0 == b.0

-- whether the binding is to the object
abbrev pub is_to : ObjId → Binding → Bool
is_to object binding = is_same binding.object object

-- how many of the bindings are to the object
abbrev pub count_of : List Binding → ObjId → ℕ
count_of bindings object = length (filter (is_to object) bindings)

-- the number that stands with the object, 0 if it is not there
abbrev pub number_in : List (ObjId × ℕ) → ObjId → ℕ
number_in counts object = unwrap_or (lookup (is_same object) counts) 0
