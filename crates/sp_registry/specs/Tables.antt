-- The rows of the table of bindings: a name with its object, found by the name. (This project's own.)
use Rattle.std.specs.Prelude.{List, [], ◌∷◌, IsTrue, map}
use Rattle.std.specs.Global.{Vec}
use Rattle.std.specs.Prelude.{ℕ}
use Rattle.space_ids.specs.declared.ids.ObjId.{ObjId}
use Rattle.sp_registry.specs.declared.registry.Binding.{Binding}
use Rattle.registry_names.specs.Names.{is_name}

-- what a row stands for
abbrev pub binding_of : Vec ℕ × ObjId → Binding
binding_of row = record { name = row.0.items; object = row.1 }

-- what the rows stand for, in their order
abbrev pub bindings_of : List (Vec ℕ × ObjId) → List Binding
bindings_of rows = map binding_of rows

-- the names may name objects
abbrev pub AreNames : List Binding → Type 0
AreNames [] = Unit {0}
AreNames (binding ∷ bindings) = IsTrue (is_name binding.name) × AreNames bindings
