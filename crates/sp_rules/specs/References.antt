-- Remote objects are passed by reference, arrays by copy (Java RMI specification, 2.6): the references that a value is, and whether they are own or foreign.
use Rattle.std.specs.Prelude.{Bool, true, false, List, [], ◌∷◌, ◌++◌, Option, None, Some, ◌==◌, ◌&&◌, fold, if◌then◌else◌}
use Rattle.std.specs.Cmp.Lexicographic.{pointwise}
use Rattle.std.specs.List.{list_any, flat_map}
use Rattle.std.specs.Ordering.{int_eq}
use Rattle.std.specs.Str.{bytes_eq}
use Rattle.space_ids.specs.declared.ids.ForeignId.{ForeignId}
use Rattle.uuid.specs.declared.Uuid.{Uuid}
use Rattle.space_ids.specs.declared.ids.ObjId.{ObjId}
use Rattle.space_ids.specs.declared.ids.Ref.{Ref}
pub use Rattle.space_ids.specs.References.{is_same_reference}
use Rattle.space_ids.specs.declared.value.Value.{Value}
use Rattle.space_ids.specs.declared.value.Value.TheVariants as values

-- A value is a reference or has none: an array is an array of ints.
abbrev pub reference_of : Value → List Ref
reference_of values.Null = []
reference_of (values.Int n) = []
reference_of (values.Ints ns) = []
reference_of (values.Ref r) = r ∷ []

abbrev pub references_in : Option Value → List Ref
references_in None = []
references_in (Some value) = reference_of value

abbrev pub references_of : List Value → List Ref
references_of values = flat_map reference_of values

-- Two values are the same if both are null, or the same int, array or reference.
abbrev pub is_same_value : Value → Value → Bool
is_same_value values.Null values.Null = true
is_same_value (values.Int m) (values.Int n) = int_eq m n
is_same_value (values.Ints ms) (values.Ints ns) = pointwise int_eq ms ns
is_same_value (values.Ref r) (values.Ref q) = is_same_reference r q
is_same_value v w = false

abbrev pub is_reference_in : List Ref → Ref → Bool
is_reference_in references r = list_any (is_same_reference r) references

-- Each reference counts once, when it comes.
abbrev pub with_reference : List Ref → Ref → List Ref
with_reference references r = if is_reference_in references r then references else references ++ r ∷ []

abbrev pub with_references : List Ref → List Ref → List Ref
with_references references new = fold with_reference references new

-- the id of the space's own object that a reference names, or none
abbrev pub own_id : Uuid → Ref → List ObjId
own_id own r = if bytes_eq r.space own then r.id ∷ [] else []

abbrev pub own_ids : Uuid → List Ref → List ObjId
own_ids own references = flat_map (own_id own) references

-- Dirty and clean calls name an object by its space and its number there, without its class.
abbrev pub foreign_id : Uuid → Ref → List ForeignId
foreign_id own r = if bytes_eq r.space own then [] else record { space = r.space; id = r.id } ∷ []

abbrev pub foreign_ids : Uuid → List Ref → List ForeignId
foreign_ids own references = flat_map (foreign_id own) references

-- whether two object numbers are one
abbrev pub is_id : ObjId → ObjId → Bool
is_id a b = a.0 == b.0

abbrev pub is_id_in : List ObjId → ObjId → Bool
is_id_in ids id = list_any (is_id id) ids
