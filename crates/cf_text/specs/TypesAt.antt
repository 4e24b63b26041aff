-- The types that indices name in a table of types. (This project's own.)
use Rattle.std.specs.Prelude.{ℕ, List, [], ◌∷◌, Option, Some, None, slice_get}
use Rattle.cf_text.specs.declared.types.FieldType.{FieldType}
use Rattle.cf_text.specs.declared.parameters.ParameterTypes.{ParameterTypes}

-- a type, if there is one, and the others after it
abbrev pub with_first : Option FieldType → List FieldType → List FieldType
with_first None others = []
with_first (Some type) others = type ∷ others

-- the types of these indices, up to the first that the table does not have
unfoldable pub types_at : List FieldType → List ℕ → List FieldType
types_at table [] = []
types_at table (index ∷ indices) = with_first (slice_get table index) (types_at table indices)

-- those that an iterator has left
abbrev pub types_left : ParameterTypes → List FieldType
types_left it = types_at it.types.now it.indices.now
