-- What crosses to another space as an argument of a remote call: remote objects pass as references to them, and of all else int arrays alone,
-- by copy (Java RMI specification, 2.6; that no other object crosses, and the limits, are rules of this project).
use Rattle.std.specs.Prelude.{ℕ, ℤ, ◌+◌, ◌*◌, Bool, false, nat_le, if◌then◌else◌, Option, Some, None, List, [], ◌∷◌, ◌++◌, length, option_map, option_and_then, slice_get}
use Rattle.space_ids.specs.declared.value.Value.{Value}
use Rattle.space_ids.specs.declared.value.Value.TheVariants as value
use Rattle.vm_heap.specs.Tagged.{Tagged, Int, Null, Local, Remote, Fresh, This, Unset, Head}
use Rattle.vm_heap.specs.Heap.{Cell, Object, Ints, cell_at}
use Rattle.vm_heap.specs.References.{Table}
use Rattle.vm_act.specs.declared.crossing.Parameter.{Parameter}
use Rattle.vm_act.specs.declared.crossing.Parameter.TheVariants as parameter
use Rattle.vm_act.specs.declared.machine.Machine.{Machine}

-- how many elements an array may have that crosses
abbrev pub most_elements : ℕ
most_elements = 8000

abbrev pub copy_of : List ℤ → Option Value
copy_of elements = if nat_le (length elements) most_elements then Some (value.Ints elements) else None

-- what crosses in place of an object or an array of the heap: the copy of an array, where int[] is asked
abbrev pub cell_value : Parameter → Cell → Option Value
cell_value parameter.Int (Object class fields) = None
cell_value parameter.Int (Ints elements) = None
cell_value parameter.Ints (Object class fields) = None
cell_value parameter.Ints (Ints elements) = copy_of elements
cell_value parameter.Reference (Object class fields) = None
cell_value parameter.Reference (Ints elements) = None

-- The same of a value of the task. It has to be of the parameter's kind: an int, or null or an initialised reference.
abbrev pub int_value : Tagged → Option (Option Value)
int_value (Int n) = Some (Some (value.Int n))
int_value Null = None
int_value (Local address) = None
int_value (Remote row) = None
int_value (Fresh index site) = None
int_value (This site) = None
int_value Unset = None
int_value (Head header) = None

abbrev pub reference_value : Parameter → Table → List Cell → Tagged → Option (Option Value)
reference_value takes table cells (Int n) = None
reference_value takes table cells Null = Some (Some value.Null)
reference_value takes table cells (Local address) = option_map (cell_value takes) (cell_at cells address)
reference_value takes table cells (Remote row) = option_map (λ reference. Some (value.Ref reference)) (slice_get table.rows row)
reference_value takes table cells (Fresh index site) = None
reference_value takes table cells (This site) = None
reference_value takes table cells Unset = None
reference_value takes table cells (Head header) = None

abbrev pub value_as : Parameter → Table → List Cell → Tagged → Option (Option Value)
value_as parameter.Int table cells v = int_value v
value_as parameter.Ints table cells v = reference_value parameter.Ints table cells v
value_as parameter.Reference table cells v = reference_value parameter.Reference table cells v

-- the same of the operand with `depth` others above it
abbrev pub value_at : Parameter → ℕ → Machine → Option (Option Value)
value_at takes depth m = option_and_then (value_as takes m.references m.heap.cells) (slice_get m.stack.frame.operands depth)

-- it crosses
abbrev pub Crosses : Option (Option Value) → Type 0
Crosses None = ⊥
Crosses (Some None) = ⊥
Crosses (Some (Some value)) = Unit {0}

-- all of them cross
abbrev pub AllCross : Option (Option (List Value)) → Type 0
AllCross None = ⊥
AllCross (Some None) = ⊥
AllCross (Some (Some values)) = Unit {0}

-- arguments with one more after them, if all of them cross
abbrev pub with_last : Option Value → Option (List Value) → Option (List Value)
with_last None values = None
with_last (Some last) None = None
with_last (Some last) (Some values) = Some (values ++ last ∷ [])

abbrev pub with_last_of : Option (Option Value) → Option (Option (List Value)) → Option (Option (List Value))
with_last_of None values = None
with_last_of (Some last) None = None
with_last_of (Some last) (Some values) = Some (with_last last values)

-- What crosses in place of the arguments on top, the last of them uppermost; the parameters are given from the last on. It is nothing if one of
-- them cannot cross.
unfoldable pub values_of : List Parameter → Table → List Cell → List Tagged → Option (Option (List Value))
values_of [] table cells operands = Some (Some [])
values_of (takes ∷ parameters) table cells [] = None
values_of (takes ∷ parameters) table cells (v ∷ operands) = with_last_of (value_as takes table cells v) (values_of parameters table cells operands)

-- ---- frames

-- the bytes of a value in a frame
abbrev pub value_bytes : Value → ℕ
value_bytes value.Null = 1
value_bytes (value.Int n) = 5
value_bytes (value.Ints elements) = 5 + 4 * length elements
value_bytes (value.Ref reference) = 27

-- and of all arguments
unfoldable pub values_bytes : List Value → ℕ
values_bytes [] = 0
values_bytes (v ∷ values) = value_bytes v + values_bytes values

-- the bytes of a call beside its arguments, and how many the body of a frame may have
abbrev pub call_bytes : ℕ
call_bytes = 30

abbrev pub most_bytes : ℕ
most_bytes = 65536

-- whether a call crosses with these arguments: all of them do, and its frame's body is within the limit
abbrev pub crosses : Option (List Value) → Bool
crosses None = false
crosses (Some values) = nat_le (call_bytes + values_bytes values) most_bytes
