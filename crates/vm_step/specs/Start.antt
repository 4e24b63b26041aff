-- How tasks start (JVMS 5.2 for the command line's class; the rest are rules of this project).
use Rattle.std.specs.Prelude.{All, ◌≡◌, ◌≢◌, IsSome, ℕ, ◌+◌, ◌-◌, ◌^◌, Bool, true, false, not, ◌&&◌, ◌||◌, ◌==◌, nat_le, nat_lt, if◌then◌else◌, Option, Some, None, Result, Ok, Err, List, [], ◌∷◌, ◌++◌, length, replicate, bytes_eq, codes, option_and_then}
use Rattle.std.specs.List.{list_all}
use Rattle.std.specs.Option.{option_map_or}
use Rattle.cf_text.specs.declared.types.ElementType.{ElementType}
use Rattle.cf_text.specs.declared.types.ElementType.TheVariants as element
use Rattle.cf_text.specs.declared.types.FieldType.{FieldType}
use Rattle.cf_text.specs.declared.types.MethodDescriptor.{MethodDescriptor}
use Rattle.cf_reader.specs.declared.class_file.Code.{Code}
use Rattle.cf_reader.specs.declared.class_file.Method.{Method}
use Rattle.cls_link.specs.Links.{Links}
use Rattle.cls_link.specs.declared.linked_code.MethodId.{MethodId}
use Rattle.cls_set.specs.Classes.{number_of}
use Rattle.cls_set.specs.declared.class.Class.{Class}
use Rattle.space_ids.specs.declared.value.Value.{Value}
use Rattle.space_ids.specs.declared.value.Value.TheVariants as value
use Rattle.uuid.specs.declared.Uuid.{Uuid}
use Rattle.ver_frames.specs.Method.{is_static}
use Rattle.vm_code.specs.Classes.{is_remote, is_remote_interface}
use Rattle.vm_code.specs.Parameters.{is_array_type}
use Rattle.vm_heap.specs.Heap.{Cell, Ints, all_cost}
use Rattle.vm_heap.specs.References.{Table, row_for, row_of, with_reference}
use Rattle.vm_heap.specs.Tagged.{Tagged, Int, Null, Local, Remote, Unset}
use Rattle.vm_stack.specs.Frames.{Frame, empty_frame, frame_cost}
use Rattle.vm_act.specs.declared.machine.Machine.{Machine}
use Rattle.vm_act.specs.declared.ending.Thrown.TheVariants.{OutOfMemoryError, StackOverflowError}
use Rattle.vm_step.specs.Ends.{Threw}
use Rattle.vm_step.specs.Run.{State, Running, Over}
use Rattle.vm_step.specs.Subjects.{Declared, declared_at}
use Rattle.vm_step.specs.Task.{Tasked}
use Rattle.vm_step.specs.declared.fault.StartFault.{StartFault}
use Rattle.vm_step.specs.declared.fault.StartFault.TheVariants as fault
use Rattle.vm_step.specs.declared.limits.Limits.{Limits}

-- whether a task may start at a method with code: not at an <init>, nor where there is no instruction
abbrev pub is_startable : Declared → Bool
is_startable m = not (bytes_eq m.method.name (codes "<init>")) && not (length m.insns == 0)

-- the method at which a task may start
abbrev pub startable : Links → MethodId → Option Declared
startable links id = option_and_then (λ m. if is_startable m then Some m else None) (declared_at links id)

abbrev pub is_int_element : ElementType → Bool
is_int_element element.Int = true
is_int_element element.Boolean = true
is_int_element _ = false

-- whether an element that is no array is a remote interface
abbrev pub is_remote_element : List Class → ElementType → Bool
is_remote_element classes (element.Class name) = option_map_or (is_remote_interface classes) (number_of classes name) false
is_remote_element classes _ = false

-- int and boolean
abbrev pub is_int_type : FieldType → Bool
is_int_type kind = (kind.dimensions == 0) && is_int_element kind.element

-- a remote interface
abbrev pub is_remote_type : List Class → FieldType → Bool
is_remote_type classes kind = (kind.dimensions == 0) && is_remote_element classes kind.element

-- whether values of a type may be passed and returned: int, boolean, int[] and remote interfaces
abbrev pub crosses : List Class → FieldType → Bool
crosses classes kind = is_int_type kind || (is_array_type kind || is_remote_type classes kind)

-- whether all that a method takes and gives may
abbrev pub takes_crossing : List Class → MethodDescriptor → Bool
takes_crossing classes types = list_all (crosses classes) types.parameters && option_map_or (crosses classes) types.result true

-- whether a value may be passed where a type that crosses is asked: null may for each class and int[], and a reference to an object of a
-- remote class, of the task's own space or a stub, for each remote interface, since an interface is treated like java/lang/Object (JVMS
-- 4.10.1.2)
abbrev pub is_of_type : List Class → FieldType → Value → Bool
is_of_type classes kind value.Null = not (is_int_type kind)
is_of_type classes kind (value.Int n) = is_int_type kind
is_of_type classes kind (value.Ints elements) = is_array_type kind
is_of_type classes kind (value.Ref reference) = is_remote_type classes kind && is_remote classes reference.class

-- whether the values are one for each parameter, of its type
unfoldable pub fill : List Class → List FieldType → List Value → Bool
fill classes [] [] = true
fill classes [] (v ∷ values) = false
fill classes (kind ∷ kinds) [] = false
fill classes (kind ∷ kinds) (v ∷ values) = is_of_type classes kind v && fill classes kinds values

-- why a method is not started with these arguments
abbrev pub refusal : List Class → Method → List Value → Option StartFault
refusal classes method arguments =
    if not (takes_crossing classes method.types) then Some fault.BadSignature
    else (if is_static method && fill classes method.types.parameters arguments then None else Some fault.BadArgument)

-- why no task starts at a method with these arguments, if none does
abbrev pub start_fault : Links → MethodId → List Value → Option StartFault
start_fault links id arguments =
    option_map_or (λ (m : Declared). refusal links.classes m.method arguments) (startable links id) (Some fault.AbsentMethod)

-- what an argument puts into the heap: an array is passed by copy
abbrev pub copy_of : Value → List Cell
copy_of value.Null = []
copy_of (value.Int n) = []
copy_of (value.Ints elements) = Ints elements ∷ []
copy_of (value.Ref reference) = []

-- the heap with which a task begins: a copy of each array
unfoldable pub copies : List Value → List Cell
copies [] = []
copies (v ∷ values) = copy_of v ++ copies values

-- the references that a task has once it has come by those among its arguments
abbrev pub with_value : Value → Table → Table
with_value value.Null table = table
with_value (value.Int n) table = table
with_value (value.Ints elements) table = table
with_value (value.Ref reference) table = with_reference reference table

unfoldable pub with_arguments : List Value → Table → Table
with_arguments [] table = table
with_arguments (v ∷ values) table = with_arguments values (with_value v table)

abbrev pub is_row : Option ℕ → Bool
is_row None = false
is_row (Some row) = true

-- whether they are within its limit
abbrev pub has_row : Value → Table → Bool
has_row value.Null table = true
has_row (value.Int n) table = true
has_row (value.Ints elements) table = true
has_row (value.Ref reference) table = is_row (row_for reference table)

unfoldable pub have_rows : List Value → Table → Bool
have_rows [] table = true
have_rows (v ∷ values) table = has_row v table && have_rows values (with_value v table)

abbrev pub remote_at : Option ℕ → Tagged
remote_at None = Unset
remote_at (Some row) = Remote row

-- the task has come by an argument, if it is a reference
abbrev pub IsHeld : Table → Value → Type 0
IsHeld table value.Null = Unit {0}
IsHeld table (value.Int n) = Unit {0}
IsHeld table (value.Ints elements) = Unit {0}
IsHeld table (value.Ref reference) = IsSome (row_of table.rows reference)

-- and by each of them
abbrev pub AreHeld : Table → List Value → Type 0
AreHeld table values = All (IsHeld table) values

-- an argument as a local variable holds it, where the next copy comes to an address, and these are the task's references
abbrev pub passed_at : ℕ → Table → Value → Tagged
passed_at address table value.Null = Null
passed_at address table (value.Int n) = Int n
passed_at address table (value.Ints elements) = Local address
passed_at address table (value.Ref reference) = remote_at (row_of table.rows reference)

unfoldable pub passed_from : ℕ → Table → List Value → List Tagged
passed_from address table [] = []
passed_from address table (v ∷ values) = passed_at address table v ∷ passed_from (address + all_cost (copy_of v)) table values

-- arrays have fewer than 2^31 elements (JVMS 6.5, arraylength)
abbrev pub is_short : Value → Bool
is_short value.Null = true
is_short (value.Int n) = true
is_short (value.Ints elements) = nat_lt (length elements) (2 ^ 31)
is_short (value.Ref reference) = true

-- whether the copy of an argument fits in a budget of words
abbrev pub has_room_for : Value → ℕ → Bool
has_room_for v words = is_short v && nat_le (all_cost (copy_of v)) words

-- whether the copy of each argument fits in what is left after those before it
unfoldable pub have_room : List Value → ℕ → Bool
have_room [] words = true
have_room (v ∷ values) words = has_room_for v words && have_room values (words - all_cost (copy_of v))

-- no references yet
abbrev pub no_references : Uuid → Limits → Table
no_references own limits = record { own = own; rows = []; limit = limits.references }

-- the frame of a method as it begins: the arguments are its first local variables
abbrev pub opening_frame : MethodId → Code → Table → List Value → Frame
opening_frame id code table arguments = record {
  method = id.0;
  index = 0;
  locals = passed_from 0 table arguments ++ replicate (code.max_locals - length arguments) Unset;
  operands = [];
  room = code.max_stack;
}

abbrev pub opening_machine : MethodId → Code → Table → List Value → Limits → Machine
opening_machine id code table arguments limits = record {
  stack = record { frame = opening_frame id code table arguments; callers = empty_frame ∷ []; free = limits.stack_words - frame_cost code.max_locals code.max_stack };
  heap = record { cells = copies arguments; free = limits.heap_words - all_cost (copies arguments) };
  references = table;
}

-- The state in which a task begins. It throws if the heap's budget has no room for the arguments, or they have more references than the task
-- may come by, or else if the stack's budget has none for the first frame
abbrev pub opening_state : Uuid → MethodId → Code → List Value → Limits → State
opening_state own id code arguments limits =
    if have_room arguments limits.heap_words && have_rows arguments (no_references own limits)
    then (if nat_le (frame_cost code.max_locals code.max_stack) limits.stack_words
    then Running (opening_machine id code (with_arguments arguments (no_references own limits)) arguments limits) limits.fuel
    else Over (Threw StackOverflowError) limits.fuel)
    else Over (Threw OutOfMemoryError) limits.fuel

-- what starting a method gives, where memory does not run out
abbrev pub started : Links → Uuid → MethodId → List Value → Limits → Result Tasked StartFault
started links own id arguments limits =
    start_at (startable links id)
  where
    begin : Declared → Option StartFault → Result Tasked StartFault
    begin m (Some why) = Err why
    begin m None = Ok (record { program = links; own = own; state = opening_state own id m.code arguments limits })

    start_at : Option Declared → Result Tasked StartFault
    start_at None = Err fault.AbsentMethod
    start_at (Some m) = begin m (refusal links.classes m.method arguments)

-- a start is refused for this, unless memory ran out
abbrev pub Refuses : Result Tasked StartFault → StartFault → Type 0
Refuses starting why = why ≢ fault.Memory → starting ≡ Err why
