-- The living tasks of a space, as a list of rows by id, in the order in which they started; and a task in hand. (This project's own.)
use Rattle.std.specs.Prelude.{ℕ, ◌+◌, ◌-◌, ◌==◌, ◌&&◌, ◌||◌, not, nat_lt, Bool, true, false, nat_eq, List, [], ◌∷◌, ◌++◌, Option, None, Some, find, filter, option_map, if◌then◌else◌}
use Rattle.std.specs.List.{list_all, list_any}
use Rattle.std.specs.Str.{bytes_eq}
use Rattle.std.specs.Map.{lookup}
use Rattle.uuid.specs.declared.Uuid.{Uuid}
use Rattle.space_ids.specs.declared.ids.ObjId.{ObjId}
use Rattle.space_ids.specs.declared.ids.Ref.{Ref}
use Rattle.space_ids.specs.declared.value.Value.{Value}
use Rattle.sp_rules.specs.Behaviours.{Op, Create, Get, Put, Call, Reply, Gives, GivesBack, Throws, RunsOut}
use Rattle.sp_rules.specs.Lists.{at_first}
use Rattle.sp_rules.specs.References.{is_id, is_reference_in, reference_of, references_in, references_of, with_references}
use Rattle.sp_rules.specs.State.{Origin}
use Rattle.sp_tasks.specs.Recorded.{Recorded, with_answer, with_given}
use Rattle.sp_tasks.specs.Same.{is_recorded}

-- how a task began, whether it waits for the reply to a call, the references that it holds, each once, its record, its own instructions since the last reply, whether it is lent, and whether the reply to its next call can be entered without taking memory
pub record TaskRow : Type 0 where
  pub origin : Origin
  pub waits : Bool
  pub held : List Ref
  pub past : Recorded
  pub steps : ℕ
  pub lent : Bool
  pub room : Bool

-- a task in hand: its id, its record and its instructions as it was lent, the instructions that it made since, and whether the reply to its next call can be entered without taking memory
pub record Hand : Type 0 where
  pub id : ℕ
  pub past : Recorded
  pub steps : ℕ
  pub made : ℕ
  pub room : Bool

-- how many tasks started, how many more can start without taking memory, and those that live
pub record TaskTable : Type 0 where
  pub made : ℕ
  pub room : ℕ
  pub rows : List (ℕ × TaskRow)

abbrev pub row_of : ℕ → List (ℕ × TaskRow) → Option TaskRow
row_of id rows = lookup (nat_eq id) rows

-- the row of an id is changed
abbrev pub at_row : ℕ → (TaskRow → TaskRow) → List (ℕ × TaskRow) → List (ℕ × TaskRow)
at_row id f rows = at_first (λ (row : ℕ × TaskRow). row.0 == id) (λ (row : ℕ × TaskRow). (row.0, f row.1)) rows

-- the rows of other ids
abbrev pub without : ℕ → List (ℕ × TaskRow) → List (ℕ × TaskRow)
without id rows = filter (λ (row : ℕ × TaskRow). not (row.0 == id)) rows

-- ---- starting

-- A task that starts holds the references among its arguments, each once.
abbrev pub started_row : Origin → ℕ → List Value → ℕ → TaskRow
started_row origin method arguments fuel = record {
  origin = origin;
  waits = false;
  held = with_references [] (references_of arguments);
  past = record { began = record { method = method; arguments = arguments; fuel = fuel }; given = [] };
  steps = 0;
  lent = false;
  room = false;
}

-- A task takes the next id as it starts, and uses the room for one.
abbrev pub with_started : TaskRow → TaskTable → TaskTable
with_started row tasks = record { made = tasks.made + 1; room = tasks.room - 1; rows = tasks.rows ++ (tasks.made + 1, row) ∷ [] }

-- ---- lending

-- A task that waits is not lent.
abbrev pub lent_row : TaskRow → TaskRow
lent_row row = if row.waits then row else record row { lent = true }

-- A task that is not lent and does not wait is lent as it stands.
abbrev pub hand_of : ℕ → Option TaskRow → Option Hand
hand_of id None = None
hand_of id (Some row) = if row.waits || row.lent then None else Some (record { id = id; past = row.past; steps = row.steps; made = 0; room = false })

-- The task in hand is the lent one of its id: its record is that of the row.
abbrev pub is_in_hand : Option TaskRow → Hand → Bool
is_in_hand None hand = false
is_in_hand (Some row) hand = row.lent && (row.steps == hand.steps && is_recorded row.past hand.past)

-- ---- what becomes of a lent task

abbrev pub back_row : ℕ → TaskRow → TaskRow
back_row made row = record row { lent = false; steps = row.steps + made }

-- There is room for the reply to its call.
abbrev pub roomy_row : TaskRow → TaskRow
roomy_row row = record row { room = true }

abbrev pub roomy_hand : Hand → Hand
roomy_hand hand = record hand { room = true }

abbrev pub has_room : Option TaskRow → Bool
has_room None = false
has_room (Some row) = row.room

-- The task waits for the reply to its call.
abbrev pub parked_row : ℕ → TaskRow → TaskRow
parked_row made row = record row { lent = false; waits = true; steps = row.steps + made }

abbrev pub is_parked : Option TaskRow → Bool
is_parked None = false
is_parked (Some row) = row.waits

abbrev pub value_given : Reply → Option Value
value_given (Gives value) = value
value_given (GivesBack value fuel) = value
value_given (Throws class) = None
value_given RunsOut = None

-- what is held with the reference that is gained, if one is
abbrev pub with_gained : List Ref → Option Ref → List Ref
with_gained held None = held
with_gained held (Some r) = held ++ r ∷ []

-- A task that is given a reply holds the reference in it too.
abbrev pub replied_row : ℕ → Reply → TaskRow → TaskRow
replied_row made reply row = record row {
  held = with_references row.held (references_in (value_given reply));
  past = with_given (row.steps + made) reply row.past;
  steps = 0;
  room = false;
}

abbrev pub replied_hand : Reply → Hand → Hand
replied_hand reply hand = record hand { past = with_given (hand.steps + hand.made) reply hand.past; steps = 0; made = 0; room = false }

-- A task that waits goes on with the reply to its call, and holds the reference in it too.
abbrev pub answered_row : Reply → TaskRow → TaskRow
answered_row reply row = record row {
  waits = false;
  held = with_references row.held (references_in (value_given reply));
  past = with_answer row.steps reply row.past;
  steps = 0;
  room = false;
}

-- ---- ready tasks

-- A task may go on if it is not lent and does not wait.
abbrev pub is_ready : TaskRow → Bool
is_ready row = not (row.waits || row.lent)

-- the lowest task that may go on
abbrev pub first_ready : List (ℕ × TaskRow) → Option ℕ
first_ready rows = option_map (λ (row : ℕ × TaskRow). row.0) (find (λ (row : ℕ × TaskRow). is_ready row.1) rows)

-- ---- what a task holds

-- A task holds each of these references.
abbrev pub row_holds : TaskRow → List Ref → Bool
row_holds row references = list_all (is_reference_in row.held) references

-- It holds a reference of the space's own object of this id.
abbrev pub row_holds_object : Uuid → TaskRow → ObjId → Bool
row_holds_object own row id = list_any (λ (r : Ref). bytes_eq r.space own && is_id id r.id) row.held

abbrev pub row_holds_values : TaskRow → List Value → Bool
row_holds_values row values = list_all (λ (v : Value). row_holds row (reference_of v)) values

-- A task holds what it asks for: the object whose field it reads or writes, the reference that it writes, the target and the arguments of
-- its call.
abbrev pub row_holds_op : Uuid → TaskRow → Op → Bool
row_holds_op own row (Create class) = true
row_holds_op own row (Get object slot) = row_holds_object own row object
row_holds_op own row (Put object slot value) = row_holds_object own row object && row_holds row (reference_of value)
row_holds_op own row (Call target method arguments) = is_reference_in row.held target && row_holds_values row arguments

-- ---- a table that keeps its rows in another order

abbrev pub with_row : ℕ × TaskRow → List (ℕ × TaskRow) → List (ℕ × TaskRow)
with_row row [] = row ∷ []
with_row row (other ∷ rows) = if nat_lt row.0 other.0 then row ∷ other ∷ rows else other ∷ with_row row rows

-- the rows in the order of their ids
abbrev pub by_id : List (ℕ × TaskRow) → List (ℕ × TaskRow)
by_id [] = []
by_id (row ∷ rows) = with_row row (by_id rows)
