-- Tasks: a program, the space that the task belongs to, and the state of its machine; and what its end is to callers. (This project's own;
-- the classes that are thrown are those of JVMS 6.3 and 6.5, and of the Java RMI specification, appendix A.)
use Rattle.std.specs.Prelude.{◌≡◌, ℕ, suc, ◌+◌, ◌<◌, ℤ, nat_le, if◌then◌else◌, List, [], length, Option, Some, None, codes, option_and_then, option_map, reverse, MatchBool}
use Rattle.cls_link.specs.Links.{Links}
use Rattle.cls_set.specs.Classes.{name_at, number_of}
use Rattle.cls_set.specs.declared.class.Class.{Class}
use Rattle.space_ids.specs.declared.ids.ClassId.{ClassId}
use Rattle.uuid.specs.declared.Uuid.{Uuid}
use Rattle.space_ids.specs.declared.value.Value.TheVariants as value
use Rattle.vm_act.specs.declared.ending.Ending.TheVariants.{ReturnedReference}
use Rattle.vm_act.specs.Crossing.{most_elements, values_of}
use Rattle.vm_act.specs.declared.asked.Asked.{Asked}
use Rattle.vm_act.specs.declared.asked.Asked.TheVariants as ask
use Rattle.vm_act.specs.declared.asked.Reply.{Reply}
use Rattle.vm_act.specs.declared.machine.Machine.{Machine}
use Rattle.vm_laws.specs.Worlds.{takes_at}
use Rattle.space_ids.specs.declared.value.Value.{Value}
use Rattle.vm_act.specs.declared.ending.Thrown.{Thrown}
use Rattle.vm_act.specs.declared.ending.Thrown.TheVariants as thrown
use Rattle.vm_step.specs.Ends.{End, ReturnedNothing, ReturnedInt, ReturnedNull, ReturnedInts, ReturnedRemote, Threw, ThrewObject, Spent, end_of}
use Rattle.vm_step.specs.Run.{State, Running, Waits, Over, Lost, fuel_after, over, run}
use Rattle.vm_step.specs.declared.outcome.Outcome.{Outcome}
use Rattle.vm_step.specs.declared.outcome.Outcome.TheVariants as outcome
use Rattle.vm_step.specs.declared.outcome.Pause.{Pause}
use Rattle.vm_step.specs.declared.outcome.Pause.TheVariants.{Ask, Turn, Ended}
use Rattle.vm_step.specs.declared.phase.Last.{Last}
use Rattle.vm_step.specs.declared.phase.Last.TheVariants as last
use Rattle.vm_step.specs.declared.phase.Phase.{Phase}
use Rattle.vm_step.specs.declared.phase.Phase.TheVariants as phase

pub record Tasked : Type 0 where
  pub program : Links
  pub own : Uuid
  pub state : State

-- the end of a task as the task keeps it: the heap stays where an address in it is returned
abbrev pub last_end : Last → Option End
last_end (last.Ended ending) = end_of [] ending
last_end (last.Kept heap address) = end_of heap.cells (ReturnedReference (Some address))
last_end last.Spent = Some Spent

-- the state that a phase is
abbrev pub phase_state : Phase → State
phase_state (phase.Running machine fuel) = Running machine fuel
phase_state (phase.Waiting machine op fuel) = Waits op machine fuel
phase_state (phase.Over end fuel) = over (last_end end) fuel

-- what a run tells of the state that it led to
abbrev pub pause_at : State → Pause
pause_at (Running machine fuel) = Turn
pause_at (Waits op machine fuel) = Ask op
pause_at (Over end fuel) = Ended
pause_at Lost = Ended

-- the fuel that is left; an instruction that waits for its reply has not taken its unit yet, nor has a call lent the rest
abbrev pub fuel_left : State → ℕ
fuel_left (Running machine fuel) = fuel
fuel_left (Waits op machine fuel) = suc fuel
fuel_left (Over end fuel) = fuel
fuel_left Lost = 0

-- the fuel that is left after a reply
abbrev pub left_after : Reply → State → ℕ
left_after given (Running machine fuel) = 0
left_after given (Waits op machine fuel) = fuel_after op given fuel
left_after given (Over end fuel) = 0
left_after given Lost = 0

-- a call is asked for
abbrev pub IsCall : Asked → Type 0
IsCall (ask.Create class) = ⊥
IsCall (ask.Get object slot) = ⊥
IsCall (ask.Put object slot written) = ⊥
IsCall (ask.Call target method count) = Unit {0}

-- a task waits for the reply to a call
abbrev pub IsCalling : State → Type 0
IsCalling (Running machine fuel) = ⊥
IsCalling (Waits op machine fuel) = IsCall op
IsCalling (Over end fuel) = ⊥
IsCalling Lost = ⊥

-- the arguments of the call that a machine asks for, as they cross; it asks for no call if there are none
abbrev pub arguments_of : List Class → Asked → Machine → Option (List Value)
arguments_of classes (ask.Create class) machine = None
arguments_of classes (ask.Get object slot) machine = None
arguments_of classes (ask.Put object slot written) machine = None
arguments_of classes (ask.Call target method count) machine =
    option_and_then (λ values. values) (values_of (reverse (takes_at classes method)) machine.references machine.heap.cells machine.stack.frame.operands)

-- the same of the call that a task asks for
abbrev pub call_arguments : List Class → State → Option (List Value)
call_arguments classes (Running machine fuel) = None
call_arguments classes (Waits op machine fuel) = arguments_of classes op machine
call_arguments classes (Over end fuel) = None
call_arguments classes Lost = None

-- the state in which a task ends or asks: one step more than it has fuel for finds it spent, if nothing ended it before
abbrev pub final_state : Links → State → State
final_state links state = run links (fuel_left state + 1) state

-- the name of a class of which the machine throws objects
abbrev pub thrown_name : Thrown → List ℕ
thrown_name thrown.ArithmeticException = codes "java/lang/ArithmeticException"
thrown_name thrown.NullPointerException = codes "java/lang/NullPointerException"
thrown_name thrown.ClassCastException = codes "java/lang/ClassCastException"
thrown_name thrown.NegativeArraySizeException = codes "java/lang/NegativeArraySizeException"
thrown_name thrown.ArrayIndexOutOfBoundsException = codes "java/lang/ArrayIndexOutOfBoundsException"
thrown_name thrown.OutOfMemoryError = codes "java/lang/OutOfMemoryError"
thrown_name thrown.StackOverflowError = codes "java/lang/StackOverflowError"
thrown_name thrown.AbstractMethodError = codes "java/lang/AbstractMethodError"
thrown_name thrown.IllegalAccessError = codes "java/lang/IllegalAccessError"
thrown_name thrown.IncompatibleClassChangeError = codes "java/lang/IncompatibleClassChangeError"
thrown_name thrown.MarshalException = codes "java/rmi/MarshalException"

-- the name of the class that is thrown where a result cannot cross (Java RMI specification, appendix A)
abbrev pub unmarshalled : List ℕ
unmarshalled = codes "java/rmi/MarshalException"

-- a thrown class by its number in the set
abbrev pub threw_named : List Class → List ℕ → Option Outcome
threw_named classes name = option_map (λ class. outcome.Threw class) (number_of classes name)

-- What an end is to callers. An array with too many elements cannot cross: the task throws in place of returning it
abbrev pub outcome_of : List Class → End → Option Outcome
outcome_of classes ReturnedNothing = Some (outcome.Returned None)
outcome_of classes (ReturnedInt n) = Some (outcome.Returned (Some (value.Int n)))
outcome_of classes ReturnedNull = Some (outcome.Returned (Some value.Null))
outcome_of classes (ReturnedInts elements) =
    if nat_le (length elements) most_elements then Some (outcome.Returned (Some (value.Ints elements))) else threw_named classes unmarshalled
outcome_of classes (ReturnedRemote reference) = Some (outcome.Returned (Some (value.Ref reference)))
outcome_of classes (Threw thrown) = threw_named classes (thrown_name thrown)
outcome_of classes (ThrewObject class) = Some (outcome.Threw class)
outcome_of classes Spent = Some outcome.Spent

-- the outcome of a task that is over
abbrev pub outcome_at : List Class → State → Option Outcome
outcome_at classes (Running machine fuel) = None
outcome_at classes (Waits op machine fuel) = None
outcome_at classes (Over end fuel) = outcome_of classes end
outcome_at classes Lost = None

-- an array of ints is returned
abbrev pub IsInts : Value → Type 0
IsInts value.Null = ⊥
IsInts (value.Int n) = ⊥
IsInts (value.Ints elements) = Unit {0}
IsInts (value.Ref reference) = ⊥

abbrev pub GivesInts : Option Outcome → Type 0
GivesInts None = ⊥
GivesInts (Some (outcome.Returned None)) = ⊥
GivesInts (Some (outcome.Returned (Some returned))) = IsInts returned
GivesInts (Some (outcome.Threw class)) = ⊥
GivesInts (Some outcome.Spent) = ⊥

-- a class of this name was thrown, and stands in the set under it
abbrev pub TellsThrown : List Class → List ℕ → Outcome → Type 0
TellsThrown classes name told = (class : ClassId) × (told ≡ outcome.Threw class) × (name_at classes class ≡ Some name)

-- an array is told by its elements, if there are not too many
abbrev pub TellsInts : List Class → List ℤ → Outcome → Type 0
TellsInts classes elements told =
    MatchBool (nat_le (length elements) most_elements) (told ≡ outcome.Returned (Some (value.Ints elements))) (TellsThrown classes unmarshalled told)

-- an outcome tells of an end
abbrev pub Tells : List Class → End → Outcome → Type 0
Tells classes ReturnedNothing told = told ≡ outcome.Returned None
Tells classes (ReturnedInt n) told = told ≡ outcome.Returned (Some (value.Int n))
Tells classes ReturnedNull told = told ≡ outcome.Returned (Some value.Null)
Tells classes (ReturnedInts elements) told = TellsInts classes elements told
Tells classes (ReturnedRemote reference) told = told ≡ outcome.Returned (Some (value.Ref reference))
Tells classes (Threw thrown) told = TellsThrown classes (thrown_name thrown) told
Tells classes (ThrewObject class) told = told ≡ outcome.Threw class
Tells classes Spent told = told ≡ outcome.Spent

-- a task is over in this state, and the outcome tells of its end
pub record IsOutcome (classes : List Class) (state : State) (told : Outcome) : Type 0 where
  pub end : End
  pub left : ℕ
  pub over : state ≡ Over end left
  pub tells : Tells classes end told

-- a class of which an object was thrown is one of the set
abbrev pub IsOfSet : List Class → Outcome → Type 0
IsOfSet classes (outcome.Returned result) = Unit {0}
IsOfSet classes (outcome.Threw class) = class.0 < length classes
IsOfSet classes outcome.Spent = Unit {0}
