-- The behaviour of a machine: the tree of its steps and of all replies to what it asks, as deep as its fuel allows. (This project's own rule:
-- the Java RMI specification leaves open what runs a method.)
use Rattle.std.specs.Option.{unwrap_or}
use Rattle.std.specs.Prelude.{ℕ, zero, suc, List, [], Option, Some, None, Result, Ok, Err, option_map, option_and_then}
use Rattle.cls_link.specs.Links.{Links}
use Rattle.cls_set.specs.declared.class.Class.{Class}
use Rattle.space_ids.specs.declared.value.Value.{Value}
use Rattle.space_ids.specs.declared.value.Value.TheVariants as value
use Rattle.uuid.specs.declared.Uuid.{Uuid}
use Rattle.sp_rules.specs.Behaviours as rules
use Rattle.sp_rules.specs.Classes as classes
use Rattle.vm_heap.specs.Heap.{Cell}
use Rattle.vm_act.specs.Next.{Next, On, Ends, Asks, Stuck}
use Rattle.vm_act.specs.Remote.{answered}
use Rattle.vm_act.specs.declared.asked.Asked.{Asked}
use Rattle.vm_act.specs.declared.asked.Asked.TheVariants as asked
use Rattle.vm_act.specs.declared.asked.FieldValue.{FieldValue}
use Rattle.vm_act.specs.declared.asked.FieldValue.TheVariants as field
use Rattle.vm_act.specs.declared.asked.Reply.{Reply}
use Rattle.vm_act.specs.declared.asked.Reply.TheVariants as reply
use Rattle.vm_act.specs.declared.machine.Machine.{Machine}
use Rattle.vm_step.specs.Steps.{step}
use Rattle.vm_step.specs.Ends.{End, end_of}
use Rattle.vm_step.specs.Run.{State, Running, Waits, Over, Lost}
use Rattle.vm_step.specs.Begin.{begun}
use Rattle.vm_step.specs.Task.{Tasked, arguments_of, outcome_of}
use Rattle.vm_step.specs.declared.fault.StartFault.{StartFault}
use Rattle.vm_step.specs.declared.limits.Limits.{Limits}
use Rattle.vm_step.specs.declared.outcome.Outcome.{Outcome}
use Rattle.vm_step.specs.declared.outcome.Outcome.TheVariants as outcome

-- ---- ends

abbrev pub told : Outcome → rules.Outcome
told (outcome.Returned value) = rules.Returned value
told (outcome.Threw class) = rules.Threw class
told outcome.Spent = rules.Spent

abbrev pub told_some : Option Outcome → rules.Outcome
told_some None = rules.Spent
told_some (Some outcome) = told outcome

-- what the end of a task is to its space; a set that is linked has each class that a task throws
abbrev pub told_end : List Class → End → rules.Outcome
told_end classes end = told_some (outcome_of classes end)

abbrev pub told_ending : List Class → Option End → rules.Outcome
told_ending classes None = rules.Spent
told_ending classes (Some end) = told_end classes end

-- ---- what is asked, and the replies

abbrev pub value_of : FieldValue → Value
value_of field.Null = value.Null
value_of (field.Int n) = value.Int n
value_of (field.Reference reference) = value.Ref reference

-- no field of a remote class holds an array
abbrev pub field_value : Value → Option FieldValue
field_value value.Null = Some field.Null
field_value (value.Int n) = Some (field.Int n)
field_value (value.Ints elements) = None
field_value (value.Ref reference) = Some (field.Reference reference)

-- a call is asked for with these arguments
abbrev pub op_of : List Value → Asked → rules.Op
op_of arguments (asked.Create class) = rules.Create class
op_of arguments (asked.Get object slot) = rules.Get object.id slot
op_of arguments (asked.Put object slot value) = rules.Put object.id slot (value_of value)
op_of arguments (asked.Call target method count) = rules.Call target method arguments

-- it is asked of the space's own store: a call is asked of another space
abbrev pub IsOfStore : Asked → Type 0
IsOfStore (asked.Create class) = Unit {0}
IsOfStore (asked.Get object slot) = Unit {0}
IsOfStore (asked.Put object slot value) = Unit {0}
IsOfStore (asked.Call target method count) = ⊥

-- what a machine asks for: the arguments of a call are what crosses of its operands
abbrev pub op_at : List Class → Asked → Machine → rules.Op
op_at classes op m = op_of (unwrap_or (arguments_of classes op m) []) op

abbrev pub made_of : Option Value → Option Reply
made_of None = None
made_of (Some value.Null) = None
made_of (Some (value.Int n)) = None
made_of (Some (value.Ints elements)) = None
made_of (Some (value.Ref reference)) = Some (reply.Made reference)

abbrev pub held_of : Option Value → Option Reply
held_of given = option_map (λ held. reply.Holds held) (option_and_then field_value given)

abbrev pub written_of : Option Value → Option Reply
written_of None = Some reply.Written
written_of (Some value) = None

-- the reply that a value of the space's store is to what was asked: nothing, if it is not of the kind
abbrev pub reply_of : Asked → Option Value → Option Reply
reply_of (asked.Create class) given = made_of given
reply_of (asked.Get object slot) given = held_of given
reply_of (asked.Put object slot value) given = written_of given
reply_of (asked.Call target method count) given = None

-- the reply that a value with which a call returned is, with the fuel that came back
abbrev pub returned_of : Asked → Option Value → ℕ → Option Reply
returned_of (asked.Create class) given back = None
returned_of (asked.Get object slot) given back = None
returned_of (asked.Put object slot value) given back = None
returned_of (asked.Call target method count) given back = Some (reply.Returned given back)

abbrev pub spent_of : Asked → Option Reply
spent_of (asked.Create class) = None
spent_of (asked.Get object slot) = None
spent_of (asked.Put object slot value) = None
spent_of (asked.Call target method count) = Some reply.RunsOut

-- the reply of the space, as the machine takes it
abbrev pub reply_to : Asked → rules.Reply → Option Reply
reply_to op (rules.Gives value) = reply_of op value
reply_to op (rules.GivesBack value fuel) = returned_of op value fuel
reply_to op (rules.Throws class) = Some (reply.Throws class)
reply_to op rules.RunsOut = spent_of op

-- The value that completes the instruction. The fuel that comes with that of a call is the task's, and no matter of what it does.
abbrev pub completed_by : Asked → Option Value → Option Reply
completed_by (asked.Create class) given = made_of given
completed_by (asked.Get object slot) given = held_of given
completed_by (asked.Put object slot value) given = written_of given
completed_by (asked.Call target method count) given = Some (reply.Returned given 0)

-- ---- machines

-- what is done after a reply has completed the instruction that asked: one that ends the task does so over the heap as it found it, and a
-- reply leads to no other question
abbrev pub after_reply : List Class → List Cell → (Machine → rules.Behaviour) → Next → rules.Behaviour
after_reply classes cells go_on (On m) = go_on m
after_reply classes cells go_on (Ends ending) = rules.Over (told_ending classes (end_of cells ending))
after_reply classes cells go_on (Asks op m) = rules.Over rules.Spent
after_reply classes cells go_on Stuck = rules.Over rules.Spent

-- a value that is not of the kind never comes
abbrev pub by_reply : List Class → (Machine → rules.Behaviour) → Asked → Machine → Option Reply → rules.Behaviour
by_reply classes go_on op m None = rules.Over rules.Spent
by_reply classes go_on op m (Some given) = after_reply classes m.heap.cells go_on (answered op given m)

-- a machine that asks, and what it does after each value that may be given
abbrev pub asking : List Class → (Machine → rules.Behaviour) → Asked → Machine → rules.Behaviour
asking classes go_on op m = rules.Asks (op_at classes op m) (λ given. by_reply classes go_on op m (completed_by op given))

-- an instruction, by what it leads to
abbrev pub by_next : List Class → List Cell → (Machine → rules.Behaviour) → Next → rules.Behaviour
by_next classes cells go_on (On m) = rules.Plain (go_on m)
by_next classes cells go_on (Ends ending) = rules.Ends (told_ending classes (end_of cells ending))
by_next classes cells go_on (Asks op m) = asking classes go_on op m
by_next classes cells go_on Stuck = rules.Ends rules.Spent

-- What a machine does with so much fuel. With none left it has not ended yet: it is found to be spent as its next instruction would be made.
unfoldable pub behaviour_of : Links → ℕ → Machine → rules.Behaviour
behaviour_of links zero m = rules.Ends rules.Spent
behaviour_of links (suc fuel) m = by_next links.classes m.heap.cells (behaviour_of links fuel) (step links m)

-- what a task does from its state on
abbrev pub behaviour_at : Links → State → rules.Behaviour
behaviour_at links (Running m fuel) = behaviour_of links fuel m
behaviour_at links (Waits op m fuel) = asking links.classes (behaviour_of links fuel) op m
behaviour_at links (Over end fuel) = rules.Over (told_end links.classes end)
behaviour_at links Lost = rules.Over rules.Spent

-- ---- starts

abbrev pub limits_of : classes.Limits → ℕ → Limits
limits_of limits fuel = record {
  heap_words = limits.heap;
  stack_words = limits.stack;
  references = limits.references;
  fuel = fuel;
}

abbrev pub of_begun : Links → Result Tasked StartFault → rules.Behaviour
of_begun links (Ok task) = behaviour_at links task.state
of_begun links (Err fault) = rules.Over rules.Spent

-- what a task of a space does that starts at a method with these values and this fuel, if it does start: those of a method that is not static
-- are its receiver and the arguments
unfoldable pub behaviour : Links → Uuid → classes.Limits → ℕ → List Value → ℕ → rules.Behaviour
behaviour links own limits method arguments fuel =
    of_begun links (begun links own (record { 0 = method }) arguments (limits_of limits fuel))
