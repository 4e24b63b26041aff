-- What a task does, as far as its space sees it: instructions of its own, operations that it asks the space for, and an end. (This project's own rule: the Java RMI specification leaves open what runs a method; what an instruction does is JVMS 6.5.)
use Rattle.std.specs.Prelude.{ℕ, List, Option}
use Rattle.space_ids.specs.declared.ids.ClassId.{ClassId}
use Rattle.space_ids.specs.declared.ids.ObjId.{ObjId}
use Rattle.space_ids.specs.declared.ids.Ref.{Ref}
use Rattle.space_ids.specs.declared.value.Value.{Value}

-- A task ends in one of three ways: its method returned, it threw an exception that nothing catches, or its fuel was spent.
pub data Outcome : Type 0 where
  Returned : (value : Option Value) → Outcome
  Threw : (class : ClassId) → Outcome
  Spent : Outcome

-- What a task asks its space for: to make a remote instance, to read or write one of its fields, or to call a method of another space's object. A call on an object of the task's own space is a call within the task, and asks for nothing.
pub data Op : Type 0 where
  Create : (class : ClassId) → Op
  Get : (object : ObjId) (slot : ℕ) → Op
  Put : (object : ObjId) (slot : ℕ) (value : Value) → Op
  Call : (target : Ref) (method : ℕ) (arguments : List Value) → Op

-- What completes the instruction that asks.
pub data Reply : Type 0 where
  -- the operation on the store is done, with this value
  Gives : (value : Option Value) → Reply
  -- the call returned, with the fuel that its callee left
  GivesBack : (value : Option Value) (fuel : ℕ) → Reply
  -- it throws
  Throws : (class : ClassId) → Reply
  -- the callee's fuel was spent
  RunsOut : Reply

-- What a task does from here on. Of a machine this is the tree of its steps and of all replies to what it asks, as deep as its fuel allows.
pub data Behaviour : Type 0 where
  -- an instruction of its own, and then this
  Plain : (next : Behaviour) → Behaviour
  -- an instruction that asks, and what the task does after each value that may be given. If an array that is given does not fit the task's
  -- heap, the task is over: it threw OutOfMemoryError.
  Asks : (op : Op) (next : Option Value → Behaviour) → Behaviour
  -- an instruction that ends it
  Ends : (outcome : Outcome) → Behaviour
  -- it is over
  Over : (outcome : Outcome) → Behaviour
