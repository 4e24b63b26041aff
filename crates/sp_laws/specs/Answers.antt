-- What is answered to a call is what its task ended with (Java RMI specification, 3.1: a result or an exception is returned to the caller).
use Rattle.std.specs.Prelude.{◌≡◌, ◌⊎◌, ℕ, List, Some}
use Rattle.net_message.specs.declared.message.Message.{Message}
use Rattle.net_message.specs.declared.message.Message.TheVariants as message
use Rattle.space_ids.specs.declared.ids.ClassId.{ClassId}
use Rattle.space_ids.specs.declared.ids.Ref.{Ref}
use Rattle.space_ids.specs.declared.value.Value.TheVariants as values
use Rattle.sp_rules.specs.Behaviours.{Outcome}
use Rattle.sp_rules.specs.Classes.{Setting}
use Rattle.sp_rules.specs.Events.{Event, Received, Finished, Output, Send}
use Rattle.sp_rules.specs.Laws.{AllOf}
use Rattle.sp_rules.specs.LivingTasks.{reply_frame}
use Rattle.sp_rules.specs.Space.{state_of, outputs_of}
use Rattle.sp_rules.specs.State.{State, Living, OfCall, task_at}
pub use Rattle.sp_laws.specs.Sent.{IsRefusal}
use Rattle.sp_rules.specs.Tasks.{HasEnded, stand, steps}

-- The event ends the task that the call of a number on this connection started, and the frame says how it ended, with the fuel that it left.
pub record IsOutcome (g : Setting) (s : State) (e : Event) (conn : ℕ) (m : Message) : Type 0 where
  pub task : ℕ
  pub made : ℕ
  pub row : Living
  pub number : ℕ
  pub outcome : Outcome
  pub finished : e ≡ Finished task made
  pub lives : task_at s task ≡ Some row
  pub origin : row.origin ≡ OfCall conn number
  pub ended : stand (steps made row.task) ≡ HasEnded outcome
  pub says : m ≡ reply_frame g number (steps made row.task).fuel outcome

-- The frame is such an exception.
pub record IsRefused (g : Setting) (e : Event) (conn : ℕ) (m : Message) : Type 0 where
  pub number : ℕ
  pub class : ClassId
  pub says : m ≡ message.Threw number class
  pub refusal : IsRefusal g e conn number class

-- The event is a Lookup of this number that comes on the connection, and the frame gives a reference of an own object.
pub record IsFound (g : Setting) (e : Event) (conn : ℕ) (m : Message) : Type 0 where
  pub number : ℕ
  pub name : List ℕ
  pub reference : Ref
  pub came : e ≡ Received conn (message.Lookup number name)
  pub own : reference.space ≡ g.id
  pub says : m ≡ message.Returned number 0 (Some (values.Ref reference))

-- What an answer is: the outcome of the call's task, an exception of a call or lookup that starts none, or what a lookup found.
abbrev pub IsAnswer : Setting → State → Event → ℕ → Message → Type 0
IsAnswer g s e conn m = IsOutcome g s e conn m ⊎ (IsRefused g e conn m ⊎ IsFound g e conn m)

-- each Returned, Threw and Spent is one
abbrev pub Answers : Setting → State → Event → ℕ → Message → Type 0
Answers g s e conn (message.Returned number fuel value) = IsAnswer g s e conn (message.Returned number fuel value)
Answers g s e conn (message.Threw number class) = IsAnswer g s e conn (message.Threw number class)
Answers g s e conn (message.Spent number) = IsAnswer g s e conn (message.Spent number)
Answers g s e conn _ = Unit {0}

abbrev pub SendsAnswer : Setting → State → Event → Output → Type 0
SendsAnswer g s e (Send conn m) = Answers g s e conn m
SendsAnswer g s e _ = Unit {0}

-- This holds of each event after every history.
abbrev pub AnswersAreOutcomes : Type 0
AnswersAreOutcomes = (g : Setting) (h : List Event) (e : Event) → AllOf (SendsAnswer g (state_of g h) e) (outputs_of g h e)
