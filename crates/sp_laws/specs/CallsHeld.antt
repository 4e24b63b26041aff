-- A task that waits holds what its call names: the target, and the references among its arguments, which so stay while the call is under way (Java RMI specification, 3.3: an object that is referenced stays).
use Rattle.std.specs.Prelude.{◌≡◌, ℕ, true, List, ◌∷◌, Option, Some}
use Rattle.std.specs.List.{list_all}
use Rattle.net_message.specs.declared.message.Message.{Message}
use Rattle.net_message.specs.declared.message.Message.TheVariants as message
use Rattle.uuid.specs.declared.Uuid.{Uuid}
use Rattle.space_ids.specs.declared.ids.Ref.{Ref}
use Rattle.space_ids.specs.declared.value.Value.{Value}
use Rattle.sp_rules.specs.Behaviours.{Call}
use Rattle.sp_rules.specs.Classes.{Setting}
use Rattle.sp_rules.specs.Events.{Event}
use Rattle.sp_rules.specs.Laws.{AllOf}
use Rattle.sp_rules.specs.Origins.{IsTaken}
use Rattle.sp_rules.specs.References.{references_of, is_reference_in}
use Rattle.sp_rules.specs.Space.{state_of}
use Rattle.sp_rules.specs.State.{Living, Request, Asked, Calls, LooksUp, Tells, task_at}
use Rattle.sp_rules.specs.Tasks.{AsksFor, stand}

-- A task asks for this call: it stands at it, the frame to the peer says it, and the task holds the target and the references among the arguments.
pub record AsksCall (peer : Uuid) (number lent : ℕ) (m : Message) (t : Living) : Type 0 where
  pub target : Ref
  pub method : ℕ
  pub arguments : List Value
  pub stands : stand t.task ≡ AsksFor (Call target method arguments)
  pub frame : m ≡ message.Call number target.id method lent arguments
  pub to : target.space ≡ peer
  pub held : list_all (is_reference_in t.task.held) (target ∷ references_of arguments) ≡ true

-- A call is what its task asks for.
abbrev pub IsAskedFor : (ℕ → Option Living) → Uuid → Asked → Type 0
IsAskedFor task_of peer (Calls number task lent kind m) = (t : Living) → task_of task ≡ Some t → t.waits ≡ true → AsksCall peer number lent m t
IsAskedFor task_of peer (LooksUp number task name) = Unit {0}
IsAskedFor task_of peer (Tells call group) = Unit {0}

-- This holds after every history that a space took, of each call that waits to be sent or answered or has its answer parked.
abbrev pub CallsAreHeld : Type 0
CallsAreHeld = (g : Setting) (h : List Event) → IsTaken g h → AllOf (λ (q : Request). IsAskedFor (task_at (state_of g h)) q.peer q.asked) (state_of g h).requests
