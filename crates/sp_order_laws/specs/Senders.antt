-- Who sends a frame holds the references in it until the frame is done: a Call's are held by the task that waits for it, a Returned's by the result that waits for its Ack (Java RMI specification, 3.3: an object that is referenced is not collected; that a result is held until it is acknowledged is this project's own rule).
use Rattle.std.specs.Prelude.{◌≡◌, ◌⊎◌, ℕ, true, List, ◌∷◌, Option, Some}
use Rattle.std.specs.List.{list_all}
use Rattle.std.specs.Str.{bytes_eq}
use Rattle.net_message.specs.declared.message.Message.TheVariants as message
use Rattle.space_ids.specs.declared.ids.ObjId.{ObjId}
use Rattle.space_ids.specs.declared.ids.Ref.{Ref}
use Rattle.space_ids.specs.declared.value.Value.{Value}
use Rattle.sp_rules.specs.Classes.{Setting}
use Rattle.sp_rules.specs.Events.{Event}
use Rattle.sp_rules.specs.Laws.{AllOf}
use Rattle.sp_rules.specs.Origins.{IsTaken}
use Rattle.sp_rules.specs.References.{is_id, references_of, is_reference_in}
use Rattle.sp_rules.specs.Space.{state_of}
use Rattle.sp_rules.specs.State.{Living, Acked, Frame, CallFrame, ReturnedFrame, ParkedFrame, task_at}
use Rattle.sp_rules.specs.Worlds.{World, Space, Pipe, WorldEvent, run, new_world}
use Rattle.sp_laws.specs.Inbound.{OpensOnce}
use Rattle.sp_order_laws.specs.Delivered.{came_on}
use Rattle.sp_order_laws.specs.Ends.{IsOneOf}
use Rattle.sp_order_laws.specs.Places.{IsBetween}
use Rattle.sp_order_laws.specs.Unbroken.{AreOfOneKind, NothingFails}

-- ---- parked frames came

-- a parked frame came on its connection, a call to this target
abbrev pub CameAsFrame : List Event → ParkedFrame → Frame → Type 0
CameAsFrame h p (CallFrame target method fuel arguments) = (id : ObjId) × ((is_id target id ≡ true) × IsOneOf (message.Call p.number id method fuel arguments) (came_on p.conn h))
CameAsFrame h p (ReturnedFrame value fuel) = IsOneOf (message.Returned p.number fuel value) (came_on p.conn h)

-- So each parked frame after every history that a space took, in which no number of a connection comes again.
abbrev pub ParkedFramesCame : Type 0
ParkedFramesCame = (g : Setting) (h : List Event) → IsTaken g h → OpensOnce h → AllOf (λ (p : ParkedFrame). CameAsFrame h p p.frame) (state_of g h).parked

-- ---- senders hold

-- A task of the caller waits, and holds the target, an object of the callee, and the references among the arguments.
pub record CallerHolds (a b : Space) (target : ObjId) (arguments : List Value) : Type 0 where
  pub task : ℕ
  pub row : Living
  pub lives : task_at a.state task ≡ Some row
  pub waits : row.waits ≡ true
  pub object : Ref
  pub number : is_id object.id target ≡ true
  pub space : bytes_eq object.space b.setting.id ≡ true
  pub held : list_all (is_reference_in row.task.held) (object ∷ references_of arguments) ≡ true

-- So of each Call on its way, and of each that is parked.
abbrev pub CallsAreHeldIn : World → Type 0
CallsAreHeldIn w = (conn number : ℕ) (p : Pipe) (a b : Space) (target : ObjId) (method fuel : ℕ) (arguments : List Value) → IsBetween w conn p a b
    → IsOneOf (message.Call number target method fuel arguments) p.accepter.queue ⊎ ((references : List Rattle.space_ids.specs.declared.ids.ForeignId.ForeignId) × IsOneOf (record { conn = conn; number = number; frame = CallFrame target method fuel arguments; references = references }) b.state.parked)
    → CallerHolds a b target arguments

-- The callee holds each result that is on its way, and each that is parked at the caller.
abbrev pub ResultsAreHeldIn : World → Type 0
ResultsAreHeldIn w = (conn number : ℕ) (p : Pipe) (a b : Space) (fuel : ℕ) (value : Option Value) → IsBetween w conn p a b
    → IsOneOf (message.Returned number fuel value) p.dialler.queue ⊎ ((references : List Rattle.space_ids.specs.declared.ids.ForeignId.ForeignId) × IsOneOf (record { conn = conn; number = number; frame = ReturnedFrame value fuel; references = references }) a.state.parked)
    → IsOneOf (record { until = Acked conn number; value = value }) b.state.results

pub record SendersHoldIn (w : World) : Type 0 where
  pub calls : CallsAreHeldIn w
  pub results : ResultsAreHeldIn w

-- So in every run of every world of spaces of one kind in which nothing fails.
abbrev pub SendersHold : Type 0
SendersHold = (settings : List Setting) (events : List WorldEvent) → AreOfOneKind settings → NothingFails events → SendersHoldIn (run (new_world settings) events)
