-- Frames that come on a connection, and what is answered. (This project's own protocol.)
use Rattle.std.specs.Prelude.{◌≡◌, ℕ, List, [], Option, None, Some, fold}
use Rattle.dgc_client.specs.Table as client
use Rattle.net_message.specs.declared.message.Message.TheVariants as message
use Rattle.space_ids.specs.declared.ids.ClassId.{ClassId}
use Rattle.space_ids.specs.declared.ids.ForeignId.{ForeignId}
use Rattle.space_ids.specs.declared.ids.ObjId.{ObjId}
use Rattle.space_ids.specs.declared.value.Value.{Value}
use Rattle.space_ids.specs.declared.value.Value.TheVariants as values
use Rattle.uuid.specs.declared.Uuid.{Uuid}
use Rattle.sp_requests.specs.Thrown.{thrown_class}
use Rattle.sp_requests.specs.declared.call_classes.RemoteException.{RemoteException}
use Rattle.sp_rules.specs.Behaviours.{Throws}
use Rattle.sp_rules.specs.Classes.{Setting}
use Rattle.sp_rules.specs.Events.{Acks, Replies}
use Rattle.sp_rules.specs.LivingTasks.{keep, reply_to}
use Rattle.sp_rules.specs.ParkedFrames.{answer_threw, is_call_on, park_frame, remove_requests}
use Rattle.sp_rules.specs.References.{foreign_ids, references_in, references_of}
use Rattle.sp_requests.specs.Asking.{asks_by, first_of}
use Rattle.sp_requests.specs.declared.asked.Asker.{Asker}
use Rattle.sp_rules.specs.State.{State, Acked, Asked, Connection, CallFrame, ReturnedFrame, connection_at, send}
use Rattle.sp_transport.specs.Answers.{park_answer}

-- The connection of this number is open, and this is its row.
pub record ComesOn (conn : ℕ) (s : State) (c : Connection) : Type 0 where
  pub there : connection_at s conn ≡ Some c
  pub number : c.number ≡ conn

-- the foreign references among values, each once, in the order in which they come
abbrev pub foreign_among : Uuid → List Value → List ForeignId
foreign_among own values = fold client.with_reference [] (foreign_ids own (references_of values))

-- A call that comes is answered by an exception, or parked.
abbrev pub take_call : Setting → ℕ → ℕ → Option RemoteException → ObjId → ℕ → ℕ → List Value → State → State
take_call g conn number (Some why) target method fuel arguments s = answer_threw conn number (thrown_class g.classes why) s
take_call g conn number None target method fuel arguments s = park_frame g conn number (CallFrame target method fuel arguments) (foreign_among g.id arguments) s

-- This call or lookup is asked by this asker.
abbrev pub IsAskedBy : Asker → Asked → Type 0
IsAskedBy by asked = first_of (asks_by asked) ≡ Some by

-- A lookup that comes is answered by a reference to an object of the space, and its result is held until its Ack.
abbrev pub give_found : Setting → ℕ → ℕ → ObjId → ClassId → State → State
give_found g conn number id class s =
    let value = Some (values.Ref (record { space = g.id; id = id; class = class })) in
    send Replies conn (message.Returned number 0 value) (keep g (Acked conn number) value s)

-- A result that does not fit: who asked is given UnmarshalException, and the result is acknowledged.
abbrev pub refuse_returned : Setting → ℕ → ℕ → Asked → State → State
refuse_returned g conn number asked s = reply_to g asked (Throws g.classes.unmarshal) (send Acks conn (message.Ack number) (remove_requests (is_call_on conn number) s))

-- A result waits until its reference has a lease.
abbrev pub park_returned : Setting → ℕ → ℕ → ℕ → Option Value → State → State
park_returned g conn number fuel value s = park_frame g conn number (ReturnedFrame value fuel) (foreign_ids g.id (references_in value)) (park_answer conn number s)
