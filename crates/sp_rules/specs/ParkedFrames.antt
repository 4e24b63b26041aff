-- Frames that wait for leases: a call starts, and a result is passed on, once every foreign reference in it has a lease. (This project's own rule; a client that first gets a reference makes a dirty call by the Java RMI specification, 3.3 and 9.1.)
use Rattle.std.specs.Prelude.{ℕ, ◌==◌, ◌&&◌, not, Bool, false, List, [], ◌∷◌, ◌++◌, Option, None, Some, is_some, filter, find}
use Rattle.std.specs.List.{list_all}
use Rattle.space_ids.specs.declared.ids.ClassId.{ClassId}
use Rattle.dgc_client.specs.Table as client
use Rattle.space_ids.specs.declared.ids.ForeignId.{ForeignId}
use Rattle.net_message.specs.declared.message.Message.TheVariants as message
use Rattle.space_ids.specs.declared.ids.ObjId.{ObjId}
use Rattle.space_ids.specs.declared.ids.Ref.{Ref}
use Rattle.space_ids.specs.declared.value.Value.{Value}
use Rattle.space_ids.specs.declared.value.Value.TheVariants as values
use Rattle.sp_rules.specs.Behaviours.{Reply, GivesBack, Throws}
use Rattle.sp_rules.specs.Classes.{Setting}
use Rattle.sp_rules.specs.Events.{Replies, Acks}
use Rattle.sp_rules.specs.Holders.{lease_now, hold_ids, drop_ids}
use Rattle.sp_rules.specs.Lists.{each, with_some}
use Rattle.sp_rules.specs.LivingTasks.{add_task, reply_to}
use Rattle.sp_rules.specs.State.{State, OfCall, Request, Asked, Calls, LooksUp, Tells, Stage, Waits, Out, Answered, Frame, CallFrame, ReturnedFrame, ParkedFrame, send, object_at}

-- ---- requests by connection and number

abbrev pub is_out_on : ℕ → Stage → Bool
is_out_on conn Waits = false
is_out_on conn (Out c sequence) = c == conn
is_out_on conn (Answered c) = c == conn

abbrev pub is_unanswered_on : ℕ → Stage → Bool
is_unanswered_on conn Waits = false
is_unanswered_on conn (Out c sequence) = c == conn
is_unanswered_on conn (Answered c) = false

abbrev pub has_number : ℕ → Asked → Bool
has_number number (Calls n task lent kind m) = n == number
has_number number (LooksUp n task name) = n == number
has_number number (Tells call group) = false

-- the call or lookup of this number that is out on the connection and has no answer
abbrev pub is_asked_on : ℕ → ℕ → Request → Bool
is_asked_on conn number r = is_unanswered_on conn r.stage && has_number number r.asked

-- the same, answered or not
abbrev pub is_call_on : ℕ → ℕ → Request → Bool
is_call_on conn number r = is_out_on conn r.stage && has_number number r.asked

abbrev pub remove_requests : (Request → Bool) → State → State
remove_requests is s = record s { requests = filter (λ r. not (is r)) s.requests }

-- a call that came is answered by an exception
abbrev pub answer_threw : ℕ → ℕ → ClassId → State → State
answer_threw conn number class s = send Replies conn (message.Threw number class) s

-- ---- parked frames go

abbrev pub is_parked_at : ℕ → ℕ → ParkedFrame → Bool
is_parked_at conn number p = p.conn == conn && p.number == number

abbrev pub has_lease : State → ForeignId → Bool
has_lease s r = is_some (lease_now s r).lease

abbrev pub take_parked : ParkedFrame → State → State
take_parked p s = record s { parked = filter (λ q. not (is_parked_at p.conn p.number q)) s.parked }

-- What was parked under the connection and number of a frame lets its references go.
abbrev pub let_go_parked : ParkedFrame → List ParkedFrame → State → State
let_go_parked p parked s = each (λ t (q : ParkedFrame). drop_ids q.references t) (filter (is_parked_at p.conn p.number) parked) s

-- A call's method is selected at the owner. If selection finds none, no task starts and the answer is ServerError.
abbrev pub start_selected : Setting → ℕ → ℕ → Ref → Option ℕ → ℕ → List Value → State → State
start_selected g conn number receiver None fuel arguments s = answer_threw conn number g.classes.server_error s
start_selected g conn number receiver (Some selected) fuel arguments s =
    add_task g (OfCall conn number) selected (values.Ref receiver ∷ arguments) fuel s

unfoldable pub start_call : Setting → ParkedFrame → ObjId → ℕ → ℕ → List Value → State → State
start_call g p target method fuel arguments s = with_some (object_at s target) s (λ o.
    start_selected g p.conn p.number (record { space = g.id; id = target; class = o.class }) (g.classes.selected o.class method) fuel arguments s)

-- The task goes on with the result, and Ack is sent.
unfoldable pub answer_parked : Setting → ParkedFrame → Reply → State → State
answer_parked g p reply s = with_some (find (is_call_on p.conn p.number) s.requests) s (λ r.
    reply_to g r.asked reply (send Acks p.conn (message.Ack p.number) (remove_requests (is_call_on p.conn p.number) s)))

abbrev pub go_frame : Setting → ParkedFrame → Frame → State → State
go_frame g p (CallFrame target method fuel arguments) s = start_call g p target method fuel arguments s
go_frame g p (ReturnedFrame value fuel) s = answer_parked g p (GivesBack value fuel) s

-- A task or a result holds the references of a frame before the parked frame lets them go.
unfoldable pub go : Setting → State → ParkedFrame → State
go g s p = with_some (find (is_parked_at p.conn p.number) s.parked) s (λ q.
    let_go_parked p s.parked (go_frame g q q.frame (take_parked p s)))

-- A frame is parked until every foreign reference in it has a lease. Those that wait for nothing go in the order in which they came.
unfoldable pub go_all : Setting → State → State
go_all g s = each (go g) (filter (λ (p : ParkedFrame). list_all (has_lease s) p.references) s.parked) s

unfoldable pub park_frame : Setting → ℕ → ℕ → Frame → List ForeignId → State → State
park_frame g conn number frame references s =
    go_all g (hold_ids references (record s {
      parked = s.parked ++ record { conn = conn; number = number; frame = frame; references = references } ∷ [];
    }))

-- ---- parked frames fail

abbrev pub fail_frame : Setting → ParkedFrame → Frame → State → State
fail_frame g p (CallFrame target method fuel arguments) s = answer_threw p.conn p.number g.classes.unmarshal s
fail_frame g p (ReturnedFrame value fuel) s = answer_parked g p (Throws g.classes.unmarshal) s

-- If a dirty call failed, a parked frame that waits for its reference ends with UnmarshalException.
unfoldable pub fail_parked : Setting → State → ParkedFrame → State
fail_parked g s p = fail_frame g p p.frame (let_go_parked p s.parked (take_parked p s))

-- the frames that wait for a reference
abbrev pub names : ForeignId → ParkedFrame → Bool
names r p = client.is_among r p.references
