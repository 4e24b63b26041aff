-- The frames that come on a connection: both ends say Hello first; the space that dialled asks and the other end answers (this project's own protocol; what a dirty and a clean call do is the Java RMI specification's 9.1, what a lookup gives its 6.1).
use Rattle.std.specs.Prelude.{ℕ, ◌+◌, ◌==◌, ◌&&◌, ◌||◌, not, nat_le, min, Bool, true, false, List, [], Option, None, Some, is_some, is_none, filter, map, find, fold, length, if◌then◌else◌}
use Rattle.std.specs.List.{list_any}
use Rattle.std.specs.Str.{bytes_eq}
use Rattle.space_ids.specs.declared.ids.ClassId.{ClassId}
use Rattle.dgc_client.specs.History as lease_events
use Rattle.dgc_client.specs.Table as client
use Rattle.dgc_client.specs.declared.lease.Due.{Due}
use Rattle.dgc_client.specs.declared.lease.Due.TheVariants as due
use Rattle.dgc_list.specs.History as owner
use Rattle.net_message.specs.declared.message.Message.{Message}
use Rattle.net_message.specs.declared.message.Message.TheVariants as message
use Rattle.sp_registry.specs.Bindings.{lookup}
use Rattle.uuid.specs.declared.Uuid.{Uuid}
use Rattle.space_ids.specs.declared.ids.ObjId.{ObjId}
use Rattle.space_ids.specs.declared.value.Value.{Value}
use Rattle.space_ids.specs.declared.value.Value.TheVariants as values
use Rattle.sp_rules.specs.Behaviours.{Reply, Throws, RunsOut}
use Rattle.sp_rules.specs.Classes.{Setting, fit_kinds, fits_result}
use Rattle.sp_rules.specs.Endings.{close, redial}
use Rattle.sp_rules.specs.Events.{Hellos, Replies, Acks}
use Rattle.sp_rules.specs.Holders.{drop, is_refused}
use Rattle.sp_rules.specs.Lists.{each, with_some}
use Rattle.sp_rules.specs.LivingTasks.{keep, reply_to}
use Rattle.sp_rules.specs.ParkedFrames.{is_asked_on, is_call_on, is_unanswered_on, remove_requests, answer_threw, park_frame, go_all}
use Rattle.sp_rules.specs.References.{references_in, references_of, foreign_ids, is_id_in}
use Rattle.sp_rules.specs.Requests.{flush_waiting, most_ids}
use Rattle.sp_rules.specs.State.{State, Request, Asked, Calls, LooksUp, Tells, Stage, Waits, Out, Answered, Until, RootAcked, Acked, Passed, KeptResult, Connection, Frame, CallFrame, ReturnedFrame, ParkedFrame, Object, standing, object_at, set_connection, tell_owner, send}

-- ---- Hello

abbrev pub of_version : ℕ → ℕ → State → State
of_version version conn s = set_connection (λ (d : Connection). record d { version = version }) conn s

-- Both ends send Hello first. Its version is that of the connection's frames from then on.
abbrev pub say_hello : Setting → ℕ → ℕ → State → State
say_hello g version conn s = of_version version conn (send Hellos conn (message.Hello version g.id g.digest) s)

abbrev pub greeted : Uuid → ℕ → State → State
greeted space conn s = set_connection (λ (d : Connection). record d { peer = Some space }) conn s

-- A space of version 1 says Hello as the connection opens, at the end that was dialled too. One of version 2 that was dialled answers the other's, with the lower of the two versions.
abbrev pub answer_hello : Setting → ℕ → ℕ → State → State
answer_hello g version conn s = if nat_le 2 g.version then say_hello g (min version g.version) conn s else s

-- The peer that was dialled answers with the version that this space said. If it answers 2 with 1 it speaks version 1 alone, and is dialled again; any other version closes the connection.
abbrev pub answered_hello : Setting → Connection → Uuid → ℕ → Uuid → State → State
answered_hello g c peer version space s =
    if version == c.version then flush_waiting peer c.number (greeted space c.number s)
    else (if nat_le 2 c.version && version == 1 then redial peer c.number s else close g g.classes.unmarshal c.number s)

-- A first frame that is no Hello closes the connection, and so does a Hello with another digest, with another id than was dialled, or of a version that the space does not speak. A Hello with another digest or id ends the calls and lookups that wait to be sent with ConnectException.
unfoldable pub first_frame : Setting → Connection → Message → State → State
first_frame g c (message.Hello version space digest) s = with_some c.dialled
    (if bytes_eq digest g.digest && nat_le version g.version then answer_hello g version c.number (greeted space c.number s)
    else close g g.classes.unmarshal c.number s)
    (λ peer. if bytes_eq digest g.digest && bytes_eq space peer then answered_hello g c peer version space s
    else close g g.classes.connect c.number s)
first_frame g c m s = close g g.classes.unmarshal c.number s

-- ---- at the end that answers: Call

abbrev pub is_call_frame : Frame → Bool
is_call_frame (CallFrame target method fuel arguments) = true
is_call_frame (ReturnedFrame value fuel) = false

-- 4,096 tasks may live, parked calls included.
abbrev pub is_busy : State → Bool
is_busy s = nat_le 4096 (length s.tasks + length (filter (λ (p : ParkedFrame). is_call_frame p.frame) s.parked))

-- A call throws UnmarshalException if no remote interface of the target's class declares or inherits its method, if its arguments are not
-- of the descriptor's kinds, or if a reference in it is refused; with too many tasks it throws ServerError. Else it is parked until every
-- foreign reference in it has a lease, and then starts.
abbrev pub call_of : Setting → ℕ → ℕ → Object → ℕ → ℕ → List Value → State → State
call_of g conn number o method fuel arguments s =
    if not (g.classes.may_call o.class method) || (not (fit_kinds (g.classes.parameters method) arguments)
    || list_any (is_refused g s) (references_of arguments))
    then answer_threw conn number g.classes.unmarshal s
    else (if is_busy s then answer_threw conn number g.classes.server_error s
    else park_frame g conn number (CallFrame o.id method fuel arguments)
    (fold client.with_reference [] (foreign_ids g.id (references_of arguments))) s)

-- A call whose target does not stand throws NoSuchObjectException, before all else is looked at.
abbrev pub call_on : Setting → ℕ → ℕ → Option Object → ℕ → ℕ → List Value → State → State
call_on g conn number None method fuel arguments s = answer_threw conn number g.classes.no_such_object s
call_on g conn number (Some o) method fuel arguments s = call_of g conn number o method fuel arguments s

abbrev pub counted : ℕ → ℕ → State → State
counted conn number s = set_connection (λ (c : Connection). record c { last = number }) conn s

-- A Call or Lookup number not above the last closes the connection.
unfoldable pub got_call : Setting → Connection → ℕ → ObjId → ℕ → ℕ → List Value → State → State
got_call g c number target method fuel arguments s =
    if nat_le number c.last then close g g.classes.unmarshal c.number s
    else call_on g c.number number (object_at s target) method fuel arguments (counted c.number number s)

-- ---- at the end that answers: Lookup, Ack

-- A lookup gives a reference to the object that the name is bound to, or throws NotBoundException; its result is held until Ack.
abbrev pub found : Setting → ℕ → ℕ → Option Object → State → State
found g conn number None s = answer_threw conn number g.classes.not_bound s
found g conn number (Some o) s =
    let value = Some (values.Ref (record { space = g.id; id = o.id; class = o.class })) in
    send Replies conn (message.Returned number 0 value) (keep g (Acked conn number) value s)

abbrev pub object_of : State → Option ObjId → Option Object
object_of s None = None
object_of s (Some id) = object_at s id

unfoldable pub got_lookup : Setting → Connection → ℕ → List ℕ → State → State
got_lookup g c number name s =
    if nat_le number c.last then close g g.classes.unmarshal c.number s
    else found g c.number number (object_of s (lookup s.owner.names name)) (counted c.number number s)

abbrev pub is_acked_by : ℕ → ℕ → KeptResult → Bool
is_acked_by conn number r = is r.until
  where
    is : Until → Bool
    is (RootAcked task) = false
    is (Acked c n) = c == conn && n == number
    is (Passed moment) = false

abbrev pub let_go : Setting → State → KeptResult → State
let_go g s r = drop g (references_in r.value) s

-- the results that are held for this go
unfoldable pub release : Setting → (KeptResult → Bool) → State → State
release g is s =
    each (let_go g) (filter is s.results) (record s { results = filter (λ r. not (is r)) s.results })

-- Until Ack the owner of a reply holds the result. An Ack of no unacknowledged result of that connection closes it.
unfoldable pub got_ack : Setting → Connection → ℕ → State → State
got_ack g c number s =
    if list_any (is_acked_by c.number number) s.results then release g (is_acked_by c.number number) s
    else close g g.classes.unmarshal c.number s

-- ---- at the end that answers: Dirty, Clean

-- The client of a dirty or clean call is the space that the connection's Hello named.
abbrev pub client_of : Option Uuid → Uuid → Uuid
client_of None own = own
client_of (Some peer) own = peer

-- Dirty and clean calls on objects that do not stand change nothing.
abbrev pub that_stand : State → List ObjId → List ObjId
that_stand s ids = filter (is_id_in (map (λ (o : Object). o.id) (standing s.store))) ids

-- whether a frame of the connection's version may name these
abbrev pub fit_frame : Connection → List ObjId → Bool
fit_frame c ids = nat_le (length ids) (most_ids c.version)

-- A lease is granted for the smaller of the period asked and 600,000 ms. A late dirty call changes nothing and is answered as usual.
abbrev pub answer_dirty : Setting → Connection → ℕ → ℕ → List ObjId → State → State
answer_dirty g c sequence period ids s =
    send Replies c.number (message.Lease sequence (min period 600000))
    (tell_owner (owner.Dirty (client_of c.peer g.id) (that_stand s ids) sequence period) s)

abbrev pub answer_clean : Setting → Connection → ℕ → Bool → List ObjId → State → State
answer_clean g c sequence strong ids s =
    send Replies c.number (message.Cleaned sequence)
    (tell_owner (owner.Clean (client_of c.peer g.id) (that_stand s ids) sequence strong) s)

-- More ids than a frame of the connection's version names close it.
unfoldable pub got_dirty : Setting → Connection → ℕ → ℕ → List ObjId → State → State
got_dirty g c sequence period ids s = if fit_frame c ids then answer_dirty g c sequence period ids s else close g g.classes.unmarshal c.number s

unfoldable pub got_clean : Setting → Connection → ℕ → Bool → List ObjId → State → State
got_clean g c sequence strong ids s = if fit_frame c ids then answer_clean g c sequence strong ids s else close g g.classes.unmarshal c.number s

-- ---- at the end that dialled: Returned, Threw, Spent

abbrev pub is_reference : Option Value → Bool
is_reference None = false
is_reference (Some values.Null) = false
is_reference (Some (values.Int n)) = false
is_reference (Some (values.Ints ns)) = false
is_reference (Some (values.Ref r)) = true

-- whether a Returned is of the result's kind and gives back no more fuel than was lent: a lookup's is a reference, and nothing is lent to it
abbrev pub fits_asked : Asked → Option Value → ℕ → Bool
fits_asked (Calls n task lent kind m) value fuel = fits_result kind value && nat_le fuel lent
fits_asked (LooksUp n task name) value fuel = is_reference value && nat_le fuel 0
fits_asked (Tells call group) value fuel = false

abbrev pub answered_on : ℕ → ℕ → Request → Request
answered_on conn number r = if is_call_on conn number r then record r { stage = Answered conn } else r

-- A Returned with a value not of the result's kind, with more fuel than was lent, or with a reference for which a call would be refused gives UnmarshalException. Else it waits until the lease is there; then the task goes on. Every Returned that answers something is acknowledged once.
abbrev pub returned_for : Setting → Connection → ℕ → ℕ → Option Value → Asked → State → State
returned_for g c number fuel value asked s =
    if not (fits_asked asked value fuel) || list_any (is_refused g s) (references_in value)
    then reply_to g asked (Throws g.classes.unmarshal) (send Acks c.number (message.Ack number) (remove_requests (is_call_on c.number number) s))
    else park_frame g c.number number (ReturnedFrame value fuel) (foreign_ids g.id (references_in value)) (record s {
      requests = map (answered_on c.number number) s.requests;
    })

-- A Threw of a class that is no Throwable gives UnmarshalException.
abbrev pub thrown_reply : Setting → ClassId → Reply
thrown_reply g class = Throws (if g.classes.is_throwable class then class else g.classes.unmarshal)

-- A Spent makes the caller Spent; for a lookup it gives UnmarshalException.
abbrev pub spent_reply : Setting → Asked → Reply
spent_reply g (Calls n task lent kind m) = RunsOut
spent_reply g (LooksUp n task name) = Throws g.classes.unmarshal
spent_reply g (Tells call group) = RunsOut

-- An answer to nothing closes the connection.
unfoldable pub answered_by : Setting → Connection → ℕ → (Asked → State → State) → State → State
answered_by g c number next s =
    with_some (find (is_asked_on c.number number) s.requests) (close g g.classes.unmarshal c.number s) (λ r. next r.asked s)

abbrev pub ends_as : Setting → Connection → ℕ → (Asked → Reply) → Asked → State → State
ends_as g c number reply asked s = reply_to g asked (reply asked) (remove_requests (is_call_on c.number number) s)

-- ---- at the end that dialled: Lease, Cleaned

abbrev pub is_dirty_kind : Due → Bool
is_dirty_kind due.Dirty = true
is_dirty_kind (due.Clean strong) = false

abbrev pub tells_of : Bool → Asked → Bool
tells_of dirty (Calls n task lent kind m) = false
tells_of dirty (LooksUp n task name) = false
tells_of dirty (Tells call group) = if dirty then is_dirty_kind group.kind else not (is_dirty_kind group.kind)

abbrev pub has_sequence : ℕ → Stage → Bool
has_sequence sequence Waits = false
has_sequence sequence (Out conn s) = s == sequence
has_sequence sequence (Answered conn) = false

-- the dirty (or clean) calls that went out on the connection under this sequence number
abbrev pub tells_on : Bool → ℕ → ℕ → Request → Bool
tells_on dirty conn sequence r = is_unanswered_on conn r.stage && (has_sequence sequence r.stage && tells_of dirty r.asked)

abbrev pub group_told : (ℕ → lease_events.Event) → Asked → State → State
group_told event (Calls n task lent kind m) s = s
group_told event (LooksUp n task name) s = s
group_told event (Tells call group) s = record s { leases = client.told group (event call) s.leases }

-- The Lease that answers an overtaken dirty call gives no lease. Frames that waited for the leases go.
unfoldable pub told_by : Setting → Connection → Bool → ℕ → (ℕ → lease_events.Event) → State → State
told_by g c dirty sequence event s =
    with_some (find (tells_on dirty c.number sequence) s.requests) (close g g.classes.unmarshal c.number s) (λ r.
    go_all g (group_told event r.asked (remove_requests (tells_on dirty c.number sequence) s)))

-- ---- all frames

-- The space that dials sends Call, Lookup, Ack, Dirty and Clean; the other end answers.
abbrev pub is_asking : Message → Bool
is_asking (message.Call number object method fuel arguments) = true
is_asking (message.Ack number) = true
is_asking (message.Dirty sequence period objects) = true
is_asking (message.Clean sequence strong objects) = true
is_asking (message.Lookup number name) = true
is_asking _ = false

-- A Hello that is not first closes the connection.
unfoldable pub got : Setting → Connection → Message → State → State
got g c (message.Hello version space digest) s = close g g.classes.unmarshal c.number s
got g c (message.Call number object method fuel arguments) s = got_call g c number object method fuel arguments s
got g c (message.Returned number fuel value) s = answered_by g c number (returned_for g c number fuel value) s
got g c (message.Threw number class) s = answered_by g c number (ends_as g c number (λ asked. thrown_reply g class)) s
got g c (message.Spent number) s = answered_by g c number (ends_as g c number (spent_reply g)) s
got g c (message.Ack number) s = got_ack g c number s
got g c (message.Dirty sequence period objects) s = got_dirty g c sequence period objects s
got g c (message.Lease sequence period) s = told_by g c true sequence (λ call. lease_events.DirtyAnswered call period) s
got g c (message.Clean sequence strong objects) s = got_clean g c sequence strong objects s
got g c (message.Cleaned sequence) s = told_by g c false sequence lease_events.CleanAnswered s
got g c (message.Lookup number name) s = got_lookup g c number name s

-- whether a frame goes the wrong way: one that asks goes to the end that dialled, one that answers to the other
abbrev pub is_wrong_way : Bool → Bool → Bool
is_wrong_way true dialled = dialled
is_wrong_way false dialled = not dialled

-- A frame of the wrong direction closes the connection.
unfoldable pub receive : Setting → Connection → Message → State → State
receive g c m s =
    if is_none c.peer then first_frame g c m s
    else (if is_wrong_way (is_asking m) (is_some c.dialled) then close g g.classes.unmarshal c.number s else got g c m s)
