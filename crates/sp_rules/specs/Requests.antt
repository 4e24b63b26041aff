-- What is asked of peers: how requests are made, wait for the peer's Hello, and go out; and the end of an event, at which the due dirty and
-- clean calls are made (Java RMI specification, 9.1: DGC.dirty and DGC.clean).
use Rattle.std.specs.Prelude.{ℕ, ◌+◌, ◌&&◌, ◌||◌, not, Bool, true, false, List, [], ◌∷◌, ◌++◌, Option, None, Some, is_some, nat_le, filter, if◌then◌else◌}
use Rattle.std.specs.Str.{bytes_eq}
use Rattle.dgc_client.specs.declared.groups.Group.{Group}
use Rattle.dgc_client.specs.declared.lease.Due.{Due}
use Rattle.dgc_client.specs.declared.lease.Due.TheVariants as due
use Rattle.dgc_client.specs.Groups as groups
use Rattle.dgc_client.specs.Table as client
use Rattle.net_message.specs.declared.message.Message.{Message}
use Rattle.net_message.specs.declared.message.Message.TheVariants as message
use Rattle.uuid.specs.declared.Uuid.{Uuid}
use Rattle.space_ids.specs.declared.ids.ObjId.{ObjId}
use Rattle.sp_rules.specs.Events.{Turn, Waited, Cleans, Dirties, Dial}
use Rattle.sp_rules.specs.Events as event
use Rattle.sp_rules.specs.Lists.{each, with_some}
use Rattle.sp_rules.specs.State.{State, Request, Asked, Calls, LooksUp, Tells, Stage, Waits, Out, Answered, Connection, connection_at, connection_to, is_dialling, send, say}

-- ---- groups of dirty and clean calls

-- Among the clean calls of one event, and likewise among its dirty calls, ids of one peer go together, in the order in which the references were first held, and peers in the order of their first id there; strong clean calls go in groups of their own, before the same peer's others.
unfoldable pub due_groups : List client.Told → List Group
due_groups h = groups.grouped (groups.in_order (client.due_of h))

-- ---- going out

abbrev pub turn_of : Due → Turn
turn_of due.Dirty = Dirties
turn_of (due.Clean strong) = Cleans

-- the turn among frames of a request that goes out as it is made
abbrev pub turn_asked : Asked → Turn
turn_asked (Calls number task lent kind m) = event.Calls
turn_asked (LooksUp number task name) = event.Calls
turn_asked (Tells call group) = turn_of group.kind

-- A dirty call asks for 600,000 ms.
abbrev pub group_frame : Due → ℕ → List ObjId → Message
group_frame due.Dirty sequence ids = message.Dirty sequence 600000 ids
group_frame (due.Clean strong) sequence ids = message.Clean sequence strong ids

abbrev pub add_request : Request → State → State
add_request r s = record s { requests = s.requests ++ r ∷ [] }

-- Dirty and Clean are numbered as they go out; their numbers rise by one from 1 over all Dirty and Clean frames of a space. A lease counts from the moment at which its dirty call was sent.
unfoldable pub part_goes_out : Turn → ℕ → ℕ → State → Group → State
part_goes_out turn conn call s part =
    let sequence = client.numbers_of s.leases + 1 in
    send turn conn (group_frame part.kind sequence part.ids)
    (add_request (record { peer = part.peer; asked = Tells call part; stage = Out conn sequence })
    (record s { leases = client.sent part call s.leases }))

-- A frame of version 1 names at most 1,024 ids, one of version 2 at most 4,096.
abbrev pub most_ids : ℕ → ℕ
most_ids version = if nat_le 2 version then 4096 else 1024

abbrev pub most_of : Option Connection → ℕ
most_of None = 1024
most_of (Some c) = most_ids c.version

-- how many ids a frame on a connection names at most
abbrev pub most_on : State → ℕ → ℕ
most_on s conn = most_of (connection_at s conn)

-- Calls go out with the numbers that they have. Dirty and Clean are cut as they go out: more ids than a frame of the connection's version names go in several frames.
abbrev pub goes_out : Turn → ℕ → Uuid → Asked → State → State
goes_out turn conn peer (Calls number task lent kind m) s =
    send turn conn m (add_request (record { peer = peer; asked = Calls number task lent kind m; stage = Out conn 0 }) s)
goes_out turn conn peer (LooksUp number task name) s =
    send turn conn (message.Lookup number name) (add_request (record { peer = peer; asked = LooksUp number task name; stage = Out conn 0 }) s)
goes_out turn conn peer (Tells call group) s = each (part_goes_out turn conn call) (groups.parts_of (most_on s conn) group) s

unfoldable pub go_out : Turn → ℕ → Request → State → State
go_out turn conn r s = goes_out turn conn r.peer r.asked s

-- ---- asking

-- whether the peer's Hello has come on a connection, and on which
abbrev pub hello_came : Option Connection → Option ℕ
hello_came None = None
hello_came (Some c) = if is_some c.peer then Some c.number else None

-- If no connection to a peer is open, Dial is given once.
unfoldable pub dial : Uuid → State → State
dial peer s =
    if is_some (connection_to s peer) || is_dialling s peer then s
    else say (Dial peer) (record s { dialling = s.dialling ++ peer ∷ [] })

-- A request goes out if the peer's Hello has come; else it waits for it.
unfoldable pub ask : State → Request → State
ask s r = with_some (hello_came (connection_to s r.peer)) (dial r.peer (add_request r s)) (λ conn. go_out (turn_asked r.asked) conn r s)

abbrev pub is_waiting : Stage → Bool
is_waiting Waits = true
is_waiting (Out conn sequence) = false
is_waiting (Answered conn) = false

abbrev pub waits_for : Uuid → Request → Bool
waits_for peer r = bytes_eq r.peer peer && is_waiting r.stage

abbrev pub without_waiting : Uuid → State → State
without_waiting peer s = record s { requests = filter (λ r. not (waits_for peer r)) s.requests }

-- Requests wait for the peer's Hello and then go out in the order in which they were made.
unfoldable pub flush_waiting : Uuid → ℕ → State → State
flush_waiting peer conn s =
    each (λ t r. go_out Waited conn r t) (filter (waits_for peer) s.requests) (without_waiting peer s)

-- ---- the end of an event

unfoldable pub make_group : State → Group → State
make_group s group =
    let call = s.groups_made + 1 in
    ask (record s { groups_made = call; leases = client.made group call s.leases })
    (record { peer = group.peer; asked = Tells call group; stage = Waits })

-- A foreign reference with holders, no lease and no dirty call on its way gets one; one without holders gets a clean call, once after its last dirty call.
unfoldable pub make_due : State → State
make_due s = each make_group (due_groups s.leases) s

unfoldable pub ask_fresh : State → State
ask_fresh s = each ask s.fresh (record s { fresh = [] })

-- At the end of an event the due clean and dirty calls are made, and then the call or lookup of the event; so its Dials stand in this order
-- too.
unfoldable pub settle : State → State
settle s = ask_fresh (make_due s)
