-- A world as one object sees it: its owner and its clients, the calls and leases that are on their way between them, who holds the object, and the frames that name it. It is the machine of all clients of one object (Java RMI specification, 3.3 and 9.1; the machine is this project's own form of it).
use Rattle.std.specs.Prelude.{ℕ, suc, ◌+◌, ◌==◌, ◌&&◌, ◌||◌, not, Bool, true, false, List, [], ◌∷◌, ◌++◌, Option, None, Some, is_some, option_map, filter, find, length, slice_get, if◌then◌else◌}
use Rattle.std.specs.List.{list_any, flat_map}
use Rattle.std.specs.Str.{bytes_eq}
use Rattle.dgc_client.specs.Table.{own}
use Rattle.dgc_client.specs.declared.lease.Due.TheVariants as due
use Rattle.dgc_client.specs.declared.lease.Due.{Due}
use Rattle.dgc_client.specs.declared.lease.Made.{Made}
use Rattle.dgc_list.specs.History.{remembered_of}
use Rattle.dgc_object.specs.AllClients as objects
use Rattle.dgc_object.specs.OneClient as pair
use Rattle.net_message.specs.declared.message.Message.{Message}
use Rattle.net_message.specs.declared.message.Message.TheVariants as message
use Rattle.sp_registry.specs.declared.registry.Binding.{Binding}
use Rattle.space_ids.specs.declared.ids.ForeignId.{ForeignId}
use Rattle.space_ids.specs.declared.ids.ObjId.{ObjId}
use Rattle.space_ids.specs.declared.ids.Ref.{Ref}
use Rattle.uuid.specs.declared.Uuid.{Uuid}
use Rattle.sp_laws.specs.MadeWhenDue.{is_owed, next_of}
use Rattle.sp_rules.specs.Frames.{tells_on}
use Rattle.sp_rules.specs.Holders.{fields_of, lease_now}
use Rattle.sp_rules.specs.Laws.{stands}
use Rattle.sp_rules.specs.Lists.{total, with_some}
use Rattle.sp_rules.specs.References.{references_in, references_of, is_id, is_id_in}
use Rattle.sp_rules.specs.Requests.{is_waiting, waits_for}
use Rattle.sp_rules.specs.State.{Living, KeptResult, Request, Asked, Calls, LooksUp, Tells, Frame, CallFrame, ReturnedFrame, ParkedFrame, standing}
use Rattle.sp_rules.specs.Worlds.{World, Space, Pipe, End, Dialler, Accepter, side, other, end_of, is_live, id_at, number_of}

-- ---- who names the object

-- whether a reference is the object's
abbrev pub is_of : ForeignId → Ref → Bool
is_of r x = bytes_eq x.space r.space && is_id x.id r.id

-- how many of these are
abbrev pub times_of : ForeignId → List Ref → ℕ
times_of r references = length (filter (is_of r) references)

-- whether a call's target is the object, in the space of this id
abbrev pub is_target : ForeignId → Uuid → ObjId → Bool
is_target r space target = bytes_eq space r.space && is_id target r.id

-- whether a frame to the space of this id names the object
abbrev pub names_it : ForeignId → Uuid → Message → Bool
names_it r to (message.Call number target method fuel arguments) = is_target r to target || list_any (is_of r) (references_of arguments)
names_it r to (message.Returned number fuel value) = list_any (is_of r) (references_in value)
names_it r to _ = false

-- the same of a frame that is parked in the space of this id
abbrev pub parks_it : ForeignId → Uuid → Frame → Bool
parks_it r space (CallFrame target method fuel arguments) = is_target r space target || list_any (is_of r) (references_of arguments)
parks_it r space (ReturnedFrame value fuel) = list_any (is_of r) (references_in value)

-- ---- who holds it

-- the tasks, fields of standing objects and results of a space that hold it, each as often as it does
abbrev pub holders_in : ForeignId → Space → ℕ
holders_in r s =
    total (λ (t : Living). times_of r t.task.held) s.state.tasks
    + (total (λ o. times_of r (references_of (fields_of s.setting s.state o))) (standing s.state.store)
    + total (λ (k : KeptResult). times_of r (references_in k.value)) s.state.results)

-- the names that are bound to it
abbrev pub names_of : ObjId → Space → ℕ
names_of id s = length (filter (λ (b : Binding). is_id b.object id) s.state.owner.names)

-- the frames that name it and wait for leases
abbrev pub parked_in : ForeignId → Space → ℕ
parked_in r s = length (filter (λ (p : ParkedFrame). parks_it r s.setting.id p.frame) s.state.parked)

-- ---- calls and leases on their way

abbrev pub call_in : Asked → List ℕ
call_in (Calls number task lent kind m) = []
call_in (LooksUp number task name) = []
call_in (Tells call group) = call ∷ []

abbrev pub asked_by : Option Request → List ℕ
asked_by None = []
asked_by (Some q) = call_in q.asked

-- the number under which the client made the dirty (or clean) call that is out on the connection under this sequence number
abbrev pub made_under : Bool → ℕ → ℕ → Space → List ℕ
made_under dirty conn sequence s = asked_by (find (tells_on dirty conn sequence) s.state.requests)

abbrev pub op_of : Due → ℕ → pair.Op
op_of due.Dirty call = pair.Dirty call
op_of (due.Clean strong) call = pair.Clean call

abbrev pub ops_of : Due → List ℕ → List pair.Op
ops_of kind [] = []
ops_of kind (call ∷ calls) = op_of kind call ∷ ops_of kind calls

-- a frame of the client that names the object in a dirty or clean call
abbrev pub op_in : ForeignId → ℕ → Space → Message → List pair.Op
op_in r conn s (message.Dirty sequence period ids) = if is_id_in ids r.id then ops_of due.Dirty (made_under true conn sequence s) else []
op_in r conn s (message.Clean sequence strong ids) = if is_id_in ids r.id then ops_of (due.Clean strong) (made_under false conn sequence s) else []
op_in r conn s _ = []

abbrev pub told_of : ForeignId → Asked → List pair.Op
told_of r (Calls number task lent kind m) = []
told_of r (LooksUp number task name) = []
told_of r (Tells call group) = if is_id_in group.ids r.id then op_of group.kind call ∷ [] else []

abbrev pub leased_by : ForeignId → Asked → List ℕ
leased_by r (Calls number task lent kind m) = []
leased_by r (LooksUp number task name) = []
leased_by r (Tells call group) = if is_id_in group.ids r.id then call ∷ [] else []

-- a Lease to the client that answers such a dirty call
abbrev pub lease_in : ForeignId → ℕ → Space → Message → List ℕ
lease_in r conn s (message.Lease sequence period) = with_some (find (tells_on true conn sequence) s.state.requests) [] (λ (q : Request). leased_by r q.asked)
lease_in r conn s _ = []

-- the connection was dialled by the client to the owner, and the client has not ended it
abbrev pub is_between : ℕ → ℕ → Pipe → Bool
is_between client owner p = (p.dialler.space == client && p.accepter.space == owner) && is_live p.dialler.phase

-- of each such connection, by its number
abbrev pub on_pipes : {A : Type 0} → (ℕ → Pipe → List A) → List Pipe → ℕ → List A
on_pipes f [] conn = []
on_pipes f (p ∷ ps) conn = f conn p ++ on_pipes f ps (suc conn)

-- the calls of a client on the object that have not arrived, the oldest first: those in the queue to the owner, and then those in the line that waits for its Hello
abbrev pub path_of : ForeignId → ℕ → World → ℕ → Space → List pair.Op
path_of r owner w client s =
    on_pipes (λ conn p. if is_between client owner p then flat_map (op_in r conn s) p.accepter.queue else []) w.pipes 0
    ++ flat_map (λ (q : Request). told_of r q.asked) (filter (waits_for r.space) s.state.requests)

-- the dirty calls of the client on the object whose Leases are on their way
abbrev pub coming_of : ForeignId → ℕ → World → ℕ → Space → List ℕ
coming_of r owner w client s = on_pipes (λ conn p. if is_between client owner p then flat_map (lease_in r conn s) p.dialler.queue else []) w.pipes 0

-- ---- a client

abbrev pub has_entry_of : ForeignId → Option Space → Uuid → Bool
has_entry_of r None client = false
has_entry_of r (Some o) client = is_some (remembered_of o.state.owner.entries client r.id).expires

abbrev pub stands_in : ForeignId → Option Space → Bool
stands_in r None = false
stands_in r (Some o) = stands o.state r.id

-- what a client and the owner keep of one another
abbrev pub client_in : ForeignId → ℕ → World → ℕ → Space → pair.State
client_in r owner w client s =
    let l = lease_now s.state r in
    record {
      path = path_of r owner w client s;
      way = option_map (λ (m : Made). m.call) l.dirty;
      coming = coming_of r owner w client s;
      lease = is_some l.lease;
      due = is_owed l.owed;
      entry = has_entry_of r (slice_get w.spaces owner) s.setting.id;
      stands = stands_in r (slice_get w.spaces owner);
      other = false;
      parked = parked_in r s;
      started = holders_in r s;
      next = next_of (own r s.state.leases);
    }

-- the owner is no client of its own, nor is a space that is not there
abbrev pub client_at : ForeignId → ℕ → World → ℕ → pair.State
client_at r owner w client = if client == owner then pair.start true false else with_some (slice_get w.spaces client) (pair.start true false) (client_in r owner w client)

-- ---- frames

-- a space in the machine: the owner, or a client
abbrev pub who : ℕ → ℕ → Option ℕ
who owner i = if i == owner then None else Some i

-- A frame that is parked at the owner is on its way.
abbrev pub frame_of : ℕ → ℕ → ℕ → Bool → objects.Frame
frame_of owner sender receiver parked = record { sender = who owner sender; receiver = who owner receiver; parked = parked && not (receiver == owner) }

abbrev pub frame_if : Bool → objects.Frame → List objects.Frame
frame_if true f = f ∷ []
frame_if false f = []

-- the calls in the line of a space that name the object
abbrev pub asked_in : ForeignId → ℕ → World → ℕ → Uuid → Asked → List objects.Frame
asked_in r owner w i peer (Calls number task lent kind m) = with_some (number_of w.spaces peer) [] (λ j. frame_if (names_it r peer m) (frame_of owner i j false))
asked_in r owner w i peer (LooksUp number task name) = []
asked_in r owner w i peer (Tells call group) = []

abbrev pub line_of : ForeignId → ℕ → World → ℕ → Space → List objects.Frame
line_of r owner w i s = flat_map (λ (q : Request). asked_in r owner w i q.peer q.asked) (filter (λ (q : Request). is_waiting q.stage) s.state.requests)

-- the frames on their way to an end
abbrev pub queue_of : ForeignId → ℕ → World → Pipe → End → List objects.Frame
queue_of r owner w p to = with_some (id_at (side to p).space w) [] (λ id. flat_map (λ m. frame_if (names_it r id m) (frame_of owner (side (other to) p).space (side to p).space false)) (side to p).queue)

abbrev pub peer_at : World → ℕ → ℕ → ℕ
peer_at w conn i = with_some (slice_get w.pipes conn) i (λ p. (side (other (end_of i p)) p).space)

-- the frames that are parked in a space
abbrev pub parked_of : ForeignId → ℕ → World → ℕ → Space → List objects.Frame
parked_of r owner w i s = flat_map (λ (p : ParkedFrame). frame_if (parks_it r s.setting.id p.frame) (frame_of owner (peer_at w p.conn i) i true)) s.state.parked

abbrev pub of_spaces : {A : Type 0} → (ℕ → Space → List A) → List Space → ℕ → List A
of_spaces f [] i = []
of_spaces f (s ∷ ss) i = f i s ++ of_spaces f ss (suc i)

-- all frames that name it: in lines, on their way, and parked
abbrev pub frames_of : ForeignId → ℕ → World → List objects.Frame
frames_of r owner w =
    of_spaces (line_of r owner w) w.spaces 0
    ++ (on_pipes (λ conn p. queue_of r owner w p Accepter ++ queue_of r owner w p Dialler) w.pipes 0
    ++ of_spaces (parked_of r owner w) w.spaces 0)

-- ---- the object

abbrev pub reference_to : ObjId → Option Uuid → ForeignId
reference_to id None = record { space = []; id = id }
reference_to id (Some space) = record { space = space; id = id }

abbrev pub own_holders : ForeignId → Option Space → ℕ
own_holders r None = 0
own_holders r (Some o) = names_of r.id o + holders_in r o

-- The object of this id that the space of this number owns, with all that the world has of it.
unfoldable pub object_in : World → ℕ → ObjId → objects.World
object_in w owner id =
    let r = reference_to id (id_at owner w) in
    record {
      clients = client_at r owner w;
      stands = stands_in r (slice_get w.spaces owner);
      own = own_holders r (slice_get w.spaces owner);
      frames = frames_of r owner w;
    }
