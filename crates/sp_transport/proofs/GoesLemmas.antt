-- What requests that go out, one after the other, leave of a state, whatever they send.
use Rattle.std.proofs.Common.{◌≡◌, ℕ, ◌+◌, ◌≤◌, Bool, true, false, ◌||◌, List, [], ◌∷◌, ◌++◌, Some, is_some, ◌⊎◌, inl, inr, refl, sym, ap, subst, ◌∙◌, arith}
use Rattle.std.specs.Prelude.{if◌then◌else◌}
use Rattle.std.specs.List.{flat_map}
use Rattle.uuid.specs.declared.Uuid.{Uuid}
use Rattle.net_message.specs.declared.message.Message.{Message}
use Rattle.net_message.specs.declared.message.Message.TheVariants as message
use Rattle.space_ids.specs.declared.ids.ObjId.{ObjId}
use Rattle.dgc_client.specs.declared.groups.Group.{Group}
use Rattle.dgc_client.specs.declared.lease.Due.{Due}
use Rattle.dgc_client.specs.declared.lease.Due.TheVariants as due
use Rattle.dgc_client.specs.Groups as groups
use Rattle.dgc_client.specs.Table as client
use Rattle.sp_rules.proofs.AllLemmas.{all-more}
use Rattle.sp_rules.specs.Endings.{call_number_in}
use Rattle.sp_rules.specs.Events.{Note, Says, Sends, Turn, Dial}
use Rattle.sp_rules.specs.Laws.{AllOf, RisesWithin}
use Rattle.sp_rules.specs.Lines.{dialled_to}
use Rattle.sp_rules.specs.Lists.{each}
use Rattle.sp_rules.specs.Requests as requests
use Rattle.sp_rules.specs.State.{State, Request, Asked, Calls, LooksUp, Tells, Out, Connection, connection_to, is_dialling, is_open, send}
use Rattle.sp_requests.specs.Asking.{IsNamed, last_call, newest}
use Rattle.sp_transport.specs.Asking.{AreNextOut}
use Rattle.sp_transport.specs.Said.{said}
use Rattle.sp_transport.specs.Transports.{asked_up_to, call_number}
use Rattle.sp_transport.proofs.LinesLemmas.{rises-from}
use Rattle.sp_transport.proofs.OrderLemmas.{recorded-sent}
use Rattle.sp_transport.proofs.SaidLemmas.{IsSentOn, sent-found}

-- ---- in turn

pub each-none : {S A : Type 0} (f : S → A → S) (s : S) → each f [] s ≡ s
unfolding each
each-none f s = refl

pub each-cons : {S A : Type 0} (f : S → A → S) (x : A) (xs : List A) (s : S) → each f (x ∷ xs) s ≡ each f xs (f s x)
unfolding each
each-cons f x xs s = refl

pub each-more : {S A : Type 0} (f : S → A → S) (xs : List A) (x : A) (s : S) → each f (xs ++ x ∷ []) s ≡ f (each f xs s) x
unfolding each
each-more f [] x s = refl
each-more f (y ∷ ys) x s = each-more f ys x (f s y)

-- ---- steps

-- A step leaves connections, the call of the event and how many calls were made, and notes frames of one turn and dials alone.
pub record IsStep (turn : Turn) (s t : State) : Type 1 where
  pub connections : t.connections ≡ s.connections
  pub fresh : t.fresh ≡ s.fresh
  pub calls : t.calls_made ≡ s.calls_made
  pub notes : (P : Note → Type 0) → ((conn : ℕ) (m : Message) → P (Sends turn conn m)) → ((peer : Uuid) → P (Says (Dial peer))) → AllOf P s.notes → AllOf P t.notes

pub no-step : (turn : Turn) (s : State) → IsStep turn s s
no-step turn s = record { connections = refl; fresh = refl; calls = refl; notes = λ P sends dials all. all }

pub steps : {turn : Turn} {s t u : State} → IsStep turn s t → IsStep turn t u → IsStep turn s u
steps {turn} {s} {t} {u} a b = record {
  connections = b.connections ∙ a.connections;
  fresh = b.fresh ∙ a.fresh;
  calls = b.calls ∙ a.calls;
  notes = λ P sends dials all. b.notes P sends dials (a.notes P sends dials all);
}

-- what is made of both branches
if-step : {turn : Turn} {s t u : State} (b : Bool) → IsStep turn s t → IsStep turn s u → IsStep turn s (if b then t else u)
if-step true x y = x
if-step false x y = y

each-step : {A : Type 0} (turn : Turn) (f : State → A → State) → ((s : State) (x : A) → IsStep turn s (f s x)) → (xs : List A) (s : State) → IsStep turn s (each f xs s)
each-step turn f step [] s = subst (λ (t : State). IsStep turn s t) (sym (each-none f s)) (no-step turn s)
each-step turn f step (x ∷ xs) s = subst (λ (t : State). IsStep turn s t) (sym (each-cons f x xs s)) (steps (step s x) (each-step turn f step xs (f s x)))

pub send-step : (turn : Turn) (conn : ℕ) (m : Message) (s : State) → IsStep turn s (send turn conn m s)
unfolding send
send-step turn conn m s =
    if-step (is_open s conn)
    (record { connections = refl; fresh = refl; calls = refl; notes = λ P sends dials all. all-more P s.notes (Sends turn conn m) all (sends conn m) })
    (no-step turn s)

add-step : (turn : Turn) (r : Request) (s : State) → IsStep turn s (requests.add_request r s)
add-step turn r s = record { connections = refl; fresh = refl; calls = refl; notes = λ P sends dials all. all }

-- the state before the frame of a part is sent
abbrev part_before : ℕ → ℕ → State → Group → State
part_before conn call s part = requests.add_request (record { peer = part.peer; asked = Tells call part; stage = Out conn (client.numbers_of s.leases + 1) }) (record s { leases = client.sent part call s.leases })

part-before-step : (turn : Turn) (conn call : ℕ) (s : State) (part : Group) → IsStep turn s (part_before conn call s part)
part-before-step turn conn call s part = record { connections = refl; fresh = refl; calls = refl; notes = λ P sends dials all. all }

pub part-step : (turn : Turn) (conn call : ℕ) (s : State) (part : Group) → IsStep turn s (requests.part_goes_out turn conn call s part)
unfolding requests.part_goes_out
part-step turn conn call s part =
    steps (part-before-step turn conn call s part) (send-step turn conn (requests.group_frame part.kind (client.numbers_of s.leases + 1) part.ids) (part_before conn call s part))

pub parts-step : (turn : Turn) (conn call : ℕ) (parts : List Group) (s : State) → IsStep turn s (each (requests.part_goes_out turn conn call) parts s)
parts-step turn conn call parts s = each-step turn (requests.part_goes_out turn conn call) (λ t part. part-step turn conn call t part) parts s

asked-step : (turn : Turn) (conn : ℕ) (peer : Uuid) (asked : Asked) (s : State) → IsStep turn s (requests.goes_out turn conn peer asked s)
asked-step turn conn peer (Calls number task lent kind m) s =
    let r : Request = record { peer = peer; asked = Calls number task lent kind m; stage = Out conn 0 } in
    steps (add-step turn r s) (send-step turn conn m (requests.add_request r s))
asked-step turn conn peer (LooksUp number task name) s =
    let r : Request = record { peer = peer; asked = LooksUp number task name; stage = Out conn 0 } in
    steps (add-step turn r s) (send-step turn conn (message.Lookup number name) (requests.add_request r s))
asked-step turn conn peer (Tells call group) s = parts-step turn conn call (groups.parts_of (requests.most_on s conn) group) s

-- a request goes out
pub go-step : (turn : Turn) (conn : ℕ) (s : State) (r : Request) → IsStep turn s (requests.go_out turn conn r s)
unfolding requests.go_out
go-step turn conn s r = asked-step turn conn r.peer r.asked s

pub dial-step : (turn : Turn) (peer : Uuid) (s : State) → IsStep turn s (requests.dial peer s)
unfolding requests.dial
dial-step turn peer s =
    if-step (is_some (connection_to s peer) || is_dialling s peer) (no-step turn s)
    (record { connections = refl; fresh = refl; calls = refl; notes = λ P sends dials all. all-more P s.notes (Says (Dial peer)) all (dials peer) })

pub wait-step : (turn : Turn) (r : Request) (s : State) → IsStep turn s (requests.dial r.peer (requests.add_request r s))
wait-step turn r s = steps (add-step turn r s) (dial-step turn r.peer (requests.add_request r s))

-- ---- numbers of calls, as frames go out

-- What may go out after a frame, if this may where the frame did not go out and where it did.
next-sent : (s : State) (turn : Turn) (conn : ℕ) (m : Message) (peer : Uuid) (ns ms : List ℕ) → ((sent : List Message) (up : ℕ) → RisesWithin (last_call sent) up ns → RisesWithin (last_call sent) up ms)
    → ((sent : List Message) (up : ℕ) → RisesWithin (last_call sent) up ns → RisesWithin (last_call (m ∷ sent)) up ms) → AreNextOut s peer ns → AreNextOut (send turn conn m s) peer ms
unfolding send
next-sent s turn conn m peer ns ms still after next = by (is_open s conn)
  where
    up : ℕ
    up = asked_up_to s.calls_made s.fresh

    pick : (c : Connection) → (dialled_to (said s) peer ≡ Some c) ⊎ IsSentOn conn m (dialled_to (said s) peer) c → RisesWithin (last_call c.sent) up ms
    pick c (inl f) = still c.sent up (next c f)
    pick c (inr x) = subst (λ (d : Connection). RisesWithin (last_call d.sent) up ms) (sym x.is) (after x.before.sent up (next x.before x.there))

    by : (b : Bool) → AreNextOut (if b then record s { notes = s.notes ++ Sends turn conn m ∷ [] } else s) peer ms
    by true = λ c there. pick c (sent-found conn m (said s) peer c (sym (ap (λ (l : List Connection). dialled_to l peer) (recorded-sent turn conn m s.notes s.connections)) ∙ there))
    by false = λ c there. still c.sent up (next c there)

-- a frame that is none of a call or lookup
next-plain : (s : State) (turn : Turn) (conn : ℕ) (m : Message) (peer : Uuid) (ns : List ℕ) → call_number_in m ≡ [] → AreNextOut s peer ns → AreNextOut (send turn conn m s) peer ns
next-plain s turn conn m peer ns none next =
    next-sent s turn conn m peer ns ns (λ sent up r. r) (λ sent up r. subst (λ (l : List ℕ). RisesWithin (newest (l ++ flat_map call_number_in sent)) up ns) (sym none) r) next

-- the frame of a call or lookup
next-called : (s : State) (turn : Turn) (conn : ℕ) (m : Message) (peer : Uuid) (n : ℕ) (ns : List ℕ) → call_number_in m ≡ n ∷ [] → AreNextOut s peer (n ∷ ns) → AreNextOut (send turn conn m s) peer ns
next-called s turn conn m peer n ns its next =
    next-sent s turn conn m peer (n ∷ ns) ns
    (λ sent up r. let above : last_call sent + 1 ≤ n = r.0 in rises-from (last_call sent) n up ns (omega arith) r.1)
    (λ sent up r. subst (λ (l : List ℕ). RisesWithin (newest (l ++ flat_map call_number_in sent)) up ns) (sym its) r.1) next

no-call : (kind : Due) (sequence : ℕ) (ids : List ObjId) → call_number_in (requests.group_frame kind sequence ids) ≡ []
no-call due.Dirty sequence ids = refl
no-call (due.Clean strong) sequence ids = refl

next-part-out : (turn : Turn) (conn call : ℕ) (s : State) (part : Group) (peer : Uuid) (ns : List ℕ) → AreNextOut s peer ns → AreNextOut (requests.part_goes_out turn conn call s part) peer ns
unfolding requests.part_goes_out
next-part-out turn conn call s part peer ns next =
    next-plain (part_before conn call s part) turn conn (requests.group_frame part.kind (client.numbers_of s.leases + 1) part.ids) peer ns (no-call part.kind (client.numbers_of s.leases + 1) part.ids) next

next-parts-out : (turn : Turn) (conn call : ℕ) (parts : List Group) (s : State) (peer : Uuid) (ns : List ℕ) → AreNextOut s peer ns → AreNextOut (each (requests.part_goes_out turn conn call) parts s) peer ns
next-parts-out turn conn call [] s peer ns next = subst (λ (t : State). AreNextOut t peer ns) (sym (each-none (requests.part_goes_out turn conn call) s)) next
next-parts-out turn conn call (part ∷ parts) s peer ns next =
    subst (λ (t : State). AreNextOut t peer ns) (sym (each-cons (requests.part_goes_out turn conn call) part parts s))
    (next-parts-out turn conn call parts (requests.part_goes_out turn conn call s part) peer ns (next-part-out turn conn call s part peer ns next))

next-goes : (turn : Turn) (conn : ℕ) (to peer : Uuid) (asked : Asked) (s : State) (ns : List ℕ) → IsNamed asked → AreNextOut s peer (call_number asked ++ ns) → AreNextOut (requests.goes_out turn conn to asked s) peer ns
next-goes turn conn to peer (Calls number task lent kind m) s ns named next =
    next-called (requests.add_request (record { peer = to; asked = Calls number task lent kind m; stage = Out conn 0 }) s) turn conn m peer number ns named next
next-goes turn conn to peer (LooksUp number task name) s ns named next =
    next-called (requests.add_request (record { peer = to; asked = LooksUp number task name; stage = Out conn 0 }) s) turn conn (message.Lookup number name) peer number ns refl next
next-goes turn conn to peer (Tells call group) s ns named next = next-parts-out turn conn call (groups.parts_of (requests.most_on s conn) group) s peer ns next

-- The next request goes out: those after it may go out then.
pub next-out : (turn : Turn) (conn : ℕ) (r : Request) (peer : Uuid) (s : State) (ns : List ℕ) → IsNamed r.asked → AreNextOut s peer (call_number r.asked ++ ns) → AreNextOut (requests.go_out turn conn r s) peer ns
unfolding requests.go_out
next-out turn conn r peer s ns named next = next-goes turn conn r.peer peer r.asked s ns named next
