-- The last call of a connection came there, through each move of the rules.
use mathlib.Core.Path.{sym, ap, subst}
use Rattle.std.proofs.Common.{inl, inr}
use Rattle.std.proofs.lemmas.Bool.{true≢false, eqb-true, eq-eqb}
use Rattle.std.specs.List.{flat_map}
use Rattle.std.specs.Prelude.{◌≡◌, refl, ℕ, ◌+◌, ◌==◌, ◌||◌, not, is_some, Bool, true, false, List, [], ◌∷◌, ◌++◌, Option, None, Some, filter, if◌then◌else◌}
use Rattle.uuid.specs.declared.Uuid.{Uuid}
use Rattle.dgc_client.specs.Groups as groups
use Rattle.dgc_client.specs.Table as client
use Rattle.dgc_client.specs.declared.groups.Group.{Group}
use Rattle.net_message.specs.declared.message.Message.TheVariants as message
use Rattle.net_message.specs.declared.message.Message.{Message}
use Rattle.sp_rules.specs.Classes.{Setting}
use Rattle.sp_rules.specs.Endings.{call_number_in}
use Rattle.sp_rules.specs.Events.{Turn, Waited, in_order, Output, Event, Moment, Sweep, Root, RootAck, Bind, Rebind, Unbind, Lookup, Opened, Refused, Received, Closed, ReadFailed, Bad, WriteFailed, Committed, Parked, GivenBack, Finished, Started, Ended, Withdrawn, Denied, Send, Dial, Close, Ready}
use Rattle.sp_rules.specs.Frames
use Rattle.sp_rules.specs.Laws.{AllOf}
use Rattle.sp_rules.specs.Lists.{each, with_some, at_first}
use Rattle.sp_rules.specs.LivingTasks
use Rattle.sp_rules.specs.ParkedFrames
use Rattle.sp_rules.specs.ParkedFrames.{is_parked_at}
use Rattle.sp_rules.specs.Requests
use Rattle.sp_rules.specs.Space
use Rattle.sp_rules.specs.State as state
use Rattle.sp_rules.specs.State.{State, Living, Request, Asked, Calls, LooksUp, Tells, Waits, Connection, ParkedFrame, connection_to, is_open, send, opening}
use Rattle.sp_rules.proofs.AllLemmas.{all-weaken, all-append, all-more, all-filter, all-first, all-found}
use Rattle.sp_order_laws.specs.Delivered.{came_on, frame_of}
use Rattle.sp_order_laws.specs.Ends.{IsOneOf}
use Rattle.sp_order_laws.specs.Answering.{CallReply, GroupReply, ResultAck}
use Rattle.sp_order_laws.specs.LastCalls.{LastCame, LastCallsCame}
use Rattle.sp_order_laws.specs.Rising.{call_numbers}
use Rattle.sp_order_laws.proofs.NoteLemmas.{flat-append}
use Rattle.sp_order_laws.proofs.RisingHistories.{keep_each}
use Rattle.sp_order_laws.proofs.WalkRules.{Owed, Owes, brought, paid, owed_by, of_parked, of_origin, WalkParts, walk_parts, Moves, Walks, Begins, fail_parked_walk, happen_walk}

-- ---- lists

all-right : {A : Type 0} (P : A → Type 0) (xs ys : List A) → AllOf P (xs ++ ys) → AllOf P ys
all-right P [] ys a = a
all-right P (x ∷ xs) ys a = all-right P xs ys a.1

all-left : {A : Type 0} (P : A → Type 0) (xs ys : List A) → AllOf P (xs ++ ys) → AllOf P xs
all-left P [] ys a = tt
all-left P (x ∷ xs) ys a = (a.0, all-left P xs ys a.1)

-- the first row that passes is changed
first-where : {A : Type 0} (P : A → Type 0) (is : A → Bool) (f : A → A) (xs : List A) → ((x : A) → is x ≡ true → P (f x)) → AllOf P xs → AllOf P (at_first is f xs)
first-where P is f [] k a = tt
first-where P is f (x ∷ xs) k a = pick (is x) refl (first-where P is f xs k a.1)
  where
    pick : (b : Bool) → is x ≡ b → AllOf P (at_first is f xs) → AllOf P (if b then f x ∷ xs else x ∷ at_first is f xs)
    pick true e rest = (k x e, a.1)
    pick false e rest = (a.0, rest)

pub one-first : {A : Type 0} (x : A) (xs ys : List A) → IsOneOf x xs → IsOneOf x (xs ++ ys)
one-first x [] ys a = absurd a
one-first x (z ∷ zs) ys (inl e) = inl e
one-first x (z ∷ zs) ys (inr a) = inr (one-first x zs ys a)

one-last : {A : Type 0} (x : A) (xs ys : List A) → IsOneOf x ys → IsOneOf x (xs ++ ys)
one-last x [] ys a = a
one-last x (z ∷ zs) ys a = inr (one-last x zs ys a)

-- ---- what is kept

-- a call or lookup that is owed an answer came
abbrev Came : List Event → Owed → Type 0
Came h (Owes CallReply conn number) = IsOneOf number (call_numbers (came_on conn h))
Came h (Owes GroupReply conn number) = Unit {0}
Came h (Owes ResultAck conn number) = Unit {0}

record RowParts : Type 0 where
  tasks : List Living
  parked : List ParkedFrame
  connections : List Connection

abbrev row_parts : State → RowParts
row_parts s = record { tasks = s.tasks; parked = s.parked; connections = s.connections }

-- What is owed came, what is parked and what was started came, and so did the last call of each connection.
record Coming (h : List Event) (l : List Owed) (x : RowParts) : Type 0 where
  owed : AllOf (Came h) l
  tasks : AllOf (λ (t : Living). AllOf (Came h) (of_origin t.origin)) x.tasks
  parked : AllOf (λ (p : ParkedFrame). Came h (of_parked p)) x.parked
  rows : AllOf (LastCame h) x.connections

abbrev Comes : List Event → List Owed → State → Type 0
Comes h l s = Coming h l (row_parts s)

owes-more : {h : List Event} {l m : List Owed} {x : RowParts} → AllOf (Came h) m → Coming h l x → Coming h m x
owes-more a k = record { owed = a; tasks = k.tasks; parked = k.parked; rows = k.rows }

to_rows : WalkParts → RowParts
to_rows w = record { tasks = w.tasks; parked = w.parked; connections = w.connections }

quiet-coming : {h : List Event} (l : List Owed) (s t : State) → walk_parts t ≡ walk_parts s → Coming h l (row_parts s) → Coming h l (row_parts t)
unfolding to_rows
quiet-coming {h} l s t e k = subst (Coming h l) (sym (ap to_rows e)) k

coming_moves : (g : Setting) (h : List Event) → Moves g (Comes h)
coming_moves g h = record {
  quiet = λ l s t e k. quiet-coming l s t e k;
  says = λ l s output is k. k;
  pays = λ l s turn conn m is k. owes-more (all-right (Came h) (paid conn m) l k.owed) k;
  falls = λ l s o k. owes-more k.owed.1 k;
  fewer = λ l s is k. k;
  answered = λ l s conn number k. k;
  begins = λ l s origin method arguments fuel k. record {
    owed = all-right (Came h) (of_origin origin) l k.owed;
    tasks = all-more (λ (t : Living). AllOf (Came h) (of_origin t.origin)) s.tasks (Rattle.sp_rules.proofs.Stable.new_row g origin method arguments fuel s) k.tasks (all-left (Came h) (of_origin origin) l k.owed);
    parked = k.parked;
    rows = k.rows;
  };
  ends = λ l s id t is k. record {
    owed = all-append (Came h) (of_origin t.origin) l (all-found (λ (u : Living). AllOf (Came h) (of_origin u.origin)) (λ (u : Living). u.id == id) s.tasks t is k.tasks) k.owed;
    tasks = all-filter (λ (u : Living). AllOf (Came h) (of_origin u.origin)) (λ (u : Living). not (u.id == id)) s.tasks k.tasks;
    parked = k.parked;
    rows = k.rows;
  };
  works = λ l s id f same k. record {
    owed = k.owed;
    tasks = all-first (λ (u : Living). AllOf (Came h) (of_origin u.origin)) (λ (u : Living). u.id == id) f s.tasks (λ u a. subst (λ o. AllOf (Came h) (of_origin o)) (sym (same.origin u)) a) k.tasks;
    parked = k.parked;
    rows = k.rows;
  };
  parks = λ l s p k. record { owed = k.owed.1; tasks = k.tasks; parked = all-more (λ (q : ParkedFrame). Came h (of_parked q)) s.parked p k.parked k.owed.0; rows = k.rows };
  takes = λ l s p k. record { owed = k.owed; tasks = k.tasks; parked = all-filter (λ (q : ParkedFrame). Came h (of_parked q)) (λ q. not (is_parked_at p.conn p.number q)) s.parked k.parked; rows = k.rows };
  counts = λ l s conn number k. record {
    owed = k.owed;
    tasks = k.tasks;
    parked = k.parked;
    rows = first-where (LastCame h) (λ (c : Connection). c.number == conn) (λ (c : Connection). record c { last = number }) s.connections (λ c e. inr (subst (λ n. IsOneOf number (call_numbers (came_on n h))) (sym (eqb-true c.number conn e)) k.owed.0)) k.rows;
  };
  versions = λ l s conn version k. record { owed = k.owed; tasks = k.tasks; parked = k.parked; rows = all-first (LastCame h) (λ (c : Connection). c.number == conn) (λ (c : Connection). record c { version = version }) s.connections (λ c a. a) k.rows };
  closes = λ l s conn k. record { owed = k.owed; tasks = k.tasks; parked = k.parked; rows = all-filter (LastCame h) (λ (c : Connection). not (c.number == conn)) s.connections k.rows };
}

fails_coming : (g : Setting) (h : List Event) (l : List Owed) (ps : List ParkedFrame) (s : State) → AllOf (λ (p : ParkedFrame). Came h (of_parked p)) ps → Comes h l s → Comes h l (each (ParkedFrames.fail_parked g) ps s)
unfolding each
fails_coming g h l [] s a k = k
fails_coming g h l (p ∷ ps) s a k = fails_coming g h l ps (ParkedFrames.fail_parked g s p) a.1 (fail_parked_walk (coming_moves g h) {l = l} p (owes-more (a.0, k.owed) k))

coming_walks : (g : Setting) (h : List Event) → Walks g (Comes h)
coming_walks g h = record {
  moves = coming_moves g h;
  frees = λ l s p q is k. record {
    owed = (all-found (λ (z : ParkedFrame). Came h (of_parked z)) (is_parked_at p.conn p.number) s.parked q is k.parked, k.owed);
    tasks = k.tasks;
    parked = all-filter (λ (z : ParkedFrame). Came h (of_parked z)) (λ z. not (is_parked_at p.conn p.number z)) s.parked k.parked;
    rows = k.rows;
  };
  fails = λ l s r k. fails_coming g h l (filter (ParkedFrames.names r) s.parked) s (all-filter (λ (p : ParkedFrame). Came h (of_parked p)) (ParkedFrames.names r) s.parked k.parked) k;
}

-- ---- requests go out

-- the rows of a state
record HasRows (x : RowParts) (s : State) : Type 0 where
  same : row_parts s ≡ x

if_rows : {x : RowParts} {s t : State} (b : Bool) → HasRows x s → HasRows x t → HasRows x (if b then s else t)
if_rows true h k = h
if_rows false h k = k

some_rows : {x : RowParts} {A : Type 0} {t : State} (o : Option A) (f : A → State) → HasRows x t → ((a : A) → HasRows x (f a)) → HasRows x (with_some o t f)
some_rows None f h k = h
some_rows (Some a) f h k = k a

send_rows : {x : RowParts} {s : State} (turn : Turn) (conn : ℕ) (m : Message) → HasRows x s → HasRows x (send turn conn m s)
unfolding send
send_rows {s = s} turn conn m h = if_rows (is_open s conn) (record { same = h.same }) h

part_rows : {x : RowParts} {s : State} (turn : Turn) (conn call : ℕ) (part : Group) → HasRows x s → HasRows x (Requests.part_goes_out turn conn call s part)
unfolding Requests.part_goes_out
part_rows turn conn call part h = send_rows turn conn _ (record { same = h.same })

go_out_rows : {x : RowParts} {s : State} (turn : Turn) (conn : ℕ) (q : Request) → HasRows x s → HasRows x (Requests.go_out turn conn q s)
unfolding Requests.go_out
go_out_rows {x} {s} turn conn q h = goes q.asked
  where
    goes : (asked : Asked) → HasRows x (Requests.goes_out turn conn q.peer asked s)
    goes (Calls number task lent kind m) = send_rows turn conn m (record { same = h.same })
    goes (LooksUp number task name) = send_rows turn conn _ (record { same = h.same })
    goes (Tells call group) = keep_each (HasRows x) (Requests.part_goes_out turn conn call) (groups.parts_of (Requests.most_on s conn) group) (λ t part k. part_rows turn conn call part k) h

ask_rows : {x : RowParts} {s : State} (q : Request) → HasRows x s → HasRows x (Requests.ask s q)
unfolding Requests.ask Requests.dial
ask_rows {x} {s} q h = some_rows (Requests.hello_came (connection_to s q.peer)) _ (if_rows (is_some (connection_to s q.peer) || state.is_dialling s q.peer) (record { same = h.same }) (record { same = h.same })) (λ conn. go_out_rows (Requests.turn_asked q.asked) conn q h)

group_rows : {x : RowParts} {s : State} (b : Group) → HasRows x s → HasRows x (Requests.make_group s b)
unfolding Requests.make_group
group_rows {s = s} b h = ask_rows {s = record s { groups_made = s.groups_made + 1; leases = client.made b (s.groups_made + 1) s.leases }} _ (record { same = h.same })

flush_rows : {x : RowParts} {s : State} (peer : Uuid) (conn : ℕ) → HasRows x s → HasRows x (Requests.flush_waiting peer conn s)
unfolding Requests.flush_waiting
flush_rows {x} {s} peer conn h = keep_each (HasRows x) _ (filter (Requests.waits_for peer) s.requests) (λ t q k. go_out_rows Waited conn q k) (record { same = h.same })

settle_rows : {x : RowParts} {s : State} → HasRows x s → HasRows x (Requests.settle s)
unfolding Requests.settle Requests.make_due Requests.ask_fresh
settle_rows {x} {s} h = asks (each Requests.make_group (Requests.due_groups s.leases) s) (keep_each (HasRows x) Requests.make_group (Requests.due_groups s.leases) (λ t b k. group_rows b k) h)
  where
    asks : (t : State) → HasRows x t → HasRows x (each Requests.ask t.fresh (record t { fresh = [] }))
    asks t k = keep_each (HasRows x) Requests.ask t.fresh (λ u q j. ask_rows q j) (record { same = k.same })

-- ---- an event

came-wider : (e : Event) (h : List Event) (conn number : ℕ) → IsOneOf number (call_numbers (came_on conn h)) → IsOneOf number (call_numbers (came_on conn (e ∷ h)))
came-wider e h conn number a = subst (IsOneOf number) (sym (flat-append call_number_in (came_on conn h) (frame_of conn e))) (one-first number (call_numbers (came_on conn h)) (call_numbers (frame_of conn e)) a)

owed-wider : (e : Event) (h : List Event) (o : Owed) → Came h o → Came (e ∷ h) o
owed-wider e h (Owes CallReply conn number) a = came-wider e h conn number a
owed-wider e h (Owes GroupReply conn number) a = tt
owed-wider e h (Owes ResultAck conn number) a = tt

last-wider : (e : Event) (h : List Event) (c : Connection) → LastCame h c → LastCame (e ∷ h) c
last-wider e h c (inl z) = inl z
last-wider e h c (inr a) = inr (came-wider e h c.number c.last a)

-- what comes with the event came
comes-now : (h : List Event) (conn : ℕ) (m : Message) → AllOf (Came (Received conn m ∷ h)) (brought conn m)
comes-now h conn m = by m
  where
    now : (n : Message) (number : ℕ) → call_number_in n ≡ number ∷ [] → IsOneOf number (call_numbers (came_on conn (Received conn n ∷ h)))
    now n number e = subst (IsOneOf number) (sym (flat-append call_number_in (came_on conn h) (frame_of conn (Received conn n)))) (one-last number (call_numbers (came_on conn h)) (call_numbers (frame_of conn (Received conn n))) (here (conn == conn) (eq-eqb conn conn refl)))
      where
        here : (b : Bool) → b ≡ true → IsOneOf number (flat_map call_number_in (if b then n ∷ [] else []))
        here true f = subst (λ (l : List ℕ). IsOneOf number (l ++ [])) (sym e) (inl refl)
        here false f = absurd (true≢false (sym f))

    by : (n : Message) → AllOf (Came (Received conn n ∷ h)) (brought conn n)
    by (message.Hello version space digest) = tt
    by (message.Call number object method fuel arguments) = (now (message.Call number object method fuel arguments) number refl, tt)
    by (message.Returned number fuel value) = (tt, tt)
    by (message.Threw number class) = tt
    by (message.Spent number) = tt
    by (message.Ack number) = tt
    by (message.Dirty sequence period objects) = (tt, tt)
    by (message.Lease sequence period) = tt
    by (message.Clean sequence strong objects) = (tt, tt)
    by (message.Cleaned sequence) = tt
    by (message.Lookup number name) = (now (message.Lookup number name) number refl, tt)

event-owed : (h : List Event) (e : Event) → AllOf (Came (e ∷ h)) (owed_by e)
event-owed h (Received conn m) = comes-now h conn m
event-owed h (Moment moment) = tt
event-owed h Sweep = tt
event-owed h (Root method arguments fuel) = tt
event-owed h (RootAck task) = tt
event-owed h (Bind name value) = tt
event-owed h (Rebind name value) = tt
event-owed h (Unbind name) = tt
event-owed h (Lookup peer name) = tt
event-owed h (Opened conn dialled) = tt
event-owed h (Refused peer) = tt
event-owed h (Closed conn) = tt
event-owed h (ReadFailed conn) = tt
event-owed h (Bad conn) = tt
event-owed h (WriteFailed conn unsent) = tt
event-owed h (Committed task k op) = tt
event-owed h (Parked task k) = tt
event-owed h (GivenBack task k) = tt
event-owed h (Finished task k) = tt

wider : (e : Event) (h : List Event) (s : State) → Comes h [] s → Comes (e ∷ h) (owed_by e) s
wider e h s k = record {
  owed = event-owed h e;
  tasks = all-weaken (λ (t : Living). AllOf (Came h) (of_origin t.origin)) _ s.tasks (λ t a. all-weaken (Came h) (Came (e ∷ h)) (of_origin t.origin) (λ o b. owed-wider e h o b) a) k.tasks;
  parked = all-weaken (λ (p : ParkedFrame). Came h (of_parked p)) _ s.parked (λ p a. owed-wider e h (of_parked p) a) k.parked;
  rows = all-weaken (LastCame h) (LastCame (e ∷ h)) s.connections (λ c a. last-wider e h c a) k.rows;
}

greeted_coming : {h : List Event} {l : List Owed} (s : State) (conn : ℕ) (space : Uuid) → Comes h l s → Comes h l (Frames.greeted space conn s)
greeted_coming {h} s conn space k = record { owed = k.owed; tasks = k.tasks; parked = k.parked; rows = all-first (LastCame h) (λ (c : Connection). c.number == conn) (λ (c : Connection). record c { peer = Some space }) s.connections (λ c a. a) k.rows }

coming_begins : (g : Setting) (h : List Event) (s : State) (e : Event) → Begins g (Comes h) s e
coming_begins g h s e = record {
  opens = λ conn dialled is k. record { owed = k.owed; tasks = k.tasks; parked = k.parked; rows = all-more (LastCame h) s.connections (record { number = conn; dialled = dialled; peer = None; version = 1; last = 0; sent = [] }) k.rows (inl refl) };
  greets = λ c space is k. greeted_coming s c.number space k;
  flushes = λ c space peer is shut k. subst (Coming h []) (sym (flush_rows {s = Frames.greeted space c.number s} peer c.number (record { same = refl })).same) (greeted_coming s c.number space k);
  asks = λ id n t target method arguments is k. (coming_moves g h).works [] s id (LivingTasks.waiting n) (record { id = λ u. refl; origin = λ u. refl }) k;
  looks = λ peer name is k. k;
}

finish_coming : (h : List Event) (s : State) (answers : Bool) → Comes h [] s → Comes h [] (Space.finish_event answers s).0
finish_coming h s true k = keep_each (Comes h []) Space.record_sent (in_order (Requests.settle s).notes) (λ u o j. sent_coming u o j) (subst (Coming h []) (sym (settle_rows {s = s} (record { same = refl })).same) k)
  where
    sent_coming : (u : State) (o : Output) → Comes h [] u → Comes h [] (Space.record_sent u o)
    sent_coming u (Started task) j = j
    sent_coming u (Ended task outcome) j = j
    sent_coming u (Withdrawn ids) j = j
    sent_coming u (Denied why) j = j
    sent_coming u (Send n m) j = record { owed = j.owed; tasks = j.tasks; parked = j.parked; rows = all-first (LastCame h) (λ (c : Connection). c.number == n) (λ (c : Connection). record c { sent = m ∷ c.sent }) u.connections (λ c a. a) j.rows }
    sent_coming u (Dial peer) j = j
    sent_coming u (Close n) j = j
    sent_coming u (Ready task) j = j
finish_coming h s false k = k

on_coming : (g : Setting) (h : List Event) (s : State) (e : Event) → Comes h [] s → Comes (e ∷ h) [] (Space.on g e s).0
unfolding Space.on
on_coming g h s e k = finish_coming (e ∷ h) (Space.happen g e s) (Space.answers_outputs e) (happen_walk (coming_walks g (e ∷ h)) e (coming_begins g (e ∷ h) s e) (wider e h s k))

coming-of : (g : Setting) (h : List Event) → Comes h [] (Space.state_of g h)
unfolding Space.state_of opening
coming-of g [] = record { owed = tt; tasks = tt; parked = tt; rows = tt }
coming-of g (e ∷ h) = on_coming g h (Space.state_of g h) e (coming-of g h)

pub last_calls_came : LastCallsCame
last_calls_came g h = (coming-of g h).rows
