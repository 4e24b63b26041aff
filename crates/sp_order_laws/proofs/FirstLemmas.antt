-- As a connection opens, its space says Hello there, once, or nothing; then, if it says Hello late, it answers the other end's with its own, once, and nothing else.
use mathlib.Core.Path.{sym, ap, subst, ◌∙◌}
use Rattle.std.proofs.Common.{inl, inr}
use Rattle.std.proofs.lemmas.Bool.{true≢false, eq-eqb, eqb-true}
use Rattle.std.specs.Str.{bytes_eq}
use Rattle.std.specs.Prelude.{◌≡◌, ◌⊎◌, refl, ℕ, suc, ◌==◌, ◌&&◌, ◌||◌, nat_le, min, cond, is_some, is_none, Bool, true, false, List, [], ◌∷◌, ◌++◌, Option, None, Some, find, if◌then◌else◌}
use Rattle.dgc_client.specs.Groups as groups
use Rattle.dgc_client.specs.declared.groups.Group.{Group}
use Rattle.net_message.specs.declared.message.Message.{Message}
use Rattle.net_message.specs.declared.message.Message.TheVariants as message
use Rattle.uuid.specs.declared.Uuid.{Uuid}
use Rattle.space_ids.specs.declared.ids.ClassId.{ClassId}
use Rattle.sp_rules.specs.Classes.{Setting}
use Rattle.sp_rules.specs.Endings
use Rattle.sp_rules.specs.Events.{Event, Opened, Received, Dial, Send, Note, Says, Sends, Turn, Hellos, Output, Started, Ended, Withdrawn, Denied, Close, Ready, output_of, of_rank, of_ranks, in_order}
use Rattle.sp_rules.specs.Frames
use Rattle.sp_rules.specs.Laws.{AllOf}
use Rattle.sp_rules.specs.Lists.{each, with_some, at_first}
use Rattle.sp_rules.specs.OwnEvents
use Rattle.sp_rules.specs.Requests
use Rattle.sp_rules.specs.Space
use Rattle.sp_rules.specs.State as state
use Rattle.sp_rules.specs.State.{State, Request, Asked, Calls, LooksUp, Tells, Connection, connection_at, connection_to, is_open, send}
use Rattle.sp_rules.proofs.AllLemmas.{some-none, found-is, all-first, all-more, all-found, all-weaken, all-filter, all-map, none-found}
use Rattle.sp_laws.specs.Open.{is_sent_on}
use Rattle.sp_rules.proofs.OwnLemmas.{some-same}
use Rattle.sp_laws.proofs.FrameSteps.{hello-row, is-dialled}
use Rattle.sp_laws.proofs.SilentLemmas.{closes_silent}
use Rattle.sp_laws.proofs.ShutLemmas.{has_row}
use Rattle.sp_order_laws.specs.Delivered.{frame_in, sent_on}
use Rattle.sp_order_laws.proofs.DeliveryLemmas.{sent-append}
use Rattle.sp_order_laws.specs.Hellos.{says_late, IsHelloAlone, SaysFirst}
use Rattle.sp_order_laws.proofs.RowLemmas.{closed-so}

-- ---- what is kept as the event ends

-- a connection that this space dialled, and on which a Hello came, is another one
abbrev pub Apart : ℕ → Connection → Type 0
Apart conn c = is_some c.dialled ≡ true → is_some c.peer ≡ true → (c.number == conn) ≡ false

abbrev Elsewhere : ℕ → Note → Type 0
Elsewhere conn n = is_sent_on conn (output_of n) ≡ false

-- notes that begin with a Hello, if one was said
abbrev begun : ℕ → Option Message → List Note → List Note
begun conn None rest = rest
begun conn (Some m) rest = Sends Hellos conn m ∷ rest

begun-more : (conn : ℕ) (o : Option Message) (rest : List Note) (n : Note) → begun conn o rest ++ n ∷ [] ≡ begun conn o (rest ++ n ∷ [])
begun-more conn None rest n = refl
begun-more conn (Some m) rest n = refl

-- the Hello was noted first, if one was said, and nothing else of the connection
record First (o : Option Message) (conn : ℕ) (cs : List Connection) (ns : List Note) : Type 0 where
  rows : AllOf (Apart conn) cs
  rest : List Note
  is : ns ≡ begun conn o rest
  silent : AllOf (Elsewhere conn) rest

abbrev Says-first : Option Message → ℕ → State → Type 0
Says-first o conn s = First o conn s.connections s.notes

more : {o : Option Message} {conn : ℕ} {cs : List Connection} {ns : List Note} (n : Note) → Elsewhere conn n → First o conn cs ns → First o conn cs (ns ++ n ∷ [])
more {o} {conn} n a h = record { rows = h.rows; rest = h.rest ++ n ∷ []; is = ap (λ (l : List Note). l ++ n ∷ []) h.is ∙ begun-more conn o h.rest n; silent = all-more (Elsewhere conn) h.rest n h.silent a }

send-first : (o : Option Message) (conn c : ℕ) (turn : Turn) (m : Message) (s : State) → (c == conn) ≡ false → Says-first o conn s → Says-first o conn (send turn c m s)
unfolding send
send-first o conn c turn m s apart h = by (is_open s c)
  where
    by : (b : Bool) → Says-first o conn (if b then record s { notes = s.notes ++ Sends turn c m ∷ [] } else s)
    by true = more (Sends turn c m) apart h
    by false = h

each-first : {A : Type 0} (o : Option Message) (conn : ℕ) (f : State → A → State) (xs : List A) (s : State) → ((t : State) (x : A) → Says-first o conn t → Says-first o conn (f t x)) → Says-first o conn s → Says-first o conn (each f xs s)
unfolding each
each-first o conn f [] s k h = h
each-first o conn f (x ∷ xs) s k h = each-first o conn f xs (f s x) k (k s x h)

part-first : (o : Option Message) (conn c call : ℕ) (turn : Turn) (part : Group) (s : State) → (c == conn) ≡ false → Says-first o conn s → Says-first o conn (Requests.part_goes_out turn c call s part)
unfolding Requests.part_goes_out
part-first o conn c call turn part s apart h = send-first o conn c turn _ _ apart h

out-first : (o : Option Message) (conn c : ℕ) (turn : Turn) (q : Request) (s : State) → (c == conn) ≡ false → Says-first o conn s → Says-first o conn (Requests.go_out turn c q s)
unfolding Requests.go_out
out-first o conn c turn q s apart h = goes q.asked
  where
    goes : (asked : Asked) → Says-first o conn (Requests.goes_out turn c q.peer asked s)
    goes (Calls number task lent kind m) = send-first o conn c turn m _ apart h
    goes (LooksUp number task name) = send-first o conn c turn (message.Lookup number name) _ apart h
    goes (Tells call group) = each-first o conn (Requests.part_goes_out turn c call) (groups.parts_of (Requests.most_on s c) group) s (λ t part k. part-first o conn c call turn part t apart k) h

dial-first : (o : Option Message) (conn : ℕ) (peer : Uuid) (s : State) → Says-first o conn s → Says-first o conn (Requests.dial peer s)
unfolding Requests.dial
dial-first o conn peer s h = by (is_some (connection_to s peer) || state.is_dialling s peer)
  where
    by : (b : Bool) → Says-first o conn (if b then s else state.say (Dial peer) (record s { dialling = s.dialling ++ peer ∷ [] }))
    by true = h
    by false = more (Says (Dial peer)) refl h

ask-first : (o : Option Message) (conn : ℕ) (q : Request) (s : State) → Says-first o conn s → Says-first o conn (Requests.ask s q)
unfolding Requests.ask
ask-first o conn q s h = by (Requests.hello_came (connection_to s q.peer)) refl
  where
    by : (x : Option ℕ) → Requests.hello_came (connection_to s q.peer) ≡ x → Says-first o conn (with_some x (Requests.dial q.peer (Requests.add_request q s)) (λ c. Requests.go_out (Requests.turn_asked q.asked) c q s))
    by None e = dial-first o conn q.peer (Requests.add_request q s) h
    by (Some c) e =
        let x = hello-row (connection_to s q.peer) c e in
        out-first o conn c (Requests.turn_asked q.asked) q s (subst (λ n. (n == conn) ≡ false) x.1.1.0 (all-found (Apart conn) (λ (d : Connection). state.is_to q.peer d.dialled) s.connections x.0 x.1.0 h.rows
        (is-dialled q.peer x.0.dialled (found-is (λ (d : Connection). state.is_to q.peer d.dialled) s.connections x.0 x.1.0)) x.1.1.1)) h

group-first : (o : Option Message) (conn : ℕ) (group : Group) (s : State) → Says-first o conn s → Says-first o conn (Requests.make_group s group)
unfolding Requests.make_group
group-first o conn group s h = ask-first o conn _ _ h

settle-first : (o : Option Message) (conn : ℕ) (s : State) → Says-first o conn s → Says-first o conn (Requests.settle s)
unfolding Requests.settle Requests.make_due Requests.ask_fresh
settle-first o conn s h = asks (Requests.make_due s) (each-first o conn Requests.make_group (Requests.due_groups s.leases) s (λ t b k. group-first o conn b t k) h)
  where
    asks : (t : State) → Says-first o conn t → Says-first o conn (each Requests.ask t.fresh (record t { fresh = [] }))
    asks t k = each-first o conn Requests.ask t.fresh (record t { fresh = [] }) (λ u q j. ask-first o conn q u j) k

-- ---- a connection opens

apart-rows : (conn : ℕ) (cs : List Connection) → has_row conn cs ≡ false → AllOf (Apart conn) cs
apart-rows conn cs e = by (find (λ (c : Connection). c.number == conn) cs) refl e
  where
    by : (o : Option Connection) → find (λ (c : Connection). c.number == conn) cs ≡ o → is_some o ≡ false → AllOf (Apart conn) cs
    by None f k = all-weaken (λ (c : Connection). (c.number == conn) ≡ false) (Apart conn) cs (λ c a d p. a) (none-found (λ (c : Connection). c.number == conn) cs f)
    by (Some c) f k = absurd (true≢false k)

last-there : (conn : ℕ) (cs : List Connection) (c : Connection) → c.number ≡ conn → has_row conn (cs ++ c ∷ []) ≡ true
last-there conn [] c same = ap (λ b. is_some (cond b (Some c) None)) (eq-eqb c.number conn same)
last-there conn (d ∷ cs) c same = by (d.number == conn) (last-there conn cs c same)
  where
    by : (b : Bool) → has_row conn (cs ++ c ∷ []) ≡ true → is_some (cond b (Some d) (find (λ (x : Connection). x.number == conn) (cs ++ c ∷ []))) ≡ true
    by true rest = refl
    by false rest = rest

-- a row that is changed is there still
row-there : (conn : ℕ) (f : Connection → Connection) → ((d : Connection) → (f d).number ≡ d.number) → (cs : List Connection) (c : Connection) → find (λ (x : Connection). x.number == conn) cs ≡ Some c → has_row conn (at_first (λ (x : Connection). x.number == conn) f cs) ≡ true
row-there conn f keeps [] c is = absurd (some-none c (sym is))
row-there conn f keeps (d ∷ cs) c is = by (d.number == conn) refl is (row-there conn f keeps cs c)
  where
    by : (b : Bool) → (d.number == conn) ≡ b → cond b (Some d) (find (λ (x : Connection). x.number == conn) cs) ≡ Some c → (find (λ (x : Connection). x.number == conn) cs ≡ Some c → has_row conn (at_first (λ (x : Connection). x.number == conn) f cs) ≡ true)
        → has_row conn (if b then f d ∷ cs else d ∷ at_first (λ (x : Connection). x.number == conn) f cs) ≡ true
    by true e is rest = ap (λ b. is_some (cond b (Some (f d)) (find (λ (x : Connection). x.number == conn) cs))) (ap (λ n. n == conn) (keeps d) ∙ e)
    by false e is rest = ap (λ b. is_some (cond b (Some d) (find (λ (x : Connection). x.number == conn) (at_first (λ (x : Connection). x.number == conn) f cs)))) e ∙ rest is

-- the row of a connection that a peer dialled is greeted
greeted-apart : (conn : ℕ) (space : Uuid) (cs : List Connection) (c : Connection) → find (λ (x : Connection). x.number == conn) cs ≡ Some c → c.dialled ≡ None → AllOf (Apart conn) cs → AllOf (Apart conn) (at_first (λ (x : Connection). x.number == conn) (λ (d : Connection). record d { peer = Some space }) cs)
greeted-apart conn space [] c is accepted a = tt
greeted-apart conn space (d ∷ cs) c is accepted a = by (d.number == conn) refl is (λ e. greeted-apart conn space cs c e accepted a.1)
  where
    by : (b : Bool) → (d.number == conn) ≡ b → cond b (Some d) (find (λ (x : Connection). x.number == conn) cs) ≡ Some c → (find (λ (x : Connection). x.number == conn) cs ≡ Some c → AllOf (Apart conn) (at_first (λ (x : Connection). x.number == conn) (λ (y : Connection). record y { peer = Some space }) cs))
        → AllOf (Apart conn) (if b then record d { peer = Some space } ∷ cs else d ∷ at_first (λ (x : Connection). x.number == conn) (λ (y : Connection). record y { peer = Some space }) cs)
    by true e is rest = (λ dialled p. absurd (true≢false (sym dialled ∙ ap (λ (x : Option Uuid). is_some x) (ap (λ (y : Connection). y.dialled) (some-same is) ∙ accepted))), a.1)
    by false e is rest = (a.0, rest is)

-- a Hello is said on a connection that is open, where nothing was noted yet
say-first : (g : Setting) (version conn : ℕ) (t : State) → t.notes ≡ [] → is_open t conn ≡ true → AllOf (Apart conn) t.connections → Says-first (Some (message.Hello version g.id g.digest)) conn (Frames.say_hello g version conn t)
unfolding send
say-first g version conn t none there apart = pick (is_open t conn) there
  where
    said : (b : Bool) → State
    said b = Frames.of_version version conn (if b then record t { notes = t.notes ++ Sends Hellos conn (message.Hello version g.id g.digest) ∷ [] } else t)

    pick : (b : Bool) → b ≡ true → Says-first (Some (message.Hello version g.id g.digest)) conn (said b)
    pick true e = record {
      rows = all-first (Apart conn) (λ (c : Connection). c.number == conn) (λ (c : Connection). record c { version = version }) t.connections (λ c a. a) apart;
      rest = [];
      is = ap (λ (l : List Note). l ++ Sends Hellos conn (message.Hello version g.id g.digest) ∷ []) none;
      silent = tt;
    }
    pick false e = absurd (true≢false (sym e))

-- the Hello that is said as the connection opens
abbrev pub opening_hello : Setting → State → Option Uuid → Option Message
opening_hello g t None = if nat_le 2 g.version then None else Some (message.Hello 1 g.id g.digest)
opening_hello g t (Some peer) = Some (message.Hello (OwnEvents.version_to g t peer) g.id g.digest)

opens-first : (g : Setting) (conn : ℕ) (dialled : Option Uuid) (s : State) → s.notes ≡ [] → is_open s conn ≡ false → Says-first (opening_hello g s dialled) conn (OwnEvents.on_opened g conn dialled s)
unfolding OwnEvents.on_opened
opens-first g conn dialled s none shut = by dialled
  where
    new : Option Uuid → Connection
    new d = record { number = conn; dialled = d; peer = None; version = 1; last = 0; sent = [] }

    apart : (d : Option Uuid) → AllOf (Apart conn) (s.connections ++ new d ∷ [])
    apart d = all-more (Apart conn) s.connections (new d) (apart-rows conn s.connections shut) (λ a p. absurd (true≢false (sym p)))

    there : (d : Option Uuid) → has_row conn (s.connections ++ new d ∷ []) ≡ true
    there d = last-there conn s.connections (new d) refl

    by : (d : Option Uuid) → Says-first (opening_hello g s d) conn (OwnEvents.first_hello g conn d (OwnEvents.dialled_no_more d (OwnEvents.add_connection conn d s)))
    by None = pick (nat_le 2 g.version)
      where
        pick : (b : Bool) → Says-first (if b then None else Some (message.Hello 1 g.id g.digest)) conn (if b then OwnEvents.add_connection conn None s else Frames.say_hello g 1 conn (OwnEvents.add_connection conn None s))
        pick true = record { rows = apart None; rest = []; is = none; silent = tt }
        pick false = say-first g 1 conn (OwnEvents.add_connection conn None s) none (there None) (apart None)
    by (Some peer) = say-first g _ conn (OwnEvents.dialled_no_more (Some peer) (OwnEvents.add_connection conn (Some peer) s)) none (there (Some peer)) (apart (Some peer))

-- ---- in the order of outputs

pub unsaid : (conn : ℕ) (os : List Output) → AllOf (λ (o : Output). is_sent_on conn o ≡ false) os → sent_on conn os ≡ []
unsaid conn [] a = refl
unsaid conn (o ∷ os) a = ap (λ (l : List Message). l ++ sent_on conn os) (one o a.0) ∙ unsaid conn os a.1
  where
    one : (o : Output) → is_sent_on conn o ≡ false → frame_in conn o ≡ []
    one (Send c m) e = ap (λ (b : Bool). if b then m ∷ [] else []) e
    one (Started task) e = refl
    one (Ended task outcome) e = refl
    one (Withdrawn ids) e = refl
    one (Denied why) e = refl
    one (Dial peer) e = refl
    one (Close c) e = refl
    one (Ready task) e = refl

of-rest : (conn : ℕ) (rest : List Note) (k : ℕ) → AllOf (Elsewhere conn) rest → sent_on conn (of_rank rest k) ≡ []
of-rest conn rest k a = unsaid conn (of_rank rest k) (all-map (Elsewhere conn) (λ (o : Output). is_sent_on conn o ≡ false) output_of _ (λ n p. p) (all-filter (Elsewhere conn) (λ n. Rattle.sp_rules.specs.Events.rank n == k) rest a))

joined : (conn : ℕ) (xs ys : List Output) (a b : List Message) → sent_on conn xs ≡ a → sent_on conn ys ≡ b → sent_on conn (xs ++ ys) ≡ a ++ b
joined conn xs ys a b e f = sent-append conn xs ys ∙ (ap (λ (l : List Message). l ++ sent_on conn ys) e ∙ ap (λ (l : List Message). a ++ l) f)

abbrev pub heard : Option Message → List Message
heard None = []
heard (Some m) = m ∷ []

one-said : (conn : ℕ) (o : Option Message) (rest : List Note) → AllOf (Elsewhere conn) rest → sent_on conn (in_order (begun conn o rest)) ≡ heard o
unfolding in_order
one-said conn None rest a = step 13 [] [] (step 12 [] [] (step 11 [] [] (step 10 [] [] (step 9 [] [] (step 8 [] [] (step 7 [] [] (step 6 [] [] (step 5 [] [] (step 4 [] [] (step 3 [] [] (step 2 [] [] (step 1 [] [] (step 0 [] [] refl (r 0)) (r 1)) (r 2)) (r 3)) (r 4)) (r 5)) (r 6)) (r 7)) (r 8)) (r 9)) (r 10)) (r 11)) (r 12)) (r 13)
  where
    step : (k : ℕ) (xs ys : List Message) → sent_on conn (of_ranks k rest) ≡ xs → sent_on conn (of_rank rest k) ≡ ys → sent_on conn (of_ranks (suc k) rest) ≡ xs ++ ys
    step k xs ys e f = joined conn (of_ranks k rest) (of_rank rest k) xs ys e f

    r : (k : ℕ) → sent_on conn (of_rank rest k) ≡ []
    r k = of-rest conn rest k a
one-said conn (Some m) rest a = step 13 (m ∷ []) [] (step 12 (m ∷ []) [] (step 11 (m ∷ []) [] (step 10 (m ∷ []) [] (step 9 (m ∷ []) [] (step 8 (m ∷ []) [] (step 7 (m ∷ []) [] (step 6 (m ∷ []) [] (step 5 (m ∷ []) [] (step 4 [] (m ∷ []) (step 3 [] [] (step 2 [] [] (step 1 [] [] (step 0 [] [] refl (r 0)) (r 1)) (r 2)) (r 3)) here) (r 5)) (r 6)) (r 7)) (r 8)) (r 9)) (r 10)) (r 11)) (r 12)) (r 13)
  where
    notes : List Note
    notes = Sends Hellos conn m ∷ rest

    step : (k : ℕ) (xs ys : List Message) → sent_on conn (of_ranks k notes) ≡ xs → sent_on conn (of_rank notes k) ≡ ys → sent_on conn (of_ranks (suc k) notes) ≡ xs ++ ys
    step k xs ys e f = joined conn (of_ranks k notes) (of_rank notes k) xs ys e f

    r : (k : ℕ) → sent_on conn (of_rank rest k) ≡ []
    r k = of-rest conn rest k a

    here : sent_on conn (Send conn m ∷ of_rank rest 4) ≡ m ∷ []
    here = ap (λ (b : Bool). (if b then m ∷ [] else []) ++ sent_on conn (of_rank rest 4)) (eq-eqb conn conn refl) ∙ ap (λ (l : List Message). m ∷ l) (r 4)

-- what goes out there once the event is done
sends-so : (conn : ℕ) (o : Option Message) (s : State) → Says-first o conn s → sent_on conn (Space.finish_event true s).1 ≡ heard o
sends-so conn o s k = let h = settle-first o conn s k in ap (λ (ns : List Note). sent_on conn (in_order ns)) h.is ∙ one-said conn o h.rest h.silent

-- the frames that go out as a connection opens
pub opens-with : (g : Setting) (conn : ℕ) (dialled : Option Uuid) (s : State) → s.notes ≡ [] → is_open s conn ≡ false → sent_on conn (Space.on g (Opened conn dialled) s).1 ≡ heard (opening_hello g s dialled)
unfolding Space.on Space.happen
opens-with g conn dialled s none shut = sends-so conn (opening_hello g s dialled) (OwnEvents.on_opened g conn dialled s) (opens-first g conn dialled s none shut)

pub opens-so : (g : Setting) (conn : ℕ) (dialled : Option Uuid) (s : State) → s.notes ≡ [] → is_open s conn ≡ false → SaysFirst g (says_late g dialled) (sent_on conn (Space.on g (Opened conn dialled) s).1)
opens-so g conn dialled s none shut = by dialled (opens-with g conn dialled s none shut)
  where
    alone : (version : ℕ) (ms : List Message) → ms ≡ message.Hello version g.id g.digest ∷ [] → IsHelloAlone g ms
    alone version ms e = record { hello = message.Hello version g.id g.digest; own = record { version = version; says = refl }; alone = e }

    by : (d : Option Uuid) {ms : List Message} → ms ≡ heard (opening_hello g s d) → SaysFirst g (says_late g d) ms
    by None e = pick (nat_le 2 g.version) e
      where
        pick : (b : Bool) {ms : List Message} → ms ≡ heard (if b then None else Some (message.Hello 1 g.id g.digest)) → SaysFirst g b ms
        pick true e = e
        pick false e = alone 1 _ e
    by (Some peer) e = alone (OwnEvents.version_to g s peer) _ e

-- ---- a Hello that is answered

-- What a space that says Hello late does as the first frame comes: it closes the connection and says nothing there, or it says its Hello there, alone.
pub record AnswersSo (g : Setting) (conn : ℕ) (after : State) (outputs : List Output) : Type 0 where
  pub does : ((is_open after conn ≡ false) × (sent_on conn outputs ≡ [])) ⊎ IsHelloAlone g (sent_on conn outputs)

pub late-answers : (g : Setting) (conn : ℕ) (m : Message) (s : State) (c : Connection) → s.notes ≡ [] → connection_at s conn ≡ Some c → c.peer ≡ None → says_late g c.dialled ≡ true → AllOf (Apart conn) s.connections
    → AnswersSo g conn (Space.on g (Received conn m) s).0 (Space.on g (Received conn m) s).1
unfolding Space.on Space.happen Frames.receive Frames.first_frame
late-answers g conn m s c none is peer late apart = subst (λ (o : Option Connection). After (OwnEvents.received_on g o m s)) (sym is) (by (is_none c.peer) (ap (λ (o : Option Uuid). is_none o) peer))
  where
    After : State → Type 0
    After t = AnswersSo g conn (Space.finish_event true t).0 (Space.finish_event true t).1

    number : c.number ≡ conn
    number = eqb-true c.number conn (found-is (λ (d : Connection). d.number == conn) s.connections c is)

    closed : (class : ClassId) → After (Endings.close g class c.number s)
    closed class = subst (λ n. After (Endings.close g class n s)) (sym number) (record { does = inl (closed-so g class conn conn s refl, unsaid conn _ (closes_silent g m class conn s none)) })

    open-now : (space : Uuid) → is_open (Frames.greeted space conn s) conn ≡ true
    open-now space = row-there conn (λ (d : Connection). record d { peer = Some space }) (λ d. refl) s.connections c is

    -- rows that a Hello came on stay apart: the row of this connection was not dialled
    apart-now : (space : Uuid) → c.dialled ≡ None → AllOf (Apart conn) (Frames.greeted space conn s).connections
    apart-now space not-dialled = greeted-apart conn space s.connections c is not-dialled apart

    answers : (version : ℕ) (space : Uuid) → c.dialled ≡ None → nat_le 2 g.version ≡ true → After (Frames.answer_hello g version c.number (Frames.greeted space c.number s))
    answers version space not-dialled new = subst (λ n. After (Frames.answer_hello g version n (Frames.greeted space n s))) (sym number)
        (subst (λ (b : Bool). After (if b then Frames.say_hello g (min version g.version) conn (Frames.greeted space conn s) else Frames.greeted space conn s)) (sym new)
        (record {
          does = inr (record {
            hello = message.Hello (min version g.version) g.id g.digest;
            own = record { version = min version g.version; says = refl };
            alone = sends-so conn (Some (message.Hello (min version g.version) g.id g.digest)) _ (say-first g (min version g.version) conn (Frames.greeted space conn s) none (open-now space) (apart-now space not-dialled));
          });
        }))

    hello : (version : ℕ) (space : Uuid) (digest : List ℕ) (o : Option Uuid) → c.dialled ≡ o → says_late g o ≡ true
        → After (with_some o (if bytes_eq digest g.digest && nat_le version g.version then Frames.answer_hello g version c.number (Frames.greeted space c.number s) else Endings.close g g.classes.unmarshal c.number s)
        (λ to. if bytes_eq digest g.digest && bytes_eq space to then Frames.answered_hello g c to version space s else Endings.close g g.classes.connect c.number s))
    hello version space digest None dialled new = pick (bytes_eq digest g.digest && nat_le version g.version)
      where
        pick : (b : Bool) → After (if b then Frames.answer_hello g version c.number (Frames.greeted space c.number s) else Endings.close g g.classes.unmarshal c.number s)
        pick true = answers version space dialled new
        pick false = closed g.classes.unmarshal
    hello version space digest (Some to) dialled new = absurd (true≢false (sym new))

    first : (n : Message) → After (Frames.first_frame g c n s)
    first (message.Hello version space digest) = hello version space digest c.dialled refl late
    first _ = closed g.classes.unmarshal

    by : (b : Bool) → b ≡ true → After (if b then Frames.first_frame g c m s else (if Frames.is_wrong_way (Frames.is_asking m) (is_some c.dialled) then Endings.close g g.classes.unmarshal c.number s else Frames.got g c m s))
    by true e = first m
    by false e = absurd (true≢false (sym e))
