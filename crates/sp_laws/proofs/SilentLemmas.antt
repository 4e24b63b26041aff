-- Nothing is sent on a connection that is not open, through every event that does not open it.
use mathlib.Core.Path.{sym, ap, subst, ◌∙◌}
use Rattle.std.proofs.lemmas.Bool.{true≢false, eqb-true}
use Rattle.std.specs.Prelude.{◌≡◌, refl, ℕ, ◌==◌, not, is_some, Bool, true, false, List, [], ◌∷◌, ◌++◌, Option, None, Some, filter}
use Rattle.net_message.specs.declared.message.Message.TheVariants as message
use Rattle.net_message.specs.declared.message.Message.{Message}
use Rattle.uuid.specs.declared.Uuid.{Uuid}
use Rattle.sp_rules.specs.Classes.{Setting}
use Rattle.sp_rules.specs.Endings
use Rattle.sp_rules.specs.Events.{Event, Received, Closed, ReadFailed, Bad, WriteFailed, Output, Started, Ended, Withdrawn, Denied, Send, Dial, Close, Ready, Note, Says, Sends, output_of, in_order, ranks}
use Rattle.sp_rules.specs.Laws.{AllOf}
use Rattle.sp_rules.specs.Lists.{each, with_some}
use Rattle.sp_rules.specs.LivingTasks
use Rattle.sp_rules.specs.Requests
use Rattle.sp_rules.specs.Space
use Rattle.sp_rules.specs.State.{State, Living, Origin, OfRoot, OfCall, Asked, Connection, ParkedFrame, connection_at, is_open}
use Rattle.space_ids.specs.declared.ids.ClassId.{ClassId}
use Rattle.sp_rules.proofs.AllLemmas.{all-more, ranks-all}
use Rattle.sp_laws.specs.Inbound.{opens}
use Rattle.sp_laws.specs.Open.{ends_on, is_sent_on, IsSilent, EndedConnectionsAreSilent}
use Rattle.sp_laws.specs.Sent.{is_send}
use Rattle.sp_laws.proofs.FrameFlows.{View, Flows, Begins, EventParts, FrameParts, event_parts, IsFrom, is_ending, each_flow, let_go_flow}
use Rattle.sp_laws.proofs.FrameSteps.{settle_flow, dial_flow, end_requests_flow}
use Rattle.sp_laws.proofs.FrameEvents.{happen_settles}
use Rattle.sp_laws.proofs.OpenLemmas.{nothing-noted, all-unit, all-dialled}
use Rattle.sp_laws.proofs.ShutLemmas.{has_row, row-stays, row-gone, row-ends, row-comes}

-- ---- what is kept

record Quiet (conn : ℕ) (p : EventParts) : Type 0 where
  shut : has_row conn p.connections ≡ false
  notes : AllOf (λ (n : Note). is_sent_on conn (output_of n) ≡ false) p.notes

noted : {conn : ℕ} {p : EventParts} (n : Note) → is_sent_on conn (output_of n) ≡ false → Quiet conn p → Quiet conn (record p { notes = p.notes ++ n ∷ [] })
noted {conn} {p} n a h = record { shut = h.shut; notes = all-more (λ (x : Note). is_sent_on conn (output_of x) ≡ false) p.notes n h.notes a }

others : {conn : ℕ} {p : EventParts} (q : EventParts) → q.connections ≡ p.connections → q.notes ≡ p.notes → Quiet conn p → Quiet conn q
others {conn} {p} q rows notes h = record {
  shut = ap (has_row conn) rows ∙ h.shut;
  notes = subst (λ ns. AllOf (λ (n : Note). is_sent_on conn (output_of n) ≡ false) ns) (sym notes) h.notes;
}

rows-now : {conn : ℕ} {p : EventParts} (now : List Connection) → has_row conn now ≡ false → Quiet conn p → Quiet conn (record p { connections = now })
rows-now now e h = record { shut = e; notes = h.notes }

-- a frame goes out on another connection
elsewhere : (conn c : ℕ) (rows : List Connection) → has_row conn rows ≡ false → has_row c rows ≡ true → (c == conn) ≡ false
elsewhere conn c rows e f = by (c == conn) refl
  where
    by : (b : Bool) → (c == conn) ≡ b → b ≡ false
    by true g = absurd (true≢false (sym f ∙ (ap (λ n. has_row n rows) (eqb-true c conn g) ∙ e)))
    by false g = refl

said : (conn : ℕ) (o : Output) → is_send o ≡ false → is_sent_on conn o ≡ false
said conn (Send c m) is = absurd (true≢false is)
said conn (Started task) is = refl
said conn (Ended task outcome) is = refl
said conn (Withdrawn ids) is = refl
said conn (Denied why) is = refl
said conn (Dial peer) is = refl
said conn (Close c) is = refl
said conn (Ready task) is = refl

-- ---- through the rules

abbrev view : Setting → Event → ℕ → View
view g e conn = record {
  setting = g;
  event = e;
  Dialled = λ c d. Unit {0};
  Answers = λ c m. Unit {0};
  Known = λ p. Unit {0};
  Fails = λ c. Unit {0};
  Ends = λ a r. Unit {0};
  Starts = λ o n a. Unit {0};
  Speaks = λ c version. Unit {0};
  Fits = λ c ids. Unit {0};
  Keeps = λ l t. Quiet conn (event_parts t);
}

all-from : (g : Setting) (e : Event) (conn : ℕ) (ts : List Living) → AllOf (λ (t : Living). IsFrom (view g e conn) t.origin) ts
all-from g e conn [] = tt
all-from g e conn (t ∷ ts) = (one t.origin, all-from g e conn ts)
  where
    one : (o : Origin) → IsFrom (view g e conn) o
    one OfRoot = tt
    one (OfCall c n) = tt

quiet_flow : (g : Setting) (e : Event) (conn : ℕ) → Flows (view g e conn)
quiet_flow g e conn = record {
  known = λ l t k. all-unit t.parked;
  dialled = λ l t k. all-dialled t.connections;
  origins = λ l t k. all-from g e conn t.tasks;
  sided = λ p a. tt;
  fails = λ asked class a. tt;
  starts = λ l s p target method fuel arguments o n going k known is stands finds. tt;
  gives = λ p value fuel asked is a b c. tt;
  refuses = λ c n class is. tt;
  finds = λ c n name r is own. tt;
  speaks = λ l s conn version is k. tt;
  fits = λ l s conn ids few k. tt;
  quiet = λ l t u eq k. subst (Quiet conn) (sym (ap (λ (p : FrameParts). p.parts) eq)) k;
  says = λ l t output is so k. noted (Says output) (said conn output is) k;
  sends = λ l t turn c m may there held k. noted (Sends turn c m) (elsewhere conn c t.connections k.shut there) k;
  clears = λ t k. record { shut = k.shut; notes = tt };
  stores = λ l s store is k. others _ refl refl k;
  adds = λ l t q k. others _ refl refl k;
  calls_out = λ l t turn c peer number task lent kind m known there k. others _ refl refl (noted (Sends turn c m) (elsewhere conn c t.connections k.shut there) k);
  looks_out = λ l t turn c peer number task name known there k. others _ refl refl (noted (Sends turn c (message.Lookup number name)) (elsewhere conn c t.connections k.shut there) k);
  tells = λ l t q call group eq k. others _ refl refl k;
  told = λ l t peer call group k. k;
  unfresh = λ l t k. others _ refl refl k;
  removes = λ l t is k. others _ refl refl k;
  sorts = λ l t is rs k. k;
  removes_one = λ l t finds is n q eq passes has k. others _ refl refl k;
  removes_told = λ l t dirty c sequence k. others _ refl refl k;
  answers = λ l t c n k. others _ refl refl k;
  begins = λ l t origin method arguments fuel going at k. others _ refl refl k;
  ends = λ l t id u over is k. others _ refl refl k;
  replies = λ l t peer number task lent kind m reply u may is k. others _ refl refl k;
  replies_none = λ l t peer number task lent kind m is k. k;
  looked_up = λ l t peer number task name reply may k. noted (Says (Ended task (LivingTasks.outcome_of reply))) refl k;
  works = λ l t id u f lent row ready is k. others _ refl refl k;
  keeps = λ l t until value k. others _ refl refl k;
  results_go = λ l t is goes k. others _ refl refl k;
  falls = λ l t c n k. k;
  sent = λ l t c m k. rows-now _ (row-stays conn c (λ (d : Connection). record d { sent = m ∷ d.sent }) (λ d. refl) t.connections k.shut) k;
  versions = λ l t c version speaks k. rows-now _ (row-stays conn c (λ (d : Connection). record d { version = version }) (λ d. refl) t.connections k.shut) k;
  notes_peer = λ l s conn c peer space digest same is higher k. k;
  counts = λ l t c n d there is low k. rows-now _ (row-stays conn c (λ (d : Connection). record d { last = n }) (λ d. refl) t.connections k.shut) k;
  parks_call = λ l t p going known is k. others _ refl refl k;
  parks_result = λ l t p known is k. others _ refl refl k;
  takes = λ l t p k. others _ refl refl k;
  takes_call = λ l t p q is call k. others _ refl refl k;
  closes = λ l t c d is why k. others _ refl refl (rows-now _ (row-gone conn (λ (x : Connection). not (x.number == c)) t.connections k.shut) k);
}

quiet-begin : (g : Setting) (e : Event) (conn : ℕ) (s : State) → opens conn e ≡ false → Begins (view g e conn) s
quiet-begin g e conn s apart = record {
  opens = λ c dialled is k. rows-now _ (row-comes conn s.connections (record { number = c; dialled = dialled; peer = None; version = 1; last = 0; sent = [] }) (subst (λ d. opens conn d ≡ false) is apart) k.shut) k;
  parks = λ id n t target method arguments is ready stands k. others _ refl refl k;
  looks = λ peer name is k. others _ refl refl k;
  greets = λ c version space digest is row ungreeted same who k. (rows-now _ (row-stays conn c.number (λ (d : Connection). record d { peer = Some space }) (λ d. refl) s.connections k.shut) k, tt);
  roots = λ method arguments fuel is. tt;
  unmarshal = λ is. tt;
  connect = λ is. tt;
  marshal = λ is. tt;
  threw = λ c n class is q found has. tt;
  spent = λ c n is q found has. tt;
  finished = λ id k t outcome c n is ready stands origin. tt;
  call_came = λ p target o method passed arguments is there stands may fit names. tt;
  result_came = λ p value fuel is frame there q found fits names. tt;
}

-- ---- an event

start : (conn : ℕ) (s : State) → s.notes ≡ [] → has_row conn s.connections ≡ false → Quiet conn (event_parts s)
start conn s none e = record { shut = e; notes = subst (λ ns. AllOf (λ (n : Note). is_sent_on conn (output_of n) ≡ false) ns) (sym none) tt }

ordered : (conn : ℕ) (t : State) → Quiet conn (event_parts t) → IsSilent conn (in_order t.notes)
unfolding in_order
ordered conn t k = ranks-all (λ (o : Output). is_sent_on conn o ≡ false) ranks t.notes k.notes

shut : (g : Setting) (e : Event) (conn : ℕ) (s : State) → s.notes ≡ [] → is_open s conn ≡ false → opens conn e ≡ false → IsSilent conn (Space.on g e s).1
unfolding Space.on
shut g e conn s none k apart = by (Space.answers_outputs e)
  where
    by : (b : Bool) → IsSilent conn (Space.finish_event b (Space.happen g e s)).1
    by true = ordered conn (Requests.settle (Space.happen g e s)) (happen_settles (quiet_flow g e conn) s (quiet-begin g e conn s apart) (start conn s none k))
    by false = tt

-- an end of a connection that is there
ended-there : (g : Setting) (e : Event) → is_ending e ≡ true → (why : Asked → ClassId) (conn : ℕ) (s : State) → s.notes ≡ [] → Quiet conn (event_parts (Endings.end_connection g why conn s))
unfolding Endings.end_connection
ended-there g e going why conn s none = by (connection_at s conn) refl
  where
    by : (o : Option Connection) → connection_at s conn ≡ o
        → Quiet conn (event_parts (with_some o s (λ c. Endings.end_requests g (Endings.is_of_connection conn c.dialled) why (each Endings.unpark (filter (λ (p : ParkedFrame). p.conn == conn) s.parked) (Endings.without_connection conn s)))))
    by None f = start conn s none (ap (λ (o : Option Connection). is_some o) f)
    by (Some c) f = end_requests_flow (quiet_flow g e conn) {l = []} (Endings.is_of_connection conn c.dialled) why going tt (λ asked. tt)
        (each_flow (quiet_flow g e conn) {l = []} Endings.unpark (filter (λ (p : ParkedFrame). p.conn == conn) s.parked) (λ t p k. let_go_flow (quiet_flow g e conn) {l = []} p t.parked (others _ refl refl k))
        (start conn (Endings.without_connection conn s) none (row-ends conn s.connections)))

-- a frame that closes its connection
pub closes_silent : (g : Setting) (m : Message) (class : ClassId) (conn : ℕ) (s : State) → s.notes ≡ [] → IsSilent conn (Space.finish_event true (Endings.close g class conn s)).1
unfolding Endings.close
closes_silent g m class conn s none = ordered conn (Requests.settle (Endings.close g class conn s))
    (settle_flow (quiet_flow g (Received conn m) conn) (noted (Says (Close conn)) refl (ended-there g (Received conn m) refl (λ asked. class) conn s none)))

-- one on which the peer is dialled again in a lower version
pub redials_silent : (g : Setting) (m : Message) (peer : Uuid) (conn : ℕ) (s : State) → s.notes ≡ [] → IsSilent conn (Space.finish_event true (Endings.redial peer conn s)).1
unfolding Endings.redial
redials_silent g m peer conn s none = ordered conn (Requests.settle (Endings.redial peer conn s)) (settle_flow F (dial_flow F {l = []} peer (noted (Says (Close conn)) refl gone)))
  where
    F : Flows (view g (Received conn m) conn)
    F = quiet_flow g (Received conn m) conn

    gone : Quiet conn (event_parts (Endings.let_connection_go conn (Endings.note_peer peer s)))
    gone = each_flow F {l = []} Endings.unpark (filter (λ (p : ParkedFrame). p.conn == conn) s.parked) (λ t p k. let_go_flow F {l = []} p t.parked (others _ refl refl k))
        (start conn (Endings.without_connection conn (Endings.note_peer peer s)) none (row-ends conn s.connections))

ended : (g : Setting) (e : Event) (conn : ℕ) (s : State) → s.notes ≡ [] → ends_on conn e ≡ true → IsSilent conn (Space.on g e s).1
unfolding Space.on Space.happen Endings.fail_write
ended g e conn s none is = by e is
  where
    going : (d : Event) → ends_on conn d ≡ true → is_ending d ≡ true
    going (Closed c) at = refl
    going (ReadFailed c) at = refl
    going (Bad c) at = refl
    going (WriteFailed c unsent) at = refl
    going _ at = absurd (true≢false (sym at))

    after-end : (why : Asked → ClassId) (c : ℕ) → (c == conn) ≡ true → IsSilent conn (Space.finish_event true (Endings.end_connection g why c s)).1
    after-end why c same = ordered conn (Requests.settle (Endings.end_connection g why c s))
        (settle_flow (quiet_flow g e conn) (subst (λ n. Quiet conn (event_parts (Endings.end_connection g why n s))) (sym (eqb-true c conn same)) (ended-there g e (going e is) why conn s none)))

    by : (d : Event) → ends_on conn d ≡ true → IsSilent conn (Space.on g d s).1
    by (Closed c) is = after-end (Endings.by_unmarshal g) c is
    by (ReadFailed c) is = after-end (Endings.by_unmarshal g) c is
    by (Bad c) is = after-end (Endings.by_unmarshal g) c is
    by (WriteFailed c unsent) is = after-end (Endings.why_unsent g (Endings.unsent_calls s c unsent)) c is
    by _ is = absurd (true≢false (sym is))

pub ended_connections_are_silent : EndedConnectionsAreSilent
unfolding Space.outputs_of
ended_connections_are_silent g h e conn = record {
  shut = λ k apart. shut g e conn (Space.state_of g h) (nothing-noted g h) k apart;
  ended = λ is. ended g e conn (Space.state_of g h) (nothing-noted g h) is;
}
