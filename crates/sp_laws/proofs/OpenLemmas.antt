-- Frames go out on connections that are open, through every event.
use mathlib.Core.Path.{sym, ap, subst, ◌∙◌}
use Rattle.std.proofs.Common.{inl, inr}
use Rattle.std.proofs.lemmas.Bool.{true≢false, eqb-true}
use Rattle.std.specs.Prelude.{◌≡◌, refl, ℕ, ◌+◌, ◌==◌, not, is_some, Bool, true, false, List, [], ◌∷◌, ◌++◌, Option, None, Some, find, if◌then◌else◌}
use Rattle.net_message.specs.declared.message.Message.{Message}
use Rattle.space_ids.specs.declared.ids.ForeignId.{ForeignId}
use Rattle.sp_rules.specs.Behaviours.{Op, Create, Get, Put, Call}
use Rattle.sp_rules.specs.Classes.{Setting}
use Rattle.sp_rules.specs.Events.{Event, Received, Committed, GivenBack, Output, Started, Ended, Withdrawn, Denied, Send, Dial, Close, Ready, Note, Says, Sends, output_of, in_order, ranks}
use Rattle.sp_rules.specs.Holders
use Rattle.sp_rules.specs.Holders.{hold_ids, drop_ids}
use Rattle.sp_rules.specs.Laws.{AllOf}
use Rattle.sp_rules.specs.Lists.{each, with_some, at_first}
use Rattle.sp_rules.specs.LivingTasks
use Rattle.sp_rules.specs.Requests
use Rattle.sp_rules.specs.Space
use Rattle.sp_rules.specs.State.{State, Living, Origin, OfRoot, OfCall, Connection, ParkedFrame, opening, is_open, ready_at}
use Rattle.sp_rules.proofs.AllLemmas.{all-weaken, all-more, all-filter, all-first, all-found, found-is, ranks-all}
use Rattle.sp_laws.proofs.FlowRules as flow
use Rattle.sp_laws.specs.Open.{IsOpenAt, GoesWhereOpen, FramesGoWhereOpen}
use Rattle.sp_laws.specs.Sent.{is_send}
use Rattle.sp_laws.proofs.FrameFlows.{View, Flows, Begins, EventParts, FrameParts, event_parts, IsFrom, MaySay}
use Rattle.sp_laws.proofs.FrameEvents.{happen_settles}
use Rattle.sp_laws.proofs.ShutLemmas.{has_row, row-stays, row-gone, shut_flow}

-- ---- between events nothing is noted

holds-notes : (ids : List ForeignId) (s : State) → (hold_ids ids s).notes ≡ s.notes
unfolding hold_ids each
holds-notes [] s = refl
holds-notes (r ∷ ids) s = holds-notes ids (Holders.holder_comes s r)

drops-notes : (ids : List ForeignId) (s : State) → (drop_ids ids s).notes ≡ s.notes
unfolding drop_ids each
drops-notes [] s = refl
drops-notes (r ∷ ids) s = drops-notes ids (Holders.holder_goes s r)

op-notes : (g : Setting) (op : Op) (s : State) → (LivingTasks.after_op g op s).notes ≡ s.notes
unfolding LivingTasks.after_op
op-notes g (Create class) s = by (LivingTasks.is_full s)
  where
    by : (b : Bool) → (if b then s else record s { objects_made = s.objects_made + 1; store = Rattle.sp_rules.specs.State.Made (LivingTasks.next_object s) class ∷ s.store }).notes ≡ s.notes
    by true = refl
    by false = refl
op-notes g (Get id slot) s = refl
op-notes g (Put id slot value) s = drops-notes _ _ ∙ holds-notes _ _
op-notes g (Call target method arguments) s = refl

commit-notes : (g : Setting) (task k : ℕ) (op : Op) (s : State) → (LivingTasks.commit g task k op s).notes ≡ s.notes
unfolding LivingTasks.commit
commit-notes g task k op s = by (ready_at s task)
  where
    by : (o : Option Living) → (with_some o s (λ t. LivingTasks.after_op g op (Holders.hold g (Rattle.sp_rules.specs.Tasks.gained t.task (Rattle.sp_rules.specs.Tasks.answer g (LivingTasks.op_reply g op s) (Rattle.sp_rules.specs.Tasks.steps k t.task)))
        (Rattle.sp_rules.specs.State.set_task (λ (u : Living). LivingTasks.after_reply g (LivingTasks.op_reply g op s) (LivingTasks.after_steps k u)) task s)))).notes ≡ s.notes
    by None = refl
    by (Some t) = op-notes g op _ ∙ holds-notes _ _

back-notes : (task k : ℕ) (s : State) → (LivingTasks.give_back task k s).notes ≡ s.notes
unfolding LivingTasks.give_back
back-notes task k s = by (ready_at s task)
  where
    by : (o : Option Living) → (with_some o s (λ t. Rattle.sp_rules.specs.State.set_task (LivingTasks.after_steps k) task s)).notes ≡ s.notes
    by None = refl
    by (Some t) = refl

sent-notes : (outputs : List Output) (s : State) → (each Space.record_sent outputs s).notes ≡ s.notes
unfolding each
sent-notes [] s = refl
sent-notes (o ∷ outputs) s = sent-notes outputs (Space.record_sent s o) ∙ one o
  where
    one : (o : Output) → (Space.record_sent s o).notes ≡ s.notes
    one (Started task) = refl
    one (Ended task outcome) = refl
    one (Withdrawn ids) = refl
    one (Denied why) = refl
    one (Send conn m) = refl
    one (Dial peer) = refl
    one (Close conn) = refl
    one (Ready task) = refl

on-notes : (g : Setting) (e : Event) (s : State) → s.notes ≡ [] → (Space.on g e s).0.notes ≡ []
unfolding Space.on Space.happen
on-notes g (Committed task k op) s none = commit-notes g task k op s ∙ none
on-notes g (GivenBack task k) s none = back-notes task k s ∙ none
on-notes g _ s none = sent-notes _ _

pub nothing-noted : (g : Setting) (h : List Event) → (Space.state_of g h).notes ≡ []
unfolding Space.state_of opening
nothing-noted g [] = refl
nothing-noted g (e ∷ h) = on-notes g e (Space.state_of g h) (nothing-noted g h)

-- ---- what is kept

abbrev Goes : State → Event → List Connection → Output → Type 0
Goes s e rows (Send conn m) = IsOpenAt s e conn
Goes s e rows (Close conn) = ((m : Message) × (e ≡ Received conn m)) × (has_row conn rows ≡ false)
Goes s e rows (Started task) = Unit {0}
Goes s e rows (Ended task outcome) = Unit {0}
Goes s e rows (Withdrawn ids) = Unit {0}
Goes s e rows (Denied why) = Unit {0}
Goes s e rows (Dial peer) = Unit {0}
Goes s e rows (Ready task) = Unit {0}

abbrev Row : State → Event → Connection → Type 0
Row s e c = IsOpenAt s e c.number

record Placed (s : State) (e : Event) (p : EventParts) : Type 0 where
  rows : AllOf (Row s e) p.connections
  notes : AllOf (λ (n : Note). Goes s e p.connections (output_of n)) p.notes

goes-on : (s : State) (e : Event) (rows now : List Connection) → ((conn : ℕ) → has_row conn rows ≡ false → has_row conn now ≡ false) → (o : Output) → Goes s e rows o → Goes s e now o
goes-on s e rows now k (Send conn m) a = a
goes-on s e rows now k (Close conn) a = (a.0, k conn a.1)
goes-on s e rows now k (Started task) a = tt
goes-on s e rows now k (Ended task outcome) a = tt
goes-on s e rows now k (Withdrawn ids) a = tt
goes-on s e rows now k (Denied why) a = tt
goes-on s e rows now k (Dial peer) a = tt
goes-on s e rows now k (Ready task) a = tt

-- the rows change
rows-now : {s : State} {e : Event} {p : EventParts} (now : List Connection) → AllOf (Row s e) now → ((conn : ℕ) → has_row conn p.connections ≡ false → has_row conn now ≡ false) → Placed s e p → Placed s e (record p { connections = now })
rows-now {s} {e} {p} now a k h = record { rows = a; notes = all-weaken (λ (n : Note). Goes s e p.connections (output_of n)) (λ (n : Note). Goes s e now (output_of n)) p.notes (λ n x. goes-on s e p.connections now k (output_of n) x) h.notes }

-- more is noted
noted : {s : State} {e : Event} {p : EventParts} (n : Note) → Goes s e p.connections (output_of n) → Placed s e p → Placed s e (record p { notes = p.notes ++ n ∷ [] })
noted {s} {e} {p} n a h = record { rows = h.rows; notes = all-more (λ (x : Note). Goes s e p.connections (output_of x)) p.notes n h.notes a }

-- other parts change
others : {s : State} {e : Event} {p : EventParts} (q : EventParts) → q.connections ≡ p.connections → q.notes ≡ p.notes → Placed s e p → Placed s e q
others {s} {e} {p} q rows notes h = record {
  rows = subst (AllOf (Row s e)) (sym rows) h.rows;
  notes = subst (λ rs. AllOf (λ (n : Note). Goes s e rs (output_of n)) q.notes) (sym rows) (subst (λ ns. AllOf (λ (n : Note). Goes s e p.connections (output_of n)) ns) (sym notes) h.notes);
}

row-open : (s : State) (e : Event) (rows : List Connection) (conn : ℕ) → AllOf (Row s e) rows → has_row conn rows ≡ true → IsOpenAt s e conn
row-open s e rows conn a is = by (find (λ (c : Connection). c.number == conn) rows) refl is
  where
    by : (o : Option Connection) → find (λ (c : Connection). c.number == conn) rows ≡ o → is_some o ≡ true → IsOpenAt s e conn
    by None f g = absurd (true≢false (sym g))
    by (Some c) f g = subst (IsOpenAt s e) (eqb-true c.number conn (found-is (λ (x : Connection). x.number == conn) rows c f)) (all-found (Row s e) (λ (x : Connection). x.number == conn) rows c f a)

-- ---- through the rules

abbrev view : Setting → Event → State → View
view g e s = record {
  setting = g;
  event = e;
  Dialled = λ c d. Unit {0};
  Answers = λ c m. Unit {0};
  Known = λ p. Unit {0};
  Fails = λ c. Unit {0};
  Ends = λ a r. Unit {0};
  Starts = λ o n a. Unit {0};
  Speaks = λ c version. Unit {0};
  Fits = λ c ids. Unit {0};
  Keeps = λ l t. Placed s e (event_parts t);
}

pub all-unit : {A : Type 0} (xs : List A) → AllOf (λ (x : A). Unit {0}) xs
all-unit [] = tt
all-unit (x ∷ xs) = (tt, all-unit xs)

pub all-dialled : (xs : List Connection) → AllOf (λ (c : Connection). is_some c.peer ≡ true → Unit {0}) xs
all-dialled [] = tt
all-dialled (x ∷ xs) = ((λ e. tt), all-dialled xs)

all-from : (g : Setting) (e : Event) (s : State) (ts : List Living) → AllOf (λ (t : Living). IsFrom (view g e s) t.origin) ts
all-from g e s [] = tt
all-from g e s (t ∷ ts) = (one t.origin, all-from g e s ts)
  where
    one : (o : Origin) → IsFrom (view g e s) o
    one OfRoot = tt
    one (OfCall c n) = tt

said : (g : Setting) (e : Event) (s t : State) (o : Output) → is_send o ≡ false → MaySay (view g e s) t o → Goes s e t.connections o
said g e s t (Send conn m) is a = absurd (true≢false is)
said g e s t (Close conn) is a = a
said g e s t (Started task) is a = tt
said g e s t (Ended task outcome) is a = tt
said g e s t (Withdrawn ids) is a = tt
said g e s t (Denied why) is a = tt
said g e s t (Dial peer) is a = tt
said g e s t (Ready task) is a = tt

row-set : {s : State} {e : Event} {p : EventParts} (n : ℕ) (f : Connection → Connection) → ((c : Connection) → (f c).number ≡ c.number) → Placed s e p → Placed s e (record p { connections = at_first (λ (c : Connection). c.number == n) f p.connections })
row-set {s} {e} {p} n f num h = rows-now (at_first (λ (c : Connection). c.number == n) f p.connections) (all-first (Row s e) (λ (c : Connection). c.number == n) f p.connections (λ c a. subst (IsOpenAt s e) (sym (num c)) a) h.rows) (λ conn k. row-stays conn n f num p.connections k) h

placed_flow : (g : Setting) (e : Event) (s : State) → Flows (view g e s)
placed_flow g e s = record {
  known = λ l t k. all-unit t.parked;
  dialled = λ l t k. all-dialled t.connections;
  origins = λ l t k. all-from g e s t.tasks;
  sided = λ p a. tt;
  fails = λ asked class a. tt;
  starts = λ l s p target method fuel arguments o n going k known is stands finds. tt;
  gives = λ p value fuel asked is a b c. tt;
  refuses = λ c n class is. tt;
  finds = λ c n name r is own. tt;
  speaks = λ l s conn version is k. tt;
  fits = λ l s conn ids few k. tt;
  quiet = λ l t u eq k. subst (Placed s e) (sym (ap (λ (p : FrameParts). p.parts) eq)) k;
  says = λ l t output is so k. noted (Says output) (said g e s t output is so) k;
  sends = λ l t turn c m may there held k. noted (Sends turn c m) (row-open s e t.connections c k.rows there) k;
  clears = λ t k. record { rows = k.rows; notes = tt };
  stores = λ l s store is k. others _ refl refl k;
  adds = λ l t q k. others _ refl refl k;
  calls_out = λ l t turn c peer number task lent kind m known there k. others _ refl refl (noted (Sends turn c m) (row-open s e t.connections c k.rows there) k);
  looks_out = λ l t turn c peer number task name known there k. others _ refl refl (noted (Sends turn c (Rattle.net_message.specs.declared.message.Message.TheVariants.Lookup number name)) (row-open s e t.connections c k.rows there) k);
  tells = λ l t q call group eq k. others _ refl refl k;
  told = λ l t peer call group k. k;
  unfresh = λ l t k. others _ refl refl k;
  removes = λ l t is k. others _ refl refl k;
  sorts = λ l t is rs k. k;
  removes_one = λ l t finds is n q eq passes has k. others _ refl refl k;
  removes_told = λ l t dirty c sequence k. others _ refl refl k;
  answers = λ l t c n k. others _ refl refl k;
  begins = λ l t origin method arguments fuel going at k. others _ refl refl k;
  ends = λ l t id u over is k. others _ refl refl k;
  replies = λ l t peer number task lent kind m reply u may is k. others _ refl refl k;
  replies_none = λ l t peer number task lent kind m is k. k;
  looked_up = λ l t peer number task name reply may k. noted (Says (Ended task (LivingTasks.outcome_of reply))) tt k;
  works = λ l t id u f lent row ready is k. others _ refl refl k;
  keeps = λ l t until value k. others _ refl refl k;
  results_go = λ l t is goes k. others _ refl refl k;
  falls = λ l t c n k. k;
  sent = λ l t c m k. row-set c (λ (d : Connection). record d { sent = m ∷ d.sent }) (λ d. refl) k;
  versions = λ l t c version speaks k. row-set c (λ (d : Connection). record d { version = version }) (λ d. refl) k;
  notes_peer = λ l s conn c peer space digest same is higher k. k;
  counts = λ l t c n d there is low k. row-set c (λ (d : Connection). record d { last = n }) (λ d. refl) k;
  parks_call = λ l t p going known is k. others _ refl refl k;
  parks_result = λ l t p known is k. others _ refl refl k;
  takes = λ l t p k. others _ refl refl k;
  takes_call = λ l t p q is call k. others _ refl refl k;
  closes = λ l t c d is why k. others _ refl refl (rows-now _ (all-filter (Row s e) (λ (x : Connection). not (x.number == c)) t.connections k.rows) (λ conn x. row-gone conn (λ (y : Connection). not (y.number == c)) t.connections x) k);
}

placed-begin : (g : Setting) (e : Event) (s : State) → s.notes ≡ [] → Begins (view g e s) s
placed-begin g e s none = record {
  opens = λ c dialled is k. record {
    rows = all-more (Row s e) s.connections (record { number = c; dialled = dialled; peer = None; version = 1; last = 0; sent = [] }) k.rows (inr (dialled, is));
    notes = subst (λ ns. AllOf (λ (n : Note). Goes s e (s.connections ++ record { number = c; dialled = dialled; peer = None; version = 1; last = 0; sent = [] } ∷ []) (output_of n)) ns) (sym none) tt;
  };
  parks = λ id n t target method arguments is ready stands k. others _ refl refl k;
  looks = λ peer name is k. others _ refl refl k;
  greets = λ c version space digest is row ungreeted same who k. (row-set c.number (λ (d : Connection). record d { peer = Some space }) (λ d. refl) k, tt);
  roots = λ method arguments fuel is. tt;
  unmarshal = λ is. tt;
  connect = λ is. tt;
  marshal = λ is. tt;
  threw = λ c n class is q found has. tt;
  spent = λ c n is q found has. tt;
  finished = λ id k t outcome c n is ready stands origin. tt;
  call_came = λ p target o method passed arguments is there stands may fit names. tt;
  result_came = λ p value fuel is frame there q found fits names. tt;
}

-- ---- an event

opens-own : (s : State) (e : Event) (all rows : List Connection) → ((conn : ℕ) → has_row conn rows ≡ true → has_row conn all ≡ true) → ((conn : ℕ) → has_row conn all ≡ true → is_open s conn ≡ true) → AllOf (Row s e) rows
opens-own s e all [] k own = tt
opens-own s e all (c ∷ rows) k own = (inl (own c.number (k c.number (here (c.number == c.number) (Rattle.std.proofs.lemmas.Bool.eq-eqb c.number c.number refl)))), opens-own s e all rows (λ conn is. k conn (later conn is)) own)
  where
    here : (b : Bool) → b ≡ true → is_some (Rattle.std.specs.Prelude.cond b (Some c) (find (λ (x : Connection). x.number == c.number) rows)) ≡ true
    here true f = refl
    here false f = absurd (true≢false (sym f))

    later : (conn : ℕ) → has_row conn rows ≡ true → has_row conn (c ∷ rows) ≡ true
    later conn is = by (c.number == conn)
      where
        by : (b : Bool) → is_some (Rattle.std.specs.Prelude.cond b (Some c) (find (λ (x : Connection). x.number == conn) rows)) ≡ true
        by true = refl
        by false = is

start : (s : State) (e : Event) → s.notes ≡ [] → Placed s e (event_parts s)
start s e none = record { rows = opens-own s e s.connections s.connections (λ conn is. is) (λ conn is. is); notes = subst (λ ns. AllOf (λ (n : Note). Goes s e s.connections (output_of n)) ns) (sym none) tt }

answered : (g : Setting) (e : Event) (s : State) → s.notes ≡ [] → AllOf (GoesWhereOpen s e (Space.on g e s).0) (Space.on g e s).1
unfolding Space.on in_order
answered g e s none = by (Space.answers_outputs e)
  where
    t : State
    t = Requests.settle (Space.happen g e s)

    closed : (outputs : List Output) (conn : ℕ) → has_row conn t.connections ≡ false → is_open (each Space.record_sent outputs (record t { notes = [] })) conn ≡ false
    closed outputs conn k = flow.each_flow (shut_flow g conn) {l = []} Space.record_sent outputs (λ u o x. flow.sent_flow (shut_flow g conn) {l = []} o x) k

    one : (final : State) → ((conn : ℕ) → has_row conn t.connections ≡ false → is_open final conn ≡ false) → (o : Output) → Goes s e t.connections o → GoesWhereOpen s e final o
    one final k (Send conn m) a = a
    one final k (Close conn) a = (a.0, k conn a.1)
    one final k (Started task) a = tt
    one final k (Ended task outcome) a = tt
    one final k (Withdrawn ids) a = tt
    one final k (Denied why) a = tt
    one final k (Dial peer) a = tt
    one final k (Ready task) a = tt

    by : (b : Bool) → AllOf (GoesWhereOpen s e (Space.finish_event b (Space.happen g e s)).0) (Space.finish_event b (Space.happen g e s)).1
    by true = all-weaken (Goes s e t.connections) (GoesWhereOpen s e (Space.finish_event true (Space.happen g e s)).0) (in_order t.notes) (one (Space.finish_event true (Space.happen g e s)).0 (closed (in_order t.notes)))
        (ranks-all (Goes s e t.connections) ranks t.notes (happen_settles (placed_flow g e s) s (placed-begin g e s none) (start s e none)).notes)
    by false = tt

pub frames_go_where_open : FramesGoWhereOpen
unfolding Space.outputs_of
frames_go_where_open g h e = answered g e (Space.state_of g h) (nothing-noted g h)
