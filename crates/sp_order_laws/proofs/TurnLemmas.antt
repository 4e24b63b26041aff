-- A space says Hello as a connection opens, and anything else only where a frame came, through every event.
use mathlib.Core.Path.{sym, ap, subst}
use Rattle.std.proofs.Common.{inl, inr}
use Rattle.std.proofs.lemmas.Bool.{true≢false, eq-eqb, eqb-true}
use Rattle.std.specs.Prelude.{◌≡◌, ◌⊎◌, refl, ℕ, ◌==◌, not, is_some, Bool, true, false, List, [], ◌∷◌, ◌++◌, Option, None, Some, filter, if◌then◌else◌}
use Rattle.net_message.specs.declared.message.Message.TheVariants as message
use Rattle.net_message.specs.declared.message.Message.{Message}
use Rattle.sp_rules.specs.Classes.{Setting}
use Rattle.sp_rules.specs.Events.{Event, Received, Output, Started, Ended, Withdrawn, Denied, Send, Dial, Close, Ready, Note, Says, Sends, output_of, in_order, ranks}
use Rattle.sp_rules.specs.Frames
use Rattle.sp_rules.specs.Laws.{AllOf}
use Rattle.sp_rules.specs.Lists.{at_first}
use Rattle.sp_rules.specs.LivingTasks
use Rattle.sp_rules.specs.OwnEvents
use Rattle.sp_rules.specs.ParkedFrames
use Rattle.sp_rules.specs.Requests
use Rattle.sp_rules.specs.Space
use Rattle.sp_rules.specs.State.{State, Living, Origin, OfRoot, OfCall, Request, Asked, Calls, LooksUp, Tells, Connection, ParkedFrame, Until, Passed, Acked, RootAcked, opening}
use Rattle.sp_rules.proofs.AllLemmas.{or-left, or-right, all-weaken, all-more, all-filter, all-map, all-first, all-found, ranks-all}
use Rattle.sp_laws.proofs.FlowRules.{Owed, Removed, Inbound, removed, of_origin, of_until}
use Rattle.sp_laws.specs.Directions.{opens_end, was_opened, HasOpened}
use Rattle.sp_laws.specs.Sent.{is_send}
use Rattle.sp_laws.proofs.DirectionLemmas.{opens-now}
use Rattle.sp_laws.proofs.FrameFlows.{View, Flows, Begins, EventParts, FrameParts, IsVersionOf, event_parts, IsFrom, CanSend}
use Rattle.sp_laws.proofs.FrameEvents.{on_flow, happen_settles}
use Rattle.sp_laws.proofs.OpenLemmas.{nothing-noted}
use Rattle.sp_order_laws.specs.Hellos.{brings_on, has_come, HasCome, SpeaksInTurn, SaysInTurn, AnswersInTurn, HellosAreSaidFirst}

-- ---- what is kept

-- the frame of a call is a Call
abbrev pub IsCall : Message → Type 0
IsCall (message.Call number object method fuel arguments) = Unit {0}
IsCall _ = ⊥

abbrev pub AsksByCall : Asked → Type 0
AsksByCall (Calls number task lent kind m) = IsCall m
AsksByCall (LooksUp number task name) = Unit {0}
AsksByCall (Tells call group) = Unit {0}

-- a frame came on a connection, which this space dialled or a peer did
abbrev pub Heard : List Event → ℕ → Bool → Type 0
Heard h conn dialled = HasCome h conn × HasOpened h conn dialled

-- on the connection of a call that came a frame came
abbrev pub OwedGoes : List Event → Owed → Type 0
OwedGoes h (Removed peer asked) = AsksByCall asked
OwedGoes h (Inbound conn number) = Heard h conn false

abbrev pub Noted : Setting → List Event → Note → Type 0
Noted g [] n = Unit {0}
Noted g (e ∷ h) n = AnswersInTurn g e h (output_of n)

abbrev pub Row : List Event → Connection → Type 0
Row h c = HasOpened h c.number (is_some c.dialled) × (is_some c.peer ≡ true → HasCome h c.number)

abbrev pub Frames-in : List Event → ParkedFrame → Type 0
Frames-in h p = Heard h p.conn (not (Frames.is_call_frame p.frame))

abbrev pub HeardFrom : List Event → Origin → Type 0
HeardFrom h OfRoot = Unit {0}
HeardFrom h (OfCall conn number) = Heard h conn false

pub record InTurn (g : Setting) (h : List Event) (l : List Owed) (s : EventParts) : Type 0 where
  pub rows : AllOf (Row h) s.connections
  pub frames : AllOf (Frames-in h) s.parked
  pub tasks : AllOf (λ (t : Living). HeardFrom h t.origin) s.tasks
  pub requests : AllOf (λ (q : Request). AsksByCall q.asked) s.requests
  pub fresh : AllOf (λ (q : Request). AsksByCall q.asked) s.fresh
  pub owed : AllOf (OwedGoes h) l
  pub notes : AllOf (Noted g h) s.notes

all-removed : (h : List Event) (rs : List Request) (l : List Owed) → AllOf (λ (q : Request). AsksByCall q.asked) rs → AllOf (OwedGoes h) l → AllOf (OwedGoes h) (removed rs ++ l)
all-removed h [] l a b = b
all-removed h (q ∷ rs) l a b = (a.0, all-removed h rs l a.1 b)

of-removed : (h : List Event) (rs : List Request) (l : List Owed) → AllOf (OwedGoes h) (removed rs ++ l) → AllOf (λ (q : Request). AsksByCall q.asked) rs × AllOf (OwedGoes h) l
of-removed h [] l a = (tt, a)
of-removed h (q ∷ rs) l a = let rest = of-removed h rs l a.1 in ((a.0, rest.0), rest.1)

-- ---- through the rules

abbrev pub view : Setting → Event → List Event → View
view g e h = record {
  setting = g;
  event = e;
  Dialled = Heard (e ∷ h);
  Answers = λ c m. Unit {0};
  Known = Frames-in (e ∷ h);
  Fails = λ c. Unit {0};
  Ends = λ a r. Unit {0};
  Starts = λ o n a. Unit {0};
  Speaks = SpeaksInTurn g e h;
  Fits = λ c ids. Unit {0};
  Keeps = λ l s. InTurn g (e ∷ h) l (event_parts s);
}

said : (g : Setting) (e : Event) (h : List Event) (output : Output) → is_send output ≡ false → AnswersInTurn g e h output
said g e h (Started task) is = tt
said g e h (Ended task outcome) is = tt
said g e h (Withdrawn ids) is = tt
said g e h (Denied why) is = tt
said g e h (Send conn m) is = absurd (true≢false is)
said g e h (Dial peer) is = tt
said g e h (Close conn) is = tt
said g e h (Ready task) is = tt

from-is : (g : Setting) (e : Event) (h : List Event) (o : Origin) → HeardFrom (e ∷ h) o → IsFrom (view g e h) o
from-is g e h OfRoot a = tt
from-is g e h (OfCall conn number) a = a

-- of which version a Hello is that is said
pub said-version : (g : Setting) (e : Event) (h : List Event) (s : State) (conn version : ℕ) → IsVersionOf (view g e h) s conn version → SpeaksInTurn g e h conn version
said-version g e h s conn version (inl x) = inl (None, (x.0, (x.1.0, x.1.1)))
said-version g e h s conn version (inr (inl x)) = inl (Some x.0, (x.1.0, either (OwnEvents.is_noted s x.0) x.1.1))
  where
    either : (b : Bool) → version ≡ (if b then 1 else g.version) → (version ≡ 1) ⊎ (version ≡ g.version)
    either true eq = inl eq
    either false eq = inr eq
said-version g e h s conn version (inr (inr x)) = inr (record { version = x.0.version; space = x.0.space; digest = x.0.digest; came = x.0.came; way = x.0.way.1; late = x.0.late }, x.1)

-- what is known of a frame says its turn
can-may : (g : Setting) (e : Event) (h : List Event) (conn : ℕ) (m : Message) → CanSend (view g e h) conn m → SaysInTurn g e h conn m
can-may g e h conn (message.Hello version space digest) a = a.0
can-may g e h conn (message.Call number object method fuel arguments) a = absurd a
can-may g e h conn (message.Lookup number name) a = absurd a
can-may g e h conn (message.Ack number) a = a.0
can-may g e h conn (message.Dirty sequence period objects) a = a.0.0
can-may g e h conn (message.Clean sequence strong objects) a = a.0.0
can-may g e h conn (message.Returned number fuel value) a = a.0.0
can-may g e h conn (message.Threw number class) a = a.0.0
can-may g e h conn (message.Spent number) a = a.0.0
can-may g e h conn (message.Lease sequence period) a = a.0
can-may g e h conn (message.Cleaned sequence) a = a.0

asks-by : (g : Setting) (e : Event) (h : List Event) (conn : ℕ) (m : Message) → IsCall m → HasCome (e ∷ h) conn → SaysInTurn g e h conn m
asks-by g e h conn (message.Call number object method fuel arguments) a there = there
asks-by g e h conn (message.Hello version space digest) a there = absurd a
asks-by g e h conn (message.Returned number fuel value) a there = absurd a
asks-by g e h conn (message.Threw number class) a there = absurd a
asks-by g e h conn (message.Spent number) a there = absurd a
asks-by g e h conn (message.Ack number) a there = absurd a
asks-by g e h conn (message.Dirty sequence period objects) a there = absurd a
asks-by g e h conn (message.Lease sequence period) a there = absurd a
asks-by g e h conn (message.Clean sequence strong objects) a there = absurd a
asks-by g e h conn (message.Cleaned sequence) a there = absurd a
asks-by g e h conn (message.Lookup number name) a there = absurd a

-- what is owed changes
owes : {g : Setting} {h : List Event} {l m : List Owed} {s : EventParts} → AllOf (OwedGoes h) m → InTurn g h l s → InTurn g h m s
owes a k = record { rows = k.rows; frames = k.frames; tasks = k.tasks; requests = k.requests; fresh = k.fresh; owed = a; notes = k.notes }

notes-more : {g : Setting} {h : List Event} {l : List Owed} (s : State) (n : Note) → Noted g h n → InTurn g h l (event_parts s) → InTurn g h l (event_parts (record s { notes = s.notes ++ n ∷ [] }))
notes-more {g} {h} s n a k = record { rows = k.rows; frames = k.frames; tasks = k.tasks; requests = k.requests; fresh = k.fresh; owed = k.owed; notes = all-more (Noted g h) s.notes n k.notes a }

requests-are : {g : Setting} {h : List Event} {l : List Owed} (s : State) (rs : List Request) → AllOf (λ (q : Request). AsksByCall q.asked) rs → InTurn g h l (event_parts s) → InTurn g h l (event_parts (record s { requests = rs }))
requests-are s rs a k = record { rows = k.rows; frames = k.frames; tasks = k.tasks; requests = a; fresh = k.fresh; owed = k.owed; notes = k.notes }

tasks-are : {g : Setting} {h : List Event} {l : List Owed} (s : State) (ts : List Living) → AllOf (λ (t : Living). HeardFrom h t.origin) ts → InTurn g h l (event_parts s) → InTurn g h l (event_parts (record s { tasks = ts }))
tasks-are s ts a k = record { rows = k.rows; frames = k.frames; tasks = a; requests = k.requests; fresh = k.fresh; owed = k.owed; notes = k.notes }

frames-are : {g : Setting} {h : List Event} {l : List Owed} (s : State) (ps : List ParkedFrame) → AllOf (Frames-in h) ps → InTurn g h l (event_parts s) → InTurn g h l (event_parts (record s { parked = ps }))
frames-are s ps a k = record { rows = k.rows; frames = a; tasks = k.tasks; requests = k.requests; fresh = k.fresh; owed = k.owed; notes = k.notes }

rows-are : {g : Setting} {h : List Event} {l : List Owed} (s : State) (cs : List Connection) → AllOf (Row h) cs → InTurn g h l (event_parts s) → InTurn g h l (event_parts (record s { connections = cs }))
rows-are s cs a k = record { rows = a; frames = k.frames; tasks = k.tasks; requests = k.requests; fresh = k.fresh; owed = k.owed; notes = k.notes }

set-rows : (h : List Event) (conn : ℕ) (f : Connection → Connection) → ((c : Connection) → (c.number == conn) ≡ true → Row h c → Row h (f c)) → (cs : List Connection) → AllOf (Row h) cs → AllOf (Row h) (at_first (λ (c : Connection). c.number == conn) f cs)
set-rows h conn f keeps [] a = tt
set-rows h conn f keeps (c ∷ cs) a = by (c.number == conn) refl (set-rows h conn f keeps cs a.1)
  where
    by : (b : Bool) → (c.number == conn) ≡ b → AllOf (Row h) (at_first (λ (x : Connection). x.number == conn) f cs) → AllOf (Row h) (if b then f c ∷ cs else c ∷ at_first (λ (x : Connection). x.number == conn) f cs)
    by true e rest = (keeps c e a.0, a.1)
    by false e rest = (a.0, rest)

set-tasks : (h : List Event) (id : ℕ) (f : Living → Living) → ((t : Living) → (f t).origin ≡ t.origin) → (ts : List Living) → AllOf (λ (t : Living). HeardFrom h t.origin) ts → AllOf (λ (t : Living). HeardFrom h t.origin) (at_first (λ (t : Living). t.id == id) f ts)
set-tasks h id f origin ts a = all-first (λ (t : Living). HeardFrom h t.origin) (λ (t : Living). t.id == id) f ts (λ t k. subst (HeardFrom h) (sym (origin t)) k) a

from-owed : (h : List Event) (o : Origin) (l : List Owed) → AllOf (OwedGoes h) (of_origin o ++ l) → HeardFrom h o × AllOf (OwedGoes h) l
from-owed h OfRoot l a = (tt, a)
from-owed h (OfCall conn number) l a = (a.0, a.1)

to-owed : (h : List Event) (o : Origin) (l : List Owed) → HeardFrom h o → AllOf (OwedGoes h) l → AllOf (OwedGoes h) (of_origin o ++ l)
to-owed h OfRoot l c a = a
to-owed h (OfCall conn number) l c a = (c, a)

until-owed : (h : List Event) (u : Until) (l : List Owed) → AllOf (OwedGoes h) (of_until u ++ l) → AllOf (OwedGoes h) l
until-owed h (RootAcked task) l a = a
until-owed h (Acked conn number) l a = a.1
until-owed h (Passed moment) l a = a

pub turn_flow : (g : Setting) (e : Event) (h : List Event) → Flows (view g e h)
turn_flow g e h = record {
  known = λ l s k. k.frames;
  dialled = λ l s k. all-weaken (Row (e ∷ h)) (λ (c : Connection). is_some c.peer ≡ true → Heard (e ∷ h) c.number (is_some c.dialled)) s.connections (λ c a some. (a.1 some, a.0)) k.rows;
  origins = λ l s k. all-weaken (λ (t : Living). HeardFrom (e ∷ h) t.origin) (λ (t : Living). IsFrom (view g e h) t.origin) s.tasks (λ t a. from-is g e h t.origin a) k.tasks;
  sided = λ p a. a;
  fails = λ asked class a. tt;
  starts = λ l s p target method fuel arguments o n going k known is stands finds. tt;
  gives = λ p value fuel asked is a b c. tt;
  refuses = λ c n class is. tt;
  finds = λ c n name r is own. tt;
  speaks = λ l s conn version is k. said-version g e h s conn version is;
  fits = λ l s conn ids few k. tt;
  quiet = λ l s t eq k. subst (InTurn g (e ∷ h) l) (sym (ap (λ (p : FrameParts). p.parts) eq)) k;
  says = λ l s output is so k. notes-more s (Says output) (said g e h output is) k;
  sends = λ l s turn c m may there held k. notes-more s (Sends turn c m) (can-may g e h c m may) k;
  clears = λ s k. record { rows = k.rows; frames = k.frames; tasks = k.tasks; requests = k.requests; fresh = k.fresh; owed = k.owed; notes = tt };
  stores = λ l s store is k. record { rows = k.rows; frames = k.frames; tasks = k.tasks; requests = k.requests; fresh = k.fresh; owed = k.owed; notes = k.notes };
  adds = λ l s q k. owes k.owed.1 (requests-are s _ (all-more (λ (p : Request). AsksByCall p.asked) s.requests q k.requests k.owed.0) k);
  calls_out = λ l s turn c peer number task lent kind m there opened k. notes-more (record s { requests = s.requests ++ record { peer = peer; asked = Calls number task lent kind m; stage = Rattle.sp_rules.specs.State.Out c 0 } ∷ [] }) (Sends turn c m) (asks-by g e h c m k.owed.0 there.0)
      (owes k.owed.1 (requests-are s _ (all-more (λ (p : Request). AsksByCall p.asked) s.requests (record { peer = peer; asked = Calls number task lent kind m; stage = Rattle.sp_rules.specs.State.Out c 0 }) k.requests k.owed.0) k));
  looks_out = λ l s turn c peer number task name there opened k. notes-more (record s { requests = s.requests ++ record { peer = peer; asked = LooksUp number task name; stage = Rattle.sp_rules.specs.State.Out c 0 } ∷ [] }) (Sends turn c (message.Lookup number name)) there.0
      (owes k.owed.1 (requests-are s _ (all-more (λ (p : Request). AsksByCall p.asked) s.requests (record { peer = peer; asked = LooksUp number task name; stage = Rattle.sp_rules.specs.State.Out c 0 }) k.requests tt) k));
  tells = λ l s q call group eq k. requests-are s _ (all-more (λ (p : Request). AsksByCall p.asked) s.requests q k.requests (subst AsksByCall (sym eq) tt)) k;
  told = λ l s peer call group k. owes k.owed.1 k;
  unfresh = λ l s k. record { rows = k.rows; frames = k.frames; tasks = k.tasks; requests = k.requests; fresh = tt; owed = all-removed (e ∷ h) s.fresh l k.fresh k.owed; notes = k.notes };
  removes = λ l s is k. owes (all-removed (e ∷ h) (filter is s.requests) l (all-filter (λ (p : Request). AsksByCall p.asked) is s.requests k.requests) k.owed) (requests-are s _ (all-filter (λ (p : Request). AsksByCall p.asked) (λ q. not (is q)) s.requests k.requests) k);
  sorts = λ l s is rs k.
      let x = of-removed (e ∷ h) rs l k.owed in
      owes (all-removed (e ∷ h) (filter (λ q. not (is q)) rs) (removed (filter is rs) ++ l) (all-filter (λ (p : Request). AsksByCall p.asked) (λ q. not (is q)) rs x.0)
      (all-removed (e ∷ h) (filter is rs) l (all-filter (λ (p : Request). AsksByCall p.asked) is rs x.0) x.1)) k;
  removes_one = λ l s finds is n q eq passes has k. owes (all-found (λ (p : Request). AsksByCall p.asked) finds s.requests q eq k.requests, k.owed) (requests-are s _ (all-filter (λ (p : Request). AsksByCall p.asked) (λ p. not (is p)) s.requests k.requests) k);
  removes_told = λ l s dirty c sequence k. requests-are s _ (all-filter (λ (p : Request). AsksByCall p.asked) (λ q. not (Frames.tells_on dirty c sequence q)) s.requests k.requests) k;
  answers = λ l s c n k. requests-are s _ (all-map (λ (p : Request). AsksByCall p.asked) (λ (p : Request). AsksByCall p.asked) (Frames.answered_on c n) s.requests (λ q a. answered c n q a (ParkedFrames.is_call_on c n q)) k.requests) k;
  begins = λ l s origin method arguments fuel going at k.
      let x = from-owed (e ∷ h) origin l k.owed in
      record { rows = k.rows; frames = k.frames; tasks = all-more (λ (t : Living). HeardFrom (e ∷ h) t.origin) s.tasks _ k.tasks x.0; requests = k.requests; fresh = k.fresh; owed = x.1; notes = k.notes };
  ends = λ l s id t over is k. owes (to-owed (e ∷ h) t.origin l (all-found (λ (u : Living). HeardFrom (e ∷ h) u.origin) (λ (u : Living). u.id == id) s.tasks t (Rattle.sp_rules.proofs.ReadyLemmas.ready-is (Rattle.sp_rules.specs.State.task_at s id) t is).0 k.tasks) k.owed)
      (tasks-are s _ (all-filter (λ (u : Living). HeardFrom (e ∷ h) u.origin) (λ (u : Living). not (u.id == id)) s.tasks k.tasks) k);
  replies = λ l s peer number task lent kind m reply t may is k. owes k.owed.1 (tasks-are s _ (set-tasks (e ∷ h) task (LivingTasks.after_reply g reply) (λ u. refl) s.tasks k.tasks) k);
  replies_none = λ l s peer number task lent kind m is k. owes k.owed.1 k;
  looked_up = λ l s peer number task name reply may k. notes-more s (Says (Ended task (LivingTasks.outcome_of reply))) tt (owes k.owed.1 k);
  works = λ l s id t f lent row ready is k. tasks-are s _ (set-tasks (e ∷ h) id f row.origin s.tasks k.tasks) k;
  keeps = λ l s until value k. owes (until-owed (e ∷ h) until l k.owed) (record { rows = k.rows; frames = k.frames; tasks = k.tasks; requests = k.requests; fresh = k.fresh; owed = k.owed; notes = k.notes });
  results_go = λ l s is goes k. record { rows = k.rows; frames = k.frames; tasks = k.tasks; requests = k.requests; fresh = k.fresh; owed = k.owed; notes = k.notes };
  falls = λ l s c n k. owes k.owed.1 k;
  sent = λ l s c m k. rows-are s _ (set-rows (e ∷ h) c (λ (d : Connection). record d { sent = m ∷ d.sent }) (λ d is a. a) s.connections k.rows) k;
  versions = λ l s c version speaks k. rows-are s _ (set-rows (e ∷ h) c (λ (d : Connection). record d { version = version }) (λ d is a. a) s.connections k.rows) k;
  notes_peer = λ l s conn c peer space digest same is higher k. k;
  counts = λ l s c n d there is low k. owes (there, k.owed) (rows-are s _ (set-rows (e ∷ h) c (λ (d : Connection). record d { last = n }) (λ d same a. a) s.connections k.rows) k);
  parks_call = λ l s p going known is k. owes k.owed.1 (frames-are s _ (all-more (Frames-in (e ∷ h)) s.parked p k.frames known) k);
  parks_result = λ l s p known is k. frames-are s _ (all-more (Frames-in (e ∷ h)) s.parked p k.frames known) k;
  takes = λ l s p k. frames-are s _ (all-filter (Frames-in (e ∷ h)) (λ q. not (ParkedFrames.is_parked_at p.conn p.number q)) s.parked k.frames) k;
  takes_call = λ l s p q is call k.
      let a : Frames-in (e ∷ h) q = all-found (Frames-in (e ∷ h)) (ParkedFrames.is_parked_at p.conn p.number) s.parked q is k.frames in
      owes (subst (λ b. Heard (e ∷ h) q.conn (not b)) call a, k.owed) (frames-are s _ (all-filter (Frames-in (e ∷ h)) (λ x. not (ParkedFrames.is_parked_at p.conn p.number x)) s.parked k.frames) k);
  closes = λ l s c d is why k. record { rows = all-filter (Row (e ∷ h)) (λ (x : Connection). not (x.number == c)) s.connections k.rows; frames = k.frames; tasks = k.tasks; requests = k.requests; fresh = k.fresh; owed = k.owed; notes = k.notes };
}
  where
    answered : (c n : ℕ) (q : Request) → AsksByCall q.asked → (b : Bool) → AsksByCall (Rattle.std.specs.Prelude.if◌then◌else◌ {A = Request} b (record q { stage = Rattle.sp_rules.specs.State.Answered c }) q).asked
    answered c n q a true = a
    answered c n q a false = a

pub turn-begin : (g : Setting) (s : State) (e : Event) (h : List Event) → Begins (view g e h) s
turn-begin g s e h = record {
  opens = λ c dialled is k. rows-are s _ (all-more (Row (e ∷ h)) s.connections (record { number = c; dialled = dialled; peer = None; version = 1; last = 0; sent = [] }) k.rows (subst (λ d. HasOpened (d ∷ h) c (is_some dialled)) (sym is) (opens-now h c dialled), λ p. absurd (true≢false (sym p)))) k;
  parks = λ id n t target method arguments is ready stands k. record { rows = k.rows; frames = k.frames; tasks = set-tasks (e ∷ h) id (LivingTasks.waiting n) (λ u. refl) s.tasks k.tasks; requests = k.requests; fresh = (tt, tt); owed = k.owed; notes = k.notes };
  looks = λ peer name is k. record { rows = k.rows; frames = k.frames; tasks = k.tasks; requests = k.requests; fresh = (tt, tt); owed = k.owed; notes = k.notes };
  greets = λ c version space digest is row none same who k. (
    rows-are s _ (set-rows (e ∷ h) c.number (λ (d : Connection). record d { peer = Some space }) (λ d at a. (a.0, λ p. subst (HasCome (e ∷ h)) (sym (eqb-true d.number c.number at)) (comes c.number (message.Hello version space digest) is))) s.connections k.rows) k,
    (comes c.number (message.Hello version space digest) is, (all-found (Row (e ∷ h)) (λ (d : Connection). d.number == c.number) s.connections c row k.rows).0),
  );
  roots = λ method arguments fuel is. tt;
  unmarshal = λ is. tt;
  connect = λ is. tt;
  marshal = λ is. tt;
  threw = λ c n class is q found has. tt;
  spent = λ c n is q found has. tt;
  finished = λ id k t outcome c n is ready stands origin. tt;
  call_came = λ p target o method passed arguments is there stands may fit names. subst (λ f. Heard (e ∷ h) p.conn (not (Frames.is_call_frame f))) (sym is) there;
  result_came = λ p value fuel is frame there q found fits names. subst (λ f. Heard (e ∷ h) p.conn (not (Frames.is_call_frame f))) (sym frame) there;
}
  where
    comes : (conn : ℕ) (m : Message) → e ≡ Received conn m → HasCome (e ∷ h) conn
    comes conn m is = subst (λ d. HasCome (d ∷ h) conn) (sym is) (or-left (conn == conn) (has_come conn h) (eq-eqb conn conn refl))

-- ---- histories grow

later : (e : Event) (h : List Event) (conn : ℕ) → HasCome h conn → HasCome (e ∷ h) conn
later e h conn o = or-right (brings_on conn e) (has_come conn h) o

later-way : (e : Event) (h : List Event) (conn : ℕ) (end : Bool) → HasOpened h conn end → HasOpened (e ∷ h) conn end
later-way e h conn end o = or-right (opens_end conn end e) (was_opened h conn end) o

later-heard : (e : Event) (h : List Event) (conn : ℕ) (end : Bool) → Heard h conn end → Heard (e ∷ h) conn end
later-heard e h conn end a = (later e h conn a.0, later-way e h conn end a.1)

later-from : (e : Event) (h : List Event) (o : Origin) → HeardFrom h o → HeardFrom (e ∷ h) o
later-from e h OfRoot a = tt
later-from e h (OfCall conn number) a = later-heard e h conn false a

-- Between events nothing is owed, and nothing is noted.
abbrev pub Between : Setting → List Event → State → Type 0
Between g h s = InTurn g h [] (event_parts s)

pub wider : (g : Setting) (e : Event) (h : List Event) (s : State) → s.notes ≡ [] → Between g h s → Between g (e ∷ h) s
wider g e h s none k = record {
  rows = all-weaken (Row h) (Row (e ∷ h)) s.connections (λ c a. (later-way e h c.number (is_some c.dialled) a.0, λ p. later e h c.number (a.1 p))) k.rows;
  frames = all-weaken (Frames-in h) (Frames-in (e ∷ h)) s.parked (λ p a. later-heard e h p.conn (not (Frames.is_call_frame p.frame)) a) k.frames;
  tasks = all-weaken (λ (t : Living). HeardFrom h t.origin) (λ (t : Living). HeardFrom (e ∷ h) t.origin) s.tasks (λ t a. later-from e h t.origin a) k.tasks;
  requests = k.requests;
  fresh = k.fresh;
  owed = tt;
  notes = subst (λ ns. AllOf (Noted g (e ∷ h)) ns) (sym none) tt;
}

answered : (g : Setting) (e : Event) (h : List Event) (s : State) → s.notes ≡ [] → Between g h s → AllOf (AnswersInTurn g e h) (Space.on g e s).1
unfolding Space.on in_order
answered g e h s none k = by (Space.answers_outputs e)
  where
    by : (b : Bool) → AllOf (AnswersInTurn g e h) (Space.finish_event b (Space.happen g e s)).1
    by true = ranks-all (AnswersInTurn g e h) ranks (Requests.settle (Space.happen g e s)).notes (happen_settles (turn_flow g e h) s (turn-begin g s e h) (wider g e h s none k)).notes
    by false = tt

new-space : (g : Setting) → Between g [] opening
unfolding opening
new-space g = record { rows = tt; frames = tt; tasks = tt; requests = tt; fresh = tt; owed = tt; notes = tt }

pub turns-of : (g : Setting) (h : List Event) → Between g h (Space.state_of g h)
unfolding Space.state_of
turns-of g [] = new-space g
turns-of g (e ∷ h) = on_flow (turn_flow g e h) (Space.state_of g h) (turn-begin g (Space.state_of g h) e h) (wider g e h (Space.state_of g h) (nothing-noted g h) (turns-of g h))

pub hellos_are_said_first : HellosAreSaidFirst
unfolding Space.outputs_of
hellos_are_said_first g h e = answered g e h (Space.state_of g h) (nothing-noted g h) (turns-of g h)
