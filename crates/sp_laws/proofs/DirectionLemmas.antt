-- Frames go in one direction each, through every event.
use mathlib.Core.Path.{sym, ap, subst, ◌∙◌}
use Rattle.std.proofs.Common.{inl, inr}
use Rattle.std.proofs.lemmas.Bool.{true≢false, eq-eqb}
use Rattle.std.specs.Prelude.{◌≡◌, ◌⊎◌, refl, ℕ, ◌==◌, ◌&&◌, ◌||◌, not, is_some, is_none, Bool, true, false, List, [], ◌∷◌, ◌++◌, Option, None, Some, filter, find, map}
use Rattle.uuid.specs.declared.Uuid.{Uuid}
use Rattle.net_message.specs.declared.message.Message.TheVariants as message
use Rattle.net_message.specs.declared.message.Message.{Message}
use Rattle.sp_rules.specs.Classes.{Setting}
use Rattle.sp_rules.specs.Events.{Event, Opened, Output, Started, Ended, Withdrawn, Denied, Send, Dial, Close, Ready, Note, Says, Sends, output_of, in_order, ranks, Received, Finished}
use Rattle.sp_rules.specs.Behaviours.{Outcome}
use Rattle.space_ids.specs.declared.ids.ClassId.{ClassId}
use Rattle.space_ids.specs.declared.ids.Ref.{Ref}
use Rattle.sp_rules.specs.Tasks.{HasEnded, stand, steps}
use Rattle.sp_laws.specs.Answers.{IsRefusal}
use Rattle.space_ids.specs.declared.value.Value.TheVariants as values
use Rattle.sp_rules.specs.Frames
use Rattle.sp_rules.specs.Laws.{AllOf}
use Rattle.sp_rules.specs.Lists.{at_first}
use Rattle.sp_rules.specs.LivingTasks
use Rattle.sp_rules.specs.ParkedFrames
use Rattle.sp_rules.specs.Requests
use Rattle.sp_rules.specs.Space
use Rattle.sp_rules.specs.State.{State, Living, Origin, OfRoot, OfCall, Request, Asked, Calls, LooksUp, Tells, Connection, ParkedFrame, Until, Passed, Acked, RootAcked, opening, say, ready_at}
use Rattle.sp_rules.specs.Worlds.{Space, run, new_world}
use Rattle.sp_rules.proofs.AllLemmas.{or-left, or-right, all-weaken, all-append, all-more, all-filter, all-map, all-first, all-found, all-with, ranks-all}
use Rattle.sp_rules.proofs.WorldLemmas.{all_hold}
use Rattle.sp_laws.specs.Inbound.{opens, opened, OpensOnce}
use Rattle.sp_laws.specs.Others.{IsOpenedOnce}
use Rattle.sp_laws.proofs.FlowRules.{Owed, Removed, Inbound, removed, of_origin, of_until}
use Rattle.sp_laws.proofs.OnceRules.{connections_are_opened_once}
use Rattle.sp_laws.specs.Directions.{opens_end, was_opened, HasOpened, GoesItsWay, CameFromPeer, FramesGoTheirWay, HasDirections, SpacesHaveDirections}
use Rattle.sp_laws.specs.CallSent.{MaySend, is_send}
use Rattle.sp_laws.proofs.EventRules.{View, Flows, Begins, EventParts, event_parts, IsFrom, on_flow, happen_settles, CanSend}
use Rattle.sp_laws.proofs.FrameFlows.{AnswersHello}

-- ---- what is kept

-- the frame of a call is a Call
abbrev pub IsCall : Message → Type 0
IsCall (message.Call number object method fuel arguments) = Unit {0}
IsCall _ = ⊥

abbrev pub AsksByCall : Asked → Type 0
AsksByCall (Calls number task lent kind m) = IsCall m
AsksByCall (LooksUp number task name) = Unit {0}
AsksByCall (Tells call group) = Unit {0}

abbrev pub OwedGoes : List Event → Owed → Type 0
OwedGoes h (Removed peer asked) = AsksByCall asked
OwedGoes h (Inbound conn number) = HasOpened h conn false

abbrev pub Noted : List Event → Note → Type 0
Noted h n = GoesItsWay h (output_of n)

abbrev pub Row : List Event → Connection → Type 0
Row h c = HasOpened h c.number (is_some c.dialled)

abbrev pub Frames-in : List Event → ParkedFrame → Type 0
Frames-in h p = HasOpened h p.conn (not (Frames.is_call_frame p.frame))

pub record Directed (h : List Event) (l : List Owed) (s : EventParts) : Type 0 where
  pub rows : AllOf (Row h) s.connections
  pub frames : AllOf (Frames-in h) s.parked
  pub tasks : AllOf (λ (t : Living). CameFromPeer h t.origin) s.tasks
  pub requests : AllOf (λ (q : Request). AsksByCall q.asked) s.requests
  pub fresh : AllOf (λ (q : Request). AsksByCall q.asked) s.fresh
  pub owed : AllOf (OwedGoes h) l
  pub notes : AllOf (Noted h) s.notes

all-removed : (h : List Event) (rs : List Request) (l : List Owed) → AllOf (λ (q : Request). AsksByCall q.asked) rs → AllOf (OwedGoes h) l → AllOf (OwedGoes h) (removed rs ++ l)
all-removed h [] l a b = b
all-removed h (q ∷ rs) l a b = (a.0, all-removed h rs l a.1 b)

of-removed : (h : List Event) (rs : List Request) (l : List Owed) → AllOf (OwedGoes h) (removed rs ++ l) → AllOf (λ (q : Request). AsksByCall q.asked) rs × AllOf (OwedGoes h) l
of-removed h [] l a = (tt, a)
of-removed h (q ∷ rs) l a = let rest = of-removed h rs l a.1 in ((a.0, rest.0), rest.1)

-- ---- through the rules

abbrev pub view : Setting → Event → List Event → (ℕ → Message → Type 0) → View
view g e h Is = record {
  setting = g;
  event = e;
  Dialled = HasOpened (e ∷ h);
  Answers = Is;
  Known = Frames-in (e ∷ h);
  Fails = λ c. Unit {0};
  Ends = λ a r. Unit {0};
  Starts = λ o n a. Unit {0};
  Speaks = λ c version. Unit {0};
  Fits = λ c ids. Unit {0};
  Keeps = λ l s. Directed (e ∷ h) l (event_parts s);
}

said : (h : List Event) (output : Output) → is_send output ≡ false → GoesItsWay h output
said h (Started task) e = tt
said h (Ended task outcome) e = tt
said h (Withdrawn ids) e = tt
said h (Denied why) e = tt
said h (Send conn m) e = absurd (true≢false e)
said h (Dial peer) e = tt
said h (Close conn) e = tt
said h (Ready task) e = tt

from-is : (g : Setting) (e : Event) (h : List Event) (Is : ℕ → Message → Type 0) (o : Origin) → CameFromPeer (e ∷ h) o → IsFrom (view g e h Is) o
from-is g e h Is OfRoot a = tt
from-is g e h Is (OfCall conn number) a = a

-- an end that is opened was opened
pub opens-now : (h : List Event) (conn : ℕ) (dialled : Option Uuid) → HasOpened (Opened conn dialled ∷ h) conn (is_some dialled)
opens-now h conn None = or-left (conn == conn && true) _ (ap (λ b. b && true) (eq-eqb conn conn refl))
opens-now h conn (Some peer) = or-left (conn == conn && true) _ (ap (λ b. b && true) (eq-eqb conn conn refl))

-- what is known of a frame says its direction
can-may : (g : Setting) (e : Event) (h : List Event) (Is : ℕ → Message → Type 0) (conn : ℕ) (m : Message) → CanSend (view g e h Is) conn m → MaySend (HasOpened (e ∷ h)) conn m
can-may g e h Is conn (message.Hello version space digest) a = by a.1
  where
    says-hello : (dialled : Option Uuid) → e ≡ Opened conn dialled → HasOpened (e ∷ h) conn true ⊎ HasOpened (e ∷ h) conn false
    says-hello None is = inr (subst (λ d. HasOpened (d ∷ h) conn false) (sym is) (opens-now h conn None))
    says-hello (Some peer) is = inl (subst (λ d. HasOpened (d ∷ h) conn true) (sym is) (opens-now h conn (Some peer)))

    by : ((dialled : Option Uuid) × (e ≡ Opened conn dialled)) ⊎ AnswersHello g e (HasOpened (e ∷ h)) conn → HasOpened (e ∷ h) conn true ⊎ HasOpened (e ∷ h) conn false
    by (inr b) = inr b.way
    by (inl b) = says-hello b.0 b.1
can-may g e h Is conn (message.Call number object method fuel arguments) a = absurd a
can-may g e h Is conn (message.Lookup number name) a = absurd a
can-may g e h Is conn (message.Ack number) a = a
can-may g e h Is conn (message.Dirty sequence period objects) a = a.0
can-may g e h Is conn (message.Clean sequence strong objects) a = a.0
can-may g e h Is conn (message.Returned number fuel value) a = a.0
can-may g e h Is conn (message.Threw number class) a = a.0
can-may g e h Is conn (message.Spent number) a = a.0
can-may g e h Is conn (message.Lease sequence period) a = a
can-may g e h Is conn (message.Cleaned sequence) a = a

asks-by : (h : List Event) (conn : ℕ) (m : Message) → IsCall m → HasOpened h conn true → MaySend (HasOpened h) conn m
asks-by h conn (message.Call number object method fuel arguments) a there = there
asks-by h conn (message.Hello version space digest) a there = absurd a
asks-by h conn (message.Returned number fuel value) a there = absurd a
asks-by h conn (message.Threw number class) a there = absurd a
asks-by h conn (message.Spent number) a there = absurd a
asks-by h conn (message.Ack number) a there = absurd a
asks-by h conn (message.Dirty sequence period objects) a there = absurd a
asks-by h conn (message.Lease sequence period) a there = absurd a
asks-by h conn (message.Clean sequence strong objects) a there = absurd a
asks-by h conn (message.Cleaned sequence) a there = absurd a
asks-by h conn (message.Lookup number name) a there = absurd a

-- what is owed changes
owes : {h : List Event} {l m : List Owed} {s : EventParts} → AllOf (OwedGoes h) m → Directed h l s → Directed h m s
owes a k = record { rows = k.rows; frames = k.frames; tasks = k.tasks; requests = k.requests; fresh = k.fresh; owed = a; notes = k.notes }

notes-more : {h : List Event} {l : List Owed} (s : State) (n : Note) → Noted h n → Directed h l (event_parts s) → Directed h l (event_parts (record s { notes = s.notes ++ n ∷ [] }))
notes-more {h} s n a k = record { rows = k.rows; frames = k.frames; tasks = k.tasks; requests = k.requests; fresh = k.fresh; owed = k.owed; notes = all-more (Noted h) s.notes n k.notes a }

requests-are : {h : List Event} {l : List Owed} (s : State) (rs : List Request) → AllOf (λ (q : Request). AsksByCall q.asked) rs → Directed h l (event_parts s) → Directed h l (event_parts (record s { requests = rs }))
requests-are s rs a k = record { rows = k.rows; frames = k.frames; tasks = k.tasks; requests = a; fresh = k.fresh; owed = k.owed; notes = k.notes }

tasks-are : {h : List Event} {l : List Owed} (s : State) (ts : List Living) → AllOf (λ (t : Living). CameFromPeer h t.origin) ts → Directed h l (event_parts s) → Directed h l (event_parts (record s { tasks = ts }))
tasks-are s ts a k = record { rows = k.rows; frames = k.frames; tasks = a; requests = k.requests; fresh = k.fresh; owed = k.owed; notes = k.notes }

frames-are : {h : List Event} {l : List Owed} (s : State) (ps : List ParkedFrame) → AllOf (Frames-in h) ps → Directed h l (event_parts s) → Directed h l (event_parts (record s { parked = ps }))
frames-are s ps a k = record { rows = k.rows; frames = a; tasks = k.tasks; requests = k.requests; fresh = k.fresh; owed = k.owed; notes = k.notes }

rows-are : {h : List Event} {l : List Owed} (s : State) (cs : List Connection) → AllOf (Row h) cs → Directed h l (event_parts s) → Directed h l (event_parts (record s { connections = cs }))
rows-are s cs a k = record { rows = a; frames = k.frames; tasks = k.tasks; requests = k.requests; fresh = k.fresh; owed = k.owed; notes = k.notes }

set-rows : (h : List Event) (conn : ℕ) (f : Connection → Connection) → ((c : Connection) → (f c).number ≡ c.number) → ((c : Connection) → (f c).dialled ≡ c.dialled) → (cs : List Connection) → AllOf (Row h) cs → AllOf (Row h) (at_first (λ (c : Connection). c.number == conn) f cs)
set-rows h conn f num dialled cs a = all-first (Row h) (λ (c : Connection). c.number == conn) f cs (λ c k. subst (λ d. HasOpened h (f c).number (is_some d)) (sym (dialled c)) (subst (λ n. HasOpened h n (is_some c.dialled)) (sym (num c)) k)) a

set-tasks : (h : List Event) (id : ℕ) (f : Living → Living) → ((t : Living) → (f t).origin ≡ t.origin) → (ts : List Living) → AllOf (λ (t : Living). CameFromPeer h t.origin) ts → AllOf (λ (t : Living). CameFromPeer h t.origin) (at_first (λ (t : Living). t.id == id) f ts)
set-tasks h id f origin ts a = all-first (λ (t : Living). CameFromPeer h t.origin) (λ (t : Living). t.id == id) f ts (λ t k. subst (CameFromPeer h) (sym (origin t)) k) a

from-owed : (h : List Event) (o : Origin) (l : List Owed) → AllOf (OwedGoes h) (of_origin o ++ l) → CameFromPeer h o × AllOf (OwedGoes h) l
from-owed h OfRoot l a = (tt, a)
from-owed h (OfCall conn number) l a = (a.0, a.1)

to-owed : (h : List Event) (o : Origin) (l : List Owed) → CameFromPeer h o → AllOf (OwedGoes h) l → AllOf (OwedGoes h) (of_origin o ++ l)
to-owed h OfRoot l c a = a
to-owed h (OfCall conn number) l c a = (c, a)

until-owed : (h : List Event) (u : Until) (l : List Owed) → AllOf (OwedGoes h) (of_until u ++ l) → AllOf (OwedGoes h) l
until-owed h (RootAcked task) l a = a
until-owed h (Acked conn number) l a = a.1
until-owed h (Passed moment) l a = a

pub directed_flow : (g : Setting) (e : Event) (h : List Event) (Is : ℕ → Message → Type 0) → ((conn number : ℕ) (class : ClassId) → IsRefusal g e conn number class → Is conn (message.Threw number class))
    → ((conn number : ℕ) (name : List ℕ) (r : Ref) → e ≡ Received conn (message.Lookup number name) → r.space ≡ g.id → Is conn (message.Returned number 0 (Some (values.Ref r)))) → Flows (view g e h Is)
directed_flow g e h Is refuses finds = record {
  known = λ l s k. k.frames;
  dialled = λ l s k. k.rows;
  origins = λ l s k. all-weaken (λ (t : Living). CameFromPeer (e ∷ h) t.origin) (λ (t : Living). IsFrom (view g e h Is) t.origin) s.tasks (λ t a. from-is g e h Is t.origin a) k.tasks;
  sided = λ p a. a;
  fails = λ asked class a. tt;
  starts = λ l s p target method fuel arguments o n going k known is stands finds. tt;
  gives = λ p value fuel asked is a b c. tt;
  refuses = refuses;
  finds = finds;
  speaks = λ c version. tt;
  fits = λ c ids. tt;
  quiet = λ l s t eq k. subst (Directed (e ∷ h) l) (sym eq) k;
  says = λ l s output is so k. notes-more s (Says output) (said (e ∷ h) output is) k;
  sends = λ l s turn c m may held k. notes-more s (Sends turn c m) (can-may g e h Is c m may) k;
  clears = λ s k. record { rows = k.rows; frames = k.frames; tasks = k.tasks; requests = k.requests; fresh = k.fresh; owed = k.owed; notes = tt };
  stores = λ l s store is k. record { rows = k.rows; frames = k.frames; tasks = k.tasks; requests = k.requests; fresh = k.fresh; owed = k.owed; notes = k.notes };
  adds = λ l s q k. owes k.owed.1 (requests-are s _ (all-more (λ (p : Request). AsksByCall p.asked) s.requests q k.requests k.owed.0) k);
  calls_out = λ l s turn c peer number task lent kind m there k. notes-more (record s { requests = s.requests ++ record { peer = peer; asked = Calls number task lent kind m; stage = Rattle.sp_rules.specs.State.Out c 0 } ∷ [] }) (Sends turn c m) (asks-by (e ∷ h) c m k.owed.0 there)
      (owes k.owed.1 (requests-are s _ (all-more (λ (p : Request). AsksByCall p.asked) s.requests (record { peer = peer; asked = Calls number task lent kind m; stage = Rattle.sp_rules.specs.State.Out c 0 }) k.requests k.owed.0) k));
  looks_out = λ l s turn c peer number task name there k. notes-more (record s { requests = s.requests ++ record { peer = peer; asked = LooksUp number task name; stage = Rattle.sp_rules.specs.State.Out c 0 } ∷ [] }) (Sends turn c (message.Lookup number name)) there
      (owes k.owed.1 (requests-are s _ (all-more (λ (p : Request). AsksByCall p.asked) s.requests (record { peer = peer; asked = LooksUp number task name; stage = Rattle.sp_rules.specs.State.Out c 0 }) k.requests tt) k));
  tells = λ l s q call group eq k. requests-are s _ (all-more (λ (p : Request). AsksByCall p.asked) s.requests q k.requests (subst AsksByCall (sym eq) tt)) k;
  told = λ l s peer call group k. owes k.owed.1 k;
  unfresh = λ l s k. record { rows = k.rows; frames = k.frames; tasks = k.tasks; requests = k.requests; fresh = tt; owed = all-removed (e ∷ h) s.fresh l k.fresh k.owed; notes = k.notes };
  removes = λ l s is k. owes (all-removed (e ∷ h) (filter is s.requests) l (all-filter (λ (p : Request). AsksByCall p.asked) is s.requests k.requests) k.owed) (requests-are s _ (all-filter (λ (p : Request). AsksByCall p.asked) (λ q. not (is q)) s.requests k.requests) k);
  sorts = λ l s is rs k.
      let x = of-removed (e ∷ h) rs l k.owed in
      owes (all-removed (e ∷ h) (filter (λ q. not (is q)) rs) (removed (filter is rs) ++ l) (all-filter (λ (p : Request). AsksByCall p.asked) (λ q. not (is q)) rs x.0)
      (all-removed (e ∷ h) (filter is rs) l (all-filter (λ (p : Request). AsksByCall p.asked) is rs x.0) x.1)) k;
  removes_one = λ l s finds is n q eq passes has k. owes (all-found (λ (p : Request). AsksByCall p.asked) finds s.requests q eq k.requests, k.owed) (requests-are s _ (all-filter (λ (p : Request). AsksByCall p.asked) (λ p. not (is p)) s.requests k.requests) k);
  removes_told = λ l s dirty c sequence k. requests-are s _ (all-filter (λ (p : Request). AsksByCall p.asked) (λ q. not (Frames.tells_on dirty c sequence q)) s.requests k.requests) k;
  answers = λ l s c n k. requests-are s _ (all-map (λ (p : Request). AsksByCall p.asked) (λ (p : Request). AsksByCall p.asked) (Frames.answered_on c n) s.requests (λ q a. answered c n q a (ParkedFrames.is_call_on c n q)) k.requests) k;
  begins = λ l s origin method arguments fuel going at k.
      let x = from-owed (e ∷ h) origin l k.owed in
      record { rows = k.rows; frames = k.frames; tasks = all-more (λ (t : Living). CameFromPeer (e ∷ h) t.origin) s.tasks _ k.tasks x.0; requests = k.requests; fresh = k.fresh; owed = x.1; notes = k.notes };
  ends = λ l s id t over is k. owes (to-owed (e ∷ h) t.origin l (all-found (λ (u : Living). CameFromPeer (e ∷ h) u.origin) (λ (u : Living). u.id == id) s.tasks t (Rattle.sp_rules.proofs.ReadyLemmas.ready-is (Rattle.sp_rules.specs.State.task_at s id) t is).0 k.tasks) k.owed)
      (tasks-are s _ (all-filter (λ (u : Living). CameFromPeer (e ∷ h) u.origin) (λ (u : Living). not (u.id == id)) s.tasks k.tasks) k);
  replies = λ l s peer number task lent kind m reply t may is k. owes k.owed.1 (tasks-are s _ (set-tasks (e ∷ h) task (LivingTasks.after_reply g reply) (λ u. refl) s.tasks k.tasks) k);
  replies_none = λ l s peer number task lent kind m is k. owes k.owed.1 k;
  looked_up = λ l s peer number task name reply may k. notes-more s (Says (Ended task (LivingTasks.outcome_of reply))) tt (owes k.owed.1 k);
  works = λ l s id t f lent row ready is k. tasks-are s _ (set-tasks (e ∷ h) id f row.origin s.tasks k.tasks) k;
  keeps = λ l s until value k. owes (until-owed (e ∷ h) until l k.owed) (record { rows = k.rows; frames = k.frames; tasks = k.tasks; requests = k.requests; fresh = k.fresh; owed = k.owed; notes = k.notes });
  results_go = λ l s is goes k. record { rows = k.rows; frames = k.frames; tasks = k.tasks; requests = k.requests; fresh = k.fresh; owed = k.owed; notes = k.notes };
  falls = λ l s c n k. owes k.owed.1 k;
  row = λ l s c f num last dialled k. rows-are s _ (set-rows (e ∷ h) c f num dialled s.connections k.rows) k;
  counts = λ l s c n d there is low k. owes (there, k.owed) (rows-are s _ (set-rows (e ∷ h) c (λ (d : Connection). record d { last = n }) (λ d. refl) (λ d. refl) s.connections k.rows) k);
  parks_call = λ l s p going known is k. owes k.owed.1 (frames-are s _ (all-more (Frames-in (e ∷ h)) s.parked p k.frames known) k);
  parks_result = λ l s p known is k. frames-are s _ (all-more (Frames-in (e ∷ h)) s.parked p k.frames known) k;
  takes = λ l s p k. frames-are s _ (all-filter (Frames-in (e ∷ h)) (λ q. not (ParkedFrames.is_parked_at p.conn p.number q)) s.parked k.frames) k;
  takes_call = λ l s p q is call k.
      let a : Frames-in (e ∷ h) q = all-found (Frames-in (e ∷ h)) (ParkedFrames.is_parked_at p.conn p.number) s.parked q is k.frames in
      owes (subst (λ b. HasOpened (e ∷ h) q.conn (not b)) call a, k.owed) (frames-are s _ (all-filter (Frames-in (e ∷ h)) (λ x. not (ParkedFrames.is_parked_at p.conn p.number x)) s.parked k.frames) k);
  closes = λ l s c why k. record { rows = all-filter (Row (e ∷ h)) (λ (d : Connection). not (d.number == c)) s.connections k.rows; frames = k.frames; tasks = k.tasks; requests = k.requests; fresh = k.fresh; owed = k.owed; notes = k.notes };
}
  where
    answered : (c n : ℕ) (q : Request) → AsksByCall q.asked → (b : Bool) → AsksByCall (Rattle.std.specs.Prelude.if◌then◌else◌ {A = Request} b (record q { stage = Rattle.sp_rules.specs.State.Answered c }) q).asked
    answered c n q a true = a
    answered c n q a false = a

-- what is known of the answer to a task that the event ends
abbrev pub Finishes : Setting → State → Event → (ℕ → Message → Type 0) → Type 0
Finishes g s e Is = (id k : ℕ) (t : Living) (outcome : Outcome) (conn number : ℕ) → e ≡ Finished id k → ready_at s id ≡ Some t → stand (steps k t.task) ≡ HasEnded outcome → t.origin ≡ OfCall conn number → Is conn (LivingTasks.reply_frame g number (steps k t.task).fuel outcome)

pub directed-begin : (g : Setting) (s : State) (e : Event) (h : List Event) (Is : ℕ → Message → Type 0) → Finishes g s e Is → Begins (view g e h Is) s
directed-begin g s e h Is finished = record {
  opens = λ c dialled is k. rows-are s _ (all-more (Row (e ∷ h)) s.connections (record { number = c; dialled = dialled; peer = None; version = 1; last = 0; sent = [] }) k.rows (subst (λ d. HasOpened (d ∷ h) c (is_some dialled)) (sym is) (opens-now h c dialled))) k;
  parks = λ id n t target method arguments is ready stands k. record { rows = k.rows; frames = k.frames; tasks = set-tasks (e ∷ h) id (LivingTasks.waiting n) (λ u. refl) s.tasks k.tasks; requests = k.requests; fresh = (tt, tt); owed = k.owed; notes = k.notes };
  looks = λ peer name is k. record { rows = k.rows; frames = k.frames; tasks = k.tasks; requests = k.requests; fresh = (tt, tt); owed = k.owed; notes = k.notes };
  roots = λ method arguments fuel is. tt;
  unmarshal = λ is. tt;
  connect = λ is. tt;
  marshal = λ is. tt;
  threw = λ c n class is q found has. tt;
  spent = λ c n is q found has. tt;
  finished = finished;
  call_came = λ p target o method passed arguments is there stands may fit names. subst (λ f. HasOpened (e ∷ h) p.conn (not (Frames.is_call_frame f))) (sym is) there;
  result_came = λ p value fuel is frame there q found fits names. subst (λ f. HasOpened (e ∷ h) p.conn (not (Frames.is_call_frame f))) (sym frame) there;
}

-- ---- histories grow

later : (e : Event) (h : List Event) (conn : ℕ) (end : Bool) → HasOpened h conn end → HasOpened (e ∷ h) conn end
later e h conn end o = or-right (opens_end conn end e) (was_opened h conn end) o

later-sends : (e : Event) (h : List Event) (conn : ℕ) (m : Message) → MaySend (HasOpened h) conn m → MaySend (HasOpened (e ∷ h)) conn m
later-sends e h conn (message.Hello version space digest) (inl a) = inl (later e h conn true a)
later-sends e h conn (message.Hello version space digest) (inr a) = inr (later e h conn false a)
later-sends e h conn (message.Call number object method fuel arguments) a = later e h conn true a
later-sends e h conn (message.Lookup number name) a = later e h conn true a
later-sends e h conn (message.Ack number) a = later e h conn true a
later-sends e h conn (message.Dirty sequence period objects) a = later e h conn true a
later-sends e h conn (message.Clean sequence strong objects) a = later e h conn true a
later-sends e h conn (message.Returned number fuel value) a = later e h conn false a
later-sends e h conn (message.Threw number class) a = later e h conn false a
later-sends e h conn (message.Spent number) a = later e h conn false a
later-sends e h conn (message.Lease sequence period) a = later e h conn false a
later-sends e h conn (message.Cleaned sequence) a = later e h conn false a

later-goes : (e : Event) (h : List Event) (o : Output) → GoesItsWay h o → GoesItsWay (e ∷ h) o
later-goes e h (Send conn m) a = later-sends e h conn m a
later-goes e h (Started task) a = tt
later-goes e h (Ended task outcome) a = tt
later-goes e h (Withdrawn ids) a = tt
later-goes e h (Denied why) a = tt
later-goes e h (Dial peer) a = tt
later-goes e h (Close conn) a = tt
later-goes e h (Ready task) a = tt

later-from : (e : Event) (h : List Event) (o : Origin) → CameFromPeer h o → CameFromPeer (e ∷ h) o
later-from e h OfRoot a = tt
later-from e h (OfCall conn number) a = later e h conn false a

-- Between events nothing is owed, and nothing is noted.
abbrev pub Between : List Event → State → Type 0
Between h s = Directed h [] (event_parts s)

pub wider : (e : Event) (h : List Event) (s : State) → Between h s → Between (e ∷ h) s
wider e h s k = record {
  rows = all-weaken (Row h) (Row (e ∷ h)) s.connections (λ c a. later e h c.number (is_some c.dialled) a) k.rows;
  frames = all-weaken (Frames-in h) (Frames-in (e ∷ h)) s.parked (λ p a. later e h p.conn (not (Frames.is_call_frame p.frame)) a) k.frames;
  tasks = all-weaken (λ (t : Living). CameFromPeer h t.origin) (λ (t : Living). CameFromPeer (e ∷ h) t.origin) s.tasks (λ t a. later-from e h t.origin a) k.tasks;
  requests = k.requests;
  fresh = k.fresh;
  owed = tt;
  notes = all-weaken (Noted h) (Noted (e ∷ h)) s.notes (λ n a. later-goes e h (output_of n) a) k.notes;
}

-- nothing is asked of answers
abbrev Any : ℕ → Message → Type 0
Any conn m = Unit {0}

after-event : (g : Setting) (e : Event) (h : List Event) (s : State) → Between h s → Between (e ∷ h) (Space.on g e s).0
after-event g e h s k = on_flow (directed_flow g e h Any (λ c n class is. tt) (λ c n name r is own. tt)) s (directed-begin g s e h Any (λ id n t outcome c m is ready stands origin. tt)) (wider e h s k)

answered : (g : Setting) (e : Event) (h : List Event) (s : State) → Between h s → AllOf (GoesItsWay (e ∷ h)) (Space.on g e s).1
unfolding Space.on in_order
answered g e h s k = by (Space.answers_outputs e)
  where
    by : (b : Bool) → AllOf (GoesItsWay (e ∷ h)) (Space.finish_event b (Space.happen g e s)).1
    by true = ranks-all (GoesItsWay (e ∷ h)) ranks (Requests.settle (Space.happen g e s)).notes (happen_settles (directed_flow g e h Any (λ c n class is. tt) (λ c n name r is own. tt)) s (directed-begin g s e h Any (λ id n t outcome c m is ready stands origin. tt)) (wider e h s k)).notes
    by false = tt

new-space : Between [] opening
unfolding opening
new-space = record { rows = tt; frames = tt; tasks = tt; requests = tt; fresh = tt; owed = tt; notes = tt }

pub directed-of : (g : Setting) (h : List Event) → Between h (Space.state_of g h)
unfolding Space.state_of
directed-of g [] = new-space
directed-of g (e ∷ h) = after-event g e h (Space.state_of g h) (directed-of g h)

pub frames_go_their_way : FramesGoTheirWay
unfolding Space.outputs_of
frames_go_their_way g h e = answered g e h (Space.state_of g h) (directed-of g h)

-- ---- worlds

-- a connection that was opened at an end was opened
end-opened : (conn : ℕ) (end : Bool) (h : List Event) → HasOpened h conn end → opened conn h ≡ true
end-opened conn end [] o = absurd (true≢false (sym o))
end-opened conn end (e ∷ h) o = by (opens_end conn end e) refl o (end-opened conn end h)
  where
    opens-it : (e : Event) (end : Bool) → opens_end conn end e ≡ true → opens conn e ≡ true
    opens-it (Opened c dialled) true f = Rattle.sp_rules.proofs.OwnLemmas.and-left (c == conn) (is_some dialled) f
    opens-it (Opened c dialled) false f = Rattle.sp_rules.proofs.OwnLemmas.and-left (c == conn) (is_none dialled) f
    opens-it _ true f = absurd (true≢false (sym f))
    opens-it _ false f = absurd (true≢false (sym f))

    by : (b : Bool) → opens_end conn end e ≡ b → b || was_opened h conn end ≡ true → (HasOpened h conn end → opened conn h ≡ true) → opens conn e || opened conn h ≡ true
    by true f g rest = or-left (opens conn e) (opened conn h) (opens-it e end f)
    by false f g rest = or-right (opens conn e) (opened conn h) (rest g)

pub one-end : (conn : ℕ) (h : List Event) → OpensOnce h → HasOpened h conn true → HasOpened h conn false → ⊥
one-end conn [] once a b = true≢false (sym a)
one-end conn (e ∷ h) once a b = by (opens_end conn true e) refl (opens_end conn false e) refl a b (one-end conn h once.1)
  where
    not-both : (e : Event) → opens_end conn true e ≡ true → opens_end conn false e ≡ true → ⊥
    not-both (Opened c None) f g = true≢false (sym (Rattle.sp_rules.proofs.OwnLemmas.and-right (c == conn) false f))
    not-both (Opened c (Some peer)) f g = true≢false (sym (Rattle.sp_rules.proofs.OwnLemmas.and-right (c == conn) false g))
    not-both _ f g = true≢false (sym f)

    opens-it : (e : Event) (end : Bool) → opens_end conn end e ≡ true → opens conn e ≡ true
    opens-it (Opened c dialled) true f = Rattle.sp_rules.proofs.OwnLemmas.and-left (c == conn) (is_some dialled) f
    opens-it (Opened c dialled) false f = Rattle.sp_rules.proofs.OwnLemmas.and-left (c == conn) (is_none dialled) f
    opens-it _ true f = absurd (true≢false (sym f))
    opens-it _ false f = absurd (true≢false (sym f))

    by : (x : Bool) → opens_end conn true e ≡ x → (y : Bool) → opens_end conn false e ≡ y → x || was_opened h conn true ≡ true → y || was_opened h conn false ≡ true → (HasOpened h conn true → HasOpened h conn false → ⊥) → ⊥
    by true f true g a b rest = not-both e f g
    by true f false g a b rest = true≢false (sym (end-opened conn false h b) ∙ once.0 conn (opens-it e true f))
    by false f true g a b rest = true≢false (sym (end-opened conn true h a) ∙ once.0 conn (opens-it e false g))
    by false f false g a b rest = rest a b

record Sent (s : Space) : Type 0 where
  state : Between s.history s.state
  outputs : AllOf (GoesItsWay s.history) s.outputs

pub spaces_have_directions : SpacesHaveDirections
spaces_have_directions settings events = all-with Sent IsOpenedOnce HasDirections (run (new_world settings) events).spaces
    (λ s k o. record { sent = k.outputs; tasks = k.state.tasks; one = λ conn a b. one-end conn s.history o.0 a b })
    (all_hold {P = Sent} (record {
      grows = λ e s lent t k. record {
        state = after-event s.setting e s.history s.state k.state;
        outputs = all-append (GoesItsWay (e ∷ s.history)) s.outputs (Space.on s.setting e s.state).1 (all-weaken (GoesItsWay s.history) (GoesItsWay (e ∷ s.history)) s.outputs (λ o a. later-goes e s.history o a) k.outputs) (answered s.setting e s.history s.state k.state);
      };
    }) (λ g. record { state = new-space; outputs = tt }) settings events) (connections_are_opened_once settings events).spaces
