-- The version of a connection: an event changes it only as the connection opens, or as a Hello is answered there; and what goes out names no more ids than a frame of it may.
use mathlib.Core.Path.{sym, ap, subst, ◌∙◌}
use Rattle.std.proofs.Common.{arith, inl, inr}
use Rattle.std.proofs.lemmas.Bool.{true≢false, eq-eqb, eqb-true}
use Rattle.std.specs.Str.{bytes_eq}
use Rattle.std.specs.Prelude.{◌≡◌, ◌≤◌, ◌⊎◌, refl, ℕ, ◌==◌, ◌&&◌, not, nat_le, min, cond, length, is_some, is_none, Bool, true, false, List, [], ◌∷◌, ◌++◌, Option, None, Some, filter, find, if◌then◌else◌}
use Rattle.uuid.specs.declared.Uuid.{Uuid}
use Rattle.space_ids.specs.declared.ids.ClassId.{ClassId}
use Rattle.space_ids.specs.declared.ids.ObjId.{ObjId}
use Rattle.net_message.specs.declared.message.Message.{Message}
use Rattle.net_message.specs.declared.message.Message.TheVariants as message
use Rattle.sp_rules.specs.Classes.{Setting}
use Rattle.sp_rules.specs.Endings
use Rattle.sp_rules.specs.Events.{Event, Opened, Received, Note, Says, Sends, Hellos, Output, Started, Ended, Withdrawn, Denied, Send, Dial, Close, Ready, output_of, in_order, ranks}
use Rattle.sp_rules.specs.Frames
use Rattle.sp_rules.specs.Laws.{AllOf}
use Rattle.sp_rules.specs.Lists.{with_some, at_first}
use Rattle.sp_rules.specs.LivingTasks
use Rattle.sp_rules.specs.OwnEvents
use Rattle.sp_rules.specs.Requests
use Rattle.sp_rules.specs.Space
use Rattle.sp_rules.specs.State.{State, Living, Origin, OfRoot, OfCall, Connection, connection_at, is_open, send}
use Rattle.sp_rules.proofs.AllLemmas.{some-none, all-weaken, all-more, found-is, ranks-all}
use Rattle.sp_rules.proofs.OwnLemmas.{some-same, and-right}
use Rattle.sp_laws.specs.Directions.{HasOpened}
use Rattle.sp_laws.specs.Inbound.{opens}
use Rattle.sp_laws.specs.Sent.{is_send}
use Rattle.sp_laws.proofs.FrameFlows.{View, Flows, Begins, FrameParts, event_parts, IsVersionOf, MaySay, IsFrom, CanSend}
use Rattle.sp_laws.proofs.FrameEvents.{happen_flow, happen_settles, on_flow, finish_event_flow}
use Rattle.sp_laws.proofs.ShutLemmas.{has_row, row-ends}
use Rattle.sp_laws.proofs.SilentLemmas.{closes_silent, redials_silent}
use Rattle.sp_order_laws.specs.Delivered.{came_on, sent_on}
use Rattle.sp_order_laws.specs.Ends.{IsOneOf}
use Rattle.sp_order_laws.specs.Hellos.{SpeaksInTurn}
use Rattle.sp_order_laws.proofs.FirstLemmas.{unsaid}
use Rattle.sp_order_laws.proofs.RowLemmas.{closed-so, redialled-so}
use Rattle.sp_order_laws.proofs.TurnLemmas
use Rattle.sp_order_laws.proofs.TurnLemmas.{InTurn, Heard, HeardFrom, Frames-in, IsCall, Between, said-version}

-- ---- a row

-- what is so of the row of a connection, if it is there
abbrev pub At : (Connection → Type 0) → ℕ → List Connection → Type 0
At Is conn rows = (c : Connection) → find (λ (d : Connection). d.number == conn) rows ≡ Some c → Is c

abbrev pub IsOf : ℕ → Connection → Type 0
IsOf v c = c.version ≡ v

at-set : (Is : Connection → Type 0) (conn n : ℕ) (f : Connection → Connection) → ((c : Connection) → (f c).number ≡ c.number) → ((c : Connection) → (c.number == n) ≡ true → (c.number == conn) ≡ true → Is c → Is (f c)) → (rows : List Connection)
    → At Is conn rows → At Is conn (at_first (λ (c : Connection). c.number == n) f rows)
at-set Is conn n f num own [] k = λ x e. absurd (some-none x (sym e))
at-set Is conn n f num own (c ∷ rows) k = by (c.number == conn) refl (c.number == n) refl k (at-set Is conn n f num own rows)
  where
    found : (c.number == conn) ≡ true → At Is conn (c ∷ rows) → Is c
    found g k = k c (ap (λ b. cond b (Some c) (find (λ (y : Connection). y.number == conn) rows)) g)

    rest-of : (c.number == conn) ≡ false → At Is conn (c ∷ rows) → At Is conn rows
    rest-of g k = λ x e. k x (ap (λ b. cond b (Some c) (find (λ (y : Connection). y.number == conn) rows)) g ∙ e)

    by : (b : Bool) → (c.number == conn) ≡ b → (d : Bool) → (c.number == n) ≡ d → At Is conn (c ∷ rows) → (At Is conn rows → At Is conn (at_first (λ (x : Connection). x.number == n) f rows))
        → At Is conn (if d then f c ∷ rows else c ∷ at_first (λ (x : Connection). x.number == n) f rows)
    by true g true d k rest = λ x e. subst Is (some-same (sym (ap (λ b. cond b (Some (f c)) (find (λ (y : Connection). y.number == conn) rows)) (ap (λ m. m == conn) (num c) ∙ g)) ∙ e)) (own c d g (found g k))
    by true g false d k rest = λ x e. subst Is (some-same (sym (ap (λ b. cond b (Some c) (find (λ (y : Connection). y.number == conn) (at_first (λ (z : Connection). z.number == n) f rows))) g) ∙ e)) (found g k)
    by false g true d k rest = λ x e. rest-of g k x (sym (ap (λ b. cond b (Some (f c)) (find (λ (z : Connection). z.number == conn) rows)) (ap (λ m. m == conn) (num c) ∙ g)) ∙ e)
    by false g false d k rest = λ x e. rest (rest-of g k) x (sym (ap (λ b. cond b (Some c) (find (λ (y : Connection). y.number == conn) (at_first (λ (z : Connection). z.number == n) f rows))) g) ∙ e)

-- what a change makes so
at-now : (Is : Connection → Type 0) (conn : ℕ) (f : Connection → Connection) → ((c : Connection) → (f c).number ≡ c.number) → ((c : Connection) → Is (f c)) → (rows : List Connection) → At Is conn (at_first (λ (c : Connection). c.number == conn) f rows)
at-now Is conn f num is [] = λ x e. absurd (some-none x (sym e))
at-now Is conn f num is (c ∷ rows) = by (c.number == conn) refl (at-now Is conn f num is rows)
  where
    by : (b : Bool) → (c.number == conn) ≡ b → At Is conn (at_first (λ (x : Connection). x.number == conn) f rows) → At Is conn (if b then f c ∷ rows else c ∷ at_first (λ (x : Connection). x.number == conn) f rows)
    by true g rest = λ x e. subst Is (some-same (sym (ap (λ b. cond b (Some (f c)) (find (λ (y : Connection). y.number == conn) rows)) (ap (λ m. m == conn) (num c) ∙ g)) ∙ e)) (is c)
    by false g rest = λ x e. rest x (sym (ap (λ b. cond b (Some c) (find (λ (y : Connection). y.number == conn) (at_first (λ (z : Connection). z.number == conn) f rows))) g) ∙ e)

at-goes : (Is : Connection → Type 0) (conn n : ℕ) (rows : List Connection) → At Is conn rows → At Is conn (filter (λ (c : Connection). not (c.number == n)) rows)
at-goes Is conn n rows k = pick (n == conn) refl
  where
    others : (n == conn) ≡ false → (cs : List Connection) → At Is conn cs → At Is conn (filter (λ (c : Connection). not (c.number == n)) cs)
    others apart [] k = λ x e. absurd (some-none x (sym e))
    others apart (c ∷ cs) k = by (c.number == conn) refl (c.number == n) refl k (others apart cs)
      where
        by : (b : Bool) → (c.number == conn) ≡ b → (d : Bool) → (c.number == n) ≡ d → At Is conn (c ∷ cs) → (At Is conn cs → At Is conn (filter (λ (x : Connection). not (x.number == n)) cs))
            → At Is conn (cond (not d) (c ∷ filter (λ (x : Connection). not (x.number == n)) cs) (filter (λ (x : Connection). not (x.number == n)) cs))
        by true g true d k rest = absurd (true≢false (sym (eq-eqb n conn (sym (eqb-true c.number n d) ∙ eqb-true c.number conn g)) ∙ apart))
        by true g false d k rest = λ x e. k x (ap (λ b. cond b (Some c) (find (λ (y : Connection). y.number == conn) cs)) g ∙ (sym (ap (λ b. cond b (Some c) (find (λ (y : Connection). y.number == conn) (filter (λ (z : Connection). not (z.number == n)) cs))) g) ∙ e))
        by false g true d k rest = rest (λ x e. k x (ap (λ b. cond b (Some c) (find (λ (y : Connection). y.number == conn) cs)) g ∙ e))
        by false g false d k rest = λ x e. rest (λ y f. k y (ap (λ b. cond b (Some c) (find (λ (z : Connection). z.number == conn) cs)) g ∙ f)) x (sym (ap (λ b. cond b (Some c) (find (λ (y : Connection). y.number == conn) (filter (λ (z : Connection). not (z.number == n)) cs))) g) ∙ e)

    pick : (b : Bool) → (n == conn) ≡ b → At Is conn (filter (λ (c : Connection). not (c.number == n)) rows)
    pick true e = λ x f. absurd (true≢false (sym (ap (λ (o : Option Connection). is_some o) f) ∙ subst (λ m. has_row conn (filter (λ (c : Connection). not (c.number == m)) rows) ≡ false) (sym (eqb-true n conn e)) (row-ends conn rows)))
    pick false e = others e rows k

at-comes : (Is : Connection → Type 0) (conn : ℕ) (new : Connection) → (new.number == conn) ≡ false → (rows : List Connection) → At Is conn rows → At Is conn (rows ++ new ∷ [])
at-comes Is conn new apart [] k = λ x e. absurd (some-none x (sym (sym (ap (λ b. cond b (Some new) None) apart) ∙ e)))
at-comes Is conn new apart (c ∷ rows) k = by (c.number == conn) k (at-comes Is conn new apart rows)
  where
    by : (b : Bool) → ((x : Connection) → cond b (Some c) (find (λ (y : Connection). y.number == conn) rows) ≡ Some x → Is x) → (At Is conn rows → At Is conn (rows ++ new ∷ []))
        → (x : Connection) → cond b (Some c) (find (λ (y : Connection). y.number == conn) (rows ++ new ∷ [])) ≡ Some x → Is x
    by true k rest = k
    by false k rest = rest k

-- ---- how long frames are

-- a dirty or clean call that a frame of this version may make; any other frame
abbrev pub FitsIn : ℕ → Message → Type 0
FitsIn v (message.Dirty sequence period objects) = length objects ≤ Requests.most_ids v
FitsIn v (message.Clean sequence strong objects) = length objects ≤ Requests.most_ids v
FitsIn v _ = Unit {0}

abbrev pub FitsOn : ℕ → ℕ → Output → Type 0
FitsOn conn v (Send c m) = c ≡ conn → FitsIn v m
FitsOn conn v _ = Unit {0}

pub least-ids : (v : ℕ) → 1024 ≤ Requests.most_ids v
least-ids v = by (nat_le 2 v)
  where
    by : (x : Bool) → 1024 ≤ (if x then 4096 else 1024)
    by true = omega arith
    by false = omega arith

-- a version below 2 has the least
pub low-ids : (v : ℕ) → nat_le 2 v ≡ false → Requests.most_ids v ≡ 1024
low-ids v low = ap (λ (b : Bool). if b then 4096 else 1024) low

-- ---- what is kept

abbrev is_opening : Event → Bool
is_opening (Opened conn dialled) = true
is_opening _ = false

-- the row of a connection is of a version, what was noted to go out there fits it, and while one opens no peer is noted
record Kept (e : Event) (conn v : ℕ) (before noted : List Uuid) (cs : List Connection) (ns : List Note) : Type 0 where
  rows : At (IsOf v) conn cs
  notes : AllOf (λ (n : Note). FitsOn conn v (output_of n)) ns
  same : is_opening e ≡ true → noted ≡ before

abbrev view : Setting → Event → List Event → ℕ → ℕ → List Uuid → View
view g e h conn v before = record {
  setting = g;
  event = e;
  Dialled = Heard (e ∷ h);
  Answers = λ c m. Unit {0};
  Known = Frames-in (e ∷ h);
  Fails = λ c. Unit {0};
  Ends = λ a r. Unit {0};
  Starts = λ o n a. Unit {0};
  Speaks = λ c version. SpeaksInTurn g e h c version × (c ≡ conn → version ≡ v);
  Fits = λ c ids. c ≡ conn → length ids ≤ Requests.most_ids v;
  Keeps = λ l s. InTurn g (e ∷ h) l (event_parts s) × Kept e conn v before s.noted s.connections s.notes;
}

from-is : (g : Setting) (e : Event) (h : List Event) (conn v : ℕ) (before : List Uuid) (o : Origin) → HeardFrom (e ∷ h) o → IsFrom (view g e h conn v before) o
from-is g e h conn v before OfRoot a = tt
from-is g e h conn v before (OfCall c number) a = a

-- what is known of an output, and of a frame, is known of its turn
may-say : (g : Setting) (e : Event) (h : List Event) (conn v : ℕ) (before : List Uuid) (s : State) (o : Output) → MaySay (view g e h conn v before) s o → MaySay (TurnLemmas.view g e h) s o
may-say g e h conn v before s (Close c) a = a
may-say g e h conn v before s (Started task) a = a
may-say g e h conn v before s (Ended task outcome) a = a
may-say g e h conn v before s (Withdrawn ids) a = a
may-say g e h conn v before s (Denied why) a = a
may-say g e h conn v before s (Send c m) a = a
may-say g e h conn v before s (Dial peer) a = a
may-say g e h conn v before s (Ready task) a = a

may-send : (g : Setting) (e : Event) (h : List Event) (conn v : ℕ) (before : List Uuid) (c : ℕ) (m : Message) → CanSend (view g e h conn v before) c m → CanSend (TurnLemmas.view g e h) c m
may-send g e h conn v before c (message.Hello version space digest) a = (a.0.0, a.1)
may-send g e h conn v before c (message.Call number object method fuel arguments) a = a
may-send g e h conn v before c (message.Lookup number name) a = a
may-send g e h conn v before c (message.Ack number) a = a
may-send g e h conn v before c (message.Dirty sequence period objects) a = (a.0, tt)
may-send g e h conn v before c (message.Clean sequence strong objects) a = (a.0, tt)
may-send g e h conn v before c (message.Returned number fuel value) a = a
may-send g e h conn v before c (message.Threw number class) a = a
may-send g e h conn v before c (message.Spent number) a = a
may-send g e h conn v before c (message.Lease sequence period) a = a
may-send g e h conn v before c (message.Cleaned sequence) a = a

can-fit : (g : Setting) (e : Event) (h : List Event) (conn v : ℕ) (before : List Uuid) (c : ℕ) (m : Message) → CanSend (view g e h conn v before) c m → c ≡ conn → FitsIn v m
can-fit g e h conn v before c (message.Hello version space digest) a same = tt
can-fit g e h conn v before c (message.Call number object method fuel arguments) a same = tt
can-fit g e h conn v before c (message.Lookup number name) a same = tt
can-fit g e h conn v before c (message.Ack number) a same = tt
can-fit g e h conn v before c (message.Dirty sequence period objects) a same = a.1 same
can-fit g e h conn v before c (message.Clean sequence strong objects) a same = a.1 same
can-fit g e h conn v before c (message.Returned number fuel value) a same = tt
can-fit g e h conn v before c (message.Threw number class) a same = tt
can-fit g e h conn v before c (message.Spent number) a same = tt
can-fit g e h conn v before c (message.Lease sequence period) a same = tt
can-fit g e h conn v before c (message.Cleaned sequence) a same = tt

call-fits : (v : ℕ) (m : Message) → IsCall m → FitsIn v m
call-fits v (message.Call number object method fuel arguments) a = tt
call-fits v (message.Hello version space digest) a = absurd a
call-fits v (message.Returned number fuel value) a = absurd a
call-fits v (message.Threw number class) a = absurd a
call-fits v (message.Spent number) a = absurd a
call-fits v (message.Ack number) a = absurd a
call-fits v (message.Dirty sequence period objects) a = absurd a
call-fits v (message.Lease sequence period) a = absurd a
call-fits v (message.Clean sequence strong objects) a = absurd a
call-fits v (message.Cleaned sequence) a = absurd a
call-fits v (message.Lookup number name) a = absurd a

says-none : (conn v : ℕ) (o : Output) → is_send o ≡ false → FitsOn conn v o
says-none conn v (Send c m) is = absurd (true≢false is)
says-none conn v (Started task) is = tt
says-none conn v (Ended task outcome) is = tt
says-none conn v (Withdrawn ids) is = tt
says-none conn v (Denied why) is = tt
says-none conn v (Dial peer) is = tt
says-none conn v (Close c) is = tt
says-none conn v (Ready task) is = tt

more : {e : Event} {conn v : ℕ} {before noted : List Uuid} {cs : List Connection} {ns : List Note} (n : Note) → FitsOn conn v (output_of n) → Kept e conn v before noted cs ns → Kept e conn v before noted cs (ns ++ n ∷ [])
more {conn = conn} {v} {ns = ns} n a k = record { rows = k.rows; notes = all-more (λ (m : Note). FitsOn conn v (output_of m)) ns n k.notes a; same = k.same }

rows-are : {e : Event} {conn v : ℕ} {before noted : List Uuid} {cs ds : List Connection} {ns : List Note} → At (IsOf v) conn ds → Kept e conn v before noted cs ns → Kept e conn v before noted ds ns
rows-are a k = record { rows = a; notes = k.notes; same = k.same }

fits-so : (v conn : ℕ) (cs : List Connection) (ids : List ObjId) → At (IsOf v) conn cs → length ids ≤ Requests.most_of (find (λ (c : Connection). c.number == conn) cs) → length ids ≤ Requests.most_ids v
fits-so v conn cs ids a few = by (find (λ (c : Connection). c.number == conn) cs) refl few
  where
    by : (o : Option Connection) → find (λ (c : Connection). c.number == conn) cs ≡ o → length ids ≤ Requests.most_of o → length ids ≤ Requests.most_ids v
    by None e le = let few : length ids ≤ 1024 = le in let least : 1024 ≤ Requests.most_ids v = least-ids v in omega arith
    by (Some c) e le = subst (λ n. length ids ≤ Requests.most_ids n) (a c e) le

-- a Hello that is said on the connection is of its version
abbrev SaysAlike : Setting → Event → List Event → ℕ → ℕ → List Uuid → Type 0
SaysAlike g e h conn v before = (s : State) (version : ℕ) → (is_opening e ≡ true → s.noted ≡ before) → IsVersionOf (TurnLemmas.view g e h) s conn version → version ≡ v

to-turn : (g : Setting) (e : Event) (h : List Event) (conn v : ℕ) (before : List Uuid) (s : State) (c version : ℕ) → IsVersionOf (view g e h conn v before) s c version → IsVersionOf (TurnLemmas.view g e h) s c version
to-turn g e h conn v before s c version (inl x) = inl x
to-turn g e h conn v before s c version (inr (inl x)) = inr (inl x)
to-turn g e h conn v before s c version (inr (inr x)) = inr (inr x)

version_flow : (g : Setting) (e : Event) (h : List Event) (conn v : ℕ) (before : List Uuid) → SaysAlike g e h conn v before → Flows (view g e h conn v before)
version_flow g e h conn v before alike = record {
  known = λ l s k. T.known l s k.0;
  dialled = λ l s k. T.dialled l s k.0;
  origins = λ l s k. all-weaken (λ (t : Living). HeardFrom (e ∷ h) t.origin) (λ (t : Living). IsFrom (view g e h conn v before) t.origin) s.tasks (λ t a. from-is g e h conn v before t.origin a) k.0.tasks;
  sided = λ p a. a;
  fails = λ asked class a. tt;
  starts = λ l s p target method fuel arguments o n going k known is stands finds. tt;
  gives = λ p value fuel asked is a b c. tt;
  refuses = λ c n class is. tt;
  finds = λ c n name r is own. tt;
  speaks = λ l s c version is k.
      let turn : IsVersionOf (TurnLemmas.view g e h) s c version = to-turn g e h conn v before s c version is in
      (said-version g e h s c version turn, λ at. alike s version k.1.same (subst (λ n. IsVersionOf (TurnLemmas.view g e h) s n version) at turn));
  fits = λ l s c ids few k. λ at. fits-so v conn s.connections ids k.1.rows (subst (λ n. length ids ≤ Requests.most_on s n) at few);
  quiet = λ l s t eq k. (T.quiet l s t eq k.0, subst (λ (p : FrameParts). Kept e conn v before p.noted p.parts.connections p.parts.notes) (sym eq) k.1);
  says = λ l s output is so k. (T.says l s output is (may-say g e h conn v before s output so) k.0, more (Says output) (says-none conn v output is) k.1);
  sends = λ l s turn c m may there held k. (T.sends l s turn c m (may-send g e h conn v before c m may) there held k.0, more (Sends turn c m) (can-fit g e h conn v before c m may) k.1);
  clears = λ s k. (T.clears s k.0, record { rows = k.1.rows; notes = tt; same = k.1.same });
  stores = λ l s store is k. (T.stores l s store is k.0, k.1);
  adds = λ l s q k. (T.adds l s q k.0, k.1);
  calls_out = λ l s turn c peer number task lent kind m there live k. (T.calls_out l s turn c peer number task lent kind m there live k.0, more (Sends turn c m) (λ at. call-fits v m k.0.owed.0) k.1);
  looks_out = λ l s turn c peer number task name there live k. (T.looks_out l s turn c peer number task name there live k.0, more (Sends turn c (message.Lookup number name)) (λ at. tt) k.1);
  tells = λ l s q call group eq k. (T.tells l s q call group eq k.0, k.1);
  told = λ l s peer call group k. (T.told l s peer call group k.0, k.1);
  unfresh = λ l s k. (T.unfresh l s k.0, k.1);
  removes = λ l s is k. (T.removes l s is k.0, k.1);
  sorts = λ l s is rs k. (T.sorts l s is rs k.0, k.1);
  removes_one = λ l s finds is n q eq passes has k. (T.removes_one l s finds is n q eq passes has k.0, k.1);
  removes_told = λ l s dirty c sequence k. (T.removes_told l s dirty c sequence k.0, k.1);
  answers = λ l s c n k. (T.answers l s c n k.0, k.1);
  begins = λ l s origin method arguments fuel going at k. (T.begins l s origin method arguments fuel going at k.0, k.1);
  ends = λ l s id t over is k. (T.ends l s id t over is k.0, k.1);
  replies = λ l s peer number task lent kind m reply t may is k. (T.replies l s peer number task lent kind m reply t may is k.0, k.1);
  replies_none = λ l s peer number task lent kind m is k. (T.replies_none l s peer number task lent kind m is k.0, k.1);
  looked_up = λ l s peer number task name reply may k. (T.looked_up l s peer number task name reply may k.0, more (Says (Ended task (LivingTasks.outcome_of reply))) tt k.1);
  works = λ l s id t f lent row ready is k. (T.works l s id t f lent row ready is k.0, k.1);
  keeps = λ l s until value k. (T.keeps l s until value k.0, k.1);
  results_go = λ l s is goes k. (T.results_go l s is goes k.0, k.1);
  falls = λ l s c n k. (T.falls l s c n k.0, k.1);
  sent = λ l s c m k. (T.sent l s c m k.0, rows-are (at-set (IsOf v) conn c (λ (d : Connection). record d { sent = m ∷ d.sent }) (λ d. refl) (λ d a b same. same) s.connections k.1.rows) k.1);
  versions = λ l s c version says k. (
    T.versions l s c version says.0 k.0,
    rows-are (at-set (IsOf v) conn c (λ (d : Connection). record d { version = version }) (λ d. refl) (λ d a b same. says.1 (sym (eqb-true d.number c a) ∙ eqb-true d.number conn b)) s.connections k.1.rows) k.1,
  );
  notes_peer = λ l s c d peer space digest same is higher k. (T.notes_peer l s c d peer space digest same is higher k.0, record { rows = k.1.rows; notes = k.1.notes; same = λ o. absurd (true≢false (sym o ∙ ap is_opening same)) });
  counts = λ l s c n d there is low k. (T.counts l s c n d there is low k.0, rows-are (at-set (IsOf v) conn c (λ (x : Connection). record x { last = n }) (λ x. refl) (λ x a b same. same) s.connections k.1.rows) k.1);
  parks_call = λ l s p going known is k. (T.parks_call l s p going known is k.0, k.1);
  parks_result = λ l s p known is k. (T.parks_result l s p known is k.0, k.1);
  takes = λ l s p k. (T.takes l s p k.0, k.1);
  takes_call = λ l s p q is call k. (T.takes_call l s p q is call k.0, k.1);
  closes = λ l s c d is why k. (T.closes l s c d is why k.0, rows-are (at-goes (IsOf v) conn c s.connections k.1.rows) k.1);
}
  where
    T : Flows (TurnLemmas.view g e h)
    T = TurnLemmas.turn_flow g e h

version-begin : (g : Setting) (e : Event) (h : List Event) (conn v : ℕ) (before : List Uuid) (s : State) → opens conn e ≡ false → Begins (view g e h conn v before) s
version-begin g e h conn v before s apart = record {
  opens = λ c dialled is k. (B.opens c dialled is k.0, rows-are (at-comes (IsOf v) conn (record { number = c; dialled = dialled; peer = None; version = 1; last = 0; sent = [] }) (subst (λ d. opens conn d ≡ false) is apart) s.connections k.1.rows) k.1);
  parks = λ id n t target method arguments is able stands k. (B.parks id n t target method arguments is able stands k.0, k.1);
  looks = λ peer name is k. (B.looks peer name is k.0, k.1);
  greets = λ c version space digest is row none same who k.
      let x = B.greets c version space digest is row none same who k.0 in
      ((x.0, rows-are (at-set (IsOf v) conn c.number (λ (d : Connection). record d { peer = Some space }) (λ d. refl) (λ d a b keeps. keeps) s.connections k.1.rows) k.1), x.1);
  roots = λ method arguments fuel is. tt;
  unmarshal = λ is. tt;
  connect = λ is. tt;
  marshal = λ is. tt;
  threw = λ c n class is q found has. tt;
  spent = λ c n is q found has. tt;
  finished = λ id k t outcome c n is able stands origin. tt;
  call_came = λ p target o method passed arguments is there stands may fit names. B.call_came p target o method passed arguments is there stands may fit names;
  result_came = λ p value fuel is frame there q found fits names. B.result_came p value fuel is frame there q found fits names;
}
  where
    B : Begins (TurnLemmas.view g e h) s
    B = TurnLemmas.turn-begin g s e h

-- ---- an event that leaves the version

-- No Hello that comes with the event is answered there.
abbrev pub AnswersNone : Event → List Event → ℕ → Type 0
AnswersNone e h conn = (version : ℕ) (space : Uuid) (digest : List ℕ) → e ≡ Received conn (message.Hello version space digest) → HasOpened (e ∷ h) conn false → ⊥

opens-it : (e : Event) (conn : ℕ) (dialled : Option Uuid) → opens conn e ≡ false → e ≡ Opened conn dialled → ⊥
opens-it e conn dialled apart is = true≢false (sym (eq-eqb conn conn refl) ∙ subst (λ d. opens conn d ≡ false) is apart)

alike-none : (g : Setting) (e : Event) (h : List Event) (conn v : ℕ) (before : List Uuid) → opens conn e ≡ false → AnswersNone e h conn → SaysAlike g e h conn v before
alike-none g e h conn v before apart never s version same (inl x) = absurd (opens-it e conn None apart x.0)
alike-none g e h conn v before apart never s version same (inr (inl x)) = absurd (opens-it e conn (Some x.0) apart x.1.0)
alike-none g e h conn v before apart never s version same (inr (inr x)) = absurd (never x.0.version x.0.space x.0.digest x.0.came x.0.way.1)

-- The row keeps its version, if it stays, and what goes out there fits it.
pub row-keeps : (g : Setting) (e : Event) (h : List Event) (conn v : ℕ) (s : State) → s.notes ≡ [] → Between g h s → opens conn e ≡ false → AnswersNone e h conn → At (IsOf v) conn s.connections
    → At (IsOf v) conn (Space.on g e s).0.connections × AllOf (FitsOn conn v) (Space.on g e s).1
unfolding Space.on in_order
row-keeps g e h conn v s none between apart never k = ((on_flow F s B start).1.rows, by (Space.answers_outputs e))
  where
    F : Flows (view g e h conn v s.noted)
    F = version_flow g e h conn v s.noted (alike-none g e h conn v s.noted apart never)

    B : Begins (view g e h conn v s.noted) s
    B = version-begin g e h conn v s.noted s apart

    start : InTurn g (e ∷ h) [] (event_parts s) × Kept e conn v s.noted s.noted s.connections s.notes
    start = (TurnLemmas.wider g e h s none between, record { rows = k; notes = subst (λ (ns : List Note). AllOf (λ (n : Note). FitsOn conn v (output_of n)) ns) (sym none) tt; same = λ o. refl })

    by : (b : Bool) → AllOf (FitsOn conn v) (Space.finish_event b (Space.happen g e s)).1
    by true = ranks-all (FitsOn conn v) ranks (Requests.settle (Space.happen g e s)).notes (happen_settles F s B start).1.notes
    by false = tt

-- ---- a Hello is said

says-kept : (g : Setting) (e : Event) (conn version : ℕ) (before : List Uuid) (t : State) → t.notes ≡ [] → (is_opening e ≡ true → t.noted ≡ before)
    → Kept e conn version before (Frames.say_hello g version conn t).noted (Frames.say_hello g version conn t).connections (Frames.say_hello g version conn t).notes
unfolding send
says-kept g e conn version before t none same = by (is_open t conn)
  where
    rows : At (IsOf version) conn (at_first (λ (d : Connection). d.number == conn) (λ (d : Connection). record d { version = version }) t.connections)
    rows = at-now (IsOf version) conn (λ (d : Connection). record d { version = version }) (λ d. refl) (λ d. refl) t.connections

    notes : AllOf (λ (n : Note). FitsOn conn version (output_of n)) t.notes
    notes = subst (λ (ns : List Note). AllOf (λ (n : Note). FitsOn conn version (output_of n)) ns) (sym none) tt

    after : Bool → State
    after b = Frames.of_version version conn (if b then record t { notes = t.notes ++ Sends Hellos conn (message.Hello version g.id g.digest) ∷ [] } else t)

    by : (b : Bool) → Kept e conn version before (after b).noted (after b).connections (after b).notes
    by true = record { rows = rows; notes = all-more (λ (n : Note). FitsOn conn version (output_of n)) t.notes (Sends Hellos conn (message.Hello version g.id g.digest)) notes (λ at. tt); same = same }
    by false = record { rows = rows; notes = notes; same = same }

-- the event ends
finishes : (g : Setting) (e : Event) (h : List Event) (conn v : ℕ) (before : List Uuid) (t : State) → SaysAlike g e h conn v before → InTurn g (e ∷ h) [] (event_parts t) → Kept e conn v before t.noted t.connections t.notes → At (IsOf v) conn (Space.finish_event true t).0.connections
finishes g e h conn v before t alike turn k = (finish_event_flow (version_flow g e h conn v before alike) {s = t} true (turn, k)).1.rows

happened : (g : Setting) (e : Event) (h : List Event) (s : State) → s.notes ≡ [] → Between g h s → InTurn g (e ∷ h) [] (event_parts (Space.happen g e s))
happened g e h s none between = happen_flow (TurnLemmas.turn_flow g e h) {s = s} (TurnLemmas.turn-begin g s e h) (TurnLemmas.wider g e h s none between)

-- The row of a connection that this space dialled has the version of its Hello.
pub row-dials : (g : Setting) (h : List Event) (conn : ℕ) (peer : Uuid) (s : State) → s.notes ≡ [] → Between g h s → At (IsOf (OwnEvents.version_to g s peer)) conn (Space.on g (Opened conn (Some peer)) s).0.connections
unfolding Space.on Space.happen OwnEvents.on_opened
row-dials g h conn peer s none between = finishes g e h conn v s.noted opened alike (happened g e h s none between) (says-kept g e conn v s.noted (OwnEvents.dialled_no_more (Some peer) (OwnEvents.add_connection conn (Some peer) s)) none (λ o. refl))
  where
    e : Event
    e = Opened conn (Some peer)

    v : ℕ
    v = OwnEvents.version_to g s peer

    opened : State
    opened = Frames.say_hello g v conn (OwnEvents.dialled_no_more (Some peer) (OwnEvents.add_connection conn (Some peer) s))

    dialled-of : Event → Option Uuid
    dialled-of (Opened c dialled) = dialled
    dialled-of _ = None

    alike : SaysAlike g e h conn v s.noted
    alike t version same (inl x) = absurd (some-none peer (ap dialled-of x.0))
    alike t version same (inr (inl x)) = x.1.1 ∙ (ap (λ (l : List Uuid). if OwnEvents.is_among l x.0 then 1 else g.version) (same refl) ∙ ap (λ (p : Uuid). if OwnEvents.is_among s.noted p then 1 else g.version) (some-same (sym (ap dialled-of x.1.0))))
    alike t version same (inr (inr x)) = absurd (true≢false (ap is_opening x.0.came))

-- ---- a first frame comes

-- what a Hello that is welcome is of: a version that the space speaks, where a peer dialled; that which the space said, where it dialled
abbrev pub FitsFirst : Setting → ℕ → Option Uuid → ℕ → Type 0
FitsFirst g v None version = nat_le version g.version ≡ true
FitsFirst g v (Some peer) version = version ≡ v

pub record HeardFirst (g : Setting) (c : Connection) (m : Message) : Type 0 where
  pub version : ℕ
  pub space : Uuid
  pub digest : List ℕ
  pub says : m ≡ message.Hello version space digest
  pub fits : FitsFirst g c.version c.dialled version

-- The connection closes, and nothing is sent there; or the frame is such a Hello.
pub first-so : (g : Setting) (conn : ℕ) (m : Message) (s : State) (c : Connection) → s.notes ≡ [] → connection_at s conn ≡ Some c → c.peer ≡ None
    → ((is_open (Space.on g (Received conn m) s).0 conn ≡ false) × (sent_on conn (Space.on g (Received conn m) s).1 ≡ [])) ⊎ HeardFirst g c m
unfolding Space.on Space.happen Frames.receive Frames.first_frame
first-so g conn m s c none is peer = subst (λ (o : Option Connection). After (OwnEvents.received_on g o m s)) (sym is) (by (is_none c.peer) (ap (λ (o : Option Uuid). is_none o) peer))
  where
    After : State → Type 0
    After t = ((is_open (Space.finish_event true t).0 conn ≡ false) × (sent_on conn (Space.finish_event true t).1 ≡ [])) ⊎ HeardFirst g c m

    number : c.number ≡ conn
    number = eqb-true c.number conn (found-is (λ (d : Connection). d.number == conn) s.connections c is)

    closed : (class : ClassId) → After (Endings.close g class c.number s)
    closed class = subst (λ n. After (Endings.close g class n s)) (sym number) (inl (closed-so g class conn conn s refl, unsaid conn _ (closes_silent g m class conn s none)))

    again : (to : Uuid) → After (Endings.redial to c.number s)
    again to = subst (λ n. After (Endings.redial to n s)) (sym number) (inl (redialled-so g to conn conn s refl, unsaid conn _ (redials_silent g m to conn s none)))

    hello : (version : ℕ) (space : Uuid) (digest : List ℕ) → m ≡ message.Hello version space digest → (o : Option Uuid) → c.dialled ≡ o
        → After (with_some o (if bytes_eq digest g.digest && nat_le version g.version then Frames.answer_hello g version c.number (Frames.greeted space c.number s) else Endings.close g g.classes.unmarshal c.number s)
        (λ to. if bytes_eq digest g.digest && bytes_eq space to then Frames.answered_hello g c to version space s else Endings.close g g.classes.connect c.number s))
    hello version space digest says None dialled = pick (bytes_eq digest g.digest && nat_le version g.version) refl
      where
        pick : (b : Bool) → bytes_eq digest g.digest && nat_le version g.version ≡ b → After (if b then Frames.answer_hello g version c.number (Frames.greeted space c.number s) else Endings.close g g.classes.unmarshal c.number s)
        pick true e = inr (record { version = version; space = space; digest = digest; says = says; fits = subst (λ o. FitsFirst g c.version o version) (sym dialled) (and-right (bytes_eq digest g.digest) (nat_le version g.version) e) })
        pick false e = closed g.classes.unmarshal
    hello version space digest says (Some to) dialled = pick (bytes_eq digest g.digest && bytes_eq space to)
      where
        known : (v : Bool) → (version == c.version) ≡ v → (r : Bool) → After (if v then Requests.flush_waiting to c.number (Frames.greeted space c.number s) else (if r then Endings.redial to c.number s else Endings.close g g.classes.unmarshal c.number s))
        known true e r = inr (record { version = version; space = space; digest = digest; says = says; fits = subst (λ o. FitsFirst g c.version o version) (sym dialled) (eqb-true version c.version e) })
        known false e true = again to
        known false e false = closed g.classes.unmarshal

        pick : (b : Bool) → After (if b then Frames.answered_hello g c to version space s else Endings.close g g.classes.connect c.number s)
        pick true = known (version == c.version) refl (nat_le 2 c.version && version == 1)
        pick false = closed g.classes.connect

    first : (n : Message) → m ≡ n → After (Frames.first_frame g c n s)
    first (message.Hello version space digest) says = hello version space digest says c.dialled refl
    first _ says = closed g.classes.unmarshal

    by : (b : Bool) → b ≡ true → After (if b then Frames.first_frame g c m s else (if Frames.is_wrong_way (Frames.is_asking m) (is_some c.dialled) then Endings.close g g.classes.unmarshal c.number s else Frames.got g c m s))
    by true e = first m refl
    by false e = absurd (true≢false (sym e))

-- The row of a connection on which a Hello is answered has the lower of both versions, if it stays.
pub row-answers : (g : Setting) (h : List Event) (conn version : ℕ) (space : Uuid) (digest : List ℕ) (s : State) (c : Connection) → s.notes ≡ [] → Between g h s → connection_at s conn ≡ Some c → c.peer ≡ None → c.dialled ≡ None → nat_le 2 g.version ≡ true
    → At (IsOf (min version g.version)) conn (Space.on g (Received conn (message.Hello version space digest)) s).0.connections
unfolding Space.on Space.happen Frames.receive Frames.first_frame
row-answers g h conn version space digest s c none between is peer accepted late =
    let made : After (OwnEvents.received_on g (connection_at s conn) m s) = subst (λ (o : Option Connection). After (OwnEvents.received_on g o m s)) (sym is) (by (is_none c.peer) (ap (λ (o : Option Uuid). is_none o) peer)) in
    made (happened g e h s none between)
  where
    m : Message
    m = message.Hello version space digest

    e : Event
    e = Received conn m

    After : State → Type 0
    After t = InTurn g (e ∷ h) [] (event_parts t) → At (IsOf (min version g.version)) conn (Space.finish_event true t).0.connections

    number : c.number ≡ conn
    number = eqb-true c.number conn (found-is (λ (d : Connection). d.number == conn) s.connections c is)

    version-in : Event → ℕ
    version-in (Received n (message.Hello w x d)) = w
    version-in _ = 0

    alike : SaysAlike g e h conn (min version g.version) s.noted
    alike t w same (inl x) = absurd (true≢false (sym (ap is_opening x.0)))
    alike t w same (inr (inl x)) = absurd (true≢false (sym (ap is_opening x.1.0)))
    alike t w same (inr (inr x)) = x.1 ∙ ap (λ n. min n g.version) (sym (ap version-in x.0.came))

    answers : After (Frames.answer_hello g version conn (Frames.greeted space conn s))
    answers = subst (λ (b : Bool). After (if b then Frames.say_hello g (min version g.version) conn (Frames.greeted space conn s) else Frames.greeted space conn s)) (sym late)
        (λ turn. finishes g e h conn (min version g.version) s.noted (Frames.say_hello g (min version g.version) conn (Frames.greeted space conn s)) alike turn (says-kept g e conn (min version g.version) s.noted (Frames.greeted space conn s) none (λ o. refl)))

    closed : After (Endings.close g g.classes.unmarshal c.number s)
    closed turn = λ x f. absurd (true≢false (sym (ap (λ (o : Option Connection). is_some o) f) ∙ closed-so g g.classes.unmarshal conn c.number s number))

    hello : (o : Option Uuid) → c.dialled ≡ o
        → After (with_some o (if bytes_eq digest g.digest && nat_le version g.version then Frames.answer_hello g version c.number (Frames.greeted space c.number s) else Endings.close g g.classes.unmarshal c.number s)
        (λ to. if bytes_eq digest g.digest && bytes_eq space to then Frames.answered_hello g c to version space s else Endings.close g g.classes.connect c.number s))
    hello None f = pick (bytes_eq digest g.digest && nat_le version g.version)
      where
        pick : (b : Bool) → After (if b then Frames.answer_hello g version c.number (Frames.greeted space c.number s) else Endings.close g g.classes.unmarshal c.number s)
        pick true = subst (λ n. After (Frames.answer_hello g version n (Frames.greeted space n s))) (sym number) answers
        pick false = closed
    hello (Some to) f = absurd (some-none to (sym f ∙ accepted))

    by : (b : Bool) → b ≡ true → After (if b then Frames.first_frame g c m s else (if Frames.is_wrong_way (Frames.is_asking m) (is_some c.dialled) then Endings.close g g.classes.unmarshal c.number s else Frames.got g c m s))
    by true f = hello c.dialled refl
    by false f = absurd (true≢false (sym f))

-- ---- Hellos that were said

-- the version of a Hello that a space said on a connection: 1 or its own where it dialled; 1, or the lower of its own and that of a Hello that came, where it was dialled
abbrev pub AnsweredAs : Setting → List Event → ℕ → ℕ → Type 0
AnsweredAs g h conn version = ((nat_le 2 g.version ≡ false) × (version ≡ 1))
    ⊎ ((nat_le 2 g.version ≡ true) × ((heard : ℕ) × ((space : Uuid) × ((digest : List ℕ) × (IsOneOf (message.Hello heard space digest) (came_on conn h) × (version ≡ min heard g.version))))))

abbrev pub SaidAs : Setting → List Event → ℕ → ℕ → Type 0
SaidAs g h conn version = (HasOpened h conn true × ((version ≡ 1) ⊎ (version ≡ g.version))) ⊎ (HasOpened h conn false × AnsweredAs g h conn version)
