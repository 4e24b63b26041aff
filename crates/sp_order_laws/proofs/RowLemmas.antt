-- What becomes of the row of a connection: it stays, with whom it was dialled and whose Hello came, or it goes; a Hello that is welcome names the peer.
use mathlib.Core.Path.{sym, ap, subst, ◌∙◌}
use Rattle.std.proofs.Common.{inl, inr}
use Rattle.std.proofs.lemmas.Bool.{true≢false, eqb-true, eq-eqb}
use Rattle.std.specs.Str.{bytes_eq}
use Rattle.std.specs.Prelude.{◌≡◌, ◌⊎◌, refl, ℕ, ◌==◌, ◌&&◌, not, nat_le, min, cond, is_some, is_none, Bool, true, false, List, [], ◌∷◌, ◌++◌, Option, None, Some, filter, find, if◌then◌else◌}
use Rattle.net_message.specs.declared.message.Message.{Message}
use Rattle.net_message.specs.declared.message.Message.TheVariants as message
use Rattle.space_ids.specs.declared.ids.ClassId.{ClassId}
use Rattle.uuid.specs.declared.Uuid.{Uuid}
use Rattle.sp_rules.specs.Classes.{Setting}
use Rattle.sp_rules.specs.Endings
use Rattle.sp_rules.specs.Events.{Event, Opened, Received}
use Rattle.sp_rules.specs.Frames
use Rattle.sp_rules.specs.Laws.{AllOf}
use Rattle.sp_rules.specs.Lists.{with_some, at_first}
use Rattle.sp_rules.specs.OwnEvents
use Rattle.sp_rules.specs.Requests
use Rattle.sp_rules.specs.Space
use Rattle.sp_rules.specs.State.{State, Living, Origin, OfRoot, OfCall, Connection, connection_at, is_open, send}
use Rattle.sp_rules.proofs.AllLemmas.{some-none, found-is}
use Rattle.sp_rules.proofs.OwnLemmas.{some-same, and-left, and-right}
use Rattle.sp_laws.specs.Inbound.{opens}
use Rattle.sp_laws.proofs.FrameFlows.{View, Flows, Begins, EventParts, FrameParts, IsFrom, IsWhoWasDialled}
use Rattle.sp_laws.proofs.FrameSteps.{flush_flow}
use Rattle.sp_laws.proofs.FrameEvents.{on_flow, finish_event_flow}
use Rattle.sp_laws.specs.Open.{IsSilent}
use Rattle.sp_laws.proofs.OpenLemmas.{all-unit, all-dialled}
use Rattle.sp_laws.proofs.SilentLemmas.{closes_silent}
use Rattle.sp_laws.proofs.ShutLemmas.{has_row, row-ends, connection-ends, redial-shuts, ends-so}
use Rattle.sp_order_laws.specs.Hellos.{brings_on}

-- ---- rows

-- If there is a row of this number, it is of this peer and this Hello.
abbrev pub IsRowOf : ℕ → Option Uuid → Option Uuid → List Connection → Type 0
IsRowOf conn dialled peer rows = (c : Connection) → find (λ (x : Connection). x.number == conn) rows ≡ Some c → (c.peer ≡ peer) × (c.dialled ≡ dialled)

-- a row that is changed
row-set : (conn n : ℕ) (dialled peer now : Option Uuid) (f : Connection → Connection) → ((c : Connection) → (f c).number ≡ c.number) → ((c : Connection) → (f c).dialled ≡ c.dialled)
    → ((c : Connection) → (c.number == n) ≡ true → (c.number == conn) ≡ true → c.peer ≡ peer → (f c).peer ≡ now) → ((n == conn) ≡ false → peer ≡ now) → (rows : List Connection) → IsRowOf conn dialled peer rows → IsRowOf conn dialled now (at_first (λ (c : Connection). c.number == n) f rows)
row-set conn n dialled peer now f num dial own others [] k = λ x e. absurd (some-none x (sym e))
row-set conn n dialled peer now f num dial own others (c ∷ rows) k = by (c.number == conn) refl (c.number == n) refl k (row-set conn n dialled peer now f num dial own others rows)
  where
    rest-of : (c.number == conn) ≡ false → IsRowOf conn dialled peer (c ∷ rows) → IsRowOf conn dialled peer rows
    rest-of g k = λ x e. k x (ap (λ b. cond b (Some c) (find (λ (y : Connection). y.number == conn) rows)) g ∙ e)

    apart : (c.number == conn) ≡ true → (c.number == n) ≡ false → (n == conn) ≡ false
    apart g d = pick (n == conn) refl
      where
        pick : (b : Bool) → (n == conn) ≡ b → b ≡ false
        pick true e = absurd (true≢false (sym (eq-eqb c.number n (eqb-true c.number conn g ∙ sym (eqb-true n conn e))) ∙ d))
        pick false e = refl

    found : (c.number == conn) ≡ true → IsRowOf conn dialled peer (c ∷ rows) → (c.peer ≡ peer) × (c.dialled ≡ dialled)
    found g k = k c (ap (λ b. cond b (Some c) (find (λ (y : Connection). y.number == conn) rows)) g)

    by : (b : Bool) → (c.number == conn) ≡ b → (d : Bool) → (c.number == n) ≡ d → IsRowOf conn dialled peer (c ∷ rows) → (IsRowOf conn dialled peer rows → IsRowOf conn dialled now (at_first (λ (x : Connection). x.number == n) f rows))
        → IsRowOf conn dialled now (if d then f c ∷ rows else c ∷ at_first (λ (x : Connection). x.number == n) f rows)
    by true g true d k rest = λ x e.
        let same : f c ≡ x = some-same (sym (ap (λ b. cond b (Some (f c)) (find (λ (y : Connection). y.number == conn) rows)) (ap (λ m. m == conn) (num c) ∙ g)) ∙ e) in
        (ap (λ (y : Connection). y.peer) (sym same) ∙ own c d g (found g k).0, ap (λ (y : Connection). y.dialled) (sym same) ∙ (dial c ∙ (found g k).1))
    by true g false d k rest = λ x e.
        let same : c ≡ x = some-same (sym (ap (λ b. cond b (Some c) (find (λ (y : Connection). y.number == conn) (at_first (λ (z : Connection). z.number == n) f rows))) g) ∙ e) in
        (ap (λ (y : Connection). y.peer) (sym same) ∙ ((found g k).0 ∙ others (apart g d)), ap (λ (y : Connection). y.dialled) (sym same) ∙ (found g k).1)
    by false g true d k rest = λ x e.
        let y = rest-of g k x (sym (ap (λ b. cond b (Some (f c)) (find (λ (z : Connection). z.number == conn) rows)) (ap (λ m. m == conn) (num c) ∙ g)) ∙ e) in
        (y.0 ∙ others (ap (λ m. m == conn) (sym (eqb-true c.number n d)) ∙ g), y.1)
    by false g false d k rest = λ x e. rest (rest-of g k) x (sym (ap (λ b. cond b (Some c) (find (λ (y : Connection). y.number == conn) (at_first (λ (z : Connection). z.number == n) f rows))) g) ∙ e)

same-row : (conn n : ℕ) (dialled peer : Option Uuid) (f : Connection → Connection) → ((c : Connection) → (f c).number ≡ c.number) → ((c : Connection) → (f c).dialled ≡ c.dialled) → ((c : Connection) → (f c).peer ≡ c.peer) → (rows : List Connection)
    → IsRowOf conn dialled peer rows → IsRowOf conn dialled peer (at_first (λ (c : Connection). c.number == n) f rows)
same-row conn n dialled peer f num dial same rows k = row-set conn n dialled peer peer f num dial (λ c a b e. same c ∙ e) (λ a. refl) rows k

-- a row goes
row-goes : (conn n : ℕ) (dialled peer : Option Uuid) (rows : List Connection) → IsRowOf conn dialled peer rows → IsRowOf conn dialled peer (filter (λ (c : Connection). not (c.number == n)) rows)
row-goes conn n dialled peer rows k = pick (n == conn) refl
  where
    others : (n == conn) ≡ false → (rows : List Connection) → IsRowOf conn dialled peer rows → IsRowOf conn dialled peer (filter (λ (c : Connection). not (c.number == n)) rows)
    others apart rows k = keeps rows k
      where
        keeps : (cs : List Connection) → IsRowOf conn dialled peer cs → IsRowOf conn dialled peer (filter (λ (c : Connection). not (c.number == n)) cs)
        keeps [] k = λ x e. absurd (some-none x (sym e))
        keeps (c ∷ cs) k = by (c.number == conn) refl (c.number == n) refl k (keeps cs)
          where
            by : (b : Bool) → (c.number == conn) ≡ b → (d : Bool) → (c.number == n) ≡ d → IsRowOf conn dialled peer (c ∷ cs) → (IsRowOf conn dialled peer cs → IsRowOf conn dialled peer (filter (λ (x : Connection). not (x.number == n)) cs))
                → IsRowOf conn dialled peer (cond (not d) (c ∷ filter (λ (x : Connection). not (x.number == n)) cs) (filter (λ (x : Connection). not (x.number == n)) cs))
            by true g true d k rest = absurd (true≢false (sym (eq-eqb n conn (sym (eqb-true c.number n d) ∙ eqb-true c.number conn g)) ∙ apart))
            by true g false d k rest = λ x e. k x (ap (λ b. cond b (Some c) (find (λ (y : Connection). y.number == conn) cs)) g ∙ (sym (ap (λ b. cond b (Some c) (find (λ (y : Connection). y.number == conn) (filter (λ (z : Connection). not (z.number == n)) cs))) g) ∙ e))
            by false g true d k rest = rest (λ x e. k x (ap (λ b. cond b (Some c) (find (λ (y : Connection). y.number == conn) cs)) g ∙ e))
            by false g false d k rest = λ x e. rest (λ y f. k y (ap (λ b. cond b (Some c) (find (λ (z : Connection). z.number == conn) cs)) g ∙ f)) x (sym (ap (λ b. cond b (Some c) (find (λ (y : Connection). y.number == conn) (filter (λ (z : Connection). not (z.number == n)) cs))) g) ∙ e)

    pick : (b : Bool) → (n == conn) ≡ b → IsRowOf conn dialled peer (filter (λ (c : Connection). not (c.number == n)) rows)
    pick true e = λ x f. absurd (true≢false (sym (ap (λ (o : Option Connection). is_some o) f) ∙ subst (λ m. has_row conn (filter (λ (c : Connection). not (c.number == m)) rows) ≡ false) (sym (eqb-true n conn e)) (row-ends conn rows)))
    pick false e = others e rows k

-- a row comes: another one, or the only one
row-comes : (conn : ℕ) (dialled peer : Option Uuid) (new : Connection) → ((new.number == conn) ≡ true → (new.peer ≡ peer) × (new.dialled ≡ dialled)) → (rows : List Connection) → IsRowOf conn dialled peer rows → IsRowOf conn dialled peer (rows ++ new ∷ [])
row-comes conn dialled peer new own [] k = λ x e. by (new.number == conn) refl x e
  where
    by : (b : Bool) → (new.number == conn) ≡ b → (x : Connection) → cond b (Some new) None ≡ Some x → (x.peer ≡ peer) × (x.dialled ≡ dialled)
    by true g x e = subst (λ (y : Connection). (y.peer ≡ peer) × (y.dialled ≡ dialled)) (some-same e) (own g)
    by false g x e = absurd (some-none x (sym e))
row-comes conn dialled peer new own (c ∷ rows) k = by (c.number == conn) k (row-comes conn dialled peer new own rows)
  where
    by : (b : Bool) → ((x : Connection) → cond b (Some c) (find (λ (y : Connection). y.number == conn) rows) ≡ Some x → (x.peer ≡ peer) × (x.dialled ≡ dialled)) → (IsRowOf conn dialled peer rows → IsRowOf conn dialled peer (rows ++ new ∷ []))
        → (x : Connection) → cond b (Some c) (find (λ (y : Connection). y.number == conn) (rows ++ new ∷ [])) ≡ Some x → (x.peer ≡ peer) × (x.dialled ≡ dialled)
    by true k rest = k
    by false k rest = rest k

-- ---- through the rules

abbrev view : Setting → Event → ℕ → Option Uuid → Option Uuid → View
view g e conn dialled peer = record {
  setting = g;
  event = e;
  Dialled = λ c d. Unit {0};
  Answers = λ c m. Unit {0};
  Known = λ p. Unit {0};
  Fails = λ c. Unit {0};
  Ends = λ a r. Unit {0};
  Starts = λ o n a. Unit {0};
  Speaks = λ c version. Unit {0};
  Fits = λ c ids. Unit {0};
  Keeps = λ l t. IsRowOf conn dialled peer t.connections;
}

all-from : (g : Setting) (e : Event) (conn : ℕ) (dialled peer : Option Uuid) (ts : List Living) → AllOf (λ (t : Living). IsFrom (view g e conn dialled peer) t.origin) ts
all-from g e conn dialled peer [] = tt
all-from g e conn dialled peer (t ∷ ts) = (one t.origin, all-from g e conn dialled peer ts)
  where
    one : (o : Origin) → IsFrom (view g e conn dialled peer) o
    one OfRoot = tt
    one (OfCall c n) = tt

row_flow : (g : Setting) (e : Event) (conn : ℕ) (dialled peer : Option Uuid) → Flows (view g e conn dialled peer)
row_flow g e conn dialled peer = record {
  known = λ l t k. all-unit t.parked;
  dialled = λ l t k. all-dialled t.connections;
  origins = λ l t k. all-from g e conn dialled peer t.tasks;
  sided = λ p a. tt;
  fails = λ asked class a. tt;
  starts = λ l s p target method fuel arguments o n going k known is stands finds. tt;
  gives = λ p value fuel asked is a b c. tt;
  refuses = λ c n class is. tt;
  finds = λ c n name r is own. tt;
  speaks = λ l s conn version is k. tt;
  fits = λ l s conn ids few k. tt;
  quiet = λ l t u eq k. subst (λ (p : EventParts). IsRowOf conn dialled peer p.connections) (sym (ap (λ (p : FrameParts). p.parts) eq)) k;
  says = λ l t output is so k. k;
  sends = λ l t turn c m may there held k. k;
  clears = λ t k. k;
  stores = λ l s store is k. k;
  adds = λ l t q k. k;
  calls_out = λ l t turn c p number task lent kind m known there k. k;
  looks_out = λ l t turn c p number task name known there k. k;
  tells = λ l t q call group eq k. k;
  told = λ l t p call group k. k;
  unfresh = λ l t k. k;
  removes = λ l t is k. k;
  sorts = λ l t is rs k. k;
  removes_one = λ l t finds is n q eq passes has k. k;
  removes_told = λ l t dirty c sequence k. k;
  answers = λ l t c n k. k;
  begins = λ l t origin method arguments fuel going at k. k;
  ends = λ l t id u over is k. k;
  replies = λ l t p number task lent kind m reply u may is k. k;
  replies_none = λ l t p number task lent kind m is k. k;
  looked_up = λ l t p number task name reply may k. k;
  works = λ l t id u f lent row ready is k. k;
  keeps = λ l t until value k. k;
  results_go = λ l t is goes k. k;
  falls = λ l t c n k. k;
  sent = λ l t c m k. same-row conn c dialled peer (λ (d : Connection). record d { sent = m ∷ d.sent }) (λ d. refl) (λ d. refl) (λ d. refl) t.connections k;
  counts = λ l t c n d there is low k. same-row conn c dialled peer (λ (d : Connection). record d { last = n }) (λ d. refl) (λ d. refl) (λ d. refl) t.connections k;
  parks_call = λ l t p going known is k. k;
  parks_result = λ l t p known is k. k;
  takes = λ l t p k. k;
  takes_call = λ l t p q is call k. k;
  versions = λ l t c n speaks k. same-row conn c dialled peer (λ (d : Connection). record d { version = n }) (λ d. refl) (λ d. refl) (λ d. refl) t.connections k;
  notes_peer = λ l s conn c peer space digest same is higher k. k;
  closes = λ l t c d is why k. row-goes conn c dialled peer t.connections k;
}

-- A frame that comes finds a peer.
abbrev FindsPeer : Event → ℕ → Option Uuid → Type 0
FindsPeer e conn peer = brings_on conn e ≡ true → is_some peer ≡ true

row-begin : (g : Setting) (e : Event) (conn : ℕ) (dialled peer : Option Uuid) (s : State) → opens conn e ≡ false → FindsPeer e conn peer → Begins (view g e conn dialled peer) s
row-begin g e conn dialled peer s apart finds = record {
  opens = λ c d is k. row-comes conn dialled peer (record { number = c; dialled = d; peer = None; version = 1; last = 0; sent = [] }) (λ same. absurd (true≢false (sym same ∙ subst (λ x. opens conn x ≡ false) is apart))) s.connections k;
  parks = λ id n t target method arguments is ready stands k. k;
  looks = λ p name is k. k;
  greets = λ c version space digest is row none same who k. (
    row-set conn c.number dialled peer peer (λ (d : Connection). record d { peer = Some space }) (λ d. refl) (λ d. refl)
        (λ d at here eq. absurd (never c (message.Hello version space digest) is row none (sym (eqb-true d.number c.number at) ∙ eqb-true d.number conn here) k)) (λ a. refl) s.connections k,
    tt,
  );
  roots = λ method arguments fuel is. tt;
  unmarshal = λ is. tt;
  connect = λ is. tt;
  marshal = λ is. tt;
  threw = λ c n class is q found has. tt;
  spent = λ c n is q found has. tt;
  finished = λ id k t outcome c n is ready stands origin. tt;
  call_came = λ p target o method passed arguments is there stands may fit names. tt;
  result_came = λ p value fuel is frame there q found fits names. tt;
}
  where
    both : (o : Option Uuid) → is_none o ≡ true → is_some o ≡ true → ⊥
    both None a b = true≢false (sym b)
    both (Some x) a b = true≢false (sym a)

    never : (c : Connection) (m : Message) → e ≡ Received c.number m → connection_at s c.number ≡ Some c → is_none c.peer ≡ true → c.number ≡ conn → IsRowOf conn dialled peer s.connections → ⊥
    never c m is row none same k = both c.peer none (subst (λ (o : Option Uuid). is_some o ≡ true) (sym (k c (subst (λ n. connection_at s n ≡ Some c) same row)).0)
        (finds (subst (λ x. brings_on conn x ≡ true) (sym is) (eq-eqb c.number conn same))))

-- An event that does not open the connection leaves its row, if it stays; a first Hello is not meant.
pub row-stays : (g : Setting) (e : Event) (conn : ℕ) (dialled peer : Option Uuid) (s : State) → opens conn e ≡ false → FindsPeer e conn peer → IsRowOf conn dialled peer s.connections → IsRowOf conn dialled peer (Space.on g e s).0.connections
row-stays g e conn dialled peer s apart finds k = on_flow (row_flow g e conn dialled peer) s (row-begin g e conn dialled peer s apart finds) k

finishes : (g : Setting) (e : Event) (conn : ℕ) (dialled peer : Option Uuid) (s : State) → IsRowOf conn dialled peer s.connections → IsRowOf conn dialled peer (Space.finish_event true s).0.connections
finishes g e conn dialled peer s k = finish_event_flow (row_flow g e conn dialled peer) true k

-- ---- a connection opens

none-there : (conn : ℕ) (dialled peer : Option Uuid) (s : State) → is_open s conn ≡ false → IsRowOf conn dialled peer s.connections
none-there conn dialled peer s k = λ x e. absurd (true≢false (sym (ap (λ (o : Option Connection). is_some o) e) ∙ k))

sent-rows : (conn : ℕ) (m : Message) (t : State) → (send Rattle.sp_rules.specs.Events.Hellos conn m t).connections ≡ t.connections
unfolding send
sent-rows conn m t = by (is_open t conn)
  where
    by : (b : Bool) → (if b then record t { notes = t.notes ++ Rattle.sp_rules.specs.Events.Sends Rattle.sp_rules.specs.Events.Hellos conn m ∷ [] } else t).connections ≡ t.connections
    by true = refl
    by false = refl

-- A Hello that is said gives its connection a version, no more.
says-row : (g : Setting) (n version conn : ℕ) (dialled peer : Option Uuid) (t : State) → IsRowOf conn dialled peer t.connections → IsRowOf conn dialled peer (Frames.say_hello g version n t).connections
says-row g n version conn dialled peer t k = same-row conn n dialled peer (λ (d : Connection). record d { version = version }) (λ d. refl) (λ d. refl) (λ d. refl) (send Rattle.sp_rules.specs.Events.Hellos n (message.Hello version g.id g.digest) t).connections
    (subst (λ (cs : List Connection). IsRowOf conn dialled peer cs) (sym (sent-rows n (message.Hello version g.id g.digest) t)) k)

pub row-opens : (g : Setting) (conn : ℕ) (dialled : Option Uuid) (s : State) → is_open s conn ≡ false → IsRowOf conn dialled None (Space.on g (Opened conn dialled) s).0.connections
unfolding Space.on Space.happen OwnEvents.on_opened
row-opens g conn dialled s k = finishes g (Opened conn dialled) conn dialled None _ (by dialled)
  where
    new : IsRowOf conn dialled None (s.connections ++ record { number = conn; dialled = dialled; peer = None; version = 1; last = 0; sent = [] } ∷ [])
    new = row-comes conn dialled None (record { number = conn; dialled = dialled; peer = None; version = 1; last = 0; sent = [] }) (λ same. (refl, refl)) s.connections (none-there conn dialled None s k)

    rows : (d : Option Uuid) → (OwnEvents.dialled_no_more d (OwnEvents.add_connection conn dialled s)).connections ≡ s.connections ++ record { number = conn; dialled = dialled; peer = None; version = 1; last = 0; sent = [] } ∷ []
    rows None = refl
    rows (Some peer) = refl

    there : (d : Option Uuid) → IsRowOf conn dialled None (OwnEvents.dialled_no_more d (OwnEvents.add_connection conn dialled s)).connections
    there d = subst (λ (cs : List Connection). IsRowOf conn dialled None cs) (sym (rows d)) new

    by : (d : Option Uuid) → IsRowOf conn dialled None (OwnEvents.first_hello g conn d (OwnEvents.dialled_no_more d (OwnEvents.add_connection conn dialled s))).connections
    by None = pick (nat_le 2 g.version)
      where
        pick : (b : Bool) → IsRowOf conn dialled None (if b then OwnEvents.add_connection conn dialled s else Frames.say_hello g 1 conn (OwnEvents.add_connection conn dialled s)).connections
        pick true = there None
        pick false = says-row g conn 1 conn dialled None (OwnEvents.add_connection conn dialled s) (there None)
    by (Some peer) = says-row g conn _ conn dialled None (OwnEvents.dialled_no_more (Some peer) (OwnEvents.add_connection conn dialled s)) (there (Some peer))

-- ---- a frame comes

-- A frame is a Hello that is welcome: of the same digest, from the space that was dialled, if one was.
pub record IsWelcomed (g : Setting) (conn : ℕ) (dialled : Option Uuid) (m : Message) (t : State) : Type 0 where
  pub version : ℕ
  pub space : Uuid
  pub digest : List ℕ
  pub says : m ≡ message.Hello version space digest
  pub same : bytes_eq digest g.digest ≡ true
  pub who : IsWhoWasDialled dialled space
  pub row : IsRowOf conn dialled (Some space) t.connections

pub closed-so : (g : Setting) (class : ClassId) (conn n : ℕ) (s : State) → n ≡ conn → is_open (Space.finish_event true (Endings.close g class n s)).0 conn ≡ false
unfolding Endings.close
closed-so g class conn n s same = subst (λ m. is_open (Space.finish_event true (Endings.close g class m s)).0 conn ≡ false) (sym same) (ends-so g conn (Endings.close g class conn s) (connection-ends g (λ asked. class) conn s))

pub redialled-so : (g : Setting) (peer : Uuid) (conn n : ℕ) (s : State) → n ≡ conn → is_open (Space.finish_event true (Endings.redial peer n s)).0 conn ≡ false
redialled-so g peer conn n s same = subst (λ m. is_open (Space.finish_event true (Endings.redial peer m s)).0 conn ≡ false) (sym same) (ends-so g conn (Endings.redial peer conn s) (redial-shuts g peer conn s))

-- a first frame
pub first-comes : (g : Setting) (conn : ℕ) (m : Message) (s : State) (c : Connection) → connection_at s conn ≡ Some c → c.peer ≡ None
    → (is_open (Space.on g (Received conn m) s).0 conn ≡ false) ⊎ IsWelcomed g conn c.dialled m (Space.on g (Received conn m) s).0
unfolding Space.on Space.happen Frames.receive Frames.first_frame
first-comes g conn m s c is none = subst (λ (o : Option Connection). (is_open (Space.finish_event true (OwnEvents.received_on g o m s)).0 conn ≡ false) ⊎ IsWelcomed g conn c.dialled m (Space.finish_event true (OwnEvents.received_on g o m s)).0) (sym is)
    (by true (ap (λ (o : Option Uuid). is_none o) none))
  where
    number : c.number ≡ conn
    number = eqb-true c.number conn (found-is (λ (d : Connection). d.number == conn) s.connections c is)

    After : State → Type 0
    After t = (is_open (Space.finish_event true t).0 conn ≡ false) ⊎ IsWelcomed g conn c.dialled m (Space.finish_event true t).0

    named : (space : Uuid) → IsRowOf conn c.dialled (Some space) (Frames.greeted space c.number s).connections
    named space = row-set conn c.number c.dialled None (Some space) (λ (d : Connection). record d { peer = Some space }) (λ d. refl) (λ d. refl) (λ d at here e. refl)
        (λ apart. absurd (true≢false (sym (eq-eqb c.number conn number) ∙ apart))) s.connections (λ x e. subst (λ (y : Connection). (y.peer ≡ None) × (y.dialled ≡ c.dialled)) (some-same (sym is ∙ e)) (none, refl))

    welcome : (version : ℕ) (space : Uuid) (digest : List ℕ) (t : State) → m ≡ message.Hello version space digest → bytes_eq digest g.digest ≡ true → IsWhoWasDialled c.dialled space → IsRowOf conn c.dialled (Some space) t.connections → After t
    welcome version space digest t says same who row = inr (record { version = version; space = space; digest = digest; says = says; same = same; who = who; row = finishes g (Received conn m) conn c.dialled (Some space) t row })

    hello : (version : ℕ) (space : Uuid) (digest : List ℕ) → m ≡ message.Hello version space digest → (o : Option Uuid) → c.dialled ≡ o
        → After (with_some o (if bytes_eq digest g.digest && nat_le version g.version then Frames.answer_hello g version c.number (Frames.greeted space c.number s) else Endings.close g g.classes.unmarshal c.number s)
        (λ peer. if bytes_eq digest g.digest && bytes_eq space peer then Frames.answered_hello g c peer version space s else Endings.close g g.classes.connect c.number s))
    hello version space digest says None dialled = pick (bytes_eq digest g.digest && nat_le version g.version) refl
      where
        answered : (b : Bool) → IsRowOf conn c.dialled (Some space) (if b then Frames.say_hello g (min version g.version) c.number (Frames.greeted space c.number s) else Frames.greeted space c.number s).connections
        answered true = says-row g c.number (min version g.version) conn c.dialled (Some space) (Frames.greeted space c.number s) (named space)
        answered false = named space

        pick : (b : Bool) → bytes_eq digest g.digest && nat_le version g.version ≡ b → After (if b then Frames.answer_hello g version c.number (Frames.greeted space c.number s) else Endings.close g g.classes.unmarshal c.number s)
        pick true e = welcome version space digest _ says (and-left (bytes_eq digest g.digest) (nat_le version g.version) e) (subst (λ o. IsWhoWasDialled o space) (sym dialled) tt) (answered (nat_le 2 g.version))
        pick false e = inl (closed-so g g.classes.unmarshal conn c.number s number)
    hello version space digest says (Some peer) dialled = pick (bytes_eq digest g.digest && bytes_eq space peer) refl
      where
        known : bytes_eq digest g.digest && bytes_eq space peer ≡ true → (v r : Bool) → After (if v then Requests.flush_waiting peer c.number (Frames.greeted space c.number s) else (if r then Endings.redial peer c.number s else Endings.close g g.classes.unmarshal c.number s))
        known e false true = inl (redialled-so g peer conn c.number s number)
        known e false false = inl (closed-so g g.classes.unmarshal conn c.number s number)
        known e true r = welcome version space digest _ says (and-left (bytes_eq digest g.digest) (bytes_eq space peer) e) (subst (λ o. IsWhoWasDialled o space) (sym dialled) (and-right (bytes_eq digest g.digest) (bytes_eq space peer) e))
            (flush_flow (row_flow g (Received conn m) conn c.dialled (Some space)) {l = []} peer c.number tt (named space))

        pick : (b : Bool) → bytes_eq digest g.digest && bytes_eq space peer ≡ b → After (if b then Frames.answered_hello g c peer version space s else Endings.close g g.classes.connect c.number s)
        pick true e = known e (version == c.version) (nat_le 2 c.version && version == 1)
        pick false e = inl (closed-so g g.classes.connect conn c.number s number)

    first : (n : Message) → m ≡ n → After (Frames.first_frame g c n s)
    first (message.Hello version space digest) says = hello version space digest says c.dialled refl
    first _ says = inl (closed-so g g.classes.unmarshal conn c.number s number)

    by : (b : Bool) → is_none c.peer ≡ b → After (if is_none c.peer then Frames.first_frame g c m s else (if Frames.is_wrong_way (Frames.is_asking m) (is_some c.dialled) then Endings.close g g.classes.unmarshal c.number s else Frames.got g c m s))
    by true e = subst (λ (d : Bool). After (if d then Frames.first_frame g c m s else (if Frames.is_wrong_way (Frames.is_asking m) (is_some c.dialled) then Endings.close g g.classes.unmarshal c.number s else Frames.got g c m s))) (sym e) (first m refl)
    by false e = absurd (true≢false (sym (ap (λ (o : Option Uuid). is_none o) none) ∙ e))

-- a second Hello
pub hello-again : (g : Setting) (conn version : ℕ) (space : Uuid) (digest : List ℕ) (s : State) (c : Connection) → connection_at s conn ≡ Some c → is_some c.peer ≡ true
    → is_open (Space.on g (Received conn (message.Hello version space digest)) s).0 conn ≡ false
unfolding Space.on Space.happen Frames.receive Frames.got
hello-again g conn version space digest s c is some = subst (λ (o : Option Connection). is_open (Space.finish_event true (OwnEvents.received_on g o (message.Hello version space digest) s)).0 conn ≡ false) (sym is) (by (is_none c.peer) refl)
  where
    number : c.number ≡ conn
    number = eqb-true c.number conn (found-is (λ (d : Connection). d.number == conn) s.connections c is)

    both : (o : Option Uuid) → is_none o ≡ true → is_some o ≡ true → ⊥
    both None a b = true≢false (sym b)
    both (Some x) a b = true≢false (sym a)

    shut : (b : Bool) → is_open (Space.finish_event true (if b then Endings.close g g.classes.unmarshal c.number s else Endings.close g g.classes.unmarshal c.number s)).0 conn ≡ false
    shut true = closed-so g g.classes.unmarshal conn c.number s number
    shut false = closed-so g g.classes.unmarshal conn c.number s number

    by : (b : Bool) → is_none c.peer ≡ b → is_open (Space.finish_event true (if is_none c.peer then Frames.first_frame g c (message.Hello version space digest) s else (if Frames.is_wrong_way false (is_some c.dialled) then Endings.close g g.classes.unmarshal c.number s else Endings.close g g.classes.unmarshal c.number s))).0 conn ≡ false
    by true e = absurd (both c.peer e some)
    by false e = subst (λ (d : Bool). is_open (Space.finish_event true (if d then Frames.first_frame g c (message.Hello version space digest) s else (if Frames.is_wrong_way false (is_some c.dialled) then Endings.close g g.classes.unmarshal c.number s else Endings.close g g.classes.unmarshal c.number s))).0 conn ≡ false) (sym e) (shut (Frames.is_wrong_way false (is_some c.dialled)))

-- which says nothing there
pub again-silent : (g : Setting) (conn version : ℕ) (space : Uuid) (digest : List ℕ) (s : State) (c : Connection) → s.notes ≡ [] → connection_at s conn ≡ Some c → is_some c.peer ≡ true
    → IsSilent conn (Space.on g (Received conn (message.Hello version space digest)) s).1
unfolding Space.on Space.happen Frames.receive Frames.got
again-silent g conn version space digest s c nothing is some = subst (λ (o : Option Connection). IsSilent conn (Space.finish_event true (OwnEvents.received_on g o (message.Hello version space digest) s)).1) (sym is) (by (is_none c.peer) refl)
  where
    number : c.number ≡ conn
    number = eqb-true c.number conn (found-is (λ (d : Connection). d.number == conn) s.connections c is)

    both : (o : Option Uuid) → is_none o ≡ true → is_some o ≡ true → ⊥
    both None a b = true≢false (sym b)
    both (Some x) a b = true≢false (sym a)

    silent-so : IsSilent conn (Space.finish_event true (Endings.close g g.classes.unmarshal c.number s)).1
    silent-so = subst (λ n. IsSilent conn (Space.finish_event true (Endings.close g g.classes.unmarshal n s)).1) (sym number) (closes_silent g (message.Hello version space digest) g.classes.unmarshal conn s nothing)

    shut : (b : Bool) → IsSilent conn (Space.finish_event true (if b then Endings.close g g.classes.unmarshal c.number s else Endings.close g g.classes.unmarshal c.number s)).1
    shut true = silent-so
    shut false = silent-so

    by : (b : Bool) → is_none c.peer ≡ b → IsSilent conn (Space.finish_event true (if is_none c.peer then Frames.first_frame g c (message.Hello version space digest) s else (if Frames.is_wrong_way false (is_some c.dialled) then Endings.close g g.classes.unmarshal c.number s else Endings.close g g.classes.unmarshal c.number s))).1
    by true e = absurd (both c.peer e some)
    by false e = subst (λ (d : Bool). IsSilent conn (Space.finish_event true (if d then Frames.first_frame g c (message.Hello version space digest) s else (if Frames.is_wrong_way false (is_some c.dialled) then Endings.close g g.classes.unmarshal c.number s else Endings.close g g.classes.unmarshal c.number s))).1) (sym e) (shut (Frames.is_wrong_way false (is_some c.dialled)))
