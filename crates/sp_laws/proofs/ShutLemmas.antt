-- A connection that is not open stays so through every event that does not open it, and one that ends is not open.
use mathlib.Core.Path.{sym, ap, subst, ◌∙◌}
use Rattle.std.proofs.lemmas.Bool.{true≢false, eqb-true}
use Rattle.std.specs.Prelude.{◌≡◌, refl, ℕ, ◌==◌, ◌||◌, not, cond, is_some, Bool, true, false, List, [], ◌∷◌, ◌++◌, Option, None, Some, filter, find, if◌then◌else◌}
use Rattle.uuid.specs.declared.Uuid.{Uuid}
use Rattle.space_ids.specs.declared.ids.ClassId.{ClassId}
use Rattle.sp_rules.specs.Classes.{Setting}
use Rattle.sp_rules.specs.Endings
use Rattle.sp_rules.specs.Events.{Event, Closed, ReadFailed, Bad, WriteFailed, Dial, Close}
use Rattle.sp_rules.specs.Lists.{each, with_some, at_first}
use Rattle.sp_rules.specs.Requests
use Rattle.sp_rules.specs.Space
use Rattle.sp_rules.specs.State as state
use Rattle.sp_rules.specs.State.{State, Connection, ParkedFrame, Asked, connection_at, connection_to, is_open, say}
use Rattle.sp_laws.specs.Inbound.{opens}
use Rattle.sp_laws.proofs.FlowRules.{Flows, Begins, FlowParts, Owed, each_flow, end_requests_flow, finish_event_flow, let_go_flow, on_flow}
use Rattle.sp_laws.specs.Open.{ends_on, ConnectionsEnd}

-- ---- rows

abbrev pub has_row : ℕ → List Connection → Bool
has_row conn rows = is_some (find (λ (c : Connection). c.number == conn) rows)

-- a row that is changed keeps its number
pub row-stays : (conn n : ℕ) (f : Connection → Connection) → ((c : Connection) → (f c).number ≡ c.number) → (rows : List Connection) → has_row conn rows ≡ false → has_row conn (at_first (λ (c : Connection). c.number == n) f rows) ≡ false
row-stays conn n f keeps [] e = e
row-stays conn n f keeps (c ∷ rows) e = by (c.number == conn) refl (c.number == n) e (row-stays conn n f keeps rows)
  where
    by : (b : Bool) → (c.number == conn) ≡ b → (d : Bool) → is_some (cond b (Some c) (find (λ (x : Connection). x.number == conn) rows)) ≡ false
        → (has_row conn rows ≡ false → has_row conn (at_first (λ (x : Connection). x.number == n) f rows) ≡ false)
        → has_row conn (if d then f c ∷ rows else c ∷ at_first (λ (x : Connection). x.number == n) f rows) ≡ false
    by true g d k rest = absurd (true≢false k)
    by false g true k rest = ap (λ b. is_some (cond b (Some (f c)) (find (λ (x : Connection). x.number == conn) rows))) (ap (λ m. m == conn) (keeps c) ∙ g) ∙ k
    by false g false k rest = ap (λ b. is_some (cond b (Some c) (find (λ (x : Connection). x.number == conn) (at_first (λ (y : Connection). y.number == n) f rows)))) g ∙ rest k

-- fewer rows
pub row-gone : (conn : ℕ) (is : Connection → Bool) (rows : List Connection) → has_row conn rows ≡ false → has_row conn (filter is rows) ≡ false
row-gone conn is [] e = e
row-gone conn is (c ∷ rows) e = by (c.number == conn) refl (is c) e (row-gone conn is rows)
  where
    by : (b : Bool) → (c.number == conn) ≡ b → (d : Bool) → is_some (cond b (Some c) (find (λ (x : Connection). x.number == conn) rows)) ≡ false
        → (has_row conn rows ≡ false → has_row conn (filter is rows) ≡ false) → has_row conn (cond d (c ∷ filter is rows) (filter is rows)) ≡ false
    by true g d k rest = absurd (true≢false k)
    by false g true k rest = ap (λ b. is_some (cond b (Some c) (find (λ (x : Connection). x.number == conn) (filter is rows)))) g ∙ rest k
    by false g false k rest = rest k

-- the row itself goes
pub row-ends : (conn : ℕ) (rows : List Connection) → has_row conn (filter (λ (c : Connection). not (c.number == conn)) rows) ≡ false
row-ends conn [] = refl
row-ends conn (c ∷ rows) = by (c.number == conn) refl (row-ends conn rows)
  where
    by : (b : Bool) → (c.number == conn) ≡ b → has_row conn (filter (λ (x : Connection). not (x.number == conn)) rows) ≡ false → has_row conn (cond (not b) (c ∷ filter (λ (x : Connection). not (x.number == conn)) rows) (filter (λ (x : Connection). not (x.number == conn)) rows)) ≡ false
    by true g rest = rest
    by false g rest = ap (λ b. is_some (cond b (Some c) (find (λ (x : Connection). x.number == conn) (filter (λ (x : Connection). not (x.number == conn)) rows)))) g ∙ rest

-- another row comes
pub row-comes : (conn : ℕ) (rows : List Connection) (c : Connection) → (c.number == conn) ≡ false → has_row conn rows ≡ false → has_row conn (rows ++ c ∷ []) ≡ false
row-comes conn [] c apart e = ap (λ b. is_some (cond b (Some c) None)) apart
row-comes conn (d ∷ rows) c apart e = by (d.number == conn) e (row-comes conn rows c apart)
  where
    by : (b : Bool) → is_some (cond b (Some d) (find (λ (x : Connection). x.number == conn) rows)) ≡ false → (has_row conn rows ≡ false → has_row conn (rows ++ c ∷ []) ≡ false)
        → is_some (cond b (Some d) (find (λ (x : Connection). x.number == conn) (rows ++ c ∷ []))) ≡ false
    by true k rest = absurd (true≢false k)
    by false k rest = rest k

-- ---- through the rules

abbrev pub Shut : ℕ → List Owed → State → Type 0
Shut conn l s = is_open s conn ≡ false

pub shut_flow : (g : Setting) (conn : ℕ) → Flows g (Shut conn)
shut_flow g conn = record {
  quiet = λ l s t eq k. ap (λ (p : FlowParts). has_row conn p.connections) eq ∙ k;
  adds = λ l s q k. k;
  tells = λ l s q call group eq k. k;
  told = λ l s peer call group k. k;
  unfresh = λ l s k. k;
  removes = λ l s is k. k;
  sorts = λ l s is rs k. k;
  removes_one = λ l s finds is n q eq passes has k. k;
  removes_told = λ l s dirty c sequence k. k;
  begins = λ l s origin method arguments fuel k. k;
  ends = λ l s id t is k. k;
  replies = λ l s peer number task lent kind m reply t is k. k;
  replies_none = λ l s peer number task lent kind m is k. k;
  looked_up = λ l s peer number task name k. k;
  works = λ l s id t f row waits is k. k;
  keeps = λ l s until value k. k;
  results_go = λ l s is k. k;
  falls = λ l s c n k. k;
  row = λ l s n f num last dialled k. row-stays conn n f num s.connections k;
  counts = λ l s n number c is low k. row-stays conn n (λ (d : Connection). record d { last = number }) (λ d. refl) s.connections k;
  parks_call = λ l s p is k. k;
  parks_result = λ l s p is k. k;
  answers = λ l s c n k. k;
  takes = λ l s p k. k;
  takes_call = λ l s p q is call k. k;
  closes = λ l s n k. row-gone conn (λ (d : Connection). not (d.number == n)) s.connections k;
}

-- a connection that goes
pub connection-goes : (g : Setting) (conn : ℕ) (s : State) → is_open (Endings.let_connection_go conn s) conn ≡ false
connection-goes g conn s = each_flow (shut_flow g conn) {l = []} Endings.unpark (filter (λ (p : ParkedFrame). p.conn == conn) s.parked) (λ t p k. let_go_flow (shut_flow g conn) {l = []} p t.parked k) (row-ends conn s.connections)

-- a connection on whose peer this space gives up, to dial it again
pub redial-shuts : (g : Setting) (peer : Uuid) (conn : ℕ) (s : State) → is_open (Endings.redial peer conn s) conn ≡ false
unfolding Endings.redial Requests.dial
redial-shuts g peer conn s = pick (is_some (connection_to closed peer) || state.is_dialling closed peer)
  where
    closed : State
    closed = say (Close conn) (Endings.let_connection_go conn (Endings.note_peer peer s))

    pick : (b : Bool) → is_open (if b then closed else say (Dial peer) (record closed { dialling = closed.dialling ++ peer ∷ [] })) conn ≡ false
    pick true = connection-goes g conn (Endings.note_peer peer s)
    pick false = connection-goes g conn (Endings.note_peer peer s)

-- an end of a connection
pub connection-ends : (g : Setting) (why : Asked → ClassId) (conn : ℕ) (s : State) → is_open (Endings.end_connection g why conn s) conn ≡ false
unfolding Endings.end_connection
connection-ends g why conn s = by (connection_at s conn) refl
  where
    by : (o : Option Connection) → connection_at s conn ≡ o
        → is_open (with_some o s (λ c. Endings.end_requests g (Endings.is_of_connection conn c.dialled) why (each Endings.unpark (filter (λ (p : ParkedFrame). p.conn == conn) s.parked) (Endings.without_connection conn s)))) conn ≡ false
    by None e = ap (λ (o : Option Connection). is_some o) e
    by (Some c) e = end_requests_flow (shut_flow g conn) {l = []} (Endings.is_of_connection conn c.dialled) why (connection-goes g conn s)

abbrev Begun : Setting → ℕ → State → Event → Type 0
Begun g conn s e = Begins g (Shut conn) s e

shut-begin : (g : Setting) (conn : ℕ) (s : State) (e : Event) → opens conn e ≡ false → Begun g conn s e
shut-begin g conn s e apart = record {
  opens = λ n dialled is k. row-comes conn s.connections (record { number = n; dialled = dialled; peer = None; version = 1; last = 0; sent = [] }) (subst (λ d. opens conn d ≡ false) is apart) k;
  parks = λ id k t target method arguments is ready stands h. h;
  looks = λ peer name is h. h;
}

-- what an event leaves as it ends a connection
pub ends-so : (g : Setting) (conn : ℕ) (s : State) → is_open s conn ≡ false → is_open (Space.finish_event true s).0 conn ≡ false
ends-so g conn s k = finish_event_flow (shut_flow g conn) true k

pub connections_end : ConnectionsEnd
unfolding Space.on Space.happen Endings.fail_write
connections_end g s e conn = record {
  stays = λ k apart. on_flow (shut_flow g conn) s e (shut-begin g conn s e apart) k;
  ends = ends e;
}
  where
    ended : (why : Asked → ClassId) (c : ℕ) → (c == conn) ≡ true → is_open (Space.finish_event true (Endings.end_connection g why c s)).0 conn ≡ false
    ended why c same = subst (λ n. is_open (Space.finish_event true (Endings.end_connection g why n s)).0 conn ≡ false) (sym (eqb-true c conn same)) (ends-so g conn (Endings.end_connection g why conn s) (connection-ends g why conn s))

    ends : (e : Event) → ends_on conn e ≡ true → is_open (Space.on g e s).0 conn ≡ false
    ends (Closed c) is = ended (Endings.by_unmarshal g) c is
    ends (ReadFailed c) is = ended (Endings.by_unmarshal g) c is
    ends (Bad c) is = ended (Endings.by_unmarshal g) c is
    ends (WriteFailed c unsent) is = ended (Endings.why_unsent g (Endings.unsent_calls s c unsent)) c is
    ends _ is = absurd (true≢false (sym is))
