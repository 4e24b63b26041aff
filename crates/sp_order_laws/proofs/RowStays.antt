-- The connections of a space: each was opened so, and stays open while nothing ends it.
use mathlib.Core.Path.{sym, ap, subst, ◌∙◌}
use Rattle.std.proofs.Common.{arith, inl, inr}
use Rattle.std.proofs.lemmas.Bool.{true≢false, eq-eqb}
use Rattle.std.specs.Prelude.{◌≡◌, refl, ℕ, ◌==◌, not, true, false, List, [], ◌∷◌, ◌++◌, Option, None}
use Rattle.uuid.specs.declared.Uuid.{Uuid}
use Rattle.net_message.specs.declared.message.Message.{Message}
use Rattle.net_message.specs.declared.message.Message.TheVariants as message
use Rattle.sp_rules.specs.Classes.{Setting}
use Rattle.sp_rules.specs.Events.{Event, Opened, Received}
use Rattle.sp_rules.specs.Laws.{AllOf}
use Rattle.sp_rules.specs.OwnEvents
use Rattle.sp_rules.specs.Origins.{IsTaken}
use Rattle.sp_rules.specs.Space
use Rattle.sp_rules.specs.State.{State, Living, Origin, OfRoot, OfCall, Connection, is_open, opening}
use Rattle.sp_rules.proofs.AllLemmas.{all-weaken, all-filter, all-first, all-more}
use Rattle.sp_laws.specs.Inbound.{OpensOnce}
use Rattle.sp_laws.specs.Directions.{FramesGoTheirWay}
use Rattle.sp_laws.proofs.EventRules.{View, Flows, Begins, EventParts, IsFrom, on_flow}
use Rattle.sp_order_laws.specs.Delivered.{came_on}
use Rattle.sp_order_laws.specs.Ends.{IsOneOf, ParkedResultsCame}
use Rattle.sp_order_laws.specs.Asked.{AnswersNone}
use Rattle.sp_order_laws.proofs.StayMoves.{Aim, P, opens_s}
use Rattle.sp_order_laws.proofs.StayFrames.{Leaves, Beside, MayTell, is_on, happen_s}
use Rattle.sp_order_laws.proofs.StayLaws.{aim, done-of, start-of, row-last}

-- ---- rows were opened

abbrev Row : List Event → Connection → Type 0
Row h c = IsOneOf (Opened c.number c.dialled) h

abbrev row_view : Setting → Event → List Event → View
row_view g e h = record {
  setting = g;
  event = e;
  Dialled = λ c d. Unit {0};
  Answers = λ c m. Unit {0};
  Known = λ p. Unit {0};
  Fails = λ c. Unit {0};
  Ends = λ a r. Unit {0};
  Starts = λ o n a. Unit {0};
  Speaks = λ c version. Unit {0};
  Fits = λ c ids. Unit {0};
  Keeps = λ l s. AllOf (Row (e ∷ h)) s.connections;
}

all-unit : {A : Type 0} (xs : List A) → AllOf (λ (x : A). Unit {0}) xs
all-unit [] = tt
all-unit (x ∷ xs) = (tt, all-unit xs)

all-from : (g : Setting) (e : Event) (h : List Event) (ts : List Living) → AllOf (λ (t : Living). IsFrom (row_view g e h) t.origin) ts
all-from g e h [] = tt
all-from g e h (t ∷ ts) = (one t.origin, all-from g e h ts)
  where
    one : (o : Origin) → IsFrom (row_view g e h) o
    one OfRoot = tt
    one (OfCall c n) = tt

row_flow : (g : Setting) (e : Event) (h : List Event) → Flows (row_view g e h)
row_flow g e h = record {
  known = λ l s k. all-unit s.parked;
  dialled = λ l s k. all-unit s.connections;
  origins = λ l s k. all-from g e h s.tasks;
  sided = λ p a. tt;
  fails = λ asked class a. tt;
  starts = λ l s p target method fuel arguments o n going k known is stands finds. tt;
  gives = λ p value fuel asked is a b c. tt;
  refuses = λ c n class is. tt;
  finds = λ c n name r is own. tt;
  speaks = λ c version. tt;
  fits = λ c ids. tt;
  quiet = λ l s t eq k. subst (λ (c : EventParts). AllOf (Row (e ∷ h)) c.connections) (sym eq) k;
  says = λ l s output is so k. k;
  sends = λ l s turn c m may held k. k;
  clears = λ s k. k;
  stores = λ l s store is k. k;
  adds = λ l s q k. k;
  calls_out = λ l s turn c peer number task lent kind m there k. k;
  looks_out = λ l s turn c peer number task name there k. k;
  tells = λ l s q call group eq k. k;
  told = λ l s peer call group k. k;
  unfresh = λ l s k. k;
  removes = λ l s is k. k;
  sorts = λ l s is rs k. k;
  removes_one = λ l s finds is n q eq passes has k. k;
  removes_told = λ l s dirty c sequence k. k;
  answers = λ l s c n k. k;
  begins = λ l s origin method arguments fuel going at k. k;
  ends = λ l s id t over is k. k;
  replies = λ l s peer number task lent kind m reply t may is k. k;
  replies_none = λ l s peer number task lent kind m is k. k;
  looked_up = λ l s peer number task name reply may k. k;
  works = λ l s id t f lent row ready is k. k;
  keeps = λ l s until value k. k;
  results_go = λ l s is goes k. k;
  falls = λ l s c n k. k;
  row = λ l s n f num last dialled k. all-first (Row (e ∷ h)) (λ (c : Connection). c.number == n) f s.connections (λ c a. subst (λ x. IsOneOf (Opened x (f c).dialled) (e ∷ h)) (sym (num c)) (subst (λ x. IsOneOf (Opened c.number x) (e ∷ h)) (sym (dialled c)) a)) k;
  counts = λ l s n number d there is low k. all-first (Row (e ∷ h)) (λ (c : Connection). c.number == n) (λ (c : Connection). record c { last = number }) s.connections (λ c a. a) k;
  parks_call = λ l s p going known is k. k;
  parks_result = λ l s p known is k. k;
  takes = λ l s p k. k;
  takes_call = λ l s p q is call k. k;
  closes = λ l s n why k. all-filter (Row (e ∷ h)) (λ (c : Connection). not (c.number == n)) s.connections k;
}

row-begin : (g : Setting) (s : State) (e : Event) (h : List Event) → Begins (row_view g e h) s
row-begin g s e h = record {
  opens = λ c dialled is k. all-more (Row (e ∷ h)) s.connections (record { number = c; dialled = dialled; peer = None; version = 1; last = 0; sent = [] }) k (inl (sym is));
  parks = λ id n t target method arguments is ready stands k. k;
  looks = λ peer name is k. k;
  roots = λ method arguments fuel is. tt;
  unmarshal = λ is. tt;
  connect = λ is. tt;
  marshal = λ is. tt;
  threw = λ c n class is q found has. tt;
  spent = λ c n is q found has. tt;
  finished = λ id n t outcome c m is ready stands origin. tt;
  call_came = λ p target o method passed arguments is there stands may fit names. tt;
  result_came = λ p value fuel is frame there q found fits names. tt;
}

pub rows-opened : (g : Setting) (h : List Event) → AllOf (Row h) (Space.state_of g h).connections
unfolding Space.state_of opening
rows-opened g [] = tt
rows-opened g (e ∷ h) = on_flow (row_flow g e h) (Space.state_of g h) (row-begin g (Space.state_of g h) e h) (all-weaken (Row h) (Row (e ∷ h)) (Space.state_of g h).connections (λ c a. inr a) (rows-opened g h))

-- ---- open connections stay open

nothing : (ms : List Message) → AllOf (AnswersNone (λ m. false)) ms
nothing [] = tt
nothing (x ∷ ms) = ((λ y e. refl), nothing ms)

beside : (conn : ℕ) (e : Event) → Beside (aim conn (λ m. false) 0) e
beside conn (Received n m) = ((λ at y f. refl), tells m)
  where
    tells : (x : Message) → MayTell (aim conn (λ y. false) 0) n x
    tells (message.Dirty sequence period objects) = tt
    tells (message.Clean sequence strong objects) = tt
    tells (message.Call number object method fuel arguments) = λ id references e. tt
    tells (message.Returned number fuel v) = λ references. tt
    tells _ = tt
beside conn _ = tt

-- unless a frame comes there, or the event ends it
pub stays-open : FramesGoTheirWay → ParkedResultsCame → (g : Setting) (h : List Event) (e : Event) (conn : ℕ) → IsTaken g h → OpensOnce h → is_on conn e ≡ false → is_open (Space.state_of g h) conn ≡ true → is_open (Space.on g e (Space.state_of g h)).0 conn ≡ true
unfolding Space.on
stays-open ways results g h e conn taken once off live = left (happen_s g s e (beside conn e) (λ n dialled same. record { stays = opens_s (row n dialled) begun.stays }) (λ quiet. begun))
  where
    s : State
    s = Space.state_of g h

    A : Aim
    A = aim conn (λ m. false) 0

    row : ℕ → Option Uuid → Connection
    row n dialled = record { number = n; dialled = dialled; peer = None; version = 1; last = 0; sent = [] }

    begun : P A s
    begun = start-of ways results g h A taken once (nothing (came_on conn h)) s.connections (λ x. live) (omega arith) (all-unit s.parked)

    left : Leaves A e (Space.happen g e s) → is_open (Space.finish_event (Space.answers_outputs e) (Space.happen g e s)).0 conn ≡ true
    left (inl k) = (done-of A (Space.happen g e s) (Space.answers_outputs e) k).left.stays.row refl
    left (inr k) = absurd (true≢false (sym k.0 ∙ off))

-- what an event opens is open
pub opens-open : FramesGoTheirWay → ParkedResultsCame → (g : Setting) (h : List Event) (conn : ℕ) (dialled : Option Uuid) → IsTaken g h → OpensOnce h → is_open (Space.on g (Opened conn dialled) (Space.state_of g h)).0 conn ≡ true
unfolding Space.on
opens-open ways results g h conn dialled taken once = left (happen_s g s (Opened conn dialled) tt (λ n d same. begun n d same) (λ quiet. absurd (true≢false quiet)))
  where
    s : State
    s = Space.state_of g h

    A : Aim
    A = aim conn (λ m. false) 0

    row : ℕ → Option Uuid → Connection
    row n d = record { number = n; dialled = d; peer = None; version = 1; last = 0; sent = [] }

    number-of : Event → ℕ
    number-of (Opened n d) = n
    number-of _ = 0

    begun : (n : ℕ) (d : Option Uuid) → Opened conn dialled ≡ Opened n d → P A (OwnEvents.add_connection n d s)
    begun n d same = start-of ways results g h A taken once (nothing (came_on conn h)) (s.connections ++ row n d ∷ []) (λ x. row-last conn s.connections (row n d) (eq-eqb n conn (sym (ap number-of same)))) (omega arith) (all-unit s.parked)

    left : Leaves A (Opened conn dialled) (Space.happen g (Opened conn dialled) s) → is_open (Space.finish_event true (Space.happen g (Opened conn dialled) s)).0 conn ≡ true
    left (inl k) = (done-of A (Space.happen g (Opened conn dialled) s) true k).left.stays.row refl
    left (inr k) = absurd (true≢false (sym k.0))
