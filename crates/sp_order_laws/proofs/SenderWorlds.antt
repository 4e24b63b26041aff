-- Who sends a frame holds the references in it until the frame is done: in worlds in which nothing fails.
use mathlib.Core.Path.{sym, ap, subst, ◌∙◌}
use Rattle.std.proofs.Common.{arith, inl, inr}
use Rattle.std.proofs.lemmas.Bool.{true≢false, eqb-true, eq-eqb}
use Rattle.std.specs.List.{flat_map}
use Rattle.std.specs.Str.{bytes_eq}
use Rattle.std.specs.Prelude.{◌≡◌, ◌≤◌, ◌⊎◌, refl, ℕ, ◌+◌, ◌==◌, ◌&&◌, ◌||◌, Bool, true, false, List, [], ◌∷◌, ◌++◌, Option, None, Some, slice_get}
use Rattle.uuid.specs.declared.Uuid.{Uuid}
use Rattle.net_message.specs.declared.message.Message.{Message}
use Rattle.net_message.specs.declared.message.Message.TheVariants as message
use Rattle.space_ids.specs.declared.value.Value.{Value}
use Rattle.sp_rules.specs.Classes.{Setting}
use Rattle.sp_rules.specs.Laws.{AllOf}
use Rattle.sp_rules.specs.Lists.{total}
use Rattle.sp_rules.specs.ParkedFrames.{is_out_on, has_number}
use Rattle.sp_rules.specs.State.{State, Request, Asked, Calls, Stage, Waits, Out, Answered, ParkedFrame, CallFrame, ReturnedFrame, Acked, is_open}
use Rattle.sp_rules.specs.Worlds.{World, Space, Pipe, End, Dialler, Accepter, side, other, id_in, run, new_world}
use Rattle.sp_rules.proofs.OwnLemmas.{some-same}
use Rattle.sp_registry.proofs.BindingsLemmas.{bytes_eq-refl}
use Rattle.sp_laws.specs.Waiting.{count}
use Rattle.sp_laws.specs.Directions.{HasDirections}
use Rattle.sp_order_laws.specs.Delivered.{came_on, sent_on, outputs_in, outputs_at}
use Rattle.sp_order_laws.specs.Ends.{IsOneOf, CameAs}
use Rattle.sp_order_laws.specs.Answering.{CallReply, GroupReply, ResultAck, times, times_asked, times_answered, under_way, asked_in, answered_in}
use Rattle.sp_order_laws.specs.Places.{IsBetween, CallsStandOnceIn, GroupsStandOnceIn, ResultsStandOnceIn}
use Rattle.sp_order_laws.proofs.RisingMoves.{IsSaid, times-append}
use Rattle.sp_order_laws.proofs.WorldFacts.{Known, at-all}
use Rattle.sp_order_laws.specs.Asked.{out_on, asks_for, AnswersNone}
use Rattle.sp_order_laws.specs.Unbroken.{IsJoined}
use Rattle.space_ids.specs.declared.ids.ForeignId.{ForeignId}
use Rattle.space_ids.specs.declared.ids.ObjId.{ObjId}
use Rattle.space_ids.specs.declared.ids.Ref.{Ref}
use Rattle.sp_rules.specs.References.{is_id, references_of, is_reference_in, is_same_reference}
use Rattle.sp_rules.specs.State.{Living, task_at, is_to}
use Rattle.std.specs.List.{list_all}
use Rattle.sp_rules.proofs.AllLemmas.{all-weaken}
use Rattle.sp_laws.specs.Answered.{StandsOn, GoesTo, IsDialledTo}
use Rattle.sp_laws.specs.CallsHeld.{AsksCall, IsAskedFor}
use Rattle.sp_laws.specs.Waiting.{HasTask}
use Rattle.sp_order_laws.specs.Senders.{CameAsFrame, CallerHolds, CallsAreHeldIn, ResultsAreHeldIn, SendersHold}
use Rattle.sp_order_laws.proofs.UnbrokenLaws.{Laws, facts-of, standing-of}
use Rattle.sp_order_laws.proofs.WelcomeLemmas.{Facts, one-some, one-left, one-right, one-total, all-known, ends-of, both-left, both-right, calls_as, answers-one, answers-both, count-self, none-answers}
use Rattle.std.proofs.lemmas.Slice.Eq.{bytes_eq-Decides}
use Rattle.sp_laws.specs.AllSpaces.{IsInOrder, SpacesAreInOrder}
use Rattle.sp_order_laws.specs.Answering.{Exchange}
use Rattle.sp_order_laws.proofs.WelcomeFrames.{row-opened, ends-open}
use Rattle.sp_order_laws.proofs.WelcomeLemmas.{went, opened-as}
use Rattle.sp_order_laws.proofs.SenderLemmas.{parked_frames_came, counts-there, names_as, IsNaming, naming-of}

-- ---- one request of a number

all-at : {A : Type 0} (Is : A → Type 0) (x : A) (xs : List A) → IsOneOf x xs → AllOf Is xs → Is x
all-at Is x [] o a = absurd o
all-at Is x (y ∷ ys) (inl e) a = subst Is (sym e) a.0
all-at Is x (y ∷ ys) (inr o) a = all-at Is x ys o a.1

-- two requests of a number are one
same-request : (k : ℕ) (rs : List Request) (q r : Request) → total (λ (x : Request). count (has_number k x.asked)) rs ≤ 1 → IsOneOf q rs → IsOneOf r rs → has_number k q.asked ≡ true → has_number k r.asked ≡ true → q ≡ r
same-request k [] q r le a b e f = absurd a
same-request k (x ∷ xs) q r le (inl c) (inl d) e f = c ∙ sym d
same-request k (x ∷ xs) q r le (inl c) (inr d) e f =
    let y : count (has_number k x.asked) ≡ 1 = ap (λ (z : Request). count (has_number k z.asked)) (sym c) ∙ ap count e in
    let z : count (has_number k r.asked) ≤ total (λ (x : Request). count (has_number k x.asked)) xs = one-total (λ (x : Request). count (has_number k x.asked)) r xs d in
    let u : count (has_number k r.asked) ≡ 1 = ap count f in
    let v : count (has_number k x.asked) + total (λ (x : Request). count (has_number k x.asked)) xs ≤ 1 = le in absurd (omega arith)
same-request k (x ∷ xs) q r le (inr c) (inl d) e f =
    let y : count (has_number k x.asked) ≡ 1 = ap (λ (z : Request). count (has_number k z.asked)) (sym d) ∙ ap count f in
    let z : count (has_number k q.asked) ≤ total (λ (x : Request). count (has_number k x.asked)) xs = one-total (λ (x : Request). count (has_number k x.asked)) q xs c in
    let u : count (has_number k q.asked) ≡ 1 = ap count e in
    let v : count (has_number k x.asked) + total (λ (x : Request). count (has_number k x.asked)) xs ≤ 1 = le in absurd (omega arith)
same-request k (x ∷ xs) q r le (inr c) (inr d) e f = same-request k xs q r (let v : count (has_number k x.asked) + total (λ (x : Request). count (has_number k x.asked)) xs ≤ 1 = le in omega arith) c d e f

-- ---- a call that was sent and has no answer

names-none : (k : ℕ) (names : ObjId → List Value → Bool) (m : Message) → AnswersNone (calls_as k) m → AnswersNone (names_as k names) m
names-none k names m none x is = by x (none x is)
  where
    by : (y : Message) → calls_as k y ≡ false → names_as k names y ≡ false
    by (message.Call number target method fuel arguments) e = pick (number == k) refl
      where
        pick : (b : Bool) → (number == k) ≡ b → b && names target arguments ≡ false
        pick true f = absurd (true≢false (sym (ap (λ c. c || false) (eq-eqb k number (sym (eqb-true number k f)))) ∙ e))
        pick false f = refl
    by (message.Lookup number name) e = refl
    by (message.Hello version space digest) e = refl
    by (message.Returned number fuel value) e = refl
    by (message.Threw number class) e = refl
    by (message.Spent number) e = refl
    by (message.Ack number) e = refl
    by (message.Dirty sequence period objects) e = refl
    by (message.Lease sequence period) e = refl
    by (message.Clean sequence strong objects) e = refl
    by (message.Cleaned sequence) e = refl

has-own : (k task lent : ℕ) (kind : Rattle.sp_rules.specs.Classes.Kind) (m : Message) (q : Request) → q.asked ≡ Calls k task lent kind m → has_number k q.asked ≡ true
has-own k task lent kind m q e = ap (has_number k) e ∙ eq-eqb k k refl

-- a Call of a space that was sent on a connection
record WasSent (w : World) (conn k : ℕ) (p : Pipe) (a b : Space) (target : ObjId) (method fuel : ℕ) (arguments : List Value) : Type 0 where
  between : IsBetween w conn p a b
  sent : IsOneOf (message.Call k target method fuel arguments) (sent_on conn a.outputs)
  unanswered : times_answered CallReply k (came_on conn a.history) ≡ 0

calls-none : (k : ℕ) (ms : List Message) → times_answered CallReply k ms ≡ 0 → AllOf (AnswersNone (calls_as k)) ms
calls-none k ms none = all-known (AnswersNone (calls_as k)) ms (λ x o. none-answers k x (λ le. let y : 1 ≤ times_answered CallReply k ms = answers-one CallReply k x ms o le in absurd (omega (arith, none))))

-- what asked it
asks-it : {settings : List Setting} {w : World} (F : Facts settings w) (conn k : ℕ) (p : Pipe) (a b : Space) (target : ObjId) (method fuel : ℕ) (arguments : List Value)
    → WasSent w conn k p a b target method fuel arguments → (names : ObjId → List Value → Bool) → names target arguments ≡ true → (q : Request) × (IsOneOf q a.state.requests × IsNaming conn k names q)
asks-it {settings} {w} F conn k p a b target method fuel arguments S names named = (found.0, (found.1.0, naming-of conn k names found.0 (all-at (λ (q : Request). IsSaid q.asked) found.0 a.state.requests found.1.0 (at-all _ p.dialler.space w.spaces a S.between.dialled F.said)) found.1.1))
  where
    opened-conn : is_open a.state conn ≡ true
    opened-conn = let x = opened-as a.history conn true (went a.history conn (message.Call k target method fuel arguments) a.outputs (at-all HasDirections p.dialler.space w.spaces a S.between.dialled F.directions).sent S.sent) in (ends-open F conn p a b (message.Call k target method fuel arguments) S.between refl (inl S.sent)).0 x.0 x.1.1

    one : asks_for (names_as k names) (message.Call k target method fuel arguments) ≡ 1
    one = both (k == k) (eq-eqb k k refl) (names target arguments) named
      where
        both : (c : Bool) → c ≡ true → (d : Bool) → d ≡ true → count (true && (c && d)) ≡ 1
        both true e true f = refl
        both true e false f = absurd (true≢false (sym f))
        both false e d f = absurd (true≢false (sym e))

    enough : 1 ≤ total (out_on conn (names_as k names)) a.state.requests
    enough =
        let x : asks_for (names_as k names) (message.Call k target method fuel arguments) ≤ total (asks_for (names_as k names)) (sent_on conn a.outputs) = one-total (asks_for (names_as k names)) (message.Call k target method fuel arguments) (sent_on conn a.outputs) S.sent in
        let y : total (asks_for (names_as k names)) (sent_on conn a.outputs) ≤ total (out_on conn (names_as k names)) a.state.requests = at-all _ p.dialler.space w.spaces a S.between.dialled F.asked conn (names_as k names) opened-conn
        (all-weaken (AnswersNone (calls_as k)) (AnswersNone (names_as k names)) (came_on conn a.history) (names-none k names) (calls-none k (came_on conn a.history) S.unanswered)) in omega (arith, one)

    found : (q : Request) × (IsOneOf q a.state.requests × (1 ≤ out_on conn (names_as k names) q))
    found = counts-there (out_on conn (names_as k names)) a.state.requests enough

-- ---- references

same-chain : (held : List Ref) (x y : Ref) → is_same_reference y x ≡ true → is_reference_in held y ≡ true → is_reference_in held x ≡ true
same-chain [] x y e f = absurd (true≢false (sym f))
same-chain (z ∷ held) x y e f = by (is_same_reference y z) refl f (same-chain held x y e)
  where
    parts : (u v : Ref) → is_same_reference u v ≡ true → (bytes_eq u.space v.space ≡ true) × ((u.id.0 == v.id.0 ≡ true) × (u.class.0 == v.class.0 ≡ true))
    parts u v g = (both-left (bytes_eq u.space v.space) _ g, (both-left (u.id.0 == v.id.0) _ (both-right (bytes_eq u.space v.space) _ g), both-right (u.id.0 == v.id.0) _ (both-right (bytes_eq u.space v.space) _ g)))

    triple : (b c d : Bool) → b ≡ true → c ≡ true → d ≡ true → b && (c && d) ≡ true
    triple true true true g h i = refl
    triple true true false g h i = absurd (true≢false (sym i))
    triple true false d g h i = absurd (true≢false (sym h))
    triple false c d g h i = absurd (true≢false (sym g))

    chain : is_same_reference y z ≡ true → is_same_reference x z ≡ true
    chain g =
        let u = parts y x e in
        let v = parts y z g in
        triple _ _ _ ((bytes_eq-Decides x.space z.space).1 (sym ((bytes_eq-Decides y.space x.space).0 u.0) ∙ (bytes_eq-Decides y.space z.space).0 v.0))
        (eq-eqb x.id.0 z.id.0 (sym (eqb-true y.id.0 x.id.0 u.1.0) ∙ eqb-true y.id.0 z.id.0 v.1.0)) (eq-eqb x.class.0 z.class.0 (sym (eqb-true y.class.0 x.class.0 u.1.1) ∙ eqb-true y.class.0 z.class.0 v.1.1))

    by : (c : Bool) → is_same_reference y z ≡ c → c || is_reference_in held y ≡ true → (is_reference_in held y ≡ true → is_reference_in held x ≡ true) → is_same_reference x z || is_reference_in held x ≡ true
    by true g h rest = ap (λ c. c || is_reference_in held x) (chain g)
    by false g h rest = or-right (is_same_reference x z) (is_reference_in held x) (rest h)
      where
        or-right : (c d : Bool) → d ≡ true → c || d ≡ true
        or-right true d i = refl
        or-right false d i = i

-- a reference that is the same as one of these is held
is-held : (held refs : List Ref) (x : Ref) → list_all (is_reference_in held) refs ≡ true → is_reference_in refs x ≡ true → is_reference_in held x ≡ true
is-held held [] x a e = absurd (true≢false (sym e))
is-held held (y ∷ refs) x a e = by (is_same_reference x y) refl e (λ f. is-held held refs x (both-right (is_reference_in held y) _ a) f)
  where
    turn : (u v : Ref) → is_same_reference u v ≡ true → is_same_reference v u ≡ true
    turn u v g = triple _ _ _ ((bytes_eq-Decides v.space u.space).1 (sym ((bytes_eq-Decides u.space v.space).0 (both-left (bytes_eq u.space v.space) _ g))))
        (eq-eqb v.id.0 u.id.0 (sym (eqb-true u.id.0 v.id.0 (both-left (u.id.0 == v.id.0) _ (both-right (bytes_eq u.space v.space) _ g))))) (eq-eqb v.class.0 u.class.0 (sym (eqb-true u.class.0 v.class.0 (both-right (u.id.0 == v.id.0) _ (both-right (bytes_eq u.space v.space) _ g)))))
      where
        triple : (b c d : Bool) → b ≡ true → c ≡ true → d ≡ true → b && (c && d) ≡ true
        triple true true true g h i = refl
        triple true true false g h i = absurd (true≢false (sym i))
        triple true false d g h i = absurd (true≢false (sym h))
        triple false c d g h i = absurd (true≢false (sym g))

    by : (c : Bool) → is_same_reference x y ≡ c → c || is_reference_in refs x ≡ true → (is_reference_in refs x ≡ true → is_reference_in held x ≡ true) → is_reference_in held x ≡ true
    by true g f rest = same-chain held x y (turn x y g) (both-left (is_reference_in held y) _ a)
    by false g f rest = rest f

all-held : (held : List Ref) (xs : List Ref) → ((x : Ref) → IsOneOf x xs → is_reference_in held x ≡ true) → list_all (is_reference_in held) xs ≡ true
all-held held [] k = refl
all-held held (x ∷ xs) k = both _ _ (k x (inl refl)) (all-held held xs (λ y o. k y (inr o)))
  where
    both : (c d : Bool) → c ≡ true → d ≡ true → c && d ≡ true
    both true true e f = refl
    both true false e f = absurd (true≢false (sym f))
    both false d e f = absurd (true≢false (sym e))

one-in : (x : Ref) (xs : List Ref) → IsOneOf x xs → is_reference_in xs x ≡ true
one-in x [] o = absurd o
one-in x (y ∷ ys) (inl e) = ap (λ c. c || is_reference_in ys x) (subst (λ z. is_same_reference x z ≡ true) e self)
  where
    triple : (b c d : Bool) → b ≡ true → c ≡ true → d ≡ true → b && (c && d) ≡ true
    triple true true true g h i = refl
    triple true true false g h i = absurd (true≢false (sym i))
    triple true false d g h i = absurd (true≢false (sym h))
    triple false c d g h i = absurd (true≢false (sym g))

    self : is_same_reference x x ≡ true
    self = triple _ _ _ (bytes_eq-refl x.space) (eq-eqb x.id.0 x.id.0 refl) (eq-eqb x.class.0 x.class.0 refl)
one-in x (y ∷ ys) (inr o) = or-right (is_same_reference x y) (is_reference_in ys x) (one-in x ys o)
  where
    or-right : (c d : Bool) → d ≡ true → c || d ≡ true
    or-right true d i = refl
    or-right false d i = i

-- ---- the caller holds

caller-holds : {settings : List Setting} {w : World} (F : Facts settings w) (order : AllOf IsInOrder w.spaces) (conn k : ℕ) (p : Pipe) (a b : Space) (target : ObjId) (method fuel : ℕ) (arguments : List Value)
    → WasSent w conn k p a b target method fuel arguments → CallerHolds a b target arguments
caller-holds {settings} {w} F order conn k p a b target method fuel arguments S = record {
  task = N.task;
  row = row.0;
  lives = row.1.0;
  waits = row.1.1;
  object = C.target;
  number = number;
  space = space;
  held = both _ _ (both-left (is_reference_in row.0.task.held C.target) _ C.held) (all-held row.0.task.held (references_of arguments) argument);
}
  where
    I : IsInOrder a
    I = at-all IsInOrder p.dialler.space w.spaces a S.between.dialled order

    ask : (names : ObjId → List Value → Bool) → names target arguments ≡ true → (q : Request) × (IsOneOf q a.state.requests × IsNaming conn k names q)
    ask names named = asks-it F conn k p a b target method fuel arguments S names named

    by-target : ObjId → List Value → Bool
    by-target t args = t.0 == target.0

    first : (q : Request) × (IsOneOf q a.state.requests × IsNaming conn k by-target q)
    first = ask by-target (eq-eqb target.0 target.0 refl)

    N : IsNaming conn k by-target first.0
    N = first.1.1

    row : (t : Living) × ((task_at a.state N.task ≡ Some t) × (t.waits ≡ true))
    row = subst (HasTask a.state) N.asked (all-at (λ (q : Request). HasTask a.state q.asked) first.0 a.state.requests first.1.0 I.calls.requests)

    C : AsksCall first.0.peer k N.lent (message.Call k N.target N.method N.fuel N.arguments) row.0
    C = subst (IsAskedFor (task_at a.state) first.0.peer) N.asked (all-at (λ (q : Request). IsAskedFor (task_at a.state) q.peer q.asked) first.0 a.state.requests first.1.0 I.held) row.0 row.1.0 row.1.1

    target-of : Message → ObjId
    target-of (message.Call n t method fuel args) = t
    target-of _ = target

    arguments-of : Message → List Value
    arguments-of (message.Call n t method fuel args) = args
    arguments-of _ = []

    number : is_id C.target.id target ≡ true
    number = subst (λ (t : ObjId). t.0 == target.0 ≡ true) (ap target-of C.frame) N.named

    both : (c d : Bool) → c ≡ true → d ≡ true → c && d ≡ true
    both true true e f = refl
    both true false e f = absurd (true≢false (sym f))
    both false d e f = absurd (true≢false (sym e))

    -- each reference among the arguments is one of those of the call that waits
    argument : (x : Ref) → IsOneOf x (references_of arguments) → is_reference_in row.0.task.held x ≡ true
    argument x o =
        let y = ask (λ t args. is_reference_in (references_of args) x) (one-in x (references_of arguments) o) in
        let same : y.0 ≡ first.0 = same-request k a.state.requests y.0 first.0 (I.calls.once k) y.1.0 first.1.0 (has-own k y.1.1.task y.1.1.lent y.1.1.kind _ y.0 y.1.1.asked) (has-own k N.task N.lent N.kind _ first.0 N.asked) in
        is-held row.0.task.held (references_of C.arguments) x (both-right (is_reference_in row.0.task.held C.target) _ C.held)
        (subst (λ (l : List Value). is_reference_in (references_of l) x ≡ true) (ap asked-arguments (sym y.1.1.asked ∙ (ap (λ (q : Request). q.asked) same ∙ N.asked)) ∙ ap arguments-of C.frame) y.1.1.named)
      where
        asked-arguments : Asked → List Value
        asked-arguments (Calls n task lent kind m) = arguments-of m
        asked-arguments _ = []

    -- the request went to the callee
    stands : StandsOn a.state.connections first.0.peer first.0.stage
    stands = (all-at (λ (q : Request). StandsOn a.state.connections q.peer q.stage × GoesTo q.peer q.asked) first.0 a.state.requests first.1.0 I.places.requests).0

    dialled : IsDialledTo a.state.connections conn first.0.peer
    dialled = by first.0.stage N.stands stands
      where
        by : (stage : Stage) → is_out_on conn stage ≡ true → StandsOn a.state.connections first.0.peer stage → IsDialledTo a.state.connections conn first.0.peer
        by Waits e k = absurd (true≢false (sym e))
        by (Out c sequence) e k = subst (λ n. IsDialledTo a.state.connections n first.0.peer) (eqb-true c conn e) k
        by (Answered c) e k = subst (λ n. IsDialledTo a.state.connections n first.0.peer) (eqb-true c conn e) k

    space : bytes_eq C.target.space b.setting.id ≡ true
    space = subst (λ (x : Uuid). bytes_eq x b.setting.id ≡ true) (sym C.to) (peer-is dialled.row.dialled refl dialled.dialled)
      where
        joined : IsJoined w.spaces p.dialler.space dialled.row.dialled (Some (p.dialler.space, p.accepter.space))
        joined = subst (IsJoined w.spaces p.dialler.space dialled.row.dialled) (ends-of w.pipes conn p S.between.pipe) (row-opened F p.dialler.space conn a dialled.row S.between.dialled dialled.found)

        peer-is : (d : Option Uuid) → dialled.row.dialled ≡ d → is_to first.0.peer d ≡ true → bytes_eq first.0.peer b.setting.id ≡ true
        peer-is None e f = absurd (true≢false (sym f))
        peer-is (Some d) e f =
            let j : IsJoined w.spaces p.dialler.space (Some d) (Some (p.dialler.space, p.accepter.space)) = subst (λ x. IsJoined w.spaces p.dialler.space x (Some (p.dialler.space, p.accepter.space))) e joined in
            (bytes_eq-Decides first.0.peer b.setting.id).1 (sym ((bytes_eq-Decides d first.0.peer).0 f) ∙ some-same (sym j.1 ∙ ap id_in S.between.accepted))

-- ---- calls

once-of : {settings : List Setting} {w : World} (F : Facts settings w) (conn k : ℕ) (p : Pipe) (a b : Space) → IsBetween w conn p a b → 1 ≤ times_asked CallReply k p.accepter.queue + under_way CallReply conn k b.state → times_answered CallReply k (came_on conn a.history) ≡ 0
once-of F conn k p a b between le =
    let x : times_answered CallReply k (came_on conn a.history ++ p.dialler.queue) ≡ times_answered CallReply k (came_on conn a.history) + times_answered CallReply k p.dialler.queue = answers-both CallReply k (came_on conn a.history) p.dialler.queue in
    let z : Rattle.sp_order_laws.specs.Places.waiting_to_go k a.state + (times_asked CallReply k p.accepter.queue + (under_way CallReply conn k b.state + times_answered CallReply k (came_on conn a.history ++ p.dialler.queue))) ≤ 1 = F.calls.answered conn k p a b between in omega (arith, le)

asked-one : (x : Exchange) (k : ℕ) (m : Message) (ms : List Message) → IsOneOf m ms → 1 ≤ times k (asked_in x m) → 1 ≤ times_asked x k ms
asked-one x k m [] o le = absurd o
asked-one x k m (y ∷ ms) (inl e) le =
    let a : times k (asked_in x y ++ flat_map (asked_in x) ms) ≡ times k (asked_in x y) + times_asked x k ms = times-append k (asked_in x y) (flat_map (asked_in x) ms) in
    let b : times k (asked_in x m) ≡ times k (asked_in x y) = ap (λ z. times k (asked_in x z)) e in omega (arith, le)
asked-one x k m (y ∷ ms) (inr o) le =
    let a : times k (asked_in x y ++ flat_map (asked_in x) ms) ≡ times k (asked_in x y) + times_asked x k ms = times-append k (asked_in x y) (flat_map (asked_in x) ms) in
    let b : 1 ≤ times_asked x k ms = asked-one x k m ms o le in omega arith

sent-there : {settings : List Setting} {w : World} (F : Facts settings w) (conn : ℕ) (p : Pipe) (to : End) (s there : Space) (m : Message) → slice_get w.pipes conn ≡ Some p → slice_get w.spaces (side to p).space ≡ Some s → slice_get w.spaces (side (other to) p).space ≡ Some there → IsOneOf m (came_on conn s.history ++ (side to p).queue) → IsOneOf m (sent_on conn there.outputs)
sent-there {settings} {w} F conn p to s there m is at atj o = subst (λ (x : Option Space). IsOneOf m (sent_on conn (outputs_in x))) atj (one-some m (came_on conn s.history ++ (side to p).queue) (sent_on conn (outputs_at w.spaces (side (other to) p).space)) o (F.delivers.brings conn p to is s at))

self-count : (conn k : ℕ) → count (true && (conn == conn && k == k)) ≡ 1
self-count conn k = both (conn == conn) (eq-eqb conn conn refl) (k == k) (eq-eqb k k refl)
  where
    both : (c : Bool) → c ≡ true → (d : Bool) → d ≡ true → count (true && (c && d)) ≡ 1
    both true e true f = refl
    both true e false f = absurd (true≢false (sym f))
    both false e d f = absurd (true≢false (sym e))

calls-hold : {settings : List Setting} {w : World} (F : Facts settings w) (order : AllOf IsInOrder w.spaces) (came : AllOf (λ (s : Space). AllOf (λ (x : ParkedFrame). CameAsFrame s.history x x.frame) s.state.parked) w.spaces)
    → CallsAreHeldIn w
calls-hold {settings} {w} F order came conn k p a b target method fuel arguments between (inl o) = caller-holds F order conn k p a b target method fuel arguments (record {
  between = between;
  sent = sent-there F conn p Accepter b a (message.Call k target method fuel arguments) between.pipe between.accepted between.dialled (one-right (message.Call k target method fuel arguments) (came_on conn b.history) p.accepter.queue o);
  unanswered = once-of F conn k p a b between (let x : 1 ≤ times_asked CallReply k p.accepter.queue = asked-one CallReply k (message.Call k target method fuel arguments) p.accepter.queue o (let z : count (k == k) ≡ 1 = count-self k in omega arith) in omega arith);
})
calls-hold {settings} {w} F order came conn k p a b target method fuel arguments between (inr o) = wider (all-at (λ (x : ParkedFrame). CameAsFrame b.history x x.frame) (record { conn = conn; number = k; frame = CallFrame target method fuel arguments; references = o.0 }) b.state.parked o.1 (at-all _ p.accepter.space w.spaces b between.accepted came))
  where
    parked-one : 1 ≤ under_way CallReply conn k b.state
    parked-one = let x : Rattle.sp_order_laws.specs.Answering.parked_for CallReply conn k (record { conn = conn; number = k; frame = CallFrame target method fuel arguments; references = o.0 }) ≤ total (Rattle.sp_order_laws.specs.Answering.parked_for CallReply conn k) b.state.parked = one-total (Rattle.sp_order_laws.specs.Answering.parked_for CallReply conn k) (record { conn = conn; number = k; frame = CallFrame target method fuel arguments; references = o.0 }) b.state.parked o.1 in
        let y : count (true && (conn == conn && k == k)) ≡ 1 = self-count conn k in omega arith

    wider : (id : ObjId) × ((is_id target id ≡ true) × IsOneOf (message.Call k id method fuel arguments) (came_on conn b.history)) → CallerHolds a b target arguments
    wider x =
        let h = caller-holds F order conn k p a b x.0 method fuel arguments (record {
          between = between;
          sent = sent-there F conn p Accepter b a (message.Call k x.0 method fuel arguments) between.pipe between.accepted between.dialled (one-left (message.Call k x.0 method fuel arguments) (came_on conn b.history) p.accepter.queue x.1.1);
          unanswered = once-of F conn k p a b between (let y : 1 ≤ under_way CallReply conn k b.state = parked-one in omega arith);
        }) in
        record { task = h.task; row = h.row; lives = h.lives; waits = h.waits; object = h.object; number = eq-eqb h.object.id.0 target.0 (eqb-true h.object.id.0 x.0.0 h.number ∙ sym (eqb-true target.0 x.0.0 x.1.0)); space = h.space; held = h.held }

-- ---- results

results-hold : {settings : List Setting} {w : World} (F : Facts settings w) → ResultsAreHeldIn w
results-hold {settings} {w} F conn k p a b fuel value between where-it-is = by where-it-is
  where
    kept : IsOneOf (message.Returned k fuel value) (sent_on conn b.outputs) → 1 ≤ times_asked ResultAck k p.dialler.queue + under_way ResultAck conn k a.state → IsOneOf (record { until = Acked conn k; value = value }) b.state.results
    kept sent le =
        let x = opened-as b.history conn false (went b.history conn (message.Returned k fuel value) b.outputs (at-all HasDirections p.accepter.space w.spaces b between.accepted F.directions).sent sent) in
        let once : times_asked ResultAck k p.dialler.queue + (under_way ResultAck conn k a.state + times_answered ResultAck k (came_on conn b.history ++ p.accepter.queue)) ≤ 1 = F.results.once conn k p a b between in
        let y : times_answered ResultAck k (came_on conn b.history ++ p.accepter.queue) ≡ times_answered ResultAck k (came_on conn b.history) + times_answered ResultAck k p.accepter.queue = answers-both ResultAck k (came_on conn b.history) p.accepter.queue in
        let none : times_answered ResultAck k (came_on conn b.history) ≡ 0 = omega (arith, le) in
        at-all _ p.accepter.space w.spaces b between.accepted F.waits conn k fuel value ((ends-open F conn p a b (message.Returned k fuel value) between refl (inr sent)).1 x.0 x.1.1) sent
        (all-known (λ (m : Message). m ≡ message.Ack k → ⊥) (came_on conn b.history) (λ m o e. let z : 1 ≤ times_answered ResultAck k (came_on conn b.history) = answers-one ResultAck k m (came_on conn b.history) o (subst (λ v. 1 ≤ times k (answered_in ResultAck v)) (sym e) (let u : count (k == k) ≡ 1 = count-self k in omega arith)) in absurd (omega (arith, none))))

    by : IsOneOf (message.Returned k fuel value) p.dialler.queue ⊎ ((references : List ForeignId) × IsOneOf (record { conn = conn; number = k; frame = ReturnedFrame value fuel; references = references }) a.state.parked) → IsOneOf (record { until = Acked conn k; value = value }) b.state.results
    by (inl o) = kept (sent-there F conn p Dialler a b (message.Returned k fuel value) between.pipe between.dialled between.accepted (one-right (message.Returned k fuel value) (came_on conn a.history) p.dialler.queue o))
        (let x : 1 ≤ times_asked ResultAck k p.dialler.queue = asked-one ResultAck k (message.Returned k fuel value) p.dialler.queue o (let z : count (k == k) ≡ 1 = count-self k in omega arith) in omega arith)
    by (inr o) = kept (sent-there F conn p Dialler a b (message.Returned k fuel value) between.pipe between.dialled between.accepted (one-left (message.Returned k fuel value) (came_on conn a.history) p.dialler.queue (all-at (λ (x : ParkedFrame). CameAs a.history x x.frame) (record { conn = conn; number = k; frame = ReturnedFrame value fuel; references = o.0 }) a.state.parked o.1 (at-all _ p.dialler.space w.spaces a between.dialled F.parked))))
        (let x : Rattle.sp_order_laws.specs.Answering.parked_for ResultAck conn k (record { conn = conn; number = k; frame = ReturnedFrame value fuel; references = o.0 }) ≤ total (Rattle.sp_order_laws.specs.Answering.parked_for ResultAck conn k) a.state.parked = one-total (Rattle.sp_order_laws.specs.Answering.parked_for ResultAck conn k) (record { conn = conn; number = k; frame = ReturnedFrame value fuel; references = o.0 }) a.state.parked o.1 in
        let y : count (true && (conn == conn && k == k)) ≡ 1 = self-count conn k in omega arith)

-- ---- the law

pub parked-all : Laws → (w : World) → AllOf Known w.spaces → AllOf (λ (s : Space). AllOf (λ (x : ParkedFrame). CameAsFrame s.history x x.frame) s.state.parked) w.spaces
parked-all L w known = all-weaken Known _ w.spaces (λ s k. subst (λ (t : State). AllOf (λ (x : ParkedFrame). CameAsFrame s.history x x.frame) t.parked) (sym k.state) (parked_frames_came L.ways L.parked s.setting s.history k.taken k.once)) known

pub senders_hold : Laws → SpacesAreInOrder → SendersHold
senders_hold L order settings events kind fine = record { calls = calls-hold F (order settings events) (parked-all L (run (new_world settings) events) h.known); results = results-hold F }
  where
    h : Rattle.sp_order_laws.proofs.WorldStays.Standing settings (run (new_world settings) events)
    h = standing-of L settings events kind fine

    F : Facts settings (run (new_world settings) events)
    F = facts-of L settings events kind h
