-- Each frame that is first in its queue is welcome, where no end of a connection is over.
use mathlib.Core.Path.{sym, ap, subst, ◌∙◌}
use Rattle.std.proofs.Common.{arith, inl, inr}
use Rattle.std.proofs.lemmas.Bool.{true≢false, eqb-true, eq-eqb}
use Rattle.std.specs.List.{flat_map, list_any}
use Rattle.std.specs.Prelude.{◌≡◌, ◌≤◌, ◌⊎◌, refl, ℕ, ◌+◌, ◌==◌, ◌&&◌, ◌||◌, is_some, Bool, true, false, List, [], ◌∷◌, ◌++◌, Option, None, Some, map, slice_get, option_map, if◌then◌else◌}
use Rattle.uuid.specs.declared.Uuid.{Uuid}
use Rattle.net_message.specs.declared.message.Message.{Message}
use Rattle.net_message.specs.declared.message.Message.TheVariants as message
use Rattle.space_ids.specs.declared.value.Value.{Value}
use Rattle.sp_rules.specs.Classes.{Setting}
use Rattle.sp_rules.specs.Endings.{call_number_in}
use Rattle.sp_rules.specs.Events.{Event, Opened, Output, Started, Ended, Withdrawn, Denied, Send, Dial, Close, Ready}
use Rattle.sp_rules.specs.Laws.{AllOf}
use Rattle.sp_rules.specs.Lists.{total}
use Rattle.sp_rules.specs.State.{Request, Connection, ParkedFrame, Acked, is_open}
use Rattle.sp_rules.specs.Worlds.{World, Space, Pipe, Over, End, side, other}
use Rattle.sp_laws.specs.Answered.{AreInPlace}
use Rattle.sp_laws.specs.Others.{HasTwoEnds}
use Rattle.sp_laws.specs.Waiting.{count}
use Rattle.sp_laws.specs.Directions.{HasOpened, was_opened, opens_end, GoesItsWay, HasDirections}
use Rattle.sp_laws.specs.CallSent.{MaySend}
use Rattle.sp_order_laws.specs.HandShakes.{IsHandShake}
use Rattle.sp_order_laws.specs.Delivered.{came_on, sent_on, outputs_in, outputs_at, AreSomeOf, BringsWhatWasSent, Delivers}
use Rattle.sp_order_laws.specs.Ends.{IsOneOf, CameAs}
use Rattle.sp_order_laws.specs.Answering.{CallReply, GroupReply, ResultAck, times, times_asked, times_answered, under_way, asked_in, answered_in}
use Rattle.sp_order_laws.specs.LastCalls.{IsAboveTheLast}
use Rattle.sp_order_laws.specs.Places.{CallsStandOnceIn, GroupsStandOnceIn, ResultsStandOnceIn}
use Rattle.sp_order_laws.specs.Rising.{sequence_in}
use Rattle.sp_order_laws.proofs.RisingMoves.{IsSaid, times-append}
use Rattle.sp_order_laws.proofs.WorldFacts.{Known}
use Rattle.sp_order_laws.specs.Asked.{out_on, asks_for, is_answer_to, AnswersNone}
use Rattle.sp_order_laws.specs.Hellos.{BeginsInOrder}
use Rattle.sp_order_laws.specs.Unbroken.{AreOfOneKind, ends_at, IsJoined, IsProbe}
use Rattle.sp_order_laws.proofs.VersionLemmas.{SaidAs}
pub use Rattle.sp_order_laws.proofs.ListLemmas.{one-left, one-right, one-output}

-- ---- what is known of a world

-- The laws of a world, and that no end is over but of a connection that tried a version in vain.
pub record Facts (settings : List Setting) (w : World) : Type 0 where
  pub kind : AreOfOneKind settings
  pub settings_are : map (λ (s : Space). s.setting) w.spaces ≡ settings
  pub over : (conn : ℕ) (p : Pipe) (end : End) → slice_get w.pipes conn ≡ Some p → (side end p).phase ≡ Over → IsProbe w conn
  pub stays : (i : ℕ) (s : Space) → slice_get w.spaces i ≡ Some s → (conn : ℕ) (dialled : Option Uuid) → IsOneOf (Opened conn dialled) s.history → (is_open s.state conn ≡ true) ⊎ IsProbe w conn
  pub begins : AllOf (λ (s : Space). (conn : ℕ) → BeginsInOrder s conn) w.spaces
  -- of which versions Hellos were
  pub hellos : AllOf (λ (s : Space). (conn version : ℕ) (space : Uuid) (digest : List ℕ) → IsOneOf (message.Hello version space digest) (sent_on conn s.outputs) → SaidAs s.setting s.history conn version) w.spaces
  pub joins : (i : ℕ) (s : Space) → slice_get w.spaces i ≡ Some s → (conn : ℕ) (dialled : Option Uuid) → IsOneOf (Opened conn dialled) s.history → IsJoined w.spaces i dialled (ends_at w.pipes conn)
  pub known : AllOf Known w.spaces
  pub two : AllOf HasTwoEnds w.pipes
  pub directions : AllOf HasDirections w.spaces
  pub delivers : Delivers w
  pub shakes : (conn : ℕ) (p : Pipe) (to : End) (s there : Space) → slice_get w.pipes conn ≡ Some p → slice_get w.spaces (side to p).space ≡ Some s → slice_get w.spaces (side (other to) p).space ≡ Some there → IsHandShake w conn p to s there
  pub above : IsAboveTheLast w
  pub calls : CallsStandOnceIn w
  pub groups : GroupsStandOnceIn w
  pub results : ResultsStandOnceIn w
  -- of each space: rows were opened, requests that were not answered stand, and so on
  pub rows : AllOf (λ (s : Space). AllOf (λ (c : Connection). IsOneOf (Opened c.number c.dialled) s.history) s.state.connections) w.spaces
  pub said : AllOf (λ (s : Space). AllOf (λ (q : Request). IsSaid q.asked) s.state.requests) w.spaces
  pub asked : AllOf (λ (s : Space). (conn : ℕ) (is : Message → Bool) → is_open s.state conn ≡ true → AllOf (AnswersNone is) (came_on conn s.history) → total (asks_for is) (sent_on conn s.outputs) ≤ total (out_on conn is) s.state.requests) w.spaces
  pub waits : AllOf (λ (s : Space). (conn number fuel : ℕ) (value : Option Value) → is_open s.state conn ≡ true → IsOneOf (message.Returned number fuel value) (sent_on conn s.outputs) → AllOf (λ (m : Message). m ≡ message.Ack number → ⊥) (came_on conn s.history) → IsOneOf (record { until = Acked conn number; value = value }) s.state.results) w.spaces
  pub told : AllOf (λ (s : Space). (conn sequence : ℕ) → (period : ℕ) → IsOneOf (message.Lease sequence period) (sent_on conn s.outputs) → (asked : ℕ) × ((ids : List Rattle.space_ids.specs.declared.ids.ObjId.ObjId) × IsOneOf (message.Dirty sequence asked ids) (came_on conn s.history))) w.spaces
  pub cleaned : AllOf (λ (s : Space). (conn sequence : ℕ) → IsOneOf (message.Cleaned sequence) (sent_on conn s.outputs) → (strong : Bool) × ((ids : List Rattle.space_ids.specs.declared.ids.ObjId.ObjId) × IsOneOf (message.Clean sequence strong ids) (came_on conn s.history))) w.spaces
  pub answered : AllOf (λ (s : Space). (conn k : ℕ) → times_answered CallReply k (sent_on conn s.outputs) ≤ times_asked CallReply k (came_on conn s.history)) w.spaces
  pub places : AllOf (λ (s : Space). AreInPlace s.state) w.spaces
  pub parked : AllOf (λ (s : Space). AllOf (λ (p : ParkedFrame). CameAs s.history p p.frame) s.state.parked) w.spaces

-- ---- one of a list

pub one-some : (m : Message) (xs ys : List Message) → IsOneOf m xs → AreSomeOf xs ys → IsOneOf m ys
one-some m [] ys a b = absurd a
one-some m (x ∷ xs) [] a b = absurd b
one-some m (x ∷ xs) (y ∷ ys) (inl e) (inl b) = inl (e ∙ b.0)
one-some m (x ∷ xs) (y ∷ ys) (inr a) (inl b) = inr (one-some m xs ys a b.1)
one-some m (x ∷ xs) (y ∷ ys) a (inr b) = inr (one-some m (x ∷ xs) ys a b)

pub one-total : {A : Type 0} (f : A → ℕ) (x : A) (xs : List A) → IsOneOf x xs → f x ≤ total f xs
one-total f x [] a = absurd a
one-total f x (y ∷ ys) (inl e) = let b : f x ≡ f y = ap f e in omega arith
one-total f x (y ∷ ys) (inr a) = let b : f x ≤ total f ys = one-total f x ys a in omega arith

pub all-known : {A : Type 0} (Is : A → Type 0) (xs : List A) → ((x : A) → IsOneOf x xs → Is x) → AllOf Is xs
all-known Is [] k = tt
all-known Is (x ∷ xs) k = (k x (inl refl), all-known Is xs (λ y o. k y (inr o)))

-- ---- the other end

pub of-there : (spaces : List Space) (j conn : ℕ) (m : Message) (xs : List Message) → AreSomeOf xs (sent_on conn (outputs_at spaces j)) → IsOneOf m xs → (u : Space) × ((slice_get spaces j ≡ Some u) × IsOneOf m (sent_on conn u.outputs))
of-there spaces j conn m xs some one = by (slice_get spaces j) refl
  where
    by : (o : Option Space) → slice_get spaces j ≡ o → (u : Space) × ((slice_get spaces j ≡ Some u) × IsOneOf m (sent_on conn u.outputs))
    by None e = absurd (subst (λ (o : Option Space). IsOneOf m (sent_on conn (outputs_in o))) e (one-some m xs (sent_on conn (outputs_at spaces j)) one some))
    by (Some u) e = (u, (e, subst (λ (o : Option Space). IsOneOf m (sent_on conn (outputs_in o))) e (one-some m xs (sent_on conn (outputs_at spaces j)) one some)))

-- a frame that was sent went its way
pub went : (h : List Event) (conn : ℕ) (m : Message) (os : List Output) → AllOf (GoesItsWay h) os → IsOneOf m (sent_on conn os) → MaySend (HasOpened h) conn m
went h conn m [] a o = absurd o
went h conn m (x ∷ os) a o = by x a.0 (λ i. went h conn m os a.1 i) o
  where
    sent : (n : ℕ) (y : Message) (b : Bool) → (n == conn) ≡ b → MaySend (HasOpened h) n y → (IsOneOf m (sent_on conn os) → MaySend (HasOpened h) conn m) → IsOneOf m ((if b then y ∷ [] else []) ++ sent_on conn os) → MaySend (HasOpened h) conn m
    sent n y true at k rest (inl e) = subst (λ z. MaySend (HasOpened h) conn z) (sym e) (subst (λ z. MaySend (HasOpened h) z y) (eqb-true n conn at) k)
    sent n y true at k rest (inr i) = rest i
    sent n y false at k rest i = rest i

    by : (y : Output) → GoesItsWay h y → (IsOneOf m (sent_on conn os) → MaySend (HasOpened h) conn m) → IsOneOf m (Rattle.sp_order_laws.specs.Delivered.frame_in conn y ++ sent_on conn os) → MaySend (HasOpened h) conn m
    by (Started task) k rest i = rest i
    by (Ended task outcome) k rest i = rest i
    by (Withdrawn ids) k rest i = rest i
    by (Denied why) k rest i = rest i
    by (Send n y) k rest i = sent n y (n == conn) refl k rest i
    by (Dial peer) k rest i = rest i
    by (Close n) k rest i = rest i
    by (Ready task) k rest i = rest i

-- which event opened it
pub opened-as : (h : List Event) (conn : ℕ) (end : Bool) → HasOpened h conn end → (dialled : Option Uuid) × ((is_some dialled ≡ end) × IsOneOf (Opened conn dialled) h)
opened-as [] conn end o = absurd (true≢false (sym o))
opened-as (e ∷ h) conn end o = by (opens_end conn end e) refl o (opened-as h conn end)
  where
    this : (d : Event) (b : Bool) → opens_end conn b d ≡ true → (dialled : Option Uuid) × ((is_some dialled ≡ b) × (Opened conn dialled ≡ d))
    this (Opened n None) true f = absurd (true≢false (sym (right (n == conn) false f)))
      where
        right : (x y : Bool) → x && y ≡ true → y ≡ true
        right true y g = g
        right false y g = absurd (true≢false (sym g))
    this (Opened n (Some peer)) true f = (Some peer, (refl, ap (λ z. Opened z (Some peer)) (sym (eqb-true n conn (left (n == conn) true f)))))
      where
        left : (x y : Bool) → x && y ≡ true → x ≡ true
        left true y g = refl
        left false y g = absurd (true≢false (sym g))
    this (Opened n None) false f = (None, (refl, ap (λ z. Opened z None) (sym (eqb-true n conn (left (n == conn) true f)))))
      where
        left : (x y : Bool) → x && y ≡ true → x ≡ true
        left true y g = refl
        left false y g = absurd (true≢false (sym g))
    this (Opened n (Some peer)) false f = absurd (true≢false (sym (right (n == conn) false f)))
      where
        right : (x y : Bool) → x && y ≡ true → y ≡ true
        right true y g = g
        right false y g = absurd (true≢false (sym g))
    this _ true f = absurd (true≢false (sym f))
    this _ false f = absurd (true≢false (sym f))

    by : (b : Bool) → opens_end conn end e ≡ b → b || was_opened h conn end ≡ true → (HasOpened h conn end → (dialled : Option Uuid) × ((is_some dialled ≡ end) × IsOneOf (Opened conn dialled) h)) → (dialled : Option Uuid) × ((is_some dialled ≡ end) × IsOneOf (Opened conn dialled) (e ∷ h))
    by true f g rest = let x = this e end f in (x.0, (x.1.0, inl x.1.1))
    by false f g rest = let x = rest g in (x.0, (x.1.0, inr x.1.1))

pub ends-of : (pipes : List Pipe) (conn : ℕ) (p : Pipe) → slice_get pipes conn ≡ Some p → ends_at pipes conn ≡ Some (p.dialler.space, p.accepter.space)
ends-of pipes conn p is = ap (λ (o : Option Pipe). option_map (λ (q : Pipe). (q.dialler.space, q.accepter.space)) o) is

-- a space that opened a connection which a peer dialled is the end that was dialled
pub accepts-at : (spaces : List Space) (i : ℕ) (dialled : Option Uuid) (ends : ℕ × ℕ) → is_some dialled ≡ false → IsJoined spaces i dialled (Some ends) → ends.1 ≡ i
accepts-at spaces i None ends e j = j
accepts-at spaces i (Some peer) ends e j = absurd (true≢false e)

pub dials-at : (spaces : List Space) (i : ℕ) (dialled : Option Uuid) (ends : ℕ × ℕ) → is_some dialled ≡ true → IsJoined spaces i dialled (Some ends) → ends.0 ≡ i
dials-at spaces i None ends e j = absurd (true≢false (sym e))
dials-at spaces i (Some peer) ends e j = j.0

-- ---- numbers

pub both-left : (a b : Bool) → a && b ≡ true → a ≡ true
both-left true b e = refl
both-left false b e = absurd (true≢false (sym e))

pub both-right : (a b : Bool) → a && b ≡ true → b ≡ true
both-right true b e = e
both-right false b e = absurd (true≢false (sym e))

-- a call of this number
abbrev pub calls_as : ℕ → Message → Bool
calls_as k m = list_any (◌==◌ k) (call_number_in m)

-- how often one asks
asks-times : (k : ℕ) (m : Message) → times k (call_number_in m) ≤ asks_for (calls_as k) m
asks-times k (message.Call number object method fuel arguments) = number-times k number
  where
    number-times : (k n : ℕ) → count (n == k) + 0 ≤ count (true && ((k == n) || false))
    number-times k n = by (n == k) refl
      where
        by : (b : Bool) → (n == k) ≡ b → count b + 0 ≤ count ((k == n) || false)
        by true f = let a : count ((k == n) || false) ≡ 1 = ap (λ c. count (c || false)) (eq-eqb k n (sym (eqb-true n k f))) in omega arith
        by false f = omega arith
asks-times k (message.Lookup number name) = number-times k number
  where
    number-times : (k n : ℕ) → count (n == k) + 0 ≤ count (true && ((k == n) || false))
    number-times k n = by (n == k) refl
      where
        by : (b : Bool) → (n == k) ≡ b → count b + 0 ≤ count ((k == n) || false)
        by true f = let a : count ((k == n) || false) ≡ 1 = ap (λ c. count (c || false)) (eq-eqb k n (sym (eqb-true n k f))) in omega arith
        by false f = omega arith
asks-times k (message.Hello version space digest) = omega arith
asks-times k (message.Returned number fuel value) = omega arith
asks-times k (message.Threw number class) = omega arith
asks-times k (message.Spent number) = omega arith
asks-times k (message.Ack number) = omega arith
asks-times k (message.Dirty sequence period objects) = omega arith
asks-times k (message.Lease sequence period) = omega arith
asks-times k (message.Clean sequence strong objects) = omega arith
asks-times k (message.Cleaned sequence) = omega arith

pub asks-total : (k : ℕ) (ms : List Message) → times_asked CallReply k ms ≤ total (asks_for (calls_as k)) ms
asks-total k [] = omega arith
asks-total k (m ∷ ms) =
    let a : times k (call_number_in m ++ flat_map (asked_in CallReply) ms) ≡ times k (call_number_in m) + times_asked CallReply k ms = times-append k (call_number_in m) (flat_map (asked_in CallReply) ms) in
    let b : times k (call_number_in m) ≤ asks_for (calls_as k) m = asks-times k m in
    let c : times_asked CallReply k ms ≤ total (asks_for (calls_as k)) ms = asks-total k ms in omega arith

-- one of these answers is one time
pub answers-one : (x : Rattle.sp_order_laws.specs.Answering.Exchange) (k : ℕ) (m : Message) (ms : List Message) → IsOneOf m ms → 1 ≤ times k (answered_in x m) → 1 ≤ times_answered x k ms
answers-one x k m [] o le = absurd o
answers-one x k m (y ∷ ms) (inl e) le =
    let a : times k (answered_in x y ++ flat_map (answered_in x) ms) ≡ times k (answered_in x y) + times_answered x k ms = times-append k (answered_in x y) (flat_map (answered_in x) ms) in
    let b : times k (answered_in x m) ≡ times k (answered_in x y) = ap (λ z. times k (answered_in x z)) e in omega (arith, le)
answers-one x k m (y ∷ ms) (inr o) le =
    let a : times k (answered_in x y ++ flat_map (answered_in x) ms) ≡ times k (answered_in x y) + times_answered x k ms = times-append k (answered_in x y) (flat_map (answered_in x) ms) in
    let b : 1 ≤ times_answered x k ms = answers-one x k m ms o le in omega arith

pub answers-both : (x : Rattle.sp_order_laws.specs.Answering.Exchange) (k : ℕ) (xs ys : List Message) → times_answered x k (xs ++ ys) ≡ times_answered x k xs + times_answered x k ys
answers-both x k xs ys = ap (times k) (Rattle.sp_order_laws.proofs.NoteLemmas.flat-append (answered_in x) xs ys) ∙ times-append k (flat_map (answered_in x) xs) (flat_map (answered_in x) ys)

pub count-self : (n : ℕ) → count (n == n) ≡ 1
count-self n = ap count (eq-eqb n n refl)

-- none answers a call of this number, if none has it
pub none-answers : (k : ℕ) (m : Message) → (1 ≤ times k (answered_in CallReply m) → ⊥) → AnswersNone (calls_as k) m
none-answers k m none x is = by m none is
  where
    apart : (n : ℕ) → (1 ≤ count (n == k) + 0 → ⊥) → (y : Message) → list_any (◌==◌ n) (call_number_in y) ≡ true → calls_as k y ≡ false
    apart n away (message.Call number object method fuel arguments) e = pick (k == number) refl
      where
        pick : (b : Bool) → (k == number) ≡ b → b || false ≡ false
        pick true f = absurd (away (let a : count (n == k) ≡ 1 = ap count (eq-eqb n k (eqb-true n number (or-none (n == number) e) ∙ sym (eqb-true k number f))) in omega arith))
          where
            or-none : (b : Bool) → b || false ≡ true → b ≡ true
            or-none true g = refl
            or-none false g = absurd (true≢false (sym g))
        pick false f = refl
    apart n away (message.Lookup number name) e = pick (k == number) refl
      where
        pick : (b : Bool) → (k == number) ≡ b → b || false ≡ false
        pick true f = absurd (away (let a : count (n == k) ≡ 1 = ap count (eq-eqb n k (eqb-true n number (or-none (n == number) e) ∙ sym (eqb-true k number f))) in omega arith))
          where
            or-none : (b : Bool) → b || false ≡ true → b ≡ true
            or-none true g = refl
            or-none false g = absurd (true≢false (sym g))
        pick false f = refl
    apart n away (message.Hello version space digest) e = refl
    apart n away (message.Returned number fuel value) e = refl
    apart n away (message.Threw number class) e = refl
    apart n away (message.Spent number) e = refl
    apart n away (message.Ack number) e = refl
    apart n away (message.Dirty sequence period objects) e = refl
    apart n away (message.Lease sequence period) e = refl
    apart n away (message.Clean sequence strong objects) e = refl
    apart n away (message.Cleaned sequence) e = refl

    group : (n : ℕ) (y : Message) → list_any (◌==◌ n) (sequence_in y) ≡ true → calls_as k y ≡ false
    group n (message.Dirty sequence period objects) e = refl
    group n (message.Clean sequence strong objects) e = refl
    group n (message.Call number object method fuel arguments) e = absurd (true≢false (sym e))
    group n (message.Lookup number name) e = absurd (true≢false (sym e))
    group n (message.Hello version space digest) e = refl
    group n (message.Returned number fuel value) e = refl
    group n (message.Threw number class) e = refl
    group n (message.Spent number) e = refl
    group n (message.Ack number) e = refl
    group n (message.Lease sequence period) e = refl
    group n (message.Cleaned sequence) e = refl

    by : (y : Message) → (1 ≤ times k (answered_in CallReply y) → ⊥) → is_answer_to y x ≡ true → calls_as k x ≡ false
    by (message.Returned n fuel value) away e = apart n away x e
    by (message.Threw n class) away e = apart n away x e
    by (message.Spent n) away e = apart n away x e
    by (message.Lease n period) away e = group n x e
    by (message.Cleaned n) away e = group n x e
    by (message.Hello version space digest) away e = absurd (true≢false (sym e))
    by (message.Call n object method fuel arguments) away e = absurd (true≢false (sym e))
    by (message.Lookup n name) away e = absurd (true≢false (sym e))
    by (message.Ack n) away e = absurd (true≢false (sym e))
    by (message.Dirty n period objects) away e = absurd (true≢false (sym e))
    by (message.Clean n strong objects) away e = absurd (true≢false (sym e))
