-- Dirty and clean calls that are on their way to an owner stand among the requests of their client, in worlds in
-- which nothing fails.
use mathlib.Core.Path.{sym, ap, subst, ◌∙◌}
use Rattle.std.proofs.Common.{arith, inl, inr}
use Rattle.std.proofs.lemmas.Bool.{true≢false, eq-eqb, eqb-true}
use Rattle.std.proofs.lemmas.Slice.Eq.{bytes_eq-Decides}
use Rattle.std.specs.List.{flat_map}
use Rattle.std.specs.Prelude.{◌≡◌, refl, ℕ, ◌≤◌, ◌==◌, ◌&&◌, ◌||◌, not, is_some, Bool, true, false, cond, List, [], ◌∷◌, ◌++◌, Option, None, Some, find, slice_get}
use Rattle.std.specs.Str.{bytes_eq}
use Rattle.dgc_client.specs.Table.{is_among, references_at}
use Rattle.dgc_client.specs.declared.groups.Group.{Group}
use Rattle.dgc_client.specs.declared.lease.Due.{Due}
use Rattle.dgc_client.specs.declared.lease.Due.TheVariants as due
use Rattle.net_message.specs.declared.message.Message.{Message}
use Rattle.net_message.specs.declared.message.Message.TheVariants as message
use Rattle.space_ids.specs.declared.ids.ForeignId.{ForeignId}
use Rattle.space_ids.specs.declared.ids.ObjId.{ObjId}
use Rattle.uuid.specs.declared.Uuid.{Uuid}
use Rattle.sp_rules.specs.Classes.{Setting, Kind}
use Rattle.sp_rules.specs.Frames.{is_dirty_kind}
use Rattle.sp_rules.specs.Laws.{AllOf}
use Rattle.sp_rules.specs.Lists.{total}
use Rattle.sp_rules.specs.References.{is_id, is_id_in}
use Rattle.sp_rules.specs.Requests.{group_frame}
use Rattle.sp_rules.specs.State.{Request, Asked, Calls, LooksUp, Tells, Stage, Waits, Out, Answered, Connection, is_to}
use Rattle.sp_rules.specs.Worlds.{World, Space, Pipe, Accepter, id_in}
use Rattle.sp_rules.proofs.OwnLemmas.{and-left, and-right, some-same}
use Rattle.sp_laws.specs.Answered.{AreInPlace, IsDialledTo, StandsOn, GoesTo}
use Rattle.sp_laws.specs.Waiting.{count}
use Rattle.sp_order_laws.specs.Delivered.{came_on, sent_on, outputs_at, outputs_in}
use Rattle.sp_order_laws.specs.Ends.{IsOneOf}
use Rattle.sp_order_laws.specs.Answering.{answered_in, asked_in, GroupReply, times, times_asked, times_answered, group_reply_in}
use Rattle.sp_order_laws.specs.Places.{IsBetween, group_stands}
use Rattle.sp_order_laws.specs.Rising.{sequence_in}
use Rattle.sp_order_laws.proofs.RisingMoves.{IsSaid}
use Rattle.sp_order_laws.proofs.WorldFacts.{at-all}
use Rattle.sp_order_laws.specs.Asked.{frame_of, is_request, out_as, out_on, asks_for, is_answer_to, AnswersNone}
use Rattle.sp_order_laws.specs.Unbroken.{IsJoined}
use Rattle.sp_order_laws.proofs.SenderLemmas.{counts-there}
use Rattle.sp_order_laws.proofs.TimeLemmas.{Given, Dialled, dialled-there}
use Rattle.sp_order_laws.proofs.WelcomeFrames.{row-opened}
use Rattle.sp_order_laws.proofs.WelcomeLemmas.{Facts, ends-of, one-some, one-left, one-right, one-total, all-known}
use Rattle.sp_held_laws.proofs.FreeLemmas.{one-of}

-- ---- numbers

-- the first of a list
first-in : List ℕ → ℕ
first-in [] = 0
first-in (n ∷ ns) = n

has-first : List ℕ → Bool
has-first [] = false
has-first (n ∷ ns) = true

pub none-first : {A : Type 0} (n : ℕ) → [] ≡ n ∷ [] → A
unfolding has-first
none-first n e = absurd (true≢false (sym (ap has-first e)))

pub first-same : (k n : ℕ) → k ∷ [] ≡ n ∷ [] → k ≡ n
unfolding first-in
first-same k n e = ap first-in e

number-counts : (k : ℕ) (ns : List ℕ) → IsOneOf k ns → 1 ≤ times k ns
number-counts k [] a = absurd a
number-counts k (n ∷ ns) (inl e) = let b : count (n == k) ≡ 1 = ap count (eq-eqb n k (sym e)) in omega arith
number-counts k (n ∷ ns) (inr a) = let b : 1 ≤ times k ns = number-counts k ns a in omega arith

pub in-flat-of : {A B : Type 0} (f : A → List B) (k : B) (m : A) (ms : List A) → IsOneOf m ms → IsOneOf k (f m)
    → IsOneOf k (flat_map f ms)
in-flat-of f k m [] a b = absurd a
in-flat-of {A} {B} f k m (x ∷ ms) (inl e) b =
    one-left k (f x) (flat_map f ms) (subst (λ (y : A). IsOneOf k (f y)) e b)
in-flat-of f k m (x ∷ ms) (inr a) b = one-right k (f x) (flat_map f ms) (in-flat-of f k m ms a b)

-- ---- what answers a call of a number

or-none : (x : Bool) → x || false ≡ true → x ≡ true
or-none true f = refl
or-none false f = f

answers-number : (n s : ℕ) (answer m : Message) → sequence_in m ≡ s ∷ [] → s ≡ n → is_answer_to answer m ≡ true
    → IsOneOf n (group_reply_in answer)
answers-number n s answer (message.Dirty sequence period ids) e f a = by answer a
  where
    alone : (k : ℕ) → (k == sequence) || false ≡ true → n ≡ k
    alone k g = sym f ∙ (sym (first-same sequence s e) ∙ sym (eqb-true k sequence (or-none (k == sequence) g)))

    by : (x : Message) → is_answer_to x (message.Dirty sequence period ids) ≡ true → IsOneOf n (group_reply_in x)
    by (message.Lease k p) g = inl (alone k g)
    by (message.Cleaned k) g = inl (alone k g)
    by (message.Returned number fuel value) g = absurd (true≢false (sym g))
    by (message.Threw number class) g = absurd (true≢false (sym g))
    by (message.Spent number) g = absurd (true≢false (sym g))
    by (message.Hello version space digest) g = absurd (true≢false (sym g))
    by (message.Call number object method fuel arguments) g = absurd (true≢false (sym g))
    by (message.Ack number) g = absurd (true≢false (sym g))
    by (message.Dirty number p objects) g = absurd (true≢false (sym g))
    by (message.Clean number strong objects) g = absurd (true≢false (sym g))
    by (message.Lookup number name) g = absurd (true≢false (sym g))
answers-number n s answer (message.Clean sequence strong ids) e f a = by answer a
  where
    alone : (k : ℕ) → (k == sequence) || false ≡ true → n ≡ k
    alone k g = sym f ∙ (sym (first-same sequence s e) ∙ sym (eqb-true k sequence (or-none (k == sequence) g)))

    by : (x : Message) → is_answer_to x (message.Clean sequence strong ids) ≡ true → IsOneOf n (group_reply_in x)
    by (message.Lease k p) g = inl (alone k g)
    by (message.Cleaned k) g = inl (alone k g)
    by (message.Returned number fuel value) g = absurd (true≢false (sym g))
    by (message.Threw number class) g = absurd (true≢false (sym g))
    by (message.Spent number) g = absurd (true≢false (sym g))
    by (message.Hello version space digest) g = absurd (true≢false (sym g))
    by (message.Call number object method fuel arguments) g = absurd (true≢false (sym g))
    by (message.Ack number) g = absurd (true≢false (sym g))
    by (message.Dirty number p objects) g = absurd (true≢false (sym g))
    by (message.Clean number b objects) g = absurd (true≢false (sym g))
    by (message.Lookup number name) g = absurd (true≢false (sym g))
answers-number n s answer (message.Hello version space digest) e f a = none-first s e
answers-number n s answer (message.Call number object method fuel arguments) e f a = none-first s e
answers-number n s answer (message.Returned number fuel value) e f a = none-first s e
answers-number n s answer (message.Threw number class) e f a = none-first s e
answers-number n s answer (message.Spent number) e f a = none-first s e
answers-number n s answer (message.Ack number) e f a = none-first s e
answers-number n s answer (message.Lease sequence period) e f a = none-first s e
answers-number n s answer (message.Cleaned sequence) e f a = none-first s e
answers-number n s answer (message.Lookup number name) e f a = none-first s e

-- ---- a request that is out as such a frame

-- frames of this number alone
abbrev pub AreOfNumber : ℕ → (Message → Bool) → Type 0
AreOfNumber n is = (x : Message) → is x ≡ true → sequence_in x ≡ n ∷ []

pub record IsOutAs (conn n : ℕ) (is : Message → Bool) (q : Request) : Type 0 where
  pub call : ℕ
  pub group : Group
  pub asked : q.asked ≡ Tells call group
  pub out : q.stage ≡ Out conn n
  pub frame : is (group_frame group.kind n group.ids) ≡ true

group-number : (kind : Due) (s n : ℕ) (ids : List ObjId) → sequence_in (group_frame kind s ids) ≡ n ∷ [] → s ≡ n
group-number due.Dirty s n ids e = first-same s n e
group-number (due.Clean strong) s n ids e = first-same s n e

out-as : (conn n : ℕ) (is : Message → Bool) (q : Request) → AreOfNumber n is → IsSaid q.asked → 1 ≤ out_on conn is q
    → IsOutAs conn n is q
out-as conn n is q of-number said le = by q.asked refl q.stage refl said le
  where
    counted : (b : Bool) → 1 ≤ count b → b ≡ true
    counted true l = refl
    counted false l = absurd (omega (arith, l))

    told : (call : ℕ) (group : Group) → q.asked ≡ Tells call group → (c s : ℕ) → q.stage ≡ Out c s
        → (c == conn) && is (group_frame group.kind s group.ids) ≡ true → IsOutAs conn n is q
    told call group e c s f t =
        let fits : is (group_frame group.kind s group.ids) ≡ true = and-right (c == conn) _ t in
        let number : s ≡ n = group-number group.kind s n group.ids
        (of-number (group_frame group.kind s group.ids) fits) in
        record {
          call = call;
          group = group;
          asked = e;
          out = f ∙ (ap (λ x. Out x s) (eqb-true c conn (and-left (c == conn) _ t)) ∙ ap (λ x. Out conn x) number);
          frame = subst (λ (k : ℕ). is (group_frame group.kind k group.ids) ≡ true) number fits;
        }

    no-call : {A : Type 0} (number task lent : ℕ) (kind : Kind) (m : Message) → IsSaid (Calls number task lent kind m)
        → is m ≡ true → A
    no-call number task lent kind m s e = none-first n (sym (ap sequence_in s.1.1.1.1) ∙ of-number m e)

    by : (asked : Asked) → q.asked ≡ asked → (stage : Stage) → q.stage ≡ stage → IsSaid asked
        → 1 ≤ out_as conn is asked stage → IsOutAs conn n is q
    by asked e Waits f s l = absurd (omega (arith, l))
    by (Tells call group) e (Out c x) f s l =
        told call group e c x f (counted ((c == conn) && is (group_frame group.kind x group.ids)) l)
    by (Tells call group) e (Answered c) f s l =
        absurd (true≢false (sym (and-left false (is (frame_of (Tells call group) 0))
        (and-right (c == conn) (false && is (frame_of (Tells call group) 0))
        (counted ((c == conn) && (false && is (frame_of (Tells call group) 0))) l)))))
    by (Calls number task lent kind m) e (Out c x) f s l =
        no-call number task lent kind m s (and-right (c == conn) (is m) (counted ((c == conn) && is m) l))
    by (Calls number task lent kind m) e (Answered c) f s l =
        no-call number task lent kind m s (and-right (c == conn) (is m) (counted ((c == conn) && is m) l))
    by (LooksUp number task name) e (Out c x) f s l =
        none-first n (of-number (message.Lookup number name)
        (and-right (c == conn) (is (message.Lookup number name))
        (counted ((c == conn) && is (message.Lookup number name)) l)))
    by (LooksUp number task name) e (Answered c) f s l =
        none-first n (of-number (message.Lookup number name)
        (and-right (c == conn) (is (message.Lookup number name))
        (counted ((c == conn) && is (message.Lookup number name)) l)))

-- ---- what is on its way is asked

is-there : (conn : ℕ) (cs : List Connection) (c : Connection) → IsOneOf c cs → c.number ≡ conn
    → is_some (find (λ (d : Connection). d.number == conn) cs) ≡ true
is-there conn [] c a e = absurd a
is-there conn (d ∷ cs) c (inl same) e =
    pick (d.number == conn) (eq-eqb d.number conn (sym (ap (λ (x : Connection). x.number) same) ∙ e))
  where
    pick : (b : Bool) → b ≡ true → is_some (cond b (Some d) (find (λ (x : Connection). x.number == conn) cs)) ≡ true
    pick true f = refl
    pick false f = absurd (true≢false (sym f))
is-there conn (d ∷ cs) c (inr a) e = pick (d.number == conn) (is-there conn cs c a e)
  where
    pick : (b : Bool) → is_some (find (λ (x : Connection). x.number == conn) cs) ≡ true
        → is_some (cond b (Some d) (find (λ (x : Connection). x.number == conn) cs)) ≡ true
    pick true f = refl
    pick false f = f

-- a request that stands out so, of a client
pub record Asks (a : Space) (conn n : ℕ) (is : Message → Bool) : Type 0 where
  pub request : Request
  pub there : IsOneOf request a.state.requests
  pub stands : IsOutAs conn n is request

pub asked-there : {settings : List Setting} {w : World} → Given settings w
    → (conn n : ℕ) (p : Pipe) (a b : Space) (m : Message) (is : Message → Bool) → IsBetween w conn p a b
    → IsOneOf m p.accepter.queue → sequence_in m ≡ n ∷ [] → is_request m ≡ true → is m ≡ true → AreOfNumber n is
    → Asks a conn n is
asked-there {settings} {w} G conn n p a b m is between there number asks fits of-number =
    record {
      request = found.0;
      there = found.1.0;
      stands =
          out-as conn n is found.0 of-number
          (one-of (λ (x : Request). IsSaid x.asked) a.state.requests found.0
          (at-all _ p.dialler.space w.spaces a between.dialled F.said) found.1.0) found.1.1;
    }
  where
    F : Facts settings w
    F = G.facts

    in-it : IsOneOf n (sequence_in m)
    in-it = subst (IsOneOf n) (sym number) (inl refl)

    sent : IsOneOf m (sent_on conn a.outputs)
    sent = subst (λ (x : Option Space). IsOneOf m (sent_on conn (outputs_in x))) between.dialled
        (one-some m (came_on conn b.history ++ p.accepter.queue) (sent_on conn (outputs_at w.spaces p.dialler.space))
        (one-right m (came_on conn b.history) p.accepter.queue there)
        (F.delivers.brings conn p Accepter between.pipe b between.accepted))

    dialled : Dialled a conn b.setting.id
    dialled = dialled-there G conn n p a b m between in-it sent

    asked-in : IsOneOf n (asked_in GroupReply m)
    asked-in = in-it

    none : AllOf (AnswersNone is) (came_on conn a.history)
    none = all-known (AnswersNone is) (came_on conn a.history)
        (λ answer came x answers. pick answer came x answers (is x) refl)
      where
        pick : (answer : Message) → IsOneOf answer (came_on conn a.history) → (x : Message)
            → is_answer_to answer x ≡ true → (c : Bool) → is x ≡ c → c ≡ false
        pick answer came x answers false e = refl
        pick answer came x answers true e =
            let once : group_stands conn n p a ≤ 1 = F.groups.once conn n p a b between in
            let asked : 1 ≤ times_asked GroupReply n p.accepter.queue =
            number-counts n (flat_map (asked_in GroupReply) p.accepter.queue)
            (in-flat-of (asked_in GroupReply) n m p.accepter.queue there asked-in) in
            let answered : 1 ≤ times_answered GroupReply n (came_on conn a.history ++ p.dialler.queue) =
            number-counts n (flat_map (answered_in GroupReply) (came_on conn a.history ++ p.dialler.queue))
            (in-flat-of (answered_in GroupReply) n answer (came_on conn a.history ++ p.dialler.queue)
            (one-left answer (came_on conn a.history) p.dialler.queue came)
            (answers-number n n answer x (of-number x e) refl answers)) in
            absurd (omega (arith, once, asked, answered))

    counted : 1 ≤ total (asks_for is) (sent_on conn a.outputs)
    counted =
        let c : asks_for is m ≤ total (asks_for is) (sent_on conn a.outputs) =
        one-total (asks_for is) m (sent_on conn a.outputs) sent in
        let d : asks_for is m ≡ 1 = both (is_request m) (is m) asks fits in omega arith
      where
        both : (x y : Bool) → x ≡ true → y ≡ true → count (x && y) ≡ 1
        both true true f g = refl
        both true false f g = absurd (true≢false (sym g))
        both false y f g = absurd (true≢false (sym f))

    stands : 1 ≤ total (out_on conn is) a.state.requests
    stands = let c : total (asks_for is) (sent_on conn a.outputs) ≤ total (out_on conn is) a.state.requests =
        at-all _ p.dialler.space w.spaces a between.dialled F.asked conn is
        (is-there conn a.state.connections dialled.row dialled.there dialled.number) none in omega (arith, c, counted)

    found : (x : Request) × (IsOneOf x a.state.requests × (1 ≤ out_on conn is x))
    found = counts-there (out_on conn is) a.state.requests stands

-- ---- to whom a request is out

pub out-peer : {settings : List Setting} {w : World} → Given settings w
    → (conn n : ℕ) (p : Pipe) (a b : Space) (q : Request) → IsBetween w conn p a b → IsOneOf q a.state.requests
    → q.stage ≡ Out conn n → q.peer ≡ b.setting.id
out-peer {settings} {w} G conn n p a b q between there out =
    by stands.row.dialled refl stands.dialled
    (subst (IsJoined w.spaces p.dialler.space stands.row.dialled) (ends-of w.pipes conn p between.pipe)
    (row-opened G.facts p.dialler.space conn a stands.row between.dialled stands.found))
  where
    ways : StandsOn a.state.connections q.peer q.stage × GoesTo q.peer q.asked
    ways = one-of (λ (x : Request). StandsOn a.state.connections x.peer x.stage × GoesTo x.peer x.asked)
        a.state.requests q (at-all (λ (s : Space). AreInPlace s.state) p.dialler.space w.spaces a between.dialled
        G.facts.places).requests there

    stands : IsDialledTo a.state.connections conn q.peer
    stands = subst (StandsOn a.state.connections q.peer) out ways.0

    by : (d : Option Uuid) → stands.row.dialled ≡ d → is_to q.peer d ≡ true
        → IsJoined w.spaces p.dialler.space d (Some (p.dialler.space, p.accepter.space)) → q.peer ≡ b.setting.id
    by None f g j = absurd (true≢false (sym g))
    by (Some d) f g j = sym ((bytes_eq-Decides d q.peer).0 g) ∙ some-same (sym j.1 ∙ ap id_in between.accepted)

pub group-peer : {settings : List Setting} {w : World} → Given settings w
    → (i : ℕ) (a : Space) (q : Request) (call : ℕ) (group : Group) → slice_get w.spaces i ≡ Some a
    → IsOneOf q a.state.requests → q.asked ≡ Tells call group → group.peer ≡ q.peer
group-peer {settings} {w} G i a q call group at there asked =
    subst (GoesTo q.peer) asked (one-of
    (λ (x : Request). StandsOn a.state.connections x.peer x.stage × GoesTo x.peer x.asked) a.state.requests q
    (at-all (λ (s : Space). AreInPlace s.state) i w.spaces a at G.facts.places).requests there).1

-- ---- ids among references

pub among-ids : (r : ForeignId) (peer : Uuid) (ids : List ObjId) → r.space ≡ peer → is_id_in ids r.id ≡ true
    → is_among r (references_at peer ids) ≡ true
among-ids r peer [] same e = e
among-ids r peer (id ∷ ids) same e =
    pick (bytes_eq r.space peer) ((bytes_eq-Decides r.space peer).1 same) (is_id r.id id) e
    (among-ids r peer ids same)
  where
    pick : (x : Bool) → x ≡ true → (y : Bool) → y || is_id_in ids r.id ≡ true
        → (is_id_in ids r.id ≡ true → is_among r (references_at peer ids) ≡ true)
        → (x && y) || is_among r (references_at peer ids) ≡ true
    pick true t true f rest = refl
    pick true t false f rest = rest f
    pick false t y f rest = absurd (true≢false (sym t))

pub ids-among : (r : ForeignId) (peer : Uuid) (ids : List ObjId) → is_among r (references_at peer ids) ≡ true
    → is_id_in ids r.id ≡ true
ids-among r peer [] e = e
ids-among r peer (id ∷ ids) e = pick (bytes_eq r.space peer) (is_id r.id id) e (ids-among r peer ids)
  where
    pick : (x y : Bool) → (x && y) || is_among r (references_at peer ids) ≡ true
        → (is_among r (references_at peer ids) ≡ true → is_id_in ids r.id ≡ true) → y || is_id_in ids r.id ≡ true
    pick x true f rest = refl
    pick true false f rest = rest f
    pick false false f rest = rest f

-- ---- a clean call has its request

-- a clean call of a number that names an object
abbrev cleans : ℕ → ObjId → Message → Bool
cleans n o (message.Clean sequence strong ids) = (sequence == n) && is_id_in ids o
cleans n o _ = false

cleans-number : (n : ℕ) (o : ObjId) → AreOfNumber n (cleans n o)
cleans-number n o (message.Clean sequence strong ids) e =
    ap (λ k. k ∷ []) (eqb-true sequence n (and-left (sequence == n) _ e))
cleans-number n o (message.Hello version space digest) e = absurd (true≢false (sym e))
cleans-number n o (message.Call number object method fuel arguments) e = absurd (true≢false (sym e))
cleans-number n o (message.Returned number fuel value) e = absurd (true≢false (sym e))
cleans-number n o (message.Threw number class) e = absurd (true≢false (sym e))
cleans-number n o (message.Spent number) e = absurd (true≢false (sym e))
cleans-number n o (message.Ack number) e = absurd (true≢false (sym e))
cleans-number n o (message.Lease sequence period) e = absurd (true≢false (sym e))
cleans-number n o (message.Dirty sequence period ids) e = absurd (true≢false (sym e))
cleans-number n o (message.Cleaned sequence) e = absurd (true≢false (sym e))
cleans-number n o (message.Lookup number name) e = absurd (true≢false (sym e))

-- a clean call of the client that is out under a number, and names the object
pub record CleanOut (a : Space) (conn n : ℕ) (o : ObjId) : Type 0 where
  pub request : Request
  pub call : ℕ
  pub group : Group
  pub there : IsOneOf request a.state.requests
  pub asked : request.asked ≡ Tells call group
  pub out : request.stage ≡ Out conn n
  pub clean : not (is_dirty_kind group.kind) ≡ true
  pub names : is_id_in group.ids o ≡ true

pub clean-out : {settings : List Setting} {w : World} → Given settings w
    → (conn n : ℕ) (strong : Bool) (ids : List ObjId) (p : Pipe) (a b : Space) (o : ObjId) → IsBetween w conn p a b
    → IsOneOf (message.Clean n strong ids) p.accepter.queue → is_id_in ids o ≡ true → CleanOut a conn n o
clean-out {settings} {w} G conn n strong ids p a b o between there names = record {
  request = A.request;
  call = A.stands.call;
  group = A.stands.group;
  there = A.there;
  asked = A.stands.asked;
  out = A.stands.out;
  clean = (kind-of A.stands.group.kind A.stands.group.ids A.stands.frame).0;
  names = (kind-of A.stands.group.kind A.stands.group.ids A.stands.frame).1;
}
  where
    both : (x y : Bool) → x ≡ true → y ≡ true → x && y ≡ true
    both true y f g = g
    both false y f g = absurd (true≢false (sym f))

    A : Asks a conn n (cleans n o)
    A = asked-there G conn n p a b (message.Clean n strong ids) (cleans n o) between there refl refl
        (both (n == n) (is_id_in ids o) (eq-eqb n n refl) names) (cleans-number n o)

    kind-of : (kind : Due) (others : List ObjId) → cleans n o (group_frame kind n others) ≡ true
        → (not (is_dirty_kind kind) ≡ true) × (is_id_in others o ≡ true)
    kind-of due.Dirty others e = absurd (true≢false (sym e))
    kind-of (due.Clean b) others e = (refl, and-right (n == n) _ e)
