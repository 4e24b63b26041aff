-- Dirty and clean calls come in time, in worlds in which nothing fails.
use mathlib.Core.Path.{sym, ap, subst, ◌∙◌}
use Rattle.std.proofs.Common.{arith, inl, inr}
use Rattle.std.proofs.lemmas.Bool.{true≢false, eqb-true, leb-true}
use Rattle.std.specs.Str.{bytes_eq}
use Rattle.std.specs.Prelude.{◌≡◌, ◌≤◌, ◌⊎◌, refl, ℕ, ◌+◌, ◌==◌, ◌&&◌, ◌||◌, nat_le, nat_lt, is_some, Bool, true, false, List, [], ◌∷◌, ◌++◌, Option, None, Some, find, cond, slice_get, if◌then◌else◌}
use Rattle.uuid.specs.declared.Uuid.{Uuid}
use Rattle.dgc_list.specs.History as owner
use Rattle.dgc_list.specs.Objects.{is_same}
use Rattle.dgc_list.specs.Remembered.{is_late, is_at_most, is_gone, after_dirty, after_clean, after_moment}
use Rattle.dgc_list.specs.declared.remembered.Remembered.{Remembered}
use Rattle.net_message.specs.declared.message.Message.{Message}
use Rattle.net_message.specs.declared.message.Message.TheVariants as message
use Rattle.space_ids.specs.declared.ids.ObjId.{ObjId}
use Rattle.sp_rules.specs.Classes.{Setting}
use Rattle.sp_rules.specs.Events.{Event, Received}
use Rattle.sp_rules.specs.Laws.{AllOf}
use Rattle.sp_rules.specs.Lines.{IsAlone, AreDialledOnce, HasLines}
use Rattle.sp_rules.specs.State.{Connection, connection_at, is_open, is_to}
use Rattle.sp_rules.specs.Worlds.{World, Space, Pipe, Dialler, Accepter, id_in, run, new_world}
use Rattle.sp_rules.proofs.AllLemmas.{some-none, none-found, found-is}
use Rattle.sp_rules.proofs.LineLemmas.{one-peer, same-peer}
use Rattle.sp_rules.proofs.LinesOfRules.{lines_wait_for_hellos}
use Rattle.sp_rules.proofs.OwnLemmas.{some-same}
use Rattle.sp_laws.specs.Directions.{HasOpened, HasDirections}
use Rattle.sp_laws.specs.CallSent.{MaySend}
use Rattle.sp_order_laws.specs.Hellos.{BeginsWithHello, NoHellos, BeginsInOrder}
use Rattle.sp_order_laws.proofs.TableLemmas.{connections_begin_in_order}
use Rattle.sp_laws.specs.Inbound.{opened}
use Rattle.sp_order_laws.specs.Delivered.{came_on, sent_on, outputs_in, outputs_at, frame_of, has_event_on, is_event_on, IsEnd}
use Rattle.sp_order_laws.specs.Ends.{IsOneOf}
use Rattle.sp_order_laws.specs.Places.{IsBetween}
use Rattle.sp_order_laws.specs.Rising.{sequence_in, sequence_numbers, NumbersRiseIn}
use Rattle.sp_order_laws.proofs.LastWorlds.{rises-over}
use Rattle.sp_order_laws.proofs.NoteLemmas.{flat-append}
use Rattle.sp_order_laws.proofs.RisingWorlds.{numbers_rise}
use Rattle.sp_order_laws.proofs.WorldFacts.{Known, at-all}
use Rattle.sp_order_laws.specs.Heard.{CameFrom, IsHeard}
use Rattle.sp_order_laws.specs.InTime.{ComeInTimeIn, CallsComeInTime}
use Rattle.sp_order_laws.specs.Unbroken.{IsJoined}
use Rattle.sp_order_laws.proofs.HeardLemmas.{owners_hear_what_came}
use Rattle.sp_order_laws.proofs.UnbrokenLaws.{Laws, facts-of, standing-of, one-either}
use Rattle.sp_laws.specs.Sent.{is_hello}
use Rattle.sp_order_laws.proofs.WelcomeFrames.{row-opened, dialler-row, setting-at, not-dialled, ends-open}
use Rattle.sp_order_laws.proofs.WelcomeLemmas.{Facts, one-some, one-left, one-right, ends-of, went, opened-as}
use Rattle.sp_order_laws.proofs.WorldStays

-- ---- the number that is remembered came

heard-as : (h : List Event) (client c : List ℕ) (o : ObjId) (objects : List ObjId) (number n : ℕ) → owner.is_told client objects c o ≡ true → CameFrom h client number → number ≡ n → CameFrom h c n
heard-as h client c o objects number n told k e = subst (λ m. CameFrom h c m) e (subst (λ (x : List ℕ). CameFrom h x number) (one-peer client c (left (bytes_eq client c) _ told)) k)
  where
    left : (a b : Bool) → a && b ≡ true → a ≡ true
    left true b e = refl
    left false b e = absurd (true≢false (sym e))

remembered-came : (h : List Event) (c : List ℕ) (o : ObjId) (calls : List owner.Call) (n : ℕ) → AllOf (IsHeard h) calls → (owner.remembered_of calls c o).number ≡ Some n → CameFrom h c n
remembered-came h c o [] n a e = absurd (some-none n (sym e))
remembered-came h c o (owner.Dirty client objects number period ∷ calls) n a e = by (owner.is_told client objects c o) refl (λ f. remembered-came h c o calls n a.1 f) e
  where
    rest : Remembered
    rest = owner.remembered_of calls c o

    by : (b : Bool) → owner.is_told client objects c o ≡ b → ((owner.remembered_of calls c o).number ≡ Some n → CameFrom h c n) → (if b then after_dirty number (owner.moment_of calls + owner.granted period) rest else rest).number ≡ Some n → CameFrom h c n
    by false t k f = k f
    by true t k f = late (is_late rest number) f
      where
        late : (b : Bool) → (if b then rest else record { number = Some number; strong = rest.strong; expires = Some (owner.moment_of calls + owner.granted period) }).number ≡ Some n → CameFrom h c n
        late true f = k f
        late false f = heard-as h client c o objects number n t a.0 (some-same f)
remembered-came h c o (owner.Clean client objects number strong ∷ calls) n a e = by (owner.is_told client objects c o) refl (λ f. remembered-came h c o calls n a.1 f) e
  where
    rest : Remembered
    rest = owner.remembered_of calls c o

    by : (b : Bool) → owner.is_told client objects c o ≡ b → ((owner.remembered_of calls c o).number ≡ Some n → CameFrom h c n) → (if b then after_clean number strong rest else rest).number ≡ Some n → CameFrom h c n
    by false t k f = k f
    by true t k f = late (is_late rest number) f
      where
        kept : (b : Bool) → (if b then Some number else None) ≡ Some n → CameFrom h c n
        kept true g = heard-as h client c o objects number n t a.0 (some-same g)
        kept false g = absurd (some-none n (sym g))

        late : (b : Bool) → (if b then rest else record { number = (if strong || rest.strong then Some number else None); strong = strong || rest.strong; expires = None }).number ≡ Some n → CameFrom h c n
        late true f = k f
        late false f = kept (strong || rest.strong) f
remembered-came h c o (owner.Moment moment ∷ calls) n a e = by (nat_lt moment (owner.moment_of calls)) (λ f. remembered-came h c o calls n a.1 f) e
  where
    rest : Remembered
    rest = owner.remembered_of calls c o

    kept : (b : Bool) → (rest.number ≡ Some n → CameFrom h c n) → (if b then rest.number else None) ≡ Some n → CameFrom h c n
    kept true k g = k g
    kept false k g = absurd (some-none n (sym g))

    gone : (b : Bool) → (rest.number ≡ Some n → CameFrom h c n) → (if b then record { number = (if rest.strong then rest.number else None); strong = rest.strong; expires = None } else rest).number ≡ Some n → CameFrom h c n
    gone true k f = kept rest.strong k f
    gone false k f = k f

    by : (b : Bool) → (rest.number ≡ Some n → CameFrom h c n) → (if b then rest else after_moment moment rest).number ≡ Some n → CameFrom h c n
    by true k f = k f
    by false k f = gone (is_gone moment rest.expires) k f
remembered-came h c o (owner.Forget object ∷ calls) n a e = by (is_same object o) (λ f. remembered-came h c o calls n a.1 f) e
  where
    by : (b : Bool) → ((owner.remembered_of calls c o).number ≡ Some n → CameFrom h c n) → (if b then Rattle.dgc_list.specs.Remembered.blank else owner.remembered_of calls c o).number ≡ Some n → CameFrom h c n
    by true k f = absurd (some-none n (sym f))
    by false k f = k f

-- ---- frames with numbers

pub in-flat : (n : ℕ) (ms : List Message) → IsOneOf n (sequence_numbers ms) → (m : Message) × (IsOneOf m ms × IsOneOf n (sequence_in m))
in-flat n [] o = absurd o
in-flat n (m ∷ ms) o = by (λ a. in-flat n ms a) (one-either n (sequence_in m) (sequence_numbers ms) o)
  where
    by : (IsOneOf n (sequence_numbers ms) → (x : Message) × (IsOneOf x ms × IsOneOf n (sequence_in x))) → IsOneOf n (sequence_in m) ⊎ IsOneOf n (sequence_numbers ms) → (x : Message) × (IsOneOf x (m ∷ ms) × IsOneOf n (sequence_in x))
    by rest (inl a) = (m, (inl refl, a))
    by rest (inr a) = let r = rest a in (r.0, (inr r.1.0, r.1.1))

asks-there : (D : ℕ → Bool → Type 0) (conn n : ℕ) (m : Message) → IsOneOf n (sequence_in m) → MaySend D conn m → D conn true
asks-there D conn n (message.Dirty sequence period objects) o k = k
asks-there D conn n (message.Clean sequence strong objects) o k = k
asks-there D conn n (message.Hello version space digest) o k = absurd o
asks-there D conn n (message.Call number object method fuel arguments) o k = absurd o
asks-there D conn n (message.Returned number fuel value) o k = absurd o
asks-there D conn n (message.Threw number class) o k = absurd o
asks-there D conn n (message.Spent number) o k = absurd o
asks-there D conn n (message.Ack number) o k = absurd o
asks-there D conn n (message.Lease sequence period) o k = absurd o
asks-there D conn n (message.Cleaned sequence) o k = absurd o
asks-there D conn n (message.Lookup number name) o k = absurd o

pub has-on : (conn : ℕ) (m : Message) (h : List Event) → IsOneOf m (came_on conn h) → has_event_on conn h ≡ true
has-on conn m [] o = absurd o
has-on conn m (e ∷ h) o = by (λ i. has-on conn m h i) (one-either m (came_on conn h) (frame_of conn e) o)
  where
    or-right : (a b : Bool) → b ≡ true → a || b ≡ true
    or-right true b f = refl
    or-right false b f = f

    or-left : (a b : Bool) → a ≡ true → a || b ≡ true
    or-left true b f = refl
    or-left false b f = absurd (true≢false (sym f))

    on : (x : Event) → IsOneOf m (frame_of conn x) → is_event_on conn x ≡ true
    on (Received c y) i = pick (c == conn) refl i
      where
        pick : (b : Bool) → (c == conn) ≡ b → IsOneOf m (if b then y ∷ [] else []) → (c == conn) ≡ true
        pick true f i = f
        pick false f i = absurd i
    on _ i = absurd i

    by : (IsOneOf m (came_on conn h) → has_event_on conn h ≡ true) → IsOneOf m (came_on conn h) ⊎ IsOneOf m (frame_of conn e) → is_event_on conn e || has_event_on conn h ≡ true
    by rest (inl i) = or-right (is_event_on conn e) (has_event_on conn h) (rest i)
    by rest (inr i) = or-left (is_event_on conn e) (has_event_on conn h) (on e i)

-- a Hello that a space sent names it
own-hello : (s : Space) (conn version : ℕ) (client digest : List ℕ) → BeginsInOrder s conn → IsOneOf (message.Hello version client digest) (sent_on conn s.outputs) → client ≡ s.setting.id
own-hello s conn version client digest k o = by (opened conn s.history) refl
  where
    id-of : Message → List ℕ
    id-of (message.Hello v c d) = c
    id-of _ = []

    none : (ms : List Message) → NoHellos ms → IsOneOf (message.Hello version client digest) ms → ⊥
    none [] a i = i
    none (m ∷ ms) a (inl e) = true≢false (ap is_hello e ∙ a.0)
    none (m ∷ ms) a (inr i) = none ms a.1 i

    first : (ms : List Message) → BeginsWithHello s.setting ms → IsOneOf (message.Hello version client digest) ms → client ≡ s.setting.id
    first [] a i = absurd i
    first (m ∷ ms) a (inl e) = ap id-of (e ∙ a.0.says)
    first (m ∷ ms) a (inr i) = absurd (none ms a.1 i)

    by : (b : Bool) → opened conn s.history ≡ b → client ≡ s.setting.id
    by true e = first (sent_on conn s.outputs) (k.first e) o
    by false e = absurd (subst (λ (l : List Message). IsOneOf (message.Hello version client digest) l) (k.silent e).1 o)

-- ---- one connection to a peer

pub found-in : (is : Connection → Bool) (cs : List Connection) (c : Connection) → find is cs ≡ Some c → IsOneOf c cs
found-in is [] c e = absurd (some-none c (sym e))
found-in is (d ∷ cs) c e = by (is d) (λ f. found-in is cs c f) e
  where
    by : (b : Bool) → (find is cs ≡ Some c → IsOneOf c cs) → cond b (Some d) (find is cs) ≡ Some c → IsOneOf c (d ∷ cs)
    by true k f = inl (sym (some-same f))
    by false k f = inr (k f)

all-at : {A : Type 0} (Is : A → Type 0) (x : A) (xs : List A) → IsOneOf x xs → AllOf Is xs → Is x
all-at Is x [] o a = absurd o
all-at Is x (y ∷ ys) (inl e) a = subst Is (sym e) a.0
all-at Is x (y ∷ ys) (inr o) a = all-at Is x ys o a.1

alone : (p : Uuid) (ds : List Connection) (y : Connection) → IsAlone (Some p) ds → IsOneOf y ds → y.dialled ≡ Some p → ⊥
alone p ds y k j g = true≢false (sym (ap (is_to p) g ∙ same-peer p) ∙ all-at (λ (z : Connection). is_to p z.dialled ≡ false) y ds j (none-found (λ (z : Connection). is_to p z.dialled) ds k))

pub one-dialled : (peer : Uuid) (cs : List Connection) (c d : Connection) → AreDialledOnce cs → IsOneOf c cs → IsOneOf d cs → c.dialled ≡ Some peer → d.dialled ≡ Some peer → c ≡ d
one-dialled peer [] c d a o i e f = absurd o
one-dialled peer (x ∷ cs) c d a (inl o) (inl i) e f = o ∙ sym i
one-dialled peer (x ∷ cs) c d a (inl o) (inr i) e f = absurd (alone peer cs d (subst (λ (p : Option Uuid). IsAlone p cs) (ap (λ (y : Connection). y.dialled) (sym o) ∙ e) a.0) i f)
one-dialled peer (x ∷ cs) c d a (inr o) (inl i) e f = absurd (alone peer cs c (subst (λ (p : Option Uuid). IsAlone p cs) (ap (λ (y : Connection). y.dialled) (sym i) ∙ f) a.0) o e)
one-dialled peer (x ∷ cs) c d a (inr o) (inr i) e f = one-dialled peer cs c d a.1 o i e f

-- ---- a call that is on its way

low : (k n : ℕ) → n + 1 ≤ k → nat_le k n ≡ false
low k n le = pick (nat_le k n) refl
  where
    pick : (b : Bool) → nat_le k n ≡ b → b ≡ false
    pick true e = let f : k ≤ n = leb-true k n e in absurd (omega arith)
    pick false e = refl

-- What is known of a world in which nothing fails.
pub record Given (settings : List Setting) (w : World) : Type 0 where
  pub facts : Facts settings w
  pub begins : AllOf (λ (s : Space). (conn : ℕ) → BeginsInOrder s conn) w.spaces
  pub heard : AllOf (λ (s : Space). AllOf (IsHeard s.history) s.state.owner.entries) w.spaces
  pub rise : NumbersRiseIn w

-- a frame with a number was sent on a connection: its sender dialled the other space there
pub record Dialled (s : Space) (conn : ℕ) (peer : Uuid) : Type 0 where
  pub row : Connection
  pub number : row.number ≡ conn
  pub there : IsOneOf row s.state.connections
  pub dialled : row.dialled ≡ Some peer

pub dialled-there : {settings : List Setting} {w : World} (G : Given settings w) (conn n : ℕ) (p : Pipe) (a b : Space) (m : Message) → IsBetween w conn p a b → IsOneOf n (sequence_in m) → IsOneOf m (sent_on conn a.outputs) → Dialled a conn b.setting.id
dialled-there {settings} {w} G conn n p a b m between num sent = by (connection_at a.state conn) refl
  where
    F : Facts settings w
    F = G.facts

    plain : (y : Message) → IsOneOf n (sequence_in y) → is_hello y ≡ false
    plain (message.Dirty sequence period objects) o = refl
    plain (message.Clean sequence strong objects) o = refl
    plain (message.Hello version space digest) o = absurd o
    plain (message.Call number object method fuel arguments) o = refl
    plain (message.Returned number fuel value) o = refl
    plain (message.Threw number class) o = refl
    plain (message.Spent number) o = refl
    plain (message.Ack number) o = refl
    plain (message.Lease sequence period) o = refl
    plain (message.Cleaned sequence) o = refl
    plain (message.Lookup number name) o = refl

    opened-here : is_open a.state conn ≡ true
    opened-here =
        let x = opened-as a.history conn true (asks-there (HasOpened a.history) conn n m num (went a.history conn m a.outputs (at-all HasDirections p.dialler.space w.spaces a between.dialled F.directions).sent sent)) in
        (ends-open F conn p a b m between (plain m num) (inl sent)).0 x.0 x.1.1

    to : (c : Connection) → connection_at a.state conn ≡ Some c → (d : Option Uuid) → c.dialled ≡ d → is_some d ≡ true → IsJoined w.spaces p.dialler.space d (Some (p.dialler.space, p.accepter.space)) → d ≡ Some b.setting.id
    to c at None e f j = absurd (true≢false (sym f))
    to c at (Some d) e f j = sym j.1 ∙ ap id_in between.accepted

    by : (o : Option Connection) → connection_at a.state conn ≡ o → Dialled a conn b.setting.id
    by None e = absurd (true≢false (sym opened-here ∙ ap (λ (o : Option Connection). is_some o) e))
    by (Some c) e = record {
      row = c;
      number = eqb-true c.number conn (found-is (λ (d : Connection). d.number == conn) a.state.connections c e);
      there = found-in (λ (d : Connection). d.number == conn) a.state.connections c e;
      dialled = to c e c.dialled refl (dialler-row F conn p a c between.pipe between.dialled e) (subst (IsJoined w.spaces p.dialler.space c.dialled) (ends-of w.pipes conn p between.pipe) (row-opened F p.dialler.space conn a c between.dialled e));
    }

-- what a call names came on the connection that the space dialled
pub one-way : {settings : List Setting} {w : World} (G : Given settings w) (conn k n : ℕ) (p : Pipe) (a b : Space) → IsBetween w conn p a b → IsOneOf k (sequence_numbers p.accepter.queue) → (c : CameFrom b.history a.setting.id n) → c.conn ≡ conn
one-way {settings} {w} G conn k n p a b between there c = by (slice_get w.pipes c.conn) refl (F.delivers.ends p.accepter.space c.conn b between.accepted (has-on c.conn old.0 b.history old.1.0))
  where
    F : Facts settings w
    F = G.facts

    old : (m : Message) × (IsOneOf m (came_on c.conn b.history) × IsOneOf n (sequence_in m))
    old = in-flat n (came_on c.conn b.history) c.frame

    new : (m : Message) × (IsOneOf m p.accepter.queue × IsOneOf k (sequence_in m))
    new = in-flat k p.accepter.queue there

    sent-new : IsOneOf new.0 (sent_on conn a.outputs)
    sent-new = subst (λ (x : Option Space). IsOneOf new.0 (sent_on conn (outputs_in x))) between.dialled (one-some new.0 (came_on conn b.history ++ p.accepter.queue) (sent_on conn (outputs_at w.spaces p.dialler.space)) (one-right new.0 (came_on conn b.history) p.accepter.queue new.1.0) (F.delivers.brings conn p Accepter between.pipe b between.accepted))

    now : Dialled a conn b.setting.id
    now = dialled-there G conn k p a b new.0 between new.1.1 sent-new

    lines : HasLines a.state
    lines = let x : Known a = at-all Known p.dialler.space w.spaces a between.dialled F.known in subst HasLines (sym x.state) (lines_wait_for_hellos a.setting a.history x.taken)

    -- of both connections that it dialled to the peer
    same : Dialled a c.conn b.setting.id → c.conn ≡ conn
    same d = sym d.number ∙ (ap (λ (x : Connection). x.number) (one-dialled b.setting.id a.state.connections d.row now.row lines.connections d.there now.there d.dialled now.dialled) ∙ now.number)

    none-sent : (m : Message) → IsOneOf m (sent_on c.conn (outputs_in None)) → ⊥
    none-sent m o = o

    accepts : (q : Pipe) → slice_get w.pipes c.conn ≡ Some q → q.accepter.space ≡ p.accepter.space → (o : Option Space) → slice_get w.spaces q.dialler.space ≡ o → IsOneOf old.0 (sent_on c.conn (outputs_in o)) → IsOneOf (message.Hello c.version a.setting.id c.digest) (sent_on c.conn (outputs_in o)) → c.conn ≡ conn
    accepts q is at None e o h = absurd (none-sent old.0 o)
    accepts q is at (Some x) e o h = same (dialled-there G c.conn n q a b old.0 (record { pipe = is; dialled = here; accepted = subst (λ i. slice_get w.spaces i ≡ Some b) (sym at) between.accepted }) old.1.1 (subst (λ (s : Space). IsOneOf old.0 (sent_on c.conn s.outputs)) who o))
      where
        id : a.setting.id ≡ x.setting.id
        id = own-hello x c.conn c.version a.setting.id c.digest (at-all (λ (s : Space). (n : ℕ) → BeginsInOrder s n) q.dialler.space w.spaces x e G.begins c.conn) h

        index : q.dialler.space ≡ p.dialler.space
        index = F.kind.ids q.dialler.space p.dialler.space x.setting a.setting (setting-at F q.dialler.space x e) (setting-at F p.dialler.space a between.dialled) (subst (λ u. bytes_eq x.setting.id u ≡ true) (sym id) (same-peer x.setting.id))

        who : x ≡ a
        who = some-same (sym e ∙ (ap (slice_get w.spaces) index ∙ between.dialled))

        here : slice_get w.spaces q.dialler.space ≡ Some a
        here = ap (slice_get w.spaces) index ∙ between.dialled

    dials : (q : Pipe) → slice_get w.pipes c.conn ≡ Some q → q.dialler.space ≡ p.accepter.space → (o : Option Space) → slice_get w.spaces q.accepter.space ≡ o → IsOneOf old.0 (sent_on c.conn (outputs_in o)) → c.conn ≡ conn
    dials q is at None e o = absurd (none-sent old.0 o)
    dials q is at (Some x) e o = absurd (not-dialled F c.conn q x is e (asks-there (HasOpened x.history) c.conn n old.0 old.1.1 (went x.history c.conn old.0 x.outputs (at-all HasDirections q.accepter.space w.spaces x e F.directions).sent o)))

    by : (o : Option Pipe) → slice_get w.pipes c.conn ≡ o → IsEnd p.accepter.space o → c.conn ≡ conn
    by None e f = absurd f
    by (Some q) e (inl f) = dials q e f (slice_get w.spaces q.accepter.space) refl (one-some old.0 (came_on c.conn b.history ++ q.dialler.queue) (sent_on c.conn (outputs_at w.spaces q.accepter.space)) (one-left old.0 (came_on c.conn b.history) q.dialler.queue old.1.0) (F.delivers.brings c.conn q Dialler e b (subst (λ i. slice_get w.spaces i ≡ Some b) (sym f) between.accepted)))
    by (Some q) e (inr f) = accepts q e f (slice_get w.spaces q.dialler.space) refl (sent old.0 old.1.0) (sent (message.Hello c.version a.setting.id c.digest) c.hello)
      where
        sent : (m : Message) → IsOneOf m (came_on c.conn b.history) → IsOneOf m (sent_on c.conn (outputs_at w.spaces q.dialler.space))
        sent m o = one-some m (came_on c.conn b.history ++ q.accepter.queue) (sent_on c.conn (outputs_at w.spaces q.dialler.space)) (one-left m (came_on c.conn b.history) q.accepter.queue o) (F.delivers.brings c.conn q Accepter e b (subst (λ i. slice_get w.spaces i ≡ Some b) (sym f) between.accepted))

in-time : {settings : List Setting} {w : World} → Given settings w → ComeInTimeIn w
in-time {settings} {w} G conn k p a b o between there = by (owner.remembered_of b.state.owner.entries a.setting.id o).number refl
  where
    by : (x : Option ℕ) → (owner.remembered_of b.state.owner.entries a.setting.id o).number ≡ x → is_at_most k x ≡ false
    by None e = refl
    by (Some n) e = low k n (rises-over 0 (Rattle.dgc_client.specs.Table.numbers_of a.state.leases) n k (sequence_numbers (came_on conn b.history)) (sequence_numbers p.accepter.queue) rises came there)
      where
        from : CameFrom b.history a.setting.id n
        from = remembered-came b.history a.setting.id o b.state.owner.entries n (at-all (λ (s : Space). AllOf (IsHeard s.history) s.state.owner.entries) p.accepter.space w.spaces b between.accepted G.heard) e

        came : IsOneOf n (sequence_numbers (came_on conn b.history))
        came = subst (λ i. IsOneOf n (sequence_numbers (came_on i b.history))) (one-way G conn k n p a b between there from) from.frame

        rises : Rattle.sp_rules.specs.Laws.RisesWithin 0 (Rattle.dgc_client.specs.Table.numbers_of a.state.leases) (sequence_numbers (came_on conn b.history) ++ sequence_numbers p.accepter.queue)
        rises = subst (Rattle.sp_rules.specs.Laws.RisesWithin 0 (Rattle.dgc_client.specs.Table.numbers_of a.state.leases)) (flat-append sequence_in (came_on conn b.history) p.accepter.queue) (G.rise.brought conn p between.pipe a b between.dialled between.accepted).sequences

pub calls_come_in_time : Laws → CallsComeInTime
calls_come_in_time L settings events kind fine = in-time (record { facts = facts-of L settings events kind h; begins = connections_begin_in_order settings events; heard = owners_hear_what_came settings events; rise = numbers_rise L.ways L.sent settings events })
  where
    h : WorldStays.Standing settings (run (new_world settings) events)
    h = standing-of L settings events kind fine
