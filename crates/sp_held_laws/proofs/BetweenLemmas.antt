-- Which connection is between a client and an owner, and who spoke on it, in worlds in which nothing fails.
use mathlib.Core.Path.{sym, ap, subst, ◌∙◌}
use Rattle.std.proofs.Common.{inl, inr}
use Rattle.std.proofs.lemmas.Bool.{true≢false}
use Rattle.std.proofs.lemmas.Slice.Eq.{bytes_eq-Decides}
use Rattle.std.specs.Prelude.{◌≡◌, ◌⊎◌, refl, ℕ, ◌&&◌, not, is_some, is_none, Bool, true, false, List, [], ◌∷◌, ◌++◌, Option, None, Some, option_map, slice_get, if◌then◌else◌}
use Rattle.std.specs.Str.{bytes_eq}
use Rattle.net_message.specs.declared.message.Message.{Message}
use Rattle.net_message.specs.declared.message.Message.TheVariants as message
use Rattle.space_ids.specs.declared.ids.ObjId.{ObjId}
use Rattle.uuid.specs.declared.Uuid.{Uuid}
use Rattle.sp_rules.specs.Classes.{Setting}
use Rattle.sp_rules.specs.Events.{Opened}
use Rattle.sp_rules.specs.Frames.{is_asking, is_wrong_way, fit_frame}
use Rattle.sp_rules.specs.State.{Connection, connection_at, is_open}
use Rattle.sp_rules.specs.Worlds.{World, Space, Pipe, End, Dialler, Accepter, side, id_in}
use Rattle.sp_rules.proofs.AllLemmas.{some-none}
use Rattle.sp_rules.proofs.OwnLemmas.{some-same, has-some}
use Rattle.sp_laws.specs.Inbound.{opened}
use Rattle.sp_laws.specs.Others.{HasTwoEnds}
use Rattle.sp_order_laws.specs.Hellos.{BeginsWithHello, BeginsWelcome, NoHellos, BeginsInOrder}
use Rattle.sp_order_laws.specs.Delivered.{came_on, sent_on}
use Rattle.sp_order_laws.specs.Ends.{IsOneOf}
use Rattle.sp_order_laws.specs.Places.{IsBetween}
use Rattle.sp_order_laws.proofs.WorldFacts.{at-all}
use Rattle.sp_order_laws.specs.Unbroken.{ends_at, IsJoined, IsProbe}
use Rattle.sp_order_laws.specs.Welcome.{is_welcome_first, is_welcome_later}
use Rattle.sp_order_laws.proofs.TimeLemmas.{Given}
use Rattle.sp_order_laws.proofs.WelcomeFrames.{setting-at, dialler-row, no-probe, is-welcome}
use Rattle.sp_order_laws.proofs.WelcomeLemmas.{Facts, ends-of, of-there, one-left, one-right}
use Rattle.sp_held_laws.specs.Reaches.{IsFirstTo}

-- ---- ids

pub same-bytes : (u v : Uuid) → u ≡ v → bytes_eq u v ≡ true
same-bytes u v e = (bytes_eq-Decides u v).1 e

-- spaces of one id are one
pub one-index : {settings : List Setting} {w : World} → Facts settings w → (i j : ℕ) (a b : Space)
    → slice_get w.spaces i ≡ Some a → slice_get w.spaces j ≡ Some b → a.setting.id ≡ b.setting.id → i ≡ j
one-index F i j a b at atj same =
    F.kind.ids i j a.setting b.setting (setting-at F i a at) (setting-at F j b atj)
    (same-bytes a.setting.id b.setting.id same)

pub one-space : {settings : List Setting} {w : World} → Facts settings w → (i j : ℕ) (a b : Space)
    → slice_get w.spaces i ≡ Some a → slice_get w.spaces j ≡ Some b → a.setting.id ≡ b.setting.id → a ≡ b
one-space {settings} {w} F i j a b at atj same =
    some-same (sym at ∙ (ap (slice_get w.spaces) (one-index F i j a b at atj same) ∙ atj))

-- ---- connections that a space dialled

-- A connection that the first space dialled to the second.
pub record Between (w : World) (conn i j : ℕ) (a b : Space) : Type 0 where
  pub pipe : Pipe
  pub dials : pipe.dialler.space ≡ i
  pub accepts : pipe.accepter.space ≡ j
  pub between : IsBetween w conn pipe a b

pub between-of : {settings : List Setting} {w : World} → Facts settings w → (i j conn : ℕ) (a b : Space) (peer : Uuid)
    → slice_get w.spaces i ≡ Some a → slice_get w.spaces j ≡ Some b → peer ≡ b.setting.id
    → IsOneOf (Opened conn (Some peer)) a.history → Between w conn i j a b
between-of {settings} {w} F i j conn a b peer at atj same opens = by (slice_get w.pipes conn) refl
  where
    joined : IsJoined w.spaces i (Some peer) (ends_at w.pipes conn)
    joined = F.joins i a at conn (Some peer) opens

    found : (p : Pipe) → slice_get w.pipes conn ≡ Some p → p.dialler.space ≡ i → (o : Option Space)
        → slice_get w.spaces p.accepter.space ≡ o → id_in o ≡ Some peer → Between w conn i j a b
    found p e d None f g = absurd (some-none peer (sym g))
    found p e d (Some x) f g =
        let id : x.setting.id ≡ b.setting.id = some-same g ∙ same in
        let index : p.accepter.space ≡ j = one-index F p.accepter.space j x b f atj id in
        record {
          pipe = p;
          dials = d;
          accepts = index;
          between =
              record {
                pipe = e;
                dialled = ap (slice_get w.spaces) d ∙ at;
                accepted =
                    ap (slice_get w.spaces) index ∙ atj;
              };
        }

    by : (o : Option Pipe) → slice_get w.pipes conn ≡ o → Between w conn i j a b
    by None e = absurd (subst (IsJoined w.spaces i (Some peer))
        (ap (λ (o : Option Pipe). option_map (λ (q : Pipe). (q.dialler.space, q.accepter.space)) o) e) joined)
    by (Some p) e = let ends : IsJoined w.spaces i (Some peer) (Some (p.dialler.space, p.accepter.space)) =
        subst (IsJoined w.spaces i (Some peer)) (ends-of w.pipes conn p e) joined
        in found p e ends.0 (slice_get w.spaces p.accepter.space) refl ends.1

-- ---- who spoke

-- a Hello that a space sent names it
own-hello : (s : Space) (conn version : ℕ) (client digest : List ℕ) → BeginsInOrder s conn
    → IsOneOf (message.Hello version client digest) (sent_on conn s.outputs) → client ≡ s.setting.id
own-hello s conn version client digest k o = by (opened conn s.history) refl
  where
    id-of : Message → List ℕ
    id-of (message.Hello v c d) = c
    id-of _ = []

    none : (ms : List Message) → NoHellos ms → IsOneOf (message.Hello version client digest) ms → ⊥
    none [] a i = i
    none (m ∷ ms) a (inl e) = true≢false (ap Rattle.sp_laws.specs.Sent.is_hello e ∙ a.0)
    none (m ∷ ms) a (inr i) = none ms a.1 i

    first : (ms : List Message) → BeginsWithHello s.setting ms → IsOneOf (message.Hello version client digest) ms
        → client ≡ s.setting.id
    first [] a i = absurd i
    first (m ∷ ms) a (inl e) = ap id-of (e ∙ a.0.says)
    first (m ∷ ms) a (inr i) = absurd (none ms a.1 i)

    by : (b : Bool) → opened conn s.history ≡ b → client ≡ s.setting.id
    by true e = first (sent_on conn s.outputs) (k.first e) o
    by false e = absurd (subst (λ (l : List Message). IsOneOf (message.Hello version client digest) l) (k.silent e).1
        o)

-- a Hello of this peer came
record SaidHello (peer : Uuid) (ms : List Message) : Type 0 where
  version : ℕ
  digest : List ℕ
  hello : IsOneOf (message.Hello version peer digest) ms

said-hello : (g : Setting) (dialled : Option Uuid) (peer : Uuid) (ms : List Message) → BeginsWelcome g dialled peer ms
    → SaidHello peer ms
said-hello g dialled peer [] a = absurd a
said-hello g dialled peer (m ∷ ms) a =
    record { version = a.0.version; digest = a.0.digest; hello = inl (sym a.0.says) }

-- who spoke on a connection to the space that was dialled is the space that dialled
pub spoke-by : {settings : List Setting} {w : World} → Given settings w
    → (conn : ℕ) (p : Pipe) (b : Space) (row : Connection) (peer : Uuid) → slice_get w.pipes conn ≡ Some p
    → slice_get w.spaces p.accepter.space ≡ Some b → connection_at b.state conn ≡ Some row → row.peer ≡ Some peer
    → (u : Space) × ((slice_get w.spaces p.dialler.space ≡ Some u) × (peer ≡ u.setting.id))
spoke-by {settings} {w} G conn p b row peer is at there spoke =
    let said : SaidHello peer (came_on conn b.history) =
    said-hello b.setting row.dialled peer (came_on conn b.history)
    ((at-all (λ (s : Space). (n : ℕ) → BeginsInOrder s n) p.accepter.space w.spaces b at G.begins conn).greeted
    row peer there spoke) in
    let m : Message = message.Hello said.version peer said.digest in
    let x = of-there w.spaces p.dialler.space conn m (came_on conn b.history ++ p.accepter.queue)
    (G.facts.delivers.brings conn p Accepter is b at)
    (one-left m (came_on conn b.history) p.accepter.queue said.hello) in (
      x.0,
      (
        x.1.0,
        own-hello x.0 conn said.version peer said.digest
            (at-all (λ (s : Space). (n : ℕ) → BeginsInOrder s n) p.dialler.space w.spaces x.0 x.1.0 G.begins conn) x.1.1,
      ),
    )

-- a frame that is first to the space that was dialled, from the client that spoke there
pub frame-from : {settings : List Setting} {w : World} → Given settings w
    → (i j conn : ℕ) (a b : Space) (m : Message) (row : Connection) (peer : Uuid) → slice_get w.spaces i ≡ Some a
    → slice_get w.spaces j ≡ Some b → IsFirstTo w j conn m → connection_at b.state conn ≡ Some row
    → row.peer ≡ Some peer → row.dialled ≡ None → bytes_eq peer a.setting.id ≡ true
    → (p : Pipe) × (IsBetween w conn p a b × IsOneOf m p.accepter.queue)
frame-from {settings} {w} G i j conn a b m row peer at atj first there spoke accepted client =
    by first.end first.space first.queue
  where
    p : Pipe
    p = first.pipe

    by : (end : End) → (side end p).space ≡ j → (side end p).queue ≡ m ∷ first.rest
        → (q : Pipe) × (IsBetween w conn q a b × IsOneOf m q.accepter.queue)
    by Dialler e f = absurd (true≢false
        (sym (dialler-row G.facts conn p b row first.there (ap (slice_get w.spaces) e ∙ atj) there) ∙ ap is_some
        accepted))
    by Accepter e f =
        let at-b : slice_get w.spaces p.accepter.space ≡ Some b = ap (slice_get w.spaces) e ∙ atj in
        let u = spoke-by G conn p b row peer first.there at-b there spoke in
        let same : u.0 ≡ a = one-space G.facts p.dialler.space i u.0 a u.1.0 at
        (sym u.1.1 ∙ (bytes_eq-Decides peer a.setting.id).0 client) in (
          p,
          (
            record {
              pipe = first.there;
              dialled =
                  subst (λ (s : Space). slice_get w.spaces p.dialler.space ≡ Some s) same u.1.0;
              accepted = at-b;
            },
            subst (IsOneOf m) (sym f) (inl refl),
          ),
        )

-- ---- the owner's end

-- a frame that is first to the owner is first along a connection to it
pub first-along : {settings : List Setting} {w : World} → Facts settings w
    → (i j conn : ℕ) (a b : Space) (m : Message) → (B : Between w conn i j a b) → (first : IsFirstTo w j conn m)
    → B.pipe.accepter.queue ≡ m ∷ first.rest
first-along {settings} {w} F i j conn a b m B first = by first.end first.space first.queue
  where
    same : first.pipe ≡ B.pipe
    same = some-same (sym first.there ∙ B.between.pipe)

    apart : B.pipe.dialler.space ≡ B.pipe.accepter.space → ⊥
    apart = at-all HasTwoEnds conn w.pipes B.pipe B.between.pipe F.two

    by : (end : End) → (side end first.pipe).space ≡ j → (side end first.pipe).queue ≡ m ∷ first.rest
        → B.pipe.accepter.queue ≡ m ∷ first.rest
    by Dialler e f = absurd (apart (sym (ap (λ (q : Pipe). q.dialler.space) same) ∙ (e ∙ sym B.accepts)))
    by Accepter e f = sym (ap (λ (q : Pipe). q.accepter.queue) same) ∙ f

-- the row of a connection on which a dirty call of these ids comes
pub record ClientRow (a b : Space) (conn : ℕ) (ids : List ObjId) : Type 0 where
  pub row : Connection
  pub there : connection_at b.state conn ≡ Some row
  pub spoke : row.peer ≡ Some a.setting.id
  pub accepted : row.dialled ≡ None
  pub fits : fit_frame row ids ≡ true

pub client-row : {settings : List Setting} {w : World} → Given settings w
    → (i j conn n period : ℕ) (ids : List ObjId) (rest : List Message) (a b : Space) → slice_get w.spaces i ≡ Some a
    → slice_get w.spaces j ≡ Some b → (B : Between w conn i j a b)
    → B.pipe.accepter.queue ≡ message.Dirty n period ids ∷ rest
    → is_open b.state conn ≡ true → ClientRow a b conn ids
client-row {settings} {w} G i j conn n period ids rest a b at atj B queue live =
    of has.0 has.1 (of-welcome has.0.peer refl has.0.dialled refl
    (certain (is-welcome G.facts conn B.pipe Accepter (message.Dirty n period ids) rest b has.0 B.between.pipe queue
    B.between.accepted has.1)))
  where
    has : (row : Connection) × (connection_at b.state conn ≡ Some row)
    has = has-some (connection_at b.state conn) live

    m : Message
    m = message.Dirty n period ids

    sent : IsOneOf m (sent_on conn a.outputs)
    sent =
        let x = of-there w.spaces B.pipe.dialler.space conn m (came_on conn b.history ++ B.pipe.accepter.queue)
        (G.facts.delivers.brings conn B.pipe Accepter B.between.pipe b B.between.accepted)
        (one-right m (came_on conn b.history) B.pipe.accepter.queue (subst (IsOneOf m) (sym queue) (inl refl))) in
        subst (λ (s : Space). IsOneOf m (sent_on conn s.outputs)) (some-same (sym x.1.0 ∙ B.between.dialled)) x.1.1

    -- a dirty call is on its way, so the connection tried no version in vain
    certain : {A : Type 0} → A ⊎ IsProbe w conn → A
    certain (inl k) = k
    certain (inr P) = absurd (no-probe G.facts conn B.pipe a b m B.between refl (inl sent) P)

    of-welcome : (peer : Option Uuid) → has.0.peer ≡ peer → (dialled : Option Uuid) → has.0.dialled ≡ dialled
        → (if is_none peer then is_welcome_first b.setting has.0 (message.Dirty n period ids) else not
        (is_wrong_way (is_asking (message.Dirty n period ids)) (is_some dialled)) && is_welcome_later b.state
        has.0 (message.Dirty n period ids)) ≡ true
        → (who : Uuid) × ((has.0.peer ≡ Some who) × ((has.0.dialled ≡ None) × (fit_frame has.0 ids ≡ true)))
    of-welcome None e d f k = absurd (true≢false (sym k))
    of-welcome (Some who) e None f k = (who, (e, (f, k)))
    of-welcome (Some who) e (Some d) f k = absurd (true≢false (sym k))

    of : (row : Connection) → connection_at b.state conn ≡ Some row
        → (who : Uuid) × ((row.peer ≡ Some who) × ((row.dialled ≡ None) × (fit_frame row ids ≡ true)))
        → ClientRow a b conn ids
    of row there k =
        let u = spoke-by G conn B.pipe b row k.0 B.between.pipe B.between.accepted there k.1.0 in
        let same : u.0 ≡ a = some-same (sym u.1.0 ∙ B.between.dialled) in
        record {
          row = row;
          there = there;
          spoke =
              k.1.0 ∙ ap {A = Uuid} {B = Option Uuid} (λ x. Some x) (u.1.1 ∙ ap (λ (s : Space). s.setting.id) same);
          accepted = k.1.1.0;
          fits = k.1.1.1;
        }
