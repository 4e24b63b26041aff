-- Each frame that is first in its queue is welcome, where no end of a connection is over but of one that tried a version in vain.
use mathlib.Core.Path.{sym, ap, subst, ◌∙◌}
use Rattle.std.proofs.Common.{arith, inl, inr}
use Rattle.std.proofs.lemmas.Bool.{true≢false, eqb-true, eq-eqb, leb-true, leb-false, le-leb, ltb-false}
use Rattle.std.specs.List.{flat_map, list_any}
use Rattle.std.specs.Str.{bytes_eq}
use Rattle.std.specs.Prelude.{◌≡◌, ◌≢◌, ◌≤◌, ◌<◌, ◌⊎◌, refl, ℕ, zero, suc, ◌+◌, ◌==◌, ◌&&◌, ◌||◌, not, nat_le, min, length, is_some, is_none, Bool, true, false, List, [], ◌∷◌, ◌++◌, Option, None, Some, find, map, slice_get, if◌then◌else◌}
use Rattle.uuid.specs.declared.Uuid.{Uuid}
use Rattle.net_message.specs.declared.message.Message.{Message}
use Rattle.net_message.specs.declared.message.Message.TheVariants as message
use Rattle.net_message.specs.Wire.{IsVersion}
use Rattle.space_ids.specs.declared.ids.ObjId.{ObjId}
use Rattle.space_ids.specs.declared.value.Value.{Value}
use Rattle.sp_rules.specs.Classes.{Setting}
use Rattle.sp_rules.specs.Endings.{call_number_in}
use Rattle.sp_rules.specs.Events.{Opened}
use Rattle.sp_rules.specs.Frames.{is_asking, is_wrong_way, is_acked_by, tells_on, fit_frame}
use Rattle.sp_rules.specs.Laws.{AllOf}
use Rattle.sp_rules.specs.Lists.{with_some}
use Rattle.sp_rules.specs.ParkedFrames.{is_asked_on}
use Rattle.sp_rules.specs.Requests.{most_ids}
use Rattle.sp_rules.specs.State.{KeptResult, Connection, Acked, connection_at, is_open}
use Rattle.sp_rules.specs.Worlds.{World, Space, Pipe, Over, End, Dialler, Accepter, side, other, id_in}
use Rattle.sp_rules.proofs.AllLemmas.{some-none, all-found, found-is}
use Rattle.sp_rules.proofs.OwnLemmas.{some-same}
use Rattle.sp_registry.proofs.BindingsLemmas.{bytes_eq-refl}
use Rattle.sp_laws.specs.Inbound.{opened}
use Rattle.sp_laws.specs.Sent.{is_hello}
use Rattle.sp_laws.specs.Others.{HasTwoEnds}
use Rattle.sp_laws.specs.Waiting.{count}
use Rattle.sp_laws.specs.Directions.{HasOpened, HasDirections}
use Rattle.sp_laws.specs.CallSent.{MaySend}
use Rattle.sp_order_laws.specs.HandShakes.{HasNotHeard, HasHeard, IsHandShake}
use Rattle.sp_order_laws.specs.Hellos.{IsOwnHello, NoHellos, BeginsWithHello, IsHelloAlone, SaysFirst, says_late, IsSpokenIn, IsHeardIn, HasMet, BeginsInOrder}
use Rattle.sp_order_laws.specs.Delivered.{came_on, sent_on, outputs_at, AreSomeOf}
use Rattle.sp_order_laws.specs.Ends.{IsOneOf}
use Rattle.sp_order_laws.specs.Answering.{CallReply, ResultAck, times, times_asked, times_answered, under_way, answered_in}
use Rattle.sp_order_laws.specs.Places.{IsBetween}
use Rattle.sp_order_laws.proofs.WorldFacts.{at-all}
use Rattle.sp_order_laws.specs.Unbroken.{ends_at, IsJoined, IsProbe}
use Rattle.sp_order_laws.specs.Welcome.{is_welcome_first, is_welcome_later, is_welcome}
use Rattle.sp_order_laws.proofs.TableLemmas.{of-one, first-came}
use Rattle.sp_order_laws.proofs.WelcomeLemmas.{Facts, one-left, one-right, all-known, of-there, went, opened-as, ends-of, accepts-at, dials-at, answers-one, answers-both, count-self}
use Rattle.sp_order_laws.proofs.AnswerFinds.{finds-call, finds-told}
use Rattle.sp_order_laws.proofs.VersionLemmas.{AnsweredAs, SaidAs}

-- ---- which ends ask

has-end : {settings : List Setting} {w : World} (F : Facts settings w) (conn : ℕ) (p : Pipe) → slice_get w.pipes conn ≡ Some p → p.dialler.space ≡ p.accepter.space → ⊥
has-end {settings} {w} F conn p is same = at-all HasTwoEnds conn w.pipes p is F.two same

-- the space that dialled has not opened it as one that a peer dialled, nor the other as one that it dialled
not-accepted : {settings : List Setting} {w : World} (F : Facts settings w) (conn : ℕ) (p : Pipe) (a : Space) → slice_get w.pipes conn ≡ Some p → slice_get w.spaces p.dialler.space ≡ Some a → HasOpened a.history conn false → ⊥
not-accepted {settings} {w} F conn p a is at o =
    let x = opened-as a.history conn false o in
    has-end F conn p is (sym (accepts-at w.spaces p.dialler.space x.0 (p.dialler.space, p.accepter.space) x.1.0 (subst (IsJoined w.spaces p.dialler.space x.0) (ends-of w.pipes conn p is) (F.joins p.dialler.space a at conn x.0 x.1.1))))

pub not-dialled : {settings : List Setting} {w : World} (F : Facts settings w) (conn : ℕ) (p : Pipe) (b : Space) → slice_get w.pipes conn ≡ Some p → slice_get w.spaces p.accepter.space ≡ Some b → HasOpened b.history conn true → ⊥
not-dialled {settings} {w} F conn p b is at o =
    let x = opened-as b.history conn true o in
    has-end F conn p is (dials-at w.spaces p.accepter.space x.0 (p.dialler.space, p.accepter.space) x.1.0 (subst (IsJoined w.spaces p.accepter.space x.0) (ends-of w.pipes conn p is) (F.joins p.accepter.space b at conn x.0 x.1.1)))

-- the row of a connection was opened so
pub row-opened : {settings : List Setting} {w : World} (F : Facts settings w) (i conn : ℕ) (s : Space) (c : Connection) → slice_get w.spaces i ≡ Some s → connection_at s.state conn ≡ Some c → IsJoined w.spaces i c.dialled (ends_at w.pipes conn)
row-opened {settings} {w} F i conn s c at row =
    let same : c.number ≡ conn = eqb-true c.number conn (found-is (λ (d : Connection). d.number == conn) s.state.connections c row) in
    F.joins i s at conn c.dialled (subst (λ n. IsOneOf (Opened n c.dialled) s.history) same (all-found (λ (d : Connection). IsOneOf (Opened d.number d.dialled) s.history) (λ (d : Connection). d.number == conn) s.state.connections c row (at-all _ i w.spaces s at F.rows)))

accepter-row : {settings : List Setting} {w : World} (F : Facts settings w) (conn : ℕ) (p : Pipe) (b : Space) (c : Connection) → slice_get w.pipes conn ≡ Some p → slice_get w.spaces p.accepter.space ≡ Some b → connection_at b.state conn ≡ Some c → is_some c.dialled ≡ false
accepter-row {settings} {w} F conn p b c is at row = by (is_some c.dialled) refl
  where
    by : (x : Bool) → is_some c.dialled ≡ x → x ≡ false
    by true e = absurd (has-end F conn p is (dials-at w.spaces p.accepter.space c.dialled (p.dialler.space, p.accepter.space) e (subst (IsJoined w.spaces p.accepter.space c.dialled) (ends-of w.pipes conn p is) (row-opened F p.accepter.space conn b c at row))))
    by false e = refl

pub dialler-row : {settings : List Setting} {w : World} (F : Facts settings w) (conn : ℕ) (p : Pipe) (a : Space) (c : Connection) → slice_get w.pipes conn ≡ Some p → slice_get w.spaces p.dialler.space ≡ Some a → connection_at a.state conn ≡ Some c → is_some c.dialled ≡ true
dialler-row {settings} {w} F conn p a c is at row = by (is_some c.dialled) refl
  where
    by : (x : Bool) → is_some c.dialled ≡ x → x ≡ true
    by true e = refl
    by false e = absurd (has-end F conn p is (sym (accepts-at w.spaces p.dialler.space c.dialled (p.dialler.space, p.accepter.space) e (subst (IsJoined w.spaces p.dialler.space c.dialled) (ends-of w.pipes conn p is) (row-opened F p.dialler.space conn a c at row)))))

-- ---- settings

pub slice-map : {A B : Type 0} (f : A → B) (n : ℕ) (xs : List A) (x : A) → slice_get xs n ≡ Some x → slice_get (map f xs) n ≡ Some (f x)
slice-map f n [] x e = absurd (some-none x (sym e))
slice-map f zero (y ∷ xs) x e = ap (λ z. Some (f z)) (some-same e)
slice-map f (suc n) (y ∷ xs) x e = slice-map f n xs x e

pub setting-at : {settings : List Setting} {w : World} (F : Facts settings w) (i : ℕ) (s : Space) → slice_get w.spaces i ≡ Some s → slice_get settings i ≡ Some s.setting
setting-at {settings} {w} F i s at = subst (λ (l : List Setting). slice_get l i ≡ Some s.setting) F.settings_are (slice-map (λ (x : Space). x.setting) i w.spaces s at)

-- ---- versions

none-hello : (m : Message) (ms : List Message) → NoHellos ms → IsOneOf m ms → is_hello m ≡ false
none-hello m [] a o = absurd o
none-hello m (x ∷ xs) a (inl e) = ap is_hello e ∙ a.0
none-hello m (x ∷ xs) a (inr o) = none-hello m xs a.1 o

-- of a list that begins with a Hello no other is one
same-hello : (g : Setting) (ms : List Message) (u v : ℕ) (x y : Uuid) (d e : List ℕ) → BeginsWithHello g ms → IsOneOf (message.Hello u x d) ms → IsOneOf (message.Hello v y e) ms → u ≡ v
same-hello g [] u v x y d e k a b = absurd a
same-hello g (m ∷ ms) u v x y d e k (inl a) (inl b) = ap version-in (a ∙ sym b)
  where
    version-in : Message → ℕ
    version-in (message.Hello version space digest) = version
    version-in _ = 0
same-hello g (m ∷ ms) u v x y d e k (inr a) b = absurd (true≢false (none-hello (message.Hello u x d) ms k.1 a))
same-hello g (m ∷ ms) u v x y d e k (inl a) (inr b) = absurd (true≢false (none-hello (message.Hello v y e) ms k.1 b))

-- what the other end sent
pub sent-by : {settings : List Setting} {w : World} (F : Facts settings w) (conn : ℕ) (p : Pipe) (to : End) (s there : Space) (m : Message) → slice_get w.pipes conn ≡ Some p → slice_get w.spaces (side to p).space ≡ Some s → slice_get w.spaces (side (other to) p).space ≡ Some there
    → IsOneOf m (came_on conn s.history) → IsOneOf m (sent_on conn there.outputs)
sent-by {settings} {w} F conn p to s there m is at atj o =
    let x = of-there w.spaces (side (other to) p).space conn m (came_on conn s.history ++ (side to p).queue) (F.delivers.brings conn p to is s at) (one-left m (came_on conn s.history) (side to p).queue o) in
    subst (λ (u : Space). IsOneOf m (sent_on conn u.outputs)) (some-same (sym x.1.0 ∙ atj)) x.1.1

begins-at : {settings : List Setting} {w : World} (F : Facts settings w) (i conn : ℕ) (s : Space) → slice_get w.spaces i ≡ Some s → BeginsInOrder s conn
begins-at {settings} {w} F i conn s at = at-all (λ (x : Space). (n : ℕ) → BeginsInOrder x n) i w.spaces s at F.begins conn

-- where something was sent the Hello is first
first-of : {settings : List Setting} {w : World} (F : Facts settings w) (i conn : ℕ) (s : Space) (m : Message) → slice_get w.spaces i ≡ Some s → IsOneOf m (sent_on conn s.outputs) → BeginsWithHello s.setting (sent_on conn s.outputs)
first-of {settings} {w} F i conn s m at o = by (opened conn s.history) refl
  where
    k : BeginsInOrder s conn
    k = begins-at F i conn s at

    by : (b : Bool) → opened conn s.history ≡ b → BeginsWithHello s.setting (sent_on conn s.outputs)
    by true e = k.first e
    by false e = absurd (subst (IsOneOf m) (k.silent e).1 o)

version-of : {settings : List Setting} {w : World} (F : Facts settings w) (i : ℕ) (s : Space) → slice_get w.spaces i ≡ Some s → IsVersion s.setting.version
version-of {settings} {w} F i s at = F.kind.versions i s.setting (setting-at F i s at)

-- a Hello that the space that dialled said is of version 1 or of its own
dialler-said : {settings : List Setting} {w : World} (F : Facts settings w) (conn version : ℕ) (space : Uuid) (digest : List ℕ) (p : Pipe) (a : Space) → slice_get w.pipes conn ≡ Some p → slice_get w.spaces p.dialler.space ≡ Some a
    → IsOneOf (message.Hello version space digest) (sent_on conn a.outputs) → (version ≡ 1) ⊎ (version ≡ a.setting.version)
dialler-said {settings} {w} F conn version space digest p a is at o = by (at-all _ p.dialler.space w.spaces a at F.hellos conn version space digest o)
  where
    by : SaidAs a.setting a.history conn version → (version ≡ 1) ⊎ (version ≡ a.setting.version)
    by (inl x) = x.1
    by (inr x) = absurd (not-accepted F conn p a is at x.0)

accepter-said : {settings : List Setting} {w : World} (F : Facts settings w) (conn version : ℕ) (space : Uuid) (digest : List ℕ) (p : Pipe) (b : Space) → slice_get w.pipes conn ≡ Some p → slice_get w.spaces p.accepter.space ≡ Some b
    → IsOneOf (message.Hello version space digest) (sent_on conn b.outputs) → AnsweredAs b.setting b.history conn version
accepter-said {settings} {w} F conn version space digest p b is at o = by (at-all _ p.accepter.space w.spaces b at F.hellos conn version space digest o)
  where
    by : SaidAs b.setting b.history conn version → AnsweredAs b.setting b.history conn version
    by (inl x) = absurd (not-dialled F conn p b is at x.0)
    by (inr x) = x.1

-- ---- connections that tried a version in vain

-- on one Hellos alone are sent
pub hellos-alone : {settings : List Setting} {w : World} (F : Facts settings w) (conn : ℕ) (P : IsProbe w conn) (m : Message) → IsOneOf m (sent_on conn P.from.outputs) ⊎ IsOneOf m (sent_on conn P.to.outputs) → is_hello m ≡ true
hellos-alone {settings} {w} F conn P m o = by (is_hello m) refl o
  where
    a-first : BeginsWithHello P.from.setting (sent_on conn P.from.outputs)
    a-first = first-of F P.pipe.dialler.space conn P.from (message.Hello 2 P.from.setting.id P.from.setting.digest) P.between.dialled P.said

    -- the space that dialled said no Hello but of version 2
    two : (version : ℕ) (space : Uuid) (digest : List ℕ) → IsOneOf (message.Hello version space digest) (sent_on conn P.from.outputs) → version ≡ 2
    two version space digest i = same-hello P.from.setting (sent_on conn P.from.outputs) version 2 space P.from.setting.id digest P.from.setting.digest a-first i P.said

    -- the other none but of version 1
    one : (version : ℕ) (space : Uuid) (digest : List ℕ) → IsOneOf (message.Hello version space digest) (sent_on conn P.to.outputs) → version ≡ 1
    one version space digest i = answered (accepter-said F conn version space digest P.pipe P.to P.between.pipe P.between.accepted i)
      where
        answered : AnsweredAs P.to.setting P.to.history conn version → version ≡ 1
        answered (inl x) = x.1
        answered (inr x) = let a : 2 ≤ P.to.setting.version = leb-true 2 P.to.setting.version x.0 in let b : P.to.setting.version ≡ 1 = P.lower in absurd (omega arith)

    from-met : HasMet P.from conn → ⊥
    from-met k = speaks k.speaks
      where
        low : k.version ≡ 1
        low = one k.version k.peer k.digest (sent-by F conn P.pipe Dialler P.from P.to (message.Hello k.version k.peer k.digest) P.between.pipe P.between.dialled P.between.accepted k.came)

        speaks : (HasOpened P.from.history conn true × IsOneOf (message.Hello k.version P.from.setting.id P.from.setting.digest) (sent_on conn P.from.outputs)) ⊎ (HasOpened P.from.history conn false × (nat_le k.version P.from.setting.version ≡ true)) → ⊥
        speaks (inl x) = let high : k.version ≡ 2 = two k.version P.from.setting.id P.from.setting.digest x.1 in absurd (omega (arith, low))
        speaks (inr x) = not-accepted F conn P.pipe P.from P.between.pipe P.between.dialled x.0

    to-met : HasMet P.to conn → ⊥
    to-met k = speaks k.speaks
      where
        high : k.version ≡ 2
        high = two k.version k.peer k.digest (sent-by F conn P.pipe Accepter P.to P.from (message.Hello k.version k.peer k.digest) P.between.pipe P.between.accepted P.between.dialled k.came)

        speaks : (HasOpened P.to.history conn true × IsOneOf (message.Hello k.version P.to.setting.id P.to.setting.digest) (sent_on conn P.to.outputs)) ⊎ (HasOpened P.to.history conn false × (nat_le k.version P.to.setting.version ≡ true)) → ⊥
        speaks (inl x) = not-dialled F conn P.pipe P.to P.between.pipe P.between.accepted x.0
        speaks (inr x) = let le : k.version ≤ P.to.setting.version = leb-true k.version P.to.setting.version x.1 in let b : P.to.setting.version ≡ 1 = P.lower in absurd (omega (arith, high))

    by : (b : Bool) → is_hello m ≡ b → IsOneOf m (sent_on conn P.from.outputs) ⊎ IsOneOf m (sent_on conn P.to.outputs) → b ≡ true
    by true e i = refl
    by false e (inl i) = absurd (from-met ((begins-at F P.pipe.dialler.space conn P.from P.between.dialled).met m i e))
    by false e (inr i) = absurd (to-met ((begins-at F P.pipe.accepter.space conn P.to P.between.accepted).met m i e))

-- so one on which another frame was sent is none
pub no-probe : {settings : List Setting} {w : World} (F : Facts settings w) (conn : ℕ) (p : Pipe) (a b : Space) (m : Message) → IsBetween w conn p a b → is_hello m ≡ false → IsOneOf m (sent_on conn a.outputs) ⊎ IsOneOf m (sent_on conn b.outputs) → IsProbe w conn → ⊥
no-probe {settings} {w} F conn p a b m between plain sent P = true≢false (sym (hellos-alone F conn P m (there sent)) ∙ plain)
  where
    pipe : p ≡ P.pipe
    pipe = some-same (sym between.pipe ∙ P.between.pipe)

    from : a ≡ P.from
    from = some-same (sym between.dialled ∙ (ap (λ (q : Pipe). slice_get w.spaces q.dialler.space) pipe ∙ P.between.dialled))

    to : b ≡ P.to
    to = some-same (sym between.accepted ∙ (ap (λ (q : Pipe). slice_get w.spaces q.accepter.space) pipe ∙ P.between.accepted))

    there : IsOneOf m (sent_on conn a.outputs) ⊎ IsOneOf m (sent_on conn b.outputs) → IsOneOf m (sent_on conn P.from.outputs) ⊎ IsOneOf m (sent_on conn P.to.outputs)
    there (inl i) = inl (subst (λ (s : Space). IsOneOf m (sent_on conn s.outputs)) from i)
    there (inr i) = inr (subst (λ (s : Space). IsOneOf m (sent_on conn s.outputs)) to i)

-- where any other frame was sent the connection is open at both ends, once it was opened there
pub ends-open : {settings : List Setting} {w : World} (F : Facts settings w) (conn : ℕ) (p : Pipe) (a b : Space) (m : Message) → IsBetween w conn p a b → is_hello m ≡ false → IsOneOf m (sent_on conn a.outputs) ⊎ IsOneOf m (sent_on conn b.outputs)
    → ((dialled : Option Uuid) → IsOneOf (Opened conn dialled) a.history → is_open a.state conn ≡ true) × ((dialled : Option Uuid) → IsOneOf (Opened conn dialled) b.history → is_open b.state conn ≡ true)
ends-open {settings} {w} F conn p a b m between plain sent = (
  λ dialled o. by a (F.stays p.dialler.space a between.dialled conn dialled o),
  λ dialled o. by b (F.stays p.accepter.space b between.accepted conn dialled o),
)
  where
    by : (s : Space) → (is_open s.state conn ≡ true) ⊎ IsProbe w conn → is_open s.state conn ≡ true
    by s (inl live) = live
    by s (inr P) = absurd (no-probe F conn p a b m between plain sent P)

-- ---- the first frame

-- the Hello that a space said, of a connection that it dialled and on which none came, is of the version of its row
said-first : {settings : List Setting} {w : World} (F : Facts settings w) (i conn : ℕ) (s : Space) (c : Connection) (peer : Uuid) → slice_get w.spaces i ≡ Some s → connection_at s.state conn ≡ Some c → c.peer ≡ None → c.dialled ≡ Some peer
    → sent_on conn s.outputs ≡ message.Hello c.version s.setting.id s.setting.digest ∷ []
said-first {settings} {w} F i conn s c peer at row none dialled = alone.alone ∙ ap (λ (m : Message). m ∷ []) (alone.own.says ∙ ap (λ n. message.Hello n s.setting.id s.setting.digest) version)
  where
    k : BeginsInOrder s conn
    k = begins-at F i conn s at

    alone : IsHelloAlone s.setting (sent_on conn s.outputs)
    alone = subst (λ (b : Bool). SaysFirst s.setting b (sent_on conn s.outputs)) (ap (says_late s.setting) dialled) (k.waits c row none).1

    version : alone.own.version ≡ c.version
    version = (subst (λ (l : List Message). AllOf (IsSpokenIn c.version) l) (alone.alone ∙ ap (λ (m : Message). m ∷ []) alone.own.says) ((k.keeps c row).says (ap is_some dialled))).0

first-welcome : {settings : List Setting} {w : World} (F : Facts settings w) (conn : ℕ) (p : Pipe) (to : End) (s there : Space) (c : Connection) → slice_get w.pipes conn ≡ Some p → slice_get w.spaces (side to p).space ≡ Some s → slice_get w.spaces (side (other to) p).space ≡ Some there → connection_at s.state conn ≡ Some c → c.peer ≡ None
    → (version : ℕ) → IsOneOf (message.Hello version there.setting.id there.setting.digest) (sent_on conn there.outputs)
    → (is_welcome_first s.setting c (message.Hello version there.setting.id there.setting.digest) ≡ true) ⊎ IsProbe w conn
first-welcome {settings} {w} F conn p to s there c is at atj row none version said = by to at atj c.dialled refl
  where
    digest : (i j : ℕ) → slice_get w.spaces i ≡ Some s → slice_get w.spaces j ≡ Some there → bytes_eq there.setting.digest s.setting.digest ≡ true
    digest i j e f = F.kind.digests j i there.setting s.setting (setting-at F j there f) (setting-at F i s e)

    peer-is : (peer : Uuid) → c.dialled ≡ Some peer → slice_get w.spaces p.dialler.space ≡ Some s → slice_get w.spaces p.accepter.space ≡ Some there → bytes_eq there.setting.id peer ≡ true
    peer-is peer e at-a at-b =
        let joined : IsJoined w.spaces p.dialler.space (Some peer) (Some (p.dialler.space, p.accepter.space)) = subst (λ d. IsJoined w.spaces p.dialler.space d (Some (p.dialler.space, p.accepter.space))) e (subst (IsJoined w.spaces p.dialler.space c.dialled) (ends-of w.pipes conn p is) (row-opened F p.dialler.space conn s c at-a row)) in
        subst (λ x. bytes_eq there.setting.id x ≡ true) (some-same (sym (ap id_in at-b) ∙ joined.1)) (bytes_eq-refl there.setting.id)

    -- the space that was dialled hears a Hello of a version that it speaks, or the connection tries version 2 in vain
    heard : slice_get w.spaces p.accepter.space ≡ Some s → slice_get w.spaces p.dialler.space ≡ Some there → (b : Bool) → nat_le version s.setting.version ≡ b
        → (bytes_eq there.setting.digest s.setting.digest && nat_le version s.setting.version ≡ true) ⊎ IsProbe w conn
    heard at-b at-a true e = inl (both _ _ (digest p.accepter.space p.dialler.space at-b at-a) e)
      where
        both : (x y : Bool) → x ≡ true → y ≡ true → x && y ≡ true
        both true true f g = refl
        both true false f g = absurd (true≢false (sym g))
        both false y f g = absurd (true≢false (sym f))
    heard at-b at-a false e = inr (record { pipe = p; from = there; to = s; between = record { pipe = is; dialled = at-a; accepted = at-b }; said = subst (λ n. IsOneOf (message.Hello n there.setting.id there.setting.digest) (sent_on conn there.outputs)) is-two said; higher = sym own ∙ is-two; lower = is-low })
      where
        above : s.setting.version < version
        above = leb-false version s.setting.version e

        mine : IsVersion s.setting.version
        mine = version-of F p.accepter.space s at-b

        theirs : IsVersion there.setting.version
        theirs = version-of F p.dialler.space there at-a

        own : version ≡ there.setting.version
        own = which (dialler-said F conn version there.setting.id there.setting.digest p there is at-a said)
          where
            which : (version ≡ 1) ⊎ (version ≡ there.setting.version) → version ≡ there.setting.version
            which (inl x) = absurd (omega (arith, x, above, mine.0))
            which (inr x) = x

        is-two : version ≡ 2
        is-two = omega (arith, own, above, mine.0, theirs.1)

        is-low : s.setting.version ≡ 1
        is-low = omega (arith, own, above, mine.0, theirs.1)

    -- the space that dialled hears one of the version that it said, or the connection tried version 2 in vain
    answered : (peer : Uuid) → c.dialled ≡ Some peer → slice_get w.spaces p.dialler.space ≡ Some s → slice_get w.spaces p.accepter.space ≡ Some there → (b : Bool) → (version == c.version) ≡ b
        → (bytes_eq there.setting.digest s.setting.digest && bytes_eq there.setting.id peer && version == c.version ≡ true) ⊎ IsProbe w conn
    answered peer dialled at-a at-b true e = inl (and-three (bytes_eq there.setting.digest s.setting.digest) (bytes_eq there.setting.id peer) (version == c.version) (digest p.dialler.space p.accepter.space at-a at-b) (peer-is peer dialled at-a at-b) e)
      where
        and-three : (x y z : Bool) → x ≡ true → y ≡ true → z ≡ true → x && y && z ≡ true
        and-three true true true f g h = refl
        and-three true true false f g h = absurd (true≢false (sym h))
        and-three true false z f g h = absurd (true≢false (sym g))
        and-three false y z f g h = absurd (true≢false (sym f))
    answered peer dialled at-a at-b false e = inr (which (accepter-said F conn version there.setting.id there.setting.digest p there is at-b said))
      where
        alone : sent_on conn s.outputs ≡ message.Hello c.version s.setting.id s.setting.digest ∷ []
        alone = said-first F p.dialler.space conn s c peer at-a row none dialled

        own-said : IsOneOf (message.Hello c.version s.setting.id s.setting.digest) (sent_on conn s.outputs)
        own-said = subst (IsOneOf (message.Hello c.version s.setting.id s.setting.digest)) (sym alone) (inl refl)

        mine : IsVersion s.setting.version
        mine = version-of F p.dialler.space s at-a

        theirs : IsVersion there.setting.version
        theirs = version-of F p.accepter.space there at-b

        own : (c.version ≡ 1) ⊎ (c.version ≡ s.setting.version)
        own = dialler-said F conn c.version s.setting.id s.setting.digest p s is at-a own-said

        apart : version ≡ c.version → ⊥
        apart same = true≢false (sym (eq-eqb version c.version same) ∙ e)

        which : AnsweredAs there.setting there.history conn version → IsProbe w conn
        which (inl x) = record {
          pipe = p;
          from = s;
          to = there;
          between = record { pipe = is; dialled = at-a; accepted = at-b };
          said = subst (λ n. IsOneOf (message.Hello n s.setting.id s.setting.digest) (sent_on conn s.outputs)) both.0 own-said;
          higher = both.1;
          lower = low;
        }
          where
            low : there.setting.version ≡ 1
            low = let a : there.setting.version < 2 = leb-false 2 there.setting.version x.0 in omega (arith, theirs.0)

            both : (c.version ≡ 2) × (s.setting.version ≡ 2)
            both = highest own
              where
                highest : (c.version ≡ 1) ⊎ (c.version ≡ s.setting.version) → (c.version ≡ 2) × (s.setting.version ≡ 2)
                highest (inl y) = absurd (apart (x.1 ∙ sym y))
                highest (inr y) = let two : c.version ≡ 2 = by-numbers s.setting.version mine.0 mine.1 y (λ z. apart (x.1 ∙ sym z)) in (two, sym y ∙ two)
                  where
                    by-numbers : (v : ℕ) → 1 ≤ v → v ≤ 2 → c.version ≡ v → (c.version ≡ 1 → ⊥) → c.version ≡ 2
                    by-numbers v lo hi same not-one = pick (c.version == 1) refl
                      where
                        pick : (d : Bool) → (c.version == 1) ≡ d → c.version ≡ 2
                        pick true f = absurd (not-one (eqb-true c.version 1 f))
                        pick false f = let g : c.version ≢ 1 = λ h. true≢false (sym (eq-eqb c.version 1 h) ∙ f) in omega (arith, lo, hi, same)
        which (inr x) = absurd (apart equal)
          where
            heard-one : IsOneOf (message.Hello x.1.0 x.1.1.0 x.1.1.1.0) (message.Hello c.version s.setting.id s.setting.digest ∷ [])
            heard-one = subst (IsOneOf (message.Hello x.1.0 x.1.1.0 x.1.1.1.0)) alone (sent-by F conn p Accepter there s (message.Hello x.1.0 x.1.1.0 x.1.1.1.0) is at-b at-a x.1.1.1.1.0)

            version-in : Message → ℕ
            version-in (message.Hello v y d) = v
            version-in _ = 0

            only : IsOneOf (message.Hello x.1.0 x.1.1.0 x.1.1.1.0) (message.Hello c.version s.setting.id s.setting.digest ∷ []) → x.1.0 ≡ c.version
            only (inl f) = ap version-in f
            only (inr f) = absurd f

            small : c.version ≤ 2
            small = of own
              where
                of : (c.version ≡ 1) ⊎ (c.version ≡ s.setting.version) → c.version ≤ 2
                of (inl y) = omega (arith, y)
                of (inr y) = omega (arith, y, mine.1)

            equal : version ≡ c.version
            equal =
                let a : version ≡ min x.1.0 there.setting.version = x.1.1.1.1.1 in
                let b : x.1.0 ≡ c.version = only heard-one in
                let late : 2 ≤ there.setting.version = leb-true 2 there.setting.version x.0 in
                let le : c.version ≤ 2 = small in omega arith

    by : (end : End) → slice_get w.spaces (side end p).space ≡ Some s → slice_get w.spaces (side (other end) p).space ≡ Some there → (d : Option Uuid) → c.dialled ≡ d
        → (with_some d (bytes_eq there.setting.digest s.setting.digest && nat_le version s.setting.version) (λ peer. bytes_eq there.setting.digest s.setting.digest && bytes_eq there.setting.id peer && version == c.version) ≡ true) ⊎ IsProbe w conn
    by Dialler e f None g = absurd (true≢false (sym (dialler-row F conn p s c is e row) ∙ ap is_some g))
    by Accepter e f None g = heard e f (nat_le version s.setting.version) refl
    by Dialler e f (Some peer) g = answered peer g e f (version == c.version) refl
    by Accepter e f (Some peer) g = absurd (true≢false (sym (ap is_some g) ∙ accepter-row F conn p s c is e row))

-- ---- later frames

not-below : (n last : ℕ) → last + 1 ≤ n → not (nat_le n last) ≡ true
not-below n last le = by (nat_le n last) refl
  where
    by : (b : Bool) → nat_le n last ≡ b → not b ≡ true
    by true e = let x : n ≤ last = Rattle.std.proofs.lemmas.Bool.leb-true n last e in absurd (omega (arith, le))
    by false e = refl

-- to the space that was dialled
asks-welcome : {settings : List Setting} {w : World} (F : Facts settings w) (conn : ℕ) (p : Pipe) (a b : Space) (c : Connection) (m : Message) (ms : List Message) → IsBetween w conn p a b → p.accepter.queue ≡ m ∷ ms → connection_at b.state conn ≡ Some c → is_some c.peer ≡ true → MaySend (HasOpened a.history) conn m → is_hello m ≡ false → IsOneOf m (sent_on conn a.outputs)
    → (is_asking m ≡ true) × (is_welcome_later b.state c m ≡ true)
asks-welcome {settings} {w} F conn p a b c m ms between queue row heard may hello sent = by m queue may hello sent
  where
    number : c.number ≡ conn
    number = eqb-true c.number conn (found-is (λ (d : Connection). d.number == conn) b.state.connections c row)

    live : is_open b.state conn ≡ true
    live = ap is_some row

    above : (k : ℕ) (y : Message) → p.accepter.queue ≡ y ∷ ms → call_number_in y ≡ k ∷ [] → c.last + 1 ≤ k
    above k y q e = F.above conn k p a b c between row (subst (λ (l : List Message). IsOneOf k (flat_map call_number_in l)) (sym q) (subst (λ (l : List ℕ). IsOneOf k (l ++ flat_map call_number_in ms)) (sym e) (inl refl)))

    acked : (k : ℕ) (xs : List KeptResult) (value : Option Value) → IsOneOf (record { until = Acked conn k; value = value }) xs → list_any (is_acked_by conn k) xs ≡ true
    acked k [] value o = absurd o
    acked k (x ∷ xs) value (inl e) = subst (λ (y : KeptResult). is_acked_by conn k y || list_any (is_acked_by conn k) xs ≡ true) e (here (conn == conn) (eq-eqb conn conn refl) (k == k) (eq-eqb k k refl))
      where
        here : (d : Bool) → d ≡ true → (f : Bool) → f ≡ true → (d && f) || list_any (is_acked_by conn k) xs ≡ true
        here true g true h = refl
        here true g false h = absurd (true≢false (sym h))
        here false g f h = absurd (true≢false (sym g))
    acked k (x ∷ xs) value (inr o) = pick (is_acked_by conn k x) (acked k xs value o)
      where
        pick : (d : Bool) → list_any (is_acked_by conn k) xs ≡ true → d || list_any (is_acked_by conn k) xs ≡ true
        pick true g = refl
        pick false g = g

    ack : (k : ℕ) → p.accepter.queue ≡ message.Ack k ∷ ms → list_any (is_acked_by c.number k) b.state.results ≡ true
    ack k q =
        let one : 1 ≤ times_answered ResultAck k p.accepter.queue = answers-one ResultAck k (message.Ack k) p.accepter.queue (subst (IsOneOf (message.Ack k)) (sym q) (inl refl)) (let z : count (k == k) ≡ 1 = count-self k in omega arith) in
        let sent = F.results.sent conn k p a b between one in
        let once : times_asked ResultAck k p.dialler.queue + (under_way ResultAck conn k a.state + times_answered ResultAck k (came_on conn b.history ++ p.accepter.queue)) ≤ 1 = F.results.once conn k p a b between in
        let x : times_answered ResultAck k (came_on conn b.history ++ p.accepter.queue) ≡ times_answered ResultAck k (came_on conn b.history) + times_answered ResultAck k p.accepter.queue = answers-both ResultAck k (came_on conn b.history) p.accepter.queue in
        let none : times_answered ResultAck k (came_on conn b.history) ≡ 0 = omega arith in
        subst (λ n. list_any (is_acked_by n k) b.state.results ≡ true) (sym number) (acked k b.state.results sent.value (at-all _ p.accepter.space w.spaces b between.accepted F.waits conn k sent.fuel sent.value live sent.sent
        (all-known (λ (y : Message). y ≡ message.Ack k → ⊥) (came_on conn b.history) (λ y o e. let z : 1 ≤ times_answered ResultAck k (came_on conn b.history) = answers-one ResultAck k y (came_on conn b.history) o (subst (λ v. 1 ≤ times k (answered_in ResultAck v)) (sym e) (let u : count (k == k) ≡ 1 = count-self k in omega arith)) in absurd (omega (arith, none))))))

    -- a Hello came, of the version that the space that dialled said
    heard-so : (peer : Option Uuid) → c.peer ≡ peer → is_some peer ≡ true → (version : ℕ) × ((digest : List ℕ) × ((who : Uuid) × (IsOneOf (message.Hello version who digest) (came_on conn b.history) × (most_ids version ≤ most_ids c.version))))
    heard-so None e f = absurd (true≢false (sym f))
    heard-so (Some who) e f =
        let k : BeginsInOrder b conn = begins-at F p.accepter.space conn b between.accepted in
        let x = first-came b.setting c.dialled who (came_on conn b.history) (k.greeted c who row e) in
        let y = of-one (IsHeardIn b.setting c.version) (message.Hello x.0 who x.1.0) (came_on conn b.history) ((k.keeps c row).heard (accepter-row F conn p b c between.pipe between.accepted row) heard) x.1.1 in
        (x.0, (x.1.0, (who, (x.1.1, y.1))))

    -- it names no more ids than a frame of the connection's version
    few : (y : Message) → is_hello y ≡ false → HasOpened a.history conn true → IsOneOf y (sent_on conn a.outputs) → (ids : List ObjId) → ((v : ℕ) → IsSpokenIn v y → length ids ≤ most_ids v) → fit_frame c ids ≡ true
    few y plain opened-there o ids fits = at-row (connection_at a.state conn) refl
      where
        x : (dialled : Option Uuid) × ((is_some dialled ≡ true) × IsOneOf (Opened conn dialled) a.history)
        x = opened-as a.history conn true opened-there

        open-there : is_open a.state conn ≡ true
        open-there = (ends-open F conn p a b y between plain (inl o)).0 x.0 x.1.1

        at-row : (r : Option Connection) → connection_at a.state conn ≡ r → fit_frame c ids ≡ true
        at-row None e = absurd (true≢false (sym open-there ∙ ap (λ (r : Option Connection). is_some r) e))
        at-row (Some d) e =
            let says : AllOf (IsSpokenIn d.version) (sent_on conn a.outputs) = ((begins-at F p.dialler.space conn a between.dialled).keeps d e).says (dialler-row F conn p a d between.pipe between.dialled e) in
            let le : length ids ≤ most_ids d.version = fits d.version (of-one (IsSpokenIn d.version) y (sent_on conn a.outputs) says o) in
            let h = heard-so c.peer refl heard in
            let same : h.0 ≡ d.version = of-one (IsSpokenIn d.version) (message.Hello h.0 h.1.1.0 h.1.0) (sent_on conn a.outputs) says (sent-by F conn p Accepter b a (message.Hello h.0 h.1.1.0 h.1.0) between.pipe between.accepted between.dialled h.1.1.1.0) in
            let most : most_ids d.version ≤ most_ids c.version = subst (λ n. most_ids n ≤ most_ids c.version) same h.1.1.1.1 in
            le-leb (length ids) (most_ids c.version) (omega (arith, le))

    by : (y : Message) → p.accepter.queue ≡ y ∷ ms → MaySend (HasOpened a.history) conn y → is_hello y ≡ false → IsOneOf y (sent_on conn a.outputs) → (is_asking y ≡ true) × (is_welcome_later b.state c y ≡ true)
    by (message.Hello version space digest) q k e u = absurd (true≢false e)
    by (message.Call n object method fuel arguments) q k e u = (refl, not-below n c.last (above n (message.Call n object method fuel arguments) q refl))
    by (message.Lookup n name) q k e u = (refl, not-below n c.last (above n (message.Lookup n name) q refl))
    by (message.Ack n) q k e u = (refl, ack n q)
    by (message.Dirty sequence period objects) q k e u = (refl, few (message.Dirty sequence period objects) e k u objects (λ v fits. fits))
    by (message.Clean sequence strong objects) q k e u = (refl, few (message.Clean sequence strong objects) e k u objects (λ v fits. fits))
    by (message.Returned n fuel value) q k e u = absurd (not-accepted F conn p a between.pipe between.dialled k)
    by (message.Threw n class) q k e u = absurd (not-accepted F conn p a between.pipe between.dialled k)
    by (message.Spent n) q k e u = absurd (not-accepted F conn p a between.pipe between.dialled k)
    by (message.Lease n period) q k e u = absurd (not-accepted F conn p a between.pipe between.dialled k)
    by (message.Cleaned n) q k e u = absurd (not-accepted F conn p a between.pipe between.dialled k)

-- to the space that dialled
answers-welcome : {settings : List Setting} {w : World} (F : Facts settings w) (conn : ℕ) (p : Pipe) (a b : Space) (c : Connection) (m : Message) (ms : List Message) → IsBetween w conn p a b → p.dialler.queue ≡ m ∷ ms → connection_at a.state conn ≡ Some c → MaySend (HasOpened b.history) conn m → is_hello m ≡ false → IsOneOf m (sent_on conn b.outputs)
    → (is_asking m ≡ false) × (is_welcome_later a.state c m ≡ true)
answers-welcome {settings} {w} F conn p a b c m ms between queue row may hello sent = by m queue may hello sent
  where
    number : c.number ≡ conn
    number = eqb-true c.number conn (found-is (λ (d : Connection). d.number == conn) a.state.connections c row)

    live : is_open a.state conn ≡ true
    live = ap is_some row

    self : (k : ℕ) → 1 ≤ count (k == k) + 0
    self k = let z : count (k == k) ≡ 1 = count-self k in omega arith

    reply : (k : ℕ) (y : Message) → p.dialler.queue ≡ y ∷ ms → IsOneOf y (sent_on conn b.outputs) → 1 ≤ times k (answered_in CallReply y) → is_some (find (is_asked_on c.number k) a.state.requests) ≡ true
    reply k y q o le = subst (λ n. is_some (find (is_asked_on n k) a.state.requests) ≡ true) (sym number) (finds-call F conn k p a b y ms between q o live le)

    lease : (k period : ℕ) → p.dialler.queue ≡ message.Lease k period ∷ ms → IsOneOf (message.Lease k period) (sent_on conn b.outputs) → is_some (find (tells_on true c.number k) a.state.requests) ≡ true
    lease k period q o =
        let x = at-all _ p.accepter.space w.spaces b between.accepted F.told conn k period o in
        subst (λ n. is_some (find (tells_on true n k) a.state.requests) ≡ true) (sym number) (finds-told F true conn k p a b (message.Lease k period) (message.Dirty k x.0 x.1.0) ms between q x.1.1 (count-self k) live (self k))

    cleaned : (k : ℕ) → p.dialler.queue ≡ message.Cleaned k ∷ ms → IsOneOf (message.Cleaned k) (sent_on conn b.outputs) → is_some (find (tells_on false c.number k) a.state.requests) ≡ true
    cleaned k q o =
        let x = at-all _ p.accepter.space w.spaces b between.accepted F.cleaned conn k o in
        subst (λ n. is_some (find (tells_on false n k) a.state.requests) ≡ true) (sym number) (finds-told F false conn k p a b (message.Cleaned k) (message.Clean k x.0 x.1.0) ms between q x.1.1 (count-self k) live (self k))

    by : (y : Message) → p.dialler.queue ≡ y ∷ ms → MaySend (HasOpened b.history) conn y → is_hello y ≡ false → IsOneOf y (sent_on conn b.outputs) → (is_asking y ≡ false) × (is_welcome_later a.state c y ≡ true)
    by (message.Hello version space digest) q k e o = absurd (true≢false e)
    by (message.Call n object method fuel arguments) q k e o = absurd (not-dialled F conn p b between.pipe between.accepted k)
    by (message.Lookup n name) q k e o = absurd (not-dialled F conn p b between.pipe between.accepted k)
    by (message.Ack n) q k e o = absurd (not-dialled F conn p b between.pipe between.accepted k)
    by (message.Dirty sequence period objects) q k e o = absurd (not-dialled F conn p b between.pipe between.accepted k)
    by (message.Clean sequence strong objects) q k e o = absurd (not-dialled F conn p b between.pipe between.accepted k)
    by (message.Returned n fuel value) q k e o = (refl, reply n (message.Returned n fuel value) q o (self n))
    by (message.Threw n class) q k e o = (refl, reply n (message.Threw n class) q o (self n))
    by (message.Spent n) q k e o = (refl, reply n (message.Spent n) q o (self n))
    by (message.Lease n period) q k e o = (refl, lease n period q o)
    by (message.Cleaned n) q k e o = (refl, cleaned n q o)

-- ---- each frame

pub is-welcome : {settings : List Setting} {w : World} (F : Facts settings w) (conn : ℕ) (p : Pipe) (to : End) (m : Message) (ms : List Message) (s : Space) (c : Connection) → slice_get w.pipes conn ≡ Some p → (side to p).queue ≡ m ∷ ms → slice_get w.spaces (side to p).space ≡ Some s → connection_at s.state conn ≡ Some c
    → (is_welcome s.setting s.state c m ≡ true) ⊎ IsProbe w conn
is-welcome {settings} {w} F conn p to m ms s c is queue at row = which shake.ended
  where
    brought : AreSomeOf (came_on conn s.history ++ (side to p).queue) (sent_on conn (outputs_at w.spaces (side (other to) p).space))
    brought = F.delivers.brings conn p to is s at

    one : IsOneOf m (came_on conn s.history ++ (side to p).queue)
    one = one-right m (came_on conn s.history) (side to p).queue (subst (IsOneOf m) (sym queue) (inl refl))

    x : (u : Space) × ((slice_get w.spaces (side (other to) p).space ≡ Some u) × IsOneOf m (sent_on conn u.outputs))
    x = of-there w.spaces (side (other to) p).space conn m (came_on conn s.history ++ (side to p).queue) brought one

    there : Space
    there = x.0

    shake : IsHandShake w conn p to s there
    shake = F.shakes conn p to s there is at x.1.0

    may : MaySend (HasOpened there.history) conn m
    may = went there.history conn m there.outputs (at-all HasDirections (side (other to) p).space w.spaces there x.1.0 F.directions).sent x.1.1

    not-none : (ys : List Message) → (m ∷ ys ≡ [] → ⊥)
    not-none ys e = false-now (subst (λ (l : List Message). is-some-list l ≡ true) e refl)
      where
        is-some-list : List Message → Bool
        is-some-list [] = false
        is-some-list (y ∷ zs) = true

        false-now : false ≡ true → ⊥
        false-now f = true≢false (sym f)

    begins : (b : Bool) → opened conn there.history ≡ b → HasNotHeard s conn → IsOwnHello there.setting m
    begins true e not-heard = (subst (λ (l : List Message). BeginsWithHello there.setting (l ++ shake.lost)) queue (shake.table.first e not-heard)).0
    begins false e not-heard = absurd (not-none (ms ++ shake.lost) (sym (ap (λ (l : List Message). l ++ shake.lost) queue) ∙ shake.table.unopened e))

    later : HasHeard s conn → is_hello m ≡ false
    later heard = (subst (λ (l : List Message). NoHellos (l ++ shake.lost)) queue (shake.table.later heard)).0

    goes : (end : End) → to ≡ end → is_some c.peer ≡ true → is_hello m ≡ false → not (is_wrong_way (is_asking m) (is_some c.dialled)) && is_welcome_later s.state c m ≡ true
    goes Accepter e heard h =
        let at-b : slice_get w.spaces p.accepter.space ≡ Some s = subst (λ y. slice_get w.spaces (side y p).space ≡ Some s) e at in
        let at-a : slice_get w.spaces p.dialler.space ≡ Some there = subst (λ y. slice_get w.spaces (side (other y) p).space ≡ Some there) e x.1.0 in
        let k = asks-welcome F conn p there s c m ms (record { pipe = is; dialled = at-a; accepted = at-b }) (subst (λ y. (side y p).queue ≡ m ∷ ms) e queue) row heard may h x.1.1 in
        right (is_asking m) k.0 (is_some c.dialled) (accepter-row F conn p s c is at-b row) k.1
      where
        right : (a : Bool) → a ≡ true → (d : Bool) → d ≡ false → is_welcome_later s.state c m ≡ true → not (is_wrong_way a d) && is_welcome_later s.state c m ≡ true
        right true f false g k = k
        right true f true g k = absurd (true≢false g)
        right false f d g k = absurd (true≢false (sym f))
    goes Dialler e heard h =
        let at-a : slice_get w.spaces p.dialler.space ≡ Some s = subst (λ y. slice_get w.spaces (side y p).space ≡ Some s) e at in
        let at-b : slice_get w.spaces p.accepter.space ≡ Some there = subst (λ y. slice_get w.spaces (side (other y) p).space ≡ Some there) e x.1.0 in
        let k = answers-welcome F conn p s there c m ms (record { pipe = is; dialled = at-a; accepted = at-b }) (subst (λ y. (side y p).queue ≡ m ∷ ms) e queue) row may h x.1.1 in
        right (is_asking m) k.0 (is_some c.dialled) (dialler-row F conn p s c is at-a row) k.1
      where
        right : (a : Bool) → a ≡ false → (d : Bool) → d ≡ true → is_welcome_later s.state c m ≡ true → not (is_wrong_way a d) && is_welcome_later s.state c m ≡ true
        right false f true g k = k
        right false f false g k = absurd (true≢false (sym g))
        right true f d g k = absurd (true≢false f)

    by : (peer : Option Uuid) → c.peer ≡ peer → ((if is_none peer then is_welcome_first s.setting c m else not (is_wrong_way (is_asking m) (is_some c.dialled)) && is_welcome_later s.state c m) ≡ true) ⊎ IsProbe w conn
    by None e =
        let own : IsOwnHello there.setting m = begins (opened conn there.history) refl (record { row = c; there = row; none = e }) in
        subst (λ y. (is_welcome_first s.setting c y ≡ true) ⊎ IsProbe w conn) (sym own.says) (first-welcome F conn p to s there c is at x.1.0 row e own.version
        (subst (λ y. IsOneOf y (sent_on conn there.outputs)) own.says x.1.1))
    by (Some peer) e = inl (goes to refl (ap (λ (o : Option Uuid). is_some o) e) (later (record { row = c; peer = peer; there = row; some = e })))

    -- nothing is lost but where the other end is over
    which : (shake.lost ≡ []) ⊎ ((side (other to) p).phase ≡ Over) → (is_welcome s.setting s.state c m ≡ true) ⊎ IsProbe w conn
    which (inl e) = by c.peer refl
    which (inr e) = inr (F.over conn p (other to) is e)
