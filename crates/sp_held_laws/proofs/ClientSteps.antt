-- What the events of a client do to what its owner granted, and to its dirty calls on their way.
use mathlib.Core.Path.{sym, ap, subst, ◌∙◌}
use Rattle.std.proofs.Common.{arith, inl, inr}
use Rattle.std.proofs.lemmas.Bool.{true≢false}
use Rattle.std.specs.Prelude.{◌≡◌, ◌⊎◌, refl, ℕ, zero, suc, ◌≤◌, ◌==◌, Bool, true, false, List, [], ◌∷◌, ◌++◌, Option, None, Some, slice_get, if◌then◌else◌}
use Rattle.dgc_client.specs.Table.{numbers_of}
use Rattle.net_message.specs.declared.message.Message.{Message}
use Rattle.net_message.specs.declared.message.Message.TheVariants as message
use Rattle.space_ids.specs.declared.ids.ForeignId.{ForeignId}
use Rattle.space_ids.specs.declared.ids.ObjId.{ObjId}
use Rattle.sp_rules.specs.Classes.{Setting}
use Rattle.sp_rules.specs.Events.{Event, Opened, Received, Output, Started, Ended, Withdrawn, Denied, Send, Dial, Close, Ready}
use Rattle.sp_rules.specs.Laws.{AllOf, RisesWithin}
use Rattle.sp_rules.specs.Lists.{at_index}
use Rattle.sp_rules.specs.Origins.{IsTaken}
use Rattle.sp_rules.specs.Space
use Rattle.sp_rules.specs.State.{State}
use Rattle.sp_rules.specs.Worlds.{World, Space, Pipe, Dialler, Accepter, grown}
use Rattle.sp_rules.proofs.AllLemmas.{some-none}
use Rattle.sp_rules.proofs.OwnLemmas.{some-same}
use Rattle.sp_laws.specs.Inbound.{OpensOnce}
use Rattle.sp_laws.specs.Directions.{HasDirections}
use Rattle.sp_order_laws.specs.Delivered.{came_on, sent_on, frame_in, outputs_at, outputs_in, IsEnd}
use Rattle.sp_order_laws.specs.Ends.{IsOneOf}
use Rattle.sp_order_laws.specs.Places.{IsBetween}
use Rattle.sp_order_laws.specs.Rising.{sequence_in, sequence_numbers, frame, frames_in}
use Rattle.sp_order_laws.proofs.NoteLemmas.{flat-append, rises-below}
use Rattle.sp_order_laws.proofs.WorldFacts.{Known, at-all}
use Rattle.sp_order_laws.specs.Unbroken.{IsJoined}
use Rattle.sp_order_laws.proofs.TimeLemmas.{has-on}
use Rattle.sp_order_laws.proofs.UnbrokenLaws.{came-now}
use Rattle.sp_order_laws.proofs.WelcomeFrames.{not-dialled}
use Rattle.sp_order_laws.proofs.WelcomeLemmas.{Facts, ends-of, of-there, one-some, one-left, one-right, went, opened-as, dials-at}
use Rattle.sp_held_laws.specs.Granted.{is_granted}
use Rattle.sp_held_laws.specs.Reaches.{grown_by, IsSilent}
use Rattle.sp_held_laws.specs.Steps.{BringsLease, StaysAsked}
use Rattle.sp_held_laws.proofs.AskedLemmas.{in-flat-of}
use Rattle.sp_held_laws.proofs.CleanLaws.{counts-naming}
use Rattle.sp_held_laws.specs.Entries.{IsDirtyOut}
use Rattle.sp_held_laws.proofs.BetweenLemmas.{Between, between-of}
use Rattle.sp_held_laws.proofs.GivenLaws.{Below, opened-to}

-- ---- one event of a client

-- What is granted gives this, and so does what is out and came so.
pub record Gives (r : ForeignId) (E : Type 0) (C : ℕ → ℕ → Type 0) (s : State) : Type 0 where
  pub granted : is_granted s r ≡ true → E
  pub lent : (conn n : ℕ) → IsDirtyOut s conn n r → C conn n → E

-- a dirty call that is out after an event, under an old number, was out so
was-out : Below → (g : Setting) (h : List Event) (e : Event) (r : ForeignId) (conn n : ℕ) → IsTaken g (e ∷ h)
    → IsDirtyOut (Space.state_of g (e ∷ h)) conn n r → n ≤ numbers_of (Space.state_of g h).leases
    → IsDirtyOut (Space.state_of g h) conn n r
was-out B g h e r conn n t d low = record {
  request = d.request;
  call = d.call;
  group = d.group;
  there = there;
  out = d.out;
  asked = d.asked;
  dirty = d.dirty;
  names = d.names;
  made = stays.way r d.call (counts-naming true r d.call d.group d.request (Space.state_of g h).requests there d.asked
      d.dirty d.names) d.made;
}
  where
    stays : StaysAsked g h e
    stays = B.asked g h e t

    there : IsOneOf d.request (Space.state_of g h).requests
    there = stays.out d.call conn n d.group d.request d.there d.asked d.out low

pub client-event : Below → (g : Setting) (h : List Event) (e : Event) (r : ForeignId) (E : Type 0)
    (C : ℕ → ℕ → Type 0) → IsTaken g (e ∷ h)
    → ((conn n period : ℕ) → e ≡ Received conn (message.Lease n period) → IsDirtyOut (Space.state_of g h) conn n r
    → C conn n)
    → ((conn n : ℕ) → C conn n → IsDirtyOut (Space.state_of g (e ∷ h)) conn n r
    → n ≤ numbers_of (Space.state_of g h).leases)
    → Gives r E C (Space.state_of g h) → Gives r E C (Space.state_of g (e ∷ h))
client-event B g h e r E C t brings low old =
    record {
      granted = λ k. by (B.leases g h e r t k);
      lent =
          λ conn n d c. old.lent conn n (was-out B g h e r conn n t d (low conn n c d)) c;
    }
  where
    by : (is_granted (Space.state_of g h) r ≡ true) ⊎ BringsLease (Space.state_of g h) e r → E
    by (inl k) = old.granted k
    by (inr b) = let d : IsDirtyOut (Space.state_of g h) b.conn b.number r =
        record {
          request = b.request;
          call = b.call;
          group = b.group;
          there = b.there;
          out = b.out;
          asked =
              b.asked;
          dirty = b.dirty;
          names = b.names;
          made = b.made;
        } in
        old.lent b.conn b.number d (brings b.conn b.number b.period b.came d)

-- ---- numbers that were sent

-- a number of a call that the space sent
abbrev pub Sent : Setting → List Event → ℕ → Type 0
Sent g h n = IsOneOf n (sequence_numbers (frames_in (Space.all_outputs g h)))

pub sent-later : (g : Setting) (e : Event) (h : List Event) (n : ℕ) → Sent g h n → Sent g (e ∷ h) n
sent-later g e h n s = subst (λ (l : List Message). IsOneOf n (sequence_numbers l))
    (sym (flat-append frame (Space.all_outputs g h) (Space.outputs_of g h e)))
    (subst (IsOneOf n) (sym (flat-append sequence_in (frames_in (Space.all_outputs g h))
    (frames_in (Space.outputs_of g h e))))
    (one-left n (sequence_numbers (frames_in (Space.all_outputs g h)))
    (sequence_numbers (frames_in (Space.outputs_of g h e))) s))

rises-one : (n top k : ℕ) (xs : List ℕ) → RisesWithin n top xs → IsOneOf k xs → k ≤ top
rises-one n top k [] r o = absurd o
rises-one n top k (x ∷ xs) r (inl e) = let a : x ≤ top = rises-below x top xs r.1 in omega (arith, e)
rises-one n top k (x ∷ xs) r (inr o) = rises-one x top k xs r.1 o

pub sent-low : Below → (g : Setting) (h : List Event) (n : ℕ) → IsTaken g h → OpensOnce h → Sent g h n
    → n ≤ numbers_of (Space.state_of g h).leases
sent-low B g h n t o s = rises-one 0 (numbers_of (Space.state_of g h).leases) n
    (sequence_numbers (frames_in (Space.all_outputs g h))) (B.sequences g h t o) s

-- a frame that was sent on a connection is among all frames
pub among-frames : (conn : ℕ) (m : Message) (os : List Output) → IsOneOf m (sent_on conn os)
    → IsOneOf m (frames_in os)
among-frames conn m [] i = i
among-frames conn m (o ∷ os) i = by o i (among-frames conn m os)
  where
    sent : (c : ℕ) (y : Message) (b : Bool) → IsOneOf m ((if b then y ∷ [] else []) ++ sent_on conn os)
        → (IsOneOf m (sent_on conn os) → IsOneOf m (frames_in os)) → IsOneOf m (y ∷ frames_in os)
    sent c y true (inl e) rest = inl e
    sent c y true (inr k) rest = inr (rest k)
    sent c y false k rest = inr (rest k)

    by : (x : Output) → IsOneOf m (frame_in conn x ++ sent_on conn os)
        → (IsOneOf m (sent_on conn os) → IsOneOf m (frames_in os)) → IsOneOf m (frame x ++ frames_in os)
    by (Started task) k rest = rest k
    by (Ended task outcome) k rest = rest k
    by (Withdrawn ids) k rest = rest k
    by (Denied why) k rest = rest k
    by (Send c y) k rest = sent c y (c == conn) k rest
    by (Dial peer) k rest = rest k
    by (Close c) k rest = rest k
    by (Ready task) k rest = rest k

-- ---- some events of a space

pub setting-stays : (es : List Event) (s : Space) → (grown_by es s).setting ≡ s.setting
setting-stays [] s = refl
setting-stays (e ∷ es) s = setting-stays es (grown e s)

pub grown-has : (es : List Event) (s : Space) (x : Event) → IsOneOf x s.history → IsOneOf x (grown_by es s).history
grown-has [] s x o = o
grown-has (e ∷ es) s x o = grown-has es (grown e s) x (inr o)

pub taken-before : (es : List Event) (s : Space) → IsTaken s.setting (grown_by es s).history
    → IsTaken s.setting s.history
taken-before [] s t = t
taken-before (e ∷ es) s t = (taken-before es (grown e s) t).1

pub once-before : (es : List Event) (s : Space) → OpensOnce (grown_by es s).history → OpensOnce s.history
once-before [] s o = o
once-before (e ∷ es) s o = (once-before es (grown e s) o).1

-- what comes answers something
came-not-silent : {A : Type 0} (e : Event) (conn : ℕ) (m : Message) → IsSilent e → e ≡ Received conn m → A
came-not-silent e conn m silent same = absurd (true≢false (sym (ap Space.answers_outputs same) ∙ silent))

-- events that answer nothing
pub silent-client : Below → (es : List Event) (s : Space) (r : ForeignId) (E : Type 0) (C : ℕ → ℕ → Type 0)
    → IsTaken s.setting (grown_by es s).history → OpensOnce (grown_by es s).history → AllOf IsSilent es
    → ((conn n : ℕ) → C conn n → IsOneOf (Opened conn (Some r.space)) (grown_by es s).history
    → Sent s.setting s.history n)
    → Gives r E C (Space.state_of s.setting s.history)
    → Gives r E C (Space.state_of s.setting (grown_by es s).history)
silent-client B [] s r E C t o silent sent old = old
silent-client B (e ∷ es) s r E C t o silent sent old =
    silent-client B es (grown e s) r E C t o silent.1
    (λ conn n c opens. sent-later s.setting e s.history n (sent conn n c opens))
    (client-event B s.setting s.history e r E C now
    (λ conn n period same d. came-not-silent e conn (message.Lease n period) silent.0 same)
    (λ conn n c d. sent-low B s.setting s.history n now.1 now-once.1
    (sent conn n c (grown-has es (grown e s) (Opened conn (Some r.space))
    (opened-to B s.setting (e ∷ s.history) r conn n now now-once d)))) old)
  where
    now : IsTaken s.setting (e ∷ s.history)
    now = taken-before es (grown e s) t

    now-once : OpensOnce (e ∷ s.history)
    now-once = once-before es (grown e s) o

-- ---- in a world

-- a dirty call of this number came at the owner
abbrev pub Came : Space → ℕ → ℕ → Type 0
Came b conn n = (period : ℕ) × ((ids : List ObjId) × IsOneOf (message.Dirty n period ids) (came_on conn b.history))

-- a Lease that came at the client, or is on its way there, answers a dirty call that came at the owner
answered : {settings : List Setting} {w : World} → Facts settings w → (conn n period : ℕ) (p : Pipe) (a b : Space)
    → IsBetween w conn p a b → IsOneOf (message.Lease n period) (came_on conn a.history ++ p.dialler.queue)
    → Came b conn n
answered {settings} {w} F conn n period p a b between came =
    at-all _ p.accepter.space w.spaces b between.accepted F.told conn n period sent
  where
    lease : Message
    lease = message.Lease n period

    sent : IsOneOf lease (sent_on conn b.outputs)
    sent = subst (λ (x : Option Space). IsOneOf lease (sent_on conn (outputs_in x))) between.accepted
        (one-some lease (came_on conn a.history ++ p.dialler.queue)
        (sent_on conn (outputs_at w.spaces p.accepter.space)) came
        (F.delivers.brings conn p Dialler between.pipe a between.dialled))

-- a Lease that the owner sent answers a dirty call that came there
pub lease-answers : {settings : List Setting} {w : World} → Facts settings w
    → (conn n period : ℕ) (p : Pipe) (a b : Space) → IsBetween w conn p a b
    → IsOneOf (message.Lease n period) p.dialler.queue → Came b conn n
lease-answers {settings} {w} F conn n period p a b between there =
    answered F conn n period p a b between
    (one-right (message.Lease n period) (came_on conn a.history) p.dialler.queue there)

-- a Lease that came at the client answers a dirty call that came at the owner
pub lease-came : {settings : List Setting} {w : World} → Facts settings w → (i j conn n period : ℕ) (a b : Space)
    → Between w conn i j a b → IsOneOf (message.Lease n period) (came_on conn a.history) → Came b conn n
lease-came F i j conn n period a b B came =
    answered F conn n period B.pipe a b B.between
    (one-left (message.Lease n period) (came_on conn a.history) B.pipe.dialler.queue came)

-- rows that change and rows that stay
pub at-later : {A : Type 0} (f : A → A) (i k : ℕ) (xs : List A) (x : A) → slice_get xs k ≡ Some x
    → (slice_get (at_index f i xs) k ≡ Some (f x)) ⊎ (slice_get (at_index f i xs) k ≡ Some x)
at-later f i k [] x e = absurd (some-none x (sym e))
at-later {A} f zero zero (y ∷ xs) x e = inl (ap {A = A} {B = Option A} (λ z. Some (f z)) (some-same e))
at-later f zero (suc k) (y ∷ xs) x e = inr e
at-later f (suc i) zero (y ∷ xs) x e = inr e
at-later f (suc i) (suc k) (y ∷ xs) x e = at-later f i k xs x e

-- the later world has each space, with what it had in its history
record Later (w v : World) : Type 0 where
  later : (k : ℕ) (x : Space) → slice_get w.spaces k ≡ Some x
      → (y : Space) × ((slice_get v.spaces k ≡ Some y) × ((e : Event) → IsOneOf e x.history → IsOneOf e y.history))

later-of : (w v : World) (i : ℕ) (es : List Event) → v.spaces ≡ at_index (grown_by es) i w.spaces → Later w v
later-of w v i es same = record { later = λ k x at. by k x (at-later (grown_by es) i k w.spaces x at) }
  where
    by : (k : ℕ) (x : Space) → (slice_get (at_index (grown_by es) i w.spaces) k ≡ Some (grown_by es x)) ⊎
        (slice_get (at_index (grown_by es) i w.spaces) k ≡ Some x)
        → (y : Space) × ((slice_get v.spaces k ≡ Some y) × ((e : Event) → IsOneOf e x.history → IsOneOf e y.history))
    by k x (inl e) = (grown_by es x, (ap (λ (l : List Space). slice_get l k) same ∙ e, λ d o. grown-has es x d o))
    by k x (inr e) = (x, (ap (λ (l : List Space). slice_get l k) same ∙ e, λ d o. o))

-- what came at the owner on a connection that the client dials to it was sent by the client before
came-sent : {settings : List Setting} {w v : World} → Facts settings w → Facts settings v → Later w v
    → (i j conn n : ℕ) (a b c : Space) → slice_get w.spaces i ≡ Some a → slice_get w.spaces j ≡ Some b
    → Between v conn i j c b → Came b conn n
    → (m : Message) × (IsOneOf n (sequence_in m) × IsOneOf m (sent_on conn a.outputs))
came-sent {settings} {w} {v} F V L i j conn n a b c at atj B came =
    by (slice_get w.pipes conn) refl (F.delivers.ends j conn b atj (has-on conn m b.history came.1.1))
  where
    m : Message
    m = message.Dirty n came.0 came.1.0

    to-end : (q : Pipe) → slice_get w.pipes conn ≡ Some q → q.accepter.space ≡ j
        → (u : Space) × ((slice_get w.spaces q.dialler.space ≡ Some u) × IsOneOf m (sent_on conn u.outputs))
    to-end q is same = of-there w.spaces q.dialler.space conn m (came_on conn b.history ++ q.accepter.queue)
        (F.delivers.brings conn q Accepter is b (ap (slice_get w.spaces) same ∙ atj))
        (one-left m (came_on conn b.history) q.accepter.queue came.1.1)

    -- who dialled it is the client
    index : (q : Pipe) (u : Space) → slice_get w.spaces q.dialler.space ≡ Some u → IsOneOf m (sent_on conn u.outputs)
        → q.dialler.space ≡ i
    index q u atu sent =
        let opens = opened-as u.history conn true
        (went u.history conn m u.outputs (at-all HasDirections q.dialler.space w.spaces u atu F.directions).sent
        sent) in
        let y = L.later q.dialler.space u atu in
        let joined : IsJoined v.spaces q.dialler.space opens.0 (Some (B.pipe.dialler.space, B.pipe.accepter.space)) =
        subst (IsJoined v.spaces q.dialler.space opens.0) (ends-of v.pipes conn B.pipe B.between.pipe)
        (V.joins q.dialler.space y.0 y.1.0 conn opens.0 (y.1.1 (Opened conn opens.0) opens.1.1)) in
        sym (dials-at v.spaces q.dialler.space opens.0 (B.pipe.dialler.space, B.pipe.accepter.space) opens.1.0 joined)
        ∙ B.dials

    dialled-back : (q : Pipe) → slice_get w.pipes conn ≡ Some q → q.dialler.space ≡ j → ⊥
    dialled-back q is same =
        let u = of-there w.spaces q.accepter.space conn m (came_on conn b.history ++ q.dialler.queue)
        (F.delivers.brings conn q Dialler is b (ap (slice_get w.spaces) same ∙ atj))
        (one-left m (came_on conn b.history) q.dialler.queue came.1.1) in
        not-dialled F conn q u.0 is u.1.0
        (went u.0.history conn m u.0.outputs
        (at-all HasDirections q.accepter.space w.spaces u.0 u.1.0 F.directions).sent u.1.1)

    by : (o : Option Pipe) → slice_get w.pipes conn ≡ o → IsEnd j o
        → (x : Message) × (IsOneOf n (sequence_in x) × IsOneOf x (sent_on conn a.outputs))
    by None e f = absurd f
    by (Some q) e (inl f) = absurd (dialled-back q e f)
    by (Some q) e (inr f) =
        let u = to-end q e f in
        let same : u.0 ≡ a = some-same (sym u.1.0 ∙ (ap (slice_get w.spaces) (index q u.0 u.1.0 u.1.1) ∙ at)) in
        (m, (inl refl, subst (λ (s : Space). IsOneOf m (sent_on conn s.outputs)) same u.1.1))

pub client-sent : {settings : List Setting} {w v : World} → Facts settings w → Facts settings v
    → (i j : ℕ) (es : List Event) → v.spaces ≡ at_index (grown_by es) i w.spaces → (a b : Space) (r : ForeignId)
    → slice_get w.spaces i ≡ Some a → slice_get w.spaces j ≡ Some b → slice_get v.spaces i ≡ Some (grown_by es a)
    → slice_get v.spaces j ≡ Some b
    → r.space ≡ b.setting.id → (conn n : ℕ) → Came b conn n
    → IsOneOf (Opened conn (Some r.space)) (grown_by es a).history → Sent a.setting a.history n
client-sent {settings} {w} {v} F V i j es same a b r at atj now nowj own conn n came opens =
    let s = came-sent F V (later-of w v i es same) i j conn n a b (grown_by es a) at atj
    (between-of V i j conn (grown_by es a) b r.space now nowj own opens) came in
    subst (λ (os : List Output). IsOneOf n (sequence_numbers (frames_in os))) known.outputs
    (in-flat-of sequence_in n s.0 (frames_in a.outputs) (among-frames conn s.0 a.outputs s.1.1) s.1.0)
  where
    known : Known a
    known = at-all Known i w.spaces a at F.known

-- ---- a client's step

pub client-step : {settings : List Setting} {w v : World} → Below → Facts settings w → Facts settings v
    → (i j : ℕ) (e : Event) → v.spaces ≡ at_index (grown_by (e ∷ [])) i w.spaces
    → (a b : Space) (r : ForeignId) (E : Type 0) → slice_get w.spaces i ≡ Some a → slice_get w.spaces j ≡ Some b
    → slice_get v.spaces i ≡ Some (grown e a) → slice_get v.spaces j ≡ Some b → r.space ≡ b.setting.id
    → Gives r E (Came b) a.state → Gives r E (Came b) (grown e a).state
client-step {settings} {w} {v} B F V i j e same a b r E at atj now nowj own old =
    subst (Gives r E (Came b)) (sym later.state)
    (client-event B a.setting a.history e r E (Came b) later.taken brings low
    (subst (Gives r E (Came b)) known.state old))
  where
    known : Known a
    known = at-all Known i w.spaces a at F.known

    later : Known (grown e a)
    later = at-all Known i v.spaces (grown e a) now V.known

    brings : (conn n period : ℕ) → e ≡ Received conn (message.Lease n period)
        → IsDirtyOut (Space.state_of a.setting a.history) conn n r → Came b conn n
    brings conn n period came d = lease-came V i j conn n period (grown e a) b
        (between-of V i j conn (grown e a) b r.space now nowj own
        (inr (opened-to B a.setting a.history r conn n known.taken known.once d)))
        (came-now conn (message.Lease n period) e a.history came)

    low : (conn n : ℕ) → Came b conn n → IsDirtyOut (Space.state_of a.setting (e ∷ a.history)) conn n r
        → n ≤ numbers_of (Space.state_of a.setting a.history).leases
    low conn n came d = sent-low B a.setting a.history n known.taken known.once
        (client-sent F V i j (e ∷ []) same a b r at atj now nowj own conn n came
        (opened-to B a.setting (e ∷ a.history) r conn n later.taken later.once d))

pub client-silent : {settings : List Setting} {w v : World} → Below → Facts settings w → Facts settings v
    → (i j : ℕ) (es : List Event) → AllOf IsSilent es → v.spaces ≡ at_index (grown_by es) i w.spaces
    → (a b : Space) (r : ForeignId) (E : Type 0) → slice_get w.spaces i ≡ Some a → slice_get w.spaces j ≡ Some b
    → slice_get v.spaces i ≡ Some (grown_by es a) → slice_get v.spaces j ≡ Some b → r.space ≡ b.setting.id
    → Gives r E (Came b) a.state → Gives r E (Came b) (grown_by es a).state
client-silent {settings} {w} {v} B F V i j es silent same a b r E at atj now nowj own old =
    subst (Gives r E (Came b)) (sym state)
    (silent-client B es a r E (Came b) taken later.once silent
    (λ conn n came opens. client-sent F V i j es same a b r at atj now nowj own conn n came opens)
    (subst (Gives r E (Came b)) known.state old))
  where
    known : Known a
    known = at-all Known i w.spaces a at F.known

    later : Known (grown_by es a)
    later = at-all Known i v.spaces (grown_by es a) now V.known

    taken : IsTaken a.setting (grown_by es a).history
    taken = subst (λ (g : Setting). IsTaken g (grown_by es a).history) (setting-stays es a) later.taken

    state : (grown_by es a).state ≡ Space.state_of a.setting (grown_by es a).history
    state = later.state ∙ ap (λ (g : Setting). Space.state_of g (grown_by es a).history) (setting-stays es a)
