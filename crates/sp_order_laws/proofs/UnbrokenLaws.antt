-- Where nothing fails no connection closes but those that tried a version in vain, in every run of every world of spaces of one kind.
use mathlib.Core.Path.{sym, ap, subst, ◌∙◌}
use Rattle.std.proofs.Common.{arith, inl, inr}
use Rattle.std.proofs.lemmas.Bool.{true≢false, eq-eqb}
use Rattle.std.specs.Prelude.{◌≡◌, ◌≤◌, ◌⊎◌, refl, ℕ, zero, suc, ◌+◌, ◌==◌, if◌then◌else◌, Bool, true, false, List, [], ◌∷◌, ◌++◌, Option, None, Some, map, slice_get}
use Rattle.net_message.specs.declared.message.Message.{Message}
use Rattle.net_message.specs.declared.message.Message.TheVariants as message
use Rattle.space_ids.specs.declared.ids.ObjId.{ObjId}
use Rattle.sp_rules.specs.Classes.{Setting}
use Rattle.sp_rules.specs.Events.{Event, Opened, Received, Output, Send}
use Rattle.sp_rules.specs.Laws.{AllOf}
use Rattle.sp_rules.specs.Lists.{total}
use Rattle.sp_rules.specs.Origins.{IsTaken}
use Rattle.sp_rules.specs.Space
use Rattle.sp_rules.specs.State.{State, Request, Connection, ParkedFrame, Acked, connection_at, is_open}
use Rattle.sp_rules.specs.Worlds
use Rattle.sp_rules.specs.Worlds.{World, Space, Pipe, End, Over, WorldEvent, side, new_space, happens, after, run, new_world}
use Rattle.uuid.specs.declared.Uuid.{Uuid}
use Rattle.sp_rules.proofs.AllLemmas.{some-none, or-right, all-weaken}
use Rattle.sp_rules.proofs.OwnLemmas.{some-same}
use Rattle.sp_laws.specs.Answered.{AreInPlace, AnswersAreParked}
use Rattle.sp_laws.specs.Inbound.{OpensOnce}
use Rattle.sp_laws.specs.Others.{IsOpenedOnce, ConnectionsAreOpenedOnce}
use Rattle.sp_laws.specs.Directions.{opens_end, was_opened, HasOpened, FramesGoTheirWay, SpacesHaveDirections}
use Rattle.sp_laws.proofs.DirectionLemmas.{opens-now}
use Rattle.sp_order_laws.specs.HandShakes.{HandShakesAreInTable}
use Rattle.sp_order_laws.specs.Delivered.{came_on, sent_on, WhatComesWasSent}
use Rattle.sp_order_laws.specs.Ends.{IsOneOf, CameAs, ParkedResultsCame}
use Rattle.sp_order_laws.specs.Answering.{CallReply, times_asked, times_answered, under_way, FramesAreAnsweredOnce}
use Rattle.sp_order_laws.specs.LastCalls.{CallsComeAboveTheLast}
use Rattle.sp_order_laws.specs.Places.{EachCallStandsOnce, EachGroupIsAnsweredOnce, EachResultIsAcknowledgedOnce}
use Rattle.sp_order_laws.proofs.NoteLemmas.{append-none, append-after}
use Rattle.sp_order_laws.proofs.RisingLaws.{risen-of}
use Rattle.sp_order_laws.proofs.RisingMoves.{IsSaid}
use Rattle.sp_order_laws.proofs.WorldFacts.{Known}
use Rattle.sp_order_laws.specs.Asked.{asks_for, out_on}
use Rattle.sp_order_laws.specs.Told.{AnswersTold}
use Rattle.sp_order_laws.specs.Unbroken.{AreOfOneKind, NothingFails, is_failure, IsProbe, IsUnbroken, NothingCloses}
use Rattle.sp_order_laws.proofs.ResultStays.{results_wait_for_acks}
use Rattle.sp_order_laws.proofs.RowStays.{rows-opened}
use Rattle.sp_order_laws.proofs.StayLaws.{what_is_asked_stands, leases_answer_dirty_calls}
use Rattle.sp_order_laws.specs.Hellos.{IsFirstVersion, SpeaksInTurn, AnswersInTurn}
pub use Rattle.sp_order_laws.proofs.ListLemmas.{one-either}
use Rattle.sp_order_laws.proofs.ListLemmas.{one-left, one-right, one-output}
use Rattle.sp_order_laws.proofs.TableLemmas.{connections_begin_in_order}
use Rattle.sp_order_laws.proofs.TurnLemmas.{hellos_are_said_first}
use Rattle.sp_order_laws.proofs.VersionLemmas.{AnsweredAs, SaidAs}
use Rattle.sp_order_laws.proofs.WelcomeFrames.{is-welcome, hellos-alone}
use Rattle.sp_order_laws.proofs.WelcomeLemmas.{Facts}
use Rattle.sp_order_laws.proofs.WorldStays.{Standing, InVain, to-probe, of-probe, to-joined, happens-standing}

-- ---- the laws on which it stands

pub record Laws : Type 0 where
  pub ways : FramesGoTheirWay
  pub parked : ParkedResultsCame
  pub directions : SpacesHaveDirections
  pub sent : WhatComesWasSent
  pub shakes : HandShakesAreInTable
  pub above : CallsComeAboveTheLast
  pub calls : EachCallStandsOnce
  pub groups : EachGroupIsAnsweredOnce
  pub results : EachResultIsAcknowledgedOnce
  pub answered : FramesAreAnsweredOnce
  pub places : AnswersAreParked
  pub opened : ConnectionsAreOpenedOnce

-- ---- what was answered to dirty and clean calls

pub came-now : (conn : ℕ) (m : Message) (e : Event) (h : List Event) → e ≡ Received conn m → IsOneOf m (came_on conn (e ∷ h))
came-now conn m e h is = one-right m (came_on conn h) (Rattle.sp_order_laws.specs.Delivered.frame_of conn e) (subst (λ d. IsOneOf m (Rattle.sp_order_laws.specs.Delivered.frame_of conn d)) (sym is) (here (conn == conn) (eq-eqb conn conn refl)))
  where
    here : (b : Bool) → b ≡ true → IsOneOf m (if b then m ∷ [] else [])
    here true f = inl refl
    here false f = absurd (true≢false (sym f))

sent-append : (conn : ℕ) (os ps : List Output) → sent_on conn (os ++ ps) ≡ sent_on conn os ++ sent_on conn ps
sent-append conn [] ps = refl
sent-append conn (o ∷ os) ps = ap (λ (l : List Message). Rattle.sp_order_laws.specs.Delivered.frame_in conn o ++ l) (sent-append conn os ps) ∙ sym (append-after (Rattle.sp_order_laws.specs.Delivered.frame_in conn o) (sent_on conn os) (sent_on conn ps))

told-of : Laws → (g : Setting) (h : List Event) → IsTaken g h → OpensOnce h → (conn sequence period : ℕ) → IsOneOf (message.Lease sequence period) (sent_on conn (Space.all_outputs g h)) → (asked : ℕ) × ((ids : List ObjId) × IsOneOf (message.Dirty sequence asked ids) (came_on conn h))
told-of L g [] taken once conn sequence period o = absurd o
told-of L g (e ∷ h) taken once conn sequence period o = by (one-either (message.Lease sequence period) (sent_on conn (Space.all_outputs g h)) (sent_on conn (Space.outputs_of g h e)) (subst (IsOneOf (message.Lease sequence period)) (sent-append conn (Space.all_outputs g h) (Space.outputs_of g h e)) o)) (λ i. told-of L g h taken.1 once.1 conn sequence period i)
  where
    by : (IsOneOf (message.Lease sequence period) (sent_on conn (Space.all_outputs g h))) ⊎ (IsOneOf (message.Lease sequence period) (sent_on conn (Space.outputs_of g h e)))
        → (IsOneOf (message.Lease sequence period) (sent_on conn (Space.all_outputs g h)) → (asked : ℕ) × ((ids : List ObjId) × IsOneOf (message.Dirty sequence asked ids) (came_on conn h)))
        → (asked : ℕ) × ((ids : List ObjId) × IsOneOf (message.Dirty sequence asked ids) (came_on conn (e ∷ h)))
    by (inl i) rest = let x = rest i in (x.0, (x.1.0, one-left (message.Dirty sequence x.0 x.1.0) (came_on conn h) (Rattle.sp_order_laws.specs.Delivered.frame_of conn e) x.1.1))
    by (inr i) rest = let x : AnswersTold e (Send conn (message.Lease sequence period)) = one-output (AnswersTold e) conn (message.Lease sequence period) (Space.outputs_of g h e) (leases_answer_dirty_calls L.ways L.parked g h e taken.1 once.1) i in
        (x.0, (x.1.0, came-now conn (message.Dirty sequence x.0 x.1.0) e h x.1.1.0))

cleaned-of : Laws → (g : Setting) (h : List Event) → IsTaken g h → OpensOnce h → (conn sequence : ℕ) → IsOneOf (message.Cleaned sequence) (sent_on conn (Space.all_outputs g h)) → (strong : Bool) × ((ids : List ObjId) × IsOneOf (message.Clean sequence strong ids) (came_on conn h))
cleaned-of L g [] taken once conn sequence o = absurd o
cleaned-of L g (e ∷ h) taken once conn sequence o = by (one-either (message.Cleaned sequence) (sent_on conn (Space.all_outputs g h)) (sent_on conn (Space.outputs_of g h e)) (subst (IsOneOf (message.Cleaned sequence)) (sent-append conn (Space.all_outputs g h) (Space.outputs_of g h e)) o)) (λ i. cleaned-of L g h taken.1 once.1 conn sequence i)
  where
    by : (IsOneOf (message.Cleaned sequence) (sent_on conn (Space.all_outputs g h))) ⊎ (IsOneOf (message.Cleaned sequence) (sent_on conn (Space.outputs_of g h e)))
        → (IsOneOf (message.Cleaned sequence) (sent_on conn (Space.all_outputs g h)) → (strong : Bool) × ((ids : List ObjId) × IsOneOf (message.Clean sequence strong ids) (came_on conn h)))
        → (strong : Bool) × ((ids : List ObjId) × IsOneOf (message.Clean sequence strong ids) (came_on conn (e ∷ h)))
    by (inl i) rest = let x = rest i in (x.0, (x.1.0, one-left (message.Clean sequence x.0 x.1.0) (came_on conn h) (Rattle.sp_order_laws.specs.Delivered.frame_of conn e) x.1.1))
    by (inr i) rest = let x : AnswersTold e (Send conn (message.Cleaned sequence)) = one-output (AnswersTold e) conn (message.Cleaned sequence) (Space.outputs_of g h e) (leases_answer_dirty_calls L.ways L.parked g h e taken.1 once.1) i in
        (x.0, (x.1.0, came-now conn (message.Clean sequence x.0 x.1.0) e h x.1.1))

-- ---- what is known of each world

of-known : (Is : Space → Type 0) (spaces : List Space) → ((s : Space) → Known s → Is s) → AllOf Known spaces → AllOf Is spaces
of-known Is spaces k a = all-weaken Known Is spaces k a

alive-is : (p : Pipe) (end : End) → (side end p).phase ≡ Over → (Worlds.is_ended p.dialler.phase ≡ false) × (Worlds.is_ended p.accepter.phase ≡ false) → ⊥
alive-is p Worlds.Dialler o k = true≢false (sym (ap Worlds.is_ended o) ∙ k.0)
alive-is p Worlds.Accepter o k = true≢false (sym (ap Worlds.is_ended o) ∙ k.1)

-- of which version each Hello is that a space said
hellos-so : (g : Setting) (h : List Event) (conn version : ℕ) (space : Uuid) (digest : List ℕ) → IsOneOf (message.Hello version space digest) (sent_on conn (Space.all_outputs g h)) → SaidAs g h conn version
hellos-so g [] conn version space digest o = absurd o
hellos-so g (e ∷ h) conn version space digest o = by (one-either (message.Hello version space digest) (sent_on conn (Space.all_outputs g h)) (sent_on conn (Space.outputs_of g h e)) (subst (IsOneOf (message.Hello version space digest)) (sent-append conn (Space.all_outputs g h) (Space.outputs_of g h e)) o)) (λ i. hellos-so g h conn version space digest i)
  where
    later-way : (end : Bool) → HasOpened h conn end → HasOpened (e ∷ h) conn end
    later-way end a = or-right (opens_end conn end e) (was_opened h conn end) a

    answered : AnsweredAs g h conn version → AnsweredAs g (e ∷ h) conn version
    answered (inl x) = inl x
    answered (inr x) = inr (x.0, (x.1.0, (x.1.1.0, (x.1.1.1.0, (one-left (message.Hello x.1.0 x.1.1.0 x.1.1.1.0) (came_on conn h) (Rattle.sp_order_laws.specs.Delivered.frame_of conn e) x.1.1.1.1.0, x.1.1.1.1.1)))))

    later : SaidAs g h conn version → SaidAs g (e ∷ h) conn version
    later (inl x) = inl (later-way true x.0, x.1)
    later (inr x) = inr (later-way false x.0, answered x.1)

    now : SpeaksInTurn g e h conn version → SaidAs g (e ∷ h) conn version
    now (inr x) = inr (x.0.way, inr (x.0.late, (x.0.version, (x.0.space, (x.0.digest, (came-now conn (message.Hello x.0.version x.0.space x.0.digest) e h x.0.came, x.1))))))
    now (inl x) = opens x.0 x.1.0 x.1.1
      where
        opens : (dialled : Option Uuid) → e ≡ Opened conn dialled → IsFirstVersion g dialled version → SaidAs g (e ∷ h) conn version
        opens None is first = inr (subst (λ d. HasOpened (d ∷ h) conn false) (sym is) (opens-now h conn None), inl first)
        opens (Some peer) is first = inl (subst (λ d. HasOpened (d ∷ h) conn true) (sym is) (opens-now h conn (Some peer)), first)

    by : (IsOneOf (message.Hello version space digest) (sent_on conn (Space.all_outputs g h))) ⊎ (IsOneOf (message.Hello version space digest) (sent_on conn (Space.outputs_of g h e)))
        → (IsOneOf (message.Hello version space digest) (sent_on conn (Space.all_outputs g h)) → SaidAs g h conn version) → SaidAs g (e ∷ h) conn version
    by (inl i) rest = later (rest i)
    by (inr i) rest = now (one-output (AnswersInTurn g e h) conn (message.Hello version space digest) (Space.outputs_of g h e) (hellos_are_said_first g h e) i)

pub facts-of : Laws → (settings : List Setting) (events : List WorldEvent) → AreOfOneKind settings → Standing settings (run (new_world settings) events) → Facts settings (run (new_world settings) events)
facts-of L settings events kind h = record {
  kind = kind;
  settings_are = h.settings_are;
  over = λ conn p end is o. over conn p end o (h.live conn p is);
  stays = λ i s at conn dialled o. stays conn (h.stays i s at conn dialled o);
  begins = connections_begin_in_order settings events;
  hellos = of-known _ w.spaces (λ s k conn version space digest o. hellos-so s.setting s.history conn version space digest (subst (λ os. IsOneOf (message.Hello version space digest) (sent_on conn os)) k.outputs o)) h.known;
  joins = λ i s at conn dialled o. to-joined w.spaces i dialled (Rattle.sp_order_laws.specs.Unbroken.ends_at w.pipes conn) (h.joins i s at conn dialled o);
  known = h.known;
  two = (L.opened settings events).pipes;
  directions = L.directions settings events;
  delivers = L.sent settings events;
  shakes = λ conn p to s there is at atj. L.shakes settings events conn p to s there is at atj;
  above = L.above settings events;
  calls = L.calls settings events;
  groups = L.groups settings events;
  results = L.results settings events;
  rows = of-known _ w.spaces (λ s k. subst (λ (t : State). AllOf (λ (c : Connection). IsOneOf (Opened c.number c.dialled) s.history) t.connections) (sym k.state) (rows-opened s.setting s.history)) h.known;
  said = of-known _ w.spaces (λ s k. subst (λ (t : State). AllOf (λ (q : Request). IsSaid q.asked) t.requests) (sym k.state) (risen-of L.ways s.setting s.history k.taken k.once).rising.said) h.known;
  asked = of-known _ w.spaces (λ s k conn is live none. subst (λ (t : State). total (asks_for is) (sent_on conn s.outputs) ≤ total (out_on conn is) t.requests) (sym k.state) (subst (λ os. total (asks_for is) (sent_on conn os) ≤ total (out_on conn is) (Space.state_of s.setting s.history).requests) (sym k.outputs)
      (what_is_asked_stands L.ways L.parked s.setting s.history conn is k.taken k.once (subst (λ (t : State). is_open t conn ≡ true) k.state live) none))) h.known;
  waits = of-known _ w.spaces (λ s k conn number fuel value live o none. subst (λ (t : State). IsOneOf (record { until = Acked conn number; value = value }) t.results) (sym k.state)
      (results_wait_for_acks s.setting s.history conn number fuel value k.once (subst (λ (t : State). is_open t conn ≡ true) k.state live) (subst (λ os. IsOneOf (message.Returned number fuel value) (sent_on conn os)) k.outputs o) none)) h.known;
  told = of-known _ w.spaces (λ s k conn sequence period o. told-of L s.setting s.history k.taken k.once conn sequence period (subst (λ os. IsOneOf (message.Lease sequence period) (sent_on conn os)) k.outputs o)) h.known;
  cleaned = of-known _ w.spaces (λ s k conn sequence o. cleaned-of L s.setting s.history k.taken k.once conn sequence (subst (λ os. IsOneOf (message.Cleaned sequence) (sent_on conn os)) k.outputs o)) h.known;
  answered = of-known _ w.spaces (λ s k conn n. let a : under_way CallReply conn n (Space.state_of s.setting s.history) + times_answered CallReply n (sent_on conn (Space.all_outputs s.setting s.history)) ≤ times_asked CallReply n (came_on conn s.history) = L.answered s.setting s.history CallReply conn n k.taken k.once in
      let b : times_answered CallReply n (sent_on conn s.outputs) ≡ times_answered CallReply n (sent_on conn (Space.all_outputs s.setting s.history)) = ap (λ os. times_answered CallReply n (sent_on conn os)) k.outputs in omega arith) h.known;
  places = of-known _ w.spaces (λ s k. subst AreInPlace (sym k.state) (L.places s.setting s.history k.taken)) h.known;
  parked = of-known _ w.spaces (λ s k. subst (λ (t : State). AllOf (λ (p : ParkedFrame). CameAs s.history p p.frame) t.parked) (sym k.state) (L.parked s.setting s.history)) h.known;
}
  where
    w : World
    w = run (new_world settings) events

    over : (conn : ℕ) (p : Pipe) (end : End) → (side end p).phase ≡ Over → ((Worlds.is_ended p.dialler.phase ≡ false) × (Worlds.is_ended p.accepter.phase ≡ false)) ⊎ InVain w conn → IsProbe w conn
    over conn p end o (inl k) = absurd (alive-is p end o k)
    over conn p end o (inr vain) = to-probe w conn vain

    stays : {A : Type 0} (conn : ℕ) → A ⊎ InVain w conn → A ⊎ IsProbe w conn
    stays conn (inl x) = inl x
    stays conn (inr vain) = inr (to-probe w conn vain)

-- ---- runs

pub run-last : (w : World) (es : List WorldEvent) (e : WorldEvent) → run w (es ++ e ∷ []) ≡ after (run w es) e
unfolding run
run-last w [] e = refl
run-last w (x ∷ es) e = run-last (after w x) es e

new-standing : (settings : List Setting) → Standing settings (new_world settings)
unfolding new_world Space.state_of
new-standing settings = record {
  settings_are = names settings;
  live = λ conn p at. absurd (some-none p (sym at));
  joins = λ i s at conn dialled o. absurd (subst (IsOneOf (Opened conn dialled)) (nothing settings i s at) o);
  stays = λ i s at conn dialled o. absurd (subst (IsOneOf (Opened conn dialled)) (nothing settings i s at) o);
  asked = tt;
  known = known settings;
}
  where
    names : (gs : List Setting) → map (λ (s : Space). s.setting) (map new_space gs) ≡ gs
    names [] = refl
    names (g ∷ gs) = ap (λ (l : List Setting). g ∷ l) (names gs)

    nothing : (gs : List Setting) (i : ℕ) (s : Space) → slice_get (map new_space gs) i ≡ Some s → s.history ≡ []
    nothing [] i s e = absurd (some-none s (sym e))
    nothing (g ∷ gs) zero s e = ap (λ (x : Space). x.history) (sym (some-same e))
    nothing (g ∷ gs) (suc i) s e = nothing gs i s e

    known : (gs : List Setting) → AllOf Known (map new_space gs)
    known [] = tt
    known (g ∷ gs) = (record { state = first g; outputs = refl; taken = tt; once = tt }, known gs)
      where
        first : (x : Setting) → Rattle.sp_rules.specs.State.opening ≡ Space.state_of x []
        first x = refl

pub all-split : {A : Type 0} (Is : A → Type 0) (xs : List A) (x : A) → AllOf Is (xs ++ x ∷ []) → AllOf Is xs × Is x
all-split Is [] x a = (tt, a.0)
all-split Is (y ∷ xs) x a = let r = all-split Is xs x a.1 in ((a.0, r.0), r.1)

next-standing : Laws → (settings : List Setting) (events : List WorldEvent) (e : WorldEvent) → AreOfOneKind settings → is_failure e ≡ false → Standing settings (run (new_world settings) events) → Standing settings (after (run (new_world settings) events) e)
unfolding after
next-standing L settings events e kind fine h = happens-standing L.ways L.parked settings e (record w { refused = None }) fine (λ conn p to m ms s c is queue at row. vain conn (is-welcome F conn p to m ms s c is queue at row))
    (subst (λ (x : World). AllOf IsOpenedOnce x.spaces) (run-last (new_world settings) events e) (L.opened settings (events ++ e ∷ [])).spaces)
    (record { settings_are = h.settings_are; live = h.live; joins = h.joins; stays = h.stays; asked = h.asked; known = h.known })
  where
    w : World
    w = run (new_world settings) events

    F : Facts settings w
    F = facts-of L settings events kind h

    vain : {A : Type 0} (conn : ℕ) → A ⊎ IsProbe w conn → A ⊎ InVain w conn
    vain conn (inl x) = inl x
    vain conn (inr P) = inr (of-probe w conn P)

pub stands : Laws → (settings : List Setting) → AreOfOneKind settings → (before more : List WorldEvent) → NothingFails more → Standing settings (run (new_world settings) before) → Standing settings (run (new_world settings) (before ++ more))
stands L settings kind before [] fine h = subst (λ es. Standing settings (run (new_world settings) es)) (sym (append-none before)) h
stands L settings kind before (e ∷ more) fine h = subst (λ es. Standing settings (run (new_world settings) es)) (append-after before (e ∷ []) more) (stands L settings kind (before ++ e ∷ []) more fine.1 (subst (Standing settings) (sym (run-last (new_world settings) before e)) (next-standing L settings before e kind fine.0 h)))

pub standing-of : Laws → (settings : List Setting) (events : List WorldEvent) → AreOfOneKind settings → NothingFails events → Standing settings (run (new_world settings) events)
unfolding run
standing-of L settings events kind fine = stands L settings kind [] events fine (new-standing settings)

pub nothing_closes : Laws → NothingCloses
nothing_closes L settings events kind fine = record { live = F.over; hellos = λ conn P m o. hellos-alone F conn P m o; joins = F.joins; stays = F.stays; welcome = λ conn p to m ms s c is queue at row. is-welcome F conn p to m ms s c is queue at row }
  where
    h : Standing settings (run (new_world settings) events)
    h = standing-of L settings events kind fine

    F : Facts settings (run (new_world settings) events)
    F = facts-of L settings events kind h
