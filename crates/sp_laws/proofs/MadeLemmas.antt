-- Every event of every world keeps each reference to what its space made.
use mathlib.Core.Path.{sym, ap, subst, ◌∙◌}
use Rattle.std.specs.Prelude.{◌≡◌, refl, ℕ, zero, suc, ◌+◌, length, Bool, true, false, List, [], ◌∷◌, ◌++◌, Option, None, Some, slice_get, take, map, if◌then◌else◌}
use Rattle.std.specs.Str.{bytes_eq}
use Rattle.std.proofs.Common.{inl, inr}
use Rattle.std.proofs.lemmas.Bool.{eqb-true}
use Rattle.std.proofs.lemmas.Slice.Eq.{bytes_eq-Decides}
use Rattle.space_ids.specs.declared.ids.ClassId.{ClassId}
use Rattle.net_message.specs.declared.message.Message.{Message}
use Rattle.uuid.specs.declared.Uuid.{Uuid}
use Rattle.space_ids.specs.declared.ids.ObjId.{ObjId}
use Rattle.space_ids.specs.declared.ids.Ref.{Ref}
use Rattle.space_ids.specs.declared.value.Value.{Value}
use Rattle.sp_rules.specs.Behaviours.{Op, Create, Get, Put, Call}
use Rattle.sp_rules.specs.Classes.{Setting}
use Rattle.sp_rules.specs.Events.{Event, Moment, Sweep, Root, RootAck, Bind, Rebind, Unbind, Lookup, Opened, Refused, Received, Closed, ReadFailed, Bad, WriteFailed, Committed, Parked, GivenBack, Finished, Output, Started, Ended, Withdrawn, Denied, Send, Dial, Close, Ready}
use Rattle.sp_rules.specs.Holders.{fields_of, references_of_frame}
use Rattle.sp_rules.specs.Laws.{AllOf, IsOne}
use Rattle.sp_rules.specs.Lists.{each, with_some, at_index}
use Rattle.sp_rules.specs.LivingTasks
use Rattle.sp_rules.specs.Origins.{references_of_message, own_reference}
use Rattle.sp_rules.specs.References.{references_of}
use Rattle.sp_rules.specs.Refusals
use Rattle.sp_rules.specs.Refusals.{Refusal, refusal, first_refusal, checks}
use Rattle.sp_rules.specs.Space
use Rattle.sp_rules.specs.State.{State, Object, Frame, CallFrame, ReturnedFrame, ParkedFrame, standing, opening, task_at}
use Rattle.sp_rules.specs.Tasks.{Task, Stand, Runs, AsksFor, HasEnded, is_at_end, stand, step}
use Rattle.sp_rules.specs.Worlds
use Rattle.sp_rules.specs.Worlds.{World, Space, End, Dialler, Accepter, Side, Pipe, grown, put, acts, act, take_event, after, happens, run, new_space, new_world, WorldEvent, Own, Step, Open, Refuse, Accept, Deliver, ReadFails, WriteFails}
use Rattle.sp_rules.proofs.AllLemmas.{all-weaken, all-more}
use Rattle.sp_rules.proofs.OriginLemmas.{Only, FrameIs, FieldsAre}
use Rattle.sp_rules.proofs.OriginsOfFrames.{Waits, OutputIs, After, on_only}
use Rattle.sp_rules.proofs.OwnLemmas
use Rattle.sp_rules.proofs.OwnLemmas.{unrefused, taken-brings, only-wider, create-stores, root-arguments, root-names, root-held, held-is, frame-only, fields-all, NamesIn, Names}
use Rattle.sp_rules.proofs.Stable.{Core, IsStable, on_keeps}
use Rattle.sp_laws.specs.Made.{IsMade, IsMadeBy, TargetIs, HasOnly, QueueIs, PipeIs, AllMade, ReferencesAreMade}

-- ---- what was made stays made

abbrev MadeIn : ObjId → ClassId → State → Type 0
MadeIn id class s = IsMade s.store id class

made-stable : (g : Setting) (id : ObjId) (class : ClassId) → IsStable g (MadeIn id class)
made-stable g id class = record {
  framed = record { frame = λ s t e h. subst (λ (c : Core). IsMade c.store id class) (sym e) h };
  begins = λ s origin method arguments fuel h. h;
  counts = λ s h. h;
  ends = λ s task h. h;
  replies = λ s task t reply is h. h;
  commits = λ s task k t reply is h. h;
  waits = λ s task k t is h. h;
  goes_on = λ s task k t is h. h;
  makes = λ s c h. inr h;
  writes = λ s to slot value h. h;
}

store-grows : (g : Setting) (e : Event) (s : State) (id : ObjId) (class : ClassId) → IsMade s.store id class → IsMade (Space.on g e s).0.store id class
store-grows g e s id class h = on_keeps (made-stable g id class) s e (λ f. record { told = λ t call k. k }) (λ n. record { named = λ t names k. k }) (λ w. record { gone = λ t ids k. k }) h

grown-made : (e : Event) (i : ℕ) (spaces : List Space) (r : Ref) → IsMadeBy spaces r → IsMadeBy (at_index (grown e) i spaces) r
grown-made e i [] r h = h
grown-made e zero (s ∷ ss) r (inl h) = inl (h.0, store-grows s.setting e s.state r.id r.class h.1)
grown-made e zero (s ∷ ss) r (inr h) = inr h
grown-made e (suc i) (s ∷ ss) r (inl h) = inl h
grown-made e (suc i) (s ∷ ss) r (inr h) = inr (grown-made e i ss r h)

-- what the space at an index made
at-made : (e : Event) (i : ℕ) (spaces : List Space) (s : Space) (r : Ref) → slice_get spaces i ≡ Some s → s.setting.id ≡ r.space → IsMade (Space.on s.setting e s.state).0.store r.id r.class → IsMadeBy (at_index (grown e) i spaces) r
at-made e i [] s r is own made = absurd (OwnLemmas.no-space (sym is))
at-made e zero (t ∷ ss) s r is own made = inl (subst (λ (u : Space). (u.setting.id ≡ r.space) × IsMade (Space.on u.setting e u.state).0.store r.id r.class) (sym (OwnLemmas.some-same is)) (own, made))
at-made e (suc i) (t ∷ ss) s r is own made = inr (at-made e i ss s r is own made)

-- ---- worlds in which all is made, by these spaces

abbrev SpaceIs : List Space → Space → Type 0
SpaceIs all s = Only s.setting (IsMadeBy all) (IsMadeBy all) (Waits s.setting) s.state

record SoundFor (all : List Space) (w : World) : Type 0 where
  same : w.spaces ≡ all
  spaces : AllOf (SpaceIs all) all
  queues : AllOf (PipeIs (IsMadeBy all)) w.pipes

abbrev Sound : World → Type 0
Sound w = SoundFor w.spaces w

sound : (all : List Space) (w : World) → SoundFor all w → Sound w
sound all w h = subst (λ ss. SoundFor ss w) (sym h.same) h

some-taken : {all : List Space} {A : Type 0} {t : World} (x : Option A) (f : A → World) → SoundFor all t → ((a : A) → x ≡ Some a → SoundFor all (f a)) → SoundFor all (with_some x t f)
some-taken None f e h = e
some-taken (Some a) f e h = h a refl

-- ---- what a space answers goes into the world

all-index : {A : Type 0} (P : A → Type 0) (f : A → A) (n : ℕ) (xs : List A) → ((x : A) → P x → P (f x)) → AllOf P xs → AllOf P (at_index f n xs)
all-index P f n [] h a = tt
all-index P f zero (x ∷ xs) h a = (h x a.0, a.1)
all-index P f (suc n) (x ∷ xs) h a = (a.0, all-index P f n xs h a.1)

queued : (Is : Ref → Type 0) (m : Message) (end : End) (p : Pipe) → AllOf Is (references_of_message m) → PipeIs Is p → PipeIs Is (Worlds.set_side (Worlds.queue_up m) end p)
queued Is m Dialler p a h = (all-more (λ (n : Message). AllOf Is (references_of_message n)) p.dialler.queue m h.0 a, h.1)
queued Is m Accepter p a h = (h.0, all-more (λ (n : Message). AllOf Is (references_of_message n)) p.accepter.queue m h.1 a)

-- a side that keeps its queue
same-queue : (Is : Ref → Type 0) (f : Side → Side) (end : End) (p : Pipe) → ((s : Side) → (f s).queue ≡ s.queue) → PipeIs Is p → PipeIs Is (Worlds.set_side f end p)
same-queue Is f Dialler p e h = (subst (AllOf (λ (n : Message). AllOf Is (references_of_message n))) (sym (e p.dialler)) h.0, h.1)
same-queue Is f Accepter p e h = (h.0, subst (AllOf (λ (n : Message). AllOf Is (references_of_message n))) (sym (e p.accepter)) h.1)

asks-sound : {all : List Space} {w : World} (i : ℕ) (j : Option ℕ) → SoundFor all w → SoundFor all (Worlds.asks_for i j w)
asks-sound i None h = h
asks-sound i (Some j) h = record { same = h.same; spaces = h.spaces; queues = h.queues }

put-sound : {all : List Space} {w : World} (i : ℕ) (o : Output) → OutputIs (IsMadeBy all) o → SoundFor all w → SoundFor all (put i w o)
put-sound i (Started task) a h = h
put-sound i (Ended task outcome) a h = h
put-sound i (Withdrawn ids) a h = h
put-sound i (Denied why) a h = h
put-sound {all} {w} i (Send conn m) a h = record { same = h.same; spaces = h.spaces; queues = all-index (PipeIs (IsMadeBy all)) _ conn w.pipes (λ p k. queued (IsMadeBy all) m (Worlds.other (Worlds.end_of i p)) p a k) h.queues }
put-sound {all} {w} i (Dial peer) a h = asks-sound i (Worlds.number_of w.spaces peer) h
put-sound {all} {w} i (Close conn) a h = record { same = h.same; spaces = h.spaces; queues = all-index (PipeIs (IsMadeBy all)) _ conn w.pipes (λ p k. same-queue (IsMadeBy all) Worlds.ends (Worlds.end_of i p) p (λ s. refl) k) h.queues }
put-sound i (Ready task) a h = h

puts-sound : {all : List Space} (i : ℕ) (outputs : List Output) (w : World) → AllOf (OutputIs (IsMadeBy all)) outputs → SoundFor all w → SoundFor all (each (put i) outputs w)
unfolding each
puts-sound i [] w a h = h
puts-sound i (o ∷ outputs) w a h = puts-sound i outputs (put i w o) a.1 (put-sound i o a.0 h)

-- ---- an event comes to a space

-- what an event brings names what was made
abbrev Comes : (Ref → Type 0) → Event → Type 0
Comes Is (Root method arguments fuel) = AllOf Is (references_of arguments)
Comes Is (Received conn m) = AllOf Is (references_of_message m)
Comes Is _ = Unit {0}

is-event : (e : Event) (i : ℕ) (v : World) (s : Space) (lent : List ℕ) → slice_get v.spaces i ≡ Some s → first_refusal (checks s.setting lent s.state e) ≡ None → Comes (IsMadeBy v.spaces) e
    → OwnLemmas.EventIs s.setting (IsMadeBy (at_index (grown e) i v.spaces)) s.state e
is-event (Root method arguments fuel) i v s lent is t b = all-weaken (IsMadeBy v.spaces) _ (references_of arguments) (grown-made (Root method arguments fuel) i v.spaces) b
is-event (Received conn m) i v s lent is t b = all-weaken (IsMadeBy v.spaces) _ (references_of_message m) (λ r made out. grown-made (Received conn m) i v.spaces r made) b
is-event (Committed task k (Create class)) i v s lent is t b = λ room.
    at-made (Committed task k (Create class)) i v.spaces s (record { space = s.setting.id; id = record { 0 = s.state.objects_made + 1 }; class = class }) is refl
    (subst (λ st. IsMade st (LivingTasks.next_object s.state) class) (sym (create-stores s.setting lent s.state task k class t room)) (inl (refl, refl)))
is-event (Committed task k (Get id slot)) i v s lent is t b = tt
is-event (Committed task k (Put id slot value)) i v s lent is t b = tt
is-event (Committed task k (Call target method arguments)) i v s lent is t b = tt
is-event (Moment moment) i v s lent is t b = tt
is-event Sweep i v s lent is t b = tt
is-event (RootAck task) i v s lent is t b = tt
is-event (Bind name value) i v s lent is t b = tt
is-event (Rebind name value) i v s lent is t b = tt
is-event (Unbind name) i v s lent is t b = tt
is-event (Lookup peer name) i v s lent is t b = tt
is-event (Opened conn dialled) i v s lent is t b = tt
is-event (Refused peer) i v s lent is t b = tt
is-event (Closed conn) i v s lent is t b = tt
is-event (ReadFailed conn) i v s lent is t b = tt
is-event (Bad conn) i v s lent is t b = tt
is-event (WriteFailed conn unsent) i v s lent is t b = tt
is-event (Parked task k) i v s lent is t b = tt
is-event (GivenBack task k) i v s lent is t b = tt
is-event (Finished task k) i v s lent is t b = tt

space-wider : (e : Event) (i : ℕ) (spaces : List Space) (s : Space) → SpaceIs spaces s → Only s.setting (IsMadeBy (at_index (grown e) i spaces)) (IsMadeBy (at_index (grown e) i spaces)) (Waits s.setting) s.state
space-wider e i spaces s h = only-wider (grown-made e i spaces) (grown-made e i spaces) (λ r made. made) h

-- the space at an index is one of which this holds
at-holds : {A : Type 0} (P : A → Type 0) (n : ℕ) (xs : List A) (x : A) → slice_get xs n ≡ Some x → AllOf P xs → P x
at-holds P n [] x is a = absurd (OwnLemmas.no-space (sym is))
at-holds P zero (y ∷ xs) x is a = subst P (OwnLemmas.some-same is) a.0
at-holds P (suc n) (y ∷ xs) x is a = at-holds P n xs x is a.1

-- all spaces after one of them took an event
all-grown : (P Q : Space → Type 0) (e : Event) (i : ℕ) (xs : List Space) → ((s : Space) → P s → Q s) → ((s : Space) → slice_get xs i ≡ Some s → Q (grown e s)) → AllOf P xs → AllOf Q (at_index (grown e) i xs)
all-grown P Q e i [] wide own a = tt
all-grown P Q e zero (s ∷ xs) wide own a = (own s refl, all-weaken P Q xs wide a.1)
all-grown P Q e (suc i) (s ∷ xs) wide own a = (wide s a.0, all-grown P Q e i xs wide own a.1)

take-sound : (i : ℕ) (e : Event) (s : Space) (lent : List ℕ) (v : World) → slice_get v.spaces i ≡ Some s → refusal s.setting lent s.state e ≡ None → Comes (IsMadeBy v.spaces) e → Sound v → Sound (take_event i e s v)
unfolding take_event
take-sound i e s lent v is t b h = sound all _ (puts-sound i _ (record v { spaces = all }) result.outputs begun)
  where
    all : List Space
    all = at_index (grown e) i v.spaces

    wide : Only s.setting (IsMadeBy (at_index (grown e) i v.spaces)) (IsMadeBy (at_index (grown e) i v.spaces)) (Waits s.setting) s.state
    wide = space-wider e i v.spaces s (at-holds (SpaceIs v.spaces) i v.spaces s is h.spaces)

    result : After s.setting (IsMadeBy (at_index (grown e) i v.spaces)) (IsMadeBy (at_index (grown e) i v.spaces)) (Space.on s.setting e s.state)
    result = on_only e (taken-brings lent e t (is-event e i v s lent is (unrefused s.setting lent s.state e t) b) wide) wide

    begun : SoundFor (at_index (grown e) i v.spaces) (record v { spaces = at_index (grown e) i v.spaces })
    begun = record {
      same = refl;
      spaces = all-grown (SpaceIs v.spaces) (SpaceIs (at_index (grown e) i v.spaces)) e i v.spaces (λ u k. space-wider e i v.spaces u k)
          (λ u found. subst (λ (x : Space). SpaceIs (at_index (grown e) i v.spaces) (grown e x)) (OwnLemmas.some-same (sym is ∙ found)) result.state) h.spaces;
      queues = all-weaken (PipeIs (IsMadeBy v.spaces)) (PipeIs (IsMadeBy (at_index (grown e) i v.spaces))) v.pipes (λ p k. (queue p.dialler k.0, queue p.accepter k.1)) h.queues;
    }
      where
        queue : (q : Side) → QueueIs (IsMadeBy v.spaces) q → QueueIs (IsMadeBy (at_index (grown e) i v.spaces)) q
        queue q k = all-weaken (λ (m : Message). AllOf (IsMadeBy v.spaces) (references_of_message m)) (λ (m : Message). AllOf (IsMadeBy (at_index (grown e) i v.spaces)) (references_of_message m)) q.queue
            (λ m a. all-weaken (IsMadeBy v.spaces) (IsMadeBy (at_index (grown e) i v.spaces)) (references_of_message m) (grown-made e i v.spaces) a) k

-- the events of a task that is lent bring nothing
abbrev Silent : Event → Type 0
Silent (Root method arguments fuel) = ⊥
Silent (Received conn m) = ⊥
Silent _ = Unit {0}

silent-comes : (Is : Ref → Type 0) (e : Event) → Silent e → Comes Is e
silent-comes Is (Root method arguments fuel) q = absurd q
silent-comes Is (Received conn m) q = absurd q
silent-comes Is (Moment moment) q = tt
silent-comes Is Sweep q = tt
silent-comes Is (RootAck task) q = tt
silent-comes Is (Bind name value) q = tt
silent-comes Is (Rebind name value) q = tt
silent-comes Is (Unbind name) q = tt
silent-comes Is (Lookup peer name) q = tt
silent-comes Is (Opened conn dialled) q = tt
silent-comes Is (Refused peer) q = tt
silent-comes Is (Closed conn) q = tt
silent-comes Is (ReadFailed conn) q = tt
silent-comes Is (Bad conn) q = tt
silent-comes Is (WriteFailed conn unsent) q = tt
silent-comes Is (Committed task k op) q = tt
silent-comes Is (Parked task k) q = tt
silent-comes Is (GivenBack task k) q = tt
silent-comes Is (Finished task k) q = tt

-- what the first of some events brings, and that the others bring nothing
abbrev AllCome : World → ℕ → List Event → Type 0
AllCome w i [] = Unit {0}
AllCome w i (e ∷ es) = ((s : Space) (lent : List ℕ) → slice_get w.spaces i ≡ Some s → refusal s.setting lent s.state e ≡ None → Comes (IsMadeBy w.spaces) e) × AllOf Silent es

some-sound : {A : Type 0} {t : World} (x : Option A) (f : A → World) → Sound t → ((a : A) → x ≡ Some a → Sound (f a)) → Sound (with_some x t f)
some-sound None f e h = e
some-sound (Some a) f e h = h a refl

-- why an event is refused, if it is
refused-sound : {w : World} (x : Option Refusal) (f : Refusal → World) → (x ≡ None → Sound w) → ((a : Refusal) → Sound (f a)) → Sound (with_some x w f)
refused-sound None f e h = e refl
refused-sound (Some a) f e h = h a

quiet-come : (w : World) (i : ℕ) (es : List Event) → AllOf Silent es → AllCome w i es
quiet-come w i [] q = tt
quiet-come w i (e ∷ es) q = ((λ s lent is t. silent-comes (IsMadeBy w.spaces) e q.0), q.1)

abbrev rest-of : List Event → List Event
rest-of [] = []
rest-of (e ∷ es) = es

acts-sound : (before : World) (i : ℕ) (es : List Event) (w : World) → AllCome w i es → Sound before → Sound w → Sound (acts before i es w)
unfolding acts
acts-sound before i [] w b old now = now
acts-sound before i (e ∷ es) w b old now = some-sound (slice_get w.spaces i) _ old (λ s is.
    refused-sound (refusal s.setting (Worlds.lent_for e) s.state e) _
    (λ none. acts-sound before i es (take_event i e s w) (quiet-come (take_event i e s w) i es b.1) old (take-sound i e s (Worlds.lent_for e) w is none (b.0 s (Worlds.lent_for e) is none) now))
    (λ why. record { same = refl; spaces = old.spaces; queues = old.queues }))

-- ---- all events of a world

-- pipes and questions are changed, and each queue keeps some of its frames
moved : {w v : World} → v.spaces ≡ w.spaces → AllOf (PipeIs (IsMadeBy w.spaces)) v.pipes → Sound w → Sound v
moved {w} {v} e q h = sound w.spaces v (record { same = e; spaces = h.spaces; queues = q })

lent-silent : (id : ℕ) (task : Task) → AllOf Silent (Worlds.step_events id task)
lent-silent id task = at (stand task)
  where
    after-one : (over : Bool) → AllOf Silent (Worlds.events_after id over)
    after-one true = (tt, tt)
    after-one false = (tt, tt)

    of-op : (op : Op) → AllOf Silent (Worlds.events_of_op id op)
    of-op (Create class) = (tt, (tt, tt))
    of-op (Get object slot) = (tt, (tt, tt))
    of-op (Put object slot value) = (tt, (tt, tt))
    of-op (Call target method arguments) = (tt, tt)

    at : (stands : Stand) → AllOf Silent (Worlds.events_at id task stands)
    at Runs = after-one (is_at_end (step task).behaviour)
    at (AsksFor op) = of-op op
    at (HasEnded outcome) = (tt, tt)

all-take : {A : Type 0} (P : A → Type 0) (n : ℕ) (xs : List A) → AllOf P xs → AllOf P (take n xs)
all-take P zero xs a = tt
all-take P (suc n) [] a = tt
all-take P (suc n) (x ∷ xs) a = (a.0, all-take P n xs a.1)

all-front : (Is : Ref → Type 0) (queue : List Message) → AllOf (λ (m : Message). AllOf Is (references_of_message m)) queue → AllOf (λ (m : Message). AllOf Is (references_of_message m)) (Worlds.without_front queue)
all-front Is [] a = tt
all-front Is (m ∷ ms) a = a.1

fewer : (Is : Ref → Type 0) (f : Side → Side) (end : End) (p : Pipe) → ((s : Side) → QueueIs Is s → QueueIs Is (f s)) → PipeIs Is p → PipeIs Is (Worlds.set_side f end p)
fewer Is f Dialler p e h = (e p.dialler h.0, h.1)
fewer Is f Accepter p e h = (h.0, e p.accepter h.1)

on-side : (w : World) (f : Side → Side) (conn : ℕ) (end : End) (pipes : List Pipe) → ((s : Side) → QueueIs (IsMadeBy w.spaces) s → QueueIs (IsMadeBy w.spaces) (f s)) → AllOf (PipeIs (IsMadeBy w.spaces)) pipes → AllOf (PipeIs (IsMadeBy w.spaces)) (at_index (Worlds.set_side f end) conn pipes)
on-side w f conn end pipes e h = all-index (PipeIs (IsMadeBy w.spaces)) (Worlds.set_side f end) conn pipes (λ p k. fewer (IsMadeBy w.spaces) f end p e k) h

side-is : (Is : Ref → Type 0) (end : End) (p : Pipe) → PipeIs Is p → QueueIs Is (Worlds.side end p)
side-is Is Dialler p h = h.0
side-is Is Accepter p h = h.1

-- an own reference that a space does not refuse in a root names what it made
own-made : (all : List Space) (s : Space) → SpaceIs all s → (r : Ref) → Names s.setting (standing s.state.store) r → bytes_eq r.space s.setting.id ≡ true → IsMadeBy all r
own-made all s h r names own =
    let x : NamesIn r (standing s.state.store) = names own in
    let made : IsMadeBy all (own_reference s.setting x.0) = one-of x.0 (standing s.state.store) x.1 h.parts.objects in
    let space : s.setting.id ≡ r.space = sym ((bytes_eq-Decides r.space s.setting.id).0 own) in
    let class : x.0.class.0 ≡ r.class.0 = eqb-true x.0.class.0 r.class.0 x.3 in
    subst (IsMadeBy all) (ap {A = Uuid} {B = Ref} (λ y. record { space = y; id = x.0.id; class = x.0.class }) space
    ∙ ap {A = ObjId} {B = Ref} (λ y. record { space = r.space; id = y; class = x.0.class }) x.2
    ∙ ap {A = ℕ} {B = Ref} (λ y. record { space = r.space; id = r.id; class = record { 0 = y } }) class) made
  where
    one-of : (o : Object) (os : List Object) → IsOne o os → AllOf (λ (p : Object). IsMadeBy all (own_reference s.setting p)) os → IsMadeBy all (own_reference s.setting o)
    one-of o [] one a = absurd one
    one-of o (p ∷ os) (inl e) a = subst (λ (q : Object). IsMadeBy all (own_reference s.setting q)) e a.0
    one-of o (p ∷ os) (inr one) a = one-of o os one a.1

root-made : (w : World) (i : ℕ) (s : Space) (lent : List ℕ) (method : ℕ) (arguments : List Value) (fuel : ℕ) → slice_get w.spaces i ≡ Some s → first_refusal (checks s.setting lent s.state (Root method arguments fuel)) ≡ None
    → Sound w → AllOf (IsMadeBy w.spaces) (references_of arguments)
root-made w i s lent method arguments fuel is t h =
    all-weaken (λ r. Refusals.is_root_argument s.setting s.state r ≡ true) (IsMadeBy w.spaces) (references_of arguments) (λ r right. each-made r right (bytes_eq r.space s.setting.id) refl) (root-arguments s.setting lent s.state method arguments fuel t)
  where
    each-made : (r : Ref) → Refusals.is_root_argument s.setting s.state r ≡ true → (b : Bool) → bytes_eq r.space s.setting.id ≡ b → IsMadeBy w.spaces r
    each-made r right true own = own-made w.spaces s (at-holds (SpaceIs w.spaces) i w.spaces s is h.spaces) r (root-names s.setting s.state r right) own
    each-made r right false foreign = held-is r (root-held s.setting s.state r right foreign) (at-holds (SpaceIs w.spaces) i w.spaces s is h.spaces)

own-comes : (w : World) (i : ℕ) (e : Event) → Worlds.is_own e ≡ true → Sound w → AllCome w i (e ∷ [])
own-comes w i e own h = ((λ s lent is t. by e own s lent is (unrefused s.setting lent s.state e t)), tt)
  where
    by : (e : Event) → Worlds.is_own e ≡ true → (s : Space) (lent : List ℕ) → slice_get w.spaces i ≡ Some s → first_refusal (checks s.setting lent s.state e) ≡ None → Comes (IsMadeBy w.spaces) e
    by (Root method arguments fuel) own s lent is t = root-made w i s lent method arguments fuel is t h
    by (Received conn m) own s lent is t = absurd (Rattle.std.proofs.lemmas.Bool.true≢false (sym own))
    by (Moment moment) own s lent is t = tt
    by Sweep own s lent is t = tt
    by (RootAck task) own s lent is t = tt
    by (Bind name value) own s lent is t = tt
    by (Rebind name value) own s lent is t = tt
    by (Unbind name) own s lent is t = tt
    by (Lookup peer name) own s lent is t = tt
    by (Opened conn dialled) own s lent is t = tt
    by (Refused peer) own s lent is t = tt
    by (Closed conn) own s lent is t = tt
    by (ReadFailed conn) own s lent is t = tt
    by (Bad conn) own s lent is t = tt
    by (WriteFailed conn unsent) own s lent is t = tt
    by (Committed task k op) own s lent is t = tt
    by (Parked task k) own s lent is t = tt
    by (GivenBack task k) own s lent is t = tt
    by (Finished task k) own s lent is t = tt

if-sound : {t u : World} (b : Bool) → (b ≡ true → Sound t) → Sound u → Sound (if b then t else u)
if-sound true h k = h refl
if-sound false h k = k

silent-one : (w : World) (i : ℕ) (e : Event) → Silent e → AllCome w i (e ∷ [])
silent-one w i e q = quiet-come w i (e ∷ []) (q, tt)

step-sound : (i task : ℕ) (w : World) → Sound w → Sound (Worlds.step_task i task w)
unfolding Worlds.step_task
step-sound i task w h = some-sound (slice_get w.spaces i) _ h (λ s is. some-sound (task_at s.state task) _ (record { same = refl; spaces = h.spaces; queues = h.queues })
    (λ t found. if-sound t.waits (λ e. record { same = refl; spaces = h.spaces; queues = h.queues }) (acts-sound w i (Worlds.step_events task t.task) w (quiet-come w i _ (lent-silent task t.task)) h h)))

happens-sound : (e : WorldEvent) (w : World) → Sound w → Sound (happens e w)
unfolding Worlds.open_pipe Worlds.refuse Worlds.accept Worlds.deliver Worlds.read_fails Worlds.write_fails
happens-sound (Own i e) w h = if-sound (Worlds.is_own e) (λ own. acts-sound w i (e ∷ []) w (own-comes w i e own h) h h) h
happens-sound (Step i task) w h = step-sound i task w h
happens-sound (Open a c) w h = if-sound (Worlds.is_asked a c w)
    (λ asked. acts-sound w a (Opened (length w.pipes) (Worlds.id_at c w) ∷ []) (record w { asked = Worlds.without_pair a c w.asked; pipes = w.pipes ++ Worlds.new_pipe a c ∷ [] })
    (silent-one (record w { asked = Worlds.without_pair a c w.asked; pipes = w.pipes ++ Worlds.new_pipe a c ∷ [] }) a (Opened (length w.pipes) (Worlds.id_at c w)) tt) h (moved refl (all-more (PipeIs (IsMadeBy w.spaces)) w.pipes (Worlds.new_pipe a c) h.queues (tt, tt)) h)) h
happens-sound (Refuse a c) w h = if-sound (Worlds.is_asked a c w) (λ asked. to (Worlds.id_at c w)) h
  where
    to : (peer : Option Uuid) → Sound (Worlds.refuse_to w a peer (record w { asked = Worlds.without_pair a c w.asked }))
    to None = h
    to (Some peer) = acts-sound w a (Refused peer ∷ []) (record w { asked = Worlds.without_pair a c w.asked }) (silent-one (record w { asked = Worlds.without_pair a c w.asked }) a (Refused peer) tt) h (moved refl h.queues h)
happens-sound (Accept conn) w h = some-sound (slice_get w.pipes conn) _ h (λ p is. at p.accepter.space p.accepter.phase)
  where
    at : (space : ℕ) (phase : Worlds.Phase) → Sound (Worlds.accept_at conn w space phase)
    at space Worlds.Unopened = acts-sound w space (Opened conn None ∷ []) (Worlds.on_side Worlds.begin_side conn Accepter w) (silent-one (Worlds.on_side Worlds.begin_side conn Accepter w) space (Opened conn None) tt) h (moved refl (on-side w Worlds.begin_side conn Accepter w.pipes (λ s k. k) h.queues) h)
    at space Worlds.Live = h
    at space Worlds.Over = h
happens-sound (Deliver conn end) w h = some-sound (slice_get w.pipes conn) _ h (λ p is.
    if-sound (Worlds.is_live (Worlds.side end p).phase) (λ live. first (Worlds.side end p).space _ (Worlds.side end p).queue (side-is (IsMadeBy w.spaces) end p (at-holds (PipeIs (IsMadeBy w.spaces)) conn w.pipes p is h.queues))) h)
  where
    first : (space : ℕ) (over : Bool) (queue : List Message) → AllOf (λ (m : Message). AllOf (IsMadeBy w.spaces) (references_of_message m)) queue → Sound (Worlds.deliver_first conn end w space over queue)
    first space over (m ∷ ms) a = acts-sound w space (Received conn m ∷ []) (Worlds.on_side Worlds.take_front conn end w) ((λ s lent is t. a.0), tt) h (moved refl (on-side w Worlds.take_front conn end w.pipes (λ s k. all-front (IsMadeBy w.spaces) s.queue k) h.queues) h)
    first space true [] a = acts-sound w space (Closed conn ∷ []) (Worlds.on_side Worlds.ends conn end w) (silent-one (Worlds.on_side Worlds.ends conn end w) space (Closed conn) tt) h (moved refl (on-side w Worlds.ends conn end w.pipes (λ s k. k) h.queues) h)
    first space false [] a = h
happens-sound (ReadFails conn end) w h = some-sound (slice_get w.pipes conn) _ h (λ p is.
    if-sound (Worlds.is_live (Worlds.side end p).phase) (λ live. acts-sound w (Worlds.side end p).space (ReadFailed conn ∷ []) (Worlds.on_side Worlds.ends conn end w) (silent-one (Worlds.on_side Worlds.ends conn end w) (Worlds.side end p).space (ReadFailed conn) tt) h (moved refl (on-side w Worlds.ends conn end w.pipes (λ s k. k) h.queues) h)) h)
happens-sound (WriteFails conn end unsent) w h = some-sound (slice_get w.pipes conn) _ h (λ p is.
    if-sound (Worlds.is_live (Worlds.side end p).phase) (λ live. acts-sound w (Worlds.side end p).space (WriteFailed conn (Worlds.lost unsent end p) ∷ []) (failed p) (silent-one (failed p) (Worlds.side end p).space (WriteFailed conn (Worlds.lost unsent end p)) tt) h
    (moved refl (on-side w Worlds.ends conn end _ (λ s k. k) (on-side w (Worlds.cut_end (Worlds.lost unsent end p)) conn (Worlds.other end) w.pipes (λ s k. all-take (λ (m : Message). AllOf (IsMadeBy w.spaces) (references_of_message m)) _ s.queue k) h.queues)) h)) h)
  where
    failed : Pipe → World
    failed p = Worlds.on_side Worlds.ends conn end (Worlds.on_side (Worlds.cut_end (Worlds.lost unsent end p)) conn (Worlds.other end) w)

run-sound : (events : List WorldEvent) (w : World) → Sound w → Sound (run w events)
unfolding run after
run-sound [] w h = h
run-sound (e ∷ es) w h = run-sound es (happens e (record w { refused = None })) (happens-sound e (record w { refused = None }) (record { same = refl; spaces = h.spaces; queues = h.queues }))

-- ---- a new world

begins : (all : List Space) (settings : List Setting) → AllOf (SpaceIs all) (map new_space settings)
unfolding opening
begins all [] = tt
begins all (g ∷ gs) = (
  record {
    parts = record {
      lets = λ r is. is;
      objects = tt;
      numbers = tt;
      unwritten = λ id slot high. refl;
      fields = tt;
      tasks = tt;
      results = tt;
      parked = tt;
      kept = tt;
      requests = tt;
      fresh = tt;
      notes = tt;
    };
  },
  begins all gs,
)

-- ---- as the law says it

target-only : (g : Setting) (Is : Ref → Type 0) (x : Frame) → FrameIs g Is x → TargetIs g Is x
target-only g Is (CallFrame target method fuel arguments) a = a.0
target-only g Is (ReturnedFrame value fuel) a = tt

has-only : (all : List Space) (s : Space) → SpaceIs all s → HasOnly (IsMadeBy all) s
has-only all s h = record {
  tasks = h.parts.tasks;
  fields = all-weaken (FieldsAre s.setting (IsMadeBy all) s.state.store) (λ (o : Object). AllOf (IsMadeBy all) (references_of (fields_of s.setting s.state o))) (standing s.state.store) (λ o a. fields-all (IsMadeBy all) s.setting s.state o a) h.parts.fields;
  results = h.parts.results;
  parked = all-weaken (λ (p : ParkedFrame). FrameIs s.setting (IsMadeBy all) p.frame) (λ (p : ParkedFrame). AllOf (IsMadeBy all) (references_of_frame p.frame)) s.state.parked (λ p a. frame-only s.setting (IsMadeBy all) p.frame a) h.parts.parked;
  targets = all-weaken (λ (p : ParkedFrame). FrameIs s.setting (IsMadeBy all) p.frame) (λ (p : ParkedFrame). TargetIs s.setting (IsMadeBy all) p.frame) s.state.parked (λ p a. target-only s.setting (IsMadeBy all) p.frame a) h.parts.parked;
  requests = h.parts.requests;
}

pub references_are_made : ReferencesAreMade
unfolding new_world
references_are_made settings events = ends (run (new_world settings) events) (run-sound events (new_world settings) (record { same = refl; spaces = begins (map new_space settings) settings; queues = tt }))
  where
    ends : (w : World) → Sound w → AllMade w
    ends w h = record { spaces = all-weaken (SpaceIs w.spaces) (HasOnly (IsMadeBy w.spaces)) w.spaces (has-only w.spaces) h.spaces; queues = h.queues }
