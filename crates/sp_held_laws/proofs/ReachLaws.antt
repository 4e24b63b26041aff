-- An event of a world reaches one space at most.
use mathlib.Core.Path.{sym, ap, subst, ◌∙◌}
use Rattle.std.proofs.Common.{inl, inr}
use Rattle.std.proofs.lemmas.Bool.{true≢false}
use Rattle.std.specs.Prelude.{◌≡◌, ◌⊎◌, refl, ℕ, zero, suc, Bool, true, false, List, [], ◌∷◌, Option, None, Some, length, slice_get, if◌then◌else◌}
use Rattle.net_message.specs.declared.message.Message.{Message}
use Rattle.uuid.specs.declared.Uuid.{Uuid}
use Rattle.sp_rules.specs.Behaviours.{Op, Create, Get, Put, Call}
use Rattle.sp_rules.specs.Events.{Event, Moment, Sweep, Root, RootAck, Bind, Rebind, Unbind, Lookup, Opened, Refused, Received, Closed, ReadFailed, Bad, WriteFailed, Committed, Parked, GivenBack, Finished, Output, Started, Ended, Withdrawn, Denied, Send, Dial, Close, Ready}
use Rattle.sp_rules.specs.Laws.{AllOf}
use Rattle.sp_rules.specs.Lists.{each, with_some, at_index}
use Rattle.sp_rules.specs.Refusals.{Refusal, refusal}
use Rattle.sp_rules.specs.Space as rules
use Rattle.sp_rules.specs.State.{task_at}
use Rattle.sp_rules.specs.Tasks.{Task, Stand, Runs, AsksFor, HasEnded, is_at_end, stand, step}
use Rattle.sp_rules.specs.Worlds
use Rattle.sp_rules.specs.Worlds.{World, Space, Pipe, End, Phase, Unopened, Live, Over, WorldEvent, Own, Step, Open, Refuse, Accept, Deliver, ReadFails, WriteFails, side, grown, lent_for, is_own, put, acts, act, take_event, after}
use Rattle.sp_held_laws.specs.Reaches.{grown_by, AreTakenBy, ComesBy, AreAlone, ReachesOne, EventsReachOneSpace}

-- ---- rows

at-twice : {A : Type 0} (f g : A → A) (n : ℕ) (xs : List A) → at_index f n (at_index g n xs) ≡ at_index (λ x. f (g x)) n xs
at-twice f g n [] = refl
at-twice f g zero (x ∷ xs) = refl
at-twice {A} f g (suc n) (x ∷ xs) = ap (λ (l : List A). x ∷ l) (at-twice f g n xs)

at-none : {A : Type 0} (n : ℕ) (xs : List A) → at_index (λ x. x) n xs ≡ xs
at-none n [] = refl
at-none zero (x ∷ xs) = refl
at-none {A} (suc n) (x ∷ xs) = ap (λ (l : List A). x ∷ l) (at-none n xs)

pub at-row : {A : Type 0} (f : A → A) (n : ℕ) (xs : List A) (x : A) → slice_get xs n ≡ Some x → slice_get (at_index f n xs) n ≡ Some (f x)
at-row f n [] x e = absurd (Rattle.sp_rules.proofs.AllLemmas.some-none x (sym e))
at-row {A} f zero (y ∷ xs) x e = ap {A = A} {B = Option A} (λ z. Some (f z)) (Rattle.sp_rules.proofs.OwnLemmas.some-same e)
at-row f (suc n) (y ∷ xs) x e = at-row f n xs x e

-- ---- what is answered changes no space

put-spaces : (i : ℕ) (w : World) (o : Output) → (put i w o).spaces ≡ w.spaces
put-spaces i w (Started task) = refl
put-spaces i w (Ended task outcome) = refl
put-spaces i w (Withdrawn ids) = refl
put-spaces i w (Denied why) = refl
put-spaces i w (Send conn m) = refl
put-spaces i w (Dial peer) = by (Worlds.number_of w.spaces peer)
  where
    by : (o : Option ℕ) → (Worlds.asks_for i o w).spaces ≡ w.spaces
    by None = refl
    by (Some j) = refl
put-spaces i w (Close conn) = refl
put-spaces i w (Ready task) = refl

puts-spaces : (i : ℕ) (os : List Output) (w : World) → (each (put i) os w).spaces ≡ w.spaces
unfolding each
puts-spaces i [] w = refl
puts-spaces i (o ∷ os) w = puts-spaces i os (put i w o) ∙ put-spaces i w o

take-spaces : (i : ℕ) (e : Event) (s : Space) (w : World) → (take_event i e s w).spaces ≡ at_index (grown e) i w.spaces
unfolding take_event
take-spaces i e s w = puts-spaces i (rules.on s.setting e s.state).1 (record w { spaces = at_index (grown e) i w.spaces })

-- ---- events reach a space

-- what events of one space do to these spaces
abbrev Took : ℕ → List Event → List Space → List Space → Type 0
Took i es xs ys = (ys ≡ at_index (grown_by es) i xs) × ((row : Space) × ((slice_get xs i ≡ Some row) × AreTakenBy es row))

acts-took : (before : World) (i : ℕ) (es : List Event) (r : World) (row : Space) → slice_get r.spaces i ≡ Some row → ((acts before i es r).spaces ≡ before.spaces) ⊎ Took i es r.spaces (acts before i es r).spaces
unfolding acts
acts-took before i [] r row at = inr (sym (at-none i r.spaces), (row, (at, tt)))
acts-took before i (e ∷ es) r row at = on (slice_get r.spaces i) at (λ s. acts-took before i es (take_event i e s r) (grown e row) (subst (λ xs. slice_get xs i ≡ Some (grown e row)) (sym (take-spaces i e s r)) (at-row (grown e) i r.spaces row at)))
  where
    whole : Option Space → World
    whole o = with_some o before (λ s. with_some (refusal s.setting (lent_for e) s.state e) (acts before i es (take_event i e s r)) (λ why. record before { refused = Some why }))

    joined : (s : Space) → refusal row.setting (lent_for e) row.state e ≡ None → Took i es (take_event i e s r).spaces (acts before i es (take_event i e s r)).spaces → Took i (e ∷ es) r.spaces (acts before i es (take_event i e s r)).spaces
    joined s t k = (
      k.0 ∙ (ap (at_index (grown_by es) i) (take-spaces i e s r) ∙ at-twice (grown_by es) (grown e) i r.spaces),
      (row, (at, (t, subst (AreTakenBy es) (Rattle.sp_rules.proofs.OwnLemmas.some-same (sym k.1.1.0 ∙ subst (λ xs. slice_get xs i ≡ Some (grown e row)) (sym (take-spaces i e s r)) (at-row (grown e) i r.spaces row at))) k.1.1.1))),
    )

    asked : (s : Space) → s ≡ row → (x : Option Refusal) → refusal s.setting (lent_for e) s.state e ≡ x → (((acts before i es (take_event i e s r)).spaces ≡ before.spaces) ⊎ Took i es (take_event i e s r).spaces (acts before i es (take_event i e s r)).spaces)
        → ((with_some x (acts before i es (take_event i e s r)) (λ why. record before { refused = Some why })).spaces ≡ before.spaces) ⊎ Took i (e ∷ es) r.spaces (with_some x (acts before i es (take_event i e s r)) (λ why. record before { refused = Some why })).spaces
    asked s same (Some why) t rest = inl refl
    asked s same None t (inl k) = inl k
    asked s same None t (inr k) = inr (joined s (subst (λ (y : Space). refusal y.setting (lent_for e) y.state e ≡ None) same t) k)

    on : (o : Option Space) → o ≡ Some row → ((s : Space) → ((acts before i es (take_event i e s r)).spaces ≡ before.spaces) ⊎ Took i es (take_event i e s r).spaces (acts before i es (take_event i e s r)).spaces)
        → ((whole o).spaces ≡ before.spaces) ⊎ Took i (e ∷ es) r.spaces (whole o).spaces
    on None f rest = absurd (Rattle.sp_rules.proofs.AllLemmas.some-none row (sym f))
    on (Some s) f rest = asked s (Rattle.sp_rules.proofs.OwnLemmas.some-same f) (refusal s.setting (lent_for e) s.state e) refl (rest s)

-- no space of this number: nothing happens
acts-none : (before : World) (i : ℕ) (e : Event) (es : List Event) (r : World) → slice_get r.spaces i ≡ None → (acts before i (e ∷ es) r).spaces ≡ before.spaces
unfolding acts
acts-none before i e es r none = ap (λ o. (with_some o before (λ s. with_some (refusal s.setting (lent_for e) s.state e) (acts before i es (take_event i e s r)) (λ why. record before { refused = Some why }))).spaces) none

-- A space takes events, and no other changes, from the one world to the other.
record Reaches (w : World) (e : WorldEvent) (v : World) : Type 0 where
  space : ℕ
  row : Space
  events : List Event
  there : slice_get w.spaces space ≡ Some row
  spaces : v.spaces ≡ at_index (grown_by events) space w.spaces
  taken : AreTakenBy events row
  comes : AllOf (ComesBy w e space) events
  alone : AreAlone events

-- so of events in a world with the same spaces
abbrev Reached : World → WorldEvent → World → Type 0
Reached w e v = (v.spaces ≡ w.spaces) ⊎ Reaches w e v

reached : (w : World) (e : WorldEvent) (before : World) (i : ℕ) (d : Event) (ds : List Event) (r : World) → before.spaces ≡ w.spaces → r.spaces ≡ w.spaces → AllOf (ComesBy w e i) (d ∷ ds) → AreAlone (d ∷ ds) → Reached w e (acts before i (d ∷ ds) r)
reached w e before i d ds r same there comes alone = by (slice_get r.spaces i) refl
  where
    by : (o : Option Space) → slice_get r.spaces i ≡ o → Reached w e (acts before i (d ∷ ds) r)
    by None at = inl (acts-none before i d ds r at ∙ same)
    by (Some row) at = took (acts-took before i (d ∷ ds) r row at)
      where
        took : ((acts before i (d ∷ ds) r).spaces ≡ before.spaces) ⊎ Took i (d ∷ ds) r.spaces (acts before i (d ∷ ds) r).spaces → Reached w e (acts before i (d ∷ ds) r)
        took (inl k) = inl (k ∙ same)
        took (inr k) = inr (record { space = i; row = k.1.0; events = d ∷ ds; there = subst (λ xs. slice_get xs i ≡ Some k.1.0) there k.1.1.0; spaces = k.0 ∙ ap (at_index (grown_by (d ∷ ds)) i) there; taken = k.1.1.1; comes = comes; alone = alone })

-- ---- the events of a world

some-reached : {A : Type 0} (w : World) (e : WorldEvent) (t : World) (x : Option A) (f : A → World) → Reached w e t → ((a : A) → x ≡ Some a → Reached w e (f a)) → Reached w e (with_some x t f)
some-reached w e t None f h k = h
some-reached w e t (Some a) f h k = k a refl

if-reached : (w : World) (e : WorldEvent) (b : Bool) (t u : World) → (b ≡ true → Reached w e t) → (b ≡ false → Reached w e u) → Reached w e (if b then t else u)
if-reached w e true t u h k = h refl
if-reached w e false t u h k = k refl

abbrev Cleared : World → World
Cleared w = record w { refused = None }

own-comes : (w : World) (i : ℕ) (d : Event) → is_own d ≡ true → ComesBy w (Own i d) i d
own-comes w i (Received conn m) e = absurd (true≢false (sym e))
own-comes w i (Moment moment) e = λ own. refl
own-comes w i Sweep e = λ own. refl
own-comes w i (Root method arguments fuel) e = λ own. refl
own-comes w i (RootAck task) e = λ own. refl
own-comes w i (Bind name value) e = λ own. refl
own-comes w i (Rebind name value) e = λ own. refl
own-comes w i (Unbind name) e = λ own. refl
own-comes w i (Lookup peer name) e = λ own. refl
own-comes w i (Opened conn dialled) e = λ own. refl
own-comes w i (Refused peer) e = λ own. refl
own-comes w i (Closed conn) e = λ own. refl
own-comes w i (ReadFailed conn) e = λ own. refl
own-comes w i (Bad conn) e = λ own. refl
own-comes w i (WriteFailed conn unsent) e = λ own. refl
own-comes w i (Committed task k op) e = λ own. refl
own-comes w i (Parked task k) e = λ own. refl
own-comes w i (GivenBack task k) e = λ own. refl
own-comes w i (Finished task k) e = λ own. refl

by-itself : (d : Event) → AreAlone (d ∷ [])
by-itself d = inl (d, refl)

none-own : {A : Type 0} → false ≡ true → A
none-own e = absurd (true≢false (sym e))

step-reached : (w : World) (i id : ℕ) → Reached w (Step i id) (Worlds.step_task i id (Cleared w))
unfolding Worlds.step_task
step-reached w i id = some-reached w (Step i id) (Cleared w) (slice_get w.spaces i) _ (inl refl) (λ s at. some-reached w (Step i id) _ (task_at s.state id) _ (inl refl) (λ t is.
    if-reached w (Step i id) t.waits _ _ (λ x. inl refl) (λ x. does t.task (stand t.task))))
  where
    one : (d : Event) → ComesBy w (Step i id) i d → Reached w (Step i id) (acts (Cleared w) i (d ∷ []) (Cleared w))
    one d c = reached w (Step i id) (Cleared w) i d [] (Cleared w) refl refl (c, tt) (by-itself d)

    stored : (op : Op) → Reached w (Step i id) (acts (Cleared w) i (Committed id 0 op ∷ GivenBack id 0 ∷ []) (Cleared w))
    stored op = reached w (Step i id) (Cleared w) i (Committed id 0 op) (GivenBack id 0 ∷ []) (Cleared w) refl refl (none-own, (none-own, tt)) (inr (refl, (refl, tt)))

    ends : (over : Bool) → Reached w (Step i id) (acts (Cleared w) i (Worlds.events_after id over) (Cleared w))
    ends true = one (Finished id 1) none-own
    ends false = one (GivenBack id 1) none-own

    does : (task : Task) (stands : Stand) → Reached w (Step i id) (acts (Cleared w) i (Worlds.events_at id task stands) (Cleared w))
    does task Runs = ends (is_at_end (step task).behaviour)
    does task (AsksFor (Create class)) = stored (Create class)
    does task (AsksFor (Get object slot)) = stored (Get object slot)
    does task (AsksFor (Put object slot value)) = stored (Put object slot value)
    does task (AsksFor (Call target method arguments)) = one (Parked id 0) none-own
    does task (HasEnded outcome) = one (Finished id 0) none-own

deliver-reached : (w : World) (conn : ℕ) (to : End) → Reached w (Deliver conn to) (Worlds.deliver conn to (Cleared w))
unfolding Worlds.deliver
deliver-reached w conn to = some-reached w (Deliver conn to) (Cleared w) (slice_get w.pipes conn) _ (inl refl) (λ p at. if-reached w (Deliver conn to) (Worlds.is_live (side to p).phase) _ _
    (λ x. first p at (Worlds.is_ended (side (Worlds.other to) p).phase) (side to p).queue refl) (λ x. inl refl))
  where
    first : (p : Pipe) → slice_get w.pipes conn ≡ Some p → (over : Bool) (ms : List Message) → (side to p).queue ≡ ms → Reached w (Deliver conn to) (Worlds.deliver_first conn to (Cleared w) (side to p).space over ms)
    first p at over (m ∷ ms) e = reached w (Deliver conn to) (Cleared w) (side to p).space (Received conn m) [] _ refl refl (record { pipe = p; end = to; rest = ms; there = at; space = refl; queue = e }, tt) (by-itself (Received conn m))
    first p at true [] e = reached w (Deliver conn to) (Cleared w) (side to p).space (Closed conn) [] _ refl refl (none-own, tt) (by-itself (Closed conn))
    first p at false [] e = inl refl

accept-reached : (w : World) (conn : ℕ) → Reached w (Accept conn) (Worlds.accept conn (Cleared w))
unfolding Worlds.accept
accept-reached w conn = some-reached w (Accept conn) (Cleared w) (slice_get w.pipes conn) _ (inl refl) (λ p at. by p p.accepter.phase)
  where
    by : (p : Pipe) (phase : Phase) → Reached w (Accept conn) (Worlds.accept_at conn (Cleared w) p.accepter.space phase)
    by p Unopened = reached w (Accept conn) (Cleared w) p.accepter.space (Opened conn None) [] _ refl refl (none-own, tt) (by-itself (Opened conn None))
    by p Live = inl refl
    by p Over = inl refl

fails-reached : (w : World) (conn : ℕ) (end : End) → Reached w (ReadFails conn end) (Worlds.read_fails conn end (Cleared w))
unfolding Worlds.read_fails
fails-reached w conn end = some-reached w (ReadFails conn end) (Cleared w) (slice_get w.pipes conn) _ (inl refl) (λ p at. if-reached w (ReadFails conn end) (Worlds.is_live (side end p).phase) _ _
    (λ x. reached w (ReadFails conn end) (Cleared w) (side end p).space (ReadFailed conn) [] _ refl refl (none-own, tt) (by-itself (ReadFailed conn))) (λ x. inl refl))

writes-reached : (w : World) (conn : ℕ) (end : End) (unsent : ℕ) → Reached w (WriteFails conn end unsent) (Worlds.write_fails conn end unsent (Cleared w))
unfolding Worlds.write_fails
writes-reached w conn end unsent = some-reached w (WriteFails conn end unsent) (Cleared w) (slice_get w.pipes conn) _ (inl refl) (λ p at. if-reached w (WriteFails conn end unsent) (Worlds.is_live (side end p).phase) _ _
    (λ x. reached w (WriteFails conn end unsent) (Cleared w) (side end p).space (WriteFailed conn (Worlds.lost unsent end p)) [] _ refl refl (none-own, tt) (by-itself (WriteFailed conn (Worlds.lost unsent end p)))) (λ x. inl refl))

open-reached : (w : World) (a b : ℕ) → Reached w (Open a b) (Worlds.open_pipe a b (Cleared w))
unfolding Worlds.open_pipe
open-reached w a b = if-reached w (Open a b) (Worlds.is_asked a b (Cleared w)) _ _ (λ x. reached w (Open a b) (Cleared w) a (Opened (length w.pipes) (Worlds.id_at b (Cleared w))) [] _ refl refl (none-own, tt) (by-itself (Opened (length w.pipes) (Worlds.id_at b (Cleared w))))) (λ x. inl refl)

refuse-reached : (w : World) (a b : ℕ) → Reached w (Refuse a b) (Worlds.refuse a b (Cleared w))
unfolding Worlds.refuse
refuse-reached w a b = if-reached w (Refuse a b) (Worlds.is_asked a b (Cleared w)) _ _ (λ x. by (Worlds.id_at b (Cleared w))) (λ x. inl refl)
  where
    by : (o : Option Uuid) → Reached w (Refuse a b) (Worlds.refuse_to (Cleared w) a o (record (Cleared w) { asked = Worlds.without_pair a b w.asked }))
    by None = inl refl
    by (Some peer) = reached w (Refuse a b) (Cleared w) a (Refused peer) [] _ refl refl (none-own, tt) (by-itself (Refused peer))

all-reached : (w : World) (e : WorldEvent) → Reached w e (Worlds.happens e (Cleared w))
all-reached w (Own i d) = if-reached w (Own i d) (is_own d) _ _ (λ own. reached w (Own i d) (Cleared w) i d [] (Cleared w) refl refl (own-comes w i d own, tt) (by-itself d)) (λ x. inl refl)
all-reached w (Step i task) = step-reached w i task
all-reached w (Open a b) = open-reached w a b
all-reached w (Refuse a b) = refuse-reached w a b
all-reached w (Accept conn) = accept-reached w conn
all-reached w (Deliver conn to) = deliver-reached w conn to
all-reached w (ReadFails conn at) = fails-reached w conn at
all-reached w (WriteFails conn at unsent) = writes-reached w conn at unsent

pub events_reach_one_space : EventsReachOneSpace
unfolding after
events_reach_one_space w e = by (all-reached w e)
  where
    by : Reached w e (Worlds.happens e (Cleared w)) → ((Worlds.happens e (Cleared w)).spaces ≡ w.spaces) ⊎ ReachesOne w e
    by (inl k) = inl k
    by (inr k) = inr (record { space = k.space; row = k.row; events = k.events; there = k.there; spaces = k.spaces; taken = k.taken; comes = k.comes; alone = k.alone })
