-- What each event of a space keeps holds of all spaces of all worlds.
use mathlib.Core.Path.{subst}
use Rattle.std.specs.Prelude.{◌≡◌, refl, ℕ, zero, suc, Bool, true, false, List, [], ◌∷◌, Option, None, Some, map, slice_get, length, if◌then◌else◌}
use Rattle.net_message.specs.declared.message.Message.{Message}
use Rattle.uuid.specs.declared.Uuid.{Uuid}
use Rattle.sp_rules.specs.Classes.{Setting}
use Rattle.sp_rules.specs.Events.{Event, Output, Started, Ended, Withdrawn, Denied, Send, Dial, Close, Ready, ReadFailed, WriteFailed, Opened, Refused, Received, Closed}
use Rattle.sp_rules.specs.Laws.{AllOf, HasRuns, HasHistory, TasksAreRuns, StatesAreHistories}
use Rattle.sp_rules.specs.Lists.{with_some, each, at_index}
use Rattle.sp_rules.specs.Refusals
use Rattle.sp_rules.specs.Space
use Rattle.sp_rules.specs.State.{opening, task_at}
use Rattle.sp_rules.specs.Worlds
use Rattle.sp_rules.specs.Worlds.{World, Space, End, Pipe, grown, put, acts, act, take_event, after, happens, run, new_space, new_world, WorldEvent, Own, Step, Open, Refuse, Accept, Deliver, ReadFails, WriteFails}
use Rattle.sp_rules.proofs.RecordLemmas.{on_recorded}

-- a property of a space; each event that the space does not refuse keeps it
pub record IsKept (P : Space → Type 0) : Type 0 where
  pub grows : (e : Event) (s : Space) (lent : List ℕ) → Refusals.refusal s.setting lent s.state e ≡ None → P s → P (grown e s)

pub record Holds (P : Space → Type 0) (w : World) : Type 0 where
  pub spaces : AllOf P w.spaces

if_holds : {P : Space → Type 0} (K : IsKept P) {t u : World} (b : Bool) → Holds P t → Holds P u → Holds P (if b then t else u)
if_holds K true e f = e
if_holds K false e f = f

some_holds : {P : Space → Type 0} (K : IsKept P) {A : Type 0} {t : World} (x : Option A) (f : A → World) → Holds P t → ((a : A) → Holds P (f a)) → Holds P (with_some x t f)
some_holds K None f e h = e
some_holds K (Some a) f e h = h a

some_taken : {P : Space → Type 0} (K : IsKept P) {A : Type 0} {t : World} (x : Option A) (f : A → World) → (x ≡ None → Holds P t) → ((a : A) → x ≡ Some a → Holds P (f a)) → Holds P (with_some x t f)
some_taken K None f e h = e refl
some_taken K (Some a) f e h = h a refl

each_holds : {P : Space → Type 0} (K : IsKept P) {A : Type 0} {v : World} (f : World → A → World) (xs : List A)
    → ((t : World) (x : A) → Holds P t → Holds P (f t x)) → Holds P v → Holds P (each f xs v)
unfolding each
each_holds K f [] h e = e
each_holds K {v = v} f (x ∷ xs) h e = each_holds K f xs h (h v x e)

-- of the space that the event comes to it is known that it does not refuse it
Takes : Event → List ℕ → Option Space → Type 0
Takes e lent None = Unit {0}
Takes e lent (Some s) = Refusals.refusal s.setting lent s.state e ≡ None

grown_all : {P : Space → Type 0} (K : IsKept P) (e : Event) (lent : List ℕ) (i : ℕ) (spaces : List Space) → Takes e lent (slice_get spaces i) → AllOf P spaces → AllOf P (at_index (grown e) i spaces)
unfolding Takes
grown_all K e lent i [] t a = tt
grown_all K e lent zero (s ∷ ss) t a = (K.grows e s lent t a.0, a.1)
grown_all K e lent (suc i) (s ∷ ss) t a = (a.0, grown_all K e lent i ss t a.1)

asks_holds : {P : Space → Type 0} (K : IsKept P) {v : World} (i : ℕ) (j : Option ℕ) → Holds P v → Holds P (Worlds.asks_for i j v)
asks_holds K i None e = e
asks_holds K i (Some j) e = record { spaces = e.spaces }

put_holds : {P : Space → Type 0} (K : IsKept P) {v : World} (i : ℕ) (o : Output) → Holds P v → Holds P (put i v o)
put_holds K i (Started task) e = e
put_holds K i (Ended task outcome) e = e
put_holds K i (Withdrawn ids) e = e
put_holds K i (Denied why) e = e
put_holds K i (Send conn m) e = record { spaces = e.spaces }
put_holds K {v = v} i (Dial peer) e = asks_holds K i (Worlds.number_of v.spaces peer) e
put_holds K i (Close conn) e = record { spaces = e.spaces }
put_holds K i (Ready task) e = e

take_holds : {P : Space → Type 0} (K : IsKept P) {v : World} (i : ℕ) (e : Event) (s : Space) (lent : List ℕ) → slice_get v.spaces i ≡ Some s → Refusals.refusal s.setting lent s.state e ≡ None → Holds P v → Holds P (take_event i e s v)
unfolding take_event Takes
take_holds K {v = v} i e s lent is t h = each_holds K (put i) _ (λ u o k. put_holds K i o k) (record { spaces = grown_all K e lent i v.spaces (subst (Takes e lent) (mathlib.Core.Path.sym is) t) h.spaces })

acts_hold : {P : Space → Type 0} (K : IsKept P) {before : World} (i : ℕ) (es : List Event) {v : World} → Holds P before → Holds P v → Holds P (acts before i es v)
unfolding acts
acts_hold K i [] old now = now
acts_hold K i (e ∷ es) {v = v} old now = some_taken K (slice_get v.spaces i) _ (λ none. old) (λ s is.
    some_taken K (Refusals.refusal s.setting (Worlds.lent_for e) s.state e) _ (λ none. acts_hold K i es old (take_holds K i e s (Worlds.lent_for e) is none now)) (λ why refused. record { spaces = old.spaces }))

step_holds : {P : Space → Type 0} (K : IsKept P) (i task : ℕ) (w : World) → Holds P w → Holds P (Worlds.step_task i task w)
unfolding Worlds.step_task
step_holds K i task w h = some_holds K (slice_get w.spaces i) _ h (λ s. some_holds K (task_at s.state task) _ (record { spaces = h.spaces })
    (λ t. if_holds K t.waits (record { spaces = h.spaces }) (acts_hold K i (Worlds.step_events task t.task) h h)))

happens_holds : {P : Space → Type 0} (K : IsKept P) (e : WorldEvent) (w : World) → Holds P w → Holds P (happens e w)
unfolding Worlds.open_pipe Worlds.refuse Worlds.accept Worlds.deliver Worlds.read_fails Worlds.write_fails
happens_holds K (Own i e) w h = if_holds K (Worlds.is_own e) (acts_hold K i (e ∷ []) h h) h
happens_holds K (Step i task) w h = step_holds K i task w h
happens_holds K (Open a b) w h = if_holds K (Worlds.is_asked a b w) (acts_hold K a (Opened (length w.pipes) (Worlds.id_at b w) ∷ []) h (record { spaces = h.spaces })) h
happens_holds {P} K (Refuse a b) w h = if_holds K (Worlds.is_asked a b w) (to (Worlds.id_at b w)) h
  where
    to : (peer : Option Uuid) → Holds P (Worlds.refuse_to w a peer (record w { asked = Worlds.without_pair a b w.asked }))
    to None = h
    to (Some peer) = acts_hold K a (Refused peer ∷ []) h (record { spaces = h.spaces })
happens_holds {P} K (Accept conn) w h = some_holds K (slice_get w.pipes conn) _ h (λ p. at p.accepter.space p.accepter.phase)
  where
    at : (space : ℕ) (phase : Worlds.Phase) → Holds P (Worlds.accept_at conn w space phase)
    at space Worlds.Unopened = acts_hold K space (Opened conn None ∷ []) h (record { spaces = h.spaces })
    at space Worlds.Live = h
    at space Worlds.Over = h
happens_holds {P} K (Deliver conn to) w h = some_holds K (slice_get w.pipes conn) _ h (λ p. if_holds K (Worlds.is_live (Worlds.side to p).phase) (first (Worlds.side to p).space _ (Worlds.side to p).queue) h)
  where
    first : (space : ℕ) (over : Bool) (queue : List Message) → Holds P (Worlds.deliver_first conn to w space over queue)
    first space over (m ∷ ms) = acts_hold K space (Received conn m ∷ []) h (record { spaces = h.spaces })
    first space true [] = acts_hold K space (Closed conn ∷ []) h (record { spaces = h.spaces })
    first space false [] = h
happens_holds K (ReadFails conn at) w h = some_holds K (slice_get w.pipes conn) _ h (λ p.
    if_holds K (Worlds.is_live (Worlds.side at p).phase) (acts_hold K (Worlds.side at p).space (ReadFailed conn ∷ []) h (record { spaces = h.spaces })) h)
happens_holds K (WriteFails conn at unsent) w h = some_holds K (slice_get w.pipes conn) _ h (λ p.
    if_holds K (Worlds.is_live (Worlds.side at p).phase) (acts_hold K (Worlds.side at p).space (WriteFailed conn (Worlds.lost unsent at p) ∷ []) h (record { spaces = h.spaces })) h)

run_holds : {P : Space → Type 0} (K : IsKept P) (events : List WorldEvent) (w : World) → Holds P w → Holds P (run w events)
unfolding run after
run_holds K [] w h = h
run_holds K (e ∷ es) w h = run_holds K es _ (happens_holds K e _ (record { spaces = h.spaces }))

begins : {P : Space → Type 0} (K : IsKept P) → ((g : Setting) → P (new_space g)) → (settings : List Setting) → AllOf P (map new_space settings)
begins K new [] = tt
begins K new (g ∷ gs) = (new g, begins K new gs)

-- what holds of a new space, and each event keeps, holds of all spaces in every run of every world
pub all_hold : {P : Space → Type 0} (K : IsKept P) → ((g : Setting) → P (new_space g)) → (settings : List Setting) (events : List WorldEvent)
    → AllOf P (run (new_world settings) events).spaces
unfolding new_world
all_hold K new settings events = (run_holds K events (new_world settings) (record { spaces = begins K new settings })).spaces

-- ---- tasks are runs, states are histories

pub tasks_are_runs : TasksAreRuns
unfolding opening
tasks_are_runs settings events = all_hold {P = HasRuns} (record { grows = λ e s lent t h. on_recorded s.setting e s.state h }) (λ g. tt) settings events

pub states_are_histories : StatesAreHistories
unfolding Space.state_of
states_are_histories settings events =
    all_hold {P = HasHistory} (record { grows = λ e s lent t h. mathlib.Core.Path.ap (λ t. (Space.on s.setting e t).0) h }) (λ g. refl) settings events
