-- A refused event of a world changes nothing but the note of what was refused.
use mathlib.Core.Path.{sym, ap, subst, ◌∙◌}
use Rattle.std.specs.Prelude.{◌≡◌, refl, ℕ, ◌⊎◌, Bool, true, false, List, [], ◌∷◌, Option, None, Some, slice_get, length, if◌then◌else◌}
use Rattle.std.proofs.Common.{inl, inr}
use Rattle.net_message.specs.declared.message.Message.{Message}
use Rattle.uuid.specs.declared.Uuid.{Uuid}
use Rattle.sp_rules.specs.Events.{Event, Output, Started, Ended, Withdrawn, Denied, Send, Dial, Close, Ready, ReadFailed, WriteFailed, Opened, Refused, Received, Closed}
use Rattle.sp_rules.specs.Laws.{RefusedChangesNothing}
use Rattle.sp_rules.specs.Lists.{with_some, each}
use Rattle.sp_rules.specs.Refusals
use Rattle.sp_rules.specs.Refusals.{Refusal, NotLent}
use Rattle.sp_rules.specs.State.{task_at}
use Rattle.sp_rules.specs.Worlds
use Rattle.sp_rules.specs.Worlds.{World, Space, End, grown, put, acts, take_event, after, happens, WorldEvent, Own, Step, Open, Refuse, Accept, Deliver, ReadFails, WriteFails}

-- nothing was refused, or nothing else changed
pub record Fits (w v : World) : Type 0 where
  pub fits : (v.refused ≡ None) ⊎ ((why : Refusal) × (v ≡ record w { refused = Some why }))

if_fits : {w t u : World} (b : Bool) → Fits w t → Fits w u → Fits w (if b then t else u)
if_fits true e f = e
if_fits false e f = f

some_fits : {A : Type 0} {w t : World} (x : Option A) (f : A → World) → Fits w t → ((a : A) → Fits w (f a)) → Fits w (with_some x t f)
some_fits None f e h = e
some_fits (Some a) f e h = h a

accepted : {w v : World} → v.refused ≡ None → Fits w v
accepted e = record { fits = inl e }

denied : (w : World) (why : Refusal) → Fits w (record w { refused = Some why })
denied w why = record { fits = inr (why, refl) }

each-none : {A : Type 0} (f : World → A → World) (xs : List A) (v : World) → ((t : World) (x : A) → t.refused ≡ None → (f t x).refused ≡ None)
    → v.refused ≡ None → (each f xs v).refused ≡ None
unfolding each
each-none f [] v h e = e
each-none f (x ∷ xs) v h e = each-none f xs (f v x) h (h v x e)

asks-none : (i : ℕ) (j : Option ℕ) (v : World) → v.refused ≡ None → (Worlds.asks_for i j v).refused ≡ None
asks-none i None v e = e
asks-none i (Some j) v e = e

put-none : (i : ℕ) (v : World) (o : Output) → v.refused ≡ None → (put i v o).refused ≡ None
put-none i v (Started task) e = e
put-none i v (Ended task outcome) e = e
put-none i v (Withdrawn ids) e = e
put-none i v (Denied why) e = e
put-none i v (Send conn m) e = e
put-none i v (Dial peer) e = asks-none i (Worlds.number_of v.spaces peer) v e
put-none i v (Close conn) e = e
put-none i v (Ready task) e = e

take-none : (i : ℕ) (e : Event) (s : Space) (v : World) → v.refused ≡ None → (take_event i e s v).refused ≡ None
unfolding take_event
take-none i e s v h = each-none (put i) _ _ (λ t o k. put-none i t o k) h

acts_fit : (before : World) (i : ℕ) (es : List Event) (v : World) → before.refused ≡ None → v.refused ≡ None → Fits before (acts before i es v)
unfolding acts
acts_fit before i [] v old now = accepted now
acts_fit before i (e ∷ es) v old now = some_fits (slice_get v.spaces i) _ (accepted old) (λ s.
    some_fits (Refusals.refusal s.setting (Worlds.lent_for e) s.state e) _ (acts_fit before i es (take_event i e s v) old (take-none i e s v now)) (λ why. denied before why))

-- an event comes to a world in which nothing is refused
happens_fits : (e : WorldEvent) (w : World) → w.refused ≡ None → Fits w (happens e w)
unfolding Worlds.step_task Worlds.open_pipe Worlds.refuse Worlds.accept Worlds.deliver Worlds.read_fails Worlds.write_fails
happens_fits (Own i e) w h = if_fits (Worlds.is_own e) (acts_fit w i (e ∷ []) w h h) (accepted h)
happens_fits (Step i task) w h = some_fits (slice_get w.spaces i) _ (accepted h) (λ s. some_fits (task_at s.state task) _ (denied w NotLent)
    (λ t. if_fits t.waits (denied w NotLent) (acts_fit w i (Worlds.step_events task t.task) w h h)))
happens_fits (Open a b) w h = if_fits (Worlds.is_asked a b w) (acts_fit w a (Opened (length w.pipes) (Worlds.id_at b w) ∷ []) _ h h) (accepted h)
happens_fits (Refuse a b) w h = if_fits (Worlds.is_asked a b w) (to (Worlds.id_at b w)) (accepted h)
  where
    to : (peer : Option Uuid) → Fits w (Worlds.refuse_to w a peer (record w { asked = Worlds.without_pair a b w.asked }))
    to None = accepted h
    to (Some peer) = acts_fit w a (Refused peer ∷ []) (record w { asked = Worlds.without_pair a b w.asked }) h h
happens_fits (Accept conn) w h = some_fits (slice_get w.pipes conn) _ (accepted h) (λ p. at p.accepter.space p.accepter.phase)
  where
    at : (space : ℕ) (phase : Worlds.Phase) → Fits w (Worlds.accept_at conn w space phase)
    at space Worlds.Unopened = acts_fit w space (Opened conn None ∷ []) (Worlds.on_side Worlds.begin_side conn Worlds.Accepter w) h h
    at space Worlds.Live = accepted h
    at space Worlds.Over = accepted h
happens_fits (Deliver conn to) w h = some_fits (slice_get w.pipes conn) _ (accepted h) (λ p. if_fits (Worlds.is_live (Worlds.side to p).phase) (first (Worlds.side to p).space _ (Worlds.side to p).queue) (accepted h))
  where
    first : (space : ℕ) (over : Bool) (queue : List Message) → Fits w (Worlds.deliver_first conn to w space over queue)
    first space over (m ∷ ms) = acts_fit w space (Received conn m ∷ []) (Worlds.on_side Worlds.take_front conn to w) h h
    first space true [] = acts_fit w space (Closed conn ∷ []) (Worlds.on_side Worlds.ends conn to w) h h
    first space false [] = accepted h
happens_fits (ReadFails conn at) w h = some_fits (slice_get w.pipes conn) _ (accepted h) (λ p.
    if_fits (Worlds.is_live (Worlds.side at p).phase) (acts_fit w (Worlds.side at p).space (ReadFailed conn ∷ []) (Worlds.on_side Worlds.ends conn at w) h h) (accepted h))
happens_fits (WriteFails conn at unsent) w h = some_fits (slice_get w.pipes conn) _ (accepted h) (λ p.
    if_fits (Worlds.is_live (Worlds.side at p).phase)
    (acts_fit w (Worlds.side at p).space (WriteFailed conn (Worlds.lost unsent at p) ∷ [])
    (Worlds.on_side Worlds.ends conn at (Worlds.on_side (Worlds.cut_end (Worlds.lost unsent at p)) conn (Worlds.other at) w)) h h) (accepted h))

IsSome : Option Refusal → Type 0
IsSome None = ⊥
IsSome (Some why) = Unit {0}

settled : (w v : World) (why : Refusal) → v.refused ≡ Some why → Fits w v → v ≡ record w { refused = Some why }
unfolding IsSome
settled w v why e f = pick f.fits
  where
    pick : (v.refused ≡ None) ⊎ ((other : Refusal) × (v ≡ record w { refused = Some other })) → v ≡ record w { refused = Some why }
    pick (inl none) = absurd (subst IsSome (sym e ∙ none) tt)
    pick (inr p) = p.1 ∙ ap (λ r. record w { refused = r }) (sym (ap (λ (u : World). u.refused) p.1) ∙ e)

pub refused_changes_nothing : RefusedChangesNothing
unfolding after
refused_changes_nothing w e why is = settled (record w { refused = None }) (happens e (record w { refused = None })) why is (happens_fits e (record w { refused = None }) refl)
