-- Events that are refused, and events that do not fit, are none to each object.
use mathlib.Core.Path.{ap, ◌∙◌}
use Rattle.std.proofs.lemmas.Bool.{true≢false}
use Rattle.std.specs.Prelude.{◌≡◌, refl, ℕ, ◌&&◌, ◌||◌, Bool, true, false, List, [], ◌∷◌, Option, None, Some, slice_get, if◌then◌else◌}
use Rattle.net_message.specs.declared.message.Message.{Message}
use Rattle.space_ids.specs.declared.ids.ObjId.{ObjId}
use Rattle.sp_rules.specs.Lists.{with_some}
use Rattle.sp_rules.specs.Refusals.{Refusal}
use Rattle.sp_rules.specs.Worlds
use Rattle.sp_rules.specs.Worlds.{World, Pipe, Phase, Unopened, Live, Over, End, WorldEvent, Own, Step, Open, Refuse, Accept, Deliver, ReadFails, WriteFails, side, other, after, happens}
use Rattle.sp_rules.proofs.RefusalLemmas.{refused_changes_nothing}
use Rattle.sp_held_laws.specs.OneObject.{object_in}
use Rattle.dgc_object.specs.AllClients as objects
use Rattle.sp_held_laws.specs.SeenAs.{counts_of, IsLike, IsNone, fits_world, RefusedEventsAreNone, WhatDoesNotHappenIsNone}

-- why the last event was refused is nothing to an object
same-object : (w : World) (why : Option Refusal) (owner : ℕ) (id : ObjId) → object_in (record w { refused = why }) owner id ≡ object_in w owner id
unfolding object_in
same-object w why owner id = refl

like-of : (x y : objects.World) → x ≡ y → IsLike x y
like-of x y e = record { clients = λ client. ap (λ (z : objects.World). counts_of (z.clients client)) e; stands = ap (λ (z : objects.World). z.stands) e; own = ap (λ (z : objects.World). z.own) e; frames = λ is. ap (λ (z : objects.World). objects.count is z.frames) e }

none-seen : (w v : World) (why : Option Refusal) → v ≡ record w { refused = why } → IsNone w v
none-seen w v why same owner id = record { fits = tt; seen = like-of (object_in v owner id) (object_in w owner id) (ap (λ (u : World). object_in u owner id) same ∙ same-object w why owner id) }

pub refused_events_are_none : RefusedEventsAreNone
refused_events_are_none w e why refused = none-seen w (after w e) (Some why) (refused_changes_nothing w e why refused)

-- ---- events that do not fit

if-not : (t u : World) (b : Bool) → b ≡ false → (if b then t else u) ≡ u
if-not t u true e = absurd (true≢false e)
if-not t u false e = refl

of-pipe : (is : Pipe → Bool) (w : World) (f : Pipe → World) (o : Option Pipe) → with_some o false is ≡ false → ((p : Pipe) → is p ≡ false → f p ≡ w) → with_some o w f ≡ w
of-pipe is w f None e k = refl
of-pipe is w f (Some p) e k = k p e

accepts-not : (conn space : ℕ) (w : World) (phase : Phase) → Worlds.is_unopened phase ≡ false → Worlds.accept_at conn w space phase ≡ w
accepts-not conn space w Unopened e = absurd (true≢false e)
accepts-not conn space w Live e = refl
accepts-not conn space w Over e = refl

delivers-not : (conn : ℕ) (to : End) (w : World) (p : Pipe) → Worlds.may_deliver to p ≡ false
    → (if Worlds.is_live (side to p).phase then Worlds.deliver_first conn to w (side to p).space (Worlds.is_ended (side (other to) p).phase) (side to p).queue else w) ≡ w
delivers-not conn to w p e = by (Worlds.is_live (side to p).phase) (side to p).queue (Worlds.is_ended (side (other to) p).phase) e
  where
    by : (live : Bool) (queue : List Message) (ended : Bool) → live && (Worlds.has_frames queue || ended) ≡ false → (if live then Worlds.deliver_first conn to w (side to p).space ended queue else w) ≡ w
    by true (m ∷ ms) ended e = absurd (true≢false e)
    by true [] true e = absurd (true≢false e)
    by true [] false e = refl
    by false queue ended e = refl

does-nothing : (e : WorldEvent) (w : World) → fits_world e w ≡ false → happens e w ≡ w
unfolding Worlds.open_pipe Worlds.refuse Worlds.accept Worlds.deliver Worlds.read_fails Worlds.write_fails
does-nothing (Own i e) w no-fit = if-not _ _ (Worlds.is_own e) no-fit
does-nothing (Step i task) w no-fit = absurd (true≢false no-fit)
does-nothing (Open a b) w no-fit = if-not _ _ (Worlds.is_asked a b w) no-fit
does-nothing (Refuse a b) w no-fit = if-not _ _ (Worlds.is_asked a b w) no-fit
does-nothing (Accept conn) w no-fit = of-pipe (λ (p : Pipe). Worlds.is_unopened p.accepter.phase) w _ (slice_get w.pipes conn) no-fit (λ p e. accepts-not conn p.accepter.space w p.accepter.phase e)
does-nothing (Deliver conn to) w no-fit = of-pipe (Worlds.may_deliver to) w _ (slice_get w.pipes conn) no-fit (λ p e. delivers-not conn to w p e)
does-nothing (ReadFails conn at) w no-fit = of-pipe (λ (p : Pipe). Worlds.is_live (side at p).phase) w _ (slice_get w.pipes conn) no-fit (λ p e. if-not _ _ (Worlds.is_live (side at p).phase) e)
does-nothing (WriteFails conn at unsent) w no-fit = of-pipe (λ (p : Pipe). Worlds.is_live (side at p).phase) w _ (slice_get w.pipes conn) no-fit (λ p e. if-not _ _ (Worlds.is_live (side at p).phase) e)

same-fit : (e : WorldEvent) (w : World) (why : Option Refusal) → fits_world e (record w { refused = why }) ≡ fits_world e w
same-fit (Own i e) w why = refl
same-fit (Step i task) w why = refl
same-fit (Open a b) w why = refl
same-fit (Refuse a b) w why = refl
same-fit (Accept conn) w why = refl
same-fit (Deliver conn to) w why = refl
same-fit (ReadFails conn at) w why = refl
same-fit (WriteFails conn at unsent) w why = refl

pub what_does_not_happen_is_none : WhatDoesNotHappenIsNone
unfolding after
what_does_not_happen_is_none w e no-fit = none-seen w (happens e (record w { refused = None })) None (does-nothing e (record w { refused = None }) (same-fit e w None ∙ no-fit))
