-- What events of a space make of its living tasks and their machines.
use Rattle.std.proofs.Common.{inl, inr, Option, None, Some, refl, sym, subst, ◌∙◌}
use Rattle.std.proofs.lemmas.Bool.{true≢false}
use Rattle.cls_link.specs.Links.{Links}
use Rattle.sp_events.specs.Events.{event_of}
use Rattle.sp_events.specs.declared.event.Event.{Event as Told}
use Rattle.sp_events.specs.declared.event.Event.TheVariants as told
use Rattle.sp_laws.specs.Changes.{GoesOn, HasBegun, IsAnswered, IsOfSpace}
use Rattle.sp_laws.specs.Calls.{IsAtCall}
use Rattle.sp_behaviours.specs.Calls.{IsSettingOf}
use Rattle.sp_behaviours.specs.ReplyStarts.{Begins}
use Rattle.sp_behaviours.proofs.TakenLemmas.{call_replies_are_taken}
use Rattle.sp_rules.specs.Classes.{Setting}
use Rattle.sp_rules.specs.Events.{Event}
use Rattle.sp_rules.specs.LivingTasks.{after_reply}
use Rattle.sp_rules.specs.State.{State, Living}
use Rattle.sp_rules.specs.Tasks.{Task}
use Rattle.sp_machines.specs.Players.{IsBehind, IsPlayed, IsPlayedBy, IsUntouched, Played}

-- ---- events of the space

pub outside : (e : Told) → IsOfSpace (event_of e)
outside (told.Moment moment) = refl
outside told.Sweep = refl
outside (told.RootAck task) = refl
outside (told.Bind name value) = refl
outside (told.Rebind name value) = refl
outside (told.Unbind name) = refl
outside (told.Lookup peer name) = refl
outside (told.Opened conn dialled) = refl
outside (told.Refused peer) = refl
outside (told.Received conn message) = refl
outside (told.Closed conn) = refl
outside (told.ReadFailed conn) = refl
outside (told.Bad conn) = refl
outside (told.WriteFailed conn unsent) = refl

-- a task that waited is behind with its machine once it has the reply
answered : (links : Links) (g : Setting) (before after : Living) (p : Played) → IsSettingOf links g → IsPlayedBy links g before p → IsAnswered g before after → IsPlayedBy links g after p
answered links g before after p set (inl level) a = absurd (true≢false (sym a.waited ∙ level.ready))
answered links g before after p set (inr (inr behind)) a = absurd (true≢false (sym a.waited ∙ behind.ready))
answered links g before after p set (inr (inl waiting)) a =
    let w = waiting.asks in
    let at : IsAtCall g w.before a.fits.fuel a.fits.kind = subst (λ (t : Task). IsAtCall g t a.fits.fuel a.fits.kind) (sym waiting.at) a.fits.at in
    let behind : IsBehind links g (after_reply g a.reply before) p = record {
      ready = refl;
      last = record { steps = before.steps; lent = before.waits; reply = a.reply };
      earlier = before.given;
      given = refl;
      taken = waiting.taken;
      steps = refl;
      waited = before.task;
      asks = w;
      within = waiting.within;
      answered = refl;
      takes = call_replies_are_taken links g w.before w.asked w.machine w.fuel a.fits.fuel a.fits.kind a.reply set w.follows at a.fits.fits;
    } in
    subst (λ (t : Living). IsPlayedBy links g t p) (sym a.goes_on) (inr (inr behind))

pub goes-on : (links : Links) (g : Setting) (s : State) (e : Event) (before after : Option Living) (m : Option Played) → IsSettingOf links g → ((t : Living) → HasBegun g s e t → Begins links g t) → GoesOn g s e before after
    → IsPlayed links g before m → IsPlayed links g after m
goes-on links g s e None None m set begins goes p = p
goes-on links g s e None (Some t) None set begins goes p = record { ready = goes.ready; given = goes.given; steps = goes.steps; stands = goes.stands; begins = begins t goes }
goes-on links g s e None (Some t) (Some q) set begins goes p = absurd p
goes-on links g s e (Some t) None m set begins goes p = absurd goes
goes-on links g s e (Some t) (Some u) None set begins (inl same) p = subst (IsUntouched links g) (sym same) p
goes-on links g s e (Some t) (Some u) None set begins (inr a) p = absurd (true≢false (sym a.waited ∙ p.ready))
goes-on links g s e (Some t) (Some u) (Some q) set begins (inl same) p = subst (λ (t : Living). IsPlayedBy links g t q) (sym same) p
goes-on links g s e (Some t) (Some u) (Some q) set begins (inr a) p = answered links g t u q set p a
