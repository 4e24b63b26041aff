use Rattle.std.proofs.Common.{◌∙◌, refl, sym}
use Rattle.sp_rules.specs.Worlds.{Own, happens}
use Rattle.sp_events.specs.Events.{event_of}
use Rattle.sp_world.proofs.FitLemmas.{own-fits, own-not}
use Rattle.sp_world.proofs.MakeLemmas.{makes-nothing, makes-told}
use Rattle.sp_world.proofs.world.World.own.Goals as goal

pub returns-then-is_own_event-clause-made : goal.returns-then-is_own_event-clause-made
returns-then-is_own_event-clause-made g c =
    makes-told g.S.WorldSpace.is_space c.args.space (event_of c.args.event.now) (happens (Own c.args.space (event_of c.args.event.now))) c.args.self.now c.tell.new.self c.in_ok-_taken._taken c.in_ok-_taken.ensures.heard
    (λ w. own-fits c.args.space (event_of c.args.event.now) w (sym c.is_own_event.ensures ∙ c.if-is_own_event.true)) c.tell.ensures.wiring

pub returns-clause-made : goal.returns-clause-made
returns-clause-made g c =
    makes-nothing g.S.WorldSpace.is_space (happens (Own c.args.space (event_of c.args.event.now))) c.args.self.now _
    (λ w h. own-not c.args.space (event_of c.args.event.now) w (sym c.is_own_event.ensures ∙ c.if-is_own_event.false)) refl refl c.requires (λ w h. h)
