use Rattle.std.proofs.Common.{◌∙◌}
use Rattle.sp_events.specs.Events.{event_of}
use Rattle.sp_core.proofs.CheckLemmas.{fresh-number, outside-other, worn-number}
use Rattle.sp_core.proofs.space_core.SpaceCore.refusal.Goals as goal

pub returns-then-is_worn : goal.returns-then-is_worn
returns-then-is_worn c = λ g s lent is.
    worn-number g lent s (event_of c.args.event.now) c.is_worn.result (outside-other c.args.event.now) (c.is_worn.ensures g s is) c.if-is_worn.true

pub returns-else-is_worn : goal.returns-else-is_worn
returns-else-is_worn c = λ g s lent is.
    fresh-number g lent s (event_of c.args.event.now) c.is_worn.result (outside-other c.args.event.now) (c.is_worn.ensures g s is) c.if-is_worn.false ∙ c.check.ensures g s lent is
