use Rattle.std.proofs.Common.{refl, ◌∙◌}
use Rattle.sp_events.specs.Events.{event_of_root}
use Rattle.sp_core.proofs.CheckLemmas.{fresh-number, worn-number}
use Rattle.sp_core.proofs.TwinLemmas.{if-ok}
use Rattle.sp_core.proofs.space_core.SpaceCore.refuse_root.Goals as goal

pub returns-then-is_worn : goal.returns-then-is_worn
returns-then-is_worn c = λ g s lent is told.
    worn-number g lent s (event_of_root c.args.root.now) c.is_worn.result refl (c.is_worn.ensures g s is) c.if-is_worn.true

pub returns-else-is_worn : goal.returns-else-is_worn
returns-else-is_worn c = if-ok c.check_root.result _ _ (λ f told. λ g s lent is class.
    fresh-number g lent s (event_of_root c.args.root.now) c.is_worn.result refl (c.is_worn.ensures g s is) c.if-is_worn.false ∙ told g s lent is class) c.check_root.ensures
