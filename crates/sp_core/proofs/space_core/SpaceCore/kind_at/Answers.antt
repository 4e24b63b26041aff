use Rattle.std.proofs.Common.{◌∙◌}
use Rattle.sp_rules.specs.State.{object_at}
use Rattle.sp_core.proofs.OpLemmas.{kind-of-class, no-class}
use Rattle.sp_core.proofs.space_core.SpaceCore.kind_at.Goals as goal

pub returns-in-Some : goal.returns-in-Some
returns-in-Some w c = λ g s is tells.
    c.field_kind.ensures g.classes tells
    ∙ kind-of-class g c.in-Some.class (object_at s c.args.object) c.args.slot (c.in-Some.ensures g s (c.owner.ensures g s is.state))

pub returns-in-None : goal.returns-in-None
returns-in-None w c = λ g s is tells. no-class g (object_at s c.args.object) c.args.slot (c.in-None.ensures g s (c.owner.ensures g s is.state))
