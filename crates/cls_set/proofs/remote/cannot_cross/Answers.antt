use Rattle.cls_order.specs.Building.{origins_of}
use Rattle.cls_set.specs.Rules.{CanCross}
use Rattle.cls_set.proofs.Unfit.{negated}
use Rattle.cls_set.proofs.remote.cannot_cross.Goals as goal

pub returns : goal.returns
returns c =
    let n = negated c.can_cross.result (CanCross (origins_of c.args.entries.now) c.args.kind.now) c.can_cross.ensures in
    (λ e. record { not_crossing = n.0 e }, λ x. n.1 x.not_crossing)
