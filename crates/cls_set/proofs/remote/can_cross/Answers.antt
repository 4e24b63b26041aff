use Rattle.std.proofs.Common.{inl, inr}
use Rattle.cls_order.specs.Building.{origins_of}
use Rattle.cls_set.specs.Rules as rules
use Rattle.cls_set.proofs.Unfit.{crossing_kind}
use Rattle.cls_set.proofs.remote.can_cross.Goals as goal
use Rattle.cls_set.proofs.remote.can_cross.Goals.{in_default-via-in-Int+else-kind-eq1, in_default-via-in_default}

pub returns-in_default : goal.returns-in_default
returns-in_default c = (
  λ e. rules.CanCross.plain (c.can_be_kept.ensures.0 e),
  λ x.
      elim (crossing_kind (origins_of c.args.entries.now) c.args.kind.now x) [
        | inl k ↦ c.can_be_kept.ensures.1 k
        | inr r ↦
            elim c.in_default.branch [
              | in_default-via-in-Int+else-kind-eq1 w ↦ absurd (w.if-kind-eq1.false r.0)
              | in_default-via-in_default w ↦ absurd (w.in_default.not-Int r.1)
            ]
      ],
)
