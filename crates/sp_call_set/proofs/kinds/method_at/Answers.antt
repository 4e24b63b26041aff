use Rattle.std.proofs.Common.{◌≡◌, None, subst, arith}
use Rattle.cls_link.specs.Links.{Links, method_at}
use Rattle.sp_call_set.proofs.Declared.{none_at}
use Rattle.sp_call_set.proofs.kinds.method_at.Goals as goal

pub returns-then-method-len : goal.returns-then-method-len
returns-then-method-len c =
    subst (λ (links : Links). None ≡ method_at links.classes (record { 0 = c.args.method })) c.linked-linked.ensures.linked
    (none_at c.linked-linked.result.now c.len.ensures.links c.args.method (omega arith))
