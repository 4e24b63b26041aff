use Rattle.std.proofs.Common.{◌∙◌, sym, subst}
use Rattle.std.specs.Prelude.{slice_get}
use Rattle.cls_order.specs.Classes.{IsInterface}
use Rattle.cls_order.specs.Subtypes.{IsSubtype}
use Rattle.cls_order.proofs.Hierarchy.{some_and, same_some, none_some, not_true}
use Rattle.cls_set.proofs.class_set.ClassSet.is_remote.Goals as goal

pub returns-then-not-is_interface : goal.returns-then-not-is_interface
returns-then-not-is_interface c = (
  λ e. record {
    is_class = some_and (slice_get c.args.self.now c.args.class.0) (λ k. ¬ IsInterface k) c.class.result.now c.class.ensures (λ h. not_true c.is_interface.result c.if-not-is_interface.true (c.is_interface.ensures.1 h));
    remote = c.in-Some.remote;
    named = sym c.in-Some.ensures;
    implements = c.implements.ensures.0 e;
  },
  λ h. c.implements.ensures.1 (subst (λ r. IsSubtype c.args.self.now c.args.class r) (same_some (sym h.named ∙ sym c.in-Some.ensures)) h.implements),
)

pub returns-in-None : goal.returns-in-None
returns-in-None c = (λ e. cc, λ h. absurd (none_some (c.in-None.ensures ∙ h.named)))
