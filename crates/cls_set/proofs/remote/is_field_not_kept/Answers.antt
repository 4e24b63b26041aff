use Rattle.std.proofs.Common.{subst, sym, ◌∙◌}
use Rattle.std.specs.Prelude.{◌↔◌, IsTrue}
use Rattle.cf_text.specs.declared.types.FieldType.{FieldType}
use Rattle.cls_order.specs.Building.{origins_of}
use Rattle.cls_set.specs.Rules.{CanBeKept}
use Rattle.cls_order.proofs.Hierarchy.{true_false}
use Rattle.cls_set.proofs.Unfit.{negated}
use Rattle.cls_set.proofs.remote.is_field_not_kept.Goals as goal

pub returns-then-not-has : goal.returns-then-not-has
returns-then-not-has c =
    let os = origins_of c.args.entries.now in
    let kept = subst (λ (kind : FieldType). IsTrue c.can_be_kept.result ↔ CanBeKept os kind) c.deref.ensures c.can_be_kept.ensures in
    let n = negated c.can_be_kept.result (CanBeKept os c.args.field.now.kind) kept in
    (λ e. record { of_instances = λ h. true_false (sym (c.has.ensures.set.1 h) ∙ c.if-not-has.true); not_kept = n.0 e }, λ x. n.1 x.not_kept)
