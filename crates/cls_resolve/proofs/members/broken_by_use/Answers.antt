use Rattle.std.proofs.Common.{sym, subst}
use Rattle.cls_resolve.specs.Access.{IsMemberAccessible}
use Rattle.cls_resolve.specs.Checks.{IsFinalWrite}
use Rattle.cls_resolve.specs.LinkRules as rules
use Rattle.cls_resolve.specs.LinkRules.{Check, IsFirstBroken}
use Rattle.cls_search.proofs.Interfaces.{not_true}
use Rattle.cls_resolve.proofs.Used.{granted, refused}
use Rattle.cls_resolve.proofs.UseChecks.{hidden, not_hidden, mismatch, not_mismatch, final_write, not_final, private_call, not_private}
use Rattle.cls_resolve.proofs.members.broken_by_use.Goals as goal

pub returns-then-not-member : goal.returns-then-not-member
returns-then-not-member c =
    λ classes site e n means may.
    rules.IsFirstBroken.here rules.Check.hidden_member _
    (hidden classes site c.args.operation c.args.member.index.class c.args.member.flags.bits means
    (λ a. refused _ c.if-not-member.true (may.1 (subst (λ u. IsMemberAccessible classes u c.args.member.index.class c.args.member.flags.bits) e a))))

pub returns-then-is_mismatch : goal.returns-then-is_mismatch
returns-then-is_mismatch c =
    λ classes site e n means may.
    rules.IsFirstBroken.further rules.Check.hidden_member _ _
    (not_hidden classes site c.args.operation c.args.member.index.class c.args.member.flags.bits means
    (subst (λ u. IsMemberAccessible classes u c.args.member.index.class c.args.member.flags.bits) (sym e) (may.0 (granted _ c.if-not-member.false))))
    (rules.IsFirstBroken.here rules.Check.static_mismatch _
    (mismatch classes site c.args.operation c.args.member.index.class c.args.member.flags.bits means (c.is_mismatch.ensures.0 c.if-is_mismatch.true)))

pub returns-then-is_final_write : goal.returns-then-is_final_write
returns-then-is_final_write c =
    λ classes site e n means may.
    rules.IsFirstBroken.further rules.Check.hidden_member _ _
    (not_hidden classes site c.args.operation c.args.member.index.class c.args.member.flags.bits means
    (subst (λ u. IsMemberAccessible classes u c.args.member.index.class c.args.member.flags.bits) (sym e) (may.0 (granted _ c.if-not-member.false))))
    (rules.IsFirstBroken.further rules.Check.static_mismatch _ _
    (not_mismatch classes site c.args.operation c.args.member.index.class c.args.member.flags.bits means (λ h. not_true _ c.if-is_mismatch.false (c.is_mismatch.ensures.1 h)))
    (rules.IsFirstBroken.here rules.Check.final_field _
    (final_write classes site c.args.operation c.args.member.index.class c.args.member.flags.bits means
    (subst (λ u. IsFinalWrite c.args.operation u site.method.name c.args.member.index.class c.args.member.flags.bits) (sym e)
    (subst (λ m. IsFinalWrite c.args.operation c.args.user m c.args.member.index.class c.args.member.flags.bits) (sym n) (c.is_final_write.ensures.0 c.if-is_final_write.true))))))

pub returns-then-is_private_call : goal.returns-then-is_private_call
returns-then-is_private_call c =
    λ classes site e n means may.
    rules.IsFirstBroken.further rules.Check.hidden_member _ _
    (not_hidden classes site c.args.operation c.args.member.index.class c.args.member.flags.bits means
    (subst (λ u. IsMemberAccessible classes u c.args.member.index.class c.args.member.flags.bits) (sym e) (may.0 (granted _ c.if-not-member.false))))
    (rules.IsFirstBroken.further rules.Check.static_mismatch _ _
    (not_mismatch classes site c.args.operation c.args.member.index.class c.args.member.flags.bits means (λ h. not_true _ c.if-is_mismatch.false (c.is_mismatch.ensures.1 h)))
    (rules.IsFirstBroken.further rules.Check.final_field _ _
    (not_final classes site c.args.operation c.args.member.index.class c.args.member.flags.bits means
    (λ h. not_true _ c.if-is_final_write.false (c.is_final_write.ensures.1
    (subst (λ m. IsFinalWrite c.args.operation c.args.user m c.args.member.index.class c.args.member.flags.bits) n
    (subst (λ u. IsFinalWrite c.args.operation u site.method.name c.args.member.index.class c.args.member.flags.bits) e h)))))
    (rules.IsFirstBroken.here rules.Check.private_virtual _
    (private_call classes site c.args.operation c.args.member.index.class c.args.member.flags.bits means (c.is_private_call.ensures.0 c.if-is_private_call.true)))))

pub returns : goal.returns
returns c =
    λ classes site e n means may.
    rules.IsFirstBroken.further rules.Check.hidden_member _ _
    (not_hidden classes site c.args.operation c.args.member.index.class c.args.member.flags.bits means
    (subst (λ u. IsMemberAccessible classes u c.args.member.index.class c.args.member.flags.bits) (sym e) (may.0 (granted _ c.if-not-member.false))))
    (rules.IsFirstBroken.further rules.Check.static_mismatch _ _
    (not_mismatch classes site c.args.operation c.args.member.index.class c.args.member.flags.bits means (λ h. not_true _ c.if-is_mismatch.false (c.is_mismatch.ensures.1 h)))
    (rules.IsFirstBroken.further rules.Check.final_field _ _
    (not_final classes site c.args.operation c.args.member.index.class c.args.member.flags.bits means
    (λ h. not_true _ c.if-is_final_write.false (c.is_final_write.ensures.1
    (subst (λ m. IsFinalWrite c.args.operation c.args.user m c.args.member.index.class c.args.member.flags.bits) n
    (subst (λ u. IsFinalWrite c.args.operation u site.method.name c.args.member.index.class c.args.member.flags.bits) e h)))))
    (rules.IsFirstBroken.further rules.Check.private_virtual _ _
    (not_private classes site c.args.operation c.args.member.index.class c.args.member.flags.bits means (λ h. not_true _ c.if-is_private_call.false (c.is_private_call.ensures.1 h)))
    rules.IsFirstBroken.nothing)))
