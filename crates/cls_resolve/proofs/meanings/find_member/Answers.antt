use Rattle.cls_resolve.proofs.Standing.{class_in, class_of_method}
use Rattle.cls_search.proofs.Interfaces.{not_true}
use Rattle.cls_resolve.proofs.Used.{field_member, method_member}
use Rattle.cls_resolve.proofs.meanings.find_member.Goals as goal

pub returns-then-is_field-clause-found : goal.returns-then-is_field-clause-found
returns-then-is_field-clause-found c =
    field_member c.args.set.now c.args.user c.args.class c.args.kind c.args.name.now c.args.descriptor.now c.in_ok-id.id c.field.result.now c.member_for.result
    (c.is_field.ensures.0 c.if-is_field.true) c.in_ok-id.ensures.found c.field.ensures.field (class_in c.args.set.now c.in_ok-id.id c.in_ok-id.ensures.within)
    c.member_for.ensures.index c.member_for.ensures.flags c.member_for.ensures.accessible

pub member_for-requires-2-clause-owner : goal.member_for-requires-2-clause-owner
member_for-requires-2-clause-owner c = class_of_method c.args.set.now c.in_ok-found.found c.in_ok-found.ensures.within

pub returns-clause-found : goal.returns-clause-found
returns-clause-found c =
    method_member c.args.set.now c.args.user c.args.class c.args.kind c.args.name.now c.args.descriptor.now c.in_ok-found.found c.method.result.now c.member_for-2.result
    (λ e. not_true _ c.if-is_field.false (c.is_field.ensures.1 e)) c.in_ok-found.ensures.found c.method.ensures.method (class_of_method c.args.set.now c.in_ok-found.found c.in_ok-found.ensures.within) c.member_for-2.ensures.index
    c.member_for-2.ensures.flags c.member_for-2.ensures.accessible
