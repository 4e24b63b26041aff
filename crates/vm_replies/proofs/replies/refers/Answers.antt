use Rattle.std.proofs.Common.{◌∙◌, ◌<◌, length, subst, sym}
use Rattle.space_ids.specs.declared.ids.ClassId.{ClassId}
use Rattle.ver_frames.specs.Assignable.{IsObjectAssignable}
use Rattle.vm_replies.proofs.Fitting.{own_refers, stub_refers}
use Rattle.vm_replies.proofs.replies.refers.Goals as goal

pub returns-then-eq : goal.returns-then-eq
returns-then-eq c = λ is.
    own_refers c.args.set.now c.args.own c.args.class c.args.reference.now (sym c.if-not-is_remote.false ∙ c.is_remote.ensures) (sym c.eq.ensures ∙ c.if-eq.true)
    (c.stands_for.ensures.known is) (c.stands_for.ensures.stands is)

pub returns-then-is_known : goal.returns-then-is_known
returns-then-is_known c = λ is.
    stub_refers c.args.set.now c.args.own c.args.class c.args.reference.now (sym c.if-not-is_remote.false ∙ c.is_remote.ensures) (sym c.eq.ensures ∙ c.if-eq.false)
    (c.is_known.ensures c.if-is_known.true)
    (subst (λ (object : ClassId). object.0 < length c.args.set.now) c.object.ensures (c.stands_for-then-is_known.ensures.known is))
    (subst (λ (object : ClassId). IsObjectAssignable c.args.set.now object c.args.class) c.object.ensures (c.stands_for-then-is_known.ensures.stands is))
