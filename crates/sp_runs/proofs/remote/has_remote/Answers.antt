use Rattle.std.proofs.Common.{◌≡◌, ◌∙◌, List, ap, arith, subst}
use Rattle.cls_link.specs.Links.{Links}
use Rattle.cls_set.specs.Subtypes.{IsRemote}
use Rattle.cls_set.specs.declared.class.Class.{Class}
use Rattle.vm_step.specs.Run.{HasNoRemote}
use Rattle.sp_runs.proofs.RemoteClasses.{none_at_all, none_more, tested, tested_not}
use Rattle.sp_runs.proofs.remote.has_remote.Goals as goal

pub loop-index-preserved : goal.loop-index-preserved
loop-index-preserved c =
    none_more (λ class. IsRemote c.set-set.result.now class) c.loop-index.index c.loop-index.invariant (tested_not c.is_remote.result c.is_remote.ensures c.if-is_remote.false)

pub returns-then-is_remote-clause-one : goal.returns-then-is_remote-clause-one
returns-then-is_remote-clause-one c = λ is plain.
    let same : c.set-set.result.now ≡ c.args.program.now.classes = c.set-set.ensures ∙ ap (λ (l : Links). l.classes) c.linked.ensures.linked in
    plain (record { 0 = c.loop-index.index }) (subst (λ (cs : List Class). IsRemote cs (record { 0 = c.loop-index.index })) same (tested c.is_remote.result c.is_remote.ensures c.if-is_remote.true))

pub returns-clause-none : goal.returns-clause-none
returns-clause-none c = λ is.
    let same : c.set-set.result.now ≡ c.args.program.now.classes = c.set-set.ensures ∙ ap (λ (l : Links). l.classes) c.linked.ensures.linked in
    subst HasNoRemote same
    (none_at_all c.set-set.result.now c.loop-index.index (omega (arith, c.len-index-end.ensures.count, c.loop-index-test.false, c.loop-index.auto.index-end)) c.loop-index.invariant)
