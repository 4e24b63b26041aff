use Rattle.std.proofs.Common.{cond, sym, ap, subst, ◌∙◌}
use Rattle.std.specs.Prelude.{filter}
use Rattle.std.proofs.lemmas.Result.{on_ok_weaker}
use Rattle.space_ids.specs.declared.ids.ForeignId.{ForeignId}
use Rattle.sp_rules.specs.Lists.{each}
use Rattle.sp_rules.specs.ParkedFrames.{fail_parked, names}
use Rattle.sp_rules.specs.State.{State}
use Rattle.sp_living.specs.Livings.{IsLiving}
use Rattle.sp_living.specs.Telling.{dirty_failed}
use Rattle.sp_endings.proofs.FailLemmas.{dirty-fails}
use Rattle.sp_tasks.proofs.LentLemmas.{lent-next, lent-same}
use Rattle.sp_endings.proofs.failing.fail_dirty.Goals as goal

pub returns-then-lacks-clause-failed : goal.returns-then-lacks-clause-failed
returns-then-lacks-clause-failed w c = on_ok_weaker c.fail_named.result (λ failed. λ g s a tells.
    let call = c.args.call in
    let r : ForeignId = c.args.reference.now in
    let t : State = dirty_failed call s r in
    subst (λ (u : State). IsLiving g u c.fail_named.new.living)
    (sym (dirty-fails g call s r c.in_ok-lacks.lacks (c.in_ok-lacks.ensures.lacks g s a) ∙ ap (λ b. cond b (each (fail_parked g) (filter (names r) s.parked) t) t) c.if-lacks.true))
    (failed g t (c.in_ok-lacks.ensures.failed g s a) tells)) c.fail_named.ensures.failed

pub returns-else-lacks-clause-failed : goal.returns-else-lacks-clause-failed
returns-else-lacks-clause-failed w c = λ g s a tells.
    let call = c.args.call in
    let r : ForeignId = c.args.reference.now in
    let t : State = dirty_failed call s r in
    subst (λ (u : State). IsLiving g u c.dirty_failed.new.self)
    (sym (dirty-fails g call s r c.in_ok-lacks.lacks (c.in_ok-lacks.ensures.lacks g s a) ∙ ap (λ b. cond b (each (fail_parked g) (filter (names r) s.parked) t) t) c.if-lacks.false))
    (c.in_ok-lacks.ensures.failed g s a)

pub returns-then-lacks-clause-lent : goal.returns-then-lacks-clause-lent
returns-then-lacks-clause-lent w c = on_ok_weaker c.fail_named.result (λ failed. lent-next c.dirty_failed.ensures.tasks failed) c.fail_named.ensures.lent

pub returns-else-lacks-clause-lent : goal.returns-else-lacks-clause-lent
returns-else-lacks-clause-lent w c = lent-same c.dirty_failed.ensures.tasks
