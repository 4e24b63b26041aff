use Rattle.std.proofs.Common.{Bool, List, sym, ap, subst, ◌∙◌}
use Rattle.std.specs.Prelude.{filter, not}
use Rattle.std.proofs.lemmas.Result.{on_ok_weaker}
use Rattle.sp_rules.specs.Lists.{each}
use Rattle.sp_rules.specs.ParkedFrames.{go, go_all}
use Rattle.sp_rules.specs.State.{State, ParkedFrame}
use Rattle.sp_endings.specs.Passing.{pass_on}
use Rattle.sp_living.specs.Frames.{is_free, with_parked}
use Rattle.sp_living.specs.Livings.{IsLiving}
use Rattle.sp_endings.proofs.TakingLemmas.{all-taken, takes-go}
use Rattle.sp_tasks.proofs.LentLemmas.{lent-next}
use Rattle.sp_endings.proofs.frames.go_all.Goals as goal

pub returns-clause-gone : goal.returns-clause-gone
unfolding go_all
returns-clause-gone w c = on_ok_weaker c.pass_all_on.result (λ passed. λ g s a tells after.
    let free : ParkedFrame → Bool = is_free s in
    let left = with_parked (filter (λ p. not (free p)) s.parked) s in
    let gone = passed g left (c.in_ok-frames.ensures.left g s a) tells after in
    subst (λ (u : State). IsLiving g u c.pass_all_on.new.living)
    (ap (λ (ps : List ParkedFrame). each (pass_on g) ps left) (c.in_ok-frames.ensures.frames g s a) ∙ sym (all-taken (go g) (pass_on g) (takes-go g) free s a.parked.once)) gone) c.pass_all_on.ensures.passed

pub returns-clause-lent : goal.returns-clause-lent
returns-clause-lent w c = on_ok_weaker c.pass_all_on.result (λ passed. lent-next c.take_free_frames.ensures.tasks passed) c.pass_all_on.ensures.lent
