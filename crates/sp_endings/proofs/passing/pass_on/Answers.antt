use Rattle.std.proofs.Common.{List, refl, subst}
use Rattle.space_ids.specs.declared.ids.ForeignId.{ForeignId}
use Rattle.sp_parked.specs.Parkings.{parked_of}
use Rattle.sp_rules.specs.Holders.{drop_ids}
use Rattle.sp_rules.specs.ParkedFrames.{go_frame}
use Rattle.sp_living.specs.Livings.{IsLiving}
use Rattle.sp_tasks.proofs.LentLemmas.{lent-still}
use Rattle.sp_endings.proofs.passing.pass_on.Goals as goal

pub returns-clause-passed : goal.returns-clause-passed
returns-clause-passed w c = λ g s a tells after.
    let p = parked_of c.args.frame in
    let gone = go_frame g p p.frame s in
    subst (λ (ids : List ForeignId). IsLiving g (drop_ids ids gone) c.drop_ids.new.self) c.as_slice.ensures
    (c.drop_ids.ensures.dropped g gone (c.in_ok-go_frame.ensures.gone g s p a tells after refl refl))

pub returns-clause-lent : goal.returns-clause-lent
returns-clause-lent w c = lent-still c.in_ok-go_frame.ensures.lent c.drop_ids.ensures.tasks
