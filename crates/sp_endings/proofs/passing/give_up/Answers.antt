use Rattle.std.proofs.Common.{List, refl, sym, subst}
use Rattle.std.proofs.lemmas.Result.{on_ok_weaker}
use Rattle.space_ids.specs.declared.ids.ClassId.{ClassId}
use Rattle.space_ids.specs.declared.ids.ForeignId.{ForeignId}
use Rattle.sp_parked.specs.Parkings.{frame_of, parked_of}
use Rattle.sp_parked.specs.declared.frame.Frame.{Frame}
use Rattle.sp_rules.specs.Behaviours.{Throws}
use Rattle.sp_rules.specs.Holders.{drop_ids}
use Rattle.sp_rules.specs.ParkedFrames.{answer_parked, answer_threw, fail_frame}
use Rattle.sp_living.specs.Livings.{IsLiving}
use Rattle.sp_tasks.proofs.LentLemmas.{lent-next}
use Rattle.sp_endings.proofs.passing.give_up.Goals as goal

pub returns-in-Call-clause-failed : goal.returns-in-Call-clause-failed
returns-in-Call-clause-failed w c = on_ok_weaker c.answer_threw.result (λ told. λ g s a tells.
    let p = parked_of c.args.frame.now in
    let dropped = drop_ids p.references s in
    let now = subst (λ (ids : List ForeignId). IsLiving g (drop_ids ids s) c.drop_ids.new.self) c.as_slice.ensures (c.drop_ids.ensures.dropped g s a) in
    subst (λ (f : Frame). IsLiving g (fail_frame g p (frame_of f) dropped) c.answer_threw.new.living) (sym c.in-Call.is)
    (subst (λ (class : ClassId). IsLiving g (answer_threw p.conn p.number class dropped) c.answer_threw.new.living) (c.thrown-class.ensures g.classes tells) (told g dropped now))) c.answer_threw.ensures.answered

pub returns-in-Returned-clause-failed : goal.returns-in-Returned-clause-failed
returns-in-Returned-clause-failed w c = on_ok_weaker c.answer_parked.result (λ replied. λ g s a tells.
    let p = parked_of c.args.frame.now in
    let dropped = drop_ids p.references s in
    let now = subst (λ (ids : List ForeignId). IsLiving g (drop_ids ids s) c.drop_ids.new.self) c.as_slice.ensures (c.drop_ids.ensures.dropped g s a) in
    subst (λ (f : Frame). IsLiving g (fail_frame g p (frame_of f) dropped) c.answer_parked.new.self) (sym c.in-Returned.is)
    (subst (λ (class : ClassId). IsLiving g (answer_parked g p (Throws class) dropped) c.answer_parked.new.self) (c.thrown-class.ensures g.classes tells) (replied g dropped p now refl refl))) c.answer_parked.ensures.answered

pub returns-in-Call-clause-lent : goal.returns-in-Call-clause-lent
returns-in-Call-clause-lent w c = on_ok_weaker c.answer_threw.result (λ told. lent-next c.drop_ids.ensures.tasks told) c.answer_threw.ensures.lent

pub returns-in-Returned-clause-lent : goal.returns-in-Returned-clause-lent
returns-in-Returned-clause-lent w c = on_ok_weaker c.answer_parked.result (λ replied. lent-next c.drop_ids.ensures.tasks replied) c.answer_parked.ensures.lent
