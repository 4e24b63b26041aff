use Rattle.std.proofs.Common.{[], Some, sym, ap, subst, ◌∙◌}
use Rattle.std.specs.Prelude.{filter}
use Rattle.std.proofs.lemmas.Result.{on_ok_weaker}
use Rattle.space_ids.specs.declared.ids.ClassId.{ClassId}
use Rattle.sp_rules.specs.OwnEvents.{dialled_no_more}
use Rattle.sp_rules.specs.ParkedFrames.{remove_requests}
use Rattle.sp_rules.specs.Requests.{waits_for}
use Rattle.sp_rules.specs.State.{State, Asked}
use Rattle.sp_endings.specs.Ends.{AreThrown}
use Rattle.sp_living.specs.Livings.{IsLiving}
use Rattle.sp_endings.proofs.EndLemmas.{refused-is, thrown-all}
use Rattle.sp_tasks.proofs.LentLemmas.{lent-next}
use Rattle.sp_endings.proofs.ends.refuse.Goals as goal

pub returns-clause-refused : goal.returns-clause-refused
returns-clause-refused w c = on_ok_weaker c.end_all.result (λ done. λ g s a quiet tells asked.
    let peer = c.args.peer.now in
    let left : State = remove_requests (waits_for peer) (dialled_no_more (Some peer) s) in
    let why : Asked → ClassId = λ asked. g.classes.connect in
    let by : AreThrown why [] c.all.result = subst (AreThrown why []) (sym (c.all.ensures ∙ ap (λ (k : ClassId). record { unsent = k; others = k }) (c.thrown-class.ensures g.classes tells))) (thrown-all g.classes.connect []) in
    subst (λ (u : State). IsLiving g u c.end_all.new.living) (sym (refused-is g peer s))
    (done g left why [] (filter (waits_for peer) s.requests) (c.in_ok-ended.ensures.left g s a quiet asked) tells (c.in_ok-ended.ensures.ended g s a quiet asked) by)) c.end_all.ensures.ended

pub returns-clause-lent : goal.returns-clause-lent
returns-clause-lent w c = on_ok_weaker c.end_all.result (λ done. lent-next c.take_refused.ensures.tasks done) c.end_all.ensures.lent
