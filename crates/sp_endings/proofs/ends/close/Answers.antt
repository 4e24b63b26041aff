use Rattle.std.proofs.Common.{sym, ap, subst, ◌∙◌}
use Rattle.std.proofs.lemmas.Result.{on_ok_weaker}
use Rattle.space_ids.specs.declared.ids.ClassId.{ClassId}
use Rattle.sp_requests.specs.Thrown.{thrown_class}
use Rattle.sp_rules.specs.Endings.{close, end_connection, unsent_calls}
use Rattle.sp_rules.specs.State.{Asked}
use Rattle.sp_endings.specs.Ends.{AreThrown}
use Rattle.sp_endings.proofs.EndLemmas.{thrown-all}
use Rattle.sp_tasks.proofs.LentLemmas.{lent-still, on-any}
use Rattle.sp_endings.proofs.ends.close.Goals as goal

pub returns-clause-closed : goal.returns-clause-closed
unfolding close
returns-clause-closed w c = on_ok_weaker c.say.result (λ said. λ g s a quiet tells.
    let class = thrown_class g.classes c.args.exception in
    let why : Asked → ClassId = λ asked. class in
    let by : AreThrown why (unsent_calls s c.args.conn 0) c.all.result =
    subst (AreThrown why (unsent_calls s c.args.conn 0)) (sym (c.all.ensures ∙ ap (λ (k : ClassId). record { unsent = k; others = k }) (c.thrown-class.ensures g.classes tells))) (thrown-all class (unsent_calls s c.args.conn 0)) in
    said g (end_connection g why c.args.conn s) (c.in_ok-end_as.ensures.ended g s why a quiet tells by)) c.say.ensures.said

pub returns-clause-lent : goal.returns-clause-lent
returns-clause-lent w c = on-any c.say.result (lent-still c.in_ok-end_as.ensures.lent c.say.ensures.tasks)
