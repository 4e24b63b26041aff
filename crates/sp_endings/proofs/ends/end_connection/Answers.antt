use Rattle.std.proofs.Common.{sym, ap, subst, ◌∙◌}
use Rattle.std.proofs.lemmas.Result.{on_ok_weaker}
use Rattle.space_ids.specs.declared.ids.ClassId.{ClassId}
use Rattle.sp_rules.specs.Endings.{by_unmarshal, unsent_calls}
use Rattle.sp_endings.specs.Ends.{AreThrown}
use Rattle.sp_endings.proofs.EndLemmas.{thrown-all}
use Rattle.sp_endings.proofs.ends.end_connection.Goals as goal

pub returns-clause-ended : goal.returns-clause-ended
returns-clause-ended w c = on_ok_weaker c.end_as.result (λ ended. λ g s a quiet tells.
    let class = c.thrown-class.ensures g.classes tells in
    let by : AreThrown (by_unmarshal g) (unsent_calls s c.args.conn 0) c.all.result =
    subst (AreThrown (by_unmarshal g) (unsent_calls s c.args.conn 0)) (sym (c.all.ensures ∙ ap (λ (k : ClassId). record { unsent = k; others = k }) class)) (thrown-all g.classes.unmarshal (unsent_calls s c.args.conn 0)) in
    ended g s (by_unmarshal g) a quiet tells by) c.end_as.ensures.ended
