use Rattle.std.proofs.Common.{sym, ◌∙◌}
use Rattle.std.proofs.lemmas.Result.{on_ok_weaker}
use Rattle.sp_rules.specs.Endings.{fail_write, unsent_calls, why_unsent}
use Rattle.sp_endings.specs.Ends.{AreThrown}
use Rattle.sp_endings.proofs.EndLemmas.{thrown-unsent}
use Rattle.sp_endings.proofs.ends.fail_write.Goals as goal

pub returns-clause-failed : goal.returns-clause-failed
unfolding fail_write
returns-clause-failed w c = on_ok_weaker c.end_as.result (λ ended. λ g s a quiet tells.
    let unsent = unsent_calls s c.args.conn c.args.unsent in
    let marshal = c.thrown.ensures g.classes tells in
    let others = c.thrown-2.ensures g.classes tells in
    let by : AreThrown (why_unsent g unsent) unsent (record { unsent = c.thrown.result; others = c.thrown-2.result }) = λ asked number asks is.
    thrown-unsent g unsent asked number asks is ∙ (λ j. Rattle.sp_endings.specs.Ends.thrown_at (record { unsent = sym marshal j; others = sym others j }) (Rattle.std.specs.List.list_any (Rattle.std.specs.Prelude.◌==◌ number) unsent)) in
    ended g s (why_unsent g unsent) a quiet tells by) c.end_as.ensures.ended
