use Rattle.std.proofs.Common.{◌≡◌, ap, sym, ◌∙◌}
use Rattle.std.specs.Prelude.{not, ◌&&◌}
use Rattle.sp_tasks.specs.Rows as rows
use Rattle.sp_tasks.specs.Rows.{TaskTable, row_of}
use Rattle.sp_core.proofs.LendLemmas.{ready-told}
use Rattle.sp_core.proofs.space_core.SpaceCore.is_ready.Goals as goal

pub returns-then-is_some : goal.returns-then-is_some
returns-then-is_some c = λ g s is.
    let path : c.tasks-tasks.result.now ≡ c.args.self.now.state.living.tasks = c.tasks-tasks.ensures.is ∙ ap (λ l. l.tasks) c.living.ensures.is in
    ap not c.waits.ensures
    ∙ ap (λ b. b && not (rows.is_parked (row_of c.args.task c.tasks-tasks.result.now.rows))) (sym (sym c.is_some.ensures ∙ c.if-is_some.true))
    ∙ ready-told _ _ c.origin.result g s c.args.self.now c.args.task _ (ap (λ (t : TaskTable). row_of c.args.task t.rows) path) c.origin.ensures is

pub returns-else-is_some : goal.returns-else-is_some
returns-else-is_some c = λ g s is.
    let path : c.tasks-tasks.result.now ≡ c.args.self.now.state.living.tasks = c.tasks-tasks.ensures.is ∙ ap (λ l. l.tasks) c.living.ensures.is in
    c.if-is_some.false
    ∙ ap (λ b. b && not (rows.is_parked (row_of c.args.task c.tasks-tasks.result.now.rows))) (sym (sym c.is_some.ensures ∙ c.if-is_some.false))
    ∙ ready-told _ _ c.origin.result g s c.args.self.now c.args.task _ (ap (λ (t : TaskTable). row_of c.args.task t.rows) path) c.origin.ensures is
