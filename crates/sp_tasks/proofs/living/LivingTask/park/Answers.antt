use Rattle.std.proofs.Common.{sym, ap, ◌∙◌}
use Rattle.sp_tasks.specs.Rows.{TaskRow}
use Rattle.sp_tasks.proofs.RowLemmas.{hand-past}
use Rattle.sp_tasks.proofs.living.LivingTask.park.Goals as goal

pub invariant_of-self : goal.invariant_of-self
invariant_of-self c = (
  c.into_record.ensures.past ∙ sym (hand-past c.args.self.now c.args.task c.requires.lent) ∙ sym (ap (λ (r : TaskRow). r.past) c.self.view_is),
  c.self.invariant.1,
  λ waits. (ap (λ (r : TaskRow). r.room) c.self.view_is ∙ c.requires.row, c.into_record.ensures.room c.requires.task),
)
