use Rattle.std.proofs.Common.{◌≡◌, not, true, is_some, sym, ap, ◌∙◌}
use Rattle.sp_tasks.specs.Rows.{TaskRow}
use Rattle.sp_tasks.proofs.RowLemmas.{hand-past, idle}
use Rattle.sp_tasks.proofs.SameLemmas.{and-left}
use Rattle.sp_tasks.proofs.living.LivingTask.give_back.Goals as goal

pub invariant_of-self : goal.invariant_of-self
invariant_of-self c =
    let row = c.args.self.now in
    let lent : not (is_some c.self.inside.spare) ≡ true = ap (λ (r : TaskRow). r.lent) c.self.view_is ∙ and-left row.lent _ c.requires in (
      c.into_record.ensures.past ∙ sym (hand-past row c.args.task c.requires) ∙ sym (ap (λ (r : TaskRow). r.past) c.self.view_is),
      c.self.invariant.1,
      λ waits. absurd (idle c.self.inside.spare _ lent (c.self.invariant.2 waits).1),
    )
