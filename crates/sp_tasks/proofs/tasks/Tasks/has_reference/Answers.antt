use Rattle.std.proofs.Common.{ℕ, sym, ◌∙◌}
use Rattle.sp_rules.specs.References.{is_reference_in}
use Rattle.sp_tasks.specs.Rows.{TaskRow}
use Rattle.sp_tasks.proofs.OrderLemmas.{any-by}
use Rattle.sp_tasks.proofs.tasks.Tasks.has_reference.Goals as goal

pub returns : goal.returns
returns c = rw (← c.self.view_is) (c.is_held.ensures ∙ sym (any-by (λ (row : ℕ × TaskRow). is_reference_in row.1.held c.args.reference.now) c.self.inside.rows.entries))
