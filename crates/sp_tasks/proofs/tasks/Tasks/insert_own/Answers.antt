use Rattle.std.proofs.Common.{ℕ, sym, ap, ◌∙◌}
use Rattle.std.specs.Prelude.{◌||◌}
use Rattle.sp_rules.specs.References.{is_id_in, own_ids}
use Rattle.sp_tasks.specs.Rows.{TaskRow}
use Rattle.sp_tasks.proofs.OrderLemmas.{any-by}
use Rattle.sp_tasks.proofs.RowLemmas.{on-ok}
use Rattle.sp_tasks.proofs.tasks.Tasks.insert_own.Goals as goal

pub returns : goal.returns
returns c =
    rw (← c.self.view_is)
    (on-ok c.insert_held.result _ _ c.insert_held.ensures (λ all id. all id
    ∙ ap (λ t. is_id_in c.args.ids.now id || t) (sym (any-by (λ (row : ℕ × TaskRow). is_id_in (own_ids c.args.own.now row.1.held) id) c.self.inside.rows.entries))))
