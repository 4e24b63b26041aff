use Rattle.std.proofs.Common.{ℕ, ap, ◌∙◌, List}
use Rattle.std.specs.Prelude.{◌||◌}
use Rattle.std.specs.Borrow.{Bor}
use Rattle.space_ids.specs.declared.ids.Ref.{Ref}
use Rattle.sp_rules.specs.References.{is_id_in, own_ids}
use Rattle.sp_tasks.specs.Rows.{TaskRow}
use Rattle.sp_tasks.proofs.RowLemmas.{named-more, order-more}
use Rattle.sp_tasks.proofs.tasks.insert_held.Goals as goal

pub loop-task-preserved : goal.loop-task-preserved
loop-task-preserved c =
    let y : Bor ℕ × Bor TaskRow = (c.in-Some.field-0-0, c.in-Some.task) in (
      λ id. named-more (λ (row : ℕ × TaskRow). is_id_in (own_ids c.args.own.now row.1.held) id) c.loop-task.yielded y (is_id_in c.args.ids.now id) (is_id_in c.loop-task.ids id) (is_id_in c.insert_references.new.self id)
          (c.loop-task.invariant.0 id) (c.in_ok-insert_references.ensures id ∙ ap (λ (held : List Ref). is_id_in c.loop-task.ids id || is_id_in (own_ids c.args.own.now held) id) c.held.ensures),
      order-more c.loop-task.yielded y c.loop-task.task-iterator c.next.new.self c.args.rows.now.entries c.in-Some.ensures.steps c.loop-task.invariant.1,
    )
