use Rattle.std.proofs.Common.{ℕ, List, false, sym, ap, ◌∙◌}
use Rattle.std.specs.Borrow.{Bor}
use Rattle.space_ids.specs.declared.ids.Ref.{Ref}
use Rattle.sp_rules.specs.References.{is_reference_in}
use Rattle.sp_tasks.specs.Rows.{TaskRow}
use Rattle.sp_tasks.proofs.HoldingLemmas.{found-here}
use Rattle.sp_tasks.proofs.RowLemmas.{named-more, order-more}
use Rattle.sp_tasks.proofs.holding.is_held.Goals as goal

pub returns-then-is_among : goal.returns-then-is_among
returns-then-is_among c =
    let y : Bor ℕ × Bor TaskRow = (c.in-Some.field-0-0, c.in-Some.task) in
    found-here (λ (row : ℕ × TaskRow). is_reference_in row.1.held c.args.reference.now) c.loop-task.yielded y c.loop-task.task-iterator c.next.new.self c.args.rows.now.entries c.in-Some.ensures.steps c.loop-task.invariant.1
    (sym (c.is_among.ensures ∙ ap (λ (held : List Ref). is_reference_in held c.args.reference.now) c.held.ensures) ∙ c.if-is_among.true)

pub loop-task-preserved : goal.loop-task-preserved
loop-task-preserved c =
    let y : Bor ℕ × Bor TaskRow = (c.in-Some.field-0-0, c.in-Some.task) in (
      sym (named-more (λ (row : ℕ × TaskRow). is_reference_in row.1.held c.args.reference.now) c.loop-task.yielded y false false false (sym c.loop-task.invariant.0)
          (sym c.if-is_among.false ∙ c.is_among.ensures ∙ ap (λ (held : List Ref). is_reference_in held c.args.reference.now) c.held.ensures)),
      order-more c.loop-task.yielded y c.loop-task.task-iterator c.next.new.self c.args.rows.now.entries c.in-Some.ensures.steps c.loop-task.invariant.1,
    )
