use Rattle.std.proofs.Common.{ℕ, Option}
use Rattle.std.specs.Borrow.{Bor}
use Rattle.space_ids.specs.declared.value.Value.{Value}
use Rattle.sp_rules.specs.References.{is_id_in, own_ids, references_in}
use Rattle.sp_results.proofs.WaitingLemmas.{named-more, order-more}
use Rattle.sp_results.proofs.results.Results.insert_own.Goals as goal

pub loop-value-preserved : goal.loop-value-preserved
loop-value-preserved c =
    let y : Bor ℕ × Bor (Option Value) = (c.in-Some.field-0-0, c.in-Some.value) in (
      λ id. named-more (λ (row : ℕ × Option Value). is_id_in (own_ids c.args.own.now (references_in row.1)) id) c.loop-value.yielded y (is_id_in c.args.ids.now id) (is_id_in c.loop-value.ids id) (is_id_in c.insert_result.new.ids id)
          (c.loop-value.invariant.0 id) (c.in_ok-insert_result.ensures id),
      order-more c.loop-value.yielded y c.loop-value.value-iterator c.next.new.self c.args.self.now c.in-Some.ensures.steps c.loop-value.invariant.1,
    )
