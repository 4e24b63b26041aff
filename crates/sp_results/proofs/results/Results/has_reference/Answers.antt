use Rattle.std.proofs.Common.{ℕ, Option, false, sym, ◌∙◌}
use Rattle.std.specs.Borrow.{Bor}
use Rattle.space_ids.specs.declared.value.Value.{Value}
use Rattle.sp_rules.specs.References.{is_reference_in, references_in}
use Rattle.sp_results.proofs.WaitingLemmas.{found-here, named-more, order-more}
use Rattle.sp_results.proofs.results.Results.has_reference.Goals as goal

pub returns-then-is_result : goal.returns-then-is_result
returns-then-is_result c =
    let y : Bor ℕ × Bor (Option Value) = (c.in-Some.field-0-0, c.in-Some.value) in
    found-here (λ (row : ℕ × Option Value). is_reference_in (references_in row.1) c.args.reference.now) c.loop-value.yielded y c.loop-value.value-iterator c.next.new.self c.args.self.now c.in-Some.ensures.steps c.loop-value.invariant.1
    (sym c.is_result.ensures ∙ c.if-is_result.true)

pub loop-value-preserved : goal.loop-value-preserved
loop-value-preserved c =
    let y : Bor ℕ × Bor (Option Value) = (c.in-Some.field-0-0, c.in-Some.value) in (
      sym (named-more (λ (row : ℕ × Option Value). is_reference_in (references_in row.1) c.args.reference.now) c.loop-value.yielded y false false false (sym c.loop-value.invariant.0) (sym c.if-is_result.false ∙ c.is_result.ensures)),
      order-more c.loop-value.yielded y c.loop-value.value-iterator c.next.new.self c.args.self.now c.in-Some.ensures.steps c.loop-value.invariant.1,
    )
