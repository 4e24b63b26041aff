use Rattle.std.proofs.Common.{List, ℕ, Option, ap, ◌∙◌}
use Rattle.space_ids.specs.declared.value.Value.{Value}
use Rattle.sp_results.specs.Waiting.{is_waiting}
use Rattle.sp_results.proofs.WaitingLemmas.{waits}
use Rattle.sp_results.proofs.results.Results.contains.Goals as goal

pub returns : goal.returns
returns c = c.contains.ensures ∙ waits c.args.task c.self.inside.results.entries ∙ ap (λ (es : List (ℕ × Option Value)). is_waiting es c.args.task) c.self.view_is
