use Rattle.std.proofs.Common.{◌∙◌}
use Rattle.sp_results.specs.Held.{valued}
use Rattle.sp_results.proofs.NumberLemmas.{if-ok}
use Rattle.sp_results.proofs.OverLemmas.{references-over}
use Rattle.sp_results.proofs.call_results.CallResults.references_over.Goals as goal

pub returns : goal.returns
returns c =
    if-ok c.references.result _ _
    (λ references are. λ before results a.
    references-over before c.args.moment results c.args.self.now _ references.items a (c.as_slice.ensures.value ∙ c.in_ok-tickets.ensures before a.rows a.ticketed) (are (valued a.rows) a.ticketed.values))
    c.references.ensures
