use Rattle.std.proofs.Common.{List, ap, ◌∙◌}
use Rattle.space_ids.specs.declared.ids.Ref.{Ref}
use Rattle.sp_rules.specs.References.{is_reference_in}
use Rattle.sp_results.specs.Held.{of_calls}
use Rattle.sp_results.proofs.OverLemmas.{any-of-results}
use Rattle.sp_results.proofs.call_results.CallResults.has_reference.Goals as goal

pub returns : goal.returns
returns c = λ moment results a.
    c.is_among.ensures
    ∙ ap (λ (rs : List Ref). is_reference_in rs c.args.reference.now) (c.as_slice.ensures.value ∙ c.in_ok-references.ensures moment results a)
    ∙ any-of-results c.args.reference.now (of_calls results)
