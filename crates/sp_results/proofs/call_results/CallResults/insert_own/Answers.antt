use Rattle.std.proofs.Common.{◌∙◌, List, ap}
use Rattle.std.specs.Prelude.{◌||◌}
use Rattle.space_ids.specs.declared.ids.Ref.{Ref}
use Rattle.sp_rules.specs.References.{is_id_in, own_ids}
use Rattle.sp_results.specs.Held.{of_calls}
use Rattle.sp_results.proofs.NumberLemmas.{on-ok}
use Rattle.sp_results.proofs.OverLemmas.{own-of-results}
use Rattle.sp_results.proofs.call_results.CallResults.insert_own.Goals as goal

pub returns : goal.returns
returns c =
    on-ok c.insert_references.result _ _
    (λ inserted. λ moment results a. λ id.
    inserted id
    ∙ ap (λ (rs : List Ref). is_id_in c.args.ids.now id || is_id_in (own_ids c.args.own.now rs) id) (c.as_slice.ensures.value ∙ c.in_ok-references.ensures moment results a)
    ∙ ap (λ t. is_id_in c.args.ids.now id || t) (own-of-results c.args.own.now id (of_calls results)))
    c.insert_references.ensures
