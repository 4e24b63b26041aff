use Rattle.std.proofs.Common.{sym, ap, subst, ◌∙◌}
use Rattle.std.specs.List.{IsDistinct}
use Rattle.std.proofs.lemmas.Map.Keys.{IsDistinct-push}
use Rattle.space_ids.specs.declared.ids.ForeignId.{ForeignId}
use Rattle.dgc_client.specs.Table.{is_among, is_same}
use Rattle.dgc_client.proofs.KeptLemmas.{same-laws}
use Rattle.sp_endings.proofs.foreign.add_foreign.Goals as goal

pub returns-in_ok-push-clause-distinct : goal.returns-in_ok-push-clause-distinct
returns-in_ok-push-clause-distinct c =
    let id : ForeignId = record { space = c.in-Ref.reference.space; id = c.in-Ref.reference.id } in
    subst (IsDistinct is_same) (sym c.in_ok-push.ensures.items)
    (IsDistinct-push same-laws c.args.ids.now.items id c.requires (ap (is_among id) (sym c.deref.ensures.value) ∙ sym c.is_among.ensures ∙ c.if-not-is_among.true))
