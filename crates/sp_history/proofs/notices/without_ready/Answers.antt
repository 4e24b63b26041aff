use Rattle.std.proofs.Common.{rules, ◌∙◌, ap, not, map}
use Rattle.std.proofs.lemmas.Fn.{filter_same}
use Rattle.sp_outputs.specs.Notes.{output_of}
use Rattle.sp_history.specs.Books.{is_ready}
use Rattle.sp_history.proofs.EntryLemmas.{told_map}
use Rattle.sp_history.proofs.notices.without_ready.Goals as goal

pub returns : goal.returns
returns c = ap (map output_of) (filter_same _ (λ o. not (is_ready (output_of o))) _ (λ x b f' k. search rules) _ _ c.retain.ensures.filtered) ∙ told_map c.args.outputs.items
