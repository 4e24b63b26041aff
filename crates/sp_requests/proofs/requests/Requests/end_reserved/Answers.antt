use Rattle.std.proofs.Common.{◌++◌, sym, ap, ◌∙◌}
use Rattle.std.specs.List.{flat_map}
use Rattle.std.specs.Map.{values_of}
use Rattle.std.proofs.lemmas.Grind.{flat_map-append}
use Rattle.sp_requests.specs.Asking.{groups_in}
use Rattle.sp_requests.specs.Ends.{ended_group, out_among, waiting_among}
use Rattle.sp_requests.proofs.EndLemmas.{out-groups}
use Rattle.sp_requests.proofs.requests.Requests.end_reserved.Goals as goal

pub returns : goal.returns
returns c = λ conn unsent rows sent a e. record {
  calls = e.calls;
  groups = c.end_waiting.ensures rows a.waiting
      ∙ ap (λ l. l ++ flat_map ended_group (waiting_among rows)) (c.take_all_reserved.ensures.rows (groups_in rows) a.groups (c.deref.ensures.value ∙ e.sequences) ∙ ap (λ l. l ++ values_of (groups_in rows)) e.groups ∙ out-groups rows a.answered)
      ∙ sym (flat_map-append ended_group (out_among rows) (waiting_among rows));
}
