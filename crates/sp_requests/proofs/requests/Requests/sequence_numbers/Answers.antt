use Rattle.std.proofs.Common.{◌∙◌}
use Rattle.sp_requests.specs.Asking.{groups_in}
use Rattle.sp_requests.proofs.AskingLemmas.{if-ok}
use Rattle.sp_requests.proofs.GroupLemmas.{sequence-numbers}
use Rattle.sp_requests.proofs.requests.Requests.sequence_numbers.Goals as goal

pub returns : goal.returns
returns c = if-ok c.numbers.result _ _ (λ numbers is. λ conn rows sent a. is (groups_in rows) a.groups ∙ sequence-numbers rows) c.numbers.ensures
