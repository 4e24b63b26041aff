use Rattle.std.proofs.Common.{◌∙◌}
use Rattle.sp_requests.specs.Asking.{calls_in}
use Rattle.sp_requests.proofs.AskingLemmas.{if-ok}
use Rattle.sp_requests.proofs.GroupLemmas.{call-numbers}
use Rattle.sp_requests.proofs.requests.Requests.call_numbers.Goals as goal

pub returns : goal.returns
returns c = if-ok c.numbers.result _ _ (λ numbers is. λ conn rows sent a. is (calls_in sent rows) a.calls ∙ call-numbers sent rows) c.numbers.ensures
