use Rattle.std.proofs.Common.{◌∙◌}
use Rattle.sp_requests.specs.Asking.{calls_in}
use Rattle.sp_requests.proofs.AskingLemmas.{found-call}
use Rattle.sp_requests.proofs.requests.Requests.call.Goals as goal

pub returns : goal.returns
returns c = λ conn rows sent a. c.copied.ensures ∙ c.get.ensures (calls_in sent rows) a.calls ∙ found-call conn c.args.number sent rows a.on
