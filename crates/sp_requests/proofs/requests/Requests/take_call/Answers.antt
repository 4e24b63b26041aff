use Rattle.std.proofs.Common.{refl, ◌∙◌}
use Rattle.sp_requests.specs.Asking.{calls_in}
use Rattle.sp_requests.proofs.AskingLemmas.{found-call, take-call}
use Rattle.sp_requests.proofs.requests.Requests.take_call.Goals as goal

pub returns-clause-call : goal.returns-clause-call
returns-clause-call c = λ conn rows sent a. c.take.ensures.row (calls_in sent rows) a.calls ∙ found-call conn c.args.number sent rows a.on

pub returns-clause-taken : goal.returns-clause-taken
returns-clause-taken c = λ conn rows sent a. take-call conn c.args.number rows sent c.args.self.now _ refl refl refl (λ calls b. c.take.ensures.taken calls b) a
