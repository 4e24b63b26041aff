use Rattle.std.proofs.Common.{◌≡◌, cond, None, Some, sym, ap, ◌∙◌, rules}
use Rattle.sp_requests.specs.Asking.{calls_in}
use Rattle.sp_requests.proofs.UnansweredLemmas.{found-asked, unanswered}
use Rattle.sp_requests.proofs.requests.Requests.asked.Goals as goal

pub returns-in_err-call : goal.returns-in_err-call
returns-in_err-call c = λ conn rows sent a.
    let none : c.from_residual.result ≡ None = search rules in
    none ∙ ap unanswered (c.in_err-call.ensures (calls_in sent rows) a.calls) ∙ found-asked conn c.args.number sent rows a.on a.calls.rises

pub returns-then-call : goal.returns-then-call
returns-then-call c = λ conn rows sent a.
    sym (ap (λ b. cond b None (Some c.in_ok-call.call.now)) c.if-call.true) ∙ ap unanswered (c.in_ok-call.ensures (calls_in sent rows) a.calls) ∙ found-asked conn c.args.number sent rows a.on a.calls.rises

pub returns-else-call : goal.returns-else-call
returns-else-call c = λ conn rows sent a.
    sym (ap (λ b. cond b None (Some c.in_ok-call.call.now)) c.if-call.false) ∙ ap unanswered (c.in_ok-call.ensures (calls_in sent rows) a.calls) ∙ found-asked conn c.args.number sent rows a.on a.calls.rises
