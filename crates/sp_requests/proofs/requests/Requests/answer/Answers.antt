use Rattle.std.proofs.Common.{sym, ◌∙◌}
use Rattle.sp_requests.proofs.AskingLemmas.{found-call, mark-call, none-out, unmarked}
use Rattle.sp_requests.proofs.requests.Requests.answer.Goals as goal

pub returns-in-Some-clause-answered : goal.returns-in-Some-clause-answered
returns-in-Some-clause-answered c = λ conn rows sent a.
    mark-call conn c.args.number rows sent c.in-Some.call c.args.self.now c.mark.new.self c.mark.ensures.others (λ calls b. c.mark.ensures.calls calls b) (found-call conn c.args.number sent rows a.on ∙ sym (c.in-Some.ensures conn rows sent a)) a

pub returns-in-None-clause-answered : goal.returns-in-None-clause-answered
returns-in-None-clause-answered c = λ conn rows sent a.
    unmarked conn c.args.number rows sent c.args.self.now (none-out conn c.args.number sent rows a.on (found-call conn c.args.number sent rows a.on ∙ sym (c.in-None.ensures conn rows sent a))) a
