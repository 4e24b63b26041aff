use Rattle.std.proofs.Common.{◌≤◌, ◌++◌, length, ap, ◌∙◌, arith}
use Rattle.std.specs.List.{flat_map}
use Rattle.sp_requests.specs.Ends.{unsent_among}
use Rattle.sp_requests.proofs.EndLemmas.{take-whole, waiting-calls, waiting_call}
use Rattle.sp_requests.proofs.requests.Requests.waiting_calls.Goals as goal

pub returns : goal.returns
returns c = λ conn unsent rows sent a.
    let items = c.args.self.now.waiting.items in
    let all : length items ≤ c.loop-asked.asked-index = omega (arith, ap length c.deref-asked-items.ensures.value) in
    c.loop-asked.invariant ∙ ap (λ l. c.args.calls.now.items ++ flat_map waiting_call l) (take-whole items c.loop-asked.asked-index all) ∙ ap (λ l. c.args.calls.now.items ++ l) (waiting-calls (unsent_among unsent sent) items rows a.waiting)
