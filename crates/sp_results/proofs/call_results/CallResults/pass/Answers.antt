use Rattle.std.proofs.Common.{◌∷◌, refl, sym, ap, ◌∙◌}
use Rattle.sp_results.specs.Held.{valued}
use Rattle.sp_results.specs.declared.call_results.CallResults.{CallResults}
use Rattle.sp_results.specs.declared.orphans.Orphan.{Orphan}
use Rattle.sp_results.proofs.PassLemmas.{pass, pop-one}
use Rattle.sp_results.proofs.call_results.CallResults.pass.Goals as goal

pub loop-ticket-preserved : goal.loop-ticket-preserved
loop-ticket-preserved c = λ before results a.
    let popped = c.in-Some.ensures in
    let others = c.remove.ensures.others in
    let o : Orphan = record { until = popped.0; ticket = c.in-Some.ticket } in
    pop-one before c.args.moment popped.0 c.in-Some.ticket results c.loop-ticket.self c.remove.new.self popped.1 (ap (λ (t : CallResults). t.unacknowledged) others) (ap (λ (t : CallResults). t.last) others)
    (popped.2 ∙ sym (ap (λ (t : CallResults). o ∷ t.orphans.queue.items) others)) (λ rows are. c.remove.ensures.removed (valued rows) are) (c.loop-ticket.invariant before results a)

pub returns : goal.returns
returns c = λ before results a low. pass before c.args.moment results c.loop-ticket.self _ low refl refl refl c.in_default.ensures.1 c.in_default.ensures.0 (c.loop-ticket.invariant before results a)
