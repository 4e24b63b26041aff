use Rattle.std.proofs.Common.{◌+◌, ◌<◌, length, take, sym, ap, ◌∙◌, arith}
use Rattle.sp_parked.specs.ByReferences.{without_ticket, without_tickets}
use Rattle.sp_parked.proofs.TicketLemmas.{agree, step-take, without-more}
use Rattle.sp_parked.proofs.by_reference.ByReference.remove_all.Goals as goal

pub loop-reference-preserved : goal.loop-reference-preserved
loop-reference-preserved c = λ holds a.
    let refs = c.args.references.now in
    let i = c.loop-reference.reference-index in
    let r = c.reference-item.result in
    let t = c.args.ticket in
    let within : i < length refs = omega (arith, c.loop-reference-test.true) in
    agree (without_ticket r t (without_tickets (take i refs) t holds)) (without_tickets (take (i + 1) refs) t holds) c.remove.new.self
    (λ q. without-more t holds r q (take i refs) ∙ ap (λ l. without_tickets l t holds q) (sym (step-take refs i r c.reference-item.is within))) (c.remove.ensures.removed (without_tickets (take i refs) t holds) (c.loop-reference.invariant holds a))
