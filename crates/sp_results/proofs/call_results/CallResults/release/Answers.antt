use Rattle.std.proofs.Common.{ap, refl, sym, ◌∙◌}
use Rattle.sp_results.specs.Held.{acked_row, numbers_on, valued}
use Rattle.sp_results.proofs.HeldLemmas.{none-acked-of, release, unreleased, value-of}
use Rattle.sp_results.proofs.call_results.CallResults.release.Goals as goal

pub returns-in_err-ticket-clause-value : goal.returns-in_err-ticket-clause-value
returns-in_err-ticket-clause-value c = λ moment results a.
    rw (c.from_residual.ensures) (none-acked-of moment c.args.conn c.args.number results c.args.self.now a (sym (c.in_err-ticket.ensures.ticket (numbers_on a.rows) a.ticketed.waiting)))

pub returns-in_err-ticket-clause-released : goal.returns-in_err-ticket-clause-released
returns-in_err-ticket-clause-released c = λ moment results a.
    unreleased moment c.args.conn c.args.number results c.args.self.now _ refl refl refl (λ rows are. c.remove.ensures.removed (numbers_on rows) are) a
    (sym (c.in_err-ticket.ensures.ticket (numbers_on a.rows) a.ticketed.waiting))

pub returns-clause-value : goal.returns-clause-value
returns-clause-value c = λ moment results a.
    value-of moment c.args.conn c.args.number c.in_ok-ticket.ticket results c.args.self.now a (sym (c.in_ok-ticket.ensures.ticket (numbers_on a.rows) a.ticketed.waiting))
    ∙ sym (ap (acked_row c.args.conn c.args.number) (c.take.ensures.row (valued a.rows) a.ticketed.values))

pub returns-clause-released : goal.returns-clause-released
returns-clause-released c = λ moment results a.
    release moment c.args.conn c.args.number c.in_ok-ticket.ticket results c.args.self.now _ refl refl (λ rows are. c.take.ensures.taken (valued rows) are)
    (λ rows are. c.remove.ensures.removed (numbers_on rows) are) a (sym (c.in_ok-ticket.ensures.ticket (numbers_on a.rows) a.ticketed.waiting))
