use Rattle.std.proofs.Common.{ap, sym, ◌∙◌}
use Rattle.sp_results.specs.Held.{acked_row, numbers_on, valued}
use Rattle.sp_results.proofs.HeldLemmas.{none-acked-of, value-of}
use Rattle.sp_results.proofs.call_results.CallResults.get.Goals as goal

pub returns-in_err-ticket : goal.returns-in_err-ticket
returns-in_err-ticket c = λ moment results a. rw (c.from_residual.ensures) (none-acked-of moment c.args.conn c.args.number results c.args.self.now a (sym (c.in_err-ticket.ensures (numbers_on a.rows) a.ticketed.waiting)))

pub returns : goal.returns
returns c = λ moment results a.
    value-of moment c.args.conn c.args.number c.in_ok-ticket.field-0 results c.args.self.now a (sym (c.in_ok-ticket.ensures (numbers_on a.rows) a.ticketed.waiting))
    ∙ sym (ap (acked_row c.args.conn c.args.number) (c.get.ensures (valued a.rows) a.ticketed.values))
