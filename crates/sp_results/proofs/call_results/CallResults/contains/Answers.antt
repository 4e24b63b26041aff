use Rattle.std.proofs.Common.{ap, ◌∙◌, is_some}
use Rattle.sp_results.specs.Held.{numbers_on}
use Rattle.sp_results.proofs.HeldLemmas.{any-acked-of}
use Rattle.sp_results.proofs.call_results.CallResults.contains.Goals as goal

pub returns : goal.returns
returns c = λ moment results a. c.is_some.ensures ∙ ap is_some (c.ticket.ensures (numbers_on a.rows) a.ticketed.waiting) ∙ any-acked-of moment c.args.conn c.args.number results c.args.self.now a
