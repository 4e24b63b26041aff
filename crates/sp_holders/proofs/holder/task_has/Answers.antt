use Rattle.std.proofs.Common.{sym, ◌∙◌}
use Rattle.sp_holders.proofs.PlaceLemmas.{row-held}
use Rattle.sp_holders.proofs.holder.task_has.Goals as goal

pub returns-in-Some : goal.returns-in-Some
returns-in-Some c = λ has. row-held c.args.reference.now c.args.id c.in-Some.held.now c.args.tasks.now.rows c.in-Some.ensures (sym c.is_among.ensures ∙ has)
