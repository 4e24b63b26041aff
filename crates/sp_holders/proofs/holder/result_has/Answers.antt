use Rattle.std.proofs.Common.{sym, ◌∙◌}
use Rattle.sp_holders.proofs.PlaceLemmas.{taken-has}
use Rattle.sp_holders.proofs.holder.result_has.Goals as goal

pub returns-in-Some : goal.returns-in-Some
returns-in-Some c = λ has. taken-has c.args.reference.now c.args.task c.in-Some.value.now c.args.results.now c.in-Some.ensures (sym c.is_result.ensures ∙ has)
