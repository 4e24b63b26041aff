use Rattle.std.proofs.Common.{sym, ◌∙◌}
use Rattle.sp_holders.proofs.PlaceLemmas.{acked-has}
use Rattle.sp_holders.proofs.holder.call_has.Goals as goal

pub returns-in-Some : goal.returns-in-Some
returns-in-Some c = λ has. λ moment all are.
    acked-has c.args.reference.now c.args.call.now.conn c.args.call.now.number c.in-Some.value.now all (c.in-Some.ensures moment all are) (sym c.is_result.ensures ∙ has)
