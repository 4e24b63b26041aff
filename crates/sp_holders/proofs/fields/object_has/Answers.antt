use Rattle.std.proofs.Common.{sym, ◌∙◌}
use Rattle.sp_holders.proofs.PlaceLemmas.{object-has}
use Rattle.sp_holders.proofs.fields.object_has.Goals as goal

pub returns-in-Some : goal.returns-in-Some
returns-in-Some c = λ has. λ g s is. object-has g s c.args.reference.now c.args.id c.in-Some.fields.now (c.in-Some.ensures g s is) (sym c.is_in.ensures ∙ has)
