use Rattle.std.proofs.Common.{sym}
use Rattle.sp_holders.proofs.PlaceLemmas.{fields, frames, in-fields, in-tables, results, tasks}
use Rattle.sp_holders.proofs.holder.is_held_by.Goals as goal

pub returns-in-Object : goal.returns-in-Object
returns-in-Object c = λ has. λ g s is.
    let r = c.args.reference.now in
    sym (in-fields (tasks s r) (fields g s r) (results s r) (frames s r) (c.object_has.ensures has g s (c.owner.ensures g s is)))

pub returns-in_default : goal.returns-in_default
returns-in_default c = λ has. λ g s is.
    let r = c.args.reference.now in
    in-tables (tasks s r) (fields g s r) (results s r) (frames s r) (c.is_in_table.ensures has g s (c.living.ensures.stands g s is))
