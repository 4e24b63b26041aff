use Rattle.vm_laws.proofs.IntRows
use Rattle.vm_laws.proofs.rows.ints_are_let_through.Goals as goal

pub returns : goal.returns
returns c = IntRows.rows
