use Rattle.vm_laws.proofs.ReturnRows
use Rattle.vm_laws.proofs.rows.returns_are_let_through.Goals as goal

pub returns : goal.returns
returns c = ReturnRows.rows
