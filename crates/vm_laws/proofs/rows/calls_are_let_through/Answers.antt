use Rattle.vm_laws.proofs.CallRows
use Rattle.vm_laws.proofs.rows.calls_are_let_through.Goals as goal

pub returns : goal.returns
returns c = CallRows.rows
