use Rattle.vm_laws.proofs.ObjectRows
use Rattle.vm_laws.proofs.rows.objects_are_let_through.Goals as goal

pub returns : goal.returns
returns c = ObjectRows.rows
