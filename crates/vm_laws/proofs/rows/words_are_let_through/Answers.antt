use Rattle.vm_laws.proofs.WordRows
use Rattle.vm_laws.proofs.rows.words_are_let_through.Goals as goal

pub returns : goal.returns
returns c = WordRows.rows
