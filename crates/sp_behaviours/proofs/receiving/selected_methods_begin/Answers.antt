use Rattle.sp_behaviours.proofs.Selected.{selected_begins}
use Rattle.sp_behaviours.proofs.receiving.selected_methods_begin.Goals as goal

pub returns : goal.returns
returns c = selected_begins
