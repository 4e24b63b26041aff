use Rattle.std.proofs.Common.{ap}
use Rattle.sp_outputs.specs.Notes.{noted, notes_of}
use Rattle.sp_outputs.proofs.outputs.Outputs.new.Goals as goal

pub returns : goal.returns
unfolding notes_of
returns c = ap noted c.new.ensures.items
