use Rattle.std.proofs.Common.{sym, ◌∙◌}
use Rattle.sp_outputs.specs.Notes.{notes_of}
use Rattle.sp_outputs.proofs.SlotLemmas.{all-noted}
use Rattle.sp_outputs.proofs.outputs.Outputs.len.Goals as goal

pub returns : goal.returns
unfolding notes_of
returns c = c.len.ensures ∙ c.args.self.now.notes.ok.0 ∙ sym (all-noted c.args.self.now.notes.items c.args.self.now.said)
