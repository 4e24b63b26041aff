use Rattle.sp_held_laws.proofs.EntryLaws
use Rattle.sp_held_laws.proofs.kept.dirty_calls_set_entries.Goals as goal

pub returns : goal.returns
returns c = EntryLaws.dirty_calls_set_entries
