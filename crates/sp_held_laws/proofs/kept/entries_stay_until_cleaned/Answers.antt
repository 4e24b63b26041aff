use Rattle.sp_held_laws.proofs.EntryLaws
use Rattle.sp_held_laws.proofs.kept.entries_stay_until_cleaned.Goals as goal

pub returns : goal.returns
returns c = EntryLaws.entries_stay_until_cleaned c.nothing_holds_what_goes.ensures
