use Rattle.dgc_list.proofs.LawsLemmas.{late-dirty, late-clean}
use Rattle.dgc_list.proofs.laws.a_late_call_changes_nothing.Goals as goal

pub returns : goal.returns
returns c = record { dirty = late-dirty; clean = late-clean }
