use Rattle.sp_laws.proofs.EndLemmas
use Rattle.sp_laws.proofs.books.ends_are_runs.Goals as goal

pub returns : goal.returns
returns c = record { ends = EndLemmas.ends_are_runs c.lookups_end_as_named.ensures; tasks = EndLemmas.tasks_end_as_runs }
