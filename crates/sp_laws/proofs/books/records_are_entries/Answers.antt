use Rattle.sp_laws.proofs.BookRowLemmas as RowLemmas
use Rattle.sp_laws.proofs.books.records_are_entries.Goals as goal

pub returns : goal.returns
returns c = record { rows = RowLemmas.records_are_entries; ends = RowLemmas.books_end_as_written c.ends_are_runs.ensures.ends }
