use Rattle.sp_rules.proofs.BookLemmas
use Rattle.sp_rules.proofs.laws.books_grow.Goals as goal

pub returns : goal.returns
returns c = BookLemmas.books_grow
