use Rattle.std.proofs.Common.{[], ◌++◌, sym, ◌∙◌}
use Rattle.sp_rules.specs.State.{opening}
use Rattle.sp_history.proofs.BookLemmas.{replays_then, run_append, run_is}
use Rattle.sp_history.proofs.laws.cut_books_replay.Goals as goal

pub returns : goal.returns
returns c = record {
  replays = λ g cut entries before waiting first later. replays_then g opening [] cut entries before waiting first later;
  state = λ g cut entries. sym (run_append g opening cut entries) ∙ run_is g (cut ++ entries);
}
