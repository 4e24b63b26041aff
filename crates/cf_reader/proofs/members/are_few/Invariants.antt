use Rattle.std.proofs.Common.{◌≡◌, ◌+◌, ◌≤◌, cond, drop}
use Rattle.std.specs.Prelude.{sum_by}
use Rattle.cf_reader.specs.Checks.{words_of}
use Rattle.cf_reader.proofs.members.are_few.Given as goal

-- the words so far are few, and with those that follow they are all
abbrev pub invariant-loop-parameter : goal.invariant-loop-parameter
invariant-loop-parameter l = record {
  few : l.words ≤ 255;
  all : l.words + sum_by words_of (drop l.parameter-index l.parameters) ≡ sum_by words_of l.parameters + cond l.is_static 0 1;
}
