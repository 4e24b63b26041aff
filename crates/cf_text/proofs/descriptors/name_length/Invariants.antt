use Rattle.std.proofs.Common.{◌≡◌, ◌+◌, drop}
use Rattle.cf_text.specs.Types.{name_length}
use Rattle.cf_text.proofs.descriptors.name_length.Given as goal

-- the bytes so far and those that follow before the semicolon
abbrev pub invariant-loop-count : goal.invariant-loop-count
invariant-loop-count l = l.count + name_length (drop l.count l.text) ≡ name_length l.text
