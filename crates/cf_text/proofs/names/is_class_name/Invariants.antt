use Rattle.std.proofs.Common.{◌≡◌, drop, true}
use Rattle.cf_text.specs.Names.{are_parts}
use Rattle.cf_text.proofs.names.is_class_name.Given as goal

-- what is left are parts exactly if all are
abbrev pub invariant-loop-byte : goal.invariant-loop-byte
invariant-loop-byte l = are_parts l.begins (drop l.byte-index l.text) ≡ are_parts true l.text
