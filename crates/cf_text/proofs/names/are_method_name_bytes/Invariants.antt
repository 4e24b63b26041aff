use Rattle.std.proofs.Common.{◌≡◌, drop}
use Rattle.std.specs.List.{list_all}
use Rattle.cf_text.specs.Names.{is_method_name_byte}
use Rattle.cf_text.proofs.names.are_method_name_bytes.Given as goal

-- the bytes so far pass
abbrev pub invariant-loop-byte : goal.invariant-loop-byte
invariant-loop-byte l = list_all is_method_name_byte (drop l.byte-index l.text) ≡ list_all is_method_name_byte l.text
