use Rattle.std.proofs.Common.{◌≡◌, drop}
use Rattle.cf_text.specs.Utf8.{after_text}
use Rattle.cf_text.specs.declared.utf8.Expected.TheVariants.{Character}
use Rattle.cf_text.proofs.utf8.is_modified_utf8.Given as goal

-- the bytes that are left lead to what all of them lead to
abbrev pub invariant-loop-byte : goal.invariant-loop-byte
invariant-loop-byte l = after_text l.expected (drop l.byte-index l.text) ≡ after_text Character l.text
