-- Numbers and runs of bytes from a position on, as they are read: 'multibyte data items are always stored in big-endian order' (JVMS 4).
use Rattle.std.specs.Prelude.{◌+◌, ℕ, List, length, take, drop, Result, Ok, Err, nat_le, if◌then◌else◌}
use Rattle.std.specs.Prelude.{ℤ}
use Rattle.std.specs.Int.{w32, cast_signed}
use Rattle.cf_text.specs.Reading.{◌>>=◌}
use Rattle.byteorder.specs.Endian.{big_number}
use Rattle.cf_text.specs.declared.fault.ReadFault.{ReadFault}
use Rattle.cf_text.specs.declared.fault.ReadFault.TheVariants.{Broken}
use Rattle.cf_text.specs.declared.fault.Rule.TheVariants.{Truncated}

-- the next n bytes, one item, and the position after them
abbrev pub bytes_at : ℕ → List ℕ → ℕ → Result (List ℕ × ℕ) ReadFault
bytes_at n bytes at =
    if nat_le (at + n) (length bytes) then Ok (take n (drop at bytes), at + n) else Err (Broken Truncated at)

-- the big-endian number in the next n bytes, and the position after it
abbrev pub number_at : ℕ → List ℕ → ℕ → Result (ℕ × ℕ) ReadFault
number_at n bytes at =
    if nat_le (at + n) (length bytes) then Ok (big_number n (drop at bytes), at + n) else Err (Broken Truncated at)

-- the position after the next n bytes, one item
abbrev pub skip_at : ℕ → List ℕ → ℕ → Result ℕ ReadFault
skip_at n bytes at = if nat_le (at + n) (length bytes) then Ok (at + n) else Err (Broken Truncated at)

-- the number in the next four bytes, as two's complement
unfoldable pub signed_at : List ℕ → ℕ → Result (ℤ × ℕ) ReadFault
signed_at bytes at = do
  bits ← number_at 4 bytes at
  Ok (cast_signed w32 bits.0, bits.1)
