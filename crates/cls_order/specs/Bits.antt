-- Which classes are marked, as bits of words. (This project's own.)
use Rattle.std.specs.Prelude.{◌+◌, ◌/◌, ◌%◌, ℕ, Bool, List, map, nat_eq, slice_index_or}
use Rattle.std.specs.Int.{bit_at}
use Rattle.std.specs.List.{range_with_len}

-- whether class k is marked, in words of 64 bits
abbrev pub bit_of : List ℕ → ℕ → Bool
bit_of words k = nat_eq (bit_at (slice_index_or words (k / 64) 0) (k % 64)) 1

-- the marks of n classes, by number
abbrev pub marks_of : List ℕ → ℕ → List Bool
marks_of words n = map (bit_of words) (range_with_len 0 n)

-- the words that n bits take
abbrev pub words_for : ℕ → ℕ
words_for n = n / 64 + 1
