-- Which ranks the notes of an event have. (This project's own.)
use Rattle.std.specs.Prelude.{ℕ, ◌==◌, Bool, List}
use Rattle.std.specs.List.{list_any}
use Rattle.sp_rules.specs.Events.{Note, rank}

-- whether a note has this rank
abbrev pub has_rank : List Note → ℕ → Bool
has_rank notes k = list_any (λ (n : Note). rank n == k) notes
