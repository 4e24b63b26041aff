-- What a worker makes of its pass. (This project's own.)
use Rattle.std.specs.Prelude.{◌≡◌, ℕ, List, ◌++◌}
use Rattle.sp_book.specs.Passes.{Seen}
use Rattle.sp_rules.specs.Books.{Entry}

-- A pass after calls of it: its number is the same, its calls are those before and more, and so are the notices that it took.
pub record GoesOn (p : Seen) (q : Seen) : Type 0 where
  pub number : q.number ≡ p.number
  pub calls : (more : List Entry) × (q.calls ≡ p.calls ++ more)
  pub taken : (more : List (ℕ × ℕ)) × (q.known.taken ≡ p.known.taken ++ more)
