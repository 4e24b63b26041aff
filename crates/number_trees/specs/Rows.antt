-- Rows that only grow. (This project's own.)
use Rattle.std.specs.Prelude.{◌≡◌, ◌++◌, List}

-- a row goes on from another one
pub record Starts {A : Type 0} (old new : List A) : Type 0 where
  pub more : List A
  pub is : new ≡ old ++ more
