-- A reference can have a call due only if something happened to it since the last question for due calls. (This project's own; no rule of a
-- standard.)
use Rattle.std.specs.Prelude.{◌≡◌, ℕ, ◌<◌, ◌≤◌, false, List, length, Contains, slice_index}
use Rattle.dgc_index.specs.declared.touched.Touched.{Touched}

-- something may have happened to the reference at the index
abbrev pub IsTouched : Touched → ℕ → Type 0
IsTouched touched index = touched.all ≡ false → Contains touched.indexes.items index

-- the indexes do not fall
abbrev pub Rises : List ℕ → Type 0
Rises indexes = (i j : ℕ) → i ≤ j → j < length indexes → slice_index indexes i ≤ slice_index indexes j
