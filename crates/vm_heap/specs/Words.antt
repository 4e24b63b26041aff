-- Values in a row, and the words that stand for them one by one. What changes in the values while no word does stands here too: it
-- costs nothing when it runs. (This project's own.)
use Rattle.std.specs.Prelude.{◌≡◌, ℕ, ◌-◌, List, length, ◌++◌, map, take, drop, replicate}
use Rattle.std.specs.List.{AllZip}
use Rattle.vm_heap.specs.Tagged.{Tagged, Unset, IsWord, after_init}

-- values, and for how many of them there is room
pub record Row : Type 0 where
  pub values : List Tagged
  pub room : ℕ

-- the words of a row are those of its values
pub record AreWords (values : List Tagged) (words : List ℕ) : Type 0 where
  pub len : length values ≡ length words
  pub each : AllZip IsWord values words

-- the row in which all copies of a value are the object, from an index on
abbrev pub after_init_from : ℕ → Tagged → List Tagged → List Tagged
after_init_from start value values = take start values ++ map (after_init value) (drop start values)

-- the row in which the values from an index up to another are forgotten
abbrev pub forgotten : ℕ → ℕ → List Tagged → List Tagged
forgotten start end values = take start values ++ replicate (end - start) Unset ++ drop end values
