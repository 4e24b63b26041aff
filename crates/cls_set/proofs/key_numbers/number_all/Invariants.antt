use Rattle.std.proofs.Common.{◌≡◌, ℕ, ◌<◌, [], length, get_or}
use Rattle.cls_set.specs.KeyNumbers.{AreNumbersOf}
use Rattle.cls_set.proofs.key_numbers.number_all.Given as goal

-- the methods of the classes so far have their numbers
abbrev pub invariant-loop-class : goal.invariant-loop-class
invariant-loop-class l = (length l.numbers.items ≡ l.class) × ((k : ℕ) → k < l.class → AreNumbersOf l.entries l.all.items k (get_or l.numbers.items k []))
