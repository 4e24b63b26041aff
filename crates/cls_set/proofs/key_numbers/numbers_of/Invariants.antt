use Rattle.std.proofs.Common.{◌≡◌, ℕ, ◌<◌, length, get_or}
use Rattle.cls_set.specs.KeyNumbers.{keys_at, IsKeyNumber}
use Rattle.cls_set.specs.Orders.{key_at}
use Rattle.cls_set.proofs.key_numbers.numbers_of.Given as goal

-- the methods so far have their numbers
abbrev pub invariant-loop-method : goal.invariant-loop-method
invariant-loop-method l =
    (length l.numbers.items ≡ l.method)
    × ((i : ℕ) → i < l.method → IsKeyNumber l.entries l.all (key_at (keys_at l.entries l.class) i) (get_or l.numbers.items i 0))
