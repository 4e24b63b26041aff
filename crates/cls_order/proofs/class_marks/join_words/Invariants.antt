use Rattle.std.proofs.Common.{◌≡◌, ◌<◌, ◌≤◌, ℕ, bit_or, get_or, length}
use Rattle.cls_order.proofs.class_marks.join_words.Given as goal

-- the words before the index are joined, and the others are as they were
abbrev pub invariant-loop-index : goal.invariant-loop-index
invariant-loop-index l =
    (length l.words.items ≡ length l.fn.words.items)
    × ((k : ℕ) → k < l.index → get_or l.words.items k 0 ≡ bit_or (get_or l.fn.words.items k 0) (get_or l.others k 0))
    × ((k : ℕ) → l.index ≤ k → get_or l.words.items k 0 ≡ get_or l.fn.words.items k 0)
