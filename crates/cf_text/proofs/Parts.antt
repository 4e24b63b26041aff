-- Parts of a part of a list.
use Rattle.std.proofs.Common.{◌≡◌, ℕ, ◌+◌, ◌-◌, ◌≤◌, List, length, take, drop, refl, arith}
use Rattle.std.proofs.lemmas.Grind.{common_steps}
use Rattle.std.proofs.lemmas.List.{drop-take}

-- how long a part is
pub length_part : (start end : ℕ) (xs : List ℕ) → start ≤ end → end ≤ length xs → length (take (end - start) (drop start xs)) ≡ end - start
length_part start end xs ordered within = grind (arith, common_steps)

drop_drop : (count start : ℕ) (xs : List ℕ) → drop count (drop start xs) ≡ drop (start + count) xs
drop_drop count start xs = grind (arith, common_steps)

-- what follows the front of a part
pub rest_part : (count start end : ℕ) (xs : List ℕ) → count ≤ end - start → start ≤ end → drop count (take (end - start) (drop start xs)) ≡ take (end - (start + count)) (drop (start + count) xs)
rest_part count start end xs few ordered =
    let all : end - start ≡ count + (end - (start + count)) = omega arith in
    rw (all, drop-take count (end - (start + count)) (drop start xs)) (rw (drop_drop count start xs) refl)
