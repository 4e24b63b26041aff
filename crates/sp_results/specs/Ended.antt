-- Results whose connection has ended, in the order in which the connections ended. (This project's own.)
use Rattle.std.specs.Prelude.{ℕ, ◌-◌, ◌≤◌, nat_le, List, [], ◌∷◌, map, if◌then◌else◌}
use Rattle.std.specs.VecDeque.{deque_capacity, deque_len}
use Rattle.sp_results.specs.declared.orphans.Orphan.{Orphan}
use Rattle.sp_results.specs.declared.orphans.Orphans.{Orphans}

-- those of a connection, with their tickets, that are held until this moment
abbrev pub ended_at : ℕ → List (ℕ × ℕ) → List Orphan
ended_at until numbers = map (λ (row : ℕ × ℕ). record { until = until; ticket = row.1 }) numbers

-- those of the front whose moment has come
abbrev pub over : ℕ → List Orphan → List Orphan
over moment [] = []
over moment (o ∷ os) = if nat_le o.until moment then o ∷ over moment os else []

-- for how many more there is room
abbrev pub room : Orphans → ℕ
room orphans = deque_capacity orphans.queue - deque_len orphans.queue

-- Their moments do not fall, and none is below this one.
abbrev pub AreFrom : ℕ → List Orphan → Type 0
AreFrom moment [] = Unit {0}
AreFrom moment (o ∷ os) = (moment ≤ o.until) × AreFrom o.until os

-- None of their moments is above this one.
abbrev pub AreUntil : ℕ → List Orphan → Type 0
AreUntil moment [] = Unit {0}
AreUntil moment (o ∷ os) = (o.until ≤ moment) × AreUntil moment os
