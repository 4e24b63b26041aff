-- A deadline is a moment at which something becomes of the lease of the reference at an index. (This project's own; no rule of a standard.)
use Rattle.std.specs.Prelude.{◌≡◌, ℕ, ◌+◌, ◌-◌, false, List, Contains, map, filter, ◌==◌, nat_lt, if◌then◌else◌}
use Rattle.std.specs.BTreeSet.{BTreeSet}
use Rattle.std.specs.BTreeMap.Range.{range_contains}
use Rattle.std.specs.declared.ops.Bound.TheVariants.{Included, Unbounded}
use Rattle.std.specs.declared.cmp.Ordering.{Ordering}
use Rattle.dgc_index.specs.declared.deadlines.Deadline.{Deadline}
use Rattle.dgc_index.specs.declared.deadlines.Deadlines.{Deadlines}
use Rattle.dgc_index.specs.contracts.deadlines.DeadlineOrd.TheImpl as deadline_ord

-- The moment by which `part` milliseconds of a period are over, if its call was sent at `sent`. A part of 0 is over at any moment, and 2^64
-- - 1 is the last moment.
abbrev pub over_at : (sent part : ℕ) → ℕ
over_at sent part = if part == 0 then 0 else (if nat_lt (18446744073709551615 - sent) part then 18446744073709551615 else sent + part)

-- the deadline may be one
abbrev pub IsPlanned : Deadlines → Deadline → Type 0
IsPlanned deadlines deadline = deadlines.all ≡ false → Contains deadlines.row.keys deadline

-- the order of deadlines: by their moments, then by their indexes
abbrev pub order : Deadline → Deadline → Ordering
order = (deadline_ord.ghosts).cmp

-- the indexes of the deadlines up to a moment
abbrev pub indexes_up_to : ℕ → BTreeSet Deadline → List ℕ
indexes_up_to moment row =
    map (λ (deadline : Deadline). deadline.index) (filter (range_contains order Unbounded (Included (record { moment = moment; index = 18446744073709551615 }))) row.keys)
