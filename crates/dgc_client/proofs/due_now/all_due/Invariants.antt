use Rattle.std.proofs.Common.{◌≡◌, ℕ, ◌<◌, ◌≤◌, take, vec_len, vec_capacity}
use Rattle.std.specs.List.{filter_map}
use Rattle.dgc_index.specs.Touched.{IsTouched}
use Rattle.dgc_client.specs.Table.{leases_of}
use Rattle.dgc_client.specs.Touched.{call_of_entry, IsDueAt}
use Rattle.dgc_client.proofs.due_now.all_due.Given as goal

-- the calls so far, their indexes, and the room
abbrev pub invariant-loop-at : goal.invariant-loop-at
invariant-loop-at l =
    (l.calls.items ≡ filter_map call_of_entry (take l.at (leases_of l.leases)))
    × ((i : ℕ) → i < l.at → IsDueAt (leases_of l.leases) i → IsTouched l.again i)
    × (vec_len l.calls ≤ l.at)
    × (vec_capacity l.calls ≡ vec_capacity l.initial.calls)
