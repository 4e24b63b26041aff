use Rattle.std.proofs.Common.{◌≡◌, ℕ, ◌<◌, ◌≤◌, length, get_or, take, vec_len, vec_capacity}
use Rattle.std.specs.List.{filter_map}
use Rattle.dgc_index.specs.Touched.{IsTouched}
use Rattle.dgc_client.specs.Table.{leases_of}
use Rattle.dgc_client.specs.Touched.{call_of_entry, IsDueAt, HasAll}
use Rattle.dgc_client.proofs.due_now.due_now.Given as goal

-- the calls and their indexes up to the passed index, the candidates so far, which are below it, and the room
abbrev pub invariant-loop-at : goal.invariant-loop-at
invariant-loop-at l =
    (l.passed ≤ length (leases_of l.leases))
    × (HasAll (leases_of l.leases) l.candidates → l.calls.items ≡ filter_map call_of_entry (take l.passed (leases_of l.leases)))
    × (HasAll (leases_of l.leases) l.candidates → (i : ℕ) → i < l.passed → IsDueAt (leases_of l.leases) i → IsTouched l.again i)
    × ((j : ℕ) → j < l.at-index → get_or l.candidates j 0 < length (leases_of l.leases) → get_or l.candidates j 0 < l.passed)
    × (vec_len l.calls ≤ l.passed)
    × (vec_len l.calls ≤ l.at-index)
    × (vec_capacity l.calls ≡ vec_capacity l.initial.calls)
