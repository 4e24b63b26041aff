use Rattle.std.proofs.Common.{◌≡◌, ℕ, ◌<◌, ◌≤◌, length, get_or, take}
use Rattle.std.specs.List.{filter_map}
use Rattle.dgc_client.specs.Table.{leases_of}
use Rattle.dgc_client.specs.Touched.{reference_of, HasAllOf}
use Rattle.dgc_client.proofs.picked.picked.Given as goal

-- the references up to the index `passed`; the candidates so far are below it
abbrev pub invariant-loop-at : goal.invariant-loop-at
invariant-loop-at l =
    (l.passed ≤ length (leases_of l.leases))
    × (HasAllOf (reference_of l.question) (leases_of l.leases) l.candidates → l.references.items ≡ filter_map (reference_of l.question) (take l.passed (leases_of l.leases)))
    × ((j : ℕ) → j < l.at-index → get_or l.candidates j 0 < length (leases_of l.leases) → get_or l.candidates j 0 < l.passed)
