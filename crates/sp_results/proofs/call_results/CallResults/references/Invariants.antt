use Rattle.std.proofs.Common.{◌≡◌, ℕ, List, Option, take, nat_eq}
use Rattle.std.specs.List.{flat_map}
use Rattle.std.specs.Map.{lookup}
use Rattle.space_ids.specs.declared.value.Value.{Value}
use Rattle.rising_map.specs.Rows.{AreRows}
use Rattle.sp_results.specs.Held.{references_found}
use Rattle.sp_results.proofs.call_results.CallResults.references.Given as goal

-- the references in the results of the tickets so far
abbrev pub invariant-loop-ticket : goal.invariant-loop-ticket
invariant-loop-ticket l =
    (rows : List (ℕ × Option Value)) → AreRows rows l.self.values → l.references.items ≡ flat_map (λ (ticket : ℕ). references_found (lookup (nat_eq ticket) rows)) (take l.ticket-index l.tickets)
