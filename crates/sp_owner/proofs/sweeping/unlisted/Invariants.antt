use Rattle.std.proofs.Common.{◌≡◌, List, filter, length, take}
use Rattle.std.specs.Prelude.{nat_lt, not}
use Rattle.dgc_list.specs.History as owner
use Rattle.sp_owner.proofs.sweeping.unlisted.Given as goal

-- those so far
abbrev pub invariant-loop-id : goal.invariant-loop-id
invariant-loop-id l =
    (h : List owner.Call) → owner.IsAfter h l.entries → l.left.items ≡ filter (λ id. not (nat_lt 0 (length (owner.clients_of h id)))) (take l.id-index l.ids)
