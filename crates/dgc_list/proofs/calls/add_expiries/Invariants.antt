use Rattle.std.proofs.Common.{take, Contains}
use Rattle.dgc_list.specs.declared.expiries.Expiry.{Expiry}
use Rattle.dgc_list.specs.Objects.{ArePlanned}
use Rattle.dgc_list.proofs.calls.add_expiries.Given as goal

-- the expiries of the objects so far are in the row, with all that was there
abbrev pub invariant-loop-id : goal.invariant-loop-id
invariant-loop-id l =
    ArePlanned l.client (take l.id-index l.ids) l.number l.moment l.objects l.expiries
    × ((other : Expiry) → Contains l.initial.expiries other → Contains l.expiries other)
