use Rattle.std.proofs.Common.{List, take}
use Rattle.dgc_list.specs.History as owner
use Rattle.sp_owner.specs.Owners.{forgotten}
use Rattle.sp_owner.proofs.sweeping.forget.Given as goal

-- those so far are forgotten
abbrev pub invariant-loop-id : goal.invariant-loop-id
invariant-loop-id l = (h : List owner.Call) → owner.IsAfter h l.initial.entries → owner.IsAfter (forgotten (take l.id-index l.ids) h) l.entries
