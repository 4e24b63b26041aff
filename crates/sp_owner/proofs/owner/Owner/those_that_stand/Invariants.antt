use Rattle.std.proofs.Common.{◌≡◌, take}
use Rattle.sp_rules.specs.Classes.{Setting}
use Rattle.sp_rules.specs.Frames.{that_stand}
use Rattle.sp_rules.specs.State.{State}
use Rattle.sp_owner.specs.Owners.{IsOwner}
use Rattle.sp_owner.proofs.owner.Owner.those_that_stand.Given as goal

-- those so far
abbrev pub invariant-loop-id : goal.invariant-loop-id
invariant-loop-id l = (g : Setting) (s : State) → IsOwner g s l.self → l.standing.items ≡ that_stand s (take l.id-index l.ids)
