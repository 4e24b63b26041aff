use Rattle.std.proofs.Common.{◌≡◌, take}
use Rattle.std.specs.List.{flat_map}
use Rattle.sp_rules.specs.Classes.{Setting}
use Rattle.sp_rules.specs.State.{State}
use Rattle.sp_state.specs.Spaces.{IsSpace}
use Rattle.sp_state.specs.Sweeping.{fields_at}
use Rattle.sp_state.proofs.space_state.SpaceState.references_of.Given as goal

-- those of the objects so far
abbrev pub invariant-loop-id : goal.invariant-loop-id
invariant-loop-id l = (g : Setting) (s : State) → IsSpace g s l.self → l.references.items ≡ flat_map (fields_at g s) (take l.id-index l.ids)
