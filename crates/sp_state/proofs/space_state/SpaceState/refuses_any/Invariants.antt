use Rattle.std.proofs.Common.{◌≡◌, false, take}
use Rattle.std.specs.List.{list_any}
use Rattle.sp_rules.specs.Classes.{Setting}
use Rattle.sp_rules.specs.Holders.{is_refused}
use Rattle.sp_rules.specs.References.{references_of}
use Rattle.sp_rules.specs.State.{State}
use Rattle.sp_state.specs.Spaces.{IsSpace}
use Rattle.sp_state.proofs.space_state.SpaceState.refuses_any.Given as goal

-- none of the values so far is refused
abbrev pub invariant-loop-value : goal.invariant-loop-value
invariant-loop-value g l = (setting : Setting) (s : State) → IsSpace setting s l.self → g.C.ClassSet.tells l.classes setting.classes → list_any (is_refused setting s) (references_of (take l.value-index l.values)) ≡ false
