use Rattle.std.proofs.Common.{◌≡◌, true, take}
use Rattle.std.specs.List.{list_all}
use Rattle.sp_rules.specs.Classes.{Setting}
use Rattle.sp_rules.specs.Refusals.{is_root_argument}
use Rattle.sp_rules.specs.References.{references_of}
use Rattle.sp_rules.specs.State.{State}
use Rattle.sp_core.specs.Cores.{IsCore}
use Rattle.sp_core.proofs.space_core.SpaceCore.are_arguments.Given as goal

-- those so far are
abbrev pub invariant-loop-value : goal.invariant-loop-value
invariant-loop-value l = (g : Setting) (s : State) → IsCore g s l.self → list_all (is_root_argument g s) (references_of (take l.value-index l.values)) ≡ true
