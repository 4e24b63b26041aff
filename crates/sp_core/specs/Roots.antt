-- What the caller of a root tells of the class set. (This project's own.)
use Rattle.std.specs.Prelude.{◌≡◌, ℕ, not, Bool, Option, Some, None, option_map, if◌then◌else◌}
use Rattle.sp_rules.specs.Classes.{Setting}
use Rattle.sp_rules.specs.Refusals.{start_refusal_number}
use Rattle.sp_events.specs.FaultNames.{start_refusal}
use Rattle.sp_events.specs.declared.event.Root.{Root}
use Rattle.sp_events.specs.declared.fault.StartFault.{StartFault}

-- The class set says of the start what the caller tells.
abbrev pub IsTold : Setting → Root → Type 0
IsTold g root = g.classes.start_refusal g.id root.method root.arguments ≡ option_map start_refusal root.refused

-- the lowest number of the reasons to refuse a root: its start, a reference that it may not have, its fuel, and how many tasks live
abbrev pub root_number : Option StartFault → Bool → Bool → Bool → Option ℕ
root_number (Some fault) may_have is_over is_busy = Some (start_refusal_number (start_refusal fault))
root_number None may_have is_over is_busy =
    if not may_have then Some 92 else (if is_over then Some 93 else (if is_busy then Some 99 else None))
