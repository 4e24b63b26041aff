-- The space's own objects that what lives in it needs (Java RMI specification, 3.3).
use Rattle.std.specs.Prelude.{ℕ, ◌||◌, nat_eq, Bool, List}
use Rattle.std.specs.Map.{lookup}
use Rattle.space_ids.specs.declared.ids.ObjId.{ObjId}
use Rattle.sp_parked.specs.declared.frame.ParkedFrame.{ParkedFrame}
use Rattle.sp_rules.specs.Classes.{Setting}
use Rattle.sp_rules.specs.Frames.{is_call_frame}
use Rattle.sp_rules.specs.Holders.{in_frame, is_held_by_tasks, is_in_a_result, is_parked}
use Rattle.sp_rules.specs.References.{is_id_in}
use Rattle.sp_rules.specs.State as rules
use Rattle.sp_rules.specs.State.{State}
use Rattle.sp_living.specs.Tickets.{is_found}

-- A living task holds an object, a held result has it, or a parked call.
abbrev pub is_needed : Setting → State → ObjId → Bool
is_needed g s id = is_held_by_tasks g s id || (is_in_a_result g s id || is_parked g s id)

-- whether a call is parked under a ticket
abbrev pub calls_at : ℕ → List (ℕ × ParkedFrame) → Bool
calls_at ticket frames = is_found (λ (p : rules.ParkedFrame). is_call_frame p.frame) (lookup (nat_eq ticket) frames)

-- whether the call that is parked under a ticket has an object
abbrev pub needed_at : Setting → ℕ → List (ℕ × ParkedFrame) → ObjId → Bool
needed_at g ticket frames id = is_found (λ (p : rules.ParkedFrame). is_id_in (in_frame g p.frame) id) (lookup (nat_eq ticket) frames)
