use Rattle.std.proofs.Common.{◌≡◌, ℕ, List, take}
use Rattle.std.specs.Prelude.{◌||◌}
use Rattle.std.specs.List.{list_any}
use Rattle.space_ids.specs.declared.ids.ObjId.{ObjId}
use Rattle.sp_parked.specs.Parkings.{AreParked}
use Rattle.sp_parked.specs.declared.frame.ParkedFrame.{ParkedFrame}
use Rattle.sp_rules.specs.Classes.{Setting}
use Rattle.sp_rules.specs.References.{is_id_in}
use Rattle.sp_endings.specs.Needs.{needed_at}
use Rattle.sp_endings.proofs.needing.insert_parked.Given as goal

-- those of the tickets so far
abbrev pub invariant-loop-ticket : goal.invariant-loop-ticket
invariant-loop-ticket l = (g : Setting) (frames : List (ℕ × ParkedFrame)) → l.own ≡ g.id → AreParked frames l.parked → (id : ObjId)
    → is_id_in l.ids id ≡ (is_id_in l.initial.ids id || list_any (λ (t : ℕ). needed_at g t frames id) (take l.ticket-index l.ticket-items))
