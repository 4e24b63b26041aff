use Rattle.std.proofs.Common.{◌≡◌, ◌<◌, [], length}
use Rattle.std.specs.Prelude.{slice_index_or}
use Rattle.space_ids.specs.declared.ids.ClassId.{ClassId}
use Rattle.cls_tables.specs.Slots.{HasSlots}
use Rattle.cls_tables.proofs.slots.all_slots.Given as goal

-- the classes so far have their slots
abbrev pub invariant-loop-number : goal.invariant-loop-number
invariant-loop-number l =
    (length l.rows.items ≡ l.number) × ((class : ClassId) → class.0 < l.number → HasSlots l.linked.classes class (slice_index_or l.rows.items class.0 []))
