use Rattle.cls_tables.proofs.FieldRows.{AreSo}
use Rattle.cls_tables.proofs.slots.slots_from.Given as goal

-- the slots of the fields so far are written
abbrev pub invariant-loop-field : goal.invariant-loop-field
invariant-loop-field l = AreSo l.fn.first l.fn.fields l.field-index l.next l.slots.items
