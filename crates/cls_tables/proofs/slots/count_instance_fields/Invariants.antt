use Rattle.std.proofs.Common.{◌≡◌, take}
use Rattle.std.specs.List.{count_by}
use Rattle.cls_link.specs.Fields.{is_instance}
use Rattle.cls_tables.proofs.slots.count_instance_fields.Given as goal

-- those so far are counted
abbrev pub invariant-loop-field : goal.invariant-loop-field
invariant-loop-field l = l.count ≡ count_by is_instance (take l.field-index l.fields)
