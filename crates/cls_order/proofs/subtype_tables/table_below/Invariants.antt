use Rattle.std.proofs.Common.{◌≡◌, length, take}
use Rattle.cls_order.specs.Entries.{classes_of}
use Rattle.cls_order.specs.Telling.{IsTelling}
use Rattle.cls_order.proofs.subtype_tables.table_below.Given as goal

-- the superinterfaces so far are told
abbrev pub invariant-loop-interface : goal.invariant-loop-interface
invariant-loop-interface l =
    (length l.table ≡ length l.entries)
    × IsTelling (classes_of l.entries) (record { 0 = l.index }) (take l.interface-index l.interface-items) l.table
