use Rattle.std.proofs.Common.{◌≡◌, ◌<◌, length}
use Rattle.std.specs.Prelude.{slice_index_or}
use Rattle.space_ids.specs.declared.ids.ClassId.{ClassId}
use Rattle.cls_tables.specs.Kinds.{AreLaid, IsLaid}
use Rattle.cls_tables.proofs.kinds.lay_all.Given as goal

-- the classes so far are laid out
abbrev pub invariant-loop-number : goal.invariant-loop-number
invariant-loop-number l =
    AreLaid l.set l.row.items l.memo.items × (length l.spans.items ≡ l.number)
    × ((class : ClassId) → class.0 < l.number → IsLaid l.set class l.row.items (slice_index_or l.spans.items class.0 (record { start = 0; end = 0 })))
