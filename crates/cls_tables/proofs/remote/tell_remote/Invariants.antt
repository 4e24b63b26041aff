use Rattle.std.proofs.Common.{◌≡◌, ◌<◌, ◌↔◌, false, length, IsTrue}
use Rattle.std.specs.Prelude.{slice_index_or}
use Rattle.cls_set.specs.Subtypes.{IsRemote}
use Rattle.space_ids.specs.declared.ids.ClassId.{ClassId}
use Rattle.cls_tables.proofs.remote.tell_remote.Given as goal

-- it is told of the classes so far
abbrev pub invariant-loop-number : goal.invariant-loop-number
invariant-loop-number l =
    (length l.told.items ≡ l.number) × ((class : ClassId) → class.0 < l.number → IsTrue (slice_index_or l.told.items class.0 false) ↔ IsRemote l.set class)
