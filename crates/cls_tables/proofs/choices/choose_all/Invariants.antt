use Rattle.std.proofs.Common.{◌≡◌, ◌<◌, Some, length}
use Rattle.std.specs.Prelude.{slice_get, slice_index_or}
use Rattle.space_ids.specs.declared.ids.ClassId.{ClassId}
use Rattle.cls_tables.specs.Choices.{HasChoices, HaveSome}
use Rattle.cls_tables.proofs.choices.choose_all.Given as goal

-- the classes so far have their trees
abbrev pub invariant-loop-number : goal.invariant-loop-number
invariant-loop-number l =
    (slice_get l.nodes.items 0 ≡ Some (record { even = 0; odd = 0 })) × HaveSome l.linked.classes l.keys.levels l.keys.keys.items l.nodes.items l.memo.items × (length l.roots.items ≡ l.number)
    × ((class : ClassId) → class.0 < l.number → HasChoices l.linked.classes l.keys.levels l.keys.keys.items class l.nodes.items (slice_index_or l.roots.items class.0 0))
