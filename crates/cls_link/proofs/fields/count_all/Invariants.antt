use Rattle.std.proofs.Common.{◌≡◌, ◌<◌, length, get_or}
use Rattle.space_ids.specs.declared.ids.ClassId.{ClassId}
use Rattle.cls_link.specs.Fields.{AreNoted, CountsFields}
use Rattle.cls_link.proofs.fields.count_all.Given as goal

-- the fields of the classes so far are counted, and what is noted are counts
abbrev pub invariant-loop-number : goal.invariant-loop-number
invariant-loop-number l =
    AreNoted l.set l.noted.items × (length l.counts.items ≡ l.number) × ((class : ClassId) → class.0 < l.number → CountsFields l.set class (get_or l.counts.items class.0 0))
