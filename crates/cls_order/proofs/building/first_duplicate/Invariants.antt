use Rattle.std.proofs.Common.{◌≡◌}
use Rattle.std.specs.List.{AllAdjacentBelow}
use Rattle.std.specs.declared.cmp.Ordering.TheVariants.{Less}
use Rattle.cls_order.specs.Classes.{name_cmp}
use Rattle.cls_order.proofs.building.first_duplicate.Given as goal

-- each name so far is below the next
abbrev pub invariant-loop-index : goal.invariant-loop-index
invariant-loop-index l = AllAdjacentBelow (λ a b. name_cmp a.class.file.name b.class.file.name ≡ Less) l.entries l.index
