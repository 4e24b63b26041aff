use Rattle.std.proofs.Common.{◌≡◌, ◌≤◌, take}
use Rattle.cls_set.specs.Rules.{package_name}
use Rattle.cls_set.proofs.inheriting.package_name.Given as goal

-- the package of the bytes so far
abbrev pub invariant-loop-index : goal.invariant-loop-index
invariant-loop-index l = (l.end ≤ l.index) × (take l.end l.name ≡ package_name (take l.index l.name))
