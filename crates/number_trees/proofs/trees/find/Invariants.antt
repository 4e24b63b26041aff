use Rattle.std.proofs.Common.{◌≡◌, ◌-◌}
use Rattle.number_trees.specs.Trees.{find}
use Rattle.number_trees.proofs.trees.find.Given as goal

-- what is found from here on is what is found
abbrev pub invariant-loop-level : goal.invariant-loop-level
invariant-loop-level l = find l.fn.nodes (l.fn.levels - l.level) l.index l.rest ≡ find l.fn.nodes l.fn.levels l.fn.root l.fn.key
