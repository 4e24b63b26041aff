use Rattle.cls_tables.proofs.Chosen.{methods_in, IsSoFar}
use Rattle.cls_tables.specs.Kinds.{Starts}
use Rattle.cls_tables.specs.Trees.{IsTree}
use Rattle.cls_tables.proofs.choices.choose_own.Given as goal

-- the methods from here on are in the tree
abbrev pub invariant-loop-index : goal.invariant-loop-index
invariant-loop-index l =
    Starts l.fn.nodes.items l.nodes.items × IsTree l.nodes.items l.fn.keys.levels l.root
    × IsSoFar l.linked.classes l.fn.keys.levels l.fn.keys.keys.items l.class (methods_in l.linked.classes l.class) l.fn.nodes.items l.nodes.items l.above l.root l.index
