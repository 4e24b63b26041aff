use Rattle.cls_set.specs.ClassRules.{set_rule}
use Rattle.cls_set.proofs.Broken.{AreWhole}
use Rattle.cls_set.proofs.rules.refuse.Given as goal

-- no class so far breaks the rule
abbrev pub invariant-loop-index : goal.invariant-loop-index
invariant-loop-index l = AreWhole l.entries (set_rule l.rule) l.index
