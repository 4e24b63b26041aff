-- The number and the name of each rule on what instructions name. (This project's own.)
use Rattle.std.specs.Prelude.{ℕ, List, codes}
use Rattle.cf_insns.specs.FaultNames.{code_rule_number, code_rule_name}
use Rattle.cls_resolve.specs.declared.rule.LinkRule.TheVariants as link_rule
use Rattle.cls_resolve.specs.declared.rule.LinkRule.{LinkRule}

-- the number of a rule
abbrev pub link_rule_number : LinkRule → ℕ
link_rule_number (link_rule.Code rule) = code_rule_number rule
link_rule_number link_rule.AbsentField = 40
link_rule_number link_rule.AbsentMethod = 41
link_rule_number link_rule.Access = 42
link_rule_number link_rule.StaticMismatch = 43
link_rule_number link_rule.FinalField = 44
link_rule_number link_rule.Abstract = 45
link_rule_number link_rule.WrongRefKind = 46
link_rule_number link_rule.AbsentClass = 47
link_rule_number link_rule.PrivateVirtual = 48

-- the name of a rule
abbrev pub link_rule_name : LinkRule → List ℕ
link_rule_name (link_rule.Code rule) = code_rule_name rule
link_rule_name link_rule.AbsentField = codes "AbsentField"
link_rule_name link_rule.AbsentMethod = codes "AbsentMethod"
link_rule_name link_rule.Access = codes "Access"
link_rule_name link_rule.StaticMismatch = codes "StaticMismatch"
link_rule_name link_rule.FinalField = codes "FinalField"
link_rule_name link_rule.Abstract = codes "Abstract"
link_rule_name link_rule.WrongRefKind = codes "WrongRefKind"
link_rule_name link_rule.AbsentClass = codes "AbsentClass"
link_rule_name link_rule.PrivateVirtual = codes "PrivateVirtual"
