-- The number and the name of each rule on class sets, and the numbers of faults. (This project's own.)
use Rattle.std.specs.Prelude.{ℕ, List, codes}
use Rattle.cls_order.specs.declared.fault.SetFault.TheVariants as set_fault
use Rattle.cls_order.specs.declared.fault.SetFault.{SetFault}
use Rattle.cls_order.specs.declared.fault.SetRule.TheVariants as set_rule
use Rattle.cls_order.specs.declared.fault.SetRule.{SetRule}

-- the number of a rule
abbrev pub set_rule_number : SetRule → ℕ
set_rule_number set_rule.Duplicate = 30
set_rule_number set_rule.AbsentClass = 31
set_rule_number set_rule.Cycle = 32
set_rule_number set_rule.BadSuper = 33
set_rule_number set_rule.FinalSuper = 34
set_rule_number set_rule.RemoteField = 35
set_rule_number set_rule.RemoteMethod = 36
set_rule_number set_rule.Override = 37
set_rule_number set_rule.TooMany = 38

-- the name of a rule
abbrev pub set_rule_name : SetRule → List ℕ
set_rule_name set_rule.Duplicate = codes "Duplicate"
set_rule_name set_rule.AbsentClass = codes "AbsentClass"
set_rule_name set_rule.Cycle = codes "Cycle"
set_rule_name set_rule.BadSuper = codes "BadSuper"
set_rule_name set_rule.FinalSuper = codes "FinalSuper"
set_rule_name set_rule.RemoteField = codes "RemoteField"
set_rule_name set_rule.RemoteMethod = codes "RemoteMethod"
set_rule_name set_rule.Override = codes "Override"
set_rule_name set_rule.TooMany = codes "TooMany"

-- the number of a fault
abbrev pub set_fault_number : SetFault → ℕ
set_fault_number (set_fault.Broken rule class) = set_rule_number rule
set_fault_number set_fault.Memory = 15
