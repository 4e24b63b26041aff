-- The number and the name of each rule of type checking, and the numbers of faults. (This project's own.)
use Rattle.std.specs.Prelude.{ℕ, List, codes}
use Rattle.ver_rules.specs.declared.fault.CheckFault.TheVariants as check_fault
use Rattle.ver_rules.specs.declared.fault.CheckFault.{CheckFault}
use Rattle.ver_rules.specs.declared.fault.CheckRule.TheVariants as check_rule
use Rattle.ver_rules.specs.declared.fault.CheckRule.{CheckRule}
use Rattle.ver_frames.specs.FaultNames.{stack_map_rule_number, stack_map_rule_name}

-- the number of a rule
abbrev pub check_rule_number : CheckRule → ℕ
check_rule_number (check_rule.StackMap rule) = stack_map_rule_number rule
check_rule_number check_rule.Underflow = 60
check_rule_number check_rule.Overflow = 61
check_rule_number check_rule.Mismatch = 62
check_rule_number check_rule.Uninitialized = 63
check_rule_number check_rule.NoFrame = 64
check_rule_number check_rule.NotAssignable = 65
check_rule_number check_rule.FallsOff = 66
check_rule_number check_rule.Local = 67
check_rule_number check_rule.Return = 68

-- the name of a rule
abbrev pub check_rule_name : CheckRule → List ℕ
check_rule_name (check_rule.StackMap rule) = stack_map_rule_name rule
check_rule_name check_rule.Underflow = codes "Underflow"
check_rule_name check_rule.Overflow = codes "Overflow"
check_rule_name check_rule.Mismatch = codes "Mismatch"
check_rule_name check_rule.Uninitialized = codes "Uninitialized"
check_rule_name check_rule.NoFrame = codes "NoFrame"
check_rule_name check_rule.NotAssignable = codes "NotAssignable"
check_rule_name check_rule.FallsOff = codes "FallsOff"
check_rule_name check_rule.Local = codes "Local"
check_rule_name check_rule.Return = codes "Return"

-- the number of a fault
abbrev pub check_fault_number : CheckFault → ℕ
check_fault_number (check_fault.Broken rule class method descriptor at) = check_rule_number rule
check_fault_number check_fault.Memory = 15
