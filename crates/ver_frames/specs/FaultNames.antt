-- The number and the name of each rule on declared frames, and the numbers of faults. (This project's own.)
use Rattle.std.specs.Prelude.{ℕ, List, codes}
use Rattle.ver_frames.specs.declared.fault.StackMapFault.TheVariants as stack_map_fault
use Rattle.ver_frames.specs.declared.fault.StackMapFault.{StackMapFault}
use Rattle.ver_frames.specs.declared.fault.StackMapRule.TheVariants as stack_map_rule
use Rattle.ver_frames.specs.declared.fault.StackMapRule.{StackMapRule}

-- the number of a rule
abbrev pub stack_map_rule_number : StackMapRule → ℕ
stack_map_rule_number stack_map_rule.Reserved = 50
stack_map_rule_number stack_map_rule.Chop = 51
stack_map_rule_number stack_map_rule.Locals = 52
stack_map_rule_number stack_map_rule.Offset = 53
stack_map_rule_number stack_map_rule.Kind = 54

-- the name of a rule
abbrev pub stack_map_rule_name : StackMapRule → List ℕ
stack_map_rule_name stack_map_rule.Reserved = codes "Reserved"
stack_map_rule_name stack_map_rule.Chop = codes "Chop"
stack_map_rule_name stack_map_rule.Locals = codes "Locals"
stack_map_rule_name stack_map_rule.Offset = codes "Offset"
stack_map_rule_name stack_map_rule.Kind = codes "Kind"

-- the number of a fault
abbrev pub stack_map_fault_number : StackMapFault → ℕ
stack_map_fault_number (stack_map_fault.Broken rule at) = stack_map_rule_number rule
stack_map_fault_number stack_map_fault.Memory = 15
