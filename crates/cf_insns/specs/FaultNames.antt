-- The number and the name of each rule on code, and the numbers of faults. (This project's own.)
use Rattle.std.specs.Prelude.{ℕ, List, codes}
use Rattle.cf_insns.specs.declared.fault.CodeFault.TheVariants as code_fault
use Rattle.cf_insns.specs.declared.fault.CodeFault.{CodeFault}
use Rattle.cf_insns.specs.declared.fault.CodeRule.TheVariants as code_rule
use Rattle.cf_insns.specs.declared.fault.CodeRule.{CodeRule}

-- the number of a rule
abbrev pub code_rule_number : CodeRule → ℕ
code_rule_number code_rule.Opcode = 20
code_rule_number code_rule.Cut = 21
code_rule_number code_rule.Padding = 22
code_rule_number code_rule.Keys = 23
code_rule_number code_rule.Target = 24
code_rule_number code_rule.OutOfProfile = 25

-- the name of a rule
abbrev pub code_rule_name : CodeRule → List ℕ
code_rule_name code_rule.Opcode = codes "Opcode"
code_rule_name code_rule.Cut = codes "Cut"
code_rule_name code_rule.Padding = codes "Padding"
code_rule_name code_rule.Keys = codes "Keys"
code_rule_name code_rule.Target = codes "Target"
code_rule_name code_rule.OutOfProfile = codes "OutOfProfile"

-- the number of a fault
abbrev pub code_fault_number : CodeFault → ℕ
code_fault_number (code_fault.Broken rule at) = code_rule_number rule
code_fault_number code_fault.Memory = 15
