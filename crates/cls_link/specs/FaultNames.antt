-- The numbers of the faults of linking. (This project's own.)
use Rattle.std.specs.Prelude.{ℕ}
use Rattle.cls_resolve.specs.RuleNames.{link_rule_number}
use Rattle.cls_link.specs.declared.fault.LinkFault.TheVariants as link_fault
use Rattle.cls_link.specs.declared.fault.LinkFault.{LinkFault}

-- the number of a fault
abbrev pub link_fault_number : LinkFault → ℕ
link_fault_number (link_fault.Broken rule class method descriptor at) = link_rule_number rule
link_fault_number link_fault.Memory = 15
