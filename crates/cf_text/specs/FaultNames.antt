-- The name of each rule on class files, and the numbers of faults. (This project's own.)
use Rattle.std.specs.Prelude.{ℕ, List, codes}
use Rattle.cf_text.specs.Order.{number_of}
use Rattle.cf_text.specs.declared.fault.ReadFault.TheVariants as read_fault
use Rattle.cf_text.specs.declared.fault.ReadFault.{ReadFault}
use Rattle.cf_text.specs.declared.fault.Rule.TheVariants as rules
use Rattle.cf_text.specs.declared.fault.Rule.{Rule}

-- the name of a rule
abbrev pub name_of : Rule → List ℕ
name_of rules.Truncated = codes "Truncated"
name_of rules.Magic = codes "Magic"
name_of rules.Version = codes "Version"
name_of rules.Tag = codes "Tag"
name_of rules.Utf8 = codes "Utf8"
name_of rules.Index = codes "Index"
name_of rules.Descriptor = codes "Descriptor"
name_of rules.Flags = codes "Flags"
name_of rules.CodeLength = codes "CodeLength"
name_of rules.AttributeLength = codes "AttributeLength"
name_of rules.Duplicate = codes "Duplicate"
name_of rules.Trailing = codes "Trailing"
name_of rules.OutOfProfile = codes "OutOfProfile"
name_of rules.TooLarge = codes "TooLarge"

-- the number of a fault
abbrev pub read_fault_number : ReadFault → ℕ
read_fault_number (read_fault.Broken rule at) = number_of rule
read_fault_number read_fault.Memory = 15
