-- Which files make a set, and which fault is named if they make none: the rules are looked for in the order of their numbers, each over all classes,
-- and the first class at fault by name is named (a rule of this project).
use Rattle.std.specs.Prelude.{◌≡◌, ◌≤◌, ◌<◌, ◌-◌, ℕ, Some, List, length, Contains, option_map, slice_get}
use Rattle.std.specs.declared.cmp.Ordering.TheVariants.{Less}
use Rattle.cf_reader.specs.declared.class_file.ClassFile.{ClassFile}
use Rattle.cls_order.specs.declared.fault.SetFault.{SetFault}
use Rattle.cls_order.specs.declared.fault.SetFault.TheVariants.{Broken, Memory}
use Rattle.cls_order.specs.declared.fault.SetRule.{SetRule}
use Rattle.cls_order.specs.declared.fault.SetRule.TheVariants.{Duplicate, AbsentClass, Cycle, TooMany}
use Rattle.cls_order.specs.Classes.{name_cmp}
use Rattle.cls_order.specs.FaultNames.{set_rule_number}
use Rattle.cls_set.specs.Rules.{Breaks}
use Rattle.cls_order.specs.Sets.{Origin, origins, origin_names, IsFirstAbsent, IsFirstCycle, IsFirstDuplicate, IsWithoutAbsent, IsWithoutCycles, IsWithoutDuplicates}

-- more classes than a set may have, and the last file has this name (a rule of this project)
pub record IsTooMany (files : List ClassFile) (name : List ℕ) : Type 0 where
  pub many : 4096 < length (origins files)
  pub last : option_map (λ file. file.name) (slice_get files (length files - 1)) ≡ Some name

-- a class of this name breaks a rule, and no class before it by name does
pub record IsFirstToBreak (classes : List Origin) (rule : SetRule) (name : List ℕ) : Type 0 where
  pub class : Origin
  pub stands : Contains classes class
  pub named : name ≡ class.0.name
  pub broken : Breaks classes class.0 rule
  pub first : (other : Origin) → Contains classes other → name_cmp other.0.name name ≡ Less → ¬ Breaks classes other.0 rule

-- no class breaks a rule
abbrev pub Keeps : List Origin → SetRule → Type 0
Keeps classes rule = (class : Origin) → Contains classes class → ¬ Breaks classes class.0 rule

-- the class of these files, by name, that breaks a rule
abbrev pub IsBrokenBy : List ClassFile → SetRule → List ℕ → Type 0
IsBrokenBy files Duplicate name = IsFirstDuplicate (origin_names files) name
IsBrokenBy files TooMany name = IsTooMany files name
IsBrokenBy files AbsentClass name = IsFirstAbsent (origin_names files) (origins files) name
IsBrokenBy files Cycle name = IsFirstCycle (origins files) name
IsBrokenBy files rule name = IsFirstToBreak (origins files) rule name

-- these files break no such rule
abbrev pub IsKept : List ClassFile → SetRule → Type 0
IsKept files Duplicate = IsWithoutDuplicates (origin_names files)
IsKept files TooMany = length (origins files) ≤ 4096
IsKept files AbsentClass = IsWithoutAbsent (origin_names files) (origins files)
IsKept files Cycle = IsWithoutCycles (origins files)
IsKept files rule = Keeps (origins files) rule

-- the files make a set: they break no rule
abbrev pub MakeASet : List ClassFile → Type 0
MakeASet files = (rule : SetRule) → IsKept files rule

-- the fault of files that make no set, unless memory ran out: the broken rule of the lowest number, and the class that breaks it
abbrev pub IsSetFault : List ClassFile → SetFault → Type 0
IsSetFault files Memory = Unit {0}
IsSetFault files (Broken rule name) = IsBrokenBy files rule name × ((other : SetRule) → set_rule_number other < set_rule_number rule → IsKept files other)
