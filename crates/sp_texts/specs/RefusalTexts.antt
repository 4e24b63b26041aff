-- What is printed of a refusal, a line each: `cannot read PATH`, `cannot read PATH: not a folder`, `refused PATH at OFFSET: N NAME`,
-- `refused CLASS: N NAME`, `refused CLASS.METHODDESCRIPTOR at OFFSET: N NAME` or `refused start: N NAME`. (This project's own.)
use Rattle.std.specs.Prelude.{◌≡◌, ◌≢◌, ◌<◌, ◌++◌, ℕ, List, codes, length, slice_get}
use Rattle.std.specs.Fmt.{decimal}
use Rattle.std.specs.Option.{IsSomeAnd}
use Rattle.std.specs.String.{string_bytes}
use Rattle.cf_load.specs.declared.load_fault.LoadFault.{LoadFault}
use Rattle.cf_load.specs.declared.load_fault.LoadFault.TheVariants as load
use Rattle.cf_text.specs.FaultNames.{name_of}
use Rattle.cf_text.specs.Order.{number_of}
use Rattle.cf_text.specs.declared.fault.ReadFault.TheVariants as read
use Rattle.cls_resolve.specs.RuleNames.{link_rule_name, link_rule_number}
use Rattle.cls_link.specs.declared.fault.LinkFault.{LinkFault}
use Rattle.cls_link.specs.declared.fault.LinkFault.TheVariants as link
use Rattle.cls_set.specs.FaultNames.{set_rule_name, set_rule_number}
use Rattle.cls_set.specs.declared.fault.SetFault.{SetFault}
use Rattle.cls_set.specs.declared.fault.SetFault.TheVariants as set
use Rattle.sp_texts.specs.Reports.{line_of}
use Rattle.sp_files.specs.declared.refusal.Refusal.{Refusal}
use Rattle.sp_files.specs.declared.refusal.Refusal.TheVariants as refusal
use Rattle.sp_files.specs.declared.files.ClassBytes.{ClassBytes}
use Rattle.ver_rules.specs.FaultNames.{check_rule_name, check_rule_number}
use Rattle.ver_rules.specs.declared.fault.CheckFault.{CheckFault}
use Rattle.ver_rules.specs.declared.fault.CheckFault.TheVariants as check
use Rattle.vm_step.specs.FaultNames.{start_fault_name, start_fault_number}
use Rattle.vm_step.specs.declared.fault.StartFault.{StartFault}
use Rattle.vm_step.specs.declared.fault.StartFault.TheVariants as start

-- a file or a folder that cannot be read
abbrev pub unreadable_text : (path : List ℕ) → List ℕ
unreadable_text path = codes "cannot read " ++ path

-- a path that leads to no folder that can be read
abbrev pub TellsUnreadable : (path text : List ℕ) → Type 0
TellsUnreadable path text = text ≡ line_of (unreadable_text path)

-- what is refused, and after it the number of a rule, in decimal, and its name
abbrev pub rule_text : (refused : List ℕ) → (number : ℕ) → (name : List ℕ) → List ℕ
rule_text refused number name = refused ++ codes ": " ++ decimal number ++ codes " " ++ name

-- a method, and an offset in its code
abbrev pub refused_method : (class method descriptor : List ℕ) → (at : ℕ) → List ℕ
refused_method class method descriptor at = codes "refused " ++ class ++ codes "." ++ method ++ descriptor ++ codes " at " ++ decimal at

-- what is wrong with the file of a path; out of memory has no text here and below
abbrev pub TellsFile : (path : List ℕ) → LoadFault → (text : List ℕ) → Type 0
TellsFile path load.Device text = text ≡ line_of (unreadable_text path)
TellsFile path (load.Read (read.Broken rule at)) text = text ≡ line_of (rule_text (codes "refused " ++ path ++ codes " at " ++ decimal at) (number_of rule) (name_of rule))
TellsFile path (load.Read read.Memory) text = ⊥

-- what is wrong with the class set, by the name of a class
abbrev pub TellsSet : SetFault → (text : List ℕ) → Type 0
TellsSet (set.Broken rule class) text = text ≡ line_of (rule_text (codes "refused " ++ class) (set_rule_number rule) (set_rule_name rule))
TellsSet set.Memory text = ⊥

-- why a method does not link
abbrev pub TellsLink : LinkFault → (text : List ℕ) → Type 0
TellsLink (link.Broken rule class method descriptor at) text = text ≡ line_of (rule_text (refused_method class method descriptor at) (link_rule_number rule) (link_rule_name rule))
TellsLink link.Memory text = ⊥

-- why a method is not type safe
abbrev pub TellsCheck : CheckFault → (text : List ℕ) → Type 0
TellsCheck (check.Broken rule class method descriptor at) text = text ≡ line_of (rule_text (refused_method class method descriptor at) (check_rule_number rule) (check_rule_name rule))
TellsCheck check.Memory text = ⊥

-- why a method does not start
abbrev pub TellsStart : StartFault → (text : List ℕ) → Type 0
TellsStart fault text = (fault ≢ start.Memory) × (text ≡ line_of (rule_text (codes "refused start") (start_fault_number fault) (start_fault_name fault)))

-- a refusal is one of these files: the index of a file that is refused is an index of the list
abbrev pub IsRefusalOf : List ClassBytes → Refusal → Type 0
IsRefusalOf files (refusal.File index fault) = index < length files
IsRefusalOf files _ = Unit {0}

-- a refusal of these files; the file at fault is named by its path
abbrev pub TellsRefusal : List ClassBytes → Refusal → (text : List ℕ) → Type 0
TellsRefusal files (refusal.File index fault) text = IsSomeAnd (slice_get files index) (λ file. TellsFile (string_bytes file.path) fault text)
TellsRefusal files (refusal.Set fault) text = TellsSet fault text
TellsRefusal files (refusal.Link fault) text = TellsLink fault text
TellsRefusal files (refusal.Check fault) text = TellsCheck fault text
TellsRefusal files (refusal.Start fault) text = TellsStart fault text
TellsRefusal files refusal.Memory text = ⊥
