-- That memory ran out, in each of the answers that say so. (This project's own.)
use Rattle.std.specs.Prelude.{◌≡◌}
use Rattle.cf_load.specs.declared.load_fault.LoadFault.{LoadFault}
use Rattle.cf_load.specs.declared.load_fault.LoadFault.TheVariants as load
use Rattle.cf_text.specs.declared.fault.ReadFault.TheVariants as read
use Rattle.cls_link.specs.declared.fault.LinkFault.TheVariants as link
use Rattle.cls_set.specs.declared.fault.SetFault.TheVariants as set
use Rattle.sp_files.specs.declared.refusal.Refusal.{Refusal}
use Rattle.sp_files.specs.declared.refusal.Refusal.TheVariants as refusal
use Rattle.ver_rules.specs.declared.fault.CheckFault.TheVariants as check
use Rattle.vm_step.specs.declared.fault.StartFault.TheVariants as start

-- memory ran out while a file was read
abbrev pub IsReadOut : LoadFault → Type 0
IsReadOut fault = fault ≡ load.Read read.Memory

-- memory ran out: all other refusals say that something is wrong
abbrev pub IsOutOfMemory : Refusal → Type 0
IsOutOfMemory (refusal.File index fault) = IsReadOut fault
IsOutOfMemory (refusal.Set fault) = fault ≡ set.Memory
IsOutOfMemory (refusal.Link fault) = fault ≡ link.Memory
IsOutOfMemory (refusal.Check fault) = fault ≡ check.Memory
IsOutOfMemory (refusal.Start fault) = fault ≡ start.Memory
IsOutOfMemory refusal.Memory = Unit {0}
