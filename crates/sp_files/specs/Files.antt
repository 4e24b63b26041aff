-- Files that spell class files, and why they are not read.
use Rattle.std.specs.Prelude.{◌≡◌, ℕ, Some, List, take, slice_get}
use Rattle.std.specs.List.{AllZip}
use Rattle.cf_reader.specs.declared.class_file.ClassFile.{ClassFile}
use Rattle.cf_layout.specs.declared.items.Layout.{Layout}
use Rattle.cf_reader.specs.Spells.{IsAtFault, IsInProfile, Spells}
use Rattle.cf_load.specs.declared.load_fault.LoadFault.{LoadFault}
use Rattle.cf_load.specs.declared.load_fault.LoadFault.TheVariants as load
use Rattle.sp_files.specs.declared.files.ClassBytes.{ClassBytes}
use Rattle.sp_files.specs.declared.files.Content.{Content}
use Rattle.sp_files.specs.declared.files.Content.TheVariants.{Bytes, Unreadable}
use Rattle.sp_files.specs.declared.refusal.Refusal.{Refusal}
use Rattle.sp_files.specs.declared.refusal.Refusal.TheVariants as refusal

-- what a device gave of a file spells a class file (JVMS 4.1) in profile
abbrev pub IsSpelled : Content → ClassFile → Type 0
IsSpelled (Bytes bytes) class = (layout : Layout) × Spells bytes.items layout class × IsInProfile bytes.items layout
IsSpelled Unreadable class = ⊥

-- the files spell these class files, each its own
abbrev pub AreSpelled : List ClassBytes → List ClassFile → Type 0
AreSpelled files classes = AllZip (λ file class. IsSpelled file.content class) files classes

-- why a file is refused: what is wrong with its bytes, or its device failed
abbrev pub IsFileFault : Content → LoadFault → Type 0
IsFileFault (Bytes bytes) (load.Read fault) = IsAtFault bytes.items fault
IsFileFault (Bytes bytes) load.Device = ⊥
IsFileFault Unreadable fault = fault ≡ load.Device

-- why files are not read: the first at fault, and those before it spell class files
pub data IsUnread (files : List ClassBytes) : Refusal → Type 0 where
  at_fault : (index : ℕ) (file : ClassBytes) (fault : LoadFault) (before : List ClassFile) → slice_get files index ≡ Some file → AreSpelled (take index files) before
      → IsFileFault file.content fault → IsUnread files (refusal.File index fault)
  no_memory_to_read : IsUnread files refusal.Memory
