-- What it means that class files make a program, each layer by its own definition.
use Rattle.std.specs.Prelude.{List}
use Rattle.cf_reader.specs.declared.class_file.ClassFile.{ClassFile}
use Rattle.cls_link.specs.LinkFaults.{AreSound, IsLinkFault}
use Rattle.cls_link.specs.Links.{Links, AreLinks}
use Rattle.cls_link.specs.declared.fault.LinkFault.{LinkFault}
use Rattle.cls_set.specs.Faults.{IsSetFault, MakeASet}
use Rattle.cls_set.specs.Sets.{HasClasses, IsClassSet}
use Rattle.cls_set.specs.declared.fault.SetFault.{SetFault}
use Rattle.cls_set.specs.declared.class.Class.{Class}
use Rattle.sp_files.specs.declared.files.ClassBytes.{ClassBytes}
use Rattle.sp_files.specs.declared.refusal.Refusal.{Refusal}
use Rattle.sp_files.specs.declared.refusal.Refusal.TheVariants as refusal
use Rattle.ver_check.specs.Acceptance.{AreSafe}
use Rattle.ver_check.specs.Faults.{IsCheckFault}
use Rattle.ver_rules.specs.declared.fault.CheckFault.{CheckFault}
use Rattle.sp_files.specs.Files.{AreSpelled, IsUnread}

-- the class files that the files spell, as one linked class set in which every method is type safe (JVMS 4.10.1)
pub record IsProgram (files : List ClassBytes) (program : Links) : Type 0 where
  pub classes : List ClassFile
  pub spelled : AreSpelled files classes
  -- they break no rule on sets
  pub makes_a_set : MakeASet classes
  pub set : HasClasses classes program.classes
  -- and their code none on what it names
  pub sound : AreSound program.classes
  pub linked : AreLinks program
  pub safe : AreSafe program

-- why files make no program: the first of reading, set, links and checks that refuses them
pub data IsNoProgram (files : List ClassBytes) : Refusal → Type 0 where
  unread : (refused : Refusal) → IsUnread files refused → IsNoProgram files refused
  no_set : (classes : List ClassFile) (fault : SetFault) → AreSpelled files classes → IsSetFault classes fault → IsNoProgram files (refusal.Set fault)
  not_linked : (classes : List ClassFile) (set : List Class) (fault : LinkFault) → AreSpelled files classes → HasClasses classes set → IsClassSet set
      → IsLinkFault set fault → IsNoProgram files (refusal.Link fault)
  not_safe : (classes : List ClassFile) (linked : Links) (fault : CheckFault) → AreSpelled files classes → HasClasses classes linked.classes → AreLinks linked
      → IsCheckFault linked fault → IsNoProgram files (refusal.Check fault)
