-- The methods of a linked class set by their numbers, as they are started. (This project's own.)
use Rattle.std.specs.Prelude.{Option, List, option_map}
use Rattle.cf_reader.specs.declared.class_file.Code.{Code}
use Rattle.cf_reader.specs.declared.class_file.Method.{Method}
use Rattle.cls_link.specs.Links.{Links}
use Rattle.cls_link.specs.declared.linked_code.LinkedInsn.{LinkedInsn}
use Rattle.cls_link.specs.declared.linked_code.MethodId.{MethodId}
use Rattle.space_ids.specs.declared.ids.ClassId.{ClassId}
use Rattle.ver_frames.specs.Method.{Subject}
use Rattle.vm_laws.specs.Worlds.{subject_at}
use Rattle.vm_step.specs.declared.found.Found.{Found}

-- a method's declaration with the class that declares it, and its code as read and as linked
pub record Declared : Type 0 where
  pub class : ClassId
  pub method : Method
  pub code : Code
  pub insns : List LinkedInsn

abbrev pub declared_of : Subject → Declared
declared_of m = record { class = m.class_id; method = m.method; code = m.code; insns = m.linked.insns }

-- a method with code, by its number: none if there is no such method, or it has no code
unfoldable pub declared_at : Links → MethodId → Option Declared
declared_at links id = option_map declared_of (subject_at links id.0)

-- a method that was found, as definitions see it
abbrev pub shown : Found → Declared
shown found = record { class = found.class; method = found.method.now; code = found.code.now; insns = found.insns.now }
