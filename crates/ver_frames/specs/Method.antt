-- A method whose frames are declared (JVMS 4.6, 4.7.3).
use Rattle.std.specs.Prelude.{Bool, not, ◌==◌, ◌&&◌, if◌then◌else◌, Option, List, [], ◌∷◌, ◌++◌, map, bit_and, bytes_eq, codes, option_map}
use Rattle.cf_reader.specs.declared.class_file.Method.{Method}
use Rattle.cf_reader.specs.declared.class_file.Code.{Code}
use Rattle.cls_link.specs.declared.linked_code.LinkedCode.{LinkedCode}
use Rattle.cls_set.specs.declared.class.Class.{Class}
use Rattle.space_ids.specs.declared.ids.ClassId.{ClassId}
use Rattle.ver_frames.specs.Frames.{Frame, filled}
use Rattle.ver_frames.specs.Types.{field_vtype}
use Rattle.ver_frames.specs.declared.vtype.VType.{VType}
use Rattle.ver_frames.specs.declared.vtype.VType.TheVariants.{Object, UninitializedThis}

-- ---- methods with code

-- a method with code: its linked set, its class and that class's number, its declaration, and its code as read and as linked
pub record Subject : Type 0 where
  pub classes : List Class
  pub class_id : ClassId
  pub class : Class
  pub method : Method
  pub code : Code
  pub linked : LinkedCode

-- whether the method is static (flag STATIC, JVMS 4.6)
abbrev pub is_static : Method → Bool
is_static method = not (bit_and method.flags.bits 0x0008 == 0)

-- whether its receiver is not initialized as it begins: it is an <init>, but not that of a built-in class such as java/lang/Object, which
-- calls no other <init> (a rule of this project)
unfoldable pub begins_uninit : Subject → Bool
begins_uninit m =
    not (is_static m.method) && (not m.class.is_built_in && bytes_eq m.method.name (codes "<init>"))

-- the type of the receiver, if there is one
unfoldable pub receiver_types : Subject → List VType
receiver_types m =
    if is_static m.method then []
    else ((if begins_uninit m then UninitializedThis else Object m.class_id) ∷ [])

-- the types of the receiver and the parameters, which are the first local variables
unfoldable pub argument_types : Subject → List VType
argument_types m = receiver_types m ++ map (field_vtype m.classes) m.method.types.parameters

-- the frame in which the method begins (JVMS 4.10.1.6)
unfoldable pub opening : Subject → Frame
opening m = record {
  locals = filled m.code.max_locals (argument_types m);
  stack = [];
  flag_this_uninit = begins_uninit m;
}

-- the type of the result, if there is one
unfoldable pub result_type : Subject → Option VType
result_type m = option_map (field_vtype m.classes) m.method.types.result
