-- The types of a linked set (JVMS 4.10.1.2, 4.10.1.6), as the laws of typed machines know them.
use Rattle.std.specs.Prelude.{◌≡◌, ℕ, Bool, true, false, if◌then◌else◌, Option, Some, List, [], length, map, bytes_eq, codes, slice_get, get_or, option_and_then, option_map}
use Rattle.std.specs.Option.{option_map_or, unwrap_or}
use Rattle.cls_set.specs.Classes.{number_of}
use Rattle.cf_reader.specs.declared.class_file.Method.{Method}
use Rattle.cls_link.specs.Links.{Links, method_at}
use Rattle.cls_set.specs.declared.class.Class.{Class}
use Rattle.cls_link.specs.Targets.{index_from}
use Rattle.ver_check.specs.Acceptance.{subject_of}
use Rattle.ver_check.specs.Bodies.{body_of}
use Rattle.ver_check.specs.Typing.{IsTyping}
use Rattle.ver_frames.specs.Frames.{Frame}
use Rattle.ver_frames.specs.Made.{made_at}
use Rattle.ver_frames.specs.Method.{Subject, begins_uninit, argument_types, result_type}
use Rattle.ver_frames.specs.Types.{field_vtype}
use Rattle.ver_frames.specs.declared.vtype.VType.{VType}
use Rattle.vm_act.specs.declared.crossing.Parameter.{Parameter}
use Rattle.vm_code.specs.Parameters.{parameters_of}
use Rattle.vm_typing.specs.Fits.{no_method}
use Rattle.vm_typing.specs.World.{World, MethodType}
use Rattle.vm_laws.specs.Files.{types_of}

-- a method with code, by its number
unfoldable pub subject_at : Links → ℕ → Option Subject
subject_at links number = option_and_then (subject_of links.classes) (slice_get links.methods number)

abbrev pub is_init : Subject → Bool
is_init m = bytes_eq m.method.name (codes "<init>")

-- a method with code as types know it, with a type frame for each of its instructions
abbrev pub method_type : Subject → (ℕ → Frame) → MethodType
method_type m frames = record {
  owner = m.class_id;
  is_init = is_init m;
  begins_uninit = begins_uninit m;
  arguments = if is_init m then map (field_vtype m.classes) m.method.types.parameters else argument_types m;
  result = result_type m;
  max_locals = m.code.max_locals;
  max_stack = m.code.max_stack;
  count = length m.linked.insns;
  frames = frames;
  offset_at = λ index. get_or m.linked.offsets index 0;
  index_at = λ offset. unwrap_or (index_from 0 m.linked.offsets offset) 0;
  made_at = made_at m.linked.insns m.linked.offsets;
}

-- what the method of a number takes and gives when it is called on a stub
abbrev pub takes_at : List Class → ℕ → List Parameter
takes_at classes number = option_map_or parameters_of (method_at classes (record { 0 = number })) []

abbrev pub gives_at : List Class → ℕ → Option VType
gives_at classes number = option_and_then (λ (m : Method). option_map (field_vtype classes) m.types.result) (method_at classes (record { 0 = number }))

-- the world of a linked set whose methods are typed by these frames, by method and index
abbrev pub world_of : Links → (ℕ → ℕ → Frame) → World
world_of links frames = record {
  classes = links.classes;
  object = unwrap_or (number_of links.classes (codes "java/lang/Object")) (record { 0 = 0 });
  fields = types_of links.classes;
  has_code = λ number. option_map_or (λ (m : Subject). true) (subject_at links number) false;
  method = λ number. option_map_or (λ (m : Subject). method_type m (frames number)) (subject_at links number) no_method;
  takes = takes_at links.classes;
  gives = gives_at links.classes;
}

-- a method is typed by these frames (JVMS 4.10.1.6), with those that it declares
pub record IsTypedBy (m : Subject) (frames : ℕ → Frame) : Type 0 where
  pub declared : List (ℕ × Frame)
  pub typing : IsTyping (body_of m declared) frames

-- each method with code is typed by its frames
abbrev pub AreTyped : Links → (ℕ → ℕ → Frame) → Type 0
AreTyped links frames = (number : ℕ) (m : Subject) → subject_at links number ≡ Some m → IsTypedBy m (frames number)
