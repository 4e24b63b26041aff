-- A method with code as type checking sees it (JVMS 4.10.1.1, 4.10.1.6).
use Rattle.std.specs.Prelude.{ℕ, Bool, ◌==◌, if◌then◌else◌, Option, Some, None, List, [], ◌∷◌, bytes_eq, codes, slice_get, slice_index, option_and_then}
use Rattle.cls_link.specs.declared.linked_code.LinkedInsn.{LinkedInsn}
use Rattle.cls_link.specs.declared.linked_code.LinkedSwitch.{LinkedSwitch}
use Rattle.cls_set.specs.declared.class.Class.{Class}
use Rattle.space_ids.specs.declared.ids.ClassId.{ClassId}
use Rattle.ver_frames.specs.Frames.{Frame}
use Rattle.ver_frames.specs.Method.{Subject, opening, result_type}
use Rattle.ver_frames.specs.declared.vtype.VType.{VType}

-- ---- bodies

-- what is checked of a method with code: the set that it is linked in, the number of its class, whether it is an `<init>`, the frame in
-- which it begins, the type of its result, its limits, its instructions with the offset of each, what its switches go to, and the declared
-- frames, each with its offset
pub record Body : Type 0 where
  pub classes : List Class
  pub class_id : ClassId
  pub is_init : Bool
  pub opening : Frame
  pub result : Option VType
  pub max_stack : ℕ
  pub max_locals : ℕ
  pub insns : List LinkedInsn
  pub offsets : List ℕ
  pub switches : List LinkedSwitch
  pub declared : List (ℕ × Frame)

-- the body of a method with these declared frames
abbrev pub body_of : Subject → List (ℕ × Frame) → Body
body_of m declared = record {
  classes = m.classes;
  class_id = m.class_id;
  is_init = bytes_eq m.method.name (codes "<init>");
  opening = opening m;
  result = result_type m;
  max_stack = m.code.max_stack;
  max_locals = m.code.max_locals;
  insns = m.linked.insns;
  offsets = m.linked.offsets;
  switches = m.linked.switches;
  declared = declared;
}

-- the instruction at this index, counted from 0
abbrev pub insn_at : Body → ℕ → Option LinkedInsn
insn_at body index = slice_get body.insns index

-- the offset of the instruction at this index
abbrev pub offset_at : Body → ℕ → ℕ
offset_at body index = slice_index body.offsets index

-- the frame that is declared at an offset
unfoldable pub frame_at_offset : List (ℕ × Frame) → ℕ → Option Frame
frame_at_offset [] offset = None
frame_at_offset (first ∷ others) offset =
    if first.0 == offset then Some first.1 else frame_at_offset others offset

-- the frame that is declared at the instruction at this index
unfoldable pub declared_at : Body → ℕ → Option Frame
declared_at body index = option_and_then (frame_at_offset body.declared) (slice_get body.offsets index)
