-- Which class sets are accepted (JVMS 4.10).
use Rattle.std.specs.Prelude.{◌<◌, ℕ, length, Option, Some, List, slice_get, option_and_then, MatchOption}
use Rattle.cf_reader.specs.declared.class_file.Code.{Code}
use Rattle.cf_reader.specs.declared.class_file.Method.{Method}
use Rattle.cls_link.specs.Links.{Links}
use Rattle.cls_link.specs.declared.linked_code.LinkedCode.{LinkedCode}
use Rattle.cls_link.specs.declared.linked_code.LinkedMethod.{LinkedMethod}
use Rattle.cls_set.specs.declared.class.Class.{Class}
use Rattle.ver_check.specs.Bodies.{body_of}
use Rattle.ver_check.specs.Typing.{IsTypeSafe}
use Rattle.ver_frames.specs.Frames.{Frame}
use Rattle.ver_frames.specs.Method.{Subject}
use Rattle.ver_frames.specs.StackMapFormat.{DeclaresFrames}

-- A class is type safe if each of its methods is (JVMS 4.10.1).

-- a method as declared and as linked: none if it has no code
unfoldable pub subject_of : List Class → LinkedMethod → Option Subject
subject_of classes m =
    option_and_then (λ (linked : LinkedCode).
    option_and_then (λ (class : Class).
    option_and_then (λ (method : Method).
    option_and_then (λ (code : Code).
    Some (record { classes = classes; class_id = m.class; class = class; method = method; code = code; linked = linked }))
    method.code) (slice_get class.file.methods m.index)) (slice_get classes m.class.0)) m.code

-- a method with code is type safe (JVMS 4.10.1.6): it declares frames by its StackMapTable, and the body
-- with them is type safe
pub record IsSafe (m : Subject) : Type 0 where
  pub declared : List (ℕ × Frame)
  pub spelled : DeclaresFrames m declared
  pub body : IsTypeSafe (body_of m declared)

-- a method is type safe: without code it is
abbrev pub IsSafeMethod : List Class → LinkedMethod → Type 0
IsSafeMethod classes m = MatchOption (subject_of classes m) (Unit {0}) IsSafe

-- the method with this number is type safe
abbrev pub IsSafeAt : Links → ℕ → Type 0
IsSafeAt links index = MatchOption (slice_get links.methods index) (Unit {0}) (IsSafeMethod links.classes)

-- every method is type safe
unfoldable pub AreSafe : Links → Type 0
AreSafe links = (index : ℕ) → index < length links.methods → IsSafeAt links index
