-- The slots of fields in tables: those of the fields that a class declares come after those of its superclasses, in the order of the
-- declarations. (This project's own; JVMS 2.7 leaves the structure of objects open.)
use Rattle.std.specs.Prelude.{◌≡◌, ◌+◌, ◌<◌, ℕ, suc, Option, Some, None, List, [], ◌∷◌, if◌then◌else◌, count_by, length, slice_get, slice_index_or}
use Rattle.cf_reader.specs.declared.class_file.Field.{Field}
use Rattle.cls_set.specs.declared.class.Class.{Class}
use Rattle.space_ids.specs.declared.ids.ClassId.{ClassId}
use Rattle.cls_link.specs.declared.linked_code.FieldSlot.{FieldSlot}
use Rattle.cls_link.specs.Fields.{is_instance, CountsFields}

-- the slots of fields as declared; the first instance field has this one, and a static field has none
abbrev pub slots_from : ℕ → List Field → List (Option FieldSlot)
slots_from slot [] = []
slots_from slot (f ∷ fs) = if is_instance f then Some (record { 0 = slot }) ∷ slots_from (suc slot) fs else None ∷ slots_from slot fs

-- the slots of the fields that a class declares: the last of those that its objects have
pub record HasSlots (classes : List Class) (class : ClassId) (slots : List (Option FieldSlot)) : Type 0 where
  pub c : Class
  pub at : slice_get classes class.0 ≡ Some c
  pub first : ℕ
  pub counted : CountsFields classes class (first + count_by is_instance c.file.fields)
  pub is : slots ≡ slots_from first c.file.fields

-- the slots of each class, by class number
pub record HaveSlots (classes : List Class) (rows : List (List (Option FieldSlot))) : Type 0 where
  pub one_each : length rows ≡ length classes
  pub slots : (class : ClassId) → class.0 < length classes → HasSlots classes class (slice_index_or rows class.0 [])
