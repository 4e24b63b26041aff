-- The field that a name and a descriptor mean in a class, by the search of field resolution (JVMS 5.4.3.2).
use Rattle.std.specs.Prelude.{◌&&◌, ℕ, suc, Option, Some, None, List, [], ◌∷◌, bytes_eq, if◌then◌else◌, option_and_then, option_map, slice_get}
use Rattle.cf_reader.specs.declared.class_file.Field.{Field}
use Rattle.cls_set.specs.declared.class.Class.{Class}
use Rattle.space_ids.specs.declared.ids.ClassId.{ClassId}
use Rattle.cls_search.specs.declared.fields.FieldIndex.{FieldIndex}
use Rattle.cls_search.specs.Searches.{Finds, supertypes_of}

-- the index of the first field with this name and descriptor; the first of the fields has the index k
abbrev pub first_from : ℕ → List Field → List ℕ → List ℕ → Option ℕ
first_from k [] name descriptor = None
first_from k (f ∷ fs) name descriptor =
    if bytes_eq f.name name && bytes_eq f.descriptor descriptor then Some k else first_from (suc k) fs name descriptor

-- the field that a class declares with this name and descriptor
abbrev pub own_field : List Class → List ℕ → List ℕ → ClassId → Option FieldIndex
own_field classes name descriptor class =
    option_and_then (λ (c : Class). option_map (λ index. record { class = class; index = index }) (first_from 0 c.file.fields name descriptor)) (slice_get classes class.0)

-- The field that a name and a descriptor mean in a class (JVMS 5.4.3.2), or none if they mean none. The search takes the class, its
-- superinterfaces, then its superclass. That superinterfaces are searched depth first is a rule of this project.
abbrev pub ResolvesField : List Class → ClassId → List ℕ → List ℕ → Option FieldIndex → Type 0
ResolvesField classes class name descriptor field = Finds (supertypes_of classes) (own_field classes name descriptor) (class ∷ []) field

-- the field itself
abbrev pub field_at : List Class → FieldIndex → Option Field
field_at classes f = option_and_then (λ (c : Class). slice_get c.file.fields f.index) (slice_get classes f.class.0)
