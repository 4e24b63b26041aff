-- The slots of an object's fields: the JVM "does not mandate any particular internal structure for objects" (JVMS 2.7); here the instance
-- fields of a class follow those of its superclass.
use Rattle.std.specs.Prelude.{◌≡◌, ◌<◌, ◌++◌, ◌==◌, ◌≤◌, ◌*◌, ℕ, suc, Bool, Option, Some, None, List, [], ◌∷◌, IsTrue, bit_and, get_or, if◌then◌else◌, length, slice_get}
use Rattle.cf_reader.specs.declared.class_file.Field.{Field}
use Rattle.cf_reader.specs.declared.flags.TheConstants.Flags.{STATIC}
use Rattle.cls_set.specs.declared.class.Class.{Class}
use Rattle.space_ids.specs.declared.ids.ClassId.{ClassId}
use Rattle.cls_link.specs.declared.linked_code.FieldSlot.{FieldSlot}
use Rattle.cls_search.specs.declared.fields.FieldIndex.{FieldIndex}
use Rattle.cls_search.specs.Searches.{IsRanking}
use Rattle.cls_search.specs.FieldSearches.{field_at, ResolvesField}

-- whether a field is one of instances (JVMS 4.5)
abbrev pub is_instance : Field → Bool
is_instance f = bit_and f.flags.bits STATIC == 0

-- the instance fields of a class, as declared; the first of its fields has the index k
abbrev pub instance_fields : ClassId → ℕ → List Field → List FieldIndex
instance_fields class k [] = []
instance_fields class k (f ∷ fs) =
    if is_instance f then record { class = class; index = k } ∷ instance_fields class (suc k) fs else instance_fields class (suc k) fs

-- the fields of an object of a class: those of its superclasses first, and of each class as declared (a rule of this project)
pub data HasFields (classes : List Class) : ClassId → List FieldIndex → Type 0 where
  of_root : (class : ClassId) (c : Class) → slice_get classes class.0 ≡ Some c → c.superclass ≡ None → HasFields classes class (instance_fields class 0 c.file.fields)
  of_subclass : (class superclass : ClassId) (c : Class) (inherited : List FieldIndex) → slice_get classes class.0 ≡ Some c → c.superclass ≡ Some superclass
      → HasFields classes superclass inherited → HasFields classes class (inherited ++ instance_fields class 0 c.file.fields)

-- the slot of a field: its index among the fields of an object of the class that declares it; a static field has none
pub data IsFieldSlot (classes : List Class) (field : FieldIndex) : Option FieldSlot → Type 0 where
  of_instance : (f : Field) (fields : List FieldIndex) (slot : ℕ) → field_at classes field ≡ Some f → IsTrue (is_instance f) → HasFields classes field.class fields
      → slice_get fields slot ≡ Some field → IsFieldSlot classes field (Some (record { 0 = slot }))
  of_static : (f : Field) → field_at classes field ≡ Some f → ¬ IsTrue (is_instance f) → IsFieldSlot classes field None

-- the slot of the field that a name and a descriptor mean in a class; none if they mean none
pub data IsSlot (classes : List Class) (class : ClassId) (name descriptor : List ℕ) : Option FieldSlot → Type 0 where
  found : (field : FieldIndex) (slot : Option FieldSlot) → ResolvesField classes class name descriptor (Some field) → IsFieldSlot classes field slot
      → IsSlot classes class name descriptor slot
  absent : ResolvesField classes class name descriptor None → IsSlot classes class name descriptor None

-- how many fields an object of a class has
pub record CountsFields (classes : List Class) (class : ClassId) (count : ℕ) : Type 0 where
  pub fields : List FieldIndex
  pub has : HasFields classes class fields
  pub counted : length fields ≡ count

-- how many fields an object of each class has, by class number
pub record AreFieldCounts (classes : List Class) (counts : List ℕ) : Type 0 where
  pub one_each : length counts ≡ length classes
  pub counted : (class : ClassId) → class.0 < length classes → CountsFields classes class (get_or counts class.0 0)

-- a count, and that each class on the way up adds 65,535 at most
pub record IsCount (classes : List Class) (class : ClassId) (count : ℕ) : Type 0 where
  pub counts : CountsFields classes class count
  pub few : (rank : ClassId → ℕ) → IsRanking classes rank → count ≤ 65535 * suc (rank class)

-- what is noted of classes are their counts
pub record AreNoted (classes : List Class) (noted : List (Option ℕ)) : Type 0 where
  pub one_each : length noted ≡ length classes
  pub count : (class : ClassId) (count : ℕ) → slice_get noted class.0 ≡ Some (Some count) → IsCount classes class count
