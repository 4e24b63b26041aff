-- What the fields of objects hold (JVMS 2.3, 2.4): the kind of each field of an object, those of its superclasses first.
use Rattle.std.specs.Prelude.{◌≡◌, ◌-◌, ◌==◌, ◌<◌, ◌≤◌, ℕ, Option, Some, None, List, [], ◌∷◌, ◌++◌, if◌then◌else◌, drop, take, length, slice_get, slice_index_or}
use Rattle.cf_text.specs.declared.types.ElementType.{ElementType}
use Rattle.cf_text.specs.declared.types.ElementType.TheVariants as element
use Rattle.cf_text.specs.declared.types.FieldType.{FieldType}
use Rattle.cf_reader.specs.declared.class_file.Field.{Field}
use Rattle.cls_set.specs.declared.class.Class.{Class}
use Rattle.space_ids.specs.declared.ids.ClassId.{ClassId}
use Rattle.cls_link.specs.Fields.{is_instance}
use Rattle.cls_tables.specs.declared.kinds.Span.{Span}
use Rattle.vm_heap.specs.declared.heap.WordKind.{WordKind}
use Rattle.vm_heap.specs.declared.heap.WordKind.TheVariants as kind

abbrev pub element_kind : ElementType → WordKind
element_kind element.Int = kind.Int
element_kind element.Boolean = kind.Int
element_kind other = kind.Reference

-- what a field of a type holds: an int or a boolean, or a reference to an object or an array
abbrev pub kind_of : FieldType → WordKind
kind_of type = if type.dimensions == 0 then element_kind type.element else kind.Reference

-- what the instance fields of a class hold, as declared
unfoldable pub own_kinds : List Field → List WordKind
own_kinds [] = []
own_kinds (f ∷ fs) = if is_instance f then kind_of f.kind ∷ own_kinds fs else own_kinds fs

-- what the fields of an object of a class hold, by slot: those of its superclasses first, and of each class as declared
pub data HoldsKinds (classes : List Class) : ClassId → List WordKind → Type 0 where
  of_root : (class : ClassId) (c : Class) → slice_get classes class.0 ≡ Some c → c.superclass ≡ None → HoldsKinds classes class (own_kinds c.file.fields)
  of_subclass : (class superclass : ClassId) (c : Class) (inherited : List WordKind) → slice_get classes class.0 ≡ Some c → c.superclass ≡ Some superclass
      → HoldsKinds classes superclass inherited → HoldsKinds classes class (inherited ++ own_kinds c.file.fields)

-- the part of a row from one index to another
abbrev pub part : List WordKind → ℕ → ℕ → List WordKind
part row start end = take (end - start) (drop start row)

-- a row goes on from another
pub record Starts {A : Type 0} (old new : List A) : Type 0 where
  pub more : List A
  pub is : new ≡ old ++ more

-- a part of the row is what the fields of an object of a class hold
pub record IsLaid (classes : List Class) (class : ClassId) (row : List WordKind) (span : Span) : Type 0 where
  pub rising : span.start ≤ span.end
  pub within : span.end ≤ length row
  pub holds : HoldsKinds classes class (part row span.start span.end)

-- this holds of each class that has a part, by class number
pub record AreLaid (classes : List Class) (row : List WordKind) (memo : List (Option Span)) : Type 0 where
  pub one_each : length memo ≡ length classes
  pub laid : (class : ClassId) (span : Span) → slice_get memo class.0 ≡ Some (Some span) → IsLaid classes class row span

-- each class has one
pub record HaveKinds (classes : List Class) (row : List WordKind) (spans : List Span) : Type 0 where
  pub one_each : length spans ≡ length classes
  pub laid : (class : ClassId) → class.0 < length classes → IsLaid classes class row (slice_index_or spans class.0 (record { start = 0; end = 0 }))
