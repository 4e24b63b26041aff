-- What holds of the classes of a set because each is as a class file of the profile says it, or is built in (JVMS 4.1, 4.3, 4.5, 4.6).
use Rattle.std.specs.Prelude.{◌≡◌, ℕ, zero, suc, true, false, if◌then◌else◌, Some, None, List, [], ◌∷◌, ◌++◌, length, map, bytes_eq, codes, slice_get, IsSomeAnd}
use Rattle.std.specs.Option.{option_map_or}
use Rattle.cf_text.specs.declared.types.FieldType.{FieldType}
use Rattle.cf_reader.specs.declared.class_file.Field.{Field}
use Rattle.cf_reader.specs.declared.class_file.Method.{Method}
use Rattle.cls_set.specs.declared.class.Class.{Class}
use Rattle.cls_set.specs.Classes.{IsInterface}
use Rattle.cls_set.specs.Subtypes as types
use Rattle.space_ids.specs.declared.ids.ClassId.{ClassId}
use Rattle.cls_link.specs.Fields.{is_instance}
use Rattle.ver_frames.specs.Method.{is_static}
use Rattle.ver_frames.specs.Types.{field_vtype}
use Rattle.ver_frames.specs.declared.vtype.VType.{VType}
use Rattle.vm_typing.specs.World.{IsPlain, ArePlain}

-- the types of the instance fields of a class, as declared
unfoldable pub own_types : List Class → List Field → List VType
own_types classes [] = []
own_types classes (f ∷ fs) = if is_instance f then field_vtype classes f.kind ∷ own_types classes fs else own_types classes fs

-- the types of the fields of an object of a class, those of its superclasses first, at most n classes up
unfoldable pub types_up : ℕ → List Class → ClassId → List VType
types_up zero classes class = []
types_up (suc n) classes class =
    option_map_or (λ (c : Class). option_map_or (types_up n classes) c.superclass [] ++ own_types classes c.file.fields) (slice_get classes class.0) []

-- the types of the fields of an object of a class, by slot
abbrev pub types_of : List Class → ClassId → List VType
types_of classes class = types_up (suc (length classes)) classes class

-- a class of the set declares a method
pub record Declares (classes : List Class) (m : Method) : Type 0 where
  pub class : ClassId
  pub c : Class
  pub index : ℕ
  pub at : slice_get classes class.0 ≡ Some c
  pub is : slice_get c.file.methods index ≡ Some m

-- Each class is as its file says it: all of this is demanded of a file where it is read, or of the set where it is built, so that the
-- classes of every set are as read.
pub record AreAsRead (classes : List Class) : Type 0 where
  -- java/lang/Object is the built-in one: it has no superclass and no field
  pub object : (class : ClassId) (c : Class) → slice_get classes class.0 ≡ Some c → c.file.name ≡ codes "java/lang/Object"
      → (c.superclass ≡ None) × (own_types classes c.file.fields ≡ [])
  -- fields of interfaces are static (JVMS 4.5)
  pub interfaces : (class : ClassId) (c : Class) → slice_get classes class.0 ≡ Some c → IsInterface c → own_types classes c.file.fields ≡ []
  -- the types of fields, parameters and results are those of the profile, and name classes of the set
  pub fields : (class : ClassId) (c : Class) → slice_get classes class.0 ≡ Some c → ArePlain (own_types classes c.file.fields)
  pub parameters : (m : Method) → Declares classes m → ArePlain (map (field_vtype classes) m.types.parameters)
  pub results : (m : Method) (type : FieldType) → Declares classes m → m.types.result ≡ Some type → IsPlain (field_vtype classes type)
  -- the types of a method are those that its descriptor spells (JVMS 4.3.3)
  pub described : (m n : Method) → Declares classes m → Declares classes n → m.descriptor ≡ n.descriptor → m.types ≡ n.types
  -- each superinterface is an interface, and java/lang/Throwable is none (JVMS 4.1)
  pub superinterfaces : (sub sup : ClassId) → types.Declares classes sub sup → IsSomeAnd (slice_get classes sup.0) IsInterface
  pub throwable : (class : ClassId) (c : Class) → slice_get classes class.0 ≡ Some c → c.file.name ≡ codes "java/lang/Throwable" → ¬ IsInterface c
  -- an `<init>` is not static, and gives nothing (JVMS 4.6, 4.3.3)
  pub inits : (m : Method) → Declares classes m → bytes_eq m.name (codes "<init>") ≡ true → (is_static m ≡ false) × (m.types.result ≡ None)
