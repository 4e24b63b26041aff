-- The rules that each class of a set keeps (JVMS 4.1, 4.10, 5.3.5; Java RMI specification, 2.4), apart from how they are looked for.
-- A class is what its file says; a supertype is found by its name.
use Rattle.std.specs.Prelude.{◌≡◌, ◌≢◌, ◌⊎◌, ◌==◌, ℕ, Bool, Some, None, List, [], ◌∷◌, Contains, if◌then◌else◌, bit_and, codes}
use Rattle.std.specs.List.{list_any}
use Rattle.cf_text.specs.declared.types.FieldType.{FieldType}
use Rattle.cf_text.specs.declared.types.ElementType.TheVariants as elements
use Rattle.cf_reader.specs.declared.class_file.ClassFile.{ClassFile}
use Rattle.cf_reader.specs.declared.class_file.Field.{Field}
use Rattle.cf_reader.specs.declared.class_file.Method.{Method}
use Rattle.cf_reader.specs.declared.flags.TheConstants.Flags.{PUBLIC, PRIVATE, PROTECTED, STATIC, FINAL, INTERFACE}
use Rattle.cls_order.specs.declared.fault.SetRule.{SetRule}
use Rattle.cls_order.specs.declared.fault.SetRule.TheVariants.{BadSuper, FinalSuper, RemoteField, RemoteMethod, Override}
use Rattle.cls_order.specs.Sets.{Origin, IsSupertypeByName}

-- one of a flag's bits is set
abbrev pub Has : ℕ → ℕ → Type 0
Has bits flag = bit_and bits flag ≢ 0

-- one of the classes says this, and has this name
abbrev pub IsNamed : List Origin → List ℕ → ClassFile → Type 0
IsNamed classes name file = (built_in : Bool) × Contains classes (file, built_in) × (file.name ≡ name)

-- the direct superclass of a class
abbrev pub HasSuperclass : List Origin → ClassFile → ClassFile → Type 0
HasSuperclass classes sub sup = (name : List ℕ) × (sub.superclass ≡ Some name) × IsNamed classes name sup

-- a direct superinterface of a class
abbrev pub HasSuperinterface : List Origin → ClassFile → ClassFile → Type 0
HasSuperinterface classes sub sup = (name : List ℕ) × Contains sub.interfaces name × IsNamed classes name sup

-- a superclass of a class: its direct superclass, or a superclass of that
pub data IsSuperclass (classes : List Origin) : ClassFile → ClassFile → Type 0 where
  direct : (sub sup : ClassFile) → HasSuperclass classes sub sup → IsSuperclass classes sub sup
  further : (sub mid sup : ClassFile) → HasSuperclass classes sub mid → IsSuperclass classes mid sup → IsSuperclass classes sub sup

-- the package of a class's name: what stands before its last /, so the bytes that a / comes after
abbrev pub package_name : List ℕ → List ℕ
package_name [] = []
package_name (b ∷ bs) = if list_any (λ c. c == 47) bs then b ∷ package_name bs else []

abbrev pub IsSamePackage : ClassFile → ClassFile → Type 0
IsSamePackage a b = package_name a.name ≡ package_name b.name

-- a method has package access: it is neither public nor protected nor private
pub record HasPackageAccess (method : Method) : Type 0 where
  pub not_public : ¬ Has method.flags.bits PUBLIC
  pub not_protected : ¬ Has method.flags.bits PROTECTED
  pub not_private : ¬ Has method.flags.bits PRIVATE

-- why a method of a class may not stand below one of a superclass with its name and descriptor: no method overrides a final one
-- (JVMS 4.10), and the other ways are rules of this project
pub data MayNotStand (lower upper : ClassFile) (low high : Method) : Type 0 where
  overrides_final : ¬ Has low.flags.bits STATIC → Has high.flags.bits FINAL → MayNotStand lower upper low high
  overrides_static : ¬ Has low.flags.bits STATIC → Has high.flags.bits STATIC → MayNotStand lower upper low high
  of_other_package : ¬ Has low.flags.bits STATIC → HasPackageAccess high → ¬ IsSamePackage lower upper → MayNotStand lower upper low high
  overrides_as_private : ¬ Has low.flags.bits STATIC → Has low.flags.bits PRIVATE → MayNotStand lower upper low high
  hides_instance : Has low.flags.bits STATIC → ¬ Has high.flags.bits STATIC → MayNotStand lower upper low high

-- a method of a class stands below one of a superclass that is not private, and may not
pub record Clashes (lower upper : ClassFile) (low high : Method) : Type 0 where
  pub not_init : low.name ≢ codes "<init>"
  pub name : low.name ≡ high.name
  pub descriptor : low.descriptor ≡ high.descriptor
  pub visible : ¬ Has high.flags.bits PRIVATE
  pub wrong : MayNotStand lower upper low high

-- a class has a method that clashes with one of a superclass
pub record OverridesBadly (classes : List Origin) (lower : ClassFile) : Type 0 where
  pub low : Method
  pub declared : Contains lower.methods low
  pub upper : ClassFile
  pub above : IsSuperclass classes lower upper
  pub high : Method
  pub inherited : Contains upper.methods high
  pub clash : Clashes lower upper low high

-- the class of this name is java/rmi/Remote, or that is among its supertypes
abbrev pub IsBelowRemote : List Origin → List ℕ → Type 0
IsBelowRemote classes name = (name ≡ codes "java/rmi/Remote") ⊎ IsSupertypeByName classes name (codes "java/rmi/Remote")

-- a remote interface, and a remote class: an interface, and a class, below java/rmi/Remote (Java RMI specification, 2.4)
abbrev pub IsRemoteInterface : List Origin → ClassFile → Type 0
IsRemoteInterface classes file = Has file.flags.bits INTERFACE × IsBelowRemote classes file.name

abbrev pub IsRemoteClass : List Origin → ClassFile → Type 0
IsRemoteClass classes file = (¬ Has file.flags.bits INTERFACE) × IsBelowRemote classes file.name

-- the class of this name is a remote interface
pub record NamesRemoteInterface (classes : List Origin) (name : List ℕ) : Type 0 where
  pub interface : ClassFile
  pub named : IsNamed classes name interface
  pub remote : IsRemoteInterface classes interface

-- the types of a remote class's instance fields: int, boolean, a remote interface (a rule of this project)
pub data CanBeKept (classes : List Origin) (type : FieldType) : Type 0 where
  int : type.dimensions ≡ 0 → type.element ≡ elements.Int → CanBeKept classes type
  boolean : type.dimensions ≡ 0 → type.element ≡ elements.Boolean → CanBeKept classes type
  remote : (name : List ℕ) → type.dimensions ≡ 0 → type.element ≡ elements.Class name → NamesRemoteInterface classes name → CanBeKept classes type

-- the types of what passes between spaces: those, and int[] (a rule of this project)
pub data CanCross (classes : List Origin) (type : FieldType) : Type 0 where
  plain : CanBeKept classes type → CanCross classes type
  ints : type.dimensions ≡ 1 → type.element ≡ elements.Int → CanCross classes type

-- a class has an instance field that a remote class may not have
pub record HasFieldNotKept (classes : List Origin) (file : ClassFile) : Type 0 where
  pub field : Field
  pub declared : Contains file.fields field
  pub of_instances : ¬ Has field.flags.bits STATIC
  pub not_kept : ¬ CanBeKept classes field.kind

-- an interface has a method that a remote interface may not have: the type of a parameter, or of the result, cannot cross
pub record HasMethodNotCrossing (classes : List Origin) (file : ClassFile) : Type 0 where
  pub of_interface : Has file.flags.bits INTERFACE
  pub method : Method
  pub declared : Contains file.methods method
  pub type : FieldType
  pub used : Contains method.types.parameters type ⊎ (method.types.result ≡ Some type)
  pub not_crossing : ¬ CanCross classes type

-- the other is the class itself or one of its supertypes
abbrev pub IsItOrAbove : List Origin → ClassFile → ClassFile → Type 0
IsItOrAbove classes file upper = (upper ≡ file) ⊎ (IsNamed classes upper.name upper × IsSupertypeByName classes file.name upper.name)

-- a class breaks a rule: a constructor for each way to break one
pub data Breaks (classes : List Origin) (file : ClassFile) : SetRule → Type 0 where
  -- a class without superclass that is not java/lang/Object
  second_root : file.superclass ≡ None → file.name ≢ codes "java/lang/Object" → Breaks classes file BadSuper
  -- an interface whose superclass is not java/lang/Object
  interface_below_other : Has file.flags.bits INTERFACE → file.superclass ≢ Some (codes "java/lang/Object") → Breaks classes file BadSuper
  -- an interface as superclass
  interface_extended : (sup : ClassFile) → HasSuperclass classes file sup → Has sup.flags.bits INTERFACE → Breaks classes file BadSuper
  -- a class as superinterface
  class_implemented : (sup : ClassFile) → HasSuperinterface classes file sup → ¬ Has sup.flags.bits INTERFACE → Breaks classes file BadSuper
  -- a final superclass
  final_extended : (sup : ClassFile) → HasSuperclass classes file sup → Has sup.flags.bits FINAL → Breaks classes file FinalSuper
  -- a remote class that has or inherits an instance field of another type than it may
  remote_field : (upper : ClassFile) → IsRemoteClass classes file → IsItOrAbove classes file upper → HasFieldNotKept classes upper → Breaks classes file RemoteField
  -- a remote interface that has or inherits a method of other types than it may
  remote_method : (upper : ClassFile) → IsRemoteInterface classes file → IsItOrAbove classes file upper → HasMethodNotCrossing classes upper → Breaks classes file RemoteMethod
  -- a method that overrides or hides one which it may not
  override : OverridesBadly classes file → Breaks classes file Override
