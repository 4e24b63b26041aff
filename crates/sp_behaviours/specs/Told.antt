-- What the rules of spaces are told of a linked class set, and what the fields of its remote classes are and its remote interfaces take and give (Java
-- RMI specification, 2.4; that those fields are ints, booleans and remote interfaces, and which types cross, are rules of this project).
use Rattle.std.specs.Prelude.{◌≡◌, ◌<◌, ℕ, true, List, Option, Some, codes, length, slice_get, Contains, IsSomeAnd}
use Rattle.std.specs.Option.{unwrap_or}
use Rattle.cf_reader.specs.declared.class_file.ClassFile.{ClassFile}
use Rattle.cf_reader.specs.declared.class_file.Method.{Method}
use Rattle.cls_set.specs.Classes.{IsInterface, number_of}
use Rattle.cls_order.specs.declared.fault.SetRule.TheVariants.{RemoteField, RemoteMethod}
use Rattle.cls_set.specs.Faults.{IsKept, MakeASet}
use Rattle.cls_set.specs.Sets.{HasClasses, IsClassSet}
use Rattle.cls_set.specs.Subtypes.{IsRemote, IsSubtype}
use Rattle.cls_set.specs.declared.class.Class.{Class}
use Rattle.space_ids.specs.declared.ids.ClassId.{ClassId}
use Rattle.sp_rules.specs.Classes.{Classes, Kind, IntKind, ReferenceKind, field_kind}
use Rattle.ver_frames.specs.declared.vtype.VType.{VType}
use Rattle.ver_frames.specs.declared.vtype.VType.TheVariants as vtype
use Rattle.vm_code.specs.Classes.{is_remote_interface}
use Rattle.vm_step.specs.Start.{takes_crossing}
use Rattle.vm_laws.specs.Files.{types_of}

-- what the kind of a field says of its type
abbrev pub IsKindOf : VType → Option Kind → Type 0
IsKindOf vtype.Int kind = kind ≡ Some IntKind
IsKindOf (vtype.Object class) kind = kind ≡ Some ReferenceKind
IsKindOf _ kind = Unit {0}

-- What is told of a class set is so: a class that may be remote is a remote class of the set, its fields are of the kinds that their types
-- say, and the class of OutOfMemoryError is one of the set, as java/lang/Object is.
pub record AreTold (classes : List Class) (told : Classes) : Type 0 where
  pub remote : (class : ClassId) → told.is_remote class ≡ true → IsRemote classes class
  pub fields : (class : ClassId) (slot : ℕ) (t : VType) → IsRemote classes class → slice_get (types_of classes class) slot ≡ Some t → IsKindOf t (field_kind told class slot)
  pub memory : told.out_of_memory.0 < length classes
  pub object : (unwrap_or (number_of classes (codes "java/lang/Object")) (record { 0 = 0 })).0 < length classes

-- a remote object keeps ints and references of interfaces alone
abbrev pub CanBeHeld : List Class → VType → Type 0
CanBeHeld classes vtype.Int = Unit {0}
CanBeHeld classes (vtype.Object class) = IsSomeAnd (slice_get classes class.0) IsInterface
CanBeHeld classes _ = ⊥

abbrev pub AreRemoteFields : List Class → Type 0
AreRemoteFields classes = (class : ClassId) (slot : ℕ) (t : VType) → IsRemote classes class → slice_get (types_of classes class) slot ≡ Some t → CanBeHeld classes t

-- So it is in each set of files that keep the rule on the fields of remote classes.
abbrev pub RemoteFieldsAreHeld : Type 0
RemoteFieldsAreHeld = (files : List ClassFile) (classes : List Class) → HasClasses files classes → IsClassSet classes → IsKept files RemoteField → AreRemoteFields classes

-- what a remote interface has, and what it inherits, takes and gives what crosses
abbrev pub AreRemoteMethods : List Class → Type 0
AreRemoteMethods classes =
    (interface upper : ClassId) (c : Class) (m : Method) → is_remote_interface classes interface ≡ true → IsSubtype classes interface upper
    → slice_get classes upper.0 ≡ Some c → IsInterface c → Contains c.file.methods m → takes_crossing classes m.types ≡ true

-- So it is in each set of files that keep the rule on the methods of remote interfaces.
abbrev pub RemoteMethodsCross : Type 0
RemoteMethodsCross = (files : List ClassFile) (classes : List Class) → HasClasses files classes → IsClassSet classes → IsKept files RemoteMethod → AreRemoteMethods classes

-- Both hold in each set of files that break no rule.
pub record AreRemoteRules (classes : List Class) : Type 0 where
  pub fields : AreRemoteFields classes
  pub methods : AreRemoteMethods classes

abbrev pub RemoteRulesAreKept : Type 0
RemoteRulesAreKept = (files : List ClassFile) (classes : List Class) → HasClasses files classes → IsClassSet classes → MakeASet files → AreRemoteRules classes
