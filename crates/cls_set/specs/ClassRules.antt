-- How the rules on each class are looked for; `Rules` states them. (This project's own.)
use Rattle.std.specs.Prelude.{◌≡◌, ◌≢◌, ◌<◌, ◌⊎◌, ◌↔◌, ℕ, Bool, Some, None, List, Contains, IsPermutation, codes, slice_get}
use Rattle.cf_reader.specs.declared.class_file.ClassFile.{ClassFile}
use Rattle.cf_text.specs.declared.types.FieldType.{FieldType}
use Rattle.cf_reader.specs.declared.class_file.Field.{Field}
use Rattle.cf_reader.specs.declared.class_file.Method.{Method}
use Rattle.cf_reader.specs.declared.flags.TheConstants.Flags.{INTERFACE, STATIC}
use Rattle.cls_order.specs.declared.fault.SetFault.{SetFault}
use Rattle.cls_order.specs.declared.fault.SetFault.TheVariants.{Broken, Memory}
use Rattle.cls_order.specs.declared.fault.SetRule.{SetRule}
use Rattle.cls_order.specs.declared.fault.SetRule.TheVariants as rules
use Rattle.cls_set.specs.declared.rules.ClassRule.{ClassRule}
use Rattle.cls_set.specs.declared.rules.ClassRule.TheVariants.{BadSuper, FinalSuper, RemoteField, RemoteMethod, Override}
use Rattle.cls_set.specs.Descending.{AreOverriding}
use Rattle.cls_set.specs.Faults.{IsFirstToBreak, IsKept, Keeps}
use Rattle.cls_set.specs.Rules.{CanBeKept, CanCross, Has, HasFieldNotKept, HasMethodNotCrossing, HasSuperclass, HasSuperinterface, IsBelowRemote, IsItOrAbove}
use Rattle.cls_order.specs.declared.class.Class.{Class}
use Rattle.cls_order.specs.declared.entries.Entry.{Entry}
use Rattle.cls_set.specs.declared.remote.MemberKind.{MemberKind}
use Rattle.cls_set.specs.declared.remote.MemberKind.TheVariants.{Fields, Methods}
use Rattle.cls_set.specs.declared.rules.Facts.{Facts}
use Rattle.cls_order.specs.Sets.{Origin, origins}
use Rattle.cls_order.specs.Building.{origins_of}
use Rattle.cls_order.specs.Entries.{classes_of, AreArranged}
use Rattle.cls_order.specs.FaultNames.{set_rule_number}
use Rattle.cls_set.specs.Orders.{HaveOrders}
use Rattle.cls_order.specs.Marks.{IsMarked}

-- the rule itself
abbrev pub set_rule : ClassRule → SetRule
set_rule BadSuper = rules.BadSuper
set_rule FinalSuper = rules.FinalSuper
set_rule RemoteField = rules.RemoteField
set_rule RemoteMethod = rules.RemoteMethod
set_rule Override = rules.Override

-- the direct superclass has one of the mask's flags
abbrev pub ExtendsOneWith : List Origin → ClassFile → ℕ → Type 0
ExtendsOneWith classes file mask = (sup : ClassFile) × HasSuperclass classes file sup × Has sup.flags.bits mask

-- a direct superinterface is no interface
abbrev pub ImplementsClass : List Origin → ClassFile → Type 0
ImplementsClass classes file = (sup : ClassFile) × HasSuperinterface classes file sup × (¬ Has sup.flags.bits INTERFACE)

-- a class without superclass that is not java/lang/Object, or an interface whose superclass is not that
abbrev pub IsBadlyRooted : ClassFile → Type 0
IsBadlyRooted file =
    ((file.superclass ≡ None) × (file.name ≢ codes "java/lang/Object"))
    ⊎ (Has file.flags.bits INTERFACE × (file.superclass ≢ Some (codes "java/lang/Object")))

-- by number, which classes are java/rmi/Remote or below it
pub record AreRemote (entries : List Entry) (told : List Bool) : Type 0 where
  pub below : (k : ℕ) (c : Class) → slice_get (classes_of entries) k ≡ Some c → IsMarked told k ↔ IsBelowRemote (origins_of entries) c.file.name

-- entries whose supertypes are known, and of which it is told which are remote
pub record AreKnown (entries : List Entry) (told : List Bool) : Type 0 where
  pub arranged : AreArranged entries
  pub remote : AreRemote entries told

-- an instance field of another type than a remote class may have
pub record IsFieldNotKept (classes : List Origin) (field : Field) : Type 0 where
  pub of_instances : ¬ Has field.flags.bits STATIC
  pub not_kept : ¬ CanBeKept classes field.kind

-- a type that a remote interface's methods may not have
pub record CannotCross (classes : List Origin) (type : FieldType) : Type 0 where
  pub not_crossing : ¬ CanCross classes type

-- a method of other types than a remote interface may have
pub record IsMethodNotCrossing (classes : List Origin) (method : Method) : Type 0 where
  pub type : FieldType
  pub used : Contains method.types.parameters type ⊎ (method.types.result ≡ Some type)
  pub not_crossing : ¬ CanCross classes type

-- a class declares what no remote class or interface may have or inherit
abbrev pub IsUnfit : MemberKind → List Origin → ClassFile → Type 0
IsUnfit Fields classes file = HasFieldNotKept classes file
IsUnfit Methods classes file = HasMethodNotCrossing classes file

-- by number, which classes declare or inherit it
pub record AreUnfit (kind : MemberKind) (entries : List Entry) (told : List Bool) : Type 0 where
  pub each : (k : ℕ) (c : Class) → slice_get (classes_of entries) k ≡ Some c
      → IsMarked told k ↔ ((upper : ClassFile) × IsItOrAbove (origins_of entries) c.file upper × IsUnfit kind (origins_of entries) upper)

-- what the rules ask of each class
pub record AreFacts (entries : List Entry) (facts : Facts) : Type 0 where
  pub remote : AreRemote entries facts.remote.items
  pub fields : AreUnfit Fields entries facts.fields.items
  pub methods : AreUnfit Methods entries facts.methods.items
  pub orders : HaveOrders Methods (classes_of entries) facts.orders.items
  pub overriding : AreOverriding entries facts.overriding.items

-- the first class that breaks the rule, unless memory ran out
abbrev pub IsRuleFault : List Origin → SetRule → SetFault → Type 0
IsRuleFault classes rule (Broken r name) = (r ≡ rule) × IsFirstToBreak classes rule name
IsRuleFault classes rule Memory = Unit {0}

-- the classes break none of these rules with a number below this one
abbrev pub KeepBelow : List Origin → ℕ → Type 0
KeepBelow classes n = (rule : ClassRule) → set_rule_number (set_rule rule) < n → Keeps classes (set_rule rule)

-- of the rules that are looked for before the classes are counted, the first that a class breaks, and the first class that breaks it
abbrev pub IsFirstRuleFault : List Origin → SetFault → Type 0
IsFirstRuleFault classes Memory = Unit {0}
IsFirstRuleFault classes (Broken r name) =
    (rule : ClassRule) × (r ≡ set_rule rule) × (set_rule_number r < set_rule_number rules.TooMany) × IsFirstToBreak classes r name × KeepBelow classes (set_rule_number r)

-- entries of the classes of these files, whose supertypes are known; the rules that are looked for before BadSuper are kept
pub record AreOf (files : List ClassFile) (entries : List Entry) : Type 0 where
  pub known : AreArranged entries
  pub held : IsPermutation (origins files) (origins_of entries)
  pub kept : (other : SetRule) → set_rule_number other < set_rule_number rules.BadSuper → IsKept files other
