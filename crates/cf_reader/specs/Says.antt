-- The class file that a layout says, part by part: its names and flags, its fields with their constants, and its methods with their code
-- (JVMS 4.1, 4.3, 4.5, 4.6, 4.7.2 to 4.7.4).
use Rattle.std.specs.Prelude.{◌≡◌, ℕ, ℤ, List, [], ◌∷◌, Option, Some, None, codes}
use Rattle.cf_pool.specs.declared.pool.Entry.{Entry}
use Rattle.cf_text.specs.Descriptors.{IsFieldType, IsMethodType}
use Rattle.cf_pool.specs.Pools.{class_at, integer_at, utf8_at}
use Rattle.cf_reader.specs.declared.class_file.Code.{Code}
use Rattle.cf_reader.specs.declared.class_file.Field.{Field}
use Rattle.cf_reader.specs.declared.class_file.Method.{Method}
use Rattle.cf_reader.specs.declared.class_file.ClassFile.{ClassFile}
use Rattle.cf_layout.specs.declared.items.Item.{Item}
use Rattle.cf_layout.specs.declared.items.Attribute.{Attribute}
use Rattle.cf_layout.specs.declared.items.CodeLayout.{CodeLayout}
use Rattle.cf_layout.specs.declared.items.Member.{Member}
use Rattle.cf_layout.specs.declared.items.Layout.{Layout}
use Rattle.cf_layout.specs.CodeFormat.{code_look, constant_look}
use Rattle.cf_reader.specs.Checks.{first_named}
use Rattle.cf_reader.specs.Builds.{code_in, constant_attribute}

-- one list says another, item by item
abbrev pub EachSays : {A B : Type 0} → (A → B → Type 0) → List A → List B → Type 0
EachSays Says [] [] = Unit {0}
EachSays Says [] (y ∷ ys) = ⊥
EachSays Says (x ∷ xs) [] = ⊥
EachSays Says (x ∷ xs) (y ∷ ys) = Says x y × EachSays Says xs ys

-- an index of a pool says a text, or a class's name
abbrev pub SaysText : List Entry → Item → List ℕ → Type 0
SaysText pool item text = utf8_at pool item.value ≡ Some text

abbrev pub SaysClassName : List Entry → Item → List ℕ → Type 0
SaysClassName pool item name = class_at pool item.value ≡ Some name

-- a ConstantValue says the value of the Integer entry that it names; none says no value
abbrev pub SaysConstant : List ℕ → List Entry → Option Attribute → Option ℤ → Type 0
SaysConstant bytes pool None constant = constant ≡ None
SaysConstant bytes pool (Some attribute) constant =
    (index : Item) × (value : ℤ) × (constant_look bytes attribute).Is index × (integer_at pool index.value ≡ Some value) × (constant ≡ Some value)

-- a Code says its bytes, and those of its first StackMapTable; none says no code
abbrev pub SaysCode : List ℕ → List Entry → Option Attribute → Option Code → Type 0
SaysCode bytes pool None code = code ≡ None
SaysCode bytes pool (Some attribute) code = (layout : CodeLayout) × (code_look bytes attribute).Is layout × (code ≡ Some (code_in bytes pool layout))

pub record SaysField (bytes : List ℕ) (pool : List Entry) (member : Member) (field : Field) : Type 0 where
  pub flags : field.flags.bits ≡ member.flags.value
  pub name : SaysText pool member.name field.name
  pub descriptor : SaysText pool member.descriptor field.descriptor
  pub kind : IsFieldType field.descriptor field.kind
  pub constant : SaysConstant bytes pool (constant_attribute pool member) field.constant

pub record SaysMethod (bytes : List ℕ) (pool : List Entry) (member : Member) (method : Method) : Type 0 where
  pub flags : method.flags.bits ≡ member.flags.value
  pub name : SaysText pool member.name method.name
  pub descriptor : SaysText pool member.descriptor method.descriptor
  pub types : IsMethodType method.descriptor method.types
  pub code : SaysCode bytes pool (first_named pool (codes "Code") member.attributes) method.code

pub record SaysClass (bytes : List ℕ) (layout : Layout) (class : ClassFile) : Type 0 where
  pub pool : class.pool ≡ layout.pool.pool
  pub flags : class.flags.bits ≡ layout.flags.value
  pub name : SaysClassName layout.pool.pool layout.this class.name
  -- java/lang/Object alone has no superclass, and no file spells it
  pub superclass : (name : List ℕ) × SaysClassName layout.pool.pool layout.superclass name × (class.superclass ≡ Some name)
  pub interfaces : EachSays (SaysClassName layout.pool.pool) layout.interfaces class.interfaces
  pub fields : EachSays (SaysField bytes layout.pool.pool) layout.fields class.fields
  pub methods : EachSays (SaysMethod bytes layout.pool.pool) layout.methods class.methods
