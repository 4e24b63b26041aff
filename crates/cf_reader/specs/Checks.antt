-- What is demanded of a class file whose layout is known, in the order of bytes, and at one position in the
-- order of the rules' numbers (JVMS 4.1, 4.5, 4.6, 4.7, 4.8): the second pass. A demand that another one
-- covers is not made: flags that the profile leaves out need not go together, a Code of a wrong length need
-- not fill its attribute, and a second attribute of a known kind is not entered.
use Rattle.std.specs.Prelude.{ℕ, Bool, false, ◌==◌, ◌&&◌, ◌||◌, ◌+◌, nat_le, not, List, [], ◌∷◌, ◌++◌, take, Option, Some, None, is_some, is_none, codes, if◌then◌else◌, sum_by, true, Result, Ok, Err}
use Rattle.std.specs.Str.{bytes_eq}
use Rattle.cf_text.specs.declared.fault.Rule.{Rule}
use Rattle.cf_text.specs.declared.fault.ReadFault.{ReadFault}
use Rattle.cf_text.specs.declared.fault.Rule.TheVariants as rules
use Rattle.cf_pool.specs.declared.pool.Entry.{Entry}
use Rattle.cf_text.specs.declared.types.ElementType.{ElementType}
use Rattle.cf_text.specs.declared.types.ElementType.TheVariants as elements
use Rattle.cf_text.specs.declared.types.FieldType.{FieldType}
use Rattle.cf_text.specs.Demands.{Demand, of_each, of_read, of_some}
use Rattle.cf_text.specs.Names.{is_method_name, is_name}
use Rattle.cf_text.specs.Types.{begins_with, field_descriptor_of, method_descriptor_of}
use Rattle.cf_pool.specs.Pools.{class_at, indexed, integer_at, named, pool_demands, utf8_at}
use Rattle.cf_reader.specs.declared.flags.TheConstants.Flags.{INTERFACE, STATIC}
use Rattle.cf_layout.specs.declared.items.Item.{Item}
use Rattle.cf_layout.specs.declared.items.Attribute.{Attribute}
use Rattle.cf_layout.specs.declared.items.Member.{Member}
use Rattle.cf_descriptors.specs.MemberKeys.{occurs}
use Rattle.cf_layout.specs.declared.items.Layout.{Layout}
use Rattle.cf_reader.specs.declared.attributes.Known.{Known}
use Rattle.cf_reader.specs.declared.attributes.Known.TheVariants as known
use Rattle.cf_layout.specs.CodeFormat.{Insides}
use Rattle.cf_reader.specs.Rules.{class_flags_fit, field_flags_fit, has, method_flags_fit}
use Rattle.cf_reader.specs.Profile.{class_flags_in_profile, field_flags_in_profile, handlers_in_profile, is_int_type, is_profile_type, method_flags_in_profile, method_name_in_profile, method_type_in_profile}

-- one demand
abbrev pub demand : ℕ → Rule → Bool → List Demand
demand at rule holds = record { at = at; rule = rule; holds = holds } ∷ []

-- ---- attributes

-- a text that was found is this one
abbrev pub text_is : List ℕ → Option (List ℕ) → Bool
text_is text (Some found) = bytes_eq found text
text_is text None = false

unfoldable pub is_named : List Entry → List ℕ → Attribute → Bool
is_named pool name attribute = text_is name (utf8_at pool attribute.name.value)

-- the first attribute of a name
unfoldable pub first_named : List Entry → List ℕ → List Attribute → Option Attribute
first_named pool name [] = None
first_named pool name (attribute ∷ others) = if is_named pool name attribute then Some attribute else first_named pool name others

-- an attribute is of the kind that is known on its item
unfoldable pub is_known : List Entry → Known → Attribute → Bool
is_known pool known.Nothing attribute = false
is_known pool known.ConstantValue attribute = is_named pool (codes "ConstantValue") attribute
is_known pool known.StackMapTable attribute = is_named pool (codes "StackMapTable") attribute

-- The demands of an attribute: its name is a text; a known one is the first of its kind, and has the
-- demands of its kind.
unfoldable pub one_attribute : List Entry → (Attribute → Bool) → (Attribute → List Demand) → Bool → Attribute → List Demand
one_attribute pool is_known inside seen attribute =
    indexed attribute.name.at (utf8_at pool attribute.name.value)
    ++ (if is_known attribute then (if seen then demand attribute.name.at rules.Duplicate false else inside attribute) else [])

-- the demands of attributes; `seen` says whether a known one stood before
unfoldable pub attribute_demands : List Entry → (Attribute → Bool) → (Attribute → List Demand) → Bool → List Attribute → List Demand
attribute_demands pool is_known inside seen [] = []
attribute_demands pool is_known inside seen (attribute ∷ others) =
    one_attribute pool is_known inside seen attribute ++ attribute_demands pool is_known inside (seen || is_known attribute) others

-- the demands of a known attribute but Code
unfoldable pub known_demands : Insides → List Entry → Known → Attribute → List Demand
known_demands insides pool known.Nothing attribute = []
known_demands insides pool known.ConstantValue attribute =
    of_read (insides.constant attribute) (λ index. indexed index.at (integer_at pool index.value))
known_demands insides pool known.StackMapTable attribute = of_read (insides.table attribute) (λ _. [])

-- the demands of attributes on an item on which one kind but Code is known
unfoldable pub plain_demands : Insides → List Entry → Known → List Attribute → List Demand
plain_demands insides pool kind attributes = attribute_demands pool (is_known pool kind) (known_demands insides pool kind) false attributes

-- the demands of a Code
unfoldable pub code_demands : Insides → List Entry → Attribute → List Demand
code_demands insides pool attribute =
    of_read (insides.code attribute) (λ code.
    demand code.handler_count.at rules.OutOfProfile (handlers_in_profile code.handler_count.value)
    ++ plain_demands insides pool known.StackMapTable code.attributes)

-- the demands of a method's attributes
unfoldable pub method_attribute_demands : Insides → List Entry → List Attribute → List Demand
method_attribute_demands insides pool attributes =
    attribute_demands pool (is_named pool (codes "Code")) (code_demands insides pool) false attributes

-- ---- members

-- the demands of a member's flags: they go together, the member is new, it is in profile
unfoldable pub flag_demands : ℕ → Bool → Bool → Bool → List Demand
flag_demands at fit new in_profile =
    demand at rules.Flags (not in_profile || fit) ++ demand at rules.Duplicate new ++ demand at rules.OutOfProfile in_profile

-- ---- fields

-- what is read as a type is int or boolean; of a descriptor that is itself at fault this asks nothing
abbrev pub is_int_read : Result FieldType ReadFault → Bool
is_int_read (Ok type) = is_int_type type
is_int_read (Err fault) = true

-- and so does an index that names no text
unfoldable pub is_int_text : Option (List ℕ) → Bool
is_int_text None = true
is_int_text (Some text) = is_int_read (field_descriptor_of 0 text)

unfoldable pub field_flag_demands : List Entry → ℕ → Bool → Member → List Demand
field_flag_demands pool class new field =
    flag_demands field.flags.at (field_flags_fit (has class INTERFACE) field.flags.value) new
    (field_flags_in_profile (is_int_text (utf8_at pool field.descriptor.value))
    (is_some (first_named pool (codes "ConstantValue") field.attributes)) field.flags.value)

-- the demands of a descriptor's text
unfoldable pub field_type_demands : ℕ → List ℕ → List Demand
field_type_demands at text = of_read (field_descriptor_of at text) (λ type. demand at rules.OutOfProfile (is_profile_type type))

unfoldable pub field_descriptor_demands : List Entry → Item → List Demand
field_descriptor_demands pool item =
    indexed item.at (utf8_at pool item.value) ++ of_some (utf8_at pool item.value) (field_type_demands item.at)

-- which attribute is known: ConstantValue, on static fields
unfoldable pub field_known : ℕ → Known
field_known bits = if has bits STATIC then known.ConstantValue else known.Nothing

-- the demands of a field, given whether it is new
unfoldable pub field_demands_if : Insides → List Entry → ℕ → Bool → Member → List Demand
field_demands_if insides pool class new field =
    field_flag_demands pool class new field
    ++ named field.name.at (utf8_at pool field.name.value) is_name
    ++ field_descriptor_demands pool field.descriptor
    ++ plain_demands insides pool (field_known field.flags.value) field.attributes

-- the demands of a field: it is new if none of its name and descriptor stood before
abbrev pub field_demands : Insides → List Entry → ℕ → List Member → ℕ → Member → List Demand
field_demands insides pool class fields index field = field_demands_if insides pool class (not (occurs pool (take index fields) field)) field

-- ---- methods

unfoldable pub is_initializer : List Entry → Item → Bool
is_initializer pool name = text_is (codes "<init>") (utf8_at pool name.value)

unfoldable pub method_flag_demands : List Entry → ℕ → Bool → Member → List Demand
method_flag_demands pool class new method =
    flag_demands method.flags.at
    (method_flags_fit class (is_some (first_named pool (codes "Code") method.attributes)) (is_initializer pool method.name) method.flags.value)
    new (method_flags_in_profile class method.flags.value)

unfoldable pub method_name_demands : List Entry → Item → List Demand
method_name_demands pool item =
    named item.at (utf8_at pool item.value) is_method_name
    ++ of_some (utf8_at pool item.value) (λ name. demand item.at rules.OutOfProfile (method_name_in_profile name))

-- how many words a value of an element takes, and a value of a type
abbrev pub element_words : ElementType → ℕ
element_words elements.Long = 2
element_words elements.Double = 2
element_words elements.Byte = 1
element_words elements.Char = 1
element_words elements.Float = 1
element_words elements.Int = 1
element_words elements.Short = 1
element_words elements.Boolean = 1
element_words (elements.Class name) = 1

unfoldable pub words_of : FieldType → ℕ
words_of type = if type.dimensions == 0 then element_words type.element else 1

-- parameters, with the receiver if there is one, take at most 255 words (JVMS 4.3.3)
unfoldable pub are_few : Bool → List FieldType → Bool
are_few static parameters = nat_le (sum_by words_of parameters + (if static then 0 else 1)) 255

-- The demands of a method's type: its parameters are few, an initializer answers nothing, it is in profile.
unfoldable pub method_type_demands : ℕ → Bool → Bool → List ℕ → List Demand
method_type_demands at static initializer text =
    of_read (method_descriptor_of at text) (λ type.
    demand at rules.Descriptor (are_few static type.parameters && (not initializer || is_none type.result))
    ++ demand at rules.OutOfProfile (method_type_in_profile type))

unfoldable pub method_descriptor_demands : List Entry → Member → List Demand
method_descriptor_demands pool method =
    indexed method.descriptor.at (utf8_at pool method.descriptor.value)
    ++ of_some (utf8_at pool method.descriptor.value)
    (method_type_demands method.descriptor.at (has method.flags.value STATIC) (is_initializer pool method.name))

-- the demands of a method, given whether it is new
unfoldable pub method_demands_if : Insides → List Entry → ℕ → Bool → Member → List Demand
method_demands_if insides pool class new method =
    method_flag_demands pool class new method
    ++ method_name_demands pool method.name
    ++ method_descriptor_demands pool method
    ++ method_attribute_demands insides pool method.attributes

-- the demands of a method: it is new if none of its name and descriptor stood before
abbrev pub method_demands : Insides → List Entry → ℕ → List Member → ℕ → Member → List Demand
method_demands insides pool class methods index method = method_demands_if insides pool class (not (occurs pool (take index methods) method)) method

-- ---- the class

unfoldable pub class_flag_demands : Item → List Demand
class_flag_demands flags =
    demand flags.at rules.Flags (not (class_flags_in_profile flags.value) || class_flags_fit flags.value)
    ++ demand flags.at rules.OutOfProfile (class_flags_in_profile flags.value)

-- an index names a class, and no array
unfoldable pub class_index_demands : List Entry → Item → List Demand
class_index_demands pool item = named item.at (class_at pool item.value) (λ name. not (begins_with 91 name))

unfoldable pub head_demands : Layout → List Demand
head_demands layout =
    pool_demands layout.pool ++ class_flag_demands layout.flags ++ class_index_demands layout.pool.pool layout.this
    ++ class_index_demands layout.pool.pool layout.superclass

unfoldable pub interfaces_demands : Layout → List Demand
interfaces_demands layout = of_each (λ index interface. class_index_demands layout.pool.pool interface) 0 layout.interfaces

unfoldable pub fields_demands : Insides → Layout → List Demand
fields_demands insides layout = of_each (field_demands insides layout.pool.pool layout.flags.value layout.fields) 0 layout.fields

unfoldable pub methods_demands : Insides → Layout → List Demand
methods_demands insides layout = of_each (method_demands insides layout.pool.pool layout.flags.value layout.methods) 0 layout.methods

-- all demands, in order
unfoldable pub demands : Insides → Layout → List Demand
demands insides layout =
    head_demands layout ++ interfaces_demands layout ++ fields_demands insides layout ++ methods_demands insides layout
    ++ plain_demands insides layout.pool.pool known.Nothing layout.attributes
