-- The class file that a layout says, once its demands hold, as the code builds it; `Says` states what it is. (This project's own.)
use Rattle.std.specs.Prelude.{ℕ, ℤ, List, [], ◌∷◌, Option, Some, None, Result, Ok, Err, codes, if◌then◌else◌}
use Rattle.cf_text.specs.declared.fault.ReadFault.{ReadFault}
use Rattle.cf_text.specs.declared.fault.ReadFault.TheVariants.{Broken}
use Rattle.cf_text.specs.declared.fault.Rule.TheVariants as rules
use Rattle.cf_pool.specs.declared.pool.Entry.{Entry}
use Rattle.cf_text.specs.Reading.{◌>>=◌}
use Rattle.cf_text.specs.Demands.{verdict}
use Rattle.cf_text.specs.Types.{field_descriptor_of, method_descriptor_of}
use Rattle.cf_pool.specs.Pools.{class_at, integer_at, utf8_at}
use Rattle.cf_reader.specs.declared.flags.TheConstants.Flags.{STATIC}
use Rattle.cf_reader.specs.declared.class_file.Code.{Code}
use Rattle.cf_reader.specs.declared.class_file.Field.{Field}
use Rattle.cf_reader.specs.declared.class_file.Method.{Method}
use Rattle.cf_reader.specs.declared.class_file.ClassFile.{ClassFile}
use Rattle.cf_layout.specs.declared.items.Item.{Item}
use Rattle.cf_layout.specs.declared.items.Attribute.{Attribute}
use Rattle.cf_layout.specs.declared.items.CodeLayout.{CodeLayout}
use Rattle.cf_layout.specs.declared.items.Member.{Member}
use Rattle.cf_layout.specs.declared.items.Layout.{Layout}
use Rattle.cf_layout.specs.Layouts.{between, layout_of}
use Rattle.cf_layout.specs.Codes.{code_of, constant_of}
use Rattle.cf_layout.specs.ReadInsides.{insides_of}
use Rattle.cf_reader.specs.Checks.{demands, first_named}
use Rattle.cf_reader.specs.Rules.{has}

-- what an index at a position names
abbrev pub needed : {A : Type 0} → ℕ → Option A → Result A ReadFault
needed at (Some x) = Ok x
needed at None = Err (Broken rules.Index at)

-- each of a list, or the first fault
unfoldable pub each : {A B : Type 0} → (A → Result B ReadFault) → List A → Result (List B) ReadFault
each read [] = Ok []
each read (item ∷ items) = do
  first ← read item
  others ← each read items
  Ok (first ∷ others)

-- the text, or the class's name, that an item names
abbrev pub text_of : List Entry → Item → Result (List ℕ) ReadFault
text_of pool item = needed item.at (utf8_at pool item.value)

abbrev pub class_name_of : List Entry → Item → Result (List ℕ) ReadFault
class_name_of pool item = needed item.at (class_at pool item.value)

-- the bytes of an attribute
abbrev pub table_in : List ℕ → Option Attribute → Option (List ℕ)
table_in bytes None = None
table_in bytes (Some attribute) = Some (between bytes attribute.body attribute.end)

-- a Code with its StackMapTable
unfoldable pub code_in : List ℕ → List Entry → CodeLayout → Code
code_in bytes pool code = record {
  max_stack = code.head.max_stack;
  max_locals = code.head.max_locals;
  bytes = between bytes code.head.code code.code_end;
  stack_map_table = table_in bytes (first_named pool (codes "StackMapTable") code.attributes);
}

abbrev pub code_from : List ℕ → List Entry → Option Attribute → Result (Option Code) ReadFault
code_from bytes pool None = Ok None
code_from bytes pool (Some attribute) = code_of bytes attribute >>= λ code. Ok (Some (code_in bytes pool code))

unfoldable pub method_from : List ℕ → List Entry → Member → Result Method ReadFault
method_from bytes pool method = do
  name ← text_of pool method.name
  descriptor ← text_of pool method.descriptor
  types ← method_descriptor_of method.descriptor.at descriptor
  code ← code_from bytes pool (first_named pool (codes "Code") method.attributes)
  Ok (record { flags = record { bits = method.flags.value }; name = name; descriptor = descriptor; types = types; code = code })

-- the value of a ConstantValue
abbrev pub constant_from : List ℕ → List Entry → Option Attribute → Result (Option ℤ) ReadFault
constant_from bytes pool None = Ok None
constant_from bytes pool (Some attribute) = constant_of bytes attribute >>= λ index. needed index.at (integer_at pool index.value) >>= λ value. Ok (Some value)

-- the attribute that gives a field its value: of static fields alone
unfoldable pub constant_attribute : List Entry → Member → Option Attribute
constant_attribute pool field = if has field.flags.value STATIC then first_named pool (codes "ConstantValue") field.attributes else None

unfoldable pub field_from : List ℕ → List Entry → Member → Result Field ReadFault
field_from bytes pool field = do
  name ← text_of pool field.name
  descriptor ← text_of pool field.descriptor
  type ← field_descriptor_of field.descriptor.at descriptor
  constant ← constant_from bytes pool (constant_attribute pool field)
  Ok (record { flags = record { bits = field.flags.value }; name = name; descriptor = descriptor; kind = type; constant = constant })

unfoldable pub class_from : List ℕ → Layout → Result ClassFile ReadFault
class_from bytes layout = do
  name ← class_name_of layout.pool.pool layout.this
  superclass ← class_name_of layout.pool.pool layout.superclass
  interfaces ← each (class_name_of layout.pool.pool) layout.interfaces
  fields ← each (field_from bytes layout.pool.pool) layout.fields
  methods ← each (method_from bytes layout.pool.pool) layout.methods
  Ok (record {
    pool = layout.pool.pool;
    flags = record { bits = layout.flags.value };
    name = name;
    superclass = Some superclass;
    interfaces = interfaces;
    fields = fields;
    methods = methods;
  })

-- The same class file in parts, as the code makes it: its supertypes,
unfoldable pub supertypes_from : Layout → Result (List ℕ × List (List ℕ)) ReadFault
supertypes_from layout = do
  superclass ← class_name_of layout.pool.pool layout.superclass
  interfaces ← each (class_name_of layout.pool.pool) layout.interfaces
  Ok (superclass, interfaces)

-- its members,
unfoldable pub members_from : List ℕ → Layout → Result (List Field × List Method) ReadFault
members_from bytes layout = do
  fields ← each (field_from bytes layout.pool.pool) layout.fields
  methods ← each (method_from bytes layout.pool.pool) layout.methods
  Ok (fields, methods)

-- and all that is made of a layout.
unfoldable pub parts_from : List ℕ → Layout → Result ((List Field × List Method) × (List ℕ × List (List ℕ)) × List ℕ) ReadFault
parts_from bytes layout = do
  name ← class_name_of layout.pool.pool layout.this
  supertypes ← supertypes_from layout
  members ← members_from bytes layout
  Ok (members, supertypes, name)

-- The reading of a class file: its layout, then the first demand that does not hold, then what it says.
unfoldable pub reading_of : List ℕ → Result ClassFile ReadFault
reading_of bytes = do
  layout ← layout_of bytes
  _ ← verdict (demands (insides_of bytes) layout)
  class_from bytes layout
