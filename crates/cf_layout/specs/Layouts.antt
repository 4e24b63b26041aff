-- How the layout of a class file is read (JVMS 4.1, 4.5, 4.6, 4.7): the first pass.
use Rattle.std.specs.Prelude.{ℕ, Bool, ◌==◌, ◌&&◌, nat_le, List, [], ◌∷◌, length, take, drop, Result, Ok}
use Rattle.cf_text.specs.declared.fault.ReadFault.{ReadFault}
use Rattle.cf_text.specs.declared.fault.Rule.{Rule}
use Rattle.cf_text.specs.declared.fault.Rule.TheVariants as rules
use Rattle.cf_text.specs.Reading.{◌>>=◌, many}
use Rattle.cf_text.specs.Numbers.{number_at, skip_at}
use Rattle.cf_text.specs.Demands.{verdict}
use Rattle.cf_pool.specs.Pools.{layout_from}
use Rattle.cf_pool.specs.declared.layout.PoolLayout.{PoolLayout}
use Rattle.cf_layout.specs.declared.items.Item.{Item}
use Rattle.cf_layout.specs.declared.items.Attribute.{Attribute}
use Rattle.cf_layout.specs.declared.items.Member.{Member}
use Rattle.cf_layout.specs.declared.items.Layout.{Layout}
use Rattle.cf_layout.specs.declared.layout.Front.{Front}
use Rattle.cf_layout.specs.declared.layout.Members.{Members}
use Rattle.cf_layout.specs.declared.layout.Rest.{Rest}

-- the bytes between two positions
abbrev pub between : List ℕ → ℕ → ℕ → List ℕ
between bytes from to = drop from (take to bytes)

-- a number of two bytes, and its position
unfoldable pub item_at : List ℕ → ℕ → Result (Item × ℕ) ReadFault
item_at bytes at = do
  number ← number_at 2 bytes at
  Ok (record { at = at; value = number.0 }, number.1)

-- an attribute: its name, its length, and that many bytes, which are one item
unfoldable pub attribute_at : List ℕ → ℕ → Result (Attribute × ℕ) ReadFault
attribute_at bytes at = do
  name ← item_at bytes at
  length ← number_at 4 bytes name.1
  end ← skip_at length.0 bytes length.1
  Ok (record { name = name.0; body = length.1; end = end }, end)

-- attributes after their count
unfoldable pub attributes_at : List ℕ → ℕ → Result (List Attribute × ℕ) ReadFault
attributes_at bytes at = do
  count ← number_at 2 bytes at
  many (attribute_at bytes) count.0 count.1

-- a field or a method
unfoldable pub member_at : List ℕ → ℕ → Result (Member × ℕ) ReadFault
member_at bytes at = do
  flags ← item_at bytes at
  name ← item_at bytes flags.1
  descriptor ← item_at bytes name.1
  attributes ← attributes_at bytes descriptor.1
  Ok (record { flags = flags.0; name = name.0; descriptor = descriptor.0; attributes = attributes.0 }, attributes.1)

-- an item keeps a rule
abbrev pub keeps : Bool → Rule → ℕ → Result (Unit {0}) ReadFault
keeps holds rule at = verdict (record { at = at; rule = rule; holds = holds } ∷ [])

-- CAFEBABE, minor version 0, and a major version from 50 to 52
unfoldable pub header_at : List ℕ → Result (ℕ × ℕ) ReadFault
header_at bytes = do
  magic ← number_at 4 bytes 0
  _ ← keeps (magic.0 == 0xcafebabe) rules.Magic 0
  minor ← number_at 2 bytes magic.1
  _ ← keeps (minor.0 == 0) rules.Version magic.1
  major ← number_at 2 bytes minor.1
  _ ← keeps (nat_le 50 major.0 && nat_le major.0 52) rules.Version minor.1
  Ok (major.0, major.1)

-- what follows the version
unfoldable pub body_at : List ℕ → ℕ → Result (Layout × ℕ) ReadFault
body_at bytes at = do
  pool ← layout_from bytes at
  flags ← item_at bytes pool.1
  this ← item_at bytes flags.1
  superclass ← item_at bytes this.1
  interface_count ← item_at bytes superclass.1
  interfaces ← many (item_at bytes) interface_count.0.value interface_count.1
  field_count ← item_at bytes interfaces.1
  fields ← many (member_at bytes) field_count.0.value field_count.1
  method_count ← item_at bytes fields.1
  methods ← many (member_at bytes) method_count.0.value method_count.1
  attributes ← attributes_at bytes methods.1
  Ok (
    record {
      pool = pool.0;
      flags = flags.0;
      this = this.0;
      superclass = superclass.0;
      interface_count = interface_count.0;
      interfaces = interfaces.0;
      field_count = field_count.0;
      fields = fields.0;
      method_count = method_count.0;
      methods = methods.0;
      attributes = attributes.0;
    },
    attributes.1,
  )

-- The same body in three parts, as the code reads it: what stands before the superinterfaces,
unfoldable pub front_at : List ℕ → ℕ → Result (Front × ℕ) ReadFault
front_at bytes at = do
  flags ← item_at bytes at
  this ← item_at bytes flags.1
  superclass ← item_at bytes this.1
  interface_count ← item_at bytes superclass.1
  Ok (record { flags = flags.0; this = this.0; superclass = superclass.0; interface_count = interface_count.0 }, interface_count.1)

-- what stands after them,
unfoldable pub members_at : List ℕ → ℕ → Result (Members × ℕ) ReadFault
members_at bytes at = do
  field_count ← item_at bytes at
  fields ← many (member_at bytes) field_count.0.value field_count.1
  method_count ← item_at bytes fields.1
  methods ← many (member_at bytes) method_count.0.value method_count.1
  attributes ← attributes_at bytes methods.1
  Ok (
    record {
      field_count = field_count.0;
      fields = fields.0;
      method_count = method_count.0;
      methods = methods.0;
      attributes = attributes.0;
    },
    attributes.1,
  )

-- and all that stands after the constant pool.
unfoldable pub rest_at : List ℕ → ℕ → Result (Rest × ℕ) ReadFault
rest_at bytes at = do
  front ← front_at bytes at
  interfaces ← many (item_at bytes) front.0.interface_count.value front.1
  members ← members_at bytes interfaces.1
  Ok (record { front = front.0; interfaces = interfaces.0; members = members.0 }, members.1)

-- the layout of a pool and of what stands after it
abbrev pub layout_with : PoolLayout → Rest → Layout
layout_with pool rest = record {
  pool = pool;
  flags = rest.front.flags;
  this = rest.front.this;
  superclass = rest.front.superclass;
  interface_count = rest.front.interface_count;
  interfaces = rest.interfaces;
  field_count = rest.members.field_count;
  fields = rest.members.fields;
  method_count = rest.members.method_count;
  methods = rest.members.methods;
  attributes = rest.members.attributes;
}

-- the most bytes that a class file may have
abbrev pub max_length : ℕ
max_length = 1048576

-- the first pass, up to the end of the file
unfoldable pub file_at : List ℕ → Result (Layout × ℕ) ReadFault
file_at bytes = do
  _ ← keeps (nat_le (length bytes) max_length) rules.TooLarge max_length
  major ← header_at bytes
  layout ← body_at bytes major.1
  _ ← keeps (layout.1 == length bytes) rules.Trailing layout.1
  Ok (layout.0, layout.1)

-- the layout of all the bytes
unfoldable pub layout_of : List ℕ → Result Layout ReadFault
layout_of bytes = do
  file ← file_at bytes
  Ok file.0
