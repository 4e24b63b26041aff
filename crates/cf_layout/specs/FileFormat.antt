-- A class file as bytes lay it out (JVMS 4.1, 4.5, 4.6, 4.7), no attribute entered.
use Rattle.std.specs.Prelude.{ℕ, ◌==◌, ◌&&◌, nat_le, List, length}
use Rattle.cf_text.specs.declared.fault.Rule.TheVariants as rules
use Rattle.cf_text.specs.Formats.{Format, ◌>>=◌, asking, done, many_format, number_format, run_format}
use Rattle.cf_pool.specs.PoolFormat.{layout_format}
use Rattle.cf_layout.specs.declared.items.Item.{Item}
use Rattle.cf_layout.specs.declared.items.Attribute.{Attribute}
use Rattle.cf_layout.specs.declared.items.Member.{Member}
use Rattle.cf_layout.specs.declared.items.Layout.{Layout}
use Rattle.cf_layout.specs.Layouts.{max_length}

-- a number of two bytes, and its position
unfoldable pub item_format : List ℕ → ℕ → Format Item
item_format bytes at = do
  number ← number_format 2 bytes
  done (record { at = at; value = number.0 })

-- an attribute: its name, its length, and that many bytes, which are one item
unfoldable pub attribute_format : List ℕ → ℕ → Format Attribute
attribute_format bytes at = do
  name ← item_format bytes at
  length ← number_format 4 bytes
  inside ← run_format length.0 bytes
  done (record { name = name.0; body = length.1; end = inside.1 })

-- attributes after their count
unfoldable pub attributes_format : List ℕ → ℕ → Format (List Attribute)
attributes_format bytes at = do
  count ← number_format 2 bytes
  many_format (attribute_format bytes) count.0 count.1

-- a field or a method
unfoldable pub member_format : List ℕ → ℕ → Format Member
member_format bytes at = do
  flags ← item_format bytes at
  name ← item_format bytes flags.1
  descriptor ← item_format bytes name.1
  attributes ← attributes_format bytes descriptor.1
  done (record { flags = flags.0; name = name.0; descriptor = descriptor.0; attributes = attributes.0 })

-- CAFEBABE, minor version 0, and a major version from 50 to 52. The versions are a rule of this project: code is checked by
-- declared frames from 50 on (JVMS 4.10), and the standard that is followed, Java SE 8, ends at 52.
unfoldable pub header_format : List ℕ → Format ℕ
header_format bytes =
    number_format 4 bytes >>= λ magic. asking (magic.0 == 0xcafebabe) rules.Magic 0 (
    number_format 2 bytes >>= λ minor. asking (minor.0 == 0) rules.Version magic.1 (
    number_format 2 bytes >>= λ major. asking (nat_le 50 major.0 && nat_le major.0 52) rules.Version minor.1 (done major.0)))

-- what follows the version
unfoldable pub body_format : List ℕ → ℕ → Format Layout
body_format bytes at = do
  pool ← layout_format bytes at
  flags ← item_format bytes pool.1
  this ← item_format bytes flags.1
  superclass ← item_format bytes this.1
  interface_count ← item_format bytes superclass.1
  interfaces ← many_format (item_format bytes) interface_count.0.value interface_count.1
  field_count ← item_format bytes interfaces.1
  fields ← many_format (member_format bytes) field_count.0.value field_count.1
  method_count ← item_format bytes fields.1
  methods ← many_format (member_format bytes) method_count.0.value method_count.1
  attributes ← attributes_format bytes methods.1
  done (record {
    pool = pool.0;
    flags = flags.0;
    this = this.0;
    superclass = superclass.0;
    interface_count = interface_count.0;
    interfaces = interfaces.0;
    field_count = field_count.0;
    fields = fields.0;
    method_count = method_count.0;
    methods = methods.0;
    attributes = attributes.0;
  })

-- A file that is not too large: a header, what follows it, and nothing after. How large is a rule of this project, so that a
-- file that does not end takes bounded memory.
unfoldable pub file_format : List ℕ → Format Layout
file_format bytes =
    asking (nat_le (length bytes) max_length) rules.TooLarge max_length (
    header_format bytes >>= λ major. body_format bytes major.1 >>= λ layout.
    asking (layout.1 == length bytes) rules.Trailing layout.1 (done layout.0))

-- the bytes, all of them, lay out a file
abbrev pub LaysOut : List ℕ → Layout → Type 0
LaysOut bytes layout = (end : ℕ) × (file_format bytes).Stands 0 layout end
