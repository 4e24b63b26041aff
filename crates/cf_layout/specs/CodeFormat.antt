-- What stands inside the attributes that are entered (JVMS 4.7.2, 4.7.3, 4.7.4): a ConstantValue, a Code, and a
-- StackMapTable inside a Code, apart from how they are read.
use Rattle.std.specs.Prelude.{ℕ, zero, suc, Bool, true, ◌==◌, ◌&&◌, ◌-◌, ◌*◌, nat_le, List, take, Option, Some, None, Result}
use Rattle.cf_text.specs.declared.fault.Rule.TheVariants as rules
use Rattle.cf_text.specs.declared.fault.ReadFault.{ReadFault}
use Rattle.cf_text.specs.declared.fault.ReadFault.TheVariants.{Broken, Memory}
use Rattle.cf_text.specs.Formats.{number_format}
use Rattle.cf_text.specs.Looks.{Finds, Look, ◌>>=◌, blaming, choosing, keeping, known, passing, standing}
use Rattle.cf_layout.specs.declared.items.Item.{Item}
use Rattle.cf_layout.specs.declared.items.Attribute.{Attribute}
use Rattle.cf_layout.specs.declared.items.CodeHead.{CodeHead}
use Rattle.cf_layout.specs.declared.items.CodeLayout.{CodeLayout}
use Rattle.cf_layout.specs.FileFormat.{attributes_format, item_format}

-- a fault of what is looked for: out of memory says nothing of it
abbrev pub MissesBy : {A : Type 0} → Look A → ReadFault → Type 0
MissesBy look (Broken rule at) = look.Fails rule at
MissesBy look Memory = Unit {0}

-- what fills an attribute: a fault inside is one of its length, at its name index
abbrev pub filling : {A : Type 0} → Attribute → Look A → Look A
filling attribute look = blaming rules.AttributeLength attribute.name.at look

-- ---- ConstantValue

-- an index, which fills the length
unfoldable pub constant_inside : List ℕ → ℕ → ℕ → Look Item
constant_inside bytes at end = do
  index ← standing (item_format bytes at) at
  _ ← keeping (index.1 == end) rules.AttributeLength at
  known index.0

unfoldable pub constant_look : List ℕ → Attribute → Look Item
constant_look bytes attribute = filling attribute (constant_inside (take attribute.end bytes) attribute.body attribute.end)

-- ---- Code

-- the most operands, the most local variables, and the code's length
unfoldable pub code_head_look : List ℕ → ℕ → Look CodeHead
code_head_look bytes at = do
  max_stack ← standing (number_format 2 bytes) at
  max_locals ← standing (number_format 2 bytes) max_stack.1
  length ← standing (number_format 4 bytes) max_locals.1
  known (record { max_stack = max_stack.0; max_locals = max_locals.0; length_at = max_locals.1; length = length.0; code = length.1 })

-- the code, the exception table of eight bytes an entry, and attributes, with their end
unfoldable pub code_rest_look : List ℕ → CodeHead → Look (CodeLayout × ℕ)
code_rest_look bytes head = do
  code_end ← passing head.length bytes head.code
  handler_count ← standing (item_format bytes code_end) code_end
  after ← passing (8 * handler_count.0.value) bytes handler_count.1
  attributes ← standing (attributes_format bytes after) after
  known (record { head = head; code_end = code_end; handler_count = handler_count.0; attributes = attributes.0 }, attributes.1)

-- the same, which fills the length
unfoldable pub code_inside : List ℕ → CodeHead → ℕ → Look CodeLayout
code_inside bytes head end = do
  rest ← code_rest_look bytes head
  _ ← keeping (rest.1 == end) rules.AttributeLength rest.1
  known rest.0

-- a Code, whose code has 1 to 65,535 bytes
unfoldable pub code_look : List ℕ → Attribute → Look CodeLayout
code_look bytes attribute = do
  head ← filling attribute (code_head_look (take attribute.end bytes) attribute.body)
  _ ← keeping (nat_le 1 head.length && nat_le head.length 65535) rules.CodeLength head.length_at
  filling attribute (code_inside (take attribute.end bytes) head attribute.end)

-- ---- StackMapTable: its end, or none if a reserved tag, or an item's tag above 8, ends the look

-- an item: a tag, and after 7 and 8 two bytes
unfoldable pub item_look : List ℕ → ℕ → Look (Option ℕ)
item_look bytes at = do
  tag ← standing (number_format 1 bytes) at
  choosing (nat_le tag.0 6) (known (Some tag.1)) (choosing (nat_le tag.0 8) (do
    to ← passing 2 bytes tag.1
    known (Some to)) (known None))

-- one part, and if it has an end, a second one after it
abbrev pub after_some : (ℕ → Look (Option ℕ)) → Option ℕ → Look (Option ℕ)
after_some next None = known None
after_some next (Some at) = next at

abbrev pub going_on : Look (Option ℕ) → (ℕ → Look (Option ℕ)) → Look (Option ℕ)
going_on one next = one >>= after_some next

-- n of one look, one after the other
unfoldable pub many_looks : (ℕ → Look (Option ℕ)) → ℕ → ℕ → Look (Option ℕ)
many_looks look zero at = known (Some at)
many_looks look (suc n) at = going_on (look at) (many_looks look n)

-- items after their count
unfoldable pub items_look : List ℕ → ℕ → Look (Option ℕ)
items_look bytes at = do
  count ← standing (number_format 2 bytes) at
  many_looks (item_look bytes) count.0 count.1

-- after a frame's tag and its offset: one item, none, one to three locals, or all locals and operands
unfoldable pub lists_look : ℕ → List ℕ → ℕ → Look (Option ℕ)
lists_look tag bytes at =
    choosing (tag == 247) (many_looks (item_look bytes) 1 at)
    (choosing (nat_le tag 251) (known (Some at))
    (choosing (nat_le tag 254) (many_looks (item_look bytes) (tag - 251) at) (going_on (items_look bytes at) (items_look bytes))))

-- after a frame's tag: nothing, one item, or an offset and what that tag has after it
unfoldable pub tagged_look : ℕ → List ℕ → ℕ → Look (Option ℕ)
tagged_look tag bytes at =
    choosing (nat_le tag 63) (known (Some at))
    (choosing (nat_le tag 127) (many_looks (item_look bytes) 1 at)
    (choosing (nat_le tag 246) (known None) (passing 2 bytes at >>= lists_look tag bytes)))

unfoldable pub frame_look : List ℕ → ℕ → Look (Option ℕ)
frame_look bytes at = do
  tag ← standing (number_format 1 bytes) at
  tagged_look tag.0 bytes tag.1

-- frames were followed to the end, or could not be followed
abbrev pub reaches : ℕ → Option ℕ → Bool
reaches end None = true
reaches end (Some to) = to == end

-- frames after their count, which fill the length, as far as they can be followed
unfoldable pub table_inside : List ℕ → ℕ → ℕ → Look (Unit {0})
table_inside bytes at end = do
  count ← standing (number_format 2 bytes) at
  to ← many_looks (frame_look bytes) count.0 count.1
  keeping (reaches end to) rules.AttributeLength at

unfoldable pub table_look : List ℕ → Attribute → Look (Unit {0})
table_look bytes attribute = filling attribute (table_inside (take attribute.end bytes) attribute.body attribute.end)

-- ---- all of them

-- what stands inside an attribute, if it is of the kind, or how its bytes fail to spell it
pub record Insides : Type 0 where
  pub constant : Attribute → Result Item ReadFault
  pub table : Attribute → Result (Unit {0}) ReadFault
  pub code : Attribute → Result CodeLayout ReadFault

-- the insides are those of these bytes
pub record AreInsides (bytes : List ℕ) (insides : Insides) : Type 0 where
  pub constants : (attribute : Attribute) → Finds (constant_look bytes attribute) (insides.constant attribute)
  pub tables : (attribute : Attribute) → Finds (table_look bytes attribute) (insides.table attribute)
  pub codes : (attribute : Attribute) → Finds (code_look bytes attribute) (insides.code attribute)
