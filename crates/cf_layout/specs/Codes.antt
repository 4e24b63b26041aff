-- How a Code attribute is read, and how a StackMapTable inside it is looked through (JVMS 4.7.3, 4.7.4).
use Rattle.std.specs.Prelude.{ℕ, zero, suc, ◌==◌, ◌&&◌, ◌-◌, ◌*◌, nat_le, List, take, Option, Some, None, Result, Ok, Err, if◌then◌else◌}
use Rattle.cf_text.specs.declared.fault.ReadFault.{ReadFault}
use Rattle.cf_text.specs.declared.fault.ReadFault.TheVariants.{Broken, Memory}
use Rattle.cf_text.specs.declared.fault.Rule.TheVariants as rules
use Rattle.cf_text.specs.Reading.{◌>>=◌}
use Rattle.cf_text.specs.Numbers.{number_at, skip_at}
use Rattle.cf_layout.specs.declared.items.Item.{Item}
use Rattle.cf_layout.specs.declared.items.Attribute.{Attribute}
use Rattle.cf_layout.specs.declared.items.CodeHead.{CodeHead}
use Rattle.cf_layout.specs.declared.items.CodeLayout.{CodeLayout}
use Rattle.cf_layout.specs.Layouts.{attributes_at, item_at, keeps}
use Rattle.cf_layout.specs.CodeFormat.{reaches}

-- a known attribute that cannot be read does not fill its length: the fault is at its name index
abbrev pub blamed : {A : Type 0} → ℕ → Result A ReadFault → Result A ReadFault
blamed at (Ok x) = Ok x
blamed at (Err (Broken rule position)) = Err (Broken rules.AttributeLength at)
blamed at (Err Memory) = Err Memory

-- ---- Code

unfoldable pub code_head_at : List ℕ → ℕ → Result CodeHead ReadFault
code_head_at bytes at = do
  max_stack ← number_at 2 bytes at
  max_locals ← number_at 2 bytes max_stack.1
  length ← number_at 4 bytes max_locals.1
  Ok (record { max_stack = max_stack.0; max_locals = max_locals.0; length_at = max_locals.1; length = length.0; code = length.1 })

-- the code, the exception table in one, and attributes
unfoldable pub code_rest_at : List ℕ → CodeHead → Result (CodeLayout × ℕ) ReadFault
code_rest_at bytes head = do
  code_end ← skip_at head.length bytes head.code
  handler_count ← item_at bytes code_end
  after ← skip_at (8 * handler_count.0.value) bytes handler_count.1
  attributes ← attributes_at bytes after
  Ok (record { head = head; code_end = code_end; handler_count = handler_count.0; attributes = attributes.0 }, attributes.1)

-- the rest of a Code, up to the attribute's end
unfoldable pub code_filling : List ℕ → CodeHead → ℕ → Result CodeLayout ReadFault
code_filling bytes head end = do
  rest ← code_rest_at bytes head
  _ ← keeps (rest.1 == end) rules.AttributeLength rest.1
  Ok rest.0

-- The layout of a Code attribute. If its code has a wrong length, the rest is not looked at.
unfoldable pub code_of : List ℕ → Attribute → Result CodeLayout ReadFault
code_of bytes attribute = do
  head ← blamed attribute.name.at (code_head_at (take attribute.end bytes) attribute.body)
  _ ← keeps (nat_le 1 head.length && nat_le head.length 65535) rules.CodeLength head.length_at
  blamed attribute.name.at (code_filling (take attribute.end bytes) head attribute.end)

-- ---- StackMapTable: its end, or none if a reserved tag, or an item's tag above 8, ends the look

unfoldable pub skim_item : List ℕ → ℕ → Result (Option ℕ) ReadFault
skim_item bytes at = do
  tag ← number_at 1 bytes at
  if nat_le tag.0 6 then Ok (Some tag.1) else if nat_le tag.0 8 then (do
    to ← skip_at 2 bytes tag.1
    Ok (Some to)) else Ok None

-- goes on if the look has not ended
abbrev pub and_then : Result (Option ℕ) ReadFault → (ℕ → Result (Option ℕ) ReadFault) → Result (Option ℕ) ReadFault
and_then (Ok (Some at)) next = next at
and_then (Ok None) next = Ok None
and_then (Err fault) next = Err fault

-- n of one skim, one after the other
unfoldable pub skim_many : (ℕ → Result (Option ℕ) ReadFault) → ℕ → ℕ → Result (Option ℕ) ReadFault
skim_many skim zero at = Ok (Some at)
skim_many skim (suc n) at = and_then (skim at) (skim_many skim n)

-- items after their count
unfoldable pub skim_list : List ℕ → ℕ → Result (Option ℕ) ReadFault
skim_list bytes at = do
  count ← number_at 2 bytes at
  skim_many (skim_item bytes) count.0 count.1

-- a frame after its tag and its offset
unfoldable pub skim_lists : ℕ → List ℕ → ℕ → Result (Option ℕ) ReadFault
skim_lists tag bytes at =
    if tag == 247 then skim_many (skim_item bytes) 1 at else if nat_le tag 251 then Ok (Some at)
    else if nat_le tag 254 then skim_many (skim_item bytes) (tag - 251) at else and_then (skim_list bytes at) (skim_list bytes)

-- a frame after its tag
unfoldable pub skim_tagged : ℕ → List ℕ → ℕ → Result (Option ℕ) ReadFault
skim_tagged tag bytes at =
    if nat_le tag 63 then Ok (Some at) else if nat_le tag 127 then skim_many (skim_item bytes) 1 at
    else if nat_le tag 246 then Ok None else skip_at 2 bytes at >>= skim_lists tag bytes

unfoldable pub skim_frame : List ℕ → ℕ → Result (Option ℕ) ReadFault
skim_frame bytes at = do
  tag ← number_at 1 bytes at
  skim_tagged tag.0 bytes tag.1

unfoldable pub skim_table : List ℕ → ℕ → ℕ → Result (Unit {0}) ReadFault
skim_table bytes at end = do
  count ← number_at 2 bytes at
  to ← skim_many (skim_frame bytes) count.0 count.1
  keeps (reaches end to) rules.AttributeLength at

-- a StackMapTable fills its length
unfoldable pub table_of : List ℕ → Attribute → Result (Unit {0}) ReadFault
table_of bytes attribute = blamed attribute.name.at (skim_table (take attribute.end bytes) attribute.body attribute.end)

-- ---- ConstantValue

-- an index, which fills its length
unfoldable pub constant_filling : List ℕ → ℕ → ℕ → Result Item ReadFault
constant_filling bytes at end = do
  index ← item_at bytes at
  _ ← keeps (index.1 == end) rules.AttributeLength at
  Ok index.0

unfoldable pub constant_of : List ℕ → Attribute → Result Item ReadFault
constant_of bytes attribute = blamed attribute.name.at (constant_filling (take attribute.end bytes) attribute.body attribute.end)
