-- The constant pool (JVMS 4.4): what its indices name, how its entries are read, and what is demanded
-- of them. A pool is the list of its entries by index, from index 0 on.
use Rattle.std.specs.Prelude.{ℕ, ℤ, zero, suc, Bool, true, false, ◌==◌, List, [], ◌∷◌, ◌++◌, Option, Some, None, is_some, Result, Ok, Err, slice_get, if◌then◌else◌}
use Rattle.std.specs.Option.{option_and_then}
use Rattle.cf_text.specs.declared.fault.ReadFault.{ReadFault}
use Rattle.cf_text.specs.declared.fault.ReadFault.TheVariants.{Broken}
use Rattle.cf_text.specs.declared.fault.Rule.TheVariants as rules
use Rattle.cf_pool.specs.declared.pool.MemberKind.{MemberKind}
use Rattle.cf_pool.specs.declared.pool.MemberKind.TheVariants as kinds
use Rattle.cf_pool.specs.declared.pool.Entry.{Entry}
use Rattle.cf_pool.specs.declared.pool.Entry.TheVariants.{Utf8, Integer, Class, Member, NameAndType, Other, Unusable}
use Rattle.cf_pool.specs.declared.layout.Shape.{Shape}
use Rattle.cf_pool.specs.declared.layout.Shape.TheVariants as shapes
use Rattle.cf_pool.specs.declared.layout.Positions.{Positions}
use Rattle.cf_pool.specs.declared.layout.PlacedEntry.{PlacedEntry}
use Rattle.cf_pool.specs.declared.layout.PoolLayout.{PoolLayout}
use Rattle.cf_text.specs.Reading.{◌>>=◌}
use Rattle.cf_text.specs.Numbers.{bytes_at, number_at, signed_at, skip_at}
use Rattle.cf_text.specs.Demands.{Demand, of_each, where_some}
use Rattle.cf_text.specs.Names.{is_class_name, is_name}
use Rattle.cf_text.specs.Types.{begins_with, is_field_descriptor}
use Rattle.cf_text.specs.Utf8.{is_modified_utf8}

-- ---- what an index names

-- what an entry says as one of a kind
abbrev pub as_utf8 : Entry → Option (List ℕ)
as_utf8 (Utf8 text) = Some text
as_utf8 (Integer n) = None
as_utf8 (Class name) = None
as_utf8 (Member kind class name_and_type) = None
as_utf8 (NameAndType name descriptor) = None
as_utf8 Other = None
as_utf8 Unusable = None

abbrev pub as_integer : Entry → Option ℤ
as_integer (Integer n) = Some n
as_integer (Utf8 text) = None
as_integer (Class name) = None
as_integer (Member kind class name_and_type) = None
as_integer (NameAndType name descriptor) = None
as_integer Other = None
as_integer Unusable = None

-- a Class entry's index of its name
abbrev pub as_class : Entry → Option ℕ
as_class (Class name) = Some name
as_class (Utf8 text) = None
as_class (Integer n) = None
as_class (Member kind class name_and_type) = None
as_class (NameAndType name descriptor) = None
as_class Other = None
as_class Unusable = None

-- a member entry's kind and its two indices
abbrev pub as_member : Entry → Option (MemberKind × ℕ × ℕ)
as_member (Member kind class name_and_type) = Some (kind, class, name_and_type)
as_member (Utf8 text) = None
as_member (Integer n) = None
as_member (Class name) = None
as_member (NameAndType name descriptor) = None
as_member Other = None
as_member Unusable = None

-- a NameAndType entry's two indices
abbrev pub as_name_and_type : Entry → Option (ℕ × ℕ)
as_name_and_type (NameAndType name descriptor) = Some (name, descriptor)
as_name_and_type (Utf8 text) = None
as_name_and_type (Integer n) = None
as_name_and_type (Class name) = None
as_name_and_type (Member kind class name_and_type) = None
as_name_and_type Other = None
as_name_and_type Unusable = None

-- the text of a Utf8 entry
unfoldable pub utf8_at : List Entry → ℕ → Option (List ℕ)
utf8_at pool index = option_and_then as_utf8 (slice_get pool index)

-- the value of an Integer entry
unfoldable pub integer_at : List Entry → ℕ → Option ℤ
integer_at pool index = option_and_then as_integer (slice_get pool index)

-- the name of a Class entry
unfoldable pub class_at : List Entry → ℕ → Option (List ℕ)
class_at pool index = option_and_then (utf8_at pool) (option_and_then as_class (slice_get pool index))

-- a name and a descriptor
pub record NamedType : Type 0 where
  pub name : List ℕ
  pub descriptor : List ℕ

-- what a NameAndType entry names
unfoldable pub name_and_type_at : List Entry → ℕ → Option NamedType
name_and_type_at pool index =
    option_and_then (λ indices.
    option_and_then (λ name. option_and_then (λ descriptor. Some (record { name = name; descriptor = descriptor })) (utf8_at pool indices.1)) (utf8_at pool indices.0))
    (option_and_then as_name_and_type (slice_get pool index))

-- a member that an entry refers to
pub record NamedMember : Type 0 where
  pub kind : MemberKind
  pub class : List ℕ
  pub name : List ℕ
  pub descriptor : List ℕ

-- what a Fieldref, Methodref or InterfaceMethodref entry names
unfoldable pub member_at : List Entry → ℕ → Option NamedMember
member_at pool index =
    option_and_then (λ indices.
    option_and_then (λ class.
    option_and_then (λ named. Some (record { kind = indices.0; class = class; name = named.name; descriptor = named.descriptor })) (name_and_type_at pool indices.2)) (class_at pool indices.1))
    (option_and_then as_member (slice_get pool index))

-- ---- how entries are read

-- what stands after a tag
unfoldable pub shape_of : ℕ → Option Shape
shape_of tag =
    if tag == 1 then Some shapes.Utf8 else if tag == 3 then Some shapes.Integer else if tag == 4 then Some (shapes.Skipped 4)
    else if tag == 5 then Some shapes.Wide else if tag == 6 then Some shapes.Wide else if tag == 7 then Some shapes.Class
    else if tag == 8 then Some (shapes.Skipped 2) else if tag == 9 then Some (shapes.Member kinds.Field)
    else if tag == 10 then Some (shapes.Member kinds.Method) else if tag == 11 then Some (shapes.Member kinds.InterfaceMethod)
    else if tag == 12 then Some shapes.NameAndType else if tag == 15 then Some (shapes.Skipped 3)
    else if tag == 16 then Some (shapes.Skipped 2) else if tag == 18 then Some (shapes.Skipped 4) else None

-- a text: its length, and its bytes
unfoldable pub text_entry : List ℕ → ℕ → Result (PlacedEntry × ℕ) ReadFault
text_entry bytes at = do
  length ← number_at 2 bytes at
  text ← bytes_at length.0 bytes length.1
  Ok (record { entry = Utf8 text.0; positions = record { first = at; second = length.1 }; is_wide = false }, text.1)

unfoldable pub integer_entry : List ℕ → ℕ → Result (PlacedEntry × ℕ) ReadFault
integer_entry bytes at = do
  value ← signed_at bytes at
  Ok (record { entry = Integer value.0; positions = record { first = at; second = value.1 }; is_wide = false }, value.1)

unfoldable pub class_entry : List ℕ → ℕ → Result (PlacedEntry × ℕ) ReadFault
class_entry bytes at = do
  name ← number_at 2 bytes at
  Ok (record { entry = Class name.0; positions = record { first = at; second = name.1 }; is_wide = false }, name.1)

unfoldable pub member_entry : MemberKind → List ℕ → ℕ → Result (PlacedEntry × ℕ) ReadFault
member_entry kind bytes at = do
  class ← number_at 2 bytes at
  named ← number_at 2 bytes class.1
  Ok (record { entry = Member kind class.0 named.0; positions = record { first = at; second = class.1 }; is_wide = false }, named.1)

unfoldable pub name_and_type_entry : List ℕ → ℕ → Result (PlacedEntry × ℕ) ReadFault
name_and_type_entry bytes at = do
  name ← number_at 2 bytes at
  descriptor ← number_at 2 bytes name.1
  Ok (record { entry = NameAndType name.0 descriptor.0; positions = record { first = at; second = name.1 }; is_wide = false }, descriptor.1)

-- n bytes that are one item and are not looked at
unfoldable pub skipped_entry : ℕ → Bool → List ℕ → ℕ → Result (PlacedEntry × ℕ) ReadFault
skipped_entry length wide bytes at = do
  to ← skip_at length bytes at
  Ok (record { entry = Other; positions = record { first = at; second = to }; is_wide = wide }, to)

-- what stands after a tag of a shape
unfoldable pub shaped_entry : Shape → List ℕ → ℕ → Result (PlacedEntry × ℕ) ReadFault
shaped_entry shapes.Utf8 bytes at = text_entry bytes at
shaped_entry shapes.Integer bytes at = integer_entry bytes at
shaped_entry shapes.Class bytes at = class_entry bytes at
shaped_entry (shapes.Member kind) bytes at = member_entry kind bytes at
shaped_entry shapes.NameAndType bytes at = name_and_type_entry bytes at
shaped_entry (shapes.Skipped length) bytes at = skipped_entry length false bytes at
shaped_entry shapes.Wide bytes at = skipped_entry 8 true bytes at

-- A tag's shape. An entry of two indices does not stand last.
unfoldable pub tagged : Bool → ℕ → Option Shape → Result Shape ReadFault
tagged last at None = Err (Broken rules.Tag at)
tagged last at (Some shapes.Wide) = if last then Err (Broken rules.Index at) else Ok shapes.Wide
tagged last at (Some shapes.Utf8) = Ok shapes.Utf8
tagged last at (Some shapes.Integer) = Ok shapes.Integer
tagged last at (Some shapes.Class) = Ok shapes.Class
tagged last at (Some (shapes.Member kind)) = Ok (shapes.Member kind)
tagged last at (Some shapes.NameAndType) = Ok shapes.NameAndType
tagged last at (Some (shapes.Skipped length)) = Ok (shapes.Skipped length)

-- an entry: its tag, and what stands after it
unfoldable pub entry_from : Bool → List ℕ → ℕ → Result (PlacedEntry × ℕ) ReadFault
entry_from last bytes at = do
  tag ← number_at 1 bytes at
  shape ← tagged last at (shape_of tag.0)
  shaped_entry shape bytes tag.1

-- what stands at an index: nothing if `taken`, as at index 0 and after an entry of two indices
unfoldable pub cell_from : Bool → Bool → List ℕ → ℕ → Result (PlacedEntry × ℕ) ReadFault
cell_from true last bytes at = Ok (record { entry = Unusable; positions = record { first = at; second = at }; is_wide = false }, at)
cell_from false last bytes at = entry_from last bytes at

-- n indices of a pool
unfoldable pub cells_from : ℕ → Bool → List ℕ → ℕ → Result (PoolLayout × ℕ) ReadFault
cells_from zero taken bytes at = Ok (record { pool = []; positions = [] }, at)
cells_from (suc n) taken bytes at = do
  first ← cell_from taken (n == 0) bytes at
  others ← cells_from n first.0.is_wide bytes first.1
  Ok (record { pool = first.0.entry ∷ others.0.pool; positions = first.0.positions ∷ others.0.positions }, others.1)

-- a pool: its count, and that many indices
unfoldable pub layout_from : List ℕ → ℕ → Result (PoolLayout × ℕ) ReadFault
layout_from bytes at = do
  count ← number_at 2 bytes at
  if count.0 == 0 then Err (Broken rules.Index at) else cells_from count.0 true bytes count.1

unfoldable pub pool_from : List ℕ → ℕ → Result (List Entry × ℕ) ReadFault
pool_from bytes at = do
  layout ← layout_from bytes at
  Ok (layout.0.pool, layout.1)

-- ---- what is demanded of entries

-- a name in a Class entry: a class's, or the descriptor of an array
unfoldable pub is_class_entry_name : List ℕ → Bool
is_class_entry_name text = if begins_with 91 text then is_field_descriptor text else is_class_name text

-- an index names an entry of the kind wanted, and what it names passes a test
unfoldable pub named : {A : Type 0} → ℕ → Option A → (A → Bool) → List Demand
named at found test =
    record { at = at; rule = rules.Utf8; holds = where_some test found }
    ∷ record { at = at; rule = rules.Index; holds = is_some found } ∷ []

-- an index names an entry of the kind wanted
unfoldable pub indexed : {A : Type 0} → ℕ → Option A → List Demand
indexed at found = record { at = at; rule = rules.Index; holds = is_some found } ∷ []

-- The demands of an entry: a text is modified UTF-8, and what an index names is of its kind. The indices of an Other entry, such as a
-- String, and the text of a NameAndType's descriptor are not looked at (a rule of this project: nothing of its profile uses them).
unfoldable pub entry_demands : List Entry → Entry → Positions → List Demand
entry_demands pool (Utf8 text) positions = record { at = positions.second; rule = rules.Utf8; holds = is_modified_utf8 text } ∷ []
entry_demands pool (Class name) positions = named positions.first (utf8_at pool name) is_class_entry_name
entry_demands pool (Member kind class name_and_type) positions =
    indexed positions.first (option_and_then as_class (slice_get pool class))
    ++ indexed positions.second (option_and_then as_name_and_type (slice_get pool name_and_type))
entry_demands pool (NameAndType name descriptor) positions =
    named positions.first (utf8_at pool name) is_name ++ indexed positions.second (utf8_at pool descriptor)
entry_demands pool (Integer n) positions = []
entry_demands pool Other positions = []
entry_demands pool Unusable positions = []

-- the demands of the entry at an index
unfoldable pub index_demands : List Entry → ℕ → Positions → List Demand
index_demands pool index positions = of_some (slice_get pool index)
  where
    of_some : Option Entry → List Demand
    of_some None = []
    of_some (Some entry) = entry_demands pool entry positions

-- the demands of a pool
unfoldable pub pool_demands : PoolLayout → List Demand
pool_demands layout = of_each (index_demands layout.pool) 0 layout.positions
