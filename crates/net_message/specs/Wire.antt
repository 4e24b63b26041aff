-- The wire format, versions 1 and 2 (a format of this project): the spelling of each kind of frame, and the ranges of its fields.
use Rattle.std.specs.Prelude.{◌≡◌, ℕ, ◌^◌, ◌<◌, ◌≤◌, nat_le, ◌==◌, ◌&&◌, ◌||◌, IsTrue, ℤ, List, [], ◌∷◌, ◌++◌, length, Option, Some, None, IfSome, Bool, true, false, FitsSigned}
use Rattle.std.specs.Int.{w32, cast_unsigned}
use Rattle.std.specs.List.{flat_map, list_all, AllByRecursion}
use Rattle.byteorder.specs.Endian.{big_bytes}
use Rattle.space_ids.specs.declared.ids.ClassId.{ClassId}
use Rattle.space_ids.specs.declared.ids.ObjId.{ObjId}
use Rattle.space_ids.specs.declared.ids.Ref.{Ref}
use Rattle.space_ids.specs.declared.value.Value.{Value}
use Rattle.space_ids.specs.declared.value.Value.TheVariants as values
use Rattle.registry_names.specs.Names.{is_name_byte}
use Rattle.net_message.specs.declared.message.Message.{Message}
use Rattle.net_message.specs.declared.message.Message.TheVariants.{Hello, Call, Returned, Threw, Spent, Ack, Dirty, Lease, Clean, Cleaned, Lookup}

-- ---- spelling

-- a number in `width` bytes, the highest first
unfoldable pub number_bytes : ℕ → ℕ → List ℕ
number_bytes width n = big_bytes width n

-- an int in four bytes, in two's complement
unfoldable pub int_bytes : ℤ → List ℕ
int_bytes n = number_bytes 4 (cast_unsigned w32 n)

unfoldable pub id_bytes : ObjId → List ℕ
id_bytes id = number_bytes 8 id.0

unfoldable pub class_bytes : ClassId → List ℕ
class_bytes class = number_bytes 2 class.0

unfoldable pub reference_bytes : Ref → List ℕ
reference_bytes r = r.space ++ (id_bytes r.id ++ class_bytes r.class)

-- things of one kind after their count, which has `width` bytes
abbrev pub row_bytes : {A : Type 0} → ℕ → (A → List ℕ) → List A → List ℕ
row_bytes width item_bytes items = number_bytes width (length items) ++ flat_map item_bytes items

-- a value: its tag, and what belongs to it
unfoldable pub value_bytes : Value → List ℕ
value_bytes values.Null = 0 ∷ []
value_bytes (values.Int n) = 1 ∷ int_bytes n
value_bytes (values.Ints ns) = 2 ∷ row_bytes 4 int_bytes ns
value_bytes (values.Ref r) = 3 ∷ reference_bytes r

-- a result is a row of no value or one
abbrev pub result_row : Option Value → List Value
result_row None = []
result_row (Some value) = value ∷ []

unfoldable pub result_bytes : Option Value → List ℕ
result_bytes value = row_bytes 1 value_bytes (result_row value)

unfoldable pub flag_bytes : Bool → List ℕ
flag_bytes false = 0 ∷ []
flag_bytes true = 1 ∷ []

-- a name after its length
unfoldable pub name_bytes : List ℕ → List ℕ
name_bytes name = length name ∷ name

-- the body of a frame: its kind, and its fields
unfoldable pub body : Message → List ℕ
body (Hello version space digest) = 1 ∷ version ∷ (space ++ digest)
body (Call number object method fuel arguments) =
    2 ∷ (number_bytes 8 number ++ (id_bytes object ++ (number_bytes 4 method ++ (number_bytes 8 fuel ++ row_bytes 1 value_bytes arguments))))
body (Returned number fuel value) = 3 ∷ (number_bytes 8 number ++ (number_bytes 8 fuel ++ result_bytes value))
body (Threw number class) = 4 ∷ (number_bytes 8 number ++ class_bytes class)
body (Spent number) = 5 ∷ number_bytes 8 number
body (Ack number) = 6 ∷ number_bytes 8 number
body (Dirty sequence period objects) = 7 ∷ (number_bytes 8 sequence ++ (number_bytes 8 period ++ row_bytes 2 id_bytes objects))
body (Lease sequence period) = 8 ∷ (number_bytes 8 sequence ++ number_bytes 8 period)
body (Clean sequence strong objects) = 9 ∷ (number_bytes 8 sequence ++ (flag_bytes strong ++ row_bytes 2 id_bytes objects))
body (Cleaned sequence) = 10 ∷ number_bytes 8 sequence
body (Lookup number name) = 11 ∷ (number_bytes 8 number ++ name_bytes name)

-- a frame: the length of its body in four bytes, and the body
abbrev pub frame : Message → List ℕ
frame message = number_bytes 4 (length (body message)) ++ body message

-- ---- ranges

-- a number that `width` bytes can spell
abbrev pub FitsBytes : ℕ → ℕ → Type 0
FitsBytes width n = n < 256 ^ width

abbrev pub IsId : ObjId → Type 0
IsId id = FitsBytes 8 id.0

abbrev pub IsClass : ClassId → Type 0
IsClass class = FitsBytes 2 class.0

abbrev pub IsReference : Ref → Type 0
IsReference r = (length r.space ≡ 16) × IsId r.id × IsClass r.class

-- at most 8,000 ints
abbrev pub AreInts : List ℤ → Type 0
AreInts ns = (length ns ≤ 8000) × AllByRecursion (FitsSigned w32) ns

unfoldable pub IsValue : Value → Type 0
IsValue values.Null = Unit {0}
IsValue (values.Int n) = FitsSigned w32 n
IsValue (values.Ints ns) = AreInts ns
IsValue (values.Ref r) = IsReference r

-- at most 255 values
abbrev pub AreArguments : List Value → Type 0
AreArguments arguments = (length arguments ≤ 255) × AllByRecursion IsValue arguments

-- 1 to 4,096 objects
abbrev pub AreObjects : List ObjId → Type 0
AreObjects objects = (1 ≤ length objects) × (length objects ≤ 4096) × AllByRecursion IsId objects

abbrev pub is_within : ℕ → ℕ → ℕ → Bool
is_within low high b = nat_le low b && nat_le b high

-- 1 to 255 bytes that may stand in a name of a registry
abbrev pub IsName : List ℕ → Type 0
IsName name = (1 ≤ length name) × (length name ≤ 255) × AllByRecursion (λ b. IsTrue (is_name_byte b)) name

-- the versions of the protocol: 1 and 2
abbrev pub IsVersion : ℕ → Type 0
IsVersion version = (1 ≤ version) × (version ≤ 2)

-- each field of the message is in its range
unfoldable pub IsInRange : Message → Type 0
IsInRange (Hello version space digest) = IsVersion version × (length space ≡ 16) × (length digest ≡ 32)
IsInRange (Call number object method fuel arguments) =
    FitsBytes 8 number × IsId object × FitsBytes 4 method × FitsBytes 8 fuel × AreArguments arguments
IsInRange (Returned number fuel value) = FitsBytes 8 number × FitsBytes 8 fuel × IfSome value IsValue
IsInRange (Threw number class) = FitsBytes 8 number × IsClass class
IsInRange (Spent number) = FitsBytes 8 number
IsInRange (Ack number) = FitsBytes 8 number
IsInRange (Dirty sequence period objects) = FitsBytes 8 sequence × FitsBytes 8 period × AreObjects objects
IsInRange (Lease sequence period) = FitsBytes 8 sequence × FitsBytes 8 period
IsInRange (Clean sequence strong objects) = FitsBytes 8 sequence × AreObjects objects
IsInRange (Cleaned sequence) = FitsBytes 8 sequence
IsInRange (Lookup number name) = FitsBytes 8 number × IsName name

-- ---- the wire relation

-- the bytes are the frame that says the message
pub record IsWire (bytes : List ℕ) (message : Message) : Type 0 where
  pub in_range : IsInRange message
  pub short : length (body message) ≤ 65536
  pub spelled : bytes ≡ frame message
