-- Reading the body of a frame from left to right, with the first fault that is met. (This project's own.)
use Rattle.std.specs.Prelude.{◌≡◌, ℕ, zero, suc, ℤ, List, [], ◌∷◌, length, take, drop, Option, Some, None, Result, Ok, Err, Bool, nat_lt, ◌==◌, if◌then◌else◌}
use Rattle.std.specs.Int.{w32, cast_signed}
use Rattle.byteorder.specs.Endian.{big_number}
use Rattle.space_ids.specs.declared.ids.ClassId.{ClassId}
use Rattle.space_ids.specs.declared.ids.ObjId.{ObjId}
use Rattle.space_ids.specs.declared.ids.Ref.{Ref}
use Rattle.space_ids.specs.declared.value.Value.{Value}
use Rattle.space_ids.specs.declared.value.Value.TheVariants as values
use Rattle.net_message.specs.declared.fault.WireFault.{WireFault}
use Rattle.net_message.specs.declared.fault.WireFault.TheVariants as faults
use Rattle.net_message.specs.declared.fault.WireError.{WireError}
use Rattle.net_message.specs.declared.fault.WireError.TheVariants as errors
use Rattle.net_frames.specs.declared.kinds.FrameKind.{FrameKind}
use Rattle.net_frames.specs.declared.kinds.FrameKind.TheVariants as kinds
use Rattle.net_message.specs.declared.message.Message.{Message}
use Rattle.net_message.specs.declared.message.Message.TheVariants.{Hello, Call, Returned, Threw, Spent, Ack, Dirty, Lease, Clean, Cleaned, Lookup}
use Rattle.net_message.specs.Wire.{is_within}
use Rattle.registry_names.specs.Names.{is_name}

infixl 10 ◌>>=◌
abbrev pub ◌>>=◌ : {A B : Type 0} → Result A WireFault → (A → Result B WireFault) → Result B WireFault
(Ok x) >>= f = f x
(Err e) >>= f = Err e

-- What a function returned, seen by view, is what reading gives, unless memory ran out.
abbrev pub Fails : {Y : Type 0} → WireError → Result Y WireFault → Type 0
Fails errors.Memory read = Unit {0}
Fails (errors.Fault fault) read = read ≡ Err fault

abbrev pub Gives : {X Y : Type 0} → (X → Y) → Result X WireError → Result Y WireFault → Type 0
Gives view (Ok x) read = read ≡ Ok (view x)
Gives view (Err e) read = Fails e read

-- ---- readers: a field is a value and the bytes after it

-- what a reader gives, as f shows it
abbrev pub shown : {A B : Type 0} → (A → B) → (List ℕ → Result (A × List ℕ) WireFault) → List ℕ → Result (B × List ℕ) WireFault
shown f read bytes = read bytes >>= λ x. Ok (f x.0, x.1)

-- what passes a test
abbrev pub tested : {A : Type 0} → (A → Bool) → (List ℕ → Result (A × List ℕ) WireFault) → List ℕ → Result (A × List ℕ) WireFault
tested test read bytes = read bytes >>= λ x. if test x.0 then Ok x else Err faults.Body

-- one field after the other
abbrev pub both : {A B : Type 0} → (List ℕ → Result (A × List ℕ) WireFault) → (List ℕ → Result (B × List ℕ) WireFault) → List ℕ → Result ((A × B) × List ℕ) WireFault
both first second bytes = first bytes >>= λ x. second x.1 >>= λ y. Ok ((x.0, y.0), y.1)

-- n fields of one kind
abbrev pub items_at : {A : Type 0} → (List ℕ → Result (A × List ℕ) WireFault) → ℕ → List ℕ → Result (List A × List ℕ) WireFault
items_at read zero bytes = Ok ([], bytes)
items_at read (suc n) bytes = read bytes >>= λ first. items_at read n first.1 >>= λ others. Ok (first.0 ∷ others.0, others.1)

abbrev pub byte_at : List ℕ → Result (ℕ × List ℕ) WireFault
byte_at [] = Err faults.Body
byte_at (byte ∷ bytes) = Ok (byte, bytes)

-- n bytes as they are
unfoldable pub raw_at : ℕ → List ℕ → Result (List ℕ × List ℕ) WireFault
raw_at count bytes = if nat_lt (length bytes) count then Err faults.Body else Ok (take count bytes, drop count bytes)

unfoldable pub number_at : ℕ → List ℕ → Result (ℕ × List ℕ) WireFault
number_at width bytes = if nat_lt (length bytes) width then Err faults.Body else Ok (big_number width bytes, drop width bytes)

-- a count that passes a test, and that many fields of one kind
abbrev pub row_at : {A : Type 0} → (ℕ → Bool) → ℕ → (List ℕ → Result (A × List ℕ) WireFault) → List ℕ → Result (List A × List ℕ) WireFault
row_at test width read bytes = tested test (number_at width) bytes >>= λ count. items_at read count.0 count.1

-- ---- values

unfoldable pub int_at : List ℕ → Result (ℤ × List ℕ) WireFault
int_at bytes = shown (λ n. cast_signed w32 n) (number_at 4) bytes

unfoldable pub id_at : List ℕ → Result (ObjId × List ℕ) WireFault
id_at bytes = shown (λ n. record { 0 = n }) (number_at 8) bytes

unfoldable pub class_at : List ℕ → Result (ClassId × List ℕ) WireFault
class_at bytes = shown (λ n. record { 0 = n }) (number_at 2) bytes

unfoldable pub reference_at : List ℕ → Result (Ref × List ℕ) WireFault
reference_at bytes = shown (λ x. record { space = x.0; id = x.1.0; class = x.1.1 }) (both (raw_at 16) (both id_at class_at)) bytes

unfoldable pub ints_at : List ℕ → Result (List ℤ × List ℕ) WireFault
ints_at bytes = row_at (is_within 0 8000) 4 int_at bytes

-- what belongs to a tag
abbrev pub tagged_at : ℕ → List ℕ → Result (Value × List ℕ) WireFault
tagged_at zero bytes = Ok (values.Null, bytes)
tagged_at (suc zero) bytes = shown values.Int int_at bytes
tagged_at (suc (suc zero)) bytes = shown values.Ints ints_at bytes
tagged_at (suc (suc (suc zero))) bytes = shown values.Ref reference_at bytes
tagged_at (suc (suc (suc (suc tag)))) bytes = Err faults.Body

unfoldable pub value_at : List ℕ → Result (Value × List ℕ) WireFault
value_at bytes = byte_at bytes >>= λ tag. tagged_at tag.0 tag.1

unfoldable pub arguments_at : List ℕ → Result (List Value × List ℕ) WireFault
arguments_at bytes = row_at (is_within 0 255) 1 value_at bytes

-- no value or one
abbrev pub counted_result_at : ℕ → List ℕ → Result (Option Value × List ℕ) WireFault
counted_result_at zero bytes = Ok (None, bytes)
counted_result_at (suc zero) bytes = shown Some value_at bytes
counted_result_at (suc (suc count)) bytes = Err faults.Body

unfoldable pub result_at : List ℕ → Result (Option Value × List ℕ) WireFault
result_at bytes = byte_at bytes >>= λ count. counted_result_at count.0 count.1

unfoldable pub objects_at : List ℕ → Result (List ObjId × List ℕ) WireFault
objects_at bytes = row_at (is_within 1 4096) 2 id_at bytes

unfoldable pub flag_at : List ℕ → Result (Bool × List ℕ) WireFault
flag_at bytes = shown (λ flag. flag == 1) (tested (is_within 0 1) byte_at) bytes

-- a name after its length
unfoldable pub name_at : List ℕ → Result (List ℕ × List ℕ) WireFault
name_at bytes = tested is_name (λ bytes. byte_at bytes >>= λ count. raw_at count.0 count.1) bytes

-- ---- bodies

-- what the fields of a kind say
unfoldable pub fields_at : FrameKind → List ℕ → Result (Message × List ℕ) WireFault
fields_at kinds.Hello bytes = shown (λ x. Hello x.0 x.1.0 x.1.1) (both (tested (is_within 1 2) byte_at) (both (raw_at 16) (raw_at 32))) bytes
fields_at kinds.Call bytes =
    shown (λ x. Call x.0 x.1.0 x.1.1.0 x.1.1.1.0 x.1.1.1.1) (both (number_at 8) (both id_at (both (number_at 4) (both (number_at 8) arguments_at)))) bytes
fields_at kinds.Returned bytes = shown (λ x. Returned x.0 x.1.0 x.1.1) (both (number_at 8) (both (number_at 8) result_at)) bytes
fields_at kinds.Threw bytes = shown (λ x. Threw x.0 x.1) (both (number_at 8) class_at) bytes
fields_at kinds.Spent bytes = shown Spent (number_at 8) bytes
fields_at kinds.Ack bytes = shown Ack (number_at 8) bytes
fields_at kinds.Dirty bytes = shown (λ x. Dirty x.0 x.1.0 x.1.1) (both (number_at 8) (both (number_at 8) objects_at)) bytes
fields_at kinds.Lease bytes = shown (λ x. Lease x.0 x.1) (both (number_at 8) (number_at 8)) bytes
fields_at kinds.Clean bytes = shown (λ x. Clean x.0 x.1.0 x.1.1) (both (number_at 8) (both flag_at objects_at)) bytes
fields_at kinds.Cleaned bytes = shown Cleaned (number_at 8) bytes
fields_at kinds.Lookup bytes = shown (λ x. Lookup x.0 x.1) (both (number_at 8) name_at) bytes

-- the kinds, numbered from 1 on
abbrev pub all_kinds : List FrameKind
all_kinds = kinds.Hello ∷ kinds.Call ∷ kinds.Returned ∷ kinds.Threw ∷ kinds.Spent ∷ kinds.Ack ∷ kinds.Dirty ∷ kinds.Lease ∷ kinds.Clean ∷ kinds.Cleaned ∷ kinds.Lookup ∷ []

-- the kind of that number
abbrev pub kind_from : List FrameKind → ℕ → Result FrameKind WireFault
kind_from [] n = Err faults.Kind
kind_from (kind ∷ kinds) zero = Ok kind
kind_from (kind ∷ kinds) (suc n) = kind_from kinds n

abbrev pub kind_at : List ℕ → Result (FrameKind × List ℕ) WireFault
kind_at [] = Err faults.Kind
kind_at (zero ∷ bytes) = Err faults.Kind
kind_at (suc n ∷ bytes) = kind_from all_kinds n >>= λ kind. Ok (kind, bytes)

-- what a body says, with the bytes after its fields
unfoldable pub message_at : List ℕ → Result (Message × List ℕ) WireFault
message_at bytes = kind_at bytes >>= λ kind. fields_at kind.0 kind.1

-- what all of a body says
unfoldable pub whole_at : List ℕ → Result Message WireFault
whole_at bytes = message_at bytes >>= λ x. if length x.1 == 0 then Ok x.0 else Err faults.Trailing
