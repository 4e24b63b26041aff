-- The size that is counted is the length of the spelling.
use Rattle.std.proofs.Common.{◌≡◌, ℕ, ◌+◌, ◌*◌, ℤ, List, [], ◌∷◌, ◌++◌, length, Option, Some, None, Bool, true, false, refl, arith}
use Rattle.std.specs.Prelude.{IfSome}
use Rattle.std.specs.List.{flat_map, AllByRecursion}
use Rattle.std.proofs.lemmas.List.{length-append}
use Rattle.std.specs.Int.{w32, cast_unsigned}
use Rattle.space_ids.specs.declared.ids.ClassId.{ClassId}
use Rattle.space_ids.specs.declared.ids.ObjId.{ObjId}
use Rattle.space_ids.specs.declared.ids.Ref.{Ref}
use Rattle.space_ids.specs.declared.value.Value.{Value}
use Rattle.space_ids.specs.declared.value.Value.TheVariants as values
use Rattle.net_message.specs.declared.message.Message.{Message}
use Rattle.net_message.specs.declared.message.Message.TheVariants.{Hello, Call, Returned, Threw, Spent, Ack, Dirty, Lease, Clean, Cleaned, Lookup}
use Rattle.net_message.specs.Sizes.{value_size, values_size, result_size, body_size}
use Rattle.net_message.specs.Wire.{number_bytes, int_bytes, id_bytes, class_bytes, reference_bytes, row_bytes, value_bytes, result_bytes, flag_bytes, name_bytes, body, frame, IsValue, IsInRange}
use Rattle.byteorder.specs.Numbers.{length-bytes_high_first}

pub length-number_bytes : (width n : ℕ) → length (number_bytes width n) ≡ width
unfolding number_bytes
length-number_bytes width n = length-bytes_high_first width n

length-int : (n : ℤ) → length (int_bytes n) ≡ 4
unfolding int_bytes
length-int n = length-number_bytes 4 (cast_unsigned w32 n)

length-id : (id : ObjId) → length (id_bytes id) ≡ 8
unfolding id_bytes
length-id id = length-number_bytes 8 id.0

length-class : (class : ClassId) → length (class_bytes class) ≡ 2
unfolding class_bytes
length-class class = length-number_bytes 2 class.0

length-reference : (r : Ref) → length r.space ≡ 16 → length (reference_bytes r) ≡ 26
unfolding reference_bytes
length-reference r e = omega (arith, length-append r.space (id_bytes r.id ++ class_bytes r.class), length-append (id_bytes r.id) (class_bytes r.class), length-id r.id, length-class r.class)

pub length-ints : (ns : List ℤ) → length (flat_map int_bytes ns) ≡ 4 * length ns
length-ints [] = refl
length-ints (n ∷ ns) = omega (arith, length-append (int_bytes n) (flat_map int_bytes ns), length-int n, length-ints ns)

length-ids : (ids : List ObjId) → length (flat_map id_bytes ids) ≡ 8 * length ids
length-ids [] = refl
length-ids (id ∷ ids) = omega (arith, length-append (id_bytes id) (flat_map id_bytes ids), length-id id, length-ids ids)

length-row : {A : Type 0} (width : ℕ) (item_bytes : A → List ℕ) (items : List A) → length (row_bytes width item_bytes items) ≡ width + length (flat_map item_bytes items)
length-row width item_bytes items = omega (arith, length-append (number_bytes width (length items)) (flat_map item_bytes items), length-number_bytes width (length items))

length-value : (value : Value) → IsValue value → length (value_bytes value) ≡ value_size value
unfolding value_bytes value_size IsValue
length-value values.Null fits = refl
length-value (values.Int n) fits = omega (arith, length-int n)
length-value (values.Ints ns) fits = omega (arith, length-row 4 int_bytes ns, length-ints ns)
length-value (values.Ref r) fits = omega (arith, length-reference r fits.0)

length-values : (values : List Value) → AllByRecursion IsValue values → length (flat_map value_bytes values) ≡ values_size values
length-values [] fits = refl
length-values (value ∷ values) fits = omega (arith, length-append (value_bytes value) (flat_map value_bytes values), length-value value fits.0, length-values values fits.1)

length-result : (value : Option Value) → IfSome value IsValue → length (result_bytes value) ≡ result_size value
unfolding result_bytes result_size
length-result None fits = omega (arith, length-row 1 value_bytes [])
length-result (Some value) fits = omega (arith, length-row 1 value_bytes (value ∷ []), length-append (value_bytes value) [], length-value value fits)

length-flag : (flag : Bool) → length (flag_bytes flag) ≡ 1
unfolding flag_bytes
length-flag false = refl
length-flag true = refl

length-name : (name : List ℕ) → length (name_bytes name) ≡ 1 + length name
unfolding name_bytes
length-name name = omega arith

-- a number, and what follows it
length-after : (width n : ℕ) (rest : List ℕ) → length (number_bytes width n ++ rest) ≡ width + length rest
length-after width n rest = omega (arith, length-append (number_bytes width n) rest, length-number_bytes width n)

pub length-body : (message : Message) → IsInRange message → length (body message) ≡ body_size message
unfolding body body_size IsInRange
length-body (Hello version space digest) fits = omega (arith, length-append space digest)
length-body (Call number object method fuel arguments) fits =
    let last = row_bytes 1 value_bytes arguments in
    omega (
      arith,
      length-after 8 number (id_bytes object ++ (number_bytes 4 method ++ (number_bytes 8 fuel ++ last))),
      length-append (id_bytes object) (number_bytes 4 method ++ (number_bytes 8 fuel ++ last)),
      length-id object,
      length-after 4 method (number_bytes 8 fuel ++ last),
      length-after 8 fuel last,
      length-row 1 value_bytes arguments,
      length-values arguments fits.4.1,
    )
length-body (Returned number fuel value) fits = omega (arith, length-after 8 number (number_bytes 8 fuel ++ result_bytes value), length-after 8 fuel (result_bytes value), length-result value fits.2)
length-body (Threw number class) fits = omega (arith, length-after 8 number (class_bytes class), length-class class)
length-body (Spent number) fits = omega (arith, length-number_bytes 8 number)
length-body (Ack number) fits = omega (arith, length-number_bytes 8 number)
length-body (Dirty sequence period objects) fits =
    omega (arith, length-after 8 sequence (number_bytes 8 period ++ row_bytes 2 id_bytes objects), length-after 8 period (row_bytes 2 id_bytes objects), length-row 2 id_bytes objects, length-ids objects)
length-body (Lease sequence period) fits = omega (arith, length-after 8 sequence (number_bytes 8 period), length-number_bytes 8 period)
length-body (Clean sequence strong objects) fits =
    omega (arith, length-after 8 sequence (flag_bytes strong ++ row_bytes 2 id_bytes objects), length-append (flag_bytes strong) (row_bytes 2 id_bytes objects), length-flag strong, length-row 2 id_bytes objects, length-ids objects)
length-body (Cleaned sequence) fits = omega (arith, length-number_bytes 8 sequence)
length-body (Lookup number name) fits = omega (arith, length-after 8 number (name_bytes name), length-name name)

pub length-frame : (message : Message) → length (frame message) ≡ 4 + length (body message)
length-frame message = length-after 4 (length (body message)) (body message)
