-- Each message is read as it is spelled, and nothing else is read as it.
use Rattle.std.proofs.Common.{◌≡◌, ℕ, ◌<◌, Bool, true, List, [], ◌∷◌, ◌++◌, length, Option, Result, Ok, Err, refl, arith}
use Rattle.std.specs.Prelude.{IfSome}
use Rattle.space_ids.specs.declared.ids.ObjId.{ObjId}
use Rattle.space_ids.specs.declared.value.Value.{Value}
use Rattle.net_message.specs.declared.fault.WireFault.{WireFault}
use Rattle.net_message.specs.declared.fault.WireFault.TheVariants as faults
use Rattle.net_frames.specs.declared.kinds.FrameKind.{FrameKind}
use Rattle.net_frames.specs.declared.kinds.FrameKind.TheVariants as kinds
use Rattle.net_message.specs.declared.message.Message.{Message}
use Rattle.net_message.specs.declared.message.Message.TheVariants.{Hello, Call, Returned, Threw, Spent, Ack, Dirty, Lease, Clean, Cleaned, Lookup}
use Rattle.net_message.specs.Wire.{number_bytes, id_bytes, class_bytes, row_bytes, value_bytes, result_bytes, flag_bytes, name_bytes, body, FitsBytes, IsId, IsClass, IsValue, AreArguments, AreObjects, IsName, IsVersion, IsInRange, is_within}
use Rattle.net_frames.specs.Reading.{tested, both, byte_at, raw_at, number_at, id_at, class_at, arguments_at, result_at, objects_at, flag_at, name_at, fields_at, message_at}
use Rattle.net_message.proofs.Names.{within_true, true_within}
use Rattle.net_frames.proofs.FieldLaws.{IsBytes, Takes, IsField, refit, headed_takes, shown_again, shown_fails, tested_field, both_field, width8, width4, number_field, raw_field, byte_field}
use Rattle.net_frames.proofs.ValueLaws.{id_field, class_field, arguments_field, result_field, objects_field, flag_field, name_field}

-- ---- the fields of each kind

u8_field : IsField (number_at 8) (number_bytes 8) (FitsBytes 8)
u8_field = number_field 8 width8

abbrev hello_at : List ℕ → Result ((ℕ × (List ℕ × List ℕ)) × List ℕ) WireFault
hello_at bytes = both (tested (is_within 1 2) byte_at) (both (raw_at 16) (raw_at 32)) bytes

hello_field : IsField hello_at (λ x. (x.0 ∷ []) ++ (x.1.0 ++ x.1.1)) (λ x. IsVersion x.0 × ((length x.1.0 ≡ 16) × (length x.1.1 ≡ 32)))
hello_field =
    let version = refit (tested (is_within 1 2) byte_at) (λ byte. byte ∷ []) (λ byte. (byte < 256) × (is_within 1 2 byte ≡ true)) IsVersion
    (tested_field byte_at (λ byte. byte ∷ []) (λ byte. byte < 256) (is_within 1 2) byte_field)
    (λ byte fits. within_true 1 2 byte fits.1) (λ byte e. (omega (arith, e.1), true_within 1 2 byte e.0 e.1)) in
    both_field (tested (is_within 1 2) byte_at) (λ byte. byte ∷ []) IsVersion (both (raw_at 16) (raw_at 32)) (λ x. x.0 ++ x.1) (λ x. (length x.0 ≡ 16) × (length x.1 ≡ 32)) version
    (both_field (raw_at 16) (λ bytes. bytes) (λ bytes. length bytes ≡ 16) (raw_at 32) (λ bytes. bytes) (λ bytes. length bytes ≡ 32) (raw_field 16) (raw_field 32))

abbrev call_at : List ℕ → Result ((ℕ × (ObjId × (ℕ × (ℕ × List Value)))) × List ℕ) WireFault
call_at bytes = both (number_at 8) (both id_at (both (number_at 4) (both (number_at 8) arguments_at))) bytes

call_field : IsField call_at (λ x. number_bytes 8 x.0 ++ (id_bytes x.1.0 ++ (number_bytes 4 x.1.1.0 ++ (number_bytes 8 x.1.1.1.0 ++ row_bytes 1 value_bytes x.1.1.1.1))))
    (λ x. FitsBytes 8 x.0 × (IsId x.1.0 × (FitsBytes 4 x.1.1.0 × (FitsBytes 8 x.1.1.1.0 × AreArguments x.1.1.1.1))))
call_field =
    let last = both_field (number_at 8) (number_bytes 8) (FitsBytes 8) arguments_at (row_bytes 1 value_bytes) AreArguments u8_field arguments_field in
    let method = both_field (number_at 4) (number_bytes 4) (FitsBytes 4) (both (number_at 8) arguments_at) (λ x. number_bytes 8 x.0 ++ row_bytes 1 value_bytes x.1) (λ x. FitsBytes 8 x.0 × AreArguments x.1) (number_field 4 width4) last in
    let object = both_field id_at id_bytes IsId (both (number_at 4) (both (number_at 8) arguments_at)) (λ x. number_bytes 4 x.0 ++ (number_bytes 8 x.1.0 ++ row_bytes 1 value_bytes x.1.1)) (λ x. FitsBytes 4 x.0 × (FitsBytes 8 x.1.0 × AreArguments x.1.1)) id_field method in
    both_field (number_at 8) (number_bytes 8) (FitsBytes 8) (both id_at (both (number_at 4) (both (number_at 8) arguments_at))) (λ x. id_bytes x.0 ++ (number_bytes 4 x.1.0 ++ (number_bytes 8 x.1.1.0 ++ row_bytes 1 value_bytes x.1.1.1)))
    (λ x. IsId x.0 × (FitsBytes 4 x.1.0 × (FitsBytes 8 x.1.1.0 × AreArguments x.1.1.1))) u8_field object

-- a number, and then a field
abbrev and_then : {A : Type 0} → (List ℕ → Result (A × List ℕ) WireFault) → List ℕ → Result ((ℕ × A) × List ℕ) WireFault
and_then read bytes = both (number_at 8) read bytes

numbered : {A : Type 0} (read : List ℕ → Result (A × List ℕ) WireFault) (s : A → List ℕ) (F : A → Type 0) → IsField read s F → IsField (and_then read) (λ x. number_bytes 8 x.0 ++ s x.1) (λ x. FitsBytes 8 x.0 × F x.1)
numbered read s F field = both_field (number_at 8) (number_bytes 8) (FitsBytes 8) read s F u8_field field

abbrev IsResult : Option Value → Type 0
IsResult value = IfSome value IsValue

returned_field : IsField (and_then (and_then result_at)) (λ x. number_bytes 8 x.0 ++ (number_bytes 8 x.1.0 ++ result_bytes x.1.1)) (λ x. FitsBytes 8 x.0 × (FitsBytes 8 x.1.0 × IsResult x.1.1))
returned_field = numbered (and_then result_at) (λ x. number_bytes 8 x.0 ++ result_bytes x.1) (λ x. FitsBytes 8 x.0 × IsResult x.1) (numbered result_at result_bytes IsResult result_field)

threw_field : IsField (and_then class_at) (λ x. number_bytes 8 x.0 ++ class_bytes x.1) (λ x. FitsBytes 8 x.0 × IsClass x.1)
threw_field = numbered class_at class_bytes IsClass class_field

dirty_field : IsField (and_then (and_then objects_at)) (λ x. number_bytes 8 x.0 ++ (number_bytes 8 x.1.0 ++ row_bytes 2 id_bytes x.1.1)) (λ x. FitsBytes 8 x.0 × (FitsBytes 8 x.1.0 × AreObjects x.1.1))
dirty_field = numbered (and_then objects_at) (λ x. number_bytes 8 x.0 ++ row_bytes 2 id_bytes x.1) (λ x. FitsBytes 8 x.0 × AreObjects x.1) (numbered objects_at (row_bytes 2 id_bytes) AreObjects objects_field)

lease_field : IsField (and_then (number_at 8)) (λ x. number_bytes 8 x.0 ++ number_bytes 8 x.1) (λ x. FitsBytes 8 x.0 × FitsBytes 8 x.1)
lease_field = numbered (number_at 8) (number_bytes 8) (FitsBytes 8) u8_field

abbrev IsAnyFlag : Bool → Type 0
IsAnyFlag flag = Unit {0}

clean_field : IsField (and_then (both flag_at objects_at)) (λ x. number_bytes 8 x.0 ++ (flag_bytes x.1.0 ++ row_bytes 2 id_bytes x.1.1)) (λ x. FitsBytes 8 x.0 × (Unit {0} × AreObjects x.1.1))
clean_field = numbered (both flag_at objects_at) (λ x. flag_bytes x.0 ++ row_bytes 2 id_bytes x.1) (λ x. Unit {0} × AreObjects x.1)
    (both_field flag_at flag_bytes IsAnyFlag objects_at (row_bytes 2 id_bytes) AreObjects flag_field objects_field)

lookup_field : IsField (and_then name_at) (λ x. number_bytes 8 x.0 ++ name_bytes x.1) (λ x. FitsBytes 8 x.0 × IsName x.1)
lookup_field = numbered name_at name_bytes IsName name_field

-- ---- bodies

-- the number of a kind
abbrev pub number_of : FrameKind → ℕ
number_of kinds.Hello = 1
number_of kinds.Call = 2
number_of kinds.Returned = 3
number_of kinds.Threw = 4
number_of kinds.Spent = 5
number_of kinds.Ack = 6
number_of kinds.Dirty = 7
number_of kinds.Lease = 8
number_of kinds.Clean = 9
number_of kinds.Cleaned = 10
number_of kinds.Lookup = 11

pub fields_takes : (kind : FrameKind) (bytes : List ℕ) (x : Message × List ℕ) → IsBytes bytes → fields_at kind bytes ≡ Ok x → Takes body IsInRange (number_of kind ∷ bytes) x
unfolding fields_at body IsInRange
fields_takes kinds.Hello bytes x h e = headed_takes hello_at (λ x. (x.0 ∷ []) ++ (x.1.0 ++ x.1.1)) (λ x. IsVersion x.0 × ((length x.1.0 ≡ 16) × (length x.1.1 ≡ 32))) (λ x. Hello x.0 x.1.0 x.1.1) 1 body IsInRange hello_field
    (λ a fits. refl) (λ a fits. (fits.0, fits.1.0, fits.1.1)) bytes x h e
fields_takes kinds.Call bytes x h e = headed_takes call_at (λ x. number_bytes 8 x.0 ++ (id_bytes x.1.0 ++ (number_bytes 4 x.1.1.0 ++ (number_bytes 8 x.1.1.1.0 ++ row_bytes 1 value_bytes x.1.1.1.1))))
    (λ x. FitsBytes 8 x.0 × (IsId x.1.0 × (FitsBytes 4 x.1.1.0 × (FitsBytes 8 x.1.1.1.0 × AreArguments x.1.1.1.1)))) (λ x. Call x.0 x.1.0 x.1.1.0 x.1.1.1.0 x.1.1.1.1) 2 body IsInRange call_field
    (λ a fits. refl) (λ a fits. (fits.0, fits.1.0, fits.1.1.0, fits.1.1.1.0, fits.1.1.1.1)) bytes x h e
fields_takes kinds.Returned bytes x h e = headed_takes (and_then (and_then result_at)) (λ x. number_bytes 8 x.0 ++ (number_bytes 8 x.1.0 ++ result_bytes x.1.1)) (λ x. FitsBytes 8 x.0 × (FitsBytes 8 x.1.0 × IsResult x.1.1)) (λ x. Returned x.0 x.1.0 x.1.1) 3 body IsInRange returned_field
    (λ a fits. refl) (λ a fits. (fits.0, fits.1.0, fits.1.1)) bytes x h e
fields_takes kinds.Threw bytes x h e = headed_takes (and_then class_at) (λ x. number_bytes 8 x.0 ++ class_bytes x.1) (λ x. FitsBytes 8 x.0 × IsClass x.1) (λ x. Threw x.0 x.1) 4 body IsInRange threw_field
    (λ a fits. refl) (λ a fits. fits) bytes x h e
fields_takes kinds.Spent bytes x h e = headed_takes (number_at 8) (number_bytes 8) (FitsBytes 8) Spent 5 body IsInRange u8_field (λ a fits. refl) (λ a fits. fits) bytes x h e
fields_takes kinds.Ack bytes x h e = headed_takes (number_at 8) (number_bytes 8) (FitsBytes 8) Ack 6 body IsInRange u8_field (λ a fits. refl) (λ a fits. fits) bytes x h e
fields_takes kinds.Dirty bytes x h e = headed_takes (and_then (and_then objects_at)) (λ x. number_bytes 8 x.0 ++ (number_bytes 8 x.1.0 ++ row_bytes 2 id_bytes x.1.1)) (λ x. FitsBytes 8 x.0 × (FitsBytes 8 x.1.0 × AreObjects x.1.1)) (λ x. Dirty x.0 x.1.0 x.1.1) 7 body IsInRange dirty_field
    (λ a fits. refl) (λ a fits. (fits.0, fits.1.0, fits.1.1)) bytes x h e
fields_takes kinds.Lease bytes x h e = headed_takes (and_then (number_at 8)) (λ x. number_bytes 8 x.0 ++ number_bytes 8 x.1) (λ x. FitsBytes 8 x.0 × FitsBytes 8 x.1) (λ x. Lease x.0 x.1) 8 body IsInRange lease_field
    (λ a fits. refl) (λ a fits. fits) bytes x h e
fields_takes kinds.Clean bytes x h e = headed_takes (and_then (both flag_at objects_at)) (λ x. number_bytes 8 x.0 ++ (flag_bytes x.1.0 ++ row_bytes 2 id_bytes x.1.1)) (λ x. FitsBytes 8 x.0 × (Unit {0} × AreObjects x.1.1)) (λ x. Clean x.0 x.1.0 x.1.1) 9 body IsInRange clean_field
    (λ a fits. refl) (λ a fits. (fits.0, fits.1.1)) bytes x h e
fields_takes kinds.Cleaned bytes x h e = headed_takes (number_at 8) (number_bytes 8) (FitsBytes 8) Cleaned 10 body IsInRange u8_field (λ a fits. refl) (λ a fits. fits) bytes x h e
fields_takes kinds.Lookup bytes x h e = headed_takes (and_then name_at) (λ x. number_bytes 8 x.0 ++ name_bytes x.1) (λ x. FitsBytes 8 x.0 × IsName x.1) (λ x. Lookup x.0 x.1) 11 body IsInRange lookup_field
    (λ a fits. refl) (λ a fits. fits) bytes x h e

pub fields_fails : (kind : FrameKind) (bytes : List ℕ) (fault : WireFault) → fields_at kind bytes ≡ Err fault → fault ≡ faults.Body
unfolding fields_at
fields_fails kinds.Hello bytes fault e = shown_fails hello_at (λ x. (x.0 ∷ []) ++ (x.1.0 ++ x.1.1)) (λ x. IsVersion x.0 × ((length x.1.0 ≡ 16) × (length x.1.1 ≡ 32))) (λ x. Hello x.0 x.1.0 x.1.1) hello_field bytes fault e
fields_fails kinds.Call bytes fault e = shown_fails call_at (λ x. number_bytes 8 x.0 ++ (id_bytes x.1.0 ++ (number_bytes 4 x.1.1.0 ++ (number_bytes 8 x.1.1.1.0 ++ row_bytes 1 value_bytes x.1.1.1.1))))
    (λ x. FitsBytes 8 x.0 × (IsId x.1.0 × (FitsBytes 4 x.1.1.0 × (FitsBytes 8 x.1.1.1.0 × AreArguments x.1.1.1.1)))) (λ x. Call x.0 x.1.0 x.1.1.0 x.1.1.1.0 x.1.1.1.1) call_field bytes fault e
fields_fails kinds.Returned bytes fault e = shown_fails (and_then (and_then result_at)) (λ x. number_bytes 8 x.0 ++ (number_bytes 8 x.1.0 ++ result_bytes x.1.1)) (λ x. FitsBytes 8 x.0 × (FitsBytes 8 x.1.0 × IsResult x.1.1)) (λ x. Returned x.0 x.1.0 x.1.1) returned_field bytes fault e
fields_fails kinds.Threw bytes fault e = shown_fails (and_then class_at) (λ x. number_bytes 8 x.0 ++ class_bytes x.1) (λ x. FitsBytes 8 x.0 × IsClass x.1) (λ x. Threw x.0 x.1) threw_field bytes fault e
fields_fails kinds.Spent bytes fault e = shown_fails (number_at 8) (number_bytes 8) (FitsBytes 8) Spent u8_field bytes fault e
fields_fails kinds.Ack bytes fault e = shown_fails (number_at 8) (number_bytes 8) (FitsBytes 8) Ack u8_field bytes fault e
fields_fails kinds.Dirty bytes fault e = shown_fails (and_then (and_then objects_at)) (λ x. number_bytes 8 x.0 ++ (number_bytes 8 x.1.0 ++ row_bytes 2 id_bytes x.1.1)) (λ x. FitsBytes 8 x.0 × (FitsBytes 8 x.1.0 × AreObjects x.1.1)) (λ x. Dirty x.0 x.1.0 x.1.1) dirty_field bytes fault e
fields_fails kinds.Lease bytes fault e = shown_fails (and_then (number_at 8)) (λ x. number_bytes 8 x.0 ++ number_bytes 8 x.1) (λ x. FitsBytes 8 x.0 × FitsBytes 8 x.1) (λ x. Lease x.0 x.1) lease_field bytes fault e
fields_fails kinds.Clean bytes fault e = shown_fails (and_then (both flag_at objects_at)) (λ x. number_bytes 8 x.0 ++ (flag_bytes x.1.0 ++ row_bytes 2 id_bytes x.1.1)) (λ x. FitsBytes 8 x.0 × (Unit {0} × AreObjects x.1.1)) (λ x. Clean x.0 x.1.0 x.1.1) clean_field bytes fault e
fields_fails kinds.Cleaned bytes fault e = shown_fails (number_at 8) (number_bytes 8) (FitsBytes 8) Cleaned u8_field bytes fault e
fields_fails kinds.Lookup bytes fault e = shown_fails (and_then name_at) (λ x. number_bytes 8 x.0 ++ name_bytes x.1) (λ x. FitsBytes 8 x.0 × IsName x.1) (λ x. Lookup x.0 x.1) lookup_field bytes fault e

-- what is in range and spelled is read
pub message_again : (message : Message) (rest : List ℕ) → IsInRange message → message_at (body message ++ rest) ≡ Ok (message, rest)
unfolding message_at fields_at body IsInRange
message_again (Hello version space digest) rest fits = shown_again hello_at (λ x. (x.0 ∷ []) ++ (x.1.0 ++ x.1.1)) (λ x. IsVersion x.0 × ((length x.1.0 ≡ 16) × (length x.1.1 ≡ 32))) (λ x. Hello x.0 x.1.0 x.1.1) hello_field (version, (space, digest)) rest (fits.0, (fits.1, fits.2))
message_again (Call number object method fuel arguments) rest fits = shown_again call_at (λ x. number_bytes 8 x.0 ++ (id_bytes x.1.0 ++ (number_bytes 4 x.1.1.0 ++ (number_bytes 8 x.1.1.1.0 ++ row_bytes 1 value_bytes x.1.1.1.1))))
    (λ x. FitsBytes 8 x.0 × (IsId x.1.0 × (FitsBytes 4 x.1.1.0 × (FitsBytes 8 x.1.1.1.0 × AreArguments x.1.1.1.1)))) (λ x. Call x.0 x.1.0 x.1.1.0 x.1.1.1.0 x.1.1.1.1) call_field (number, (object, (method, (fuel, arguments)))) rest (fits.0, (fits.1, (fits.2, (fits.3, fits.4))))
message_again (Returned number fuel value) rest fits = shown_again (and_then (and_then result_at)) (λ x. number_bytes 8 x.0 ++ (number_bytes 8 x.1.0 ++ result_bytes x.1.1)) (λ x. FitsBytes 8 x.0 × (FitsBytes 8 x.1.0 × IsResult x.1.1)) (λ x. Returned x.0 x.1.0 x.1.1) returned_field (number, (fuel, value)) rest (fits.0, (fits.1, fits.2))
message_again (Threw number class) rest fits = shown_again (and_then class_at) (λ x. number_bytes 8 x.0 ++ class_bytes x.1) (λ x. FitsBytes 8 x.0 × IsClass x.1) (λ x. Threw x.0 x.1) threw_field (number, class) rest fits
message_again (Spent number) rest fits = shown_again (number_at 8) (number_bytes 8) (FitsBytes 8) Spent u8_field number rest fits
message_again (Ack number) rest fits = shown_again (number_at 8) (number_bytes 8) (FitsBytes 8) Ack u8_field number rest fits
message_again (Dirty sequence period objects) rest fits = shown_again (and_then (and_then objects_at)) (λ x. number_bytes 8 x.0 ++ (number_bytes 8 x.1.0 ++ row_bytes 2 id_bytes x.1.1)) (λ x. FitsBytes 8 x.0 × (FitsBytes 8 x.1.0 × AreObjects x.1.1)) (λ x. Dirty x.0 x.1.0 x.1.1) dirty_field (sequence, (period, objects)) rest (fits.0, (fits.1, fits.2))
message_again (Lease sequence period) rest fits = shown_again (and_then (number_at 8)) (λ x. number_bytes 8 x.0 ++ number_bytes 8 x.1) (λ x. FitsBytes 8 x.0 × FitsBytes 8 x.1) (λ x. Lease x.0 x.1) lease_field (sequence, period) rest fits
message_again (Clean sequence strong objects) rest fits = shown_again (and_then (both flag_at objects_at)) (λ x. number_bytes 8 x.0 ++ (flag_bytes x.1.0 ++ row_bytes 2 id_bytes x.1.1)) (λ x. FitsBytes 8 x.0 × (Unit {0} × AreObjects x.1.1)) (λ x. Clean x.0 x.1.0 x.1.1) clean_field (sequence, (strong, objects)) rest (fits.0, (tt, fits.1))
message_again (Cleaned sequence) rest fits = shown_again (number_at 8) (number_bytes 8) (FitsBytes 8) Cleaned u8_field sequence rest fits
message_again (Lookup number name) rest fits = shown_again (and_then name_at) (λ x. number_bytes 8 x.0 ++ name_bytes x.1) (λ x. FitsBytes 8 x.0 × IsName x.1) (λ x. Lookup x.0 x.1) lookup_field (number, name) rest fits
