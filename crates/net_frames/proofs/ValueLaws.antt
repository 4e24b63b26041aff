-- Values, rows and names are read as they are spelled.
use Rattle.std.proofs.Common.{◌≡◌, ℕ, zero, suc, ◌<◌, Bool, true, false, Fits, List, [], ◌∷◌, ◌++◌, length, Option, Some, None, Ok, Err, refl, sym, ap, subst, ◌∙◌, arith, inl, inr}
use Rattle.std.specs.Prelude.{◌==◌, IfSome, FitsSigned}
use Rattle.std.specs.Int.{w32, cast_signed, cast_unsigned}
use Rattle.std.specs.List.{AllByRecursion}
use Rattle.std.proofs.lemmas.Int.{to_z-of_z, of_z-to_z}
use Rattle.std.proofs.Math.Facts.{sfits_to_z, Fits-of_z}
use Rattle.std.proofs.lemmas.List.{append-nil}
use Rattle.space_ids.specs.declared.value.Value.{Value}
use Rattle.space_ids.specs.declared.value.Value.TheVariants as values
use Rattle.net_message.specs.declared.fault.WireFault.{WireFault}
use Rattle.net_message.specs.declared.fault.WireFault.TheVariants as faults
use Rattle.net_message.specs.Wire.{number_bytes, int_bytes, id_bytes, class_bytes, reference_bytes, row_bytes, value_bytes, result_bytes, flag_bytes, name_bytes, FitsBytes, IsId, IsClass, IsReference, AreInts, IsValue, AreArguments, AreObjects, IsName, is_within}
use Rattle.registry_names.specs.Names.{is_name}
use Rattle.net_frames.specs.Reading.{◌>>=◌, tested, both, byte_at, raw_at, number_at, row_at, int_at, id_at, class_at, reference_at, ints_at, tagged_at, value_at, arguments_at, counted_result_at, result_at, objects_at, flag_at, name_at}
use Rattle.net_message.proofs.Names.{within_true, true_within, name_true, true_name}
use Rattle.net_frames.proofs.FieldLaws.{IsBytes, IsBytes-rest, bind_ok, passed_ok, ok_is, Takes, IsField, refit, headed_takes, shown_again, shown_fails, shown_field, bind_err, tested_field, both_field, width1, width2, width4, width8, number_field, raw_field, byte_field, row_field}

int_field : IsField int_at int_bytes (FitsSigned w32)
unfolding int_at int_bytes
int_field = shown_field (number_at 4) (number_bytes 4) (FitsBytes 4) (λ n. cast_signed w32 n) (λ z. cast_unsigned w32 z) (λ z. number_bytes 4 (cast_unsigned w32 z)) (FitsSigned w32) (number_field 4 width4)
    (λ n lt. ap (number_bytes 4) (of_z-to_z w32 n lt)) (λ n lt. let fits : Fits w32 n = omega (arith, lt) in sfits_to_z {w = w32} {n = n} fits) (λ z fits. let lt : Fits w32 (cast_unsigned w32 z) = Fits-of_z {w = w32} {z = z} fits in omega (arith, lt)) (λ z fits. to_z-of_z w32 z fits)

pub id_field : IsField id_at id_bytes IsId
unfolding id_at id_bytes
id_field = shown_field (number_at 8) (number_bytes 8) (FitsBytes 8) (λ n. record { 0 = n }) (λ id. id.0) (λ id. number_bytes 8 id.0) IsId (number_field 8 width8)
    (λ n lt. refl) (λ n lt. lt) (λ id fits. fits) (λ id fits. refl)

pub class_field : IsField class_at class_bytes IsClass
unfolding class_at class_bytes
class_field = shown_field (number_at 2) (number_bytes 2) (FitsBytes 2) (λ n. record { 0 = n }) (λ class. class.0) (λ class. number_bytes 2 class.0) IsClass (number_field 2 width2)
    (λ n lt. refl) (λ n lt. lt) (λ class fits. fits) (λ class fits. refl)

reference_field : IsField reference_at reference_bytes IsReference
unfolding reference_at reference_bytes
reference_field =
    let fields = both_field (raw_at 16) (λ bytes. bytes) (λ bytes. length bytes ≡ 16) (both id_at class_at) (λ x. id_bytes x.0 ++ class_bytes x.1) (λ x. IsId x.0 × IsClass x.1) (raw_field 16)
    (both_field id_at id_bytes IsId class_at class_bytes IsClass id_field class_field) in
    shown_field (both (raw_at 16) (both id_at class_at)) (λ x. x.0 ++ (id_bytes x.1.0 ++ class_bytes x.1.1)) (λ x. (length x.0 ≡ 16) × (IsId x.1.0 × IsClass x.1.1))
    (λ x. record { space = x.0; id = x.1.0; class = x.1.1 }) (λ r. (r.space, (r.id, r.class))) (λ r. r.space ++ (id_bytes r.id ++ class_bytes r.class)) IsReference fields
    (λ x fits. refl) (λ x fits. (fits.0, fits.1.0, fits.1.1)) (λ r fits. (fits.0, (fits.1, fits.2))) (λ r fits. refl)

ints_field : IsField ints_at (row_bytes 4 int_bytes) AreInts
unfolding ints_at
ints_field = refit (row_at (is_within 0 8000) 4 int_at) (row_bytes 4 int_bytes) (λ ns. FitsBytes 4 (length ns) × (is_within 0 8000 (length ns) ≡ true) × AllByRecursion (FitsSigned w32) ns) AreInts
    (row_field (is_within 0 8000) 4 int_at int_bytes (FitsSigned w32) width4 int_field)
    (λ ns fits. ((within_true 0 8000 (length ns) fits.1).1, fits.2)) (λ ns fits. (omega (arith, fits.0), true_within 0 8000 (length ns) (omega arith) fits.0, fits.1))

tagged_takes : (tag : ℕ) (bytes : List ℕ) (x : Value × List ℕ) → IsBytes bytes → tagged_at tag bytes ≡ Ok x → Takes value_bytes IsValue (tag ∷ bytes) x
unfolding value_bytes IsValue
tagged_takes zero bytes x h e =
    let null : Value × List ℕ = (values.Null, bytes) in
    subst (Takes value_bytes IsValue (0 ∷ bytes)) (ok_is null x e) (record { parts = refl; fits = tt; rest = h })
tagged_takes (suc zero) bytes x h e = headed_takes int_at int_bytes (FitsSigned w32) values.Int 1 value_bytes IsValue int_field (λ n fits. refl) (λ n fits. fits) bytes x h e
tagged_takes (suc (suc zero)) bytes x h e = headed_takes ints_at (row_bytes 4 int_bytes) AreInts values.Ints 2 value_bytes IsValue ints_field (λ ns fits. refl) (λ ns fits. fits) bytes x h e
tagged_takes (suc (suc (suc zero))) bytes x h e = headed_takes reference_at reference_bytes IsReference values.Ref 3 value_bytes IsValue reference_field (λ r fits. refl) (λ r fits. fits) bytes x h e
tagged_takes (suc (suc (suc (suc tag)))) bytes x h e = absurd cc

value_takes : (bytes : List ℕ) (x : Value × List ℕ) → IsBytes bytes → value_at bytes ≡ Ok x → Takes value_bytes IsValue bytes x
unfolding value_at
value_takes [] x h e = absurd cc
value_takes (tag ∷ bytes) x h e = tagged_takes tag bytes x (IsBytes-rest tag bytes h) e

value_again : (value : Value) (rest : List ℕ) → IsValue value → value_at (value_bytes value ++ rest) ≡ Ok (value, rest)
unfolding value_at value_bytes IsValue
value_again values.Null rest fits = refl
value_again (values.Int n) rest fits = shown_again int_at int_bytes (FitsSigned w32) values.Int int_field n rest fits
value_again (values.Ints ns) rest fits = shown_again ints_at (row_bytes 4 int_bytes) AreInts values.Ints ints_field ns rest fits
value_again (values.Ref r) rest fits = shown_again reference_at reference_bytes IsReference values.Ref reference_field r rest fits

tagged_fails : (tag : ℕ) (bytes : List ℕ) (fault : WireFault) → tagged_at tag bytes ≡ Err fault → fault ≡ faults.Body
tagged_fails zero bytes fault e = absurd cc
tagged_fails (suc zero) bytes fault e = shown_fails int_at int_bytes (FitsSigned w32) values.Int int_field bytes fault e
tagged_fails (suc (suc zero)) bytes fault e = shown_fails ints_at (row_bytes 4 int_bytes) AreInts values.Ints ints_field bytes fault e
tagged_fails (suc (suc (suc zero))) bytes fault e = shown_fails reference_at reference_bytes IsReference values.Ref reference_field bytes fault e
tagged_fails (suc (suc (suc (suc tag)))) bytes fault e = cc

value_fails : (bytes : List ℕ) (fault : WireFault) → value_at bytes ≡ Err fault → fault ≡ faults.Body
unfolding value_at
value_fails [] fault e = cc
value_fails (tag ∷ bytes) fault e = tagged_fails tag bytes fault e

value_field : IsField value_at value_bytes IsValue
value_field = record { takes = value_takes; again = value_again; fails = value_fails }

pub arguments_field : IsField arguments_at (row_bytes 1 value_bytes) AreArguments
unfolding arguments_at
arguments_field = refit (row_at (is_within 0 255) 1 value_at) (row_bytes 1 value_bytes) (λ xs. FitsBytes 1 (length xs) × (is_within 0 255 (length xs) ≡ true) × AllByRecursion IsValue xs) AreArguments
    (row_field (is_within 0 255) 1 value_at value_bytes IsValue width1 value_field)
    (λ xs fits. ((within_true 0 255 (length xs) fits.1).1, fits.2)) (λ xs fits. (omega (arith, fits.0), true_within 0 255 (length xs) (omega arith) fits.0, fits.1))

pub objects_field : IsField objects_at (row_bytes 2 id_bytes) AreObjects
unfolding objects_at
objects_field = refit (row_at (is_within 1 4096) 2 id_at) (row_bytes 2 id_bytes) (λ xs. FitsBytes 2 (length xs) × (is_within 1 4096 (length xs) ≡ true) × AllByRecursion IsId xs) AreObjects
    (row_field (is_within 1 4096) 2 id_at id_bytes IsId width2 id_field)
    (λ xs fits. let p = within_true 1 4096 (length xs) fits.1 in (p.0, p.1, fits.2)) (λ xs fits. (omega (arith, fits.1), true_within 1 4096 (length xs) fits.0 fits.1, fits.2))

-- ---- results, flags and names

abbrev IsResult : Option Value → Type 0
IsResult value = IfSome value IsValue

counted_takes : (count : ℕ) (bytes : List ℕ) (x : Option Value × List ℕ) → IsBytes bytes → counted_result_at count bytes ≡ Ok x → Takes result_bytes IsResult (count ∷ bytes) x
unfolding result_bytes number_bytes
counted_takes zero bytes x h e =
    let none : Option Value × List ℕ = (None, bytes) in
    subst (Takes result_bytes IsResult (0 ∷ bytes)) (ok_is none x e) (record { parts = refl; fits = tt; rest = h })
counted_takes (suc zero) bytes x h e = headed_takes value_at value_bytes IsValue Some 1 result_bytes IsResult value_field (λ v fits. ap (λ (w : List ℕ). 1 ∷ w) (append-nil (value_bytes v))) (λ v fits. fits) bytes x h e
counted_takes (suc (suc count)) bytes x h e = absurd cc

result_takes : (bytes : List ℕ) (x : Option Value × List ℕ) → IsBytes bytes → result_at bytes ≡ Ok x → Takes result_bytes IsResult bytes x
unfolding result_at
result_takes [] x h e = absurd cc
result_takes (count ∷ bytes) x h e = counted_takes count bytes x (IsBytes-rest count bytes h) e

result_again : (value : Option Value) (rest : List ℕ) → IsResult value → result_at (result_bytes value ++ rest) ≡ Ok (value, rest)
unfolding result_at result_bytes number_bytes
result_again None rest fits = refl
result_again (Some value) rest fits = rw (append-nil (value_bytes value)) (shown_again value_at value_bytes IsValue Some value_field value rest fits)

counted_fails : (count : ℕ) (bytes : List ℕ) (fault : WireFault) → counted_result_at count bytes ≡ Err fault → fault ≡ faults.Body
counted_fails zero bytes fault e = absurd cc
counted_fails (suc zero) bytes fault e = shown_fails value_at value_bytes IsValue Some value_field bytes fault e
counted_fails (suc (suc count)) bytes fault e = cc

result_fails : (bytes : List ℕ) (fault : WireFault) → result_at bytes ≡ Err fault → fault ≡ faults.Body
unfolding result_at
result_fails [] fault e = cc
result_fails (count ∷ bytes) fault e = counted_fails count bytes fault e

pub result_field : IsField result_at result_bytes IsResult
result_field = record { takes = result_takes; again = result_again; fails = result_fails }

abbrev IsFlag : Bool → Type 0
IsFlag flag = Unit {0}

flag_from : (n : ℕ) (rest : List ℕ) (x : Bool × List ℕ) → IsBytes (n ∷ rest) → flag_at (n ∷ rest) ≡ Ok x → Takes flag_bytes IsFlag (n ∷ rest) x
unfolding flag_at flag_bytes
flag_from zero rest x h e =
    let no : Bool × List ℕ = (false, rest) in
    subst (Takes flag_bytes IsFlag (0 ∷ rest)) (ok_is no x e) (record { parts = refl; fits = tt; rest = IsBytes-rest 0 rest h })
flag_from (suc zero) rest x h e =
    let yes : Bool × List ℕ = (true, rest) in
    subst (Takes flag_bytes IsFlag (1 ∷ rest)) (ok_is yes x e) (record { parts = refl; fits = tt; rest = IsBytes-rest 1 rest h })
flag_from (suc (suc n)) rest x h e =
    let b = bind_ok (tested (is_within 0 1) byte_at (suc (suc n) ∷ rest)) (λ x. Ok (x.0 == 1, x.1)) x e in
    let test : is_within 0 1 (suc (suc n)) ≡ true = (passed_ok (is_within 0 1 (suc (suc n))) faults.Body (suc (suc n), rest) b.0 b.1).0 in
    let low = within_true 0 1 (suc (suc n)) test in
    absurd (omega (arith, low.1))

flag_takes : (bytes : List ℕ) (x : Bool × List ℕ) → IsBytes bytes → flag_at bytes ≡ Ok x → Takes flag_bytes IsFlag bytes x
unfolding flag_at
flag_takes [] x h e = absurd cc
flag_takes (n ∷ rest) x h e = flag_from n rest x h e

flag_again : (flag : Bool) (rest : List ℕ) → IsFlag flag → flag_at (flag_bytes flag ++ rest) ≡ Ok (flag, rest)
unfolding flag_at flag_bytes
flag_again false rest fits = refl
flag_again true rest fits = refl

flag_fails : (bytes : List ℕ) (fault : WireFault) → flag_at bytes ≡ Err fault → fault ≡ faults.Body
unfolding flag_at
flag_fails bytes fault e = shown_fails (tested (is_within 0 1) byte_at) (λ byte. byte ∷ []) (λ byte. (byte < 256) × (is_within 0 1 byte ≡ true)) (λ flag. flag == 1)
    (tested_field byte_at (λ byte. byte ∷ []) (λ byte. byte < 256) (is_within 0 1) byte_field) bytes fault e

pub flag_field : IsField flag_at flag_bytes IsFlag
flag_field = record { takes = flag_takes; again = flag_again; fails = flag_fails }

counted_name : IsField (λ bytes. byte_at bytes >>= λ count. raw_at count.0 count.1) name_bytes (λ name. length name < 256)
unfolding name_bytes
counted_name = record {
  takes = λ bytes x h e.
      let a = bind_ok (byte_at bytes) (λ count. raw_at count.0 count.1) x e in
      let p = byte_field.takes bytes a.0 h a.1 in
      let q = (raw_field a.0.0).takes a.0.1 x p.rest a.2 in
      record { parts = p.parts ∙ ap (λ (k : ℕ). k ∷ a.0.1) (sym q.fits) ∙ ap (λ (w : List ℕ). length x.0 ∷ w) q.parts; fits = subst (λ (k : ℕ). k < 256) (sym q.fits) p.fits; rest = q.rest };
  again = λ name rest fits. (raw_field (length name)).again name rest refl;
  fails = λ bytes fault e.
      elim (bind_err (byte_at bytes) (λ count. raw_at count.0 count.1) fault e) [
        | inl at_count ↦ byte_field.fails bytes fault at_count
        | inr past ↦ (raw_field past.0.0).fails past.0.1 fault past.1.1
      ];
}

pub name_field : IsField name_at name_bytes IsName
unfolding name_at
name_field = refit (tested is_name (λ bytes. byte_at bytes >>= λ count. raw_at count.0 count.1)) name_bytes (λ name. (length name < 256) × (is_name name ≡ true)) IsName
    (tested_field (λ bytes. byte_at bytes >>= λ count. raw_at count.0 count.1) name_bytes (λ name. length name < 256) is_name counted_name)
    (λ name fits. name_true name fits.1) (λ name fits. (omega (arith, fits.1), true_name name fits))
