-- Arguments that are looked at one after another.
use Rattle.std.proofs.Common.{◌≡◌, ℕ, zero, suc, ◌+◌, ◌<◌, ◌≤◌, Bool, true, false, Option, Some, None, List, [], ◌∷◌, length, get_or, drop, map, refl, sym, ap, ◌∙◌, arith, add-one}
use Rattle.std.proofs.lemmas.Bool.Decides.{nat_tests}
use Rattle.std.specs.Prelude.{◌&&◌, nat_eq}
use Rattle.std.specs.Option.{option_map_or}
use Rattle.cf_reader.specs.declared.class_file.Method.{Method}
use Rattle.cf_text.specs.declared.types.FieldType.{FieldType}
use Rattle.cls_link.specs.Links.{method_at}
use Rattle.cls_set.specs.declared.class.Class.{Class}
use Rattle.space_ids.specs.declared.value.Value.{Value}
use Rattle.sp_behaviours.specs.Kinds.{kind_of_type, parameters_of, result_kind, result_of}
use Rattle.sp_requests.specs.Asking.{kind_of}
use Rattle.sp_requests.specs.declared.asked.ResultKind.{ResultKind}
use Rattle.sp_rules.specs.Classes.{fit_kinds, fits_kind}

-- whether the values are one for each type, of its kind
abbrev pub fit_types : List FieldType → List Value → Bool
fit_types types values = fit_kinds (map kind_of_type types) values

and_false : (b c : Bool) → false ≡ c → false ≡ (b && c)
and_false true c is = is
and_false false c is = refl

-- of another number
pub fit_other : (types : List FieldType) (values : List Value) → (length types ≡ length values → ⊥) → false ≡ fit_types types values
fit_other [] [] other = absurd (other refl)
fit_other [] (v ∷ values) other = refl
fit_other (t ∷ types) [] other = refl
fit_other (t ∷ types) (v ∷ values) other =
    and_false (fits_kind (kind_of_type t) v) (fit_types types values) (fit_other types values (λ same. other (ap (λ (n : ℕ). suc n) same)))

-- those from an index on
fit_at : (types : List FieldType) (values : List Value) (index : ℕ) (t d : FieldType) (v e : Value) → index < length types → index < length values → t ≡ get_or types index d
    → v ≡ get_or values index e → fit_types (drop index types) (drop index values) ≡ (fits_kind (kind_of_type t) v && fit_types (drop (index + 1) types) (drop (index + 1) values))
fit_at types values index t d v e within room is was = rw (add-one index) (at types values index within room is was)
  where
    at : (types : List FieldType) (values : List Value) (index : ℕ) → index < length types → index < length values → t ≡ get_or types index d → v ≡ get_or values index e
        → fit_types (drop index types) (drop index values) ≡ (fits_kind (kind_of_type t) v && fit_types (drop (suc index) types) (drop (suc index) values))
    at [] values index within room is was = absurd (omega (arith, within))
    at (x ∷ types) [] index within room is was = absurd (omega (arith, room))
    at (x ∷ types) (y ∷ values) zero within room is was = rw (is, was) refl
    at (x ∷ types) (y ∷ values) (suc index) within room is was = at types values index (omega (arith, within)) (omega (arith, room)) is was

first_no : (b c : Bool) → false ≡ b → false ≡ (b && c)
first_no true c fails = absurd (cc)
first_no false c fails = refl

first_yes : (b c : Bool) → true ≡ b → c ≡ (b && c)
first_yes true c holds = refl
first_yes false c holds = absurd (cc)

pub fit_no : (types : List FieldType) (values : List Value) (index : ℕ) (t d : FieldType) (v e : Value) → index < length types → index < length values → t ≡ get_or types index d
    → v ≡ get_or values index e → false ≡ fits_kind (kind_of_type t) v → fit_types (drop index types) (drop index values) ≡ fit_types types values → false ≡ fit_types types values
fit_no types values index t d v e within room is was fails so =
    first_no (fits_kind (kind_of_type t) v) (fit_types (drop (index + 1) types) (drop (index + 1) values)) fails ∙ (sym (fit_at types values index t d v e within room is was) ∙ so)

pub fit_more : (types : List FieldType) (values : List Value) (index : ℕ) (t d : FieldType) (v e : Value) → index < length types → index < length values → t ≡ get_or types index d
    → v ≡ get_or values index e → true ≡ fits_kind (kind_of_type t) v → fit_types (drop index types) (drop index values) ≡ fit_types types values
    → fit_types (drop (index + 1) types) (drop (index + 1) values) ≡ fit_types types values
fit_more types values index t d v e within room is was holds so =
    first_yes (fits_kind (kind_of_type t) v) (fit_types (drop (index + 1) types) (drop (index + 1) values)) holds ∙ (sym (fit_at types values index t d v e within room is was) ∙ so)

dropped : {A : Type 0} (xs : List A) (n : ℕ) → length xs ≤ n → drop n xs ≡ []
dropped [] zero h = refl
dropped [] (suc n) h = refl
dropped (x ∷ xs) zero h = absurd (omega (arith, h))
dropped (x ∷ xs) (suc n) h = dropped xs n (omega (arith, h))

pub fit_end : (types : List FieldType) (values : List Value) (index : ℕ) → length types ≤ index → length values ≤ index → true ≡ fit_types (drop index types) (drop index values)
fit_end types values index k v = rw (dropped types index k, dropped values index v) refl

-- ---- of methods by their numbers

suc_is_not : (n : ℕ) → nat_eq (suc n) 0 ≡ false
suc_is_not n = grind (arith, nat_tests)

fit_nothing : (values : List Value) → nat_eq (length values) 0 ≡ fit_kinds [] values
fit_nothing [] = refl
fit_nothing (v ∷ values) = suc_is_not (length values)

pub takes_some : (classes : List Class) (method : ℕ) (m : Method) (values : List Value) (r : Bool) → Some m ≡ method_at classes (record { 0 = method })
    → r ≡ fit_types m.types.parameters values → r ≡ fit_kinds (parameters_of classes method) values
takes_some classes method m values r at is =
    is ∙ ap (λ (o : Option Method). fit_kinds (option_map_or (λ (m : Method). map kind_of_type m.types.parameters) o []) values) at

pub takes_none : (classes : List Class) (method : ℕ) (values : List Value) → None ≡ method_at classes (record { 0 = method })
    → nat_eq (length values) 0 ≡ fit_kinds (parameters_of classes method) values
takes_none classes method values at =
    fit_nothing values ∙ ap (λ (o : Option Method). fit_kinds (option_map_or (λ (m : Method). map kind_of_type m.types.parameters) o []) values) at

pub gives_some : (classes : List Class) (method : ℕ) (m : Method) (r : ResultKind) → Some m ≡ method_at classes (record { 0 = method })
    → kind_of r ≡ result_kind m.types.result → kind_of r ≡ result_of classes method
gives_some classes method m r at is = is ∙ ap (λ (o : Option Method). option_map_or (λ (m : Method). result_kind m.types.result) o (result_kind None)) at

pub gives_none : (classes : List Class) (method : ℕ) → None ≡ method_at classes (record { 0 = method }) → result_kind None ≡ result_of classes method
gives_none classes method at = ap (λ (o : Option Method). option_map_or (λ (m : Method). result_kind m.types.result) o (result_kind None)) at
