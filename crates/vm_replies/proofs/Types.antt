-- The types of fields, counted one after the other, those of superclasses first.
use Rattle.std.proofs.Common.{◌≡◌, ◌≢◌, ℕ, zero, suc, ◌+◌, ◌-◌, ◌<◌, ◌≤◌, true, false, List, [], ◌∷◌, ◌++◌, length, drop, get_or, refl, ap, sym, ◌∙◌, arith, add-one, length-append, Option, Some, None}
use Rattle.std.proofs.lemmas.Option.{slice_get_within}
use Rattle.std.specs.Prelude.{slice_get, IfErr, IfOk, Result, Ok, Err}
use Rattle.std.specs.Option.{option_map_or}
use Rattle.cf_reader.specs.declared.class_file.Field.{Field}
use Rattle.cls_link.specs.Fields.{is_instance}
use Rattle.cls_set.specs.declared.class.Class.{Class}
use Rattle.space_ids.specs.declared.ids.ClassId.{ClassId}
use Rattle.ver_frames.specs.Types.{field_vtype}
use Rattle.ver_frames.specs.declared.vtype.VType.{VType}
use Rattle.vm_laws.specs.Files.{own_types, types_up}

module _ (classes : List Class) where
  own_at : (fields : List Field) (k : ℕ) (f d : Field) → f ≡ get_or fields k d → k < length fields → own_types classes (drop k fields) ≡ own_types classes (f ∷ drop (k + 1) fields)
  unfolding own_types
  own_at fields k f d is within = rw (add-one k) (at fields k is within)
    where
      at : (fields : List Field) (k : ℕ) → f ≡ get_or fields k d → k < length fields → own_types classes (drop k fields) ≡ own_types classes (f ∷ drop (suc k) fields)
      at [] k is within = absurd (omega (arith, within))
      at (x ∷ fields) zero is within = rw is refl
      at (x ∷ fields) (suc k) is within = at fields k is (omega (arith, within))

  -- the field of an index stands among those from here on, and so many come before
  pub record Looks (fields : List Field) (index k count : ℕ) : Type 0 where
    pub counted : length (own_types classes fields) ≡ count + length (own_types classes (drop k fields))
    pub left : slice_get (own_types classes fields) index ≡ slice_get (own_types classes (drop k fields)) (index - count)
    pub before : count ≤ index

  pub looks : (fields : List Field) (index : ℕ) → Looks fields index 0 0
  looks fields index = let all : index - 0 ≡ index = omega arith in record { counted = omega arith; left = rw all refl; before = omega arith }

  module _ (fields : List Field) (index k count : ℕ) (f d : Field) (is : f ≡ get_or fields k d) (within : k < length fields) (so : Looks fields index k count) where
    pub looks_past : false ≡ is_instance f → Looks fields index (k + 1) count
    unfolding own_types
    looks_past static =
        let same : own_types classes (drop k fields) ≡ own_types classes (drop (k + 1) fields) = own_at fields k f d is within ∙ rw (← static) refl in
        record {
          counted = so.counted ∙ ap (λ (ts : List VType). count + length ts) same;
          left = so.left ∙ ap (λ (ts : List VType). slice_get ts (index - count)) same;
          before = so.before;
        }

    here : true ≡ is_instance f → own_types classes (drop k fields) ≡ field_vtype classes f.kind ∷ own_types classes (drop (k + 1) fields)
    unfolding own_types
    here instance = own_at fields k f d is within ∙ rw (← instance) refl

    pub looks_more : true ≡ is_instance f → count ≢ index → Looks fields index (k + 1) (count + 1)
    looks_more instance other =
        let rest : List VType = own_types classes (drop (k + 1) fields) in
        let longer : length (own_types classes (drop k fields)) ≡ suc (length rest) = ap (λ (ts : List VType). length ts) (here instance) in
        let counted = so.counted in
        let before = so.before in
        let next : index - count ≡ suc (index - (count + 1)) = omega (arith, before, other) in
        record {
          counted = omega (arith, counted, longer);
          left = so.left ∙ (ap (λ (ts : List VType). slice_get ts (index - count)) (here instance) ∙ ap (slice_get (field_vtype classes f.kind ∷ rest)) next);
          before = omega (arith, before, other);
        }

    pub looks_found : true ≡ is_instance f → count ≡ index → slice_get (own_types classes fields) index ≡ Some (field_vtype classes f.kind)
    looks_found instance found =
        let rest : List VType = own_types classes (drop (k + 1) fields) in
        let none : index - count ≡ zero = omega (arith, found) in
        so.left ∙ (ap (λ (ts : List VType). slice_get ts (index - count)) (here instance) ∙ ap (slice_get (field_vtype classes f.kind ∷ rest)) none)

  gone : (fields : List Field) (k : ℕ) → length fields ≤ k → own_types classes (drop k fields) ≡ []
  unfolding own_types
  gone [] zero past = refl
  gone [] (suc k) past = refl
  gone (x ∷ fields) zero past = absurd (omega (arith, past))
  gone (x ∷ fields) (suc k) past = gone fields k (omega (arith, past))

  pub looks_all : (fields : List Field) (index k count : ℕ) → length fields ≤ k → Looks fields index k count → count ≡ length (own_types classes fields)
  looks_all fields index k count past so =
      let none : length (own_types classes (drop k fields)) ≡ 0 = ap (λ (ts : List VType). length ts) (gone fields k past) in
      let counted = so.counted in
      omega (arith, none, counted)

  -- ---- superclasses

  get_first : (xs ys : List VType) (n : ℕ) (t : VType) → slice_get xs n ≡ Some t → slice_get (xs ++ ys) n ≡ Some t
  get_first [] ys n t e = absurd (cc)
  get_first (x ∷ xs) ys zero t e = e
  get_first (x ∷ xs) ys (suc n) t e = get_first xs ys n t e

  get_after : (xs ys : List VType) (n : ℕ) → length xs ≤ n → slice_get (xs ++ ys) n ≡ slice_get ys (n - length xs)
  get_after [] ys n past = let all : n - 0 ≡ n = omega arith in rw all refl
  get_after (x ∷ xs) ys zero past = absurd (omega (arith, past))
  get_after (x ∷ xs) ys (suc n) past =
      let same : suc n - suc (length xs) ≡ n - length xs = omega arith in
      get_after xs ys n (omega (arith, past)) ∙ ap (slice_get ys) (sym same)

  module _ (most : ℕ) (class : ClassId) (c : Class) (fields : List Field) (some : most ≢ 0) (at : slice_get classes class.0 ≡ Some c) (own : fields ≡ c.file.fields) where
    up_is : types_up most classes class ≡ option_map_or (types_up (most - 1) classes) c.superclass [] ++ own_types classes fields
    unfolding types_up
    up_is = by most some ∙ ap (λ (fs : List Field). option_map_or (types_up (most - 1) classes) c.superclass [] ++ own_types classes fs) (sym own)
      where
        by : (most : ℕ) → most ≢ 0 → types_up most classes class ≡ option_map_or (types_up (most - 1) classes) c.superclass [] ++ own_types classes c.file.fields
        by zero some = absurd (some refl)
        by (suc n) some = let less : suc n - 1 ≡ n = omega arith in rw (less, at) refl

    above_is : (superclass : ClassId) → c.superclass ≡ Some superclass → types_up most classes class ≡ types_up (most - 1) classes superclass ++ own_types classes fields
    above_is superclass e = up_is ∙ ap (λ (o : Option ClassId). option_map_or (types_up (most - 1) classes) o [] ++ own_types classes fields) e

    alone_is : c.superclass ≡ None → types_up most classes class ≡ own_types classes fields
    alone_is e = up_is ∙ ap (λ (o : Option ClassId). option_map_or (types_up (most - 1) classes) o [] ++ own_types classes fields) e

    pub found_above : (superclass : ClassId) (slot : ℕ) (t : VType) → c.superclass ≡ Some superclass → slice_get (types_up (most - 1) classes superclass) slot ≡ Some t
        → slice_get (types_up most classes class) slot ≡ Some t
    found_above superclass slot t e found =
        ap (λ (ts : List VType). slice_get ts slot) (above_is superclass e) ∙ get_first (types_up (most - 1) classes superclass) (own_types classes fields) slot t found

    pub found_own : (superclass : ClassId) (slot above : ℕ) (t : VType) → c.superclass ≡ Some superclass → above ≡ length (types_up (most - 1) classes superclass) → above ≤ slot
        → slice_get (own_types classes fields) (slot - above) ≡ Some t → slice_get (types_up most classes class) slot ≡ Some t
    found_own superclass slot above t e count past found =
        let inherited : List VType = types_up (most - 1) classes superclass in
        ap (λ (ts : List VType). slice_get ts slot) (above_is superclass e)
        ∙ (get_after inherited (own_types classes fields) slot (omega (arith, count, past)) ∙ (ap (λ (n : ℕ). slice_get (own_types classes fields) (slot - n)) (sym count) ∙ found))

    pub count_own : (superclass : ClassId) (above all : ℕ) → c.superclass ≡ Some superclass → above ≡ length (types_up (most - 1) classes superclass)
        → all ≡ above + length (own_types classes fields) → all ≡ length (types_up most classes class)
    count_own superclass above all e count sum =
        let inherited : List VType = types_up (most - 1) classes superclass in
        let whole : length (types_up most classes class) ≡ length inherited + length (own_types classes fields) =
        ap (λ (ts : List VType). length ts) (above_is superclass e) ∙ length-append inherited (own_types classes fields) in
        omega (arith, count, sum, whole)

    pub found_alone : (slot : ℕ) (t : VType) → c.superclass ≡ None → slice_get (own_types classes fields) (slot - 0) ≡ Some t → slice_get (types_up most classes class) slot ≡ Some t
    found_alone slot t e found =
        let all : slot - 0 ≡ slot = omega arith in
        ap (λ (ts : List VType). slice_get ts slot) (alone_is e) ∙ (ap (slice_get (own_types classes fields)) (sym all) ∙ found)

    pub count_alone : (all : ℕ) → c.superclass ≡ None → all ≡ 0 + length (own_types classes fields) → all ≡ length (types_up most classes class)
    count_alone all e sum =
        let whole : length (types_up most classes class) ≡ length (own_types classes fields) = ap (λ (ts : List VType). length ts) (alone_is e) in
        omega (arith, sum, whole)

  pub none_up : (most : ℕ) (class : ClassId) → most ≡ 0 → 0 ≡ length (types_up most classes class)
  unfolding types_up
  none_up most class none = rw none refl

  -- no class, or none to go up to
  pub nothing_up : (most : ℕ) (class : ClassId) → length classes ≤ class.0 → 0 ≡ length (types_up most classes class)
  unfolding types_up
  nothing_up zero class past = refl
  nothing_up (suc n) class past = by (slice_get classes class.0) refl
    where
      by : (o : Option Class) → slice_get classes class.0 ≡ o → 0 ≡ length (option_map_or (λ (c : Class). option_map_or (types_up n classes) c.superclass [] ++ own_types classes c.file.fields) o [])
      by None e = refl
      by (Some c) e = let within : class.0 < length classes = slice_get_within classes class.0 c e in absurd (omega (arith, within, past))

-- what is known of a result, by what was known of it
pub if_ok : {T E : Type 0} (r : Result T E) (P Q : T → Type 0) → ((t : T) → P t → Q t) → IfOk r P → IfOk r Q
if_ok (Ok t) P Q f is = f t is
if_ok (Err e) P Q f is = tt

pub if_err : {T E : Type 0} (r : Result T E) (P Q : E → Type 0) → ((e : E) → P e → Q e) → IfErr r P → IfErr r Q
if_err (Ok t) P Q f is = tt
if_err (Err e) P Q f is = f e is
