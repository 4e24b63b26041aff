-- What a class has of its own: the first of its methods, and of its fields, with a name and a descriptor.
use Rattle.std.proofs.Common.{◌≡◌, ℕ, ◌+◌, ◌<◌, inl, inr, Option, Some, List, [], ◌∷◌, length, refl, sym, subst, ap, ◌∙◌}
use Rattle.std.proofs.Common.{add-one, arith}
use Rattle.std.specs.Prelude.{◌&&◌, IsSome, bytes_eq, cond, map, option_and_then, option_map, slice_get}
use Rattle.std.specs.List.{position_from}
use Rattle.std.proofs.lemmas.Iterator.Adapters.{position_from-zero}
use Rattle.std.proofs.lemmas.List.{length-map}
use Rattle.std.proofs.lemmas.List.Quantifiers.{position-Some}
use Rattle.std.proofs.lemmas.Option.{slice_get_cases}
use Rattle.cf_reader.specs.declared.class_file.Field.{Field}
use Rattle.cf_reader.specs.declared.class_file.Method.{Method}
use Rattle.cls_set.specs.declared.class.Class.{Class}
use Rattle.cls_set.specs.Orders.{field_key, first_field, first_method, is_key, method_key}
use Rattle.space_ids.specs.declared.ids.ClassId.{ClassId}
use Rattle.cls_search.specs.FieldSearches as fields
use Rattle.cls_search.specs.MethodSearches as methods

-- there is an item within a list
some_within : {X : Type 0} (xs : List X) (i : ℕ) → i < length xs → IsSome (slice_get xs i)
some_within xs i h =
    elim (slice_get_cases xs i).1 [
      | inl r ↦ subst IsSome (sym r.2) refl
      | inr r ↦ let past = r.0 in absurd (omega (arith, h, past))
    ]

method_from : (k : ℕ) (ms : List Method) (n t : List ℕ)
    → position_from (is_key (n, t)) k (map method_key ms) ≡ methods.first_from k ms n t
method_from k [] n t = refl
method_from k (m ∷ ms) n t =
    ap (cond (bytes_eq m.name n && bytes_eq m.descriptor t) (Some k))
    (method_from (k + 1) ms n t ∙ ap (λ j. methods.first_from j ms n t) (add-one k))

field_from : (k : ℕ) (fs : List Field) (n t : List ℕ)
    → position_from (is_key (n, t)) k (map field_key fs) ≡ fields.first_from k fs n t
field_from k [] n t = refl
field_from k (f ∷ fs) n t =
    ap (cond (bytes_eq f.name n && bytes_eq f.descriptor t) (Some k))
    (field_from (k + 1) fs n t ∙ ap (λ j. fields.first_from j fs n t) (add-one k))

-- the class that a set has at a number
class_of : (classes : List Class) (class : ClassId) → class.0 < length classes
    → (c : Class) × (slice_get classes class.0 ≡ Some c)
class_of classes class h =
    elim (slice_get_cases classes class.0).1 [
      | inl r ↦ (r.0, r.2)
      | inr r ↦ let past = r.0 in absurd (omega (arith, h, past))
    ]

-- the first method of a class
module _ (classes : List Class) (class : ClassId) (n t : List ℕ) (answer : Option ℕ) (h : class.0 < length classes) where
  module _ (found : (c : Class) → slice_get classes class.0 ≡ Some c → answer ≡ first_method c.file n t) where
    pub own_method_is : methods.own_method classes n t class ≡ option_map (λ index. record { class = class; index = index }) answer
    own_method_is =
        let here = class_of classes class h in
        let ms = here.0.file.methods in
        let first = position_from-zero (is_key (n, t)) (map method_key ms) ∙ method_from 0 ms n t in
        ap (option_and_then (λ (c : Class).
        option_map (λ index. record { class = class; index = index }) (methods.first_from 0 c.file.methods n t))) here.1
        ∙ ap (option_map (λ index. record { class = class; index = index })) (sym (found here.0 here.1 ∙ first))

    pub method_within : (i : ℕ) → answer ≡ Some i → IsSome (methods.method_in classes (record { class = class; index = i }))
    method_within i is =
        let here = class_of classes class h in
        let ms = here.0.file.methods in
        let low = (position-Some (is_key (n, t)) (map method_key ms) i (n, t) (sym (found here.0 here.1) ∙ is)).0 in
        let long = length-map ms method_key in
        let inside = some_within ms i (omega (arith, low, long)) in
        subst (λ o. IsSome (option_and_then (λ (c : Class). slice_get c.file.methods i) o)) (sym here.1) inside

-- the first field of a class
module _ (classes : List Class) (class : ClassId) (n t : List ℕ) (answer : Option ℕ) (h : class.0 < length classes) where
  module _ (found : (c : Class) → slice_get classes class.0 ≡ Some c → answer ≡ first_field c.file n t) where
    pub own_field_is : fields.own_field classes n t class ≡ option_map (λ index. record { class = class; index = index }) answer
    own_field_is =
        let here = class_of classes class h in
        let fs = here.0.file.fields in
        let first = position_from-zero (is_key (n, t)) (map field_key fs) ∙ field_from 0 fs n t in
        ap (option_and_then (λ (c : Class).
        option_map (λ index. record { class = class; index = index }) (fields.first_from 0 c.file.fields n t))) here.1
        ∙ ap (option_map (λ index. record { class = class; index = index })) (sym (found here.0 here.1 ∙ first))

    pub field_within : (i : ℕ) → answer ≡ Some i → IsSome (fields.field_at classes (record { class = class; index = i }))
    field_within i is =
        let here = class_of classes class h in
        let fs = here.0.file.fields in
        let low = (position-Some (is_key (n, t)) (map field_key fs) i (n, t) (sym (found here.0 here.1) ∙ is)).0 in
        let long = length-map fs field_key in
        let inside = some_within fs i (omega (arith, low, long)) in
        subst (λ o. IsSome (option_and_then (λ (c : Class). slice_get c.file.fields i) o)) (sym here.1) inside
