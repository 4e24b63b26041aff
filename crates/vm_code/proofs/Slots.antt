-- The slot of a field is its index among the fields of an object.
use Rattle.std.proofs.Common.{◌≡◌, ◌≢◌, inl, ℕ, zero, suc, ◌+◌, ◌<◌, ◌≤◌, ◌++◌, Bool, true, false, Option, Some, List, [], ◌∷◌, length, refl, sym, subst, ap, ◌∙◌, arith}
use Rattle.std.specs.Prelude.{◌&&◌, nat_eq, if◌then◌else◌, IsTrue, slice_get, option_map}
use Rattle.std.proofs.lemmas.Bool.{eq-eqb, eqb-true}
use Rattle.cf_reader.specs.declared.class_file.Field.{Field}
use Rattle.cls_search.proofs.Heights.{low_ranks}
use Rattle.cls_search.specs.Searches.{IsRanking}
use Rattle.cls_search.specs.declared.fields.FieldIndex.{FieldIndex}
use Rattle.cls_set.proofs.Hierarchy.{some_and, true_false, same_some, none_some}
use Rattle.cls_set.specs.Sets.{IsClassSet}
use Rattle.cls_set.specs.declared.class.Class.{Class}
use Rattle.space_ids.specs.declared.ids.ClassId.{ClassId}
use Rattle.cls_link.specs.Fields as fields
use Rattle.cls_link.specs.Fields.{is_instance, instance_fields, HasFields, IsFieldSlot}
use Rattle.cls_link.specs.declared.linked_code.FieldSlot.{FieldSlot}
use Rattle.vm_code.specs.Fields.{fields_up, is_field_index, index_of, slot_of}

-- no field among some is this one
abbrev IsAmongNone : FieldIndex → List FieldIndex → Type 0
IsAmongNone field [] = Unit {0}
IsAmongNone field (f ∷ fs) = (is_field_index field f ≡ false) × IsAmongNone field fs

-- after others that are not it, its index is counted on
index_following : (field : FieldIndex) (k : ℕ) (fs gs : List FieldIndex) → IsAmongNone field fs → index_of field k (fs ++ gs) ≡ index_of field (k + length fs) gs
index_following field k [] gs none = ap (λ n. index_of field n gs) (omega arith)
index_following field k (f ∷ fs) gs none =
    rw (none.0) (index_following field (suc k) fs gs none.1 ∙ ap (λ n. index_of field n gs) (omega arith))

same_field_index : (f g : FieldIndex) → f ≡ g → is_field_index f g ≡ true
same_field_index f g e = rw (eq-eqb f.class.0 g.class.0 (ap (λ (p : FieldIndex). p.class.0) e), eq-eqb f.index g.index (ap (λ (p : FieldIndex). p.index) e)) refl

-- it stands after others that are not it
found_after : (field : FieldIndex) (xs ys : List FieldIndex) (s : ℕ) → IsAmongNone field xs → slice_get (xs ++ ys) s ≡ Some field
    → (i : ℕ) × (s ≡ length xs + i) × (slice_get ys i ≡ Some field)
found_after field [] ys s none e = (s, omega arith, e)
found_after field (x ∷ xs) ys zero none e = absurd (true_false (sym (same_field_index field x (sym (same_some e))) ∙ none.0))
found_after field (x ∷ xs) ys (suc s) none e =
    let r = found_after field xs ys s none.1 e in
    let later = r.1 in
    (r.0, omega (arith, later), r.2)

none_append : (field : FieldIndex) (xs ys : List FieldIndex) → IsAmongNone field xs → IsAmongNone field ys → IsAmongNone field (xs ++ ys)
none_append field [] ys p q = q
none_append field (x ∷ xs) ys p q = (p.0, none_append field xs ys p.1 q)

and_false : (a b : Bool) → b ≡ false → (a && b) ≡ false
and_false true b e = e
and_false false b e = refl

false_and : (a b : Bool) → a ≡ false → (a && b) ≡ false
false_and true b e = absurd (true_false e)
false_and false b e = refl

differs : (m n : ℕ) → m ≢ n → nat_eq m n ≡ false
differs m n ne = on (nat_eq m n) refl
  where
    on : (b : Bool) → nat_eq m n ≡ b → b ≡ false
    on true e = absurd (ne (eqb-true m n e))
    on false e = refl

module _ (field : FieldIndex) (class : ClassId) where
  abbrev chosen : ℕ → List FieldIndex → Bool → List FieldIndex
  chosen k rest b = if b then record { class = class; index = k } ∷ rest else rest

  -- the indices of the fields of a class rise
  field_index_at : (k : ℕ) (rest : List FieldIndex) → ((i : ℕ) → slice_get rest i ≡ Some field → suc k ≤ field.index) → (b : Bool) (i : ℕ)
      → slice_get (chosen k rest b) i ≡ Some field → k ≤ field.index
  field_index_at k rest go true zero e = let same = ap (λ (p : FieldIndex). p.index) (same_some e) in omega (arith, same)
  field_index_at k rest go true (suc i) e = let later = go i e in omega (arith, later)
  field_index_at k rest go false i e = let later = go i e in omega (arith, later)

  first_from : (k : ℕ) (fs : List Field) (i : ℕ) → slice_get (instance_fields class k fs) i ≡ Some field → k ≤ field.index
  first_from k [] i e = absurd (none_some e)
  first_from k (f ∷ fs) i e = field_index_at k (instance_fields class (suc k) fs) (first_from (suc k) fs) (is_instance f) i e

  index_at : (k j : ℕ) (rest : List FieldIndex) → ((i : ℕ) → slice_get rest i ≡ Some field → suc k ≤ field.index)
      → ((j i : ℕ) → slice_get rest i ≡ Some field → index_of field j rest ≡ Some (j + i)) → (b : Bool) (i : ℕ) → slice_get (chosen k rest b) i ≡ Some field
      → index_of field j (chosen k rest b) ≡ Some (j + i)
  index_at k j rest far go true zero e =
      rw (same_field_index field (record { class = class; index = k }) (sym (same_some e))) (ap (λ n. Some n) (omega arith))
  index_at k j rest far go true (suc i) e =
      let later = far i e in
      rw (and_false (nat_eq field.class.0 class.0) (nat_eq field.index k) (differs field.index k (λ same. omega (arith, later, same))))
      (go (suc j) i e ∙ ap (λ n. Some n) (omega arith))
  index_at k j rest far go false i e = go j i e

  own_index : (k j : ℕ) (fs : List Field) (i : ℕ) → slice_get (instance_fields class k fs) i ≡ Some field
      → index_of field j (instance_fields class k fs) ≡ Some (j + i)
  own_index k j [] i e = absurd (none_some e)
  own_index k j (f ∷ fs) i e =
      index_at k j (instance_fields class (suc k) fs) (first_from (suc k) fs) (λ j i. own_index (suc k) j fs i) (is_instance f) i e

  none_at : (k : ℕ) (rest : List FieldIndex) → nat_eq field.class.0 class.0 ≡ false → IsAmongNone field rest → (b : Bool) → IsAmongNone field (chosen k rest b)
  none_at k rest e none true = (false_and (nat_eq field.class.0 class.0) (nat_eq field.index k) e, none)
  none_at k rest e none false = none

  own_none : (k : ℕ) (fs : List Field) → nat_eq field.class.0 class.0 ≡ false → IsAmongNone field (instance_fields class k fs)
  own_none k [] e = tt
  own_none k (f ∷ fs) e = none_at k (instance_fields class (suc k) fs) e (own_none (suc k) fs e) (is_instance f)

module _ (classes : List Class) (rank : ClassId → ℕ) (ranking : IsRanking classes rank) where
  lower : (class s : ClassId) (c : Class) → slice_get classes class.0 ≡ Some c → c.superclass ≡ Some s → rank s < rank class
  lower class s c at up = ranking class s (inl (some_and (slice_get classes class.0) (λ c. c.superclass ≡ Some s) c at up))

  -- the fields by cases are those that the definition counts out
  fields_are : (n : ℕ) {class : ClassId} {fs : List FieldIndex} → rank class < n → HasFields classes class fs → fields_up n classes class ≡ fs
  unfolding fields_up
  fields_are zero low has = absurd (omega (arith, low))
  fields_are (suc n) low (fields.HasFields.of_root class c at root) = rw (at, root) refl
  fields_are (suc n) low (fields.HasFields.of_subclass class s c inherited at up has) =
      let less = lower class s c at up in
      let above = fields_are n (omega (arith, less, low)) has in
      rw (at, up) (ap (λ fs. fs ++ instance_fields class 0 c.file.fields) above)

  -- a class above declares none of the fields of this one
  apart : (field : FieldIndex) (class : ClassId) → rank class < rank field.class → nat_eq field.class.0 class.0 ≡ false
  apart field class low =
      differs field.class.0 class.0 (λ same. let e = ap (λ (n : ℕ). rank (record { 0 = n })) same in omega (arith, e, low))

  inherited_none : (field : FieldIndex) {class : ClassId} {fs : List FieldIndex} → rank class < rank field.class → HasFields classes class fs → IsAmongNone field fs
  inherited_none field low (fields.HasFields.of_root class c at root) = own_none field class 0 c.file.fields (apart field class low)
  inherited_none field low (fields.HasFields.of_subclass class s c inherited at up has) =
      let less = lower class s c at up in
      none_append field inherited (instance_fields class 0 c.file.fields) (inherited_none field (omega (arith, less, low)) has)
      (own_none field class 0 c.file.fields (apart field class low))

  index_is : (field : FieldIndex) {class : ClassId} {fs : List FieldIndex} (slot : ℕ) → class ≡ field.class → HasFields classes class fs
      → slice_get fs slot ≡ Some field → index_of field 0 fs ≡ Some slot
  index_is field slot same (fields.HasFields.of_root class c at root) there =
      own_index field class 0 0 c.file.fields slot there ∙ ap (λ n. Some n) (omega arith)
  index_is field slot same (fields.HasFields.of_subclass class s c inherited at up has) there =
      let none = inherited_none field (subst (λ (d : ClassId). rank s < rank d) same (lower class s c at up)) has in
      let own = instance_fields class 0 c.file.fields in
      let r = found_after field inherited own slot none there in
      let far = r.1 in
      index_following field 0 inherited own none
      ∙ (own_index field class 0 (0 + length inherited) c.file.fields r.0 r.2 ∙ ap (λ n. Some n) (omega (arith, far)))

is_false : (b : Bool) → ¬ IsTrue b → b ≡ false
is_false true never = absurd (never refl)
is_false false never = refl

pub slot_is : (classes : List Class) → IsClassSet classes → (field : FieldIndex) {slot : Option FieldSlot} → IsFieldSlot classes field slot
    → slot_of classes field ≡ option_map (λ (s : FieldSlot). s.0) slot
unfolding slot_of
slot_is classes set field (fields.IsFieldSlot.of_instance f fs n at is has there) =
    let ranks = low_ranks classes set in
    let low = ranks.low field.class in
    let all = fields_are classes ranks.rank ranks.ranking (suc (length classes)) (omega (arith, low)) has in
    rw (at, is) (ap (index_of field 0) all ∙ index_is classes ranks.rank ranks.ranking field n refl has there)
slot_is classes set field (fields.IsFieldSlot.of_static f at is) = rw (at, is_false (is_instance f) is) refl
