-- Fields: their indices, their slots, and how many there are.
use Rattle.std.proofs.Common.{◌≡◌, ℕ, zero, suc, ◌+◌, ◌-◌, ◌<◌, ◌≤◌, ◌⊎◌, inl, inr, Option, Some, None, List, [], ◌∷◌, ◌++◌, length, get_or, take, drop, refl, sym, subst, ap, ◌∙◌, arith, Bool, true, false}
use Rattle.std.specs.Prelude.{if◌then◌else◌, IfNone, IfSome, IsSome, IsTrue, cond, option_and_then, slice_get}
use Rattle.std.specs.List.{count_by}
use Rattle.std.proofs.lemmas.Grind.{get_or_default_zero}
use Rattle.std.proofs.lemmas.List.{length-append, get_or-append-add}
use Rattle.std.proofs.lemmas.List.Sums.{sum_by-cons}
use Rattle.std.proofs.lemmas.Option.{slice_get-get_or, get_or_from_slice_get, slice_get_within}
use Rattle.cls_set.proofs.Hierarchy.{same_some}
use Rattle.cf_reader.specs.declared.class_file.Field.{Field}
use Rattle.cls_set.specs.declared.class.Class.{Class}
use Rattle.space_ids.specs.declared.ids.ClassId.{ClassId}
use Rattle.cls_link.specs.Fields as fields
use Rattle.cls_link.specs.Fields.{is_instance, instance_fields, AreFieldCounts, HasFields, CountsFields, IsFieldSlot}
use Rattle.cls_search.specs.FieldSearches.{field_at}
use Rattle.cls_search.specs.declared.fields.FieldIndex.{FieldIndex}
use Rattle.cls_link.specs.declared.linked_code.FieldSlot.{FieldSlot}

cases : (b : Bool) → (b ≡ true) ⊎ (b ≡ false)
cases true = inl refl
cases false = inr refl

zero_plus : (n : ℕ) → 0 + n ≡ n
zero_plus n = omega arith

one_plus : (n : ℕ) → 1 + n ≡ suc n
one_plus n = omega arith

plus_zero : (n : ℕ) → n + 0 ≡ n
plus_zero n = omega arith

suc_moves : (p i : ℕ) → suc p + i ≡ p + suc i
suc_moves p i = omega arith

-- what a field counts
abbrev one : Field → ℕ
one f = cond (is_instance f) 1 0

one_yes : (f : Field) → is_instance f ≡ true → one f ≡ 1
one_yes f t = ap (λ b. cond b 1 0) t

one_no : (f : Field) → is_instance f ≡ false → one f ≡ 0
one_no f u = ap (λ b. cond b 1 0) u

counted : (f : Field) (fs : List Field) → count_by is_instance (f ∷ fs) ≡ one f + count_by is_instance fs
counted f fs = sum_by-cons (λ (x : Field). cond (is_instance x) 1 0) f fs

module _ (class : ClassId) (k : ℕ) (f : Field) (fs : List Field) where
  abbrev listed_index : FieldIndex
  listed_index = record { class = class; index = k }

  abbrev rest : List FieldIndex
  rest = instance_fields class (suc k) fs

  listed : is_instance f ≡ true → instance_fields class k (f ∷ fs) ≡ listed_index ∷ rest
  listed t = ap (λ b. if b then listed_index ∷ rest else rest) t

  left_out : is_instance f ≡ false → instance_fields class k (f ∷ fs) ≡ rest
  left_out u = ap (λ b. if b then listed_index ∷ rest else rest) u

-- how many fields a class adds
added : (class : ClassId) (k : ℕ) (fs : List Field) → length (instance_fields class k fs) ≡ count_by is_instance fs
added class k [] = refl
added class k (f ∷ fs) =
    let more = added class (suc k) fs in
    let all = counted f fs in
    elim (cases (is_instance f)) [
      | inl t ↦ let long = ap length (listed class k f fs t) in let n = one_yes f t in omega (arith, more, all, long, n)
      | inr u ↦ let long = ap length (left_out class k f fs u) in let n = one_no f u in omega (arith, more, all, long, n)
    ]

module _ (classes : List Class) (class : ClassId) (c : Class) (at : slice_get classes class.0 ≡ Some c) where
  pub counts_root : (n : ℕ) → c.superclass ≡ None → n ≡ count_by is_instance c.file.fields → CountsFields classes class n
  counts_root n is e =
      let more = added class 0 c.file.fields in
      record { fields = instance_fields class 0 c.file.fields; has = fields.HasFields.of_root class c at is; counted = omega (arith, more, e) }

  pub counts_below : (s : ClassId) (m n : ℕ) → c.superclass ≡ Some s → CountsFields classes s m → n ≡ m + count_by is_instance c.file.fields → CountsFields classes class n
  counts_below s m n is h e =
      let own = instance_fields class 0 c.file.fields in
      let both = length-append h.fields own in
      let more = added class 0 c.file.fields in
      let few = h.counted in
      record { fields = h.fields ++ own; has = fields.HasFields.of_subclass class s c h.fields at is h.has; counted = omega (arith, both, more, few, e) }

no_field : (i : ℕ) → i < length {A = Field} [] → ⊥
no_field i h = absurd (omega (arith, h))

-- the index of an instance field among those of its class
own_slot : (class : ClassId) (k : ℕ) (fs : List Field) (i : ℕ) (d : Field) (e : FieldIndex) → i < length fs → is_instance (get_or fs i d) ≡ true → get_or (instance_fields class k fs) (count_by is_instance (take i fs)) e ≡ record { class = class; index = k + i }
own_slot class k [] i d e h is = absurd (no_field i h)
own_slot class k (f ∷ fs) zero d e h is = ap (λ xs. get_or xs 0 e) (listed class k f fs is) ∙ ap (λ n. record { class = class; index = n }) (sym (plus_zero k))
own_slot class k (f ∷ fs) (suc i) d e h is =
    let more = own_slot class (suc k) fs i d e (omega (arith, h)) is ∙ ap (λ n. record { class = class; index = n }) (suc_moves k i) in
    let n = count_by is_instance (take i fs) in
    let all = counted f (take i fs) in
    elim (cases (is_instance f)) [
      | inl t ↦
          ap (λ m. get_or (instance_fields class k (f ∷ fs)) m e) (all ∙ (ap (λ x. x + n) (one_yes f t) ∙ one_plus n))
          ∙ (ap (λ xs. get_or xs (suc n) e) (listed class k f fs t) ∙ more)
      | inr u ↦
          ap (λ m. get_or (instance_fields class k (f ∷ fs)) m e) (all ∙ (ap (λ x. x + n) (one_no f u) ∙ zero_plus n))
          ∙ (ap (λ xs. get_or xs n e) (left_out class k f fs u) ∙ more)
    ]

-- those before a field, and it with those after it
parted : (fs : List Field) (i : ℕ) → count_by is_instance (take i fs) + count_by is_instance (drop i fs) ≡ count_by is_instance fs
parted fs zero = zero_plus (count_by is_instance fs)
parted [] (suc i) = refl
parted (f ∷ fs) (suc i) =
    let more = parted fs i in
    let all = counted f fs in
    let some : count_by is_instance (take (suc i) (f ∷ fs)) ≡ one f + count_by is_instance (take i fs) = counted f (take i fs) in
    omega (arith, more, all, some)

first_counts : (fs : List Field) (i : ℕ) (d : Field) → i < length fs → is_instance (get_or fs i d) ≡ true → 0 < count_by is_instance (drop i fs)
first_counts [] i d h is = absurd (no_field i h)
first_counts (f ∷ fs) zero d h is =
    let all : count_by is_instance (drop zero (f ∷ fs)) ≡ one f + count_by is_instance fs = counted f fs in
    let n = one_yes f is in
    omega (arith, all, n)
first_counts (f ∷ fs) (suc i) d h is = first_counts fs i d (omega (arith, h)) is

-- how the fields of an object of a class end
pub record Ends (class : ClassId) (c : Class) (all : List FieldIndex) : Type 0 where
  pub inherited : List FieldIndex
  pub whole : all ≡ inherited ++ instance_fields class 0 c.file.fields

ends : (classes : List Class) {class : ClassId} {all : List FieldIndex} → HasFields classes class all → (c : Class) → slice_get classes class.0 ≡ Some c → Ends class c all
ends classes (fields.HasFields.of_root class d at is) c here = record { inherited = []; whole = ap (λ (k : Class). instance_fields class 0 k.file.fields) (same_some (sym at ∙ here)) }
ends classes (fields.HasFields.of_subclass class s d inherited at is h) c here =
    record { inherited = inherited; whole = ap (λ (k : Class). inherited ++ instance_fields class 0 k.file.fields) (same_some (sym at ∙ here)) }

-- those from an index on are no more than all
pub few_last : (classes : List Class) (class : ClassId) (c : Class) (i count : ℕ) → slice_get classes class.0 ≡ Some c → CountsFields classes class count → count_by is_instance (drop i c.file.fields) ≤ count
few_last classes class c i count at h =
    let own = instance_fields class 0 c.file.fields in
    let end = ends classes h.has c at in
    let both = length-append end.inherited own in
    let whole = ap length end.whole in
    let more = added class 0 c.file.fields in
    let parts = parted c.file.fields i in
    let all = h.counted in
    omega (arith, both, whole, more, parts, all)

-- the slot of an instance field, counted from the end
pub slot_from_end : (classes : List Class) (class : ClassId) (c : Class) (i count : ℕ) (f : Field) (at : slice_get classes class.0 ≡ Some c) (h : CountsFields classes class count) → slice_get c.file.fields i ≡ Some f → is_instance f ≡ true → slice_get h.fields (count - count_by is_instance (drop i c.file.fields)) ≡ Some (record { class = class; index = i })
slot_from_end classes class c i count f at h there is =
    let fs = c.file.fields in
    let own = instance_fields class 0 fs in
    let e : FieldIndex = record { class = class; index = i } in
    let within = slice_get_within fs i f there in
    let instance : is_instance (get_or fs i f) ≡ true = subst (λ x. is_instance x ≡ true) (sym (get_or_from_slice_get fs i f f there)) is in
    let end = ends classes h.has c at in
    let both = length-append end.inherited own in
    let whole = ap length end.whole in
    let more = added class 0 fs in
    let parts = parted fs i in
    let first = first_counts fs i f within instance in
    let all = h.counted in
    let slot = count - count_by is_instance (drop i fs) in
    let here : slot ≡ length end.inherited + count_by is_instance (take i fs) = omega (arith, both, whole, more, parts, all) in
    let small : slot < length h.fields = omega (arith, both, whole, more, parts, all, first) in
    slice_get-get_or h.fields slot e small
    ∙ ap (λ x. Some x)
    (ap (λ xs. get_or xs slot e) end.whole
    ∙ (ap (λ n. get_or (end.inherited ++ own) n e) here
    ∙ (get_or-append-add end.inherited own (count_by is_instance (take i fs)) e
    ∙ (own_slot class 0 fs i f e within instance ∙ ap (λ n. record { class = class; index = n }) (zero_plus i)))))

false_true : false ≡ true → ⊥
false_true e = cc

some_is : {A : Type 0} (o : Option A) → IsSome o → (x : A) × (o ≡ Some x)
some_is None h = absurd (false_true h)
some_is (Some x) h = (x, refl)

-- a field that stands in the set, read from its class
pub record IsHeld (classes : List Class) (field : FieldIndex) (c : Class) : Type 0 where
  pub f : Field
  pub there : slice_get c.file.fields field.index ≡ Some f
  pub within : field.index < length c.file.fields
  pub is : field_at classes field ≡ Some f

pub held : (classes : List Class) (field : FieldIndex) (c : Class) → slice_get classes field.class.0 ≡ Some c → IsSome (field_at classes field) → IsHeld classes field c
held classes field c at h =
    let e : field_at classes field ≡ slice_get c.file.fields field.index = ap (option_and_then (λ (k : Class). slice_get k.file.fields field.index)) at in
    let s = some_is (field_at classes field) h in
    record { f = s.0; there = sym e ∙ s.1; within = slice_get_within c.file.fields field.index s.0 (sym e ∙ s.1); is = s.1 }

-- the count of a class, read from the table
pub count_at : (classes : List Class) (counts : List ℕ) (class : ClassId) (i x : ℕ) → AreFieldCounts classes counts → class.0 < length classes → i ≡ class.0 → x ≡ get_or counts i x → CountsFields classes class x
count_at classes counts class i x h within at is =
    let one_each = h.one_each in
    let e : x ≡ get_or counts class.0 0 = is ∙ (ap (λ n. get_or counts n x) at ∙ get_or_default_zero counts class.0 x (omega (arith, within, one_each))) in
    subst (CountsFields classes class) (sym e) (h.counted class within)

-- a slot that is counted from the end is the field's
pub slot_is : (classes : List Class) (field : FieldIndex) (c : Class) (count : ℕ) → slice_get classes field.class.0 ≡ Some c → CountsFields classes field.class count → IsHeld classes field c → (fs : List Field) → fs ≡ c.file.fields → (slot : Option FieldSlot) → IfNone slot ((f : Field) → slice_get fs field.index ≡ Some f → ¬ IsTrue (is_instance f)) → IfSome slot (λ _. (f : Field) → slice_get fs field.index ≡ Some f → IsTrue (is_instance f)) → IfSome slot (λ s. s.0 ≡ count - count_by is_instance (drop field.index fs)) → IsFieldSlot classes field slot
slot_is classes field c count at h here fs same None static instance is =
    fields.IsFieldSlot.of_static here.f here.is (static here.f (ap (λ xs. slice_get xs field.index) same ∙ here.there))
slot_is classes field c count at h here fs same (Some s) static instance is =
    let own = instance here.f (ap (λ xs. slice_get xs field.index) same ∙ here.there) in
    let n = count - count_by is_instance (drop field.index c.file.fields) in
    let e : s.0 ≡ n = is ∙ ap (λ xs. count - count_by is_instance (drop field.index xs)) same in
    subst (λ m. IsFieldSlot classes field (Some (record { 0 = m }))) (sym e)
    (fields.IsFieldSlot.of_instance here.f h.fields n here.is own h.has (slot_from_end classes field.class c field.index count here.f at h here.there own))
