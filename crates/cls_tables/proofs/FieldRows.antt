-- The slots of fields, one field after the other.
use Rattle.std.proofs.Common.{◌≡◌, ◌⊎◌, ℕ, zero, suc, ◌+◌, ◌-◌, ◌<◌, ◌≤◌, inl, inr, Bool, true, false, Option, Some, None, List, [], ◌∷◌, ◌++◌, length, get_or, drop, refl, sym, subst, ap, ◌∙◌, arith, append_assoc}
use Rattle.std.specs.Prelude.{if◌then◌else◌, count_by, cond, IfNone, IfSome, IsSome, IsTrue, slice_get}
use Rattle.std.specs.Prelude.{option_and_then}
use Rattle.std.proofs.lemmas.List.{drop_more}
use Rattle.std.proofs.lemmas.List.Sums.{sum_by-cons}
use Rattle.std.proofs.lemmas.Option.{slice_get_cases}
use Rattle.cf_reader.specs.declared.class_file.Field.{Field}
use Rattle.cls_set.proofs.Hierarchy.{same_read}
use Rattle.cls_set.specs.declared.class.Class.{Class}
use Rattle.space_ids.specs.declared.ids.ClassId.{ClassId}
use Rattle.cls_link.proofs.FieldCounts.{few_last, held, slot_is}
use Rattle.cls_link.specs.declared.linked_code.FieldSlot.{FieldSlot}
use Rattle.cls_link.specs.Fields.{is_instance, CountsFields, IsFieldSlot}
use Rattle.cls_resolve.specs.Meanings.{field_of}
use Rattle.cls_resolve.specs.declared.named.MemberIndex.{MemberIndex}
use Rattle.cls_search.specs.FieldSearches.{field_at}
use Rattle.cls_tables.specs.Slots.{slots_from, HasSlots, HaveSlots}

pub cases : (b : Bool) → (b ≡ true) ⊎ (b ≡ false)
cases true = inl refl
cases false = inr refl

one_more : (n : ℕ) → suc n ≡ n + 1
one_more n = omega arith

abbrev one : Field → ℕ
one f = cond (is_instance f) 1 0

counted : (f : Field) (fs : List Field) → count_by is_instance (f ∷ fs) ≡ one f + count_by is_instance fs
counted f fs = sum_by-cons (λ (x : Field). cond (is_instance x) 1 0) f fs

pub counted_yes : (f : Field) (fs : List Field) → is_instance f ≡ true → count_by is_instance (f ∷ fs) ≡ suc (count_by is_instance fs)
counted_yes f fs is = let all = counted f fs in let n : one f ≡ 1 = ap (λ b. cond b 1 0) is in omega (arith, all, n)

pub counted_no : (f : Field) (fs : List Field) → is_instance f ≡ false → count_by is_instance (f ∷ fs) ≡ count_by is_instance fs
counted_no f fs is = let all = counted f fs in let n : one f ≡ 0 = ap (λ b. cond b 1 0) is in omega (arith, all, n)

slots_yes : (slot : ℕ) (f : Field) (fs : List Field) → is_instance f ≡ true → slots_from slot (f ∷ fs) ≡ Some (record { 0 = slot }) ∷ slots_from (suc slot) fs
slots_yes slot f fs is = ap (λ b. if b then Some (record { 0 = slot }) ∷ slots_from (suc slot) fs else None ∷ slots_from slot fs) is

slots_no : (slot : ℕ) (f : Field) (fs : List Field) → is_instance f ≡ false → slots_from slot (f ∷ fs) ≡ None ∷ slots_from slot fs
slots_no slot f fs is = ap (λ b. if b then Some (record { 0 = slot }) ∷ slots_from (suc slot) fs else None ∷ slots_from slot fs) is

-- the slots so far, with those that come, are all; and the number of fields that come is known
pub record AreSo (first : ℕ) (fs : List Field) (i slot : ℕ) (done : List (Option FieldSlot)) : Type 0 where
  pub slots : done ++ slots_from slot (drop i fs) ≡ slots_from first fs
  pub count : slot + count_by is_instance (drop i fs) ≡ first + count_by is_instance fs

pub slots_begin : (first : ℕ) (fs : List Field) → AreSo first fs 0 first []
slots_begin first fs = record { slots = refl; count = refl }

module _ (first : ℕ) (fs : List Field) (i slot : ℕ) (done : List (Option FieldSlot)) (so : AreSo first fs i slot done) (f : Field) (inside : i < length fs) (is : f ≡ get_or fs i f) where
  rest : drop i fs ≡ f ∷ drop (i + 1) fs
  rest = drop_more fs i f inside ∙ ap (λ g. g ∷ drop (i + 1) fs) (sym is)

  pub slot_next : (new : List (Option FieldSlot)) → is_instance f ≡ true → new ≡ done ++ Some (record { 0 = slot }) ∷ [] → AreSo first fs (i + 1) (slot + 1) new
  slot_next new of_instance pushed =
      let last = drop (i + 1) fs in
      let step = ap (count_by is_instance) rest in
      let one = counted_yes f last of_instance in
      let count = so.count in
      record {
        slots = ap (λ xs. xs ++ slots_from (slot + 1) last) pushed
            ∙ (append_assoc done (Some (record { 0 = slot }) ∷ []) (slots_from (slot + 1) last)
            ∙ (ap (λ n. done ++ Some (record { 0 = slot }) ∷ slots_from n last) (sym (one_more slot))
            ∙ (ap (λ xs. done ++ xs) (sym (slots_yes slot f last of_instance) ∙ ap (slots_from slot) (sym rest)) ∙ so.slots)));
        count = omega (arith, step, one, count);
      }

  pub slot_none : (new : List (Option FieldSlot)) → is_instance f ≡ false → new ≡ done ++ None ∷ [] → AreSo first fs (i + 1) slot new
  slot_none new of_static pushed =
      let last = drop (i + 1) fs in
      let step = ap (count_by is_instance) rest in
      let none = counted_no f last of_static in
      let count = so.count in
      record {
        slots = ap (λ xs. xs ++ slots_from slot last) pushed
            ∙ (append_assoc done (None ∷ []) (slots_from slot last) ∙ (ap (λ xs. done ++ xs) (sym (slots_no slot f last of_static) ∙ ap (slots_from slot) (sym rest)) ∙ so.slots));
        count = omega (arith, step, none, count);
      }

  -- there is a field more
  pub slot_less : is_instance f ≡ true → slot < first + count_by is_instance fs
  slot_less of_instance =
      let step = ap (count_by is_instance) rest in
      let one = counted_yes f (drop (i + 1) fs) of_instance in
      let count = so.count in
      omega (arith, step, one, count)

long : (slot : ℕ) (fs : List Field) → length (slots_from slot fs) ≡ length fs
long slot [] = refl
long slot (f ∷ fs) =
    elim (cases (is_instance f)) [
      | inl is ↦ ap length (slots_yes slot f fs is) ∙ ap suc (long (suc slot) fs)
      | inr is ↦ ap length (slots_no slot f fs is) ∙ ap suc (long slot fs)
    ]

-- the slot of a field among those of its class, counted from the end
abbrev IsSlotOf : List Field → ℕ → ℕ → Option FieldSlot → Type 0
IsSlotOf fs i count slot =
    IfNone slot ((f : Field) → slice_get fs i ≡ Some f → ¬ IsTrue (is_instance f))
    × IfSome slot (λ _. (f : Field) → slice_get fs i ≡ Some f → IsTrue (is_instance f))
    × IfSome slot (λ s. s.0 ≡ count - count_by is_instance (drop i fs))

some_same : {X : Type 0} {x y : X} → Some x ≡ Some y → x ≡ y
some_same e = cc

not_both : (b : Bool) → b ≡ false → b ≡ true → ⊥
not_both b e f = let h : false ≡ true = sym e ∙ f in cc

moved : (fs : List Field) (f : Field) (i count : ℕ) (slot : Option FieldSlot) → IsSlotOf fs i count slot → IsSlotOf (f ∷ fs) (suc i) count slot
moved fs f i count None h = h
moved fs f i count (Some s) h = h

slot_among : (slot : ℕ) (fs : List Field) (count i : ℕ) → slot + count_by is_instance fs ≡ count → i < length fs → IsSlotOf fs i count (get_or (slots_from slot fs) i None)
slot_among slot [] count i all inside = absurd (omega (arith, inside))
slot_among slot (f ∷ fs) count zero all inside =
    elim (cases (is_instance f)) [
      | inl is ↦
          let one = counted_yes f fs is in
          let here : slot ≡ count - count_by is_instance (f ∷ fs) = omega (arith, one, all) in
          subst (λ xs. IsSlotOf (f ∷ fs) zero count (get_or xs zero None)) (sym (slots_yes slot f fs is)) (tt, (λ g e. subst (λ h. is_instance h ≡ true) (some_same e) is), here)
      | inr is ↦
          subst (λ xs. IsSlotOf (f ∷ fs) zero count (get_or xs zero None)) (sym (slots_no slot f fs is))
          ((λ g e t. not_both (is_instance g) (subst (λ h. is_instance h ≡ false) (some_same e) is) t), tt, tt)
    ]
slot_among slot (f ∷ fs) count (suc i) all inside =
    elim (cases (is_instance f)) [
      | inl is ↦
          let one = counted_yes f fs is in
          subst (λ xs. IsSlotOf (f ∷ fs) (suc i) count (get_or xs (suc i) None)) (sym (slots_yes slot f fs is))
          (moved fs f i count (get_or (slots_from (suc slot) fs) i None) (slot_among (suc slot) fs count i (omega (arith, one, all)) (omega (arith, inside))))
      | inr is ↦
          let none = counted_no f fs is in
          subst (λ xs. IsSlotOf (f ∷ fs) (suc i) count (get_or xs (suc i) None)) (sym (slots_no slot f fs is))
          (moved fs f i count (get_or (slots_from slot fs) i None) (slot_among slot fs count i (omega (arith, none, all)) (omega (arith, inside))))
    ]

-- the inherited fields of a class come before its own
pub few_own : (classes : List Class) (class : ClassId) (c : Class) (fs : List Field) (own count : ℕ) → slice_get classes class.0 ≡ Some c → fs ≡ c.file.fields
    → own ≡ count_by is_instance fs → CountsFields classes class count → own ≤ count
few_own classes class c fs own count at same is h =
    let few = few_last classes class c 0 count at h in
    let e : own ≡ count_by is_instance c.file.fields = is ∙ ap (count_by is_instance) same in
    omega (arith, few, e)

pub slots_known : (classes : List Class) (class : ClassId) (c : Class) (fs : List Field) (own count : ℕ) (slots : List (Option FieldSlot))
    → slice_get classes class.0 ≡ Some c → fs ≡ c.file.fields → own ≡ count_by is_instance fs → CountsFields classes class count
    → slots ≡ slots_from (count - own) fs → HasSlots classes class slots
slots_known classes class c fs own count slots at same is h e =
    let few = few_own classes class c fs own count at same is h in
    let n : own ≡ count_by is_instance c.file.fields = is ∙ ap (count_by is_instance) same in
    let all : count ≡ (count - own) + count_by is_instance c.file.fields = omega (arith, few, n) in
    record { c = c; at = at; first = count - own; counted = subst (CountsFields classes class) all h; is = e ∙ ap (slots_from (count - own)) same }

-- what the tables have of a field is its slot
pub record IsKept (classes : List Class) (member : MemberIndex) (slots : List (Option FieldSlot)) : Type 0 where
  pub within : member.index < length slots
  pub slot : IsFieldSlot classes (field_of member) (get_or slots member.index None)

pub kept : (classes : List Class) (member : MemberIndex) (slots : List (Option FieldSlot)) → HasSlots classes member.class slots → IsSome (field_at classes (field_of member)) → IsKept classes member slots
kept classes member slots has is =
    let fs = has.c.file.fields in
    let count = has.first + count_by is_instance fs in
    let here = held classes (field_of member) has.c has.at is in
    let inside = here.within in
    let all = long has.first fs in
    let found = slot_among has.first fs count member.index refl inside in
    record {
      within = subst (λ xs. member.index < length xs) (sym has.is) (omega (arith, inside, all));
      slot = subst (λ xs. IsFieldSlot classes (field_of member) (get_or xs member.index None)) (sym has.is)
          (slot_is classes (field_of member) has.c count has.at has.counted here fs refl (get_or (slots_from has.first fs) member.index None) found.0 found.1 found.2);
    }

no_field : (o : Option Field) → o ≡ None → IsSome o → ⊥
no_field o e h = let n : false ≡ true = subst IsSome e h in cc

-- what is read from the tables
pub read : (classes : List Class) (rows : List (List (Option FieldSlot))) (member : MemberIndex) (i : ℕ) (row : List (Option FieldSlot)) → HaveSlots classes rows
    → IsSome (field_at classes (field_of member)) → i ≡ member.class.0 → row ≡ get_or rows i row → IsKept classes member row
read classes rows member i row have is same at =
    let one_each = have.one_each in
    elim (slice_get_cases classes member.class.0).1 [
      | inl r ↦
          let inside = r.1 in
          let e : row ≡ get_or rows member.class.0 [] = at ∙ (ap (λ n. get_or rows n row) same ∙ same_read rows member.class.0 row [] (omega (arith, inside, one_each))) in
          kept classes member row (subst (HasSlots classes member.class) (sym e) (have.slots member.class inside)) is
      | inr r ↦ absurd (no_field (field_at classes (field_of member)) (ap (option_and_then (λ (c : Class). slice_get c.file.fields member.index)) r.1) is)
    ]
