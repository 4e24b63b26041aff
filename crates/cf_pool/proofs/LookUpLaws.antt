-- Look-ups find exactly what indices name.
use Rattle.std.proofs.Common.{◌≡◌, ℕ, ℤ, List, Option, Some, None, refl, sym, ap, ◌∙◌, subst}
use Rattle.std.specs.Prelude.{slice_get}
use Rattle.cf_pool.specs.declared.pool.MemberKind.{MemberKind}
use Rattle.cf_pool.specs.declared.pool.Entry.{Entry}
use Rattle.cf_pool.specs.declared.pool.Entry.TheVariants.{Utf8, Integer, Class, Member, NameAndType, Other, Unusable}
use Rattle.std.specs.Option.{option_and_then}
use Rattle.cf_pool.specs.Pools.{NamedMember, NamedType, as_class, as_integer, as_member, as_name_and_type, as_utf8, class_at, integer_at, member_at, name_and_type_at, utf8_at}
use Rattle.cf_text.specs.Looks.{Exactly}
use Rattle.cf_pool.specs.LookUps.{NamesClass, NamesInteger, NamesMember, NamesNameAndType, NamesText}

abbrev found : {A : Type 0} → A → Option A
found x = Some x

same_found : {A : Type 0} (x y : A) → found x ≡ found y → x ≡ y
same_found x y e = cc

-- what an entry says as one of a kind is what stands at the index
module _ {A : Type 0} (saying : Entry → Option A) (entry_of : A → Entry) (says : (x : A) → saying (entry_of x) ≡ Some x) (says_only : (e : Entry) (x : A) → saying e ≡ Some x → e ≡ entry_of x) where
  looked_up : (o : Option Entry) → Exactly (option_and_then saying o) (λ x. o ≡ Some (entry_of x))
  looked_up None = λ y h. absurd cc
  looked_up (Some e) = by (saying e) refl
    where
      by : (said : Option A) → saying e ≡ said → Exactly said (λ x. found e ≡ Some (entry_of x))
      by (Some x) is = (ap Some (says_only e x is), λ y h. same_found y x (sym (says y) ∙ ap saying (sym (same_found e (entry_of y) h)) ∙ is))
      by None is = λ y h. none y (sym is ∙ ap saying (same_found e (entry_of y) h) ∙ says y)
        where
          none : (y : A) → None ≡ found y → ⊥
          none y h = cc

utf8_only : (e : Entry) (text : List ℕ) → as_utf8 e ≡ Some text → e ≡ Utf8 text
utf8_only (Utf8 t) text h = ap Utf8 (same_found t text h)
utf8_only (Integer n) text h = absurd cc
utf8_only (Class name) text h = absurd cc
utf8_only (Member kind class named) text h = absurd cc
utf8_only (NameAndType name descriptor) text h = absurd cc
utf8_only Other text h = absurd cc
utf8_only Unusable text h = absurd cc

pub texts_exactly : (pool : List Entry) (index : ℕ) → Exactly (utf8_at pool index) (NamesText pool index)
unfolding utf8_at
texts_exactly pool index = looked_up as_utf8 Utf8 (λ text. refl) utf8_only (slice_get pool index)

integer_only : (e : Entry) (value : ℤ) → as_integer e ≡ Some value → e ≡ Integer value
integer_only (Integer n) value h = ap Integer (same_found n value h)
integer_only (Utf8 t) value h = absurd cc
integer_only (Class name) value h = absurd cc
integer_only (Member kind class named) value h = absurd cc
integer_only (NameAndType name descriptor) value h = absurd cc
integer_only Other value h = absurd cc
integer_only Unusable value h = absurd cc

pub integers_exactly : (pool : List Entry) (index : ℕ) → Exactly (integer_at pool index) (NamesInteger pool index)
unfolding integer_at
integers_exactly pool index = looked_up as_integer Integer (λ value. refl) integer_only (slice_get pool index)

class_only : (e : Entry) (name : ℕ) → as_class e ≡ Some name → e ≡ Class name
class_only (Class n) name h = ap Class (same_found n name h)
class_only (Utf8 t) name h = absurd cc
class_only (Integer n) name h = absurd cc
class_only (Member kind class named) name h = absurd cc
class_only (NameAndType n descriptor) name h = absurd cc
class_only Other name h = absurd cc
class_only Unusable name h = absurd cc

-- from what an index names to what that names
chained : {A B : Type 0} (one : Option A) (Is : A → Type 0) (next : A → Option B) (IsNext : A → B → Type 0) → Exactly one Is → ((x : A) → Exactly (next x) (IsNext x))
    → Exactly (option_and_then next one) (λ y. (x : A) × Is x × IsNext x y)
chained {A} {B} None Is next IsNext first second = λ y h. first h.0 h.1
chained {A} {B} (Some x) Is next IsNext first second = by (next x) (second x)
  where
    by : (o : Option B) → Exactly o (IsNext x) → Exactly o (λ y. (x : A) × Is x × IsNext x y)
    by (Some y) is = ((x, first.0, is.0), λ z h. is.1 z (subst (λ (a : A). IsNext a z) (first.1 h.0 h.1) h.2))
    by None is = λ z h. is z (subst (λ (a : A). IsNext a z) (first.1 h.0 h.1) h.2)

pub classes_exactly : (pool : List Entry) (index : ℕ) → Exactly (class_at pool index) (NamesClass pool index)
unfolding class_at
classes_exactly pool index =
    chained (option_and_then as_class (slice_get pool index)) (λ name. slice_get pool index ≡ Some (Class name)) (utf8_at pool) (λ name text. NamesText pool name text)
    (looked_up as_class Class (λ name. refl) class_only (slice_get pool index)) (texts_exactly pool)

along : {A : Type 0} (o : Option A) (P Q : A → Type 0) → ((x : A) → P x → Q x) → ((x : A) → Q x → P x) → Exactly o P → Exactly o Q
along (Some x) P Q to from is = (to x is.0, λ y h. is.1 y (from y h))
along None P Q to from is = λ y h. is y (from y h)

one_exactly : {A : Type 0} (a : A) → Exactly (found a) (λ y. y ≡ a)
one_exactly a = (refl, λ y h. h)

name_and_type_only : (e : Entry) (x : ℕ × ℕ) → as_name_and_type e ≡ Some x → e ≡ NameAndType x.0 x.1
name_and_type_only (NameAndType n d) x h = ap (λ (y : ℕ × ℕ). NameAndType y.0 y.1) (same_found (n, d) x h)
name_and_type_only (Utf8 t) x h = absurd cc
name_and_type_only (Integer n) x h = absurd cc
name_and_type_only (Class n) x h = absurd cc
name_and_type_only (Member kind class named) x h = absurd cc
name_and_type_only Other x h = absurd cc
name_and_type_only Unusable x h = absurd cc

-- two texts that indices name
module _ (pool : List Entry) where
  IsPair : ℕ × ℕ → NamedType → Type 0
  IsPair x y = (name : List ℕ) × NamesText pool x.0 name × ((descriptor : List ℕ) × NamesText pool x.1 descriptor × (y ≡ record { name = name; descriptor = descriptor }))

  pair_exactly : (x : ℕ × ℕ)
      → Exactly (option_and_then (λ name. option_and_then (λ descriptor. found (record { name = name; descriptor = descriptor })) (utf8_at pool x.1)) (utf8_at pool x.0)) (IsPair x)
  unfolding IsPair
  pair_exactly x =
      chained (utf8_at pool x.0) (NamesText pool x.0) (λ name. option_and_then (λ descriptor. found (record { name = name; descriptor = descriptor })) (utf8_at pool x.1))
      (λ name y. (descriptor : List ℕ) × NamesText pool x.1 descriptor × (y ≡ record { name = name; descriptor = descriptor })) (texts_exactly pool x.0)
      (λ name. chained (utf8_at pool x.1) (NamesText pool x.1) (λ descriptor. found (record { name = name; descriptor = descriptor }))
      (λ descriptor y. y ≡ record { name = name; descriptor = descriptor }) (texts_exactly pool x.1) (λ descriptor. one_exactly (record { name = name; descriptor = descriptor })))

  to_named : (index : ℕ) (y : NamedType) → ((x : ℕ × ℕ) × (slice_get pool index ≡ Some (NameAndType x.0 x.1)) × IsPair x y) → NamesNameAndType pool index y
  unfolding IsPair
  to_named index y h =
      let same : y ≡ record { name = h.2.0; descriptor = h.2.2.0 } = h.2.2.2 in
      subst (NamesNameAndType pool index) (sym same) (h.0.0, h.0.1, h.1, h.2.1, h.2.2.1)

  from_named : (index : ℕ) (y : NamedType) → NamesNameAndType pool index y → ((x : ℕ × ℕ) × (slice_get pool index ≡ Some (NameAndType x.0 x.1)) × IsPair x y)
  unfolding IsPair
  from_named index y h = ((h.0, h.1), h.2, (y.name, h.3, (y.descriptor, h.4, refl)))

  pub names_and_types_exactly : (index : ℕ) → Exactly (name_and_type_at pool index) (NamesNameAndType pool index)
  unfolding name_and_type_at
  names_and_types_exactly index =
      along (name_and_type_at pool index) (λ y. (x : ℕ × ℕ) × (slice_get pool index ≡ Some (NameAndType x.0 x.1)) × IsPair x y) (NamesNameAndType pool index) (to_named index) (from_named index)
      (chained (option_and_then as_name_and_type (slice_get pool index)) (λ x. slice_get pool index ≡ Some (NameAndType x.0 x.1)) _ IsPair
      (looked_up as_name_and_type (λ x. NameAndType x.0 x.1) (λ x. refl) name_and_type_only (slice_get pool index)) pair_exactly)

member_only : (e : Entry) (x : MemberKind × ℕ × ℕ) → as_member e ≡ Some x → e ≡ Member x.0 x.1 x.2
member_only (Member kind class named) x h = ap (λ (y : MemberKind × ℕ × ℕ). Member y.0 y.1 y.2) (same_found (kind, class, named) x h)
member_only (NameAndType n d) x h = absurd cc
member_only (Utf8 t) x h = absurd cc
member_only (Integer n) x h = absurd cc
member_only (Class n) x h = absurd cc
member_only Other x h = absurd cc
member_only Unusable x h = absurd cc

-- what a member entry's kind and indices name
module _ (pool : List Entry) where
  IsRef : MemberKind × ℕ × ℕ → NamedMember → Type 0
  IsRef x y =
      (class : List ℕ) × NamesClass pool x.1 class
      × ((named : NamedType) × NamesNameAndType pool x.2 named × (y ≡ record { kind = x.0; class = class; name = named.name; descriptor = named.descriptor }))

  ref_exactly : (x : MemberKind × ℕ × ℕ)
      → Exactly (option_and_then (λ class. option_and_then (λ named. found (record { kind = x.0; class = class; name = named.name; descriptor = named.descriptor })) (name_and_type_at pool x.2)) (class_at pool x.1)) (IsRef x)
  unfolding IsRef
  ref_exactly x =
      chained (class_at pool x.1) (NamesClass pool x.1) (λ class. option_and_then (λ named. found (record { kind = x.0; class = class; name = named.name; descriptor = named.descriptor })) (name_and_type_at pool x.2))
      (λ class y. (named : NamedType) × NamesNameAndType pool x.2 named × (y ≡ record { kind = x.0; class = class; name = named.name; descriptor = named.descriptor })) (classes_exactly pool x.1)
      (λ class. chained (name_and_type_at pool x.2) (NamesNameAndType pool x.2) (λ named. found (record { kind = x.0; class = class; name = named.name; descriptor = named.descriptor }))
      (λ named y. y ≡ record { kind = x.0; class = class; name = named.name; descriptor = named.descriptor }) (names_and_types_exactly pool x.2)
      (λ named. one_exactly (record { kind = x.0; class = class; name = named.name; descriptor = named.descriptor })))

  to_member : (index : ℕ) (y : NamedMember) → ((x : MemberKind × ℕ × ℕ) × (slice_get pool index ≡ Some (Member x.0 x.1 x.2)) × IsRef x y) → NamesMember pool index y
  unfolding IsRef
  to_member index y h =
      let same : y ≡ record { kind = h.0.0; class = h.2.0; name = h.2.2.0.name; descriptor = h.2.2.0.descriptor } = h.2.2.2 in
      subst (NamesMember pool index) (sym same) (h.0.1, h.0.2, h.1, h.2.1, h.2.2.1)

  from_member : (index : ℕ) (y : NamedMember) → NamesMember pool index y → ((x : MemberKind × ℕ × ℕ) × (slice_get pool index ≡ Some (Member x.0 x.1 x.2)) × IsRef x y)
  unfolding IsRef
  from_member index y h = ((y.kind, h.0, h.1), h.2, (y.class, h.3, (record { name = y.name; descriptor = y.descriptor }, h.4, refl)))

  pub members_exactly : (index : ℕ) → Exactly (member_at pool index) (NamesMember pool index)
  unfolding member_at
  members_exactly index =
      along (member_at pool index) (λ y. (x : MemberKind × ℕ × ℕ) × (slice_get pool index ≡ Some (Member x.0 x.1 x.2)) × IsRef x y) (NamesMember pool index) (to_member index) (from_member index)
      (chained (option_and_then as_member (slice_get pool index)) (λ x. slice_get pool index ≡ Some (Member x.0 x.1 x.2)) _ IsRef
      (looked_up as_member (λ x. Member x.0 x.1 x.2) (λ x. refl) member_only (slice_get pool index)) ref_exactly)
