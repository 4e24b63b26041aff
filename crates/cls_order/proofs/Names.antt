use Rattle.std.proofs.Common.{◌≡◌, ℕ, zero, suc, ◌+◌, ◌<◌, ◌≤◌, ◌⊎◌, inl, inr, true, false, Some, None, List, [], ◌∷◌, length, get_or, refl, sym, subst, ap, ◌∙◌, arith, add-zero, zero-add}
use Rattle.std.specs.Prelude.{All, bytes_eq, nat_lt, cond, slice_get}
use Rattle.std.specs.List.{HoldsAt}
use Rattle.std.specs.List.Sorted.{IsStrictlySortedBy, IsNonDecreasingBy, IsPartitionPoint}
use Rattle.std.specs.Ordering.{is_lt, is_eq, ordering_index, ordering_reverse}
use Rattle.std.specs.declared.cmp.Ordering.{Ordering}
use Rattle.std.specs.declared.cmp.Ordering.TheVariants.{Less, Equal, Greater}
use Rattle.std.proofs.lemmas.Bool.Decides.{nat_tests}
use Rattle.std.proofs.lemmas.Option.{slice_get_cases}
use Rattle.std.proofs.lemmas.Cmp.{nat_list_cmp_total}
use Rattle.std.proofs.lemmas.List.{get_or-map, length-map}
use Rattle.std.proofs.lemmas.Slice.Eq.{bytes_eq-Decides}
use Rattle.std.proofs.lemmas.List.Elements.{All-get_or, All-head, All-map, All-tail}
use Rattle.std.proofs.lemmas.List.Sorted.{searchable_from_sorted}
use Rattle.std.proofs.lemmas.Map.Keys.{sorted_tail}
use Rattle.std.proofs.lemmas.Map.Text.{is_eq-slice_cmp}
use Rattle.std.proofs.lemmas.Map.Views.{All-after_first}
use Rattle.cls_order.specs.declared.class.Class.{Class}
use Rattle.cls_order.proofs.Hierarchy.{same_some, none_some}
use Rattle.space_ids.specs.declared.ids.ClassId.{ClassId}
use Rattle.cls_order.specs.declared.entries.Entry.{Entry}
use Rattle.cls_order.specs.Classes.{name_cmp, names, number_from, number_of}
use Rattle.cls_order.specs.Entries.{classes_of}

-- the name of an entry
abbrev pub name_of : Entry → List ℕ
name_of m = m.class.file.name

-- the order of an entry's name to another
abbrev pub order_to : List ℕ → Entry → Ordering
order_to name m = name_cmp (name_of m) name

-- in a strictly sorted list each is below every later one
pub sorted_far : {K : Type 0} (c : K → K → Ordering) (ks : List K) (i j : ℕ) (d : K) → IsStrictlySortedBy c ks → i < j → j < length ks → c (get_or ks i d) (get_or ks j d) ≡ Less
sorted_far c [] i j d s l h = absurd (omega arith)
sorted_far c (k ∷ ks) zero zero d s l h = absurd (omega arith)
sorted_far c (k ∷ ks) (suc i) zero d s l h = absurd (omega arith)
sorted_far c (k ∷ ks) zero (suc j) d s l h = All-get_or (λ q. c k q ≡ Less) ks j d (omega arith) (All-after_first c k ks s)
sorted_far c (k ∷ ks) (suc i) (suc j) d s l h = sorted_far c ks i j d (sorted_tail c k ks s) (omega arith) (omega arith)

pub length_names : (entries : List Entry) → length (names (classes_of entries)) ≡ length entries
length_names entries = length-map (classes_of entries) (λ c. c.file.name) ∙ length-map entries (λ m. m.class)

pub name_read : (entries : List Entry) (k : ℕ) (d : Entry) (e : List ℕ) → k < length entries → get_or (names (classes_of entries)) k e ≡ name_of (get_or entries k d)
name_read entries k d e h =
    get_or-map (λ (c : Class). c.file.name) (classes_of entries) k d.class e (subst (λ n. k < n) (sym (length-map entries (λ m. m.class))) h)
    ∙ ap (λ (c : Class). c.file.name) (get_or-map (λ (m : Entry). m.class) entries k d d.class h)

-- the order of the names of two entries, by index
far_names : (entries : List Entry) (i j : ℕ) (d : Entry) → IsStrictlySortedBy name_cmp (names (classes_of entries)) → i < j → j < length entries → name_cmp (name_of (get_or entries i d)) (name_of (get_or entries j d)) ≡ Less
far_names entries i j d s l h =
    let far = sorted_far name_cmp (names (classes_of entries)) i j [] s l (subst (λ n. j < n) (sym (length_names entries)) h) in
    let first : i < length entries = omega arith in
    subst (λ x. name_cmp x (name_of (get_or entries j d)) ≡ Less) (name_read entries i d [] first) (subst (λ y. name_cmp (get_or (names (classes_of entries)) i []) y ≡ Less) (name_read entries j d [] h) far)

not_less_back : (x y : List ℕ) → name_cmp x y ≡ Less → is_lt (name_cmp y x) ≡ false
not_less_back x y e = ap is_lt (nat_list_cmp_total.antisymm y x ∙ ap ordering_reverse e)

-- so a search by name finds its way
pub searchable : (entries : List Entry) (name : List ℕ) → IsStrictlySortedBy name_cmp (names (classes_of entries)) → IsNonDecreasingBy (λ m. ordering_index (order_to name m)) entries
searchable entries name s =
    searchable_from_sorted nat_list_cmp_total name_of entries name
    (λ k d low high. not_less_back (name_of (get_or entries k d)) (name_of (get_or entries (k + 1) d)) (far_names entries k (k + 1) d s (omega arith) high))

pub same_test : (x y : List ℕ) (r : Ordering) → name_cmp x y ≡ r → bytes_eq x y ≡ is_eq r
same_test x y r e = sym (is_eq-slice_cmp x y) ∙ ap is_eq e

before : (k i : ℕ) → (k < i) ⊎ (i ≤ k)
before k i = elim (nat_lt k i) as (λ b. nat_lt k i ≡ b → (k < i) ⊎ (i ≤ k)) [ true ↦ λ e. inl (grind (arith, nat_tests)) | false ↦ λ e. inr (grind (arith, nat_tests)) ] refl

suc_moves : (k i : ℕ) → suc k + i ≡ k + suc i
suc_moves k i = omega arith

-- the first of the classes that has the name is the only one
number_found : (k : ℕ) (classes : List Class) (name : List ℕ) (i : ℕ) → IsStrictlySortedBy name_cmp (names classes) → i < length classes → bytes_eq (get_or (names classes) i []) name ≡ true → number_from k classes name ≡ Some (record { 0 = k + i })
number_found k [] name i s h e = absurd (omega arith)
number_found k (c ∷ cs) name zero s h e = rw e (ap (λ n. Some (record { 0 = n })) (sym (add-zero k)))
number_found k (c ∷ cs) name (suc i) s h e =
    let below = All-get_or (λ n. name_cmp c.file.name n ≡ Less) (names cs) i [] (subst (λ n. i < n) (sym (length-map cs (λ c. c.file.name))) (omega arith)) (All-after_first name_cmp c.file.name (names cs) s) in
    let is : get_or (names cs) i [] ≡ name = (bytes_eq-Decides (get_or (names cs) i []) name).0 e in
    let other = same_test c.file.name name Less (subst (λ n. name_cmp c.file.name n ≡ Less) is below) in
    rw other (number_found (suc k) cs name i (sorted_tail name_cmp c.file.name (names cs) s) (omega arith) e ∙ ap (λ n. Some (record { 0 = n })) (suc_moves k i))

number_absent : (k : ℕ) (classes : List Class) (name : List ℕ) → All (λ n. bytes_eq n name ≡ false) (names classes) → number_from k classes name ≡ None
number_absent k [] name none = refl
number_absent k (c ∷ cs) name none =
    let first = All-head (λ n. bytes_eq n name ≡ false) c.file.name (names cs) none in
    rw first (number_absent (suc k) cs name (All-tail (λ n. bytes_eq n name ≡ false) c.file.name (names cs) none))

other_at : (entries : List Entry) (name : List ℕ) (i : ℕ) → IsPartitionPoint (λ m. order_to name m ≡ Less) (λ m. order_to name m ≡ Greater) entries i → All (λ m. bytes_eq (name_of m) name ≡ false) entries
other_at entries name i parts k d h =
    elim (before k i) [
      | inl low ↦ same_test (name_of (get_or entries k d)) name Less (parts.0 k d (omega arith) low)
      | inr high ↦ same_test (name_of (get_or entries k d)) name Greater (parts.1 k d high h)
    ]

-- what a binary search by name found
pub find_found : (entries : List Entry) (name : List ℕ) (i : ℕ) → IsStrictlySortedBy name_cmp (names (classes_of entries)) → i < length entries → HoldsAt (λ m. order_to name m ≡ Equal) entries i → number_of (classes_of entries) name ≡ Some (record { 0 = i })
find_found entries name i s h at =
    elim (slice_get_cases entries i).1 [
      | inl r ↦
          let is = same_test (name_of (get_or entries i r.0)) name Equal (at r.0) in
          number_found 0 (classes_of entries) name i s (subst (λ n. i < n) (sym (length-map entries (λ m. m.class))) h) (subst (λ n. bytes_eq n name ≡ true) (sym (name_read entries i r.0 [] h)) is)
          ∙ ap (λ n. Some (record { 0 = n })) (zero-add i)
      | inr r ↦ absurd (omega arith)
    ]

pub find_absent : (entries : List Entry) (name : List ℕ) (i : ℕ) → IsPartitionPoint (λ m. order_to name m ≡ Less) (λ m. order_to name m ≡ Greater) entries i → number_of (classes_of entries) name ≡ None
find_absent entries name i parts =
    number_absent 0 (classes_of entries) name
    (All-map (λ n. bytes_eq n name ≡ false) (λ (c : Class). c.file.name) (classes_of entries)
    (All-map (λ (c : Class). bytes_eq c.file.name name ≡ false) (λ (m : Entry). m.class) entries (other_at entries name i parts)))

some_id : (k : ℕ) (id : ClassId) → Some (record { 0 = k }) ≡ Some id → id.0 ≡ k
some_id k id e = ap (λ (i : ClassId). i.0) (sym (same_some e))

name_from : (k : ℕ) (classes : List Class) (name : List ℕ) (id : ClassId) → number_from k classes name ≡ Some id → (i : ℕ) × (id.0 ≡ k + i) × (slice_get (names classes) i ≡ Some name)
name_from k [] name id e = absurd (none_some e)
name_from k (c ∷ cs) name id e =
    elim (bytes_eq c.file.name name) as (λ b. bytes_eq c.file.name name ≡ b → cond b (Some (record { 0 = k })) (number_from (suc k) cs name) ≡ Some id → (i : ℕ) × (id.0 ≡ k + i) × (slice_get (c.file.name ∷ names cs) i ≡ Some name)) [
      | true ↦ λ same f. (0, some_id k id f ∙ sym (add-zero k), ap (λ n. Some n) ((bytes_eq-Decides c.file.name name).0 same))
      | false ↦ λ _ f. let rest = name_from (suc k) cs name id f in (suc rest.0, rest.1 ∙ suc_moves k rest.0, rest.2)
    ] refl e

-- the class that a name leads to has that name
pub name_at_number : (classes : List Class) (name : List ℕ) (id : ClassId) → number_of classes name ≡ Some id → slice_get (names classes) id.0 ≡ Some name
name_at_number classes name id e =
    let at = name_from 0 classes name id e in
    subst (λ i. slice_get (names classes) i ≡ Some name) (sym (at.1 ∙ zero-add at.0)) at.2
