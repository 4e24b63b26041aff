-- Members in the order of their names and descriptors, and the search among them.
use Rattle.std.proofs.Common.{◌≡◌, ℕ, ◌+◌, ◌<◌, ◌≤◌, inl, inr, true, false, Bool, Some, None, List, [], ◌∷◌, ◌++◌, length}
use Rattle.std.proofs.Common.{get_or, refl, sym, subst, ap, ◌∙◌, arith}
use Rattle.std.specs.Prelude.{◌&&◌, bytes_eq, cond, nat_lt, option_map, slice_get}
use Rattle.std.specs.List.{position, position_or_len}
use Rattle.std.specs.List.Sorted.{IsNonDecreasingBy, IsPartitionedBy, IsSortedBy}
use Rattle.std.specs.Ordering.{bool_cmp, is_lt, nat_cmp, ordering_index, ordering_then}
use Rattle.std.specs.declared.cmp.Ordering.{Ordering}
use Rattle.std.specs.declared.cmp.Ordering.TheVariants.{Less, Equal, Greater}
use Rattle.std.specs.Cmp.{bool_cmp_total, IsTotalOrder}
use Rattle.std.specs.Cmp.{nat_cmp_is}
use Rattle.std.proofs.lemmas.Bool.{false_from_ne_true, lt-ltb, ltb-true}
use Rattle.std.proofs.lemmas.Cmp.{nat_cmp_total, nat_list_cmp_total, on_total, then_total, tied_itself}
use Rattle.std.proofs.lemmas.List.Sorted.{searchable_from_sorted}
use Rattle.std.proofs.lemmas.List.Sums.{position_or_len_is}
use Rattle.cf_reader.specs.declared.class_file.Method.{Method}
use Rattle.cf_reader.specs.declared.class_file.ClassFile.{ClassFile}
use Rattle.cls_order.specs.declared.class.Class.{Class}
use Rattle.cls_order.specs.Classes.{name_cmp}
use Rattle.cls_set.specs.declared.remote.MemberKind.{MemberKind}
use Rattle.cls_set.specs.declared.remote.MemberKind.TheVariants.{Methods}
use Rattle.cls_set.specs.Orders.{index_cmp, is_below, is_key, is_short_name, key_at, key_cmp, key_in, keys_of, longer}
use Rattle.cls_set.specs.Orders.{method_key, shorter, HaveOrders, IsOrder, IsLowerBound, Key}
use Rattle.cls_order.proofs.Hierarchy.{same_read, true_false}
use Rattle.cls_order.proofs.Names.{same_test}
use Rattle.std.proofs.lemmas.Slice.Eq.{bytes_eq-Decides}
use Rattle.std.proofs.Math.ListN.{get_or-append}
use Rattle.std.proofs.lemmas.List.{get_or_push, length-append}
use Rattle.std.proofs.lemmas.Option.{slice_get-get_or, slice_get-map, slice_get_within}
use Rattle.cls_order.proofs.Walks.{before}

pub key_total : IsTotalOrder key_cmp
key_total =
    then_total (on_total shorter nat_list_cmp_total)
    (then_total (on_total longer nat_list_cmp_total) (on_total is_short_name bool_cmp_total))

pub index_total : (keys : List Key) → IsTotalOrder (index_cmp keys)
index_total keys = then_total (on_total (key_at keys) key_total) nat_cmp_total

-- what is not less by two tests is not less by the first
not_less_first : (a b : Ordering) → is_lt (ordering_then a b) ≡ false → is_lt a ≡ false
not_less_first Less b e = e
not_less_first Equal b e = refl
not_less_first Greater b e = refl

pub lower_index : (a b : Ordering) → ordering_index a ≤ ordering_index b → is_lt b ≡ true → is_lt a ≡ true
lower_index Less b h e = refl
lower_index Equal Less h e = absurd (omega (arith, h))
lower_index Greater Less h e = absurd (omega (arith, h))
lower_index Equal Equal h e = absurd (true_false (sym e))
lower_index Equal Greater h e = absurd (true_false (sym e))
lower_index Greater Equal h e = absurd (true_false (sym e))
lower_index Greater Greater h e = absurd (true_false (sym e))

both_equal : (a b : Ordering) → ordering_then a b ≡ Equal → (a ≡ Equal) × (b ≡ Equal)
both_equal Equal b e = (refl, e)
both_equal Less b e = cc
both_equal Greater b e = cc

name_equal : (x y : List ℕ) → name_cmp x y ≡ Equal → x ≡ y
name_equal x y e = (bytes_eq-Decides x y).0 (same_test x y Equal e)

neither_less : (a : Ordering) → is_lt a ≡ false → ordering_index a ≤ 1 → a ≡ Equal
neither_less Less e h = absurd (true_false e)
neither_less Equal e h = refl
neither_less Greater e h = absurd (omega (arith, h))

bool_equal : (a b : Bool) → bool_cmp a b ≡ Equal → a ≡ b
bool_equal true true e = refl
bool_equal false false e = refl
bool_equal true false e = cc
bool_equal false true e = cc

-- a name and a descriptor, from the shorter one and the longer one
abbrev built : Bool → List ℕ → List ℕ → Key
built is_short_name short long = (cond is_short_name short long, cond is_short_name long short)

rebuilt : (key : Key) → key ≡ built (is_short_name key) (shorter key) (longer key)
rebuilt key =
    elim (is_short_name key) as (λ b. key ≡ built b (cond b key.0 key.1) (cond b key.1 key.0)) [
      | true ↦ refl
      | false ↦ refl
    ]

-- keys that tie are the same
pub key_equal : (a b : Key) → key_cmp a b ≡ Equal → a ≡ b
key_equal a b e =
    let short = both_equal (name_cmp (shorter a) (shorter b)) _ e in
    let rest = both_equal (name_cmp (longer a) (longer b)) _ short.1 in
    let same = bool_equal (is_short_name a) (is_short_name b) rest.1 in
    rebuilt a
    ∙ (ap (λ f. built f (shorter a) (longer a)) same
    ∙ (ap (λ s. built (is_short_name b) s (longer a)) (name_equal (shorter a) (shorter b) short.0)
    ∙ (ap (built (is_short_name b) (shorter b)) (name_equal (longer a) (longer b) rest.0) ∙ sym (rebuilt b))))

pub key_itself : (a b : Key) → a ≡ b → key_cmp a b ≡ Equal
key_itself a b e = ap (λ k. key_cmp k b) e ∙ tied_itself key_total b

by_key : (keys : List Key) (order : List ℕ) → IsSortedBy (λ i j. is_lt (index_cmp keys i j)) order
    → IsSortedBy (λ i j. is_below keys (key_at keys j) i) order
by_key keys order up k d low high =
    not_less_first (key_cmp (key_at keys (get_or order (k + 1) d)) (key_at keys (get_or order k d))) _ (up k d low high)

module _ (keys : List Key) (order : List ℕ) (o : IsOrder keys order) (key : Key) where
  rising : IsNonDecreasingBy (λ k. ordering_index (key_cmp (key_at keys k) key)) order
  rising = searchable_from_sorted key_total (key_at keys) order key (by_key keys order o.sorted)

  pub partitioned : IsPartitionedBy (is_below keys key) order
  partitioned i j d low high e =
      lower_index (key_cmp (key_at keys (get_or order i d)) key) (key_cmp (key_at keys (get_or order j d)) key)
      (rising i j d low high) e

  -- no index below the key comes before one of the key
  pub at_key : (i j : ℕ) (d : ℕ) → i ≤ j → j < length order → is_below keys key (get_or order i d) ≡ false
      → key_at keys (get_or order j d) ≡ key → key_at keys (get_or order i d) ≡ key
  at_key i j d low high not_less same =
      let up = rising i j d low high in
      let one = ap ordering_index (key_itself (key_at keys (get_or order j d)) key same) in
      let first = key_at keys (get_or order i d) in
      key_equal first key (neither_less (key_cmp first key) not_less (omega (arith, up, one)))

  not_below : (k : ℕ) → key_at keys k ≡ key → is_below keys key k ≡ true → ⊥
  not_below k same below = true_false (sym below ∙ ap is_lt (key_itself (key_at keys k) key same))

  module _ (start : ℕ) (parts : IsLowerBound keys order key start) where
    -- in the order, what has the key stands from the start on
    pub stands_from : (i : ℕ) → i < length keys → key_at keys i ≡ key
        → (p : ℕ) × (start ≤ p) × (p < length order) × (get_or order p i ≡ i)
    stands_from i h same =
        let at = o.each i h in
        elim (before at.0 start) [
          | inl less ↦
              let below = parts.0 at.0 i (omega arith) less in
              absurd (not_below i same (subst (λ k. is_below keys key k ≡ true) at.2 below))
          | inr more ↦ (at.0, more, at.1, at.2)
        ]

    -- what stands at the start has the key, if any member has
    pub here : (i d : ℕ) → i < length keys → key_at keys i ≡ key
        → (start < length order) × (key_at keys (get_or order start d) ≡ key)
    here i d h same =
        let at = stands_from i h same in
        let more = at.1 in
        let inside = at.2 in
        let within : start < length order = omega (arith, more, inside) in
        let past = parts.1 start i (omega arith) within in
        let found = at_key start at.0 i more inside past (ap (key_at keys) at.3 ∙ same) in
        (within, ap (key_at keys) (same_read order start d i within) ∙ found)

    -- and no member before it
    pub first_here : (i d : ℕ) → start < length order → key_at keys (get_or order start d) ≡ key
        → i < get_or order start d → key_at keys i ≡ key → ⊥
    first_here i d within found low same =
        let first = get_or order start d in
        let few = o.only start d within in
        let at = stands_from i (omega (arith, low, few)) same in
        let up = searchable_from_sorted (index_total keys) (λ k. k) order first o.sorted start at.0 d at.1 at.2 in
        let read : get_or order at.0 d ≡ i = same_read order at.0 d i at.2 ∙ at.3 in
        let one = ap ordering_index (tied_itself (index_total keys) first) in
        let tie = key_itself (key_at keys i) (key_at keys first) (same ∙ sym found) in
        let less : index_cmp keys i first ≡ Less =
        ap (λ r. ordering_then r (nat_cmp i first)) tie ∙ sym (nat_cmp_is i first Less low)
        in
        let none = ap (λ k. ordering_index (index_cmp keys k first)) read ∙ ap ordering_index less in
        absurd (omega (arith, up, one, none))

-- the test on keys
both_true : (a b : Bool) → (a && b) ≡ true → (a ≡ true) × (b ≡ true)
both_true true b e = (refl, e)
both_true false b e = absurd (true_false (sym e))

pub same_key : (wanted key : Key) → is_key wanted key ≡ true → key ≡ wanted
same_key wanted key e =
    let both = both_true (bytes_eq key.0 wanted.0) (bytes_eq key.1 wanted.1) e in
    ap (λ (n : List ℕ). (n, key.1)) ((bytes_eq-Decides key.0 wanted.0).0 both.0)
    ∙ ap (λ (n : List ℕ). (wanted.0, n)) ((bytes_eq-Decides key.1 wanted.1).0 both.1)

is_itself : (key : Key) → is_key key key ≡ true
is_itself key = rw ((bytes_eq-Decides key.0 key.0).1 refl, (bytes_eq-Decides key.1 key.1).1 refl) refl

read_key : (keys : List Key) (i : ℕ) (d : Key) → i < length keys → key_at keys i ≡ get_or keys i d
read_key keys i d h = ap key_in (slice_get-get_or keys i d h)

-- the search for the first member with a key: it stands at the start, or there is none
module _ (keys : List Key) (order : List ℕ) (o : IsOrder keys order) (key : Key) (start : ℕ) where
  module _ (parts : IsLowerBound keys order key start) where
    pub found_here : (d : ℕ) → start < length order → is_key key (key_at keys (get_or order start d)) ≡ true
        → position (is_key key) keys ≡ Some (get_or order start d)
    found_here d within is =
        let i = get_or order start d in
        let few : i < length keys = o.only start d within in
        let same = same_key key (key_at keys i) is in
        let at : position_or_len (is_key key) keys ≡ i =
        position_or_len_is (is_key key) keys i key (omega (arith, few))
        (λ k low. false_from_ne_true (is_key key (get_or keys k key)) (λ t.
        let read = read_key keys k key (omega (arith, low, few)) in
        first_here keys order o key start parts k d within same low (read ∙ same_key key (get_or keys k key) t)))
        (λ _. subst (λ x. is_key key x ≡ true) (read_key keys i key few) is)
        in
        rw (at, lt-ltb i (length keys) few) refl

    pub none_here : (d : ℕ)
        → (start < length order → is_key key (key_at keys (get_or order start d)) ≡ true → ⊥)
        → position (is_key key) keys ≡ None
    none_here d none =
        let n = length keys in
        let at : position_or_len (is_key key) keys ≡ n =
        position_or_len_is (is_key key) keys n key (omega arith)
        (λ k low. false_from_ne_true (is_key key (get_or keys k key)) (λ t.
        let same = read_key keys k key low ∙ same_key key (get_or keys k key) t in
        let found = here keys order o key start parts k d low same in
        none found.0 (subst (λ x. is_key key x ≡ true) (sym found.1) (is_itself key))))
        (λ h. absurd (omega (arith, h)))
        in
        rw (at, false_from_ne_true (nat_lt n n) (λ t. let h = ltb-true n n t in omega (arith, h))) refl

-- the key of a method of a class
pub key_read : (upper : ClassFile) (i : ℕ) (m : Method) → slice_get upper.methods i ≡ Some m
    → key_at (keys_of Methods upper) i ≡ method_key m
key_read upper i m e = ap key_in (slice_get-map method_key upper.methods i ∙ ap (option_map method_key) e)

-- the orders of the classes so far
pub record HaveFirstOrders (kind : MemberKind) (classes : List Class) (n : ℕ) (orders : List (List ℕ)) : Type 0 where
  pub long : length orders ≡ n
  pub order : (k : ℕ) (c : Class) → k < n → slice_get classes k ≡ Some c → IsOrder (keys_of kind c.file) (get_or orders k [])

pub order_more : (kind : MemberKind) (classes : List Class) (n : ℕ) (orders : List (List ℕ)) (row : List ℕ)
    → HaveFirstOrders kind classes n orders
    → ((c : Class) → slice_get classes n ≡ Some c → IsOrder (keys_of kind c.file) row)
    → HaveFirstOrders kind classes (n + 1) (orders ++ row ∷ [])
order_more kind classes n orders row old new =
    let was = old.long in
    record {
      long = let long = length-append orders (row ∷ []) in omega (arith, long, was);
      order = λ k c h e.
          elim (before k n) [
            | inl less ↦
                let read = get_or-append orders (row ∷ []) [] k (omega (arith, less, was)) in
                subst (IsOrder (keys_of kind c.file)) (sym read) (old.order k c less e)
            | inr more ↦
                let same : k ≡ n = omega (arith, h, more) in
                let read = get_or_push orders row [] k (was ∙ sym same) in
                subst (IsOrder (keys_of kind c.file)) (sym read) (new c (subst (λ i. slice_get classes i ≡ Some c) same e))
          ];
    }

pub order_all : (kind : MemberKind) (classes : List Class) (n : ℕ) (orders : List (List ℕ)) → n ≡ length classes
    → HaveFirstOrders kind classes n orders → HaveOrders kind classes orders
order_all kind classes n orders all h =
    record {
      one_each = h.long ∙ all;
      order = λ k c e. let inside = slice_get_within classes k c e in h.order k c (omega (arith, inside, all)) e;
    }

-- the order of a class, as it is read
pub order_read : (kind : MemberKind) (classes : List Class) (orders : List (List ℕ)) → HaveOrders kind classes orders
    → (k r : ℕ) (row d : List ℕ) (c : Class) → r ≡ k → slice_get classes k ≡ Some c
    → row ≡ get_or orders r d → IsOrder (keys_of kind c.file) row
order_read kind classes orders have k r row d c same e is =
    let inside = slice_get_within classes k c e in
    let one = have.one_each in
    let within : k < length orders = omega (arith, inside, one) in
    let read = same_read orders k [] d within ∙ (ap (λ i. get_or orders i d) (sym same) ∙ sym is) in
    subst (IsOrder (keys_of kind c.file)) read (have.order k c e)
