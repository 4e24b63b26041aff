-- A table of keys goes along with the members that were put in.
use Rattle.std.proofs.Common.{◌≡◌, ◌&&◌, ◌||◌, ℕ, Bool, true, false, cond, not, List, [], ◌∷◌, ◌++◌, length, Some, None, ◌⊎◌, inl, inr, refl, sym, ap, ◌∙◌}
use Rattle.std.specs.declared.cmp.Ordering.{Ordering}
use Rattle.std.specs.declared.cmp.Ordering.TheVariants.{Less, Equal, Greater}
use Rattle.std.specs.Ordering.{bool_cmp, is_eq, nat_cmp, ordering_then}
use Rattle.std.specs.Cmp.Lexicographic.{slice_cmp}
use Rattle.std.specs.List.{list_any}
use Rattle.std.specs.Prelude.{nat_le}
use Rattle.std.specs.Str.{bytes_eq}
use Rattle.std.specs.BTreeSet.{contains}
use Rattle.std.proofs.lemmas.Bool.{and_right}
use Rattle.std.proofs.lemmas.List.Folds.{list_any-append}
use Rattle.std.proofs.lemmas.Map.Text.{is_eq-slice_cmp}
use Rattle.std.proofs.lemmas.Slice.Eq.{bytes_eq-Decides}
use Rattle.cf_pool.specs.declared.pool.Entry.{Entry}
use Rattle.cf_pool.specs.Pools.{utf8_at}
use Rattle.cf_layout.specs.declared.items.Member.{Member}
use Rattle.cf_descriptors.specs.declared.member_keys.MemberKeys.{MemberKeys}
use Rattle.cf_descriptors.specs.MemberKeys.{AreSeen, IsKey, Key, descriptor_of, is_keyed, key_cmp, name_of, occurs, same_member, same_text}

-- ---- tests

any_along : {A : Type 0} (p q : A → Bool) → ((x : A) → p x ≡ q x) → (xs : List A) → list_any p xs ≡ list_any q xs
any_along p q same [] = refl
any_along p q same (x ∷ xs) = rw (same x, any_along p q same xs) refl

none_along : {A : Type 0} (p : A → Bool) → ((x : A) → p x ≡ false) → (xs : List A) → list_any p xs ≡ false
none_along p none [] = refl
none_along p none (x ∷ xs) = rw (none x, none_along p none xs) refl

one_test : (a b : Bool) → (a ≡ true → b ≡ true) → (b ≡ true → a ≡ true) → a ≡ b
one_test true b there back = sym (there refl)
one_test false true there back = back refl
one_test false false there back = refl

eq_swap : (xs ys : List ℕ) → bytes_eq xs ys ≡ bytes_eq ys xs
eq_swap xs ys =
    one_test (bytes_eq xs ys) (bytes_eq ys xs) (λ e. (bytes_eq-Decides ys xs).1 (sym ((bytes_eq-Decides xs ys).0 e))) (λ e. (bytes_eq-Decides xs ys).1 (sym ((bytes_eq-Decides ys xs).0 e)))

and_swap : (a b : Bool) → (a && b) ≡ (b && a)
and_swap true true = refl
and_swap true false = refl
and_swap false true = refl
and_swap false false = refl

then_both : (a b : Ordering) → is_eq (ordering_then a b) ≡ (is_eq a && is_eq b)
then_both Less b = refl
then_both Equal b = refl
then_both Greater b = refl

and_true : (a : Bool) → (a && true) ≡ a
and_true true = refl
and_true false = refl

and_false : (a : Bool) → (a && false) ≡ false
and_false true = refl
and_false false = refl

not_both : (a b : Bool) → (a ≡ true → b ≡ true → ⊥) → (a && b) ≡ false
not_both true true none = absurd (none refl refl)
not_both true false none = refl
not_both false b none = refl

-- two texts, of which the first is the name or the descriptor
abbrev is_short : Bool → List ℕ → List ℕ → Type 0
is_short is_first first second = is_first ≡ nat_le (length (cond is_first first second)) (length (cond is_first second first))

same_bytes : (a b : List ℕ) → bytes_eq a b ≡ true → a ≡ b
same_bytes a b e = (bytes_eq-Decides a b).0 e

-- of one name and descriptor the same text is the shorter one
other_order : (p q r s : List ℕ) → true ≡ nat_le (length p) (length q) → false ≡ nat_le (length s) (length r) → p ≡ s → q ≡ r → ⊥
other_order p q r s short long first second =
    let same : nat_le (length p) (length q) ≡ nat_le (length s) (length r) = ap (λ t. nat_le (length t) (length q)) first ∙ ap (λ t. nat_le (length s) (length t)) second in
    let wrong : true ≡ false = short ∙ (same ∙ sym long) in
    cc

equal_texts : (p q r s : List ℕ) (x y : Bool) → is_short x p q → is_short y r s
    → ((bytes_eq p r && bytes_eq q s) && is_eq (bool_cmp x y)) ≡ (bytes_eq (cond x q p) (cond y s r) && bytes_eq (cond x p q) (cond y r s))
equal_texts p q r s true true a b = and_true (bytes_eq p r && bytes_eq q s) ∙ and_swap (bytes_eq p r) (bytes_eq q s)
equal_texts p q r s false false a b = and_true (bytes_eq p r && bytes_eq q s)
equal_texts p q r s true false a b =
    and_false (bytes_eq p r && bytes_eq q s)
    ∙ sym (not_both (bytes_eq q r) (bytes_eq p s) (λ d n. other_order p q r s a b (same_bytes p s n) (same_bytes q r d)))
equal_texts p q r s false true a b =
    and_false (bytes_eq p r && bytes_eq q s)
    ∙ sym (not_both (bytes_eq p s) (bytes_eq q r) (λ d n. other_order r s p q b a (sym (same_bytes q r n)) (sym (same_bytes p s d))))

-- keys compare as equal exactly if their names and descriptors are
equal_keys : (a b : Key) → IsKey a → IsKey b → is_eq (key_cmp a b) ≡ (bytes_eq (descriptor_of a) (descriptor_of b) && bytes_eq (name_of a) (name_of b))
equal_keys a b of_a of_b =
    then_both (ordering_then (slice_cmp nat_cmp a.0.0.now b.0.0.now) (slice_cmp nat_cmp a.0.1.now b.0.1.now)) (bool_cmp a.1 b.1)
    ∙ (ap (λ (x : Bool). x && is_eq (bool_cmp a.1 b.1))
    (then_both (slice_cmp nat_cmp a.0.0.now b.0.0.now) (slice_cmp nat_cmp a.0.1.now b.0.1.now)
    ∙ (ap (λ (x : Bool). x && is_eq (slice_cmp nat_cmp a.0.1.now b.0.1.now)) (is_eq-slice_cmp a.0.0.now b.0.0.now)
    ∙ ap (λ (x : Bool). bytes_eq a.0.0.now b.0.0.now && x) (is_eq-slice_cmp a.0.1.now b.0.1.now)))
    ∙ equal_texts a.0.0.now a.0.1.now b.0.0.now b.0.1.now a.1 b.1 of_a of_b)

put_in : (equal before : Bool) → cond equal true before ≡ (before || (equal || false))
put_in true true = refl
put_in true false = refl
put_in false true = refl
put_in false false = refl

-- ---- a member with a key

module _ (pool : List Entry) (member : Member) (key : Key) (of_key : IsKey key) (descriptor_is : utf8_at pool member.descriptor.value ≡ Some (descriptor_of key))
    (name_is : utf8_at pool member.name.value ≡ Some (name_of key)) where
  same_key : (other : Member) → is_keyed pool key other ≡ same_member pool member other
  unfolding same_member
  same_key other = rw (descriptor_is, name_is) refl

  own_key : (other : Key) → IsKey other → is_keyed pool other member ≡ is_eq (key_cmp key other)
  own_key other of_other =
      let texts : is_keyed pool other member ≡ (bytes_eq (name_of other) (name_of key) && bytes_eq (descriptor_of other) (descriptor_of key)) = rw (descriptor_is, name_is) refl in
      texts ∙ and_swap (bytes_eq (name_of other) (name_of key)) (bytes_eq (descriptor_of other) (descriptor_of key))
      ∙ ap (λ (x : Bool). x && bytes_eq (name_of other) (name_of key)) (eq_swap (descriptor_of other) (descriptor_of key))
      ∙ ap (λ (x : Bool). bytes_eq (descriptor_of key) (descriptor_of other) && x) (eq_swap (name_of other) (name_of key))
      ∙ sym (equal_keys key other of_key of_other)

  pub key-tells : (seen : MemberKeys) (members : List Member) → AreSeen pool seen members → contains key_cmp seen.keys key ≡ occurs pool members member
  unfolding occurs
  key-tells seen members are = are key of_key ∙ any_along (is_keyed pool key) (same_member pool member) same_key members

  pub key-put : (old new : MemberKeys) (members : List Member) → ((other : Key) → contains key_cmp new.keys other ≡ cond (is_eq (key_cmp key other)) true (contains key_cmp old.keys other))
      → AreSeen pool old members → AreSeen pool new (members ++ member ∷ [])
  key-put old new members updates are other of_other =
      updates other ∙ ap (λ (x : Bool). cond (is_eq (key_cmp key other)) true x) (are other of_other) ∙ put_in (is_eq (key_cmp key other)) (list_any (is_keyed pool other) members)
      ∙ ap (λ (x : Bool). list_any (is_keyed pool other) members || (x || false)) (sym (own_key other of_other)) ∙ sym (list_any-append (is_keyed pool other) members (member ∷ []))

-- ---- a member without one

module _ (pool : List Entry) (member : Member) where
  abbrev pub HasNone : Type 0
  HasNone = (utf8_at pool member.descriptor.value ≡ None) ⊎ (utf8_at pool member.name.value ≡ None)

  unlike : HasNone → (other : Member) → same_member pool member other ≡ false
  unfolding same_member
  unlike (inl none) other = rw none (and_right (same_text (utf8_at pool member.name.value) (utf8_at pool other.name.value)) false refl)
  unlike (inr none) other = rw none refl

  unkeyed : HasNone → (key : Key) → is_keyed pool key member ≡ false
  unkeyed (inl none) key = rw none (and_right (same_text (Some (name_of key)) (utf8_at pool member.name.value)) false refl)
  unkeyed (inr none) key = rw none refl

  pub none-tells : HasNone → (members : List Member) → true ≡ not (occurs pool members member)
  unfolding occurs
  none-tells none members = sym (ap not (none_along (same_member pool member) (unlike none) members))
