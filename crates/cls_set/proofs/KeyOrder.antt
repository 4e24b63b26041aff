-- Numbers of names with descriptors, as they stand in their order.
use Rattle.std.proofs.Common.{◌≡◌, ℕ, ◌+◌, ◌<◌, ◌≤◌, inl, inr, true, false, List, [], ◌∷◌, ◌++◌, length, get_or, refl, sym, subst, ap, ◌∙◌, arith}
use Rattle.std.specs.Prelude.{◌↔◌, Contains}
use Rattle.std.specs.List.Sorted.{IsNonDecreasingBy, IsPartitionedBy}
use Rattle.std.specs.Ordering.{is_lt, ordering_index, ordering_reverse}
use Rattle.std.specs.declared.cmp.Ordering.{Ordering}
use Rattle.std.specs.declared.cmp.Ordering.TheVariants.{Less, Equal, Greater}
use Rattle.std.proofs.Math.ListN.{get_or-append}
use Rattle.std.proofs.lemmas.List.{get_or_push, length-append}
use Rattle.std.proofs.lemmas.List.Elements.{Contains-append_left, Contains-append_right}
use Rattle.std.proofs.lemmas.List.Sorted.{searchable_from_sorted}
use Rattle.std.proofs.lemmas.Option.{slice_get_cases}
use Rattle.cf_reader.specs.declared.class_file.ClassFile.{ClassFile}
use Rattle.cls_order.specs.declared.entries.Entry.{Entry}
use Rattle.cls_order.specs.Entries.{classes_of}
use Rattle.cls_order.proofs.Heights.{long_classes}
use Rattle.cls_order.proofs.Hierarchy.{class_read, same_read, true_false}
use Rattle.cls_order.proofs.Walks.{before}
use Rattle.cls_set.specs.declared.key_numbers.Declared.{Declared}
use Rattle.cls_set.specs.KeyNumbers.{comes_before, declared_key, keys_at, keys_in, number_at, AreKeyNumbers, AreNumbersOf, AreSorted, HoldsBelow, IsKeyNumber}
use Rattle.cls_set.specs.declared.remote.MemberKind.TheVariants.{Methods}
use Rattle.cls_set.specs.Orders.{key_at, key_cmp, keys_of, Key}
use Rattle.cls_set.proofs.Orders.{key_equal, key_itself, key_total, lower_index}
use Rattle.number_trees.specs.Rows.{Starts}
use Rattle.number_trees.specs.Trees.{agree, Covers}
use Rattle.number_trees.proofs.Agreeing.{agree_is, agree_same}
use Rattle.number_trees.proofs.Grown.{starts_both, starts_on}

-- one more of a row of which something is known of each
pub each_more : {A : Type 0} (P : ℕ → A → Type 0) (xs : List A) (n : ℕ) (x d : A) → length xs ≡ n
    → ((i : ℕ) → i < n → P i (get_or xs i d)) → P n x → (i : ℕ) → i < n + 1 → P i (get_or (xs ++ x ∷ []) i d)
each_more {A} P xs n x d long old new i h =
    elim (before i n) [
      | inl less ↦ subst (P i) (sym (get_or-append xs (x ∷ []) d i (omega (arith, less, long)))) (old i less)
      | inr more ↦
          let same : i ≡ n = omega (arith, h, more) in
          subst (P i) (sym (get_or_push xs x d i (long ∙ sym same))) (subst (λ j. P j x) (sym same) new)
    ]

-- only a class that there is has methods
pub class_within : (entries : List Entry) (k i : ℕ) → i < length (keys_at entries k) → k < length entries
class_within entries k i h =
    elim (slice_get_cases (classes_of entries) k).1 [
      | inl r ↦ let low = r.1 in let long = long_classes entries in omega (arith, low, long)
      | inr r ↦ let none : i < 0 = subst (λ o. i < length (keys_in o)) r.1 h in absurd (omega (arith, none))
    ]

-- what stands among some stands among more
pub stays : {old new : List Declared} → Starts old new → (x : Declared) → Contains old x → Contains new x
stays {old} {new} on x among = subst (λ xs. Contains xs x) (sym on.is) (Contains-append_left old on.more x among)

-- the methods of a class, as they are read
pub keys_read : (entries : List Entry) (m : Entry) (k : ℕ) → k < length entries → (file : ClassFile) → file ≡ (get_or entries k m).class.file → keys_at entries k ≡ keys_of Methods file
keys_read entries m k h file is = ap keys_in (class_read entries m k k refl h) ∙ ap (keys_of Methods) (sym is)

-- a method of a class more
pub method_added : (class n : ℕ) (first old new : List Declared) → Starts first old × ((i : ℕ) → i < n → Contains old (record { class = class; method = i }))
    → new ≡ old ++ record { class = class; method = n } ∷ [] → Starts first new × ((i : ℕ) → i < n + 1 → Contains new (record { class = class; method = i }))
method_added class n first old new was pushed =
    let own : Declared = record { class = class; method = n } in
    let on : Starts old new = starts_on old new (own ∷ []) pushed in (
      starts_both was.0 on,
      λ i h.
          elim (before i n) [
            | inl less ↦ stays on (record { class = class; method = i }) (was.1 i less)
            | inr more ↦
                let same : n ≡ i = omega (arith, h, more) in
                subst (λ (k : ℕ). Contains new (record { class = class; method = k })) same
                (subst (λ xs. Contains xs own) (sym pushed) (Contains-append_right old (own ∷ []) own (0, omega arith, refl)))
          ],
    )

-- a number more, and the numbers of one class more
pub number_more : (entries : List Entry) (all : List Declared) (class n : ℕ) (numbers new : List ℕ) (x : ℕ)
    → (length numbers ≡ n) × ((i : ℕ) → i < n → IsKeyNumber entries all (key_at (keys_at entries class) i) (get_or numbers i 0))
    → new ≡ numbers ++ x ∷ [] → IsKeyNumber entries all (key_at (keys_at entries class) n) x
    → (length new ≡ n + 1) × ((i : ℕ) → i < n + 1 → IsKeyNumber entries all (key_at (keys_at entries class) i) (get_or new i 0))
number_more entries all class n numbers new x was pushed is = (
  (let long = ap (λ xs. length xs) pushed in let one = length-append numbers (x ∷ []) in let old = was.0 in omega (arith, long, one, old)),
  λ i h.
      subst (λ xs. IsKeyNumber entries all (key_at (keys_at entries class) i) (get_or xs i 0)) (sym pushed)
      (each_more (λ j y. IsKeyNumber entries all (key_at (keys_at entries class) j) y) numbers n x 0 was.0 was.1 is i h),
)

pub row_more : (entries : List Entry) (all : List Declared) (n : ℕ) (numbers new : List (List ℕ)) (row : List ℕ)
    → (length numbers ≡ n) × ((k : ℕ) → k < n → AreNumbersOf entries all k (get_or numbers k [])) → new ≡ numbers ++ row ∷ [] → AreNumbersOf entries all n row
    → (length new ≡ n + 1) × ((k : ℕ) → k < n + 1 → AreNumbersOf entries all k (get_or new k []))
row_more entries all n numbers new row was pushed is = (
  (let long = ap (λ xs. length xs) pushed in let one = length-append numbers (row ∷ []) in let old = was.0 in omega (arith, long, one, old)),
  λ k h. subst (λ xs. AreNumbersOf entries all k (get_or xs k [])) (sym pushed) (each_more (λ j r. AreNumbersOf entries all j r) numbers n row [] was.0 was.1 is k h),
)

-- a number, as it is read
pub number_read : (numbers : List (List ℕ)) (k i : ℕ) (row d : List ℕ) → k < length numbers → row ≡ get_or numbers k d → get_or row i 0 ≡ number_at numbers k i
number_read numbers k i row d h is = ap (λ r. get_or r i 0) (is ∙ same_read numbers k d [] h)

-- the methods of one class more
pub holds_more : (entries : List Entry) (n : ℕ) (old new : List Declared) → HoldsBelow entries n old → Starts old new
    → ((i : ℕ) → i < length (keys_at entries n) → Contains new (record { class = n; method = i })) → HoldsBelow entries (n + 1) new
holds_more entries n old new was on own k i low h =
    elim (before k n) [
      | inl less ↦ stays on (record { class = k; method = i }) (was k i less h)
      | inr more ↦
          let same : n ≡ k = omega (arith, low, more) in
          subst (λ c. i < length (keys_at entries c) → Contains new (record { class = c; method = i })) same (own i) h
    ]

tie : (a b : Ordering) → is_lt a ≡ false → is_lt b ≡ false → a ≡ ordering_reverse b → a ≡ Equal
tie Less b e f g = absurd (true_false e)
tie Equal b e f g = refl
tie Greater Less e f g = absurd (true_false f)
tie Greater Equal e f g = g
tie Greater Greater e f g = cc

module _ (entries : List Entry) (all : List Declared) (a : AreSorted entries all) where
  rising : (key : Key) → IsNonDecreasingBy (λ d. ordering_index (key_cmp (declared_key entries d) key)) all
  rising key = searchable_from_sorted key_total (declared_key entries) all key a.sorted

  pub partitioned : (key : Key) → IsPartitionedBy (comes_before entries key) all
  partitioned key i j d low high e =
      lower_index (key_cmp (declared_key entries (get_or all i d)) key) (key_cmp (declared_key entries (get_or all j d)) key)
      (rising key i j d low high) e

  -- a method stands from its number on
  stands_from : (d : Declared) (n : ℕ) → Contains all d → IsKeyNumber entries all (declared_key entries d) n
      → (p : ℕ) × (n ≤ p) × (p < length all) × (get_or all p d ≡ d)
  stands_from d n at number =
      let key = declared_key entries d in
      elim (before at.0 n) [
        | inl less ↦
            let early = subst (λ x. comes_before entries key x ≡ true) at.2 (number.start.0 at.0 d (omega arith) less) in
            absurd (true_false (sym early ∙ ap is_lt (key_itself key key refl)))
        | inr more ↦ (at.0, more, at.1, at.2)
      ]

  pub number_low : (d : Declared) (n : ℕ) → Contains all d → IsKeyNumber entries all (declared_key entries d) n → n < length all
  number_low d n at number = let s = stands_from d n at number in let low = s.1 in let high = s.2 in omega (arith, low, high)

  -- there is one number of a name and a descriptor
  not_less : (key : Key) (n m : ℕ) (d : Declared) → IsKeyNumber entries all key n → IsKeyNumber entries all key m → n < m → ⊥
  not_less key n m d one two low =
      let within = two.within in
      true_false (sym (two.start.0 n d (omega arith) low) ∙ one.start.1 n d (omega arith) (omega (arith, low, within)))

  one_number : (key : Key) (n m : ℕ) (d : Declared) → IsKeyNumber entries all key n → IsKeyNumber entries all key m → n ≡ m
  one_number key n m d one two =
      elim (before n m) [
        | inl low ↦ absurd (not_less key n m d one two low)
        | inr high ↦
            elim (before m n) [
              | inl low ↦ absurd (not_less key m n d two one low)
              | inr more ↦ omega (arith, high, more)
            ]
      ]

  -- and one name and descriptor of a number
  not_before : (a b : Declared) (n : ℕ) → Contains all a → IsKeyNumber entries all (declared_key entries a) n → IsKeyNumber entries all (declared_key entries b) n
      → is_lt (key_cmp (declared_key entries a) (declared_key entries b)) ≡ false
  not_before a b n at one two =
      let s = stands_from a n at one in
      subst (λ x. comes_before entries (declared_key entries b) x ≡ false) s.3 (two.start.1 s.0 a s.1 s.2)

  one_key : (a b : Declared) (n : ℕ) → Contains all a → Contains all b → IsKeyNumber entries all (declared_key entries a) n → IsKeyNumber entries all (declared_key entries b) n
      → declared_key entries a ≡ declared_key entries b
  one_key a b n at there one two =
      let x = declared_key entries a in
      let y = declared_key entries b in
      key_equal x y (tie (key_cmp x y) (key_cmp y x) (not_before a b n at one two) (not_before b a n there two one) (key_total.antisymm x y))

  pub told : (levels : ℕ) → Covers levels (length all) → (a b : Declared) (n m : ℕ) → Contains all a → Contains all b
      → IsKeyNumber entries all (declared_key entries a) n → IsKeyNumber entries all (declared_key entries b) m
      → (agree levels n m ≡ true) ↔ (declared_key entries a ≡ declared_key entries b)
  told levels covers a b n m at there one two = (
    λ e.
        let same = agree_is levels (length all) n m covers (number_low a n at one) (number_low b m there two) e in
        one_key a b n at there one (subst (IsKeyNumber entries all (declared_key entries b)) (sym same) two),
    λ e.
        let same = one_number (declared_key entries b) n m a (subst (λ key. IsKeyNumber entries all key n) e one) two in
        subst (λ k. agree levels n k ≡ true) same (agree_same levels n),
  )

  -- all numbers
  pub numbers_told : (levels : ℕ) (numbers : List (List ℕ)) → Covers levels (length all) → length numbers ≡ length entries
      → ((k : ℕ) → k < length entries → AreNumbersOf entries all k (get_or numbers k []))
      → AreKeyNumbers entries levels numbers
  numbers_told levels numbers covers long each =
      let within = class_within entries in
      record {
        one_each = long;
        rows = λ k h. (each k h).one_each;
        told = λ k i l j h g.
            told levels covers (record { class = k; method = i }) (record { class = l; method = j }) (number_at numbers k i) (number_at numbers l j)
            (a.each k i (within k i h) h) (a.each l j (within l j g) g) ((each k (within k i h)).number i h) ((each l (within l j g)).number j g);
      }
