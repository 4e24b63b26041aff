-- Marks as bits of words.
use Rattle.std.proofs.Common.{◌≡◌, ◌/◌, ◌%◌, ◌^◌, ◌<◌, ◌≤◌, ◌≢◌, ◌∙◌, ◌⊎◌, ◌||◌, inl, inr, ℕ, zero, suc, Bool, true, false, List, get_or, length, replicate, nat_eq, nat_lt, rules, refl, sym, subst, ap, arith}
use Rattle.std.specs.Prelude.{◌↔◌, set, max, bit_or}
use Rattle.std.specs.Int.{bit_at}
use Rattle.std.proofs.lemmas.Bool.Decides.{nat_tests}
use Rattle.std.proofs.lemmas.List.{ext_get_or, get_or_past, get_or-replicate, get_or-set_other, get_or-set_same, length-replicate, length-set}
use Rattle.std.proofs.lemmas.List.FromFn.{get_or-map-range_with_len, length-map-range_with_len}
use Rattle.std.proofs.lemmas.Nat.Bits.{bit_at-lt, bit_at-zero, bit_at-pow_other, bit_at-pow_same, bit_at_or}
use Rattle.cls_order.specs.Bits.{bit_of, marks_of, words_for}
use Rattle.cls_order.specs.Marks.{IsMarked}
use Rattle.cls_order.proofs.Walks.{same_or_other_index}

-- ---- one mark

pub marks_long : (words : List ℕ) (n : ℕ) → length (marks_of words n) ≡ n
marks_long words n = length-map-range_with_len (bit_of words) 0 n

pub mark_read : (words : List ℕ) (n k : ℕ) → k < n → get_or (marks_of words n) k false ≡ bit_of words k
mark_read words n k low = get_or-map-range_with_len (bit_of words) 0 n k k false low (omega (arith))

pub mark_past : (words : List ℕ) (n k : ℕ) → n ≤ k → get_or (marks_of words n) k false ≡ false
mark_past words n k past = let long = marks_long words n in get_or_past (marks_of words n) k false (omega (arith, long, past))

-- ---- no mark

pub none_marked : (m n : ℕ) → m ≡ words_for n → marks_of (replicate m 0) n ≡ replicate n false
none_marked m n enough =
    ext_get_or false (marks_of (replicate m 0) n) (replicate n false) (marks_long (replicate m 0) n ∙ sym (length-replicate n false))
    (λ k low.
    let below : k < n = subst (λ (l : ℕ). k < l) (marks_long (replicate m 0) n) low in
    let word : get_or (replicate m 0) (k / 64) 0 ≡ 0 = get_or-replicate m (k / 64) 0 0 (omega (arith, below, enough)) in
    mark_read (replicate m 0) n k below ∙ (ap (λ w. nat_eq (bit_at w (k % 64)) 1) word ∙ (ap (λ b. nat_eq b 1) (bit_at-zero (k % 64)) ∙ sym (get_or-replicate n k false false below))))

-- ---- bits that are joined

-- a bit of one number or of the other
pub bit_joined : (a b i : ℕ) → nat_eq (bit_at (bit_or a b) i) 1 ≡ (nat_eq (bit_at a i) 1 || nat_eq (bit_at b i) 1)
bit_joined a b i = ap (λ x. nat_eq x 1) (bit_at_or a b i) ∙ by (bit_at a i) (bit_at b i) (bit_at-lt a i) (bit_at-lt b i)
  where
    by : (x y : ℕ) → x < 2 → y < 2 → nat_eq (max x y) 1 ≡ (nat_eq x 1 || nat_eq y 1)
    by zero zero low small = refl
    by zero (suc zero) low small = refl
    by (suc zero) zero low small = refl
    by (suc zero) (suc zero) low small = refl
    by zero (suc (suc y)) low small = absurd (omega (arith, small))
    by (suc zero) (suc (suc y)) low small = absurd (omega (arith, small))
    by (suc (suc x)) y low small = absurd (omega (arith, low))

either : (x y : Bool) → ((x || y) ≡ true) ↔ ((x ≡ true) ⊎ (y ≡ true))
either true y = (λ is. inl refl, λ is. refl)
either false y = (λ is. inr is, by)
  where
    by : (false ≡ true) ⊎ (y ≡ true) → y ≡ true
    by (inl wrong) = absurd (cc)
    by (inr is) = is

pub joined_marks : (old others new : List ℕ) (n k : ℕ) → ((j : ℕ) → get_or new j 0 ≡ bit_or (get_or old j 0) (get_or others j 0))
    → IsMarked (marks_of new n) k ↔ (IsMarked (marks_of old n) k ⊎ IsMarked (marks_of others n) k)
joined_marks old others new n k joined = by (nat_lt k n) refl
  where
    by : (low : Bool) → nat_lt k n ≡ low → IsMarked (marks_of new n) k ↔ (IsMarked (marks_of old n) k ⊎ IsMarked (marks_of others n) k)
    by true is =
        let low : k < n = search rules in
        let bit : bit_of new k ≡ (bit_of old k || bit_of others k) = ap (λ w. nat_eq (bit_at w (k % 64)) 1) (joined (k / 64)) ∙ bit_joined (get_or old (k / 64) 0) (get_or others (k / 64) 0) (k % 64) in
        subst (λ b. (b ≡ true) ↔ (IsMarked (marks_of old n) k ⊎ IsMarked (marks_of others n) k)) (sym (mark_read new n k low ∙ bit))
        (subst (λ b. ((bit_of old k || bit_of others k) ≡ true) ↔ ((b ≡ true) ⊎ IsMarked (marks_of others n) k)) (sym (mark_read old n k low))
        (subst (λ b. ((bit_of old k || bit_of others k) ≡ true) ↔ ((bit_of old k ≡ true) ⊎ (b ≡ true))) (sym (mark_read others n k low)) (either (bit_of old k) (bit_of others k))))
    by false is =
        let past : n ≤ k = search rules in
        let none : (words : List ℕ) → ¬ IsMarked (marks_of words n) k = λ words m. let past_end = mark_past words n k past in absurd (cc) in (
          λ m. absurd (none new m),
          λ m. absurd (elim m [ inl a ↦ none old a | inr b ↦ none others b ]),
        )

-- ---- a mark more

module _ (words : List ℕ) (n k : ℕ) (long : length words ≡ words_for n) (low : k < n) where
  abbrev word : ℕ
  word = get_or words (k / 64) 0

  abbrev more : List ℕ
  more = set words (k / 64) (bit_or word (2 ^ (k % 64)))

  here : bit_of more k ≡ true
  here =
      ap (λ w. nat_eq (bit_at w (k % 64)) 1) (get_or-set_same words (k / 64) (bit_or word (2 ^ (k % 64))) 0 (omega (arith, low, long)))
      ∙ (bit_joined word (2 ^ (k % 64)) (k % 64) ∙ by (nat_eq (bit_at word (k % 64)) 1) (ap (λ b. nat_eq b 1) (bit_at-pow_same (k % 64))))
    where
      by : (x : Bool) → nat_eq (bit_at (2 ^ (k % 64)) (k % 64)) 1 ≡ true → (x || nat_eq (bit_at (2 ^ (k % 64)) (k % 64)) 1) ≡ true
      by true is = refl
      by false is = is

  -- another bit of the same word
  beside : (i : ℕ) → i / 64 ≡ k / 64 → i % 64 ≢ k % 64 → bit_of more i ≡ bit_of words i
  beside i same other =
      ap (λ j. nat_eq (bit_at (get_or more j 0) (i % 64)) 1) same
      ∙ (ap (λ w. nat_eq (bit_at w (i % 64)) 1) (get_or-set_same words (k / 64) (bit_or word (2 ^ (k % 64))) 0 (omega (arith, low, long)))
      ∙ (bit_joined word (2 ^ (k % 64)) (i % 64)
      ∙ (by (nat_eq (bit_at word (i % 64)) 1) (ap (λ b. nat_eq b 1) (bit_at-pow_other (k % 64) (i % 64) other))
      ∙ ap (λ j. nat_eq (bit_at (get_or words j 0) (i % 64)) 1) (sym same))))
    where
      by : (x : Bool) → nat_eq (bit_at (2 ^ (k % 64)) (i % 64)) 1 ≡ false → (x || nat_eq (bit_at (2 ^ (k % 64)) (i % 64)) 1) ≡ x
      by true is = refl
      by false is = is

  elsewhere : (i : ℕ) → i ≢ k → bit_of more i ≡ bit_of words i
  elsewhere i other =
      same_or_other_index (bit_of more i ≡ bit_of words i) (i / 64) (k / 64)
      (λ same. beside i same (λ rest. other (omega (arith, same, rest))))
      (λ differs. ap (λ w. nat_eq (bit_at w (i % 64)) 1) (get_or-set_other words (k / 64) (i / 64) (bit_or word (2 ^ (k % 64))) 0 differs))

  pub one_more : marks_of more n ≡ set (marks_of words n) k true
  one_more =
      ext_get_or false (marks_of more n) (set (marks_of words n) k true) (marks_long more n ∙ sym (length-set (marks_of words n) k true ∙ marks_long words n))
      (λ i within.
      let below : i < n = subst (λ (l : ℕ). i < l) (marks_long more n) within in
      let long_marks = marks_long words n in
      same_or_other_index (get_or (marks_of more n) i false ≡ get_or (set (marks_of words n) k true) i false) i k
      (λ same.
      mark_read more n i below
      ∙ (ap (bit_of more) same ∙ (here ∙ sym (ap (λ j. get_or (set (marks_of words n) k true) j false) same ∙ get_or-set_same (marks_of words n) k true false (omega (arith, low, long_marks))))))
      (λ differs.
      mark_read more n i below
      ∙ (elsewhere i differs ∙ (sym (mark_read words n i below) ∙ sym (get_or-set_other (marks_of words n) k i true false differs)))))

-- ---- what the code reads

pub past_end : (words : List ℕ) (n k : ℕ) → n ≤ k → nat_lt k n ≡ get_or (marks_of words n) k false
past_end words n k past = let none : nat_lt k n ≡ false = grind (arith, nat_tests) in none ∙ sym (mark_past words n k past)

pub joined_views : (a b new : List ℕ) (n m : ℕ) (self others : List Bool) → marks_of a n ≡ self → marks_of b m ≡ others → length self ≡ length others
    → ((j : ℕ) → get_or new j 0 ≡ bit_or (get_or a j 0) (get_or b j 0)) → (k : ℕ) → IsMarked (marks_of new n) k ↔ (IsMarked self k ⊎ IsMarked others k)
joined_views a b new n m self others is are long joined k =
    let same : m ≡ n = sym (marks_long b m) ∙ (ap length are ∙ (sym long ∙ (sym (ap length is) ∙ marks_long a n))) in
    subst (λ (xs : List Bool). IsMarked (marks_of new n) k ↔ (IsMarked xs k ⊎ IsMarked others k)) is
    (subst (λ (ys : List Bool). IsMarked (marks_of new n) k ↔ (IsMarked (marks_of a n) k ⊎ IsMarked ys k)) (ap (marks_of b) (sym same) ∙ are) (joined_marks a b new n k joined))
