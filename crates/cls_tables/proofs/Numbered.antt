-- Numbers of names with descriptors, and in how many bits they agree.
use Rattle.std.proofs.Common.{◌≡◌, ◌⊎◌, inl, inr, ℕ, zero, suc, ◌+◌, ◌-◌, ◌<◌, ◌%◌, ◌/◌, Bool, true, false, Some, None, List, [], ◌∷◌, ◌++◌, length, get_or, refl, sym, subst, ap, ◌∙◌, arith}
use Rattle.std.specs.Prelude.{◌&&◌, bytes_eq, nat_eq, option_map}
use Rattle.std.specs.List.{AllZip, position_or_len}
use Rattle.std.proofs.lemmas.Bool.Decides.{nat_tests}
use Rattle.std.proofs.lemmas.List.Sums.{fails_before_first, passes_at_first, position_or_len_is}
use Rattle.std.proofs.lemmas.List.{get_or_append_left, length-append}
use Rattle.std.proofs.Math.Seq.{get_or-append_seam}
use Rattle.std.proofs.lemmas.Option.{slice_get_cases}
use Rattle.std.proofs.lemmas.Slice.Eq.{bytes_eq-Decides}
use Rattle.cls_link.proofs.MethodNumbers.{zip_length}
use Rattle.cls_link.specs.Links.{declared_methods, method_at, Declared, IsLinked}
use Rattle.cls_link.specs.declared.linked_code.LinkedMethod.{LinkedMethod}
use Rattle.cls_link.specs.declared.linked_code.MethodId.{MethodId}
use Rattle.cls_set.proofs.Walks.{before}
use Rattle.cf_reader.specs.declared.class_file.Method.{Method}
use Rattle.cls_set.specs.declared.class.Class.{Class}
use Rattle.cls_tables.specs.Choices.{AreKeys}
use Rattle.cls_tables.specs.Kinds.{Starts}
use Rattle.cls_tables.specs.Numbers.{is_key, is_same, AreNumbered, Covers, IsNumber, Key}
use Rattle.cls_tables.specs.Trees.{agree}

same_some : {X : Type 0} {x y : X} → Some x ≡ Some y → x ≡ y
same_some e = cc

some_none_at : {X : Type 0} {x : X} → Some x ≡ None → ⊥
some_none_at e = cc

cases : (b : Bool) → (b ≡ true) ⊎ (b ≡ false)
cases true = inl refl
cases false = inr refl

both : (a b : Bool) → (a && b) ≡ true → (a ≡ true) × (b ≡ true)
both true true e = (refl, refl)
both true false e = absurd (let h : false ≡ true = e in cc)
both false b e = absurd (let h : false ≡ true = e in cc)

same_number : (n : ℕ) → nat_eq n n ≡ true
same_number n = grind (arith, nat_tests)

nat_is : (m n : ℕ) → nat_eq m n ≡ true → m ≡ n
nat_is m n e = grind (arith, nat_tests)

pub agree_same : (levels a : ℕ) → agree levels a a ≡ true
agree_same zero a = refl
agree_same (suc levels) a = ap (λ b. b && agree levels (a / 2) (a / 2)) (same_number (a % 2)) ∙ agree_same levels (a / 2)

halves : (a b : ℕ) → a % 2 ≡ b % 2 → a / 2 ≡ b / 2 → a ≡ b
halves a b low high = omega (arith, low, high)

half_less : (a count : ℕ) → a < count → a / 2 < count - count / 2
half_less a count h = omega (arith, h)

pub agree_is : (levels count a b : ℕ) → Covers levels count → a < count → b < count → agree levels a b ≡ true → a ≡ b
agree_is zero count a b covers low other e = omega (arith, covers, low, other)
agree_is (suc levels) count a b covers low other e =
    let p = both (nat_eq (a % 2) (b % 2)) (agree levels (a / 2) (b / 2)) e in
    halves a b (nat_is (a % 2) (b % 2) p.0) (agree_is levels (count - count / 2) (a / 2) (b / 2) covers (half_less a count low) (half_less b count other) p.1)

-- a number stands as keys are added
pub number_on : {old new : List Key} → Starts old new → (name descriptor : List ℕ) (x : ℕ) → IsNumber old name descriptor x → IsNumber new name descriptor x
number_on {old = []} {new = new} on name descriptor x is = let within = is.within in absurd (omega (arith, within))
number_on {old = none ∷ rest} {new = new} on name descriptor x is =
    let old = none ∷ rest in
    let p = is_key name descriptor in
    let both_long = length-append old on.more in
    let long = ap length on.is in
    let within = is.within in
    let first = is.first in
    let low : position_or_len p old < length old = subst (λ n. n < length old) first within in
    let at = λ (k : ℕ) (h : k < length old). ap (λ ks. get_or ks k none) on.is ∙ get_or_append_left old on.more none k h in
    let inside : x < length new = omega (arith, within, both_long, long) in
    record {
      first = sym (position_or_len_is p new x none (omega (arith, inside))
          (λ k less. ap p (at k (omega (arith, less, within))) ∙ fails_before_first p old k none (subst (λ n. k < n) first less))
          (λ _. ap p (at x within) ∙ (ap (λ n. p (get_or old n none)) first ∙ passes_at_first p old none low)));
      within = inside;
    }

-- a number more
pub number_added : (classes : List Class) (old new : List Key) (numbers more : List ℕ) (n x : ℕ) (m : Method) → length numbers ≡ n → Starts old new → method_at classes (record { 0 = n }) ≡ Some m
    → ((id : MethodId) (k : Method) → id.0 < n → method_at classes id ≡ Some k → IsNumber old k.name k.descriptor (get_or numbers id.0 0))
    → IsNumber new m.name m.descriptor x → more ≡ numbers ++ x ∷ []
    → (length more ≡ n + 1) × ((id : MethodId) (k : Method) → id.0 < n + 1 → method_at classes id ≡ Some k → IsNumber new k.name k.descriptor (get_or more id.0 0))
number_added classes old new numbers more n x m long on at so_far is pushed = (
  (let all = ap length pushed in let one = length-append numbers (x ∷ []) in omega (arith, all, one, long)),
  λ id k low there.
      elim (before id.0 n) [
        | inl less ↦
            subst (IsNumber new k.name k.descriptor) (sym (ap (λ xs. get_or xs id.0 0) pushed ∙ get_or_append_left numbers (x ∷ []) 0 id.0 (omega (arith, less, long))))
            (number_on on k.name k.descriptor (get_or numbers id.0 0) (so_far id k less there))
        | inr least ↦
            let same : n ≡ id.0 = omega (arith, least, low) in
            let last : id.0 ≡ length numbers = omega (arith, same, long) in
            let e : get_or more id.0 0 ≡ x = ap (λ xs. get_or xs id.0 0) pushed ∙ (ap (λ i. get_or (numbers ++ x ∷ []) i 0) last ∙ get_or-append_seam numbers x [] 0) in
            let here : m ≡ k = same_some (sym at ∙ (ap (λ (i : ℕ). method_at classes (record { 0 = i })) same ∙ there)) in
            subst (IsNumber new k.name k.descriptor) (sym e) (subst (λ (j : Method). IsNumber new j.name j.descriptor x) here is)
      ],
)

bytes_same : (a b : List ℕ) → bytes_eq a b ≡ true → a ≡ b
bytes_same a b e = (bytes_eq-Decides a b).0 e

bytes_yes : (a b : List ℕ) → a ≡ b → bytes_eq a b ≡ true
bytes_yes a b e = (bytes_eq-Decides a b).1 e

-- of one number are methods of one name and descriptor
same_key : (keys : List Key) (a b : Method) (x y : ℕ) → IsNumber keys a.name a.descriptor x → IsNumber keys b.name b.descriptor y → x ≡ y → is_same a b ≡ true
same_key [] a b x y is other e = let within = is.within in absurd (omega (arith, within))
same_key (none ∷ rest) a b x y is other e =
    let keys = none ∷ rest in
    let p = is_key a.name a.descriptor in
    let q = is_key b.name b.descriptor in
    let key = get_or keys x none in
    let yes : p key ≡ true = ap (λ n. p (get_or keys n none)) is.first ∙ passes_at_first p keys none (subst (λ n. n < length keys) is.first is.within) in
    let too : q key ≡ true = ap (λ n. q (get_or keys n none)) (e ∙ other.first) ∙ passes_at_first q keys none (subst (λ n. n < length keys) other.first other.within) in
    let ab = both (bytes_eq a.name key.0.now) (bytes_eq a.descriptor key.1.now) yes in
    let bb = both (bytes_eq b.name key.0.now) (bytes_eq b.descriptor key.1.now) too in
    let names : b.name ≡ a.name = bytes_same b.name key.0.now bb.0 ∙ sym (bytes_same a.name key.0.now ab.0) in
    let descriptors : b.descriptor ≡ a.descriptor = bytes_same b.descriptor key.1.now bb.1 ∙ sym (bytes_same a.descriptor key.1.now ab.1) in
    ap (λ t. t && bytes_eq b.descriptor a.descriptor) (bytes_yes b.name a.name names) ∙ bytes_yes b.descriptor a.descriptor descriptors

same_numbers : (keys : List Key) (a b : Method) (x y : ℕ) → IsNumber keys a.name a.descriptor x → IsNumber keys b.name b.descriptor y → is_same a b ≡ true → x ≡ y
same_numbers keys a b x y is other e =
    let t = both (bytes_eq b.name a.name) (bytes_eq b.descriptor a.descriptor) e in
    let names = bytes_same b.name a.name t.0 in
    let descriptors = bytes_same b.descriptor a.descriptor t.1 in
    is.first
    ∙ (ap (λ n. position_or_len (is_key n a.descriptor) keys) (sym names)
    ∙ (ap (λ n. position_or_len (is_key b.name n) keys) (sym descriptors) ∙ sym other.first))

-- agreement tells of names and descriptors
pub keys_told : (classes : List Class) (count levels : ℕ) (numbers : List ℕ) → AreNumbered classes count numbers → Covers levels count
    → ((id : MethodId) (m : Method) → method_at classes id ≡ Some m → id.0 < count) → AreKeys classes levels numbers
keys_told classes count levels numbers have covers within = record {
  told = λ i j a b at there.
      let few = have.few in
      let is = have.number i a (within i a at) at in
      let other = have.number j b (within j b there) there in
      let x = get_or numbers i.0 0 in
      let y = get_or numbers j.0 0 in
      let low = is.within in
      let high = other.within in
      elim (cases (is_same a b)) [
        | inl alike ↦
            let e = same_numbers have.keys a b x y is other alike in
            ap (agree levels x) (sym e) ∙ (agree_same levels x ∙ sym alike)
        | inr unlike ↦
            elim (cases (agree levels x y)) [
              | inl t ↦
                  let e = agree_is levels count x y covers (omega (arith, low, few)) (omega (arith, high, few)) t in
                  t ∙ sym (same_key have.keys a b x y is other e)
              | inr f ↦ f ∙ sym unlike
            ]
      ];
}

-- a method that is declared has its number
pub method_within : (classes : List Class) (ms : List LinkedMethod) → AllZip (IsLinked classes) (declared_methods classes) ms → (id : MethodId) (m : Method) → method_at classes id ≡ Some m → id.0 < length ms
method_within classes ms all id m at =
    let long = zip_length classes (declared_methods classes) ms all in
    elim (slice_get_cases (declared_methods classes) id.0).1 [
      | inl r ↦ let low = r.1 in omega (arith, low, long)
      | inr r ↦ absurd (some_none_at (sym at ∙ ap (option_map (λ (d : Declared). d.method)) r.1))
    ]
