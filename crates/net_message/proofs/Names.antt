-- Tests of numbers and of names pass exactly what is in range.
use Rattle.std.proofs.Common.{◌≡◌, ℕ, ◌≤◌, Bool, true, List, [], ◌∷◌, length, refl}
use Rattle.std.specs.Prelude.{nat_le, IsTrue}
use Rattle.std.specs.List.{list_all, AllByRecursion}
use Rattle.std.proofs.lemmas.Bool.{leb-true, le-leb, and_parts, and_from}
use Rattle.registry_names.specs.Names.{is_name, is_name_byte}
use Rattle.net_message.specs.Wire.{IsName, is_within}

-- a number within bounds, and the test of it
pub within_true : (low high n : ℕ) → is_within low high n ≡ true → (low ≤ n) × (n ≤ high)
within_true low high n e = let p = and_parts (nat_le low n) (nat_le n high) e in (leb-true low n p.0, leb-true n high p.1)

pub true_within : (low high n : ℕ) → low ≤ n → n ≤ high → is_within low high n ≡ true
true_within low high n le ge = and_from (nat_le low n) (nat_le n high) (le-leb low n le) (le-leb n high ge)

all_true : (test : ℕ → Bool) (xs : List ℕ) → list_all test xs ≡ true → AllByRecursion (λ x. IsTrue (test x)) xs
all_true test [] e = tt
all_true test (x ∷ xs) e = let p = and_parts (test x) (list_all test xs) e in (p.0, all_true test xs p.1)

true_all : (test : ℕ → Bool) (xs : List ℕ) → AllByRecursion (λ x. IsTrue (test x)) xs → list_all test xs ≡ true
true_all test [] h = refl
true_all test (x ∷ xs) h = and_from (test x) (list_all test xs) h.0 (true_all test xs h.1)

pub name_true : (name : List ℕ) → is_name name ≡ true → IsName name
name_true name e =
    let p = and_parts (is_within 1 255 (length name)) (list_all is_name_byte name) e in
    let q = within_true 1 255 (length name) p.0 in
    (q.0, q.1, all_true is_name_byte name p.1)

pub true_name : (name : List ℕ) → IsName name → is_name name ≡ true
true_name name h = and_from (is_within 1 255 (length name)) (list_all is_name_byte name) (true_within 1 255 (length name) h.0 h.1) (true_all is_name_byte name h.2)
