use Rattle.std.proofs.Common.{◌≡◌, ℕ, ◌+◌, ◌≤◌, ◌<◌, Bool, true, false, cond, List, [], ◌∷◌, ◌++◌, None, Some, is_some, nat_eq, refl, sym, ap, subst, ◌∙◌, map, append_assoc, arith}
use Rattle.std.specs.Prelude.{◌||◌, ◌==◌, IfSome, IsSomeAnd, Option, option_copied, not, Result, Ok, Err, OnOk, OnErr}
use Rattle.std.specs.List.{IsDistinct, AllByRecursion, list_any}
use Rattle.std.specs.Cmp.{nat_eq_equiv}
use Rattle.std.specs.Borrow.{Bor}
use Rattle.std.specs.Map.Iter.{deref_pair}
use Rattle.std.specs.Map.{keys_of, remove_entry, set_value}
use Rattle.std.proofs.lemmas.Bool.{eqb-true, false≢true, ne_eqb}
use Rattle.std.proofs.lemmas.List.{map-append}
use Rattle.std.proofs.lemmas.List.Folds.{list_any-append}
use Rattle.std.proofs.lemmas.Map.Keys.{IsDistinct-head, IsDistinct-tail, IsDistinct-push}
use Rattle.std.proofs.lemmas.Map.Made.{is_some-lookup}
use Rattle.sp_tasks.specs.Rows.{TaskRow, Hand, at_row, is_in_hand, row_of, without}
use Rattle.sp_tasks.proofs.SameLemmas.{and-right, record-same}

flip : (a b : ℕ) → nat_eq a b ≡ (b == a)
flip a b = nat_eq_equiv.symm a b

itself : (a : ℕ) → nat_eq a a ≡ true
itself a = nat_eq_equiv.refl a

-- ---- a row is changed

-- a value that is written at a key changes its row
pub written : (id : ℕ) (f : TaskRow → TaskRow) (row : TaskRow) (rows : List (ℕ × TaskRow)) → row_of id rows ≡ Some row → set_value (nat_eq id) rows (f row) ≡ at_row id f rows
written id f row [] found = cc
written id f row (e ∷ es) found =
    elim (nat_eq id e.0) as (λ t. nat_eq id e.0 ≡ t → cond t (Some e.1) (row_of id es) ≡ Some row → cond t ((e.0, f row) ∷ es) (e ∷ set_value (nat_eq id) es (f row)) ≡ at_row id f (e ∷ es)) [
      | true ↦ λ here found. (let same : e.1 ≡ row = cc in λ j. (e.0, f (sym same j)) ∷ es) ∙ sym (ap (λ t. cond t ((e.0, f e.1) ∷ es) (e ∷ at_row id f es)) (sym (flip id e.0) ∙ here))
      | false ↦ λ apart found. ap (λ rs. e ∷ rs) (written id f row es found) ∙ sym (ap (λ t. cond t ((e.0, f e.1) ∷ es) (e ∷ at_row id f es)) (sym (flip id e.0) ∙ apart))
    ] refl found

-- a row that is not there is not changed
pub unwritten : (id : ℕ) (f : TaskRow → TaskRow) (rows : List (ℕ × TaskRow)) → row_of id rows ≡ None → at_row id f rows ≡ rows
unwritten id f [] none = refl
unwritten id f (e ∷ es) none =
    elim (nat_eq id e.0) as (λ t. nat_eq id e.0 ≡ t → cond t (Some e.1) (row_of id es) ≡ None → at_row id f (e ∷ es) ≡ e ∷ es) [
      | true ↦ λ here none. cc
      | false ↦ λ apart none. ap (λ t. cond t ((e.0, f e.1) ∷ es) (e ∷ at_row id f es)) (sym (flip id e.0) ∙ apart) ∙ ap (λ rs. e ∷ rs) (unwritten id f es none)
    ] refl none

-- ---- a row goes

all-others : (id : ℕ) (es : List (ℕ × TaskRow)) → AllByRecursion (λ k. nat_eq id k ≡ false) (keys_of es) → without id es ≡ es
all-others id [] h = refl
all-others id (e ∷ es) h =
    ap (λ t. cond (not t) (e ∷ without id es) (without id es)) (sym (flip id e.0) ∙ h.0) ∙ ap (λ rs. e ∷ rs) (all-others id es h.1)

absent-same : (a b : ℕ) (ks : List ℕ) → a ≡ b → AllByRecursion (λ k. nat_eq a k ≡ false) ks → AllByRecursion (λ k. nat_eq b k ≡ false) ks
absent-same a b ks same h = subst (λ (x : ℕ). AllByRecursion (λ k. nat_eq x k ≡ false) ks) same h

-- the entry of a key that goes is the only one of that key
pub removed : (id : ℕ) (es : List (ℕ × TaskRow)) → IsDistinct nat_eq (keys_of es) → remove_entry (nat_eq id) es ≡ without id es
removed id [] distinct = refl
removed id (e ∷ es) distinct =
    elim (nat_eq id e.0) as (λ t. nat_eq id e.0 ≡ t → cond t es (e ∷ remove_entry (nat_eq id) es) ≡ cond (not (e.0 == id)) (e ∷ without id es) (without id es)) [
      | true ↦ λ here.
          sym (ap (λ t. cond (not t) (e ∷ without id es) (without id es)) (sym (flip id e.0) ∙ here)
          ∙ all-others id es (absent-same e.0 id (keys_of es) (sym (eqb-true id e.0 here)) (IsDistinct-head nat_eq e.0 (keys_of es) distinct)))
      | false ↦ λ apart.
          ap (λ rs. e ∷ rs) (removed id es (IsDistinct-tail nat_eq e.0 (keys_of es) distinct))
          ∙ sym (ap (λ t. cond (not t) (e ∷ without id es) (without id es)) (sym (flip id e.0) ∙ apart))
    ] refl

keys-push : (es : List (ℕ × TaskRow)) (e : ℕ × TaskRow) → keys_of (es ++ e ∷ []) ≡ keys_of es ++ e.0 ∷ []
keys-push [] e = refl
keys-push (x ∷ es) e = ap (λ (ks : List ℕ). x.0 ∷ ks) (keys-push es e)

pub distinct-started : (id : ℕ) (v : TaskRow) (es : List (ℕ × TaskRow)) → IsDistinct nat_eq (keys_of es) → row_of id es ≡ None
    → IsDistinct nat_eq (keys_of (es ++ (id, v) ∷ []))
distinct-started id v es distinct absent =
    rw (keys-push es (id, v)) (IsDistinct-push nat_eq_equiv (keys_of es) id distinct (sym (is_some-lookup (nat_eq id) es) ∙ ap (λ o. is_some o) absent))

-- ---- rows one by one

or-false : (b : Bool) → (b || false) ≡ b
or-false true = refl
or-false false = refl

pub named-more : (p : ℕ × TaskRow → Bool) (ys : List (Bor ℕ × Bor TaskRow)) (y : Bor ℕ × Bor TaskRow) (a b d : Bool)
    → b ≡ (a || list_any p (map deref_pair ys)) → d ≡ (b || p (deref_pair y)) → d ≡ (a || list_any p (map deref_pair (ys ++ y ∷ [])))
named-more p ys y a b d so_far now =
    let more : list_any p (map deref_pair (ys ++ y ∷ [])) ≡ (list_any p (map deref_pair ys) || p (deref_pair y)) =
    ap (list_any p) (map-append deref_pair ys (y ∷ [])) ∙ list_any-append p (map deref_pair ys) (deref_pair y ∷ [])
    ∙ ap (λ t. list_any p (map deref_pair ys) || t) (or-false (p (deref_pair y))) in
    now ∙ ap (λ t. t || p (deref_pair y)) so_far ∙ or-or a (list_any p (map deref_pair ys)) (p (deref_pair y)) ∙ sym (ap (λ t. a || t) more)
  where
    or-or : (a b c : Bool) → ((a || b) || c) ≡ (a || (b || c))
    or-or true b c = refl
    or-or false b c = refl

pub order-more : (ys : List (Bor ℕ × Bor TaskRow)) (y : Bor ℕ × Bor TaskRow) (it next all : List (ℕ × TaskRow))
    → it ≡ deref_pair y ∷ next → map deref_pair ys ++ it ≡ all → map deref_pair (ys ++ y ∷ []) ++ next ≡ all
order-more ys y it next all first whole =
    ap (λ rows. rows ++ next) (map-append deref_pair ys (y ∷ [])) ∙ append_assoc (map deref_pair ys) (deref_pair y ∷ []) next
    ∙ ap (λ rows. map deref_pair ys ++ rows) (sym first) ∙ whole

-- ---- ids below the last

pub above : (id made : ℕ) (es : List (ℕ × TaskRow)) → made < id → AllByRecursion (λ k. k ≤ made) (keys_of es) → row_of id es ≡ None
above id made [] lt all = refl
above id made (e ∷ es) lt all = let low : e.0 ≤ made = all.0 in
    ap (λ t. cond t (Some e.1) (row_of id es)) (ne_eqb id e.0 (λ same. omega (arith, low, lt, same))) ∙ above id made es lt all.1

pub made-started : (made : ℕ) (v : TaskRow) (es : List (ℕ × TaskRow)) → AllByRecursion (λ k. k ≤ made) (keys_of es) → AllByRecursion (λ k. k ≤ made + 1) (keys_of (es ++ (made + 1, v) ∷ []))
made-started made v [] all = (omega arith, tt)
made-started made v (e ∷ es) all = let low : e.0 ≤ made = all.0 in (omega (arith, low), made-started made v es all.1)

pub found-below : (id made : ℕ) (es : List (ℕ × TaskRow)) (v : TaskRow) → row_of id es ≡ Some v → AllByRecursion (λ k. k ≤ made) (keys_of es) → id ≤ made
found-below id made [] v found all = cc
found-below id made (e ∷ es) v found all =
    elim (nat_eq id e.0) as (λ b. nat_eq id e.0 ≡ b → cond b (Some e.1) (row_of id es) ≡ Some v → id ≤ made) [
      | true ↦ λ here f. let low : e.0 ≤ made = all.0 in let same : id ≡ e.0 = eqb-true id e.0 here in omega (arith, low, same)
      | false ↦ λ apart f. found-below id made es v f all.1
    ] refl found

-- the record of a task in hand is that of its row
pub hand-past : (row : TaskRow) (hand : Hand) → is_in_hand (Some row) hand ≡ true → row.past ≡ hand.past
hand-past row hand here = record-same row.past hand.past (and-right (row.steps == hand.steps) _ (and-right row.lent _ here))

-- what is found is below the last id that was given
pub found-made : (id made : ℕ) (es : List (ℕ × TaskRow)) (r : Option (Bor TaskRow)) → option_copied r ≡ row_of id es → AllByRecursion (λ k. k ≤ made) (keys_of es) → IfSome r (λ _. id ≤ made)
found-made id made es None found all = tt
found-made id made es (Some x) found all = found-below id made es x.now (sym found) all

-- a task that is lent does not wait
pub idle : {A : Type 0} (spare : Option A) (P : A → Type 0) → not (is_some spare) ≡ true → IsSomeAnd spare P → ⊥
idle None P lent some = some
idle (Some x) P lent some = false≢true lent

-- ---- results

pub on-ok : {A E : Type 0} (r : Result A E) (P Q : Type 0) → OnOk r P → (P → Q) → OnOk r Q
on-ok (Ok x) P Q p f = f p
on-ok (Err e) P Q p f = p

pub on-err : {A E : Type 0} (r : Result A E) (P Q : Type 0) → OnErr r P → (P → Q) → OnErr r Q
on-err (Ok x) P Q p f = p
on-err (Err e) P Q p f = f p
