-- A task among those in hand, and those that are left without it.
use Rattle.std.proofs.Common.{arith, ◌≡◌, ◌==◌, ◌<◌, ◌+◌, ◌||◌, not, cond, ℕ, suc, Bool, true, false, List, [], ◌∷◌, length, Option, None, Some, if◌then◌else◌, sym, refl, ap, ◌∙◌, subst}
use Rattle.std.specs.Prelude.{is_some, nat_lt, position, remove}
use Rattle.std.specs.List.{position_or_len}
use Rattle.std.proofs.lemmas.Bool.{false≢true}
use Rattle.std.proofs.lemmas.Bool.Decides.{Decides-ltb}
use Rattle.std.proofs.lemmas.Option.{none-some, same_Some}
use Rattle.sp_book.specs.Passes.{has, without}

-- the first place at which the task stands, or the length
abbrev place : ℕ → List ℕ → ℕ
place task xs = position_or_len (λ x. x == task) xs

abbrev IsPlace : ℕ → List ℕ → ℕ → Type 0
IsPlace task xs i = (i < length xs) × (remove xs i ≡ without task xs)

one_more : (t : Bool) (x task i : ℕ) (xs : List ℕ) → (t || has task xs) ≡ true → (has task xs ≡ true → IsPlace task xs i)
    → (cond (not t) (1 + i) 0 < suc (length xs)) × (remove (x ∷ xs) (cond (not t) (1 + i) 0) ≡ (if t then xs else x ∷ without task xs))
one_more true x task i xs h rest = (omega arith, refl)
one_more false x task i xs h rest =
    let r = rest h in
    let next : 1 + i ≡ suc i = omega arith in
    let within : i < length xs = r.0 in
    (omega (arith, within), ap (remove (x ∷ xs)) next ∙ ap (λ l. x ∷ l) r.1)

placed : (task : ℕ) (xs : List ℕ) → has task xs ≡ true → IsPlace task xs (place task xs)
placed task [] h = absurd (false≢true h)
placed task (x ∷ xs) h = one_more (x == task) x task (place task xs) xs h (placed task xs)

at_place : (t : Bool) (task i at : ℕ) (xs : List ℕ) → cond t (Some i) None ≡ Some at → IsPlace task xs i → IsPlace task xs at
at_place true task i at xs e is = subst (IsPlace task xs) (same_Some i at e) is
at_place false task i at xs e is = absurd (none-some at e)

pub found : (task at : ℕ) (xs : List ℕ) → position (λ x. x == task) xs ≡ Some at → has task xs ≡ true → IsPlace task xs at
found task at xs e h = at_place (nat_lt (place task xs) (length xs)) task (place task xs) at xs e (placed task xs h)

no_place : (t : Bool) (i : ℕ) → cond t (Some i) None ≡ None → t ≡ true → ⊥
no_place true i e is = none-some i (sym e)
no_place false i e is = false≢true is

pub not_missing : (task : ℕ) (xs : List ℕ) → position (λ x. x == task) xs ≡ None → has task xs ≡ true → ⊥
not_missing task xs e h = no_place (nat_lt (place task xs) (length xs)) (place task xs) e ((Decides-ltb (place task xs) (length xs)).1 (placed task xs h).0)

-- ---- whether one is found

short : (t : Bool) (task : ℕ) (xs : List ℕ) → has task xs ≡ t → is_some (position (λ x. x == task) xs) ≡ t
short true task xs h = seen (position (λ x. x == task) xs) refl
  where
    seen : (o : Option ℕ) → position (λ x. x == task) xs ≡ o → is_some o ≡ true
    seen None e = absurd (not_missing task xs e h)
    seen (Some at) e = refl
short false task xs h = seen (position (λ x. x == task) xs) refl
  where
    here : (ys : List ℕ) → has task ys ≡ false → place task ys ≡ length ys
    here [] none = refl
    here (y ∷ ys) none = past (y == task) none (here ys)
      where
        past : (t : Bool) → (t || has task ys) ≡ false → (has task ys ≡ false → place task ys ≡ length ys) → cond (not t) (1 + place task ys) 0 ≡ suc (length ys)
        past true none rest = absurd (false≢true (sym none))
        past false none rest = let r = rest none in omega (arith, r)

    seen : (o : Option ℕ) → position (λ x. x == task) xs ≡ o → is_some o ≡ false
    seen None e = refl
    seen (Some at) e = absurd (let all = here xs h in let w = within (nat_lt (place task xs) (length xs)) refl e in omega (arith, all, w))
      where
        within : (t : Bool) → nat_lt (place task xs) (length xs) ≡ t → cond t (Some (place task xs)) None ≡ Some at → place task xs < length xs
        within true is e = (Decides-ltb (place task xs) (length xs)).0 is
        within false is e = absurd (none-some at e)

pub is_found : (task : ℕ) (xs : List ℕ) → is_some (position (λ x. x == task) xs) ≡ has task xs
is_found task xs = short (has task xs) task xs refl
