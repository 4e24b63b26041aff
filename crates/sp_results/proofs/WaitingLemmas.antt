use Rattle.std.proofs.Common.{◌≡◌, ℕ, ◌+◌, ◌-◌, ◌≤◌, Bool, true, false, cond, List, [], ◌∷◌, ◌++◌, length, Option, None, Some, is_some, nat_eq, refl, sym, ap, subst, ◌∙◌, map, append_assoc, arith}
use Rattle.std.specs.Prelude.{◌||◌, ◌==◌, not}
use Rattle.std.specs.List.{IsDistinct, AllByRecursion, list_any}
use Rattle.std.specs.Cmp.{nat_eq_equiv}
use Rattle.std.specs.Borrow.{Bor}
use Rattle.std.specs.Map.Iter.{deref_pair}
use Rattle.std.specs.Map.{lookup, lookup_entry, keys_of, remove_entry}
use Rattle.std.proofs.lemmas.Bool.{eqb-true}
use Rattle.std.proofs.lemmas.List.{map-append, take_all}
use Rattle.std.proofs.lemmas.List.Folds.{list_any-append}
use Rattle.std.proofs.lemmas.Map.Keys.{IsDistinct-head, IsDistinct-tail, IsDistinct-cons, IsDistinct-push}
use Rattle.std.proofs.lemmas.Map.Made.{is_some-lookup}
use Rattle.lru.specs.LruCache.{LruCache, demoted, lru_cache, put_entries}
use Rattle.space_ids.specs.declared.value.Value.{Value}
use Rattle.sp_results.specs.Waiting.{is_waiting, of_task, row_of, without}

flip : (a b : ℕ) → nat_eq a b ≡ (b == a)
flip a b = nat_eq_equiv.symm a b

itself : (a : ℕ) → nat_eq a a ≡ true
itself a = nat_eq_equiv.refl a

-- what is found is what waits
pub waits : (task : ℕ) (es : List (ℕ × Option Value)) → is_some (lookup (nat_eq task) es) ≡ is_waiting es task
waits task [] = refl
waits task (e ∷ es) =
    elim (nat_eq task e.0) as (λ t. nat_eq task e.0 ≡ t → is_some (cond t (Some e.1) (lookup (nat_eq task) es)) ≡ (e.0 == task || is_waiting es task)) [
      | true ↦ λ here. sym (ap (λ t. t || is_waiting es task) (sym (flip task e.0) ∙ here))
      | false ↦ λ apart. waits task es ∙ sym (ap (λ t. t || is_waiting es task) (sym (flip task e.0) ∙ apart))
    ] refl

none-waits : (o : Option (Option Value)) → is_some o ≡ false → o ≡ None
none-waits None h = refl
none-waits (Some v) h = cc

pub absent-from : (task : ℕ) (es : List (ℕ × Option Value)) → is_waiting es task ≡ false → lookup (nat_eq task) es ≡ None
absent-from task es none = none-waits (lookup (nat_eq task) es) (waits task es ∙ none)

-- a list that does not have the key is all others
all-others : (task : ℕ) (es : List (ℕ × Option Value)) → AllByRecursion (λ k. nat_eq task k ≡ false) (keys_of es) → without task es ≡ es
all-others task [] h = refl
all-others task (e ∷ es) h =
    ap (λ t. cond (not t) (e ∷ without task es) (without task es)) (sym (flip task e.0) ∙ h.0) ∙ ap (λ rs. e ∷ rs) (all-others task es h.1)

absent-same : (a b : ℕ) (ks : List ℕ) → a ≡ b → AllByRecursion (λ k. nat_eq a k ≡ false) ks → AllByRecursion (λ k. nat_eq b k ≡ false) ks
absent-same a b ks same h = subst (λ (x : ℕ). AllByRecursion (λ k. nat_eq x k ≡ false) ks) same h

-- the entry of a key that goes is the only one of that key
pub removed : (task : ℕ) (es : List (ℕ × Option Value)) → IsDistinct nat_eq (keys_of es) → remove_entry (nat_eq task) es ≡ without task es
removed task [] distinct = refl
removed task (e ∷ es) distinct =
    elim (nat_eq task e.0) as (λ t. nat_eq task e.0 ≡ t → cond t es (e ∷ remove_entry (nat_eq task) es) ≡ cond (not (e.0 == task)) (e ∷ without task es) (without task es)) [
      | true ↦ λ here.
          sym (ap (λ t. cond (not t) (e ∷ without task es) (without task es)) (sym (flip task e.0) ∙ here)
          ∙ all-others task es (absent-same e.0 task (keys_of es) (sym (eqb-true task e.0 here)) (IsDistinct-head nat_eq e.0 (keys_of es) distinct)))
      | false ↦ λ apart.
          ap (λ rs. e ∷ rs) (removed task es (IsDistinct-tail nat_eq e.0 (keys_of es) distinct))
          ∙ sym (ap (λ t. cond (not t) (e ∷ without task es) (without task es)) (sym (flip task e.0) ∙ apart))
    ] refl

none-of : (task : ℕ) (es : List (ℕ × Option Value)) → AllByRecursion (λ k. nat_eq task k ≡ false) (keys_of es) → of_task task es ≡ []
none-of task [] h = refl
none-of task (e ∷ es) h = ap (λ t. cond t (e ∷ of_task task es) (of_task task es)) (sym (flip task e.0) ∙ h.0) ∙ none-of task es h.1

-- what is found of a key is the only one of it
pub found-only : (task : ℕ) (es : List (ℕ × Option Value)) → IsDistinct nat_eq (keys_of es) → of_task task es ≡ row_of task (lookup (nat_eq task) es)
found-only task [] distinct = refl
found-only task (e ∷ es) distinct =
    elim (nat_eq task e.0) as (λ t. nat_eq task e.0 ≡ t → cond (e.0 == task) (e ∷ of_task task es) (of_task task es) ≡ row_of task (cond t (Some e.1) (lookup (nat_eq task) es))) [
      | true ↦ λ here.
          let same : e.0 ≡ task = sym (eqb-true task e.0 here) in
          let others : of_task task es ≡ [] = none-of task es (absent-same e.0 task (keys_of es) same (IsDistinct-head nat_eq e.0 (keys_of es) distinct)) in
          ap (λ t. cond t (e ∷ of_task task es) (of_task task es)) (sym (flip task e.0) ∙ here) ∙ (λ j. (same j, e.1) ∷ others j)
      | false ↦ λ apart. ap (λ t. cond t (e ∷ of_task task es) (of_task task es)) (sym (flip task e.0) ∙ apart) ∙ found-only task es (IsDistinct-tail nat_eq e.0 (keys_of es) distinct)
    ] refl

absent-removed : (task k : ℕ) (es : List (ℕ × Option Value)) → AllByRecursion (λ x. nat_eq k x ≡ false) (keys_of es)
    → AllByRecursion (λ x. nat_eq k x ≡ false) (keys_of (remove_entry (nat_eq task) es))
absent-removed task k [] h = h
absent-removed task k (e ∷ es) h =
    elim (nat_eq task e.0) as (λ t. AllByRecursion (λ x. nat_eq k x ≡ false) (keys_of (cond t es (e ∷ remove_entry (nat_eq task) es))))
    [ true ↦ h.1 | false ↦ (h.0, absent-removed task k es h.1) ]

pub distinct-removed : (task : ℕ) (es : List (ℕ × Option Value)) → IsDistinct nat_eq (keys_of es) → IsDistinct nat_eq (keys_of (remove_entry (nat_eq task) es))
distinct-removed task [] distinct = distinct
distinct-removed task (e ∷ es) distinct =
    let tail = IsDistinct-tail nat_eq e.0 (keys_of es) distinct in
    elim (nat_eq task e.0) as (λ t. IsDistinct nat_eq (keys_of (cond t es (e ∷ remove_entry (nat_eq task) es)))) [
      | true ↦ tail
      | false ↦ IsDistinct-cons nat_eq e.0 (keys_of (remove_entry (nat_eq task) es)) (absent-removed task e.0 es (IsDistinct-head nat_eq e.0 (keys_of es) distinct)) (distinct-removed task es tail)
    ]

-- a new result is put before all others, and then goes after them
entry-none : (task : ℕ) (es : List (ℕ × Option Value)) → lookup (nat_eq task) es ≡ None → lookup_entry (nat_eq task) es ≡ None
entry-none task [] absent = refl
entry-none task (e ∷ es) absent =
    elim (nat_eq task e.0) as (λ t. cond t (Some e.1) (lookup (nat_eq task) es) ≡ None → cond t (Some e) (lookup_entry (nat_eq task) es) ≡ None) [
      | true ↦ λ none. cc
      | false ↦ λ none. entry-none task es none
    ] absent

held-last : (task : ℕ) (v : Option Value) (cache : LruCache ℕ (Option Value)) → lookup (nat_eq task) cache.entries ≡ None
    → length cache.entries + 1 ≤ cache.cap → demoted (nat_eq task) (put_entries nat_eq cache task v) ≡ cache.entries ++ (task, v) ∷ []
held-last task v cache absent fits =
    let few : length cache.entries ≤ cache.cap - 1 = omega arith in
    let put : put_entries nat_eq cache task v ≡ (task, v) ∷ cache.entries =
    rw (entry-none task cache.entries absent) (ap (λ es. (task, v) ∷ es) (take_all (cache.cap - 1) cache.entries few)) in
    rw (put, itself task) refl

pub held-after : (task : ℕ) (v : Option Value) (cache put new : LruCache ℕ (Option Value)) → lookup (nat_eq task) cache.entries ≡ None
    → length cache.entries + 1 ≤ cache.cap → put ≡ lru_cache (put_entries nat_eq cache task v) cache.cap → new ≡ lru_cache (demoted (nat_eq task) put.entries) put.cap
    → (new.entries ≡ cache.entries ++ (task, v) ∷ []) × (new.cap ≡ cache.cap)
held-after task v cache put new absent fits at_first then = (
  ap (λ (l : LruCache ℕ (Option Value)). l.entries) then
      ∙ ap (λ (l : LruCache ℕ (Option Value)). demoted (nat_eq task) l.entries) at_first
      ∙ held-last task v cache absent fits,
  ap (λ (l : LruCache ℕ (Option Value)). l.cap) then ∙ ap (λ (l : LruCache ℕ (Option Value)). l.cap) at_first,
)

keys-push : (es : List (ℕ × Option Value)) (e : ℕ × Option Value) → keys_of (es ++ e ∷ []) ≡ keys_of es ++ e.0 ∷ []
keys-push [] e = refl
keys-push (x ∷ es) e = ap (λ (ks : List ℕ). x.0 ∷ ks) (keys-push es e)

pub distinct-held : (task : ℕ) (v : Option Value) (es : List (ℕ × Option Value)) → IsDistinct nat_eq (keys_of es) → lookup (nat_eq task) es ≡ None
    → IsDistinct nat_eq (keys_of (es ++ (task, v) ∷ []))
distinct-held task v es distinct absent =
    rw (keys-push es (task, v)) (IsDistinct-push nat_eq_equiv (keys_of es) task distinct (sym (is_some-lookup (nat_eq task) es) ∙ ap (λ o. is_some o) absent))

-- ---- results one by one

or-false : (b : Bool) → (b || false) ≡ b
or-false true = refl
or-false false = refl

pub named-more : (p : ℕ × Option Value → Bool) (ys : List (Bor ℕ × Bor (Option Value))) (y : Bor ℕ × Bor (Option Value)) (a b d : Bool)
    → b ≡ (a || list_any p (map deref_pair ys)) → d ≡ (b || p (deref_pair y)) → d ≡ (a || list_any p (map deref_pair (ys ++ y ∷ [])))
named-more p ys y a b d so_far now =
    let more : list_any p (map deref_pair (ys ++ y ∷ [])) ≡ (list_any p (map deref_pair ys) || p (deref_pair y)) =
    ap (list_any p) (map-append deref_pair ys (y ∷ [])) ∙ list_any-append p (map deref_pair ys) (deref_pair y ∷ [])
    ∙ ap (λ t. list_any p (map deref_pair ys) || t) (or-false (p (deref_pair y))) in
    now ∙ ap (λ t. t || p (deref_pair y)) so_far ∙ or-or a (list_any p (map deref_pair ys)) (p (deref_pair y)) ∙ sym (ap (λ t. a || t) more)
  where
    or-or : (a b c : Bool) → ((a || b) || c) ≡ (a || (b || c))
    or-or true b c = refl
    or-or false b c = refl

pub order-more : (ys : List (Bor ℕ × Bor (Option Value))) (y : Bor ℕ × Bor (Option Value)) (it next all : List (ℕ × Option Value))
    → it ≡ deref_pair y ∷ next → map deref_pair ys ++ it ≡ all → map deref_pair (ys ++ y ∷ []) ++ next ≡ all
order-more ys y it next all first whole =
    ap (λ rows. rows ++ next) (map-append deref_pair ys (y ∷ [])) ∙ append_assoc (map deref_pair ys) (deref_pair y ∷ []) next
    ∙ ap (λ rows. map deref_pair ys ++ rows) (sym first) ∙ whole

-- the next of them is one
pub found-here : (p : ℕ × Option Value → Bool) (ys : List (Bor ℕ × Bor (Option Value))) (y : Bor ℕ × Bor (Option Value)) (it next all : List (ℕ × Option Value))
    → it ≡ deref_pair y ∷ next → map deref_pair ys ++ it ≡ all → p (deref_pair y) ≡ true → true ≡ list_any p all
found-here p ys y it next all first whole here =
    sym (or-true (list_any p (map deref_pair ys))) ∙ (λ j. list_any p (map deref_pair ys) || (sym here j || list_any p next))
    ∙ sym (list_any-append p (map deref_pair ys) (deref_pair y ∷ next)) ∙ ap (λ rows. list_any p (map deref_pair ys ++ rows)) (sym first) ∙ ap (list_any p) whole
  where
    or-true : (b : Bool) → (b || true) ≡ true
    or-true true = refl
    or-true false = refl
