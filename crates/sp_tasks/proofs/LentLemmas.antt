-- Which tasks are lent after a change of the rows, and after one call and then another.
use Rattle.std.proofs.Common.{◌≡◌, ℕ, ◌+◌, Bool, true, false, cond, nat_eq, List, [], ◌∷◌, ◌++◌, Option, None, Some, refl, sym, ap, ◌∙◌}
use Rattle.std.specs.Prelude.{not, ◌==◌, ◌&&◌, ◌||◌, IfSome, IfNone, option_map, unwrap_or, Result, Ok, Err, OnOk}
use Rattle.std.proofs.lemmas.Bool.{eqb-true, false≢true}
use Rattle.sp_tasks.specs.Lent.{KeepsLent, LendsNoMore, LendsToo, is_lent_in}
use Rattle.sp_tasks.specs.Rows.{Hand, TaskRow, TaskTable, at_row, hand_of, is_ready, lent_row, row_of, with_started, without}

abbrev flag : Option TaskRow → Bool
flag o = unwrap_or (option_map (λ (row : TaskRow). row.lent) o) false

-- ---- one call after another

pub lent-none : (a : TaskTable) → KeepsLent a a
lent-none a = record { lent = λ id. refl }

pub lent-same : {a b : TaskTable} → b ≡ a → KeepsLent a b
lent-same e = record { lent = λ id. ap (λ (t : TaskTable). is_lent_in id t) e }

pub lent-rows : {a b : TaskTable} → b.rows ≡ a.rows → KeepsLent a b
lent-rows e = record { lent = λ id. ap (λ (es : List (ℕ × TaskRow)). flag (row_of id es)) e }

pub lent-then : {a b c : TaskTable} → KeepsLent a b → KeepsLent b c → KeepsLent a c
lent-then x y = record { lent = λ id. y.lent id ∙ x.lent id }

-- nothing changes before, or after
pub lent-next : {a b c : TaskTable} → b ≡ a → KeepsLent b c → KeepsLent a c
lent-next e y = lent-then (lent-same e) y

pub lent-still : {a b c : TaskTable} → KeepsLent a b → c ≡ b → KeepsLent a c
lent-still x e = lent-then x (lent-same e)

-- a task is lent no more, and before and after that nothing changes
pub no-more-next : {task : ℕ} {a b c : TaskTable} → KeepsLent a b → LendsNoMore task b c → LendsNoMore task a c
no-more-next {task = task} x y = record { lent = λ id. y.lent id ∙ ap (λ t. not (id == task) && t) (x.lent id) }

pub no-more-still : {task : ℕ} {a b c : TaskTable} → LendsNoMore task a b → KeepsLent b c → LendsNoMore task a c
no-more-still x y = record { lent = λ id. y.lent id ∙ x.lent id }

-- what holds anyway holds if a call went well
pub on-any : {T E P : Type 0} (r : Result T E) → P → OnOk r P
on-any (Ok x) p = p
on-any (Err e) p = tt

-- ---- a row is changed

-- what is found after the change
pub row-at : (id q : ℕ) (f : TaskRow → TaskRow) (es : List (ℕ × TaskRow)) → row_of q (at_row id f es) ≡ cond (q == id) (option_map f (row_of q es)) (row_of q es)
row-at id q f [] = let none : Option TaskRow = None in elim (q == id) as (λ b. none ≡ cond b none none) [ true ↦ refl | false ↦ refl ]
row-at id q f (e ∷ es) =
    elim (e.0 == id) as (λ b. (e.0 == id) ≡ b → row_of q (cond b ((e.0, f e.1) ∷ es) (e ∷ at_row id f es)) ≡ cond (q == id) (option_map f (cond (nat_eq q e.0) (Some e.1) (row_of q es))) (cond (nat_eq q e.0) (Some e.1) (row_of q es))) [
      | true ↦ λ here. elim (nat_eq q e.0) as (λ b. nat_eq q e.0 ≡ b → cond b (Some (f e.1)) (row_of q es) ≡ cond (q == id) (option_map f (cond b (Some e.1) (row_of q es))) (cond b (Some e.1) (row_of q es))) [
        | true ↦ λ mine. sym (ap (λ b. cond b (Some (f e.1)) (Some e.1)) (ap (λ k. k == id) (eqb-true q e.0 mine) ∙ here))
        | false ↦ λ other. sym (ap (λ b. cond b (option_map f (row_of q es)) (row_of q es)) (ap (λ k. q == k) (sym (eqb-true e.0 id here)) ∙ other))
      ] refl
      | false ↦ λ apart. elim (nat_eq q e.0) as (λ b. nat_eq q e.0 ≡ b → cond b (Some e.1) (row_of q (at_row id f es)) ≡ cond (q == id) (option_map f (cond b (Some e.1) (row_of q es))) (cond b (Some e.1) (row_of q es))) [
        | true ↦ λ mine. sym (ap (λ b. cond b (Some (f e.1)) (Some e.1)) (ap (λ k. k == id) (eqb-true q e.0 mine) ∙ apart))
        | false ↦ λ other. row-at id q f es
      ] refl
    ] refl

flag-at : (id q : ℕ) (f : TaskRow → TaskRow) (old new : TaskTable) → new ≡ record old { rows = at_row id f old.rows }
    → is_lent_in q new ≡ flag (cond (q == id) (option_map f (row_of q old.rows)) (row_of q old.rows))
flag-at id q f old new is = ap (λ (t : TaskTable). is_lent_in q t) is ∙ ap flag (row-at id q f old.rows)

flag-kept : (f : TaskRow → TaskRow) → ((row : TaskRow) → (f row).lent ≡ row.lent) → (o : Option TaskRow) → flag (option_map f o) ≡ flag o
flag-kept f keeps None = refl
flag-kept f keeps (Some row) = keeps row

flag-lost : (f : TaskRow → TaskRow) → ((row : TaskRow) → (f row).lent ≡ false) → (o : Option TaskRow) → flag (option_map f o) ≡ false
flag-lost f loses None = refl
flag-lost f loses (Some row) = loses row

-- a row that stays lent as it was
pub lent-at : (id : ℕ) (f : TaskRow → TaskRow) (old new : TaskTable) → ((row : TaskRow) → (f row).lent ≡ row.lent) → new ≡ record old { rows = at_row id f old.rows } → KeepsLent old new
lent-at id f old new keeps is = record {
  lent = λ q.
      flag-at id q f old new is
      ∙ elim (q == id) as (λ b. flag (cond b (option_map f (row_of q old.rows)) (row_of q old.rows)) ≡ flag (row_of q old.rows)) [ true ↦ flag-kept f keeps (row_of q old.rows) | false ↦ refl ];
}

-- a row that is not lent afterwards
pub no-more-at : (id : ℕ) (f : TaskRow → TaskRow) (old new : TaskTable) → ((row : TaskRow) → (f row).lent ≡ false) → new ≡ record old { rows = at_row id f old.rows } → LendsNoMore id old new
no-more-at id f old new loses is = record {
  lent = λ q.
      flag-at id q f old new is
      ∙ elim (q == id) as (λ b. flag (cond b (option_map f (row_of q old.rows)) (row_of q old.rows)) ≡ (not b && flag (row_of q old.rows))) [ true ↦ flag-lost f loses (row_of q old.rows) | false ↦ refl ];
}

-- ---- a task is lent

no-one : (one : Hand) → None ≡ Some one → ⊥
no-one one e = cc

abbrev itself : ℕ → TaskRow → Hand
itself id row = record { id = id; past = row.past; steps = row.steps; made = 0; room = false }

-- what is found under the id is lent
flag-lent : (id : ℕ) (hand : Hand) (o : Option TaskRow) → Some hand ≡ hand_of id o → flag (option_map lent_row o) ≡ true
flag-lent id hand None at = cc
flag-lent id hand (Some row) at =
    elim row.waits as (λ w. Some hand ≡ cond (w || row.lent) None (Some (itself id row)) → (cond w row (record row { lent = true })).lent ≡ true) [
      | true ↦ λ none. absurd (no-one hand (sym none))
      | false ↦ λ some. refl
    ] at

-- what is not lent stays as it was
flag-free : (id : ℕ) (o : Option TaskRow) → None ≡ hand_of id o → flag (option_map lent_row o) ≡ flag o
flag-free id None none = refl
flag-free id (Some row) none =
    let nil : Option Hand = None in
    elim row.waits as (λ w. nil ≡ cond (w || row.lent) nil (Some (itself id row)) → (cond w row (record row { lent = true })).lent ≡ row.lent) [
      | true ↦ λ n. refl
      | false ↦ elim row.lent as (λ b. nil ≡ cond b nil (Some (itself id row)) → true ≡ b) [ true ↦ λ n. refl | false ↦ λ n. absurd (no-one (itself id row) n) ]
    ] none

-- the same of the row of a number that may be the id
at-id : (id q : ℕ) (old : TaskTable) → (q == id) ≡ true → row_of q old.rows ≡ row_of id old.rows
at-id id q old here = ap (λ k. row_of k old.rows) (eqb-true q id here)

pub lend-too : (id : ℕ) (old new : TaskTable) (r : Option Hand) → r ≡ hand_of id (row_of id old.rows) → new ≡ record old { rows = at_row id lent_row old.rows } → IfSome r (λ hand. LendsToo id old new)
lend-too id old new None at is = tt
lend-too id old new (Some hand) at is = record {
  lent = λ q.
      flag-at id q lent_row old new is
      ∙ elim (q == id) as (λ b. (q == id) ≡ b → flag (cond b (option_map lent_row (row_of q old.rows)) (row_of q old.rows)) ≡ (b || flag (row_of q old.rows))) [
        | true ↦ λ here. flag-lent id hand (row_of q old.rows) (at ∙ ap (hand_of id) (sym (at-id id q old here)))
        | false ↦ λ apart. refl
      ] refl;
}

pub lend-none : (id : ℕ) (old new : TaskTable) (r : Option Hand) → r ≡ hand_of id (row_of id old.rows) → new ≡ record old { rows = at_row id lent_row old.rows } → IfNone r (KeepsLent old new)
lend-none id old new (Some hand) at is = tt
lend-none id old new None at is = record {
  lent = λ q.
      flag-at id q lent_row old new is
      ∙ elim (q == id) as (λ b. (q == id) ≡ b → flag (cond b (option_map lent_row (row_of q old.rows)) (row_of q old.rows)) ≡ flag (row_of q old.rows)) [
        | true ↦ λ here. flag-free id (row_of q old.rows) (at ∙ ap (hand_of id) (sym (at-id id q old here)))
        | false ↦ λ apart. refl
      ] refl;
}

-- ---- a task starts

idle-row : (waits lent : Bool) → not (waits || lent) ≡ true → lent ≡ false
idle-row true lent free = absurd (false≢true free)
idle-row false true free = absurd (false≢true free)
idle-row false false free = refl

flag-more : (q n : ℕ) (row : TaskRow) (es : List (ℕ × TaskRow)) → row.lent ≡ false → flag (row_of q (es ++ (n, row) ∷ [])) ≡ flag (row_of q es)
flag-more q n row [] idle = elim (nat_eq q n) as (λ b. flag (cond b (Some row) None) ≡ false) [ true ↦ idle | false ↦ refl ]
flag-more q n row (e ∷ es) idle =
    elim (nat_eq q e.0) as (λ b. flag (cond b (Some e.1) (row_of q (es ++ (n, row) ∷ []))) ≡ flag (cond b (Some e.1) (row_of q es))) [ true ↦ refl | false ↦ flag-more q n row es idle ]

pub lent-started : (row : TaskRow) (old new : TaskTable) → is_ready row ≡ true → new ≡ with_started row old → KeepsLent old new
lent-started row old new ready is = record {
  lent = λ q. ap (λ (t : TaskTable). is_lent_in q t) is ∙ flag-more q (old.made + 1) row old.rows (idle-row row.waits row.lent ready);
}

-- ---- a task goes

flag-gone : (id q : ℕ) (es : List (ℕ × TaskRow)) → flag (row_of q (without id es)) ≡ (not (q == id) && flag (row_of q es))
flag-gone id q [] = elim (q == id) as (λ b. false ≡ (not b && false)) [ true ↦ refl | false ↦ refl ]
flag-gone id q (e ∷ es) =
    elim (e.0 == id) as (λ b. (e.0 == id) ≡ b → flag (row_of q (cond (not b) (e ∷ without id es) (without id es))) ≡ (not (q == id) && flag (cond (nat_eq q e.0) (Some e.1) (row_of q es)))) [
      | true ↦ λ here. elim (nat_eq q e.0) as (λ b. nat_eq q e.0 ≡ b → flag (row_of q (without id es)) ≡ (not (q == id) && flag (cond b (Some e.1) (row_of q es)))) [
        | true ↦ λ mine.
            let same : (q == id) ≡ true = ap (λ k. k == id) (eqb-true q e.0 mine) ∙ here in
            flag-gone id q es ∙ ap (λ b. not b && flag (row_of q es)) same ∙ sym (ap (λ b. not b && e.1.lent) same)
        | false ↦ λ other. flag-gone id q es
      ] refl
      | false ↦ λ apart. elim (nat_eq q e.0) as (λ b. nat_eq q e.0 ≡ b → flag (cond b (Some e.1) (row_of q (without id es))) ≡ (not (q == id) && flag (cond b (Some e.1) (row_of q es)))) [
        | true ↦ λ mine. let same : (q == id) ≡ false = ap (λ k. k == id) (eqb-true q e.0 mine) ∙ apart in sym (ap (λ b. not b && e.1.lent) same)
        | false ↦ λ other. flag-gone id q es
      ] refl
    ] refl

pub no-more-ended : (id : ℕ) (old new : TaskTable) → new ≡ record old { rows = without id old.rows } → LendsNoMore id old new
no-more-ended id old new is = record { lent = λ q. ap (λ (t : TaskTable). is_lent_in q t) is ∙ flag-gone id q old.rows }
