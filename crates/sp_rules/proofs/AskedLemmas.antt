-- A space takes from a lent task the operation at which the task stands, and no other; and as many instructions as a task made bring it to
-- where it is.
use mathlib.Core.Path.{sym, ap, subst}
use Rattle.std.specs.Prelude.{◌≡◌, refl, ℕ, zero, suc, ◌+◌, ◌≤◌, ◌==◌, ◌&&◌, not, Bool, true, List, [], ◌∷◌, ◌++◌, Some}
use Rattle.std.specs.Cmp.Lexicographic.{pointwise}
use Rattle.std.specs.Ordering.{int_eq}
use Rattle.std.specs.Str.{bytes_eq}
use Rattle.std.proofs.Common.{ℤ, arith}
use Rattle.std.proofs.lemmas.Bool.{false≢true, eqb-true}
use Rattle.std.proofs.lemmas.Bool.Decides.{Decides-int_eq}
use Rattle.std.proofs.lemmas.Slice.Eq.{bytes_eq-Decides}
use Rattle.space_ids.specs.declared.ids.Ref.{Ref}
use Rattle.space_ids.specs.declared.value.Value.{Value}
use Rattle.space_ids.specs.declared.value.Value.TheVariants as values
use Rattle.sp_rules.specs.Behaviours.{Op, Create, Get, Put, Call}
use Rattle.sp_rules.specs.Events.{Committed}
use Rattle.sp_rules.specs.Laws.{CommitsAreAsked, StepsAreMade}
use Rattle.sp_rules.specs.References.{is_same_reference, is_same_value}
use Rattle.sp_rules.specs.Refusals
use Rattle.sp_rules.specs.Refusals.{Check, first_refusal, refusal, is_same_op, stands_at}
use Rattle.sp_rules.specs.State.{task_at}
use Rattle.sp_rules.specs.Tasks.{Task, Stand, Runs, AsksFor, HasEnded, stand, step, step_at, steps}
use Rattle.sp_rules.proofs.OwnLemmas.{first-of, later, not-false, and-left, and-right, unrefused}

-- ---- what is the same is equal

pub pointwise-same : {A : Type 0} (f : A → A → Bool) → ((x y : A) → f x y ≡ true → x ≡ y) → (xs ys : List A) → pointwise f xs ys ≡ true → xs ≡ ys
pointwise-same f sound [] [] h = refl
pointwise-same f sound [] (y ∷ ys) h = absurd (false≢true h)
pointwise-same f sound (x ∷ xs) [] h = absurd (false≢true h)
pointwise-same f sound (x ∷ xs) (y ∷ ys) h =
    λ j. sound x y (and-left (f x y) (pointwise f xs ys) h) j ∷ pointwise-same f sound xs ys (and-right (f x y) (pointwise f xs ys) h) j

int-same : (m n : ℤ) → int_eq m n ≡ true → m ≡ n
int-same m n h = (Decides-int_eq m n).0 h

reference-same : (r q : Ref) → is_same_reference r q ≡ true → r ≡ q
reference-same r q h =
    let space = (bytes_eq-Decides r.space q.space).0 (and-left (bytes_eq r.space q.space) _ h) in
    let rest = and-right (bytes_eq r.space q.space) _ h in
    let id = eqb-true r.id.0 q.id.0 (and-left (r.id.0 == q.id.0) _ rest) in
    let class = eqb-true r.class.0 q.class.0 (and-right (r.id.0 == q.id.0) _ rest) in
    λ j. record { space = space j; id = record { 0 = id j }; class = record { 0 = class j } }

pub value-same : (v w : Value) → is_same_value v w ≡ true → v ≡ w
value-same values.Null values.Null h = refl
value-same values.Null (values.Int n) h = absurd (false≢true h)
value-same values.Null (values.Ints ns) h = absurd (false≢true h)
value-same values.Null (values.Ref q) h = absurd (false≢true h)
value-same (values.Int m) values.Null h = absurd (false≢true h)
value-same (values.Int m) (values.Int n) h = ap values.Int (int-same m n h)
value-same (values.Int m) (values.Ints ns) h = absurd (false≢true h)
value-same (values.Int m) (values.Ref q) h = absurd (false≢true h)
value-same (values.Ints ms) values.Null h = absurd (false≢true h)
value-same (values.Ints ms) (values.Int n) h = absurd (false≢true h)
value-same (values.Ints ms) (values.Ints ns) h = ap values.Ints (pointwise-same int_eq int-same ms ns h)
value-same (values.Ints ms) (values.Ref q) h = absurd (false≢true h)
value-same (values.Ref r) values.Null h = absurd (false≢true h)
value-same (values.Ref r) (values.Int n) h = absurd (false≢true h)
value-same (values.Ref r) (values.Ints ns) h = absurd (false≢true h)
value-same (values.Ref r) (values.Ref q) h = ap values.Ref (reference-same r q h)

op-same : (a b : Op) → is_same_op a b ≡ true → a ≡ b
op-same (Create class) (Create other) h = let same = eqb-true class.0 other.0 h in λ j. Create (record { 0 = same j })
op-same (Create class) (Get other place) h = absurd (false≢true h)
op-same (Create class) (Put other place another) h = absurd (false≢true h)
op-same (Create class) (Call target method arguments) h = absurd (false≢true h)
op-same (Get object slot) (Create other) h = absurd (false≢true h)
op-same (Get object slot) (Get other place) h =
    let id = eqb-true object.0 other.0 (and-left (object.0 == other.0) (slot == place) h) in
    let at = eqb-true slot place (and-right (object.0 == other.0) (slot == place) h) in
    λ j. Get (record { 0 = id j }) (at j)
op-same (Get object slot) (Put other place another) h = absurd (false≢true h)
op-same (Get object slot) (Call target method arguments) h = absurd (false≢true h)
op-same (Put object slot value) (Create other) h = absurd (false≢true h)
op-same (Put object slot value) (Get other place) h = absurd (false≢true h)
op-same (Put object slot value) (Put other place another) h =
    let id = eqb-true object.0 other.0 (and-left (object.0 == other.0) (slot == place && is_same_value value another) h) in
    let rest = and-right (object.0 == other.0) (slot == place && is_same_value value another) h in
    let at = eqb-true slot place (and-left (slot == place) (is_same_value value another) rest) in
    let same = value-same value another (and-right (slot == place) (is_same_value value another) rest) in
    λ j. Put (record { 0 = id j }) (at j) (same j)
op-same (Put object slot value) (Call target method arguments) h = absurd (false≢true h)
op-same (Call target method arguments) (Create other) h = absurd (false≢true h)
op-same (Call target method arguments) (Get other place) h = absurd (false≢true h)
op-same (Call target method arguments) (Put other place another) h = absurd (false≢true h)
op-same (Call target method arguments) (Call other another more) h = absurd (false≢true h)

-- ---- commits

asks-at : (op : Op) (at : Stand) → stands_at op (Some at) ≡ true → at ≡ AsksFor op
asks-at op Runs h = absurd (false≢true h)
asks-at op (AsksFor asked) h = ap AsksFor (op-same asked op h)
asks-at op (HasEnded outcome) h = absurd (false≢true h)

pub commits_are_asked : CommitsAreAsked
commits_are_asked g lent s task k op t taken there = asks-at op (stand (steps k t.task)) (subst (λ x. stands_at op (Refusals.stand_after k x) ≡ true) there stands)
  where
    asks : List Check
    asks = Refusals.refuse_if (not (stands_at op (Refusals.stand_after k (task_at s task)))) Refusals.WrongKind

    fits : List Check
    fits = Refusals.refuse_if (not (Refusals.fits_store g s op)) Refusals.WrongKind

    kind : List Check
    kind = Refusals.refuse_if (not (Refusals.holds_op g (task_at s task) op)) Refusals.NotHeld

    stands : stands_at op (Refusals.stand_after k (task_at s task)) ≡ true
    stands = not-false (stands_at op (Refusals.stand_after k (task_at s task))) (first-of (not (stands_at op (Refusals.stand_after k (task_at s task)))) Refusals.WrongKind []
        (later fits asks (later kind (fits ++ asks) (later (Refusals.refuse_if (not (Refusals.is_in_hand lent s task)) Refusals.NotLent) (kind ++ (fits ++ asks)) (unrefused g lent s (Committed task k op) taken))))).0

-- ---- instructions

one-more : (at : Stand) (t : Task) → t.made ≤ (step_at at t).made
one-more Runs t = omega arith
one-more (AsksFor op) t = omega arith
one-more (HasEnded outcome) t = omega arith

made-grows : (k : ℕ) (t : Task) → t.made ≤ (steps k t).made
unfolding steps step
made-grows zero t = omega arith
made-grows (suc k) t =
    let first = one-more (stand t) t in
    let rest = made-grows k (step t) in
    omega (arith, first, rest)

-- one instruction more than those that it is known of
as-made-first : (k j : ℕ) (t : Task) (x : Stand) → stand t ≡ x → ((i : ℕ) (u : Task) → (steps k u).made ≡ u.made + i → steps k u ≡ steps i u)
    → (steps k (step t)).made ≡ t.made + j → steps k (step t) ≡ steps j t
unfolding steps step
as-made-first k zero t Runs is more e =
    let first : (step t).made ≡ t.made + 1 = ap (λ y. (step_at y t).made) is in
    let rest = made-grows k (step t) in
    absurd (omega (arith, e, first, rest))
as-made-first k (suc j) t Runs is more e =
    let first : (step t).made ≡ t.made + 1 = ap (λ y. (step_at y t).made) is in
    more j (step t) (omega (arith, e, first))
as-made-first k j t (AsksFor op) is more e =
    let stays : step t ≡ t = ap (λ y. step_at y t) is in
    subst (λ u. steps k u ≡ steps j t) (sym stays) (more j t (subst (λ u. (steps k u).made ≡ t.made + j) stays e))
as-made-first k j t (HasEnded outcome) is more e =
    let stays : step t ≡ t = ap (λ y. step_at y t) is in
    subst (λ u. steps k u ≡ steps j t) (sym stays) (more j t (subst (λ u. (steps k u).made ≡ t.made + j) stays e))

as-made : (k j : ℕ) (t : Task) → (steps k t).made ≡ t.made + j → steps k t ≡ steps j t
unfolding steps step
as-made zero j t e = let none : 0 ≡ j = omega (arith, e) in ap (λ n. steps n t) none
as-made (suc k) j t e = as-made-first k j t (stand t) refl (λ i u. as-made k i u) e

pub steps_are_made : StepsAreMade
steps_are_made t k j e = as-made k j t e
