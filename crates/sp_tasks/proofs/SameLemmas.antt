use Rattle.std.proofs.Common.{◌≡◌, ℕ, zero, suc, ◌+◌, ◌<◌, Bool, true, false, List, [], ◌∷◌, length, drop, get_or, Option, None, Some, refl, ap, ◌∙◌, ℤ, add-one, arith}
use Rattle.std.specs.Prelude.{◌&&◌, ◌==◌}
use mathlib.Core.Bool.{beq}
use Rattle.std.specs.Cmp.Lexicographic.{pointwise}
use Rattle.std.specs.Ordering.{int_eq}
use Rattle.std.specs.Str.{bytes_eq}
use Rattle.std.proofs.lemmas.Bool.{eq-eqb, eqb-true, false≢true}
use Rattle.std.proofs.lemmas.Bool.Decides.{Decides-int_eq}
use Rattle.std.proofs.lemmas.Slice.Eq.{bytes_eq-Decides}
use Rattle.space_ids.specs.declared.ids.ClassId.{ClassId}
use Rattle.space_ids.specs.declared.value.Value.{Value}
use Rattle.space_ids.specs.declared.value.Value.TheVariants as values
use Rattle.sp_rules.specs.Behaviours.{Reply, Gives, GivesBack, Throws, RunsOut}
use Rattle.sp_rules.specs.References.{is_same_value}
use Rattle.sp_rules.specs.State.{Beginning, Given}
use Rattle.sp_rules.proofs.AskedLemmas.{pointwise-same, value-same}
use Rattle.sp_tasks.specs.Recorded.{Recorded}
use Rattle.sp_tasks.specs.Same.{is_beginning, is_given, is_recorded, is_reply, is_result}

-- what is left to compare at an index is what stands there, and what is left after it
pub compare-at : {A : Type 0} (f : A → A → Bool) (xs ys : List A) (i : ℕ) (d e : A) → i < length xs → i < length ys
    → pointwise f (drop i xs) (drop i ys) ≡ (f (get_or xs i d) (get_or ys i e) && pointwise f (drop (i + 1) xs) (drop (i + 1) ys))
compare-at f [] ys i d e within also = absurd (omega arith)
compare-at f (x ∷ xs) [] i d e within also = absurd (omega arith)
compare-at f (x ∷ xs) (y ∷ ys) zero d e within also = refl
compare-at f (x ∷ xs) (y ∷ ys) (suc i) d e within also = compare-at f xs ys i d e (omega arith) (omega arith) ∙ rw (add-one, add-one) refl

-- lists of two lengths differ
pub apart : {A : Type 0} (f : A → A → Bool) (xs ys : List A) → (length xs ≡ length ys → ⊥) → pointwise f xs ys ≡ false
apart f [] [] h = absurd (h refl)
apart f [] (y ∷ ys) h = refl
apart f (x ∷ xs) [] h = refl
apart f (x ∷ xs) (y ∷ ys) h = ap (λ t. f x y && t) (apart f xs ys (λ same. h (ap suc same))) ∙ and-false (f x y)
  where
    and-false : (t : Bool) → (t && false) ≡ false
    and-false true = refl
    and-false false = refl

-- ---- what is the same is equal

pub and-left : (a b : Bool) → (a && b) ≡ true → a ≡ true
and-left true b h = refl
and-left false b h = h

pub and-right : (a b : Bool) → (a && b) ≡ true → b ≡ true
and-right true b h = h
and-right false b h = absurd (false≢true h)

result-same : (v w : Option Value) → is_result v w ≡ true → v ≡ w
result-same None None h = refl
result-same None (Some w) h = absurd (false≢true h)
result-same (Some v) None h = absurd (false≢true h)
result-same (Some v) (Some w) h = ap Some (value-same v w h)

class-same : (a b : ClassId) → (a.0 == b.0) ≡ true → a ≡ b
class-same a b h = let e = eqb-true a.0 b.0 h in λ j. record { 0 = e j }

reply-same : (r q : Reply) → is_reply r q ≡ true → r ≡ q
reply-same (Gives v) (Gives w) h = ap Gives (result-same v w h)
reply-same (Gives v) (GivesBack w left) h = absurd (false≢true h)
reply-same (Gives v) (Throws class) h = absurd (false≢true h)
reply-same (Gives v) RunsOut h = absurd (false≢true h)
reply-same (GivesBack v fuel) (Gives w) h = absurd (false≢true h)
reply-same (GivesBack v fuel) (GivesBack w left) h =
    let value = result-same v w (and-left (is_result v w) (fuel == left) h) in
    let rest = eqb-true fuel left (and-right (is_result v w) (fuel == left) h) in
    λ j. GivesBack (value j) (rest j)
reply-same (GivesBack v fuel) (Throws class) h = absurd (false≢true h)
reply-same (GivesBack v fuel) RunsOut h = absurd (false≢true h)
reply-same (Throws class) (Gives w) h = absurd (false≢true h)
reply-same (Throws class) (GivesBack w left) h = absurd (false≢true h)
reply-same (Throws class) (Throws other) h = ap Throws (class-same class other h)
reply-same (Throws class) RunsOut h = absurd (false≢true h)
reply-same RunsOut (Gives w) h = absurd (false≢true h)
reply-same RunsOut (GivesBack w left) h = absurd (false≢true h)
reply-same RunsOut (Throws class) h = absurd (false≢true h)
reply-same RunsOut RunsOut h = refl

bool-same : (a b : Bool) → beq a b ≡ true → a ≡ b
bool-same true true h = refl
bool-same true false h = absurd (false≢true h)
bool-same false true h = absurd (false≢true h)
bool-same false false h = refl

given-same : (a b : Given) → is_given a b ≡ true → a ≡ b
given-same a b h =
    let steps = eqb-true a.steps b.steps (and-left (a.steps == b.steps) _ h) in
    let rest = and-right (a.steps == b.steps) _ h in
    let lent = bool-same a.lent b.lent (and-left (beq a.lent b.lent) _ rest) in
    let reply = reply-same a.reply b.reply (and-right (beq a.lent b.lent) _ rest) in
    λ j. record { steps = steps j; lent = lent j; reply = reply j }

beginning-same : (a b : Beginning) → is_beginning a b ≡ true → a ≡ b
beginning-same a b h =
    let method = eqb-true a.method b.method (and-left (a.method == b.method) _ h) in
    let rest = and-right (a.method == b.method) _ h in
    let fuel = eqb-true a.fuel b.fuel (and-left (a.fuel == b.fuel) _ rest) in
    let arguments = pointwise-same is_same_value value-same a.arguments b.arguments (and-right (a.fuel == b.fuel) _ rest) in
    λ j. record { method = method j; arguments = arguments j; fuel = fuel j }

-- records that are found the same are equal
pub record-same : (a b : Recorded) → is_recorded a b ≡ true → a ≡ b
record-same a b h =
    let began = beginning-same a.began b.began (and-left (is_beginning a.began b.began) _ h) in
    let given = pointwise-same is_given given-same a.given b.given (and-right (is_beginning a.began b.began) _ h) in
    λ j. record { began = began j; given = given j }

-- ---- what is equal is the same

both : (a b : Bool) → a ≡ true → b ≡ true → (a && b) ≡ true
both a b x y = (λ j. x j && b) ∙ y

pointwise-itself : {A : Type 0} (f : A → A → Bool) → ((x : A) → f x x ≡ true) → (xs : List A) → pointwise f xs xs ≡ true
pointwise-itself f same [] = refl
pointwise-itself f same (x ∷ xs) = both (f x x) (pointwise f xs xs) (same x) (pointwise-itself f same xs)

eqb-itself : (n : ℕ) → (n == n) ≡ true
eqb-itself n = eq-eqb n n refl

int-itself : (n : ℤ) → int_eq n n ≡ true
int-itself n = (Decides-int_eq n n).1 refl

value-itself : (v : Value) → is_same_value v v ≡ true
value-itself values.Null = refl
value-itself (values.Int n) = int-itself n
value-itself (values.Ints ns) = pointwise-itself int_eq int-itself ns
value-itself (values.Ref r) = both (bytes_eq r.space r.space) _ ((bytes_eq-Decides r.space r.space).1 refl) (both (r.id.0 == r.id.0) (r.class.0 == r.class.0) (eqb-itself r.id.0) (eqb-itself r.class.0))

result-itself : (v : Option Value) → is_result v v ≡ true
result-itself None = refl
result-itself (Some v) = value-itself v

reply-itself : (r : Reply) → is_reply r r ≡ true
reply-itself (Gives v) = result-itself v
reply-itself (GivesBack v fuel) = both (is_result v v) (fuel == fuel) (result-itself v) (eqb-itself fuel)
reply-itself (Throws class) = eqb-itself class.0
reply-itself RunsOut = refl

flag-itself : (b : Bool) → beq b b ≡ true
flag-itself true = refl
flag-itself false = refl

given-itself : (a : Given) → is_given a a ≡ true
given-itself a = both (a.steps == a.steps) _ (eqb-itself a.steps) (both (beq a.lent a.lent) _ (flag-itself a.lent) (reply-itself a.reply))

-- a record is found the same as itself
pub record-itself : (a : Recorded) → is_recorded a a ≡ true
record-itself a =
    both (is_beginning a.began a.began) _
    (both (a.began.method == a.began.method) _ (eqb-itself a.began.method) (both (a.began.fuel == a.began.fuel) _ (eqb-itself a.began.fuel) (pointwise-itself is_same_value value-itself a.began.arguments)))
    (pointwise-itself is_given given-itself a.given)
