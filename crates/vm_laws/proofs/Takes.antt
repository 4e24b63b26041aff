-- What an effect of the checker says if it passes: what it takes off the operands and what it puts on.
use Rattle.std.proofs.Common.{◌≡◌, ℕ, ◌+◌, ◌<◌, Bool, true, false, Option, Some, None, Result, Ok, Err, List, [], ◌∷◌, length, refl, sym, subst, ◌∙◌, arith}
use Rattle.std.specs.Prelude.{nat_lt, if◌then◌else◌, slice_get}
use Rattle.std.proofs.lemmas.Bool.Decides.{nat_tests}
use Rattle.ver_check.specs.Bodies.{Body}
use Rattle.ver_check.specs.Steps.{◌>>=◌, demand, found_or, give, give_all, local_type, passing, take, taken}
use Rattle.ver_rules.specs.Wants.{is_wanted, operand_fault}
use Rattle.ver_rules.specs.declared.fault.CheckRule.{CheckRule}
use Rattle.ver_rules.specs.declared.fault.CheckRule.TheVariants as rule
use Rattle.ver_rules.specs.declared.want.Want.{Want}
use Rattle.ver_frames.specs.Frames.{Frame}
use Rattle.ver_frames.specs.declared.vtype.VType.{VType}

abbrev pub Checked : Type 0 → Type 0
Checked A = Result A CheckRule

pub same_ok : {A : Type 0} {a b : A} → ◌≡◌ {A = Checked A} (Ok a) (Ok b) → a ≡ b
same_ok e = cc

pub no_error : {A : Type 0} {a : A} {broken : CheckRule} → ◌≡◌ {A = Checked A} (Err broken) (Ok a) → ⊥
no_error e = cc

-- two steps, one after the other
pub passes_then : {A B : Type 0} (r : Checked A) (k : A → Checked B) (y : B) → (r >>= k) ≡ Ok y → (x : A) × ((r ≡ Ok x) × (k x ≡ Ok y))
passes_then (Ok x) k y e = (x, (refl, e))
passes_then (Err broken) k y e = absurd (no_error e)

pub in_turn : {A B C : Type 0} (r : Checked A) (k : A → Checked B) (h : B → Checked C) → ((r >>= k) >>= h) ≡ (r >>= λ x. k x >>= h)
in_turn (Ok x) k h = refl
in_turn (Err broken) k h = refl

-- a test that passes
pub tested : {A : Type 0} (test : Bool) (x : A) (broken : CheckRule) (y : A) → ◌≡◌ {A = Checked A} (if test then Ok x else Err broken) (Ok y) → (test ≡ true) × (x ≡ y)
tested true x broken y e = (refl, same_ok e)
tested false x broken y e = absurd (no_error e)

pub found_is : {A : Type 0} (broken : CheckRule) (o : Option A) (x : A) → found_or broken o ≡ Ok x → o ≡ Some x
found_is broken None x e = absurd (no_error e)
found_is broken (Some a) x e = rw (same_ok e) refl

-- these types put on others, one after the other
abbrev pub put_on : List VType → List VType → List VType
put_on [] stack = stack
put_on (t ∷ types) stack = put_on types (t ∷ stack)

-- an operand is taken off a frame, and the rest goes on
pub record TakesOne {A : Type 0} (body : Body) (asked : Want) (f : Frame) (k : VType × Frame → Checked A) (y : A) : Type 0 where
  pub top : VType
  pub types : List VType
  pub stack : f.stack ≡ top ∷ types
  pub wanted : is_wanted body.classes asked top ≡ true
  pub further : k (top, record f { stack = types }) ≡ Ok y

module _ (body : Body) where
  taken_parts : {A : Type 0} (asked : Want) (locals stack : List VType) (flag : Bool) (k : VType × Frame → Checked A) (y : A)
      → (taken body asked (record { locals = locals; stack = stack; flag_this_uninit = flag }) >>= k) ≡ Ok y
      → TakesOne body asked (record { locals = locals; stack = stack; flag_this_uninit = flag }) k y
  unfolding taken
  taken_parts asked locals [] flag k y e = absurd (no_error e)
  taken_parts asked locals (t ∷ below) flag k y e = on (is_wanted body.classes asked t) refl e
    where
      on : (b : Bool) → is_wanted body.classes asked t ≡ b
          → ((if b then Ok (t, record { locals = locals; stack = below; flag_this_uninit = flag }) else Err (operand_fault asked t)) >>= k) ≡ Ok y
          → TakesOne body asked (record { locals = locals; stack = t ∷ below; flag_this_uninit = flag }) k y
      on true wanted e = record { top = t; types = below; stack = refl; wanted = wanted; further = e }
      on false wanted e = absurd (no_error e)

  pub taken_then : {A : Type 0} (asked : Want) (f : Frame) (k : VType × Frame → Checked A) (y : A) → (taken body asked f >>= k) ≡ Ok y → TakesOne body asked f k y
  taken_then asked f k y e = taken_parts asked f.locals f.stack f.flag_this_uninit k y e

  pub take_then : {A : Type 0} (asked : Want) (f : Frame) (k : Frame → Checked A) (y : A) → (take body asked f >>= k) ≡ Ok y → TakesOne body asked f (λ top. k top.1) y
  take_then asked f k y e = taken_then asked f (λ top. k top.1) y (sym (in_turn (taken body asked f) (λ top. Ok top.1) k) ∙ e)

  pub take_last : (asked : Want) (f y : Frame) → take body asked f ≡ Ok y → TakesOne body asked f (λ top. Ok top.1) y
  take_last asked f y e = taken_then asked f (λ top. Ok top.1) y e

  -- a type is put on, if there is room
  pub gives : (t : VType) (f y : Frame) → give body t f ≡ Ok y → (length f.stack < body.max_stack) × (record f { stack = t ∷ f.stack } ≡ y)
  unfolding give
  gives t f y e =
      let passed = tested (nat_lt (length f.stack) body.max_stack) (record f { stack = t ∷ f.stack }) rule.Overflow y e in
      let test = passed.0 in
      (grind (arith, nat_tests), passed.1)

  pub gives_all : (types : List VType) (f y : Frame) → give_all body types f ≡ Ok y → record f { stack = put_on types f.stack } ≡ y
  unfolding give_all
  gives_all [] f y e = same_ok e
  gives_all (t ∷ types) f y e =
      let first = passes_then (give body t f) (give_all body types) y e in
      let given = gives t f first.0 first.1.0 in
      gives_all types (record f { stack = t ∷ f.stack }) y (subst (λ (g : Frame). give_all body types g ≡ Ok y) (sym given.1) first.1.1)

  pub has_room : (t : VType) (types : List VType) (f y : Frame) → give_all body (t ∷ types) f ≡ Ok y → length f.stack + length types < body.max_stack
  unfolding give_all
  has_room t [] f y e =
      let first = passes_then (give body t f) (give_all body []) y e in
      let given = (gives t f first.0 first.1.0).0 in
      omega (arith, given)
  has_room t (u ∷ types) f y e =
      let first = passes_then (give body t f) (give_all body (u ∷ types)) y e in
      let given = gives t f first.0 first.1.0 in
      let more = has_room u types (record f { stack = t ∷ f.stack }) y (subst (λ (g : Frame). give_all body (u ∷ types) g ≡ Ok y) (sym given.1) first.1.1) in
      omega (arith, more)

  -- a local variable of what is asked
  pub local_is : (asked : Want) (n : ℕ) (f : Frame) (t : VType) → local_type body asked n f ≡ Ok t → (slice_get f.locals n ≡ Some t) × (is_wanted body.classes asked t ≡ true)
  unfolding local_type
  local_is asked n f t e =
      let first = passes_then (found_or rule.Local (slice_get f.locals n)) (passing body asked) t e in
      let passed = tested (is_wanted body.classes asked first.0) first.0 rule.Local t first.1.1 in
      let there = found_is rule.Local (slice_get f.locals n) first.0 first.1.0 in
      (subst (λ (u : VType). slice_get f.locals n ≡ Some u) passed.1 there, subst (λ (u : VType). is_wanted body.classes asked u ≡ true) passed.1 passed.0)

-- a test on the way
pub demanded : (broken : CheckRule) (test : Bool) (f y : Frame) → demand broken test f ≡ Ok y → (test ≡ true) × (f ≡ y)
demanded broken test f y e = tested test f broken y e
