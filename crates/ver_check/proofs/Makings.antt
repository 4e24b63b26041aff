-- What is made in a loop, step by step.
use Rattle.std.proofs.Common.{◌≡◌, ℕ, zero, suc, ◌+◌, ◌<◌, ◌≤◌, inl, inr, Result, Ok, Err, List, [], ◌∷◌, ◌++◌, length, get_or, drop, refl, ap, sym, subst, ◌∙◌, arith, drop-cons, add-one}
use Rattle.std.proofs.Common as Common
use Rattle.std.specs.Prelude.{map, reverse}
use Rattle.cf_text.specs.declared.types.FieldType.{FieldType}
use Rattle.std.specs.List.{AllByRecursion}
use Rattle.std.proofs.lemmas.List.{drop_all, reverse-append, take_all as all_taken}
use Rattle.ver_check.specs.Bodies.{Body}
use Rattle.ver_check.specs.Faults.{IsWrongAmong, IsWrongTarget}
use Rattle.ver_check.specs.Flow.{Settles}
use Rattle.ver_check.specs.Makes.{Makes}
use Rattle.ver_check.specs.Steps.{◌>>=◌, give, give_all, take, take_all}
use Rattle.ver_check.specs.Typing.{Lands}
use Rattle.ver_rules.specs.declared.fault.CheckRule.{CheckRule}
use Rattle.ver_check.specs.declared.stop.Stop.{Stop}
use Rattle.ver_check.specs.declared.stop.Stop.TheVariants.{Broken, Missing, Memory}
use Rattle.ver_rules.specs.declared.want.Want.TheVariants as want
use Rattle.ver_frames.specs.Frames.{Frame}
use Rattle.ver_frames.specs.Types.{field_vtype}
use Rattle.ver_frames.specs.declared.vtype.VType.{VType}

-- if a step stops, the whole does
pub step_stops : (s : Stop) (r total : Result Frame CheckRule) (k : Frame → Result Frame CheckRule) (g h : Frame) → Makes {X = Unit {0}} (λ _. g) (Err s) r → (r >>= k) ≡ total
    → Makes {X = Unit {0}} (λ _. h) (Err s) total
step_stops (Broken rule) r total k g h is so_far = sym so_far ∙ ap (λ (x : Result Frame CheckRule). x >>= k) is
step_stops (Missing index) r total k g h is so_far = is
step_stops Memory r total k g h is so_far = tt

-- if it does not, the rest is left
pub step_goes : (r total : Result Frame CheckRule) (k : Frame → Result Frame CheckRule) (g : Frame) → r ≡ Ok g → (r >>= k) ≡ total → k g ≡ total
step_goes r total k g is so_far = sym (ap (λ (x : Result Frame CheckRule). x >>= k) is) ∙ so_far

-- one more operand is given
pub give_next : (body : Body) (kinds : List VType) (k : ℕ) (d : VType) (f : Frame) → k < length kinds
    → give_all body (drop k kinds) f ≡ (give body (get_or kinds k d) f >>= give_all body (drop (k + 1) kinds))
unfolding give_all
give_next body kinds k d f lt = rw (add-one k, drop-cons kinds k d) refl

pub give_end : (body : Body) (kinds : List VType) (k : ℕ) (f : Frame) → length kinds ≤ k → give_all body (drop k kinds) f ≡ Ok f
unfolding give_all
give_end body kinds k f le = rw (drop_all k kinds le) refl

one_longer : {A : Type 0} (f : A → VType) (d : A) (xs : List A) (n : ℕ) → n < length xs → map f (Common.take (suc n) xs) ≡ map f (Common.take n xs) ++ f (get_or xs n d) ∷ []
one_longer f d [] n lt = absurd (omega arith)
one_longer f d (x ∷ xs) zero lt = refl
one_longer f d (x ∷ xs) (suc n) lt = ap (λ (ts : List VType). f x ∷ ts) (one_longer f d xs n (omega arith))

-- the last of a list's items is the first of them turned round
pub last_first : {A : Type 0} (f : A → VType) (xs : List A) (n : ℕ) (d : A) → n < length xs
    → reverse (map f (Common.take (suc n) xs)) ≡ f (get_or xs n d) ∷ reverse (map f (Common.take n xs))
last_first f xs n d lt =
    ap (λ (ts : List VType). reverse ts) (one_longer f d xs n lt) ∙ reverse-append (map f (Common.take n xs)) (f (get_or xs n d) ∷ [])

module _ (body : Body) (types : List FieldType) (frame : Frame) (total : Result Frame CheckRule) where
  -- one more argument is taken
  pub next_argument : (count n : ℕ) (x : FieldType) → count ≡ suc n → n < length types → x ≡ get_or types n x
      → take_all body (reverse (map (field_vtype body.classes) (Common.take count types))) frame ≡ total
      → (take body (want.Fits (field_vtype body.classes x)) frame >>= take_all body (reverse (map (field_vtype body.classes) (Common.take n types)))) ≡ total
  unfolding take_all
  next_argument count n x e lt is so_far =
      let split : reverse (map (field_vtype body.classes) (Common.take (suc n) types)) ≡ field_vtype body.classes x ∷ reverse (map (field_vtype body.classes) (Common.take n types)) =
      last_first (field_vtype body.classes) types n x lt ∙ ap (λ (y : FieldType). field_vtype body.classes y ∷ reverse (map (field_vtype body.classes) (Common.take n types))) (sym is) in
      subst (λ (ts : List VType). take_all body ts frame ≡ total) split
      (subst (λ (k : ℕ). take_all body (reverse (map (field_vtype body.classes) (Common.take k types))) frame ≡ total) e so_far)

  -- none is left
  pub no_argument : (count : ℕ) → count ≤ 0 → take_all body (reverse (map (field_vtype body.classes) (Common.take count types))) frame ≡ total → total ≡ Ok frame
  unfolding take_all
  no_argument zero le so_far = sym so_far
  no_argument (suc n) le so_far = absurd (omega (arith, le))

-- ---- targets

module _ (body : Body) (from : ℕ) (after : Frame) where
  pub one_more_lands : (ts : List ℕ) (k : ℕ) (d : ℕ) → k < length ts → AllByRecursion (Lands body after) (Common.take k ts) → Lands body after (get_or ts k d)
      → AllByRecursion (Lands body after) (Common.take (suc k) ts)
  one_more_lands [] k d lt all here = absurd (omega arith)
  one_more_lands (t ∷ ts) zero d lt all here = (here, tt)
  one_more_lands (t ∷ ts) (suc k) d lt all here = (all.0, one_more_lands ts k d (omega arith) all.1 here)

  pub all_land : (ts : List ℕ) (k : ℕ) → length ts ≤ k → AllByRecursion (Lands body after) (Common.take k ts) → AllByRecursion (Lands body after) ts
  all_land ts k le all = subst (λ (xs : List ℕ). AllByRecursion (Lands body after) xs) (all_taken k ts le) all

  wrong_at : (rule : CheckRule) (told : ℕ) (ts : List ℕ) (k : ℕ) (d : ℕ) → k < length ts → AllByRecursion (Lands body after) (Common.take k ts)
      → IsWrongTarget body from after (get_or ts k d) rule told → IsWrongAmong body from after ts rule told
  wrong_at rule told [] k d lt all wrong = absurd (omega arith)
  wrong_at rule told (t ∷ ts) zero d lt all wrong = inl wrong
  wrong_at rule told (t ∷ ts) (suc k) d lt all wrong = inr (all.0, wrong_at rule told ts k d (omega arith) all.1 wrong)

  -- a target at which the frame does not land
  pub stops_at : (s : Stop) (ts : List ℕ) (k : ℕ) (d : ℕ) → k < length ts → AllByRecursion (Lands body after) (Common.take k ts)
      → Settles {X = Unit {0}} from (Err s) (Lands body after (get_or ts k d)) (IsWrongTarget body from after (get_or ts k d))
      → Settles {X = Unit {0}} from (Err s) (AllByRecursion (Lands body after) ts) (IsWrongAmong body from after ts)
  stops_at (Broken rule) ts k d lt all wrong = wrong_at rule from ts k d lt all wrong
  stops_at (Missing index) ts k d lt all wrong = wrong_at _ index ts k d lt all wrong
  stops_at Memory ts k d lt all wrong = tt

  -- the default target, and then the others
  pub lands_first : (t : ℕ) (ts : List ℕ) (r : Result (Unit {0}) Stop) → Lands body after t → Settles from r (AllByRecursion (Lands body after) ts) (IsWrongAmong body from after ts)
      → Settles from r (AllByRecursion (Lands body after) (t ∷ ts)) (IsWrongAmong body from after (t ∷ ts))
  lands_first t ts (Ok x) here others = (here, others)
  lands_first t ts (Err (Broken rule)) here others = inr (here, others)
  lands_first t ts (Err (Missing index)) here others = inr (here, others)
  lands_first t ts (Err Memory) here others = tt

  pub stops_first : (s : Stop) (t : ℕ) (ts : List ℕ) → Settles {X = Unit {0}} from (Err s) (Lands body after t) (IsWrongTarget body from after t)
      → Settles {X = Unit {0}} from (Err s) (AllByRecursion (Lands body after) (t ∷ ts)) (IsWrongAmong body from after (t ∷ ts))
  stops_first (Broken rule) t ts wrong = inl wrong
  stops_first (Missing index) t ts wrong = inl wrong
  stops_first Memory t ts wrong = tt
