-- The verdict of demands in parts.
use Rattle.std.proofs.Common.{◌≡◌, ℕ, ◌+◌, ◌<◌, ◌≤◌, Bool, true, false, cond, List, [], ◌∷◌, ◌++◌, length, get_or, drop, add-one, drop-cons, Result, Ok, Err, refl, sym, ap, ◌∙◌}
use Rattle.std.proofs.Math.ListN.{drop_of_length-le}
use Rattle.cf_text.specs.declared.fault.ReadFault.{ReadFault}
use Rattle.cf_text.specs.declared.fault.ReadFault.TheVariants.{Broken, Memory}
use Rattle.cf_text.specs.Reading.{Fails}
use Rattle.cf_text.specs.Demands.{Demand, of_each, verdict}

-- a demand that holds leaves the rest to judge
one_holds : (holds : Bool) (fault : ReadFault) (front whole rest : Result (Unit {0}) ReadFault)
    → (front ≡ Ok tt → whole ≡ rest) → cond holds front (Err fault) ≡ Ok tt → cond holds whole (Err fault) ≡ rest
one_holds true fault front whole rest later e = later e
one_holds false fault front whole rest later e = absurd cc

-- a demand that fails is what fails
one_fails : (holds : Bool) (first fault : ReadFault) (front whole : Result (Unit {0}) ReadFault)
    → (front ≡ Err fault → whole ≡ Err fault) → cond holds front (Err first) ≡ Err fault → cond holds whole (Err first) ≡ Err fault
one_fails true first fault front whole later e = later e
one_fails false first fault front whole later e = e

-- what holds in front leaves the rest to judge
pub verdict-holds : (front rest : List Demand) → verdict front ≡ Ok tt → verdict (front ++ rest) ≡ verdict rest
unfolding verdict
verdict-holds [] rest holds = refl
verdict-holds (d ∷ front) rest holds =
    one_holds d.holds (Broken d.rule d.at) (verdict front) (verdict (front ++ rest)) (verdict rest) (verdict-holds front rest) holds

-- what fails in front is what fails
pub verdict-fails : (front rest : List Demand) (fault : ReadFault) → verdict front ≡ Err fault → verdict (front ++ rest) ≡ Err fault
unfolding verdict
verdict-fails [] rest fault fails = absurd cc
verdict-fails (d ∷ front) rest fault fails =
    one_fails d.holds (Broken d.rule d.at) fault (verdict front) (verdict (front ++ rest)) (verdict-fails front rest fault) fails

pub Fails-front : (front rest : List Demand) (fault : ReadFault) → Fails (verdict front) fault → Fails (verdict (front ++ rest)) fault
Fails-front front rest (Broken rule at) fails = verdict-fails front rest (Broken rule at) fails
Fails-front front rest Memory fails = tt

-- the verdict of what is left is that of all, one part further on
pub verdict-goes_on : (front rest all : List Demand) → verdict front ≡ Ok tt → verdict (front ++ rest) ≡ verdict all → verdict rest ≡ verdict all
verdict-goes_on front rest all holds so_far = sym (verdict-holds front rest holds) ∙ so_far

pub Fails-so_far : (front rest all : List Demand) (fault : ReadFault) → Fails (verdict front) fault → verdict (front ++ rest) ≡ verdict all → Fails (verdict all) fault
Fails-so_far front rest all (Broken rule at) fails so_far = sym so_far ∙ verdict-fails front rest (Broken rule at) fails
Fails-so_far front rest all Memory fails so_far = tt

-- Of the items of a list, those below an index keep their demands.
module _ {A : Type 0} (demands : ℕ → A → List Demand) (items : List A) (index : ℕ) (default item : A) (inside : index < length items) (is : get_or items index default ≡ item)
    (so_far : verdict (of_each demands index (drop index items)) ≡ verdict (of_each demands 0 items)) where
  of_each-here : verdict (demands index item ++ of_each demands (index + 1) (drop (index + 1) items)) ≡ verdict (of_each demands 0 items)
  unfolding of_each
  of_each-here =
      let rest : drop index items ≡ item ∷ drop (index + 1) items = rw (add-one, drop-cons items index default, is) refl in
      ap (λ left. verdict (of_each demands index left)) (sym rest) ∙ so_far

  -- and so does the item there
  pub of_each-goes_on : verdict (demands index item) ≡ Ok tt → verdict (of_each demands (index + 1) (drop (index + 1) items)) ≡ verdict (of_each demands 0 items)
  of_each-goes_on holds =
      verdict-goes_on (demands index item) (of_each demands (index + 1) (drop (index + 1) items)) (of_each demands 0 items) holds of_each-here

  -- and the item there does not
  pub of_each-fails : (fault : ReadFault) → Fails (verdict (demands index item)) fault → Fails (verdict (of_each demands 0 items)) fault
  of_each-fails fault fails = Fails-so_far (demands index item) (of_each demands (index + 1) (drop (index + 1) items)) (of_each demands 0 items) fault fails of_each-here

-- all items keep their demands
pub of_each-end : {A : Type 0} (demands : ℕ → A → List Demand) (items : List A) (index : ℕ) → length items ≤ index
    → verdict (of_each demands index (drop index items)) ≡ verdict (of_each demands 0 items) → verdict (of_each demands 0 items) ≡ Ok tt
unfolding of_each verdict
of_each-end demands items index all so_far = sym so_far ∙ ap (λ left. verdict (of_each demands index left)) (drop_of_length-le items all)

pub ruleset verdicts = (verdict-holds, verdict-fails, Fails-front)
