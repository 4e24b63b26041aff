-- Making one of each item of a list, as a loop does.
use Rattle.std.proofs.Common.{◌≡◌, ℕ, suc, ◌+◌, ◌<◌, ◌≤◌, List, [], ◌∷◌, ◌++◌, length, get_or, drop, add-one, drop-cons, Result, Ok, Err, refl, sym, ap, ◌∙◌, append_assoc}
use Rattle.std.specs.Prelude.{IfOk}
use Rattle.std.proofs.lemmas.List.{append-nil}
use Rattle.std.proofs.Math.ListN.{drop_of_length-le}
use Rattle.cf_text.specs.declared.fault.ReadFault.{ReadFault}
use Rattle.cf_text.specs.declared.fault.ReadFault.TheVariants.{Broken, Memory}
use Rattle.cf_text.specs.Reading.{◌>>=◌, Fails}
use Rattle.cf_reader.specs.Builds.{each}

-- what was made, in front of what is still made
abbrev pub before : {B : Type 0} → List B → Result (List B) ReadFault → Result (List B) ReadFault
before front reading = reading >>= λ others. Ok (front ++ others)

before-push : {B : Type 0} (front : List B) (first : B) (others : Result (List B) ReadFault)
    → before front (others >>= λ rest. Ok (first ∷ rest)) ≡ before (front ++ first ∷ []) others
before-push front first (Ok rest) = simp append_assoc
before-push front first (Err fault) = refl

-- Of the items those below an index are made, and stand in front.
module _ {A B : Type 0} (read : A → Result B ReadFault) (items : List A) (front : List B) (index : ℕ) (default item : A) (within : index < length items) (is : get_or items index default ≡ item)
    (so_far : before front (each read (drop index items)) ≡ each read items) where
  rest-is : drop index items ≡ item ∷ drop (index + 1) items
  rest-is = rw (add-one, drop-cons items index default, is) refl

  pub each-goes_on : (first : B) → read item ≡ Ok first → before (front ++ first ∷ []) (each read (drop (index + 1) items)) ≡ each read items
  unfolding each
  each-goes_on first step =
      let one : before front (each read (drop index items)) ≡ before (front ++ first ∷ []) (each read (drop (index + 1) items)) =
      ap (λ left. before front (each read left)) rest-is ∙ rw step (before-push front first (each read (drop (index + 1) items))) in
      sym one ∙ so_far

  pub each-fails : (fault : ReadFault) → Fails (read item) fault → Fails (each read items) fault
  unfolding each
  each-fails (Broken rule at) fails =
      let one : before front (each read (drop index items)) ≡ Err (Broken rule at) = ap (λ left. before front (each read left)) rest-is ∙ rw fails refl in
      sym so_far ∙ one
  each-fails Memory fails = tt

pub each-end : {A B : Type 0} (read : A → Result B ReadFault) (items : List A) (front : List B) (index : ℕ) → length items ≤ index
    → before front (each read (drop index items)) ≡ each read items → each read items ≡ Ok front
unfolding each
each-end read items front index all so_far =
    let one : before front (each read (drop index items)) ≡ Ok front = ap (λ left. before front (each read left)) (drop_of_length-le items all) ∙ ap Ok (append-nil front) in
    sym so_far ∙ one

-- a list of n
abbrev IsLong : {B : Type 0} → ℕ → List B → Type 0
IsLong n ys = length ys ≡ n

if_bound : {A B : Type 0} (Q : B → Type 0) (reading : Result A ReadFault) (next : A → Result B ReadFault) → ((x : A) → IfOk (next x) Q) → IfOk (reading >>= next) Q
if_bound Q (Ok x) next then = then x
if_bound Q (Err fault) next then = tt

one_more_long : {B : Type 0} (n : ℕ) (first : B) (others : Result (List B) ReadFault) → IfOk others (IsLong n) → IfOk {T = List B} (others >>= λ rest. Ok (first ∷ rest)) (IsLong (suc n))
one_more_long n first (Ok rest) long = ap suc long
one_more_long n first (Err fault) long = tt

-- n items make n values
pub each-long : {A B : Type 0} (read : A → Result B ReadFault) (items : List A) → IfOk {T = List B} (each read items) (λ ys. length ys ≡ length items)
unfolding each
each-long read [] = refl
each-long {A} {B} read (item ∷ items) =
    if_bound (IsLong {B = B} (suc (length items))) (read item) (λ first. each read items >>= λ others. Ok (first ∷ others))
    (λ first. one_more_long (length items) first (each read items) (each-long read items))
