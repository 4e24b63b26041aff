use Rattle.std.proofs.Common.{◌≡◌, ℕ, ◌+◌, ◌-◌, ◌≤◌, Bool, true, false, cond, List, [], ◌∷◌, ◌++◌, length, filter, Option, Some, IsSome, refl, sym, ap, subst, ◌∙◌, arith}
use Rattle.std.specs.Prelude.{unwrap_or}
use Rattle.std.specs.Map as map
use Rattle.std.proofs.lemmas.Bool.{eqb-true}
use Rattle.space_ids.specs.declared.ids.ObjId.{ObjId}
use Rattle.sp_registry.specs.declared.registry.Binding.{Binding}
use Rattle.sp_registry.specs.Bindings.{is_of, lookup, rebound, unbound}
use Rattle.sp_registry.specs.Counts.{count_of, is_same, is_to, number_in}

-- ---- the table of numbers

same-object : (a b : ObjId) → is_same a b ≡ true → a ≡ b
same-object a b h = let p = eqb-true a.0 b.0 h in λ i. record { 0 = p i }

or-zero : (t : Bool) (w x : Option ℕ) → unwrap_or (cond t w x) 0 ≡ cond t (unwrap_or w 0) (unwrap_or x 0)
or-zero true w x = refl
or-zero false w x = refl

pub some-is : {X : Type 0} (v : X) (x : Option X) → Some v ≡ x → IsSome x
some-is v x h = subst (λ o. IsSome o) h refl

-- one object's number is another
pub number-set : (object : ObjId) (w : Option ℕ) (f : ℕ → ℕ) (old new : List (ObjId × ℕ)) → unwrap_or w 0 ≡ f (number_in old object)
    → ((q : ObjId) → map.lookup (is_same q) new ≡ cond (is_same object q) w (map.lookup (is_same q) old))
    → (q : ObjId) → number_in new q ≡ cond (is_same object q) (f (number_in old q)) (number_in old q)
number-set object w f old new is at q =
    ap (λ o. unwrap_or o 0) (at q) ∙ or-zero (is_same object q) w (map.lookup (is_same q) old)
    ∙ elim (is_same object q) as (λ t. is_same object q ≡ t → cond t (unwrap_or w 0) (number_in old q) ≡ cond t (f (number_in old q)) (number_in old q)) [
      | true ↦ λ here. is ∙ ap (λ o. f (number_in old o)) (same-object object q here)
      | false ↦ λ _. refl
    ] refl

-- an object that is not there stays so
pub number-absent : (object : ObjId) (old : List (ObjId × ℕ)) → number_in old object ≡ 0
    → (q : ObjId) → number_in old q ≡ cond (is_same object q) (number_in old q - 1) (number_in old q)
number-absent object old none q =
    elim (is_same object q) as (λ t. is_same object q ≡ t → number_in old q ≡ cond t (number_in old q - 1) (number_in old q)) [
      | true ↦ λ here. let zero : number_in old q ≡ 0 = ap (number_in old) (sym (same-object object q here)) ∙ none in omega (arith, zero)
      | false ↦ λ _. refl
    ] refl

-- ---- how many bindings are to an object

bit : Bool → ℕ
bit true = 1
bit false = 0

keep : (p : Bool) (x : Binding) (F G : List Binding) (m n : ℕ) → length F + m ≡ length G + n → length (cond p (x ∷ F) F) + m ≡ length (cond p (x ∷ G) G) + n
keep true x F G m n h = omega (arith, h)
keep false x F G m n h = h

swap : (p q : Bool) (x y : Binding) (F : List Binding) → length (cond p (x ∷ F) F) + bit q ≡ length (cond q (y ∷ F) F) + bit p
unfolding bit
swap true true x y F = refl
swap true false x y F = omega arith
swap false true x y F = omega arith
swap false false x y F = refl

count-rebound : (bs : List Binding) (name : List ℕ) (object before other : ObjId) → lookup bs name ≡ Some before
    → count_of (rebound bs name object) other + bit (is_same before other) ≡ count_of bs other + bit (is_same object other)
count-rebound [] name object before other h = cc
count-rebound (b ∷ bs) name object before other h =
    elim (is_of name b) as (λ t. cond t (Some b.object) (lookup bs name) ≡ Some before
    → count_of (cond t (record b { object = object } ∷ bs) (b ∷ rebound bs name object)) other + bit (is_same before other) ≡ count_of (b ∷ bs) other + bit (is_same object other)) [
      | true ↦ λ is. let same : b.object ≡ before = cc in
          subst (λ (x : ObjId). count_of (record b { object = object } ∷ bs) other + bit (is_same x other) ≡ count_of (b ∷ bs) other + bit (is_same object other)) same
          (swap (is_same object other) (is_same b.object other) (record b { object = object }) b (filter (is_to other) bs))
      | false ↦ λ rest. keep (is_same b.object other) b (filter (is_to other) (rebound bs name object)) (filter (is_to other) bs) _ _ (count-rebound bs name object before other rest)
    ] h

whole : (q : Bool) (y : Binding) (F : List Binding) → length F + bit q ≡ length (cond q (y ∷ F) F) + 0
unfolding bit
whole true y F = omega arith
whole false y F = refl

count-unbound : (bs : List Binding) (name : List ℕ) (before other : ObjId) → lookup bs name ≡ Some before
    → count_of (unbound bs name) other + bit (is_same before other) ≡ count_of bs other + 0
count-unbound [] name before other h = cc
count-unbound (b ∷ bs) name before other h =
    elim (is_of name b) as (λ t. cond t (Some b.object) (lookup bs name) ≡ Some before
    → count_of (cond t bs (b ∷ unbound bs name)) other + bit (is_same before other) ≡ count_of (b ∷ bs) other + 0) [
      | true ↦ λ is. let same : b.object ≡ before = cc in
          subst (λ (x : ObjId). count_of bs other + bit (is_same x other) ≡ count_of (b ∷ bs) other + 0) same
          (whole (is_same b.object other) b (filter (is_to other) bs))
      | false ↦ λ rest. keep (is_same b.object other) b (filter (is_to other) (unbound bs name)) (filter (is_to other) bs) _ 0 (count-unbound bs name before other rest)
    ] h

one : (b : Binding) (q : Bool) → length (cond q (b ∷ []) []) + 0 ≡ 0 + bit q
unfolding bit
one b true = refl
one b false = refl

count-append : (bs : List Binding) (b : Binding) (other : ObjId) → count_of (bs ++ b ∷ []) other + 0 ≡ count_of bs other + bit (is_same b.object other)
count-append [] b other = one b (is_same b.object other)
count-append (x ∷ bs) b other = keep (is_same x.object other) x (filter (is_to other) (bs ++ b ∷ [])) (filter (is_to other) bs) 0 _ (count-append bs b other)

-- no more bindings are to an object than there are
pub count-few : (bs : List Binding) (other : ObjId) → count_of bs other ≤ length bs
count-few [] other = omega arith
count-few (b ∷ bs) other =
    elim (is_same b.object other) as (λ t. length (cond t (b ∷ filter (is_to other) bs) (filter (is_to other) bs)) ≤ length (b ∷ bs))
    [ true ↦ omega (arith, count-few bs other) | false ↦ omega (arith, count-few bs other) ]

-- ---- the numbers count the bindings

abbrev pub AreCounted : List (ObjId × ℕ) → List Binding → Type 0
AreCounted counts bs = (object : ObjId) → number_in counts object ≡ count_of bs object

abbrev pub More : ObjId → List (ObjId × ℕ) → List (ObjId × ℕ) → Type 0
More object old new = (other : ObjId) → number_in new other ≡ cond (is_same object other) (number_in old other + 1) (number_in old other)

abbrev pub Less : ObjId → List (ObjId × ℕ) → List (ObjId × ℕ) → Type 0
Less object old new = (other : ObjId) → number_in new other ≡ cond (is_same object other) (number_in old other - 1) (number_in old other)

plus : (q : Bool) (n c d : ℕ) → n ≡ c → d + 0 ≡ c + bit q → cond q (n + 1) n ≡ d
unfolding bit
plus true n c d is more = omega (arith, is, more)
plus false n c d is more = omega (arith, is, more)

pub counted-append : (bs : List Binding) (b : Binding) (old new : List (ObjId × ℕ)) → AreCounted old bs → More b.object old new → AreCounted new (bs ++ b ∷ [])
counted-append bs b old new all more o = more o ∙ plus (is_same b.object o) (number_in old o) (count_of bs o) (count_of (bs ++ b ∷ []) o) (all o) (count-append bs b o)

minus : (q : Bool) (n c d : ℕ) → n ≡ c → d + bit q ≡ c + 0 → cond q (n - 1) n ≡ d
unfolding bit
minus true n c d is less = omega (arith, is, less)
minus false n c d is less = omega (arith, is, less)

pub counted-unbound : (bs : List Binding) (name : List ℕ) (before : ObjId) (old new : List (ObjId × ℕ)) → lookup bs name ≡ Some before
    → AreCounted old bs → Less before old new → AreCounted new (unbound bs name)
counted-unbound bs name before old new bound all less o =
    less o ∙ minus (is_same before o) (number_in old o) (count_of bs o) (count_of (unbound bs name) o) (all o) (count-unbound bs name before o bound)

both : (p q : Bool) (n m c d : ℕ) → n ≡ c → m ≡ cond p (n + 1) n → d + bit q ≡ c + bit p → cond q (m - 1) m ≡ d
unfolding bit
both true true n m c d is mid last = omega (arith, is, mid, last)
both true false n m c d is mid last = omega (arith, is, mid, last)
both false true n m c d is mid last = omega (arith, is, mid, last)
both false false n m c d is mid last = omega (arith, is, mid, last)

pub counted-rebound : (bs : List Binding) (name : List ℕ) (object before : ObjId) (old mid new : List (ObjId × ℕ)) → lookup bs name ≡ Some before
    → AreCounted old bs → More object old mid → Less before mid new → AreCounted new (rebound bs name object)
counted-rebound bs name object before old mid new bound all more less o =
    less o ∙ both (is_same object o) (is_same before o) (number_in old o) (number_in mid o) (count_of bs o) (count_of (rebound bs name object) o) (all o) (more o) (count-rebound bs name object before o bound)

-- a number that goes up and down again is what it was
pub counted-again : (bs : List Binding) (object : ObjId) (old mid new : List (ObjId × ℕ)) → AreCounted old bs → More object old mid → Less object mid new → AreCounted new bs
counted-again bs object old mid new all more less o =
    less o ∙ both (is_same object o) (is_same object o) (number_in old o) (number_in mid o) (count_of bs o) (count_of bs o) (all o) (more o) refl

pub counted-same : (bs : List Binding) (old new : List (ObjId × ℕ)) → AreCounted old bs → ((other : ObjId) → number_in new other ≡ number_in old other) → AreCounted new bs
counted-same bs old new all same o = same o ∙ all o
