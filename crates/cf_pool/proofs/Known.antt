-- What is known of the texts of a pool stays right as more is noted.
use Rattle.std.proofs.Common.{◌≡◌, ℕ, zero, suc, Bool, Option, Some, None, List, [], ◌∷◌, replicate, refl, subst, sym}
use Rattle.std.specs.Prelude.{IfSome, slice_index_or, slice_set}
use Rattle.cf_pool.specs.Known.{Knows}
use Rattle.cf_pool.specs.Pools.{utf8_at}
use Rattle.cf_pool.specs.declared.pool.Entry.{Entry}

-- what is said of an answer to a text
abbrev Right : (List ℕ → Bool) → Option (List ℕ) → Option Bool → Type 0
Right test text answer = IfSome answer (λ answer. IfSome text (λ text. answer ≡ test text))

pub right : (test : List ℕ → Bool) (pool : List Entry) (known : List (Option Bool)) (index : ℕ) (answer : Bool) (text : List ℕ) → Knows test pool known → slice_index_or known index None ≡ Some answer
    → utf8_at pool index ≡ Some text → answer ≡ test text
unfolding Knows
right test pool known index answer text knows found at =
    subst (λ (t : Option (List ℕ)). Right test t (Some answer)) at (subst (λ (o : Option Bool). Right test (utf8_at pool index) o) found (knows index))

-- one answer is written
written : (P : ℕ → Option Bool → Type 0) (known : List (Option Bool)) (index : ℕ) (answer : Option Bool) (k : ℕ) → P k (slice_index_or known k None) → P index answer
    → P k (slice_index_or (slice_set known index answer) k None)
written P [] index answer k old here = old
written P (first ∷ others) zero answer zero old here = here
written P (first ∷ others) zero answer (suc k) old here = old
written P (first ∷ others) (suc index) answer zero old here = old
written P (first ∷ others) (suc index) answer (suc k) old here = written (λ n. P (suc n)) others index answer k old here

pub noted : (test : List ℕ → Bool) (pool : List Entry) (known : List (Option Bool)) (index : ℕ) (answer : Bool) (text : List ℕ) → Knows test pool known → utf8_at pool index ≡ Some text
    → answer ≡ test text → Knows test pool (slice_set known index (Some answer))
unfolding Knows
noted test pool known index answer text knows at so k =
    written (λ n o. Right test (utf8_at pool n) o) known index (Some answer) k (knows k)
    (subst (λ (t : Option (List ℕ)). Right test t (Some answer)) (sym at) so)

unknown : (n k : ℕ) → ◌≡◌ {A = Option Bool} (slice_index_or (replicate n None) k None) None
unknown zero k = refl
unknown (suc n) zero = refl
unknown (suc n) (suc k) = unknown n k

pub nothing : (test : List ℕ → Bool) (pool : List Entry) (n : ℕ) → Knows test pool (replicate n None)
unfolding Knows
nothing test pool n k = subst (λ (o : Option Bool). Right test (utf8_at pool k) o) (sym (unknown n k)) tt
