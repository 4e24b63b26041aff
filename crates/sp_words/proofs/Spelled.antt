-- Arguments one after the other, and the values that they spell.
use Rattle.std.proofs.Common.{◌≡◌, ◌++◌, ℕ, zero, suc, List, [], ◌∷◌, Bor, ◌<◌, ◌≤◌, length, map, take, Option, Some, None, MatchOption, sym, subst, slice_index_or, arith}
use Rattle.std.specs.List.{AllZip}
use Rattle.space_ids.specs.declared.value.Value.{Value}
use Rattle.sp_arguments.specs.Arguments.{Spells}

-- the words spell the values, each its own
abbrev pub AreValues : List (Bor (List ℕ)) → List Value → Type 0
AreValues words values = AllZip Spells (map (λ word. word.now) words) values

-- one word more, and its value
pub one_more : (words : List (Bor (List ℕ))) (index : ℕ) (word : Bor (List ℕ)) (values : List Value) (value : Value) → index < length words
    → AreValues (take index words) values → Spells (slice_index_or words index word).now value → AreValues (take (suc index) words) (values ++ value ∷ [])
one_more [] index word values value within are spells = absurd (omega (arith, within))
one_more (w ∷ words) zero word [] value within are spells = (spells, tt)
one_more (w ∷ words) zero word (v ∷ values) value within are spells = absurd are
one_more (w ∷ words) (suc index) word [] value within are spells = absurd are
one_more (w ∷ words) (suc index) word (v ∷ values) value within are spells = (are.0, one_more words index word values value (omega (arith, within)) are.1 spells)

-- a word that spells no value
pub no_values : (words : List (Bor (List ℕ))) (index : ℕ) (word : Bor (List ℕ)) → index < length words
    → ((value : Value) → Spells (slice_index_or words index word).now value → ⊥) → (values : List Value) → AreValues words values → ⊥
no_values [] index word within not values are = absurd (omega (arith, within))
no_values (w ∷ words) index word within not [] are = are
no_values (w ∷ words) zero word within not (v ∷ values) are = not v are.0
no_values (w ∷ words) (suc index) word within not (v ∷ values) are = no_values words index word (omega (arith, within)) not values are.1

-- all words
pub all_words : (words : List (Bor (List ℕ))) (index : ℕ) (values : List Value) → length words ≤ index → AreValues (take index words) values → AreValues words values
all_words [] zero values past are = are
all_words [] (suc index) values past are = are
all_words (w ∷ words) zero values past are = absurd (omega (arith, past))
all_words (w ∷ words) (suc index) [] past are = are
all_words (w ∷ words) (suc index) (v ∷ values) past are = (are.0, all_words words index values (omega (arith, past)) are.1)

-- what holds of an option, if it is known which
pub of_some : {A : Type 0} (N : Type 0) (P : A → Type 0) (o : Option A) (value : A) → o ≡ Some value → MatchOption o N P → P value
of_some N P o value is holds = subst (λ o. MatchOption o N P) is holds

pub of_none : {A : Type 0} (N : Type 0) (P : A → Type 0) (o : Option A) → o ≡ None → MatchOption o N P → N
of_none N P o is holds = subst (λ o. MatchOption o N P) is holds

pub to_none : {A : Type 0} (N : Type 0) (P : A → Type 0) (o : Option A) → o ≡ None → N → MatchOption o N P
to_none N P o is holds = subst (λ o. MatchOption o N P) (sym is) holds
