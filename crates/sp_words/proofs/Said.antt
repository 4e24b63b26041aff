-- What the getters give, by the rows of the matches.
use Rattle.std.proofs.Common.{◌≡◌, ◌∙◌, ℕ, List, [], Option, Some, None, Bor, map, ap, sym, subst, refl}
use Rattle.std.specs.Prelude.{option_map, unwrap_or}
use Rattle.clap.proofs.WalkLemmas.{first_value-rows, raw_values-rows}
use Rattle.clap.specs.Matches.{first_value, matched_of, raw_values}
use Rattle.clap.specs.Walk.{all_of, first_of, rows_of}
use Rattle.clap.specs.declared.parser.matches.Found.{Found}
use Rattle.sp_words.specs.CommandLine.{IsFuel, IsSaidFuel}

-- a word that is there
pub said : (found : Found) (id : List ℕ) (got : Option (Bor (List ℕ))) (word : Bor (List ℕ)) → option_map (λ s. s.now) got ≡ first_value found id
    → got ≡ Some word → first_of id (rows_of found) ≡ Some word.now
said found id got word gets is = sym (first_value-rows found id) ∙ sym gets ∙ ap (option_map (λ (s : Bor (List ℕ)). s.now)) is

-- a word that is not there
pub unsaid : (found : Found) (id : List ℕ) (got : Option (Bor (List ℕ))) → option_map (λ s. s.now) got ≡ first_value found id
    → got ≡ None → first_of id (rows_of found) ≡ None
unsaid found id got gets is = sym (first_value-rows found id) ∙ sym gets ∙ ap (option_map (λ (s : Bor (List ℕ)). s.now)) is

-- the words of an argument, or none
pub all_said : (found : Found) (id : List ℕ) (got : Option (Bor (List (Bor (List ℕ))))) (words none : Bor (List (Bor (List ℕ))))
    → option_map (λ s. map (λ v. v.now) s.now) got ≡ option_map raw_values (matched_of found id) → words ≡ unwrap_or got none → none.now ≡ []
    → map (λ v. v.now) words.now ≡ unwrap_or (all_of id (rows_of found)) []
all_said found id got words none gets is empty = all_gotten got words none is empty ∙ ap (λ o. unwrap_or o []) (gets ∙ raw_values-rows found id)
  where
    all_gotten : (got : Option (Bor (List (Bor (List ℕ))))) (words none : Bor (List (Bor (List ℕ)))) → words ≡ unwrap_or got none → none.now ≡ []
        → map (λ v. v.now) words.now ≡ unwrap_or (option_map (λ s. map (λ v. v.now) s.now) got) []
    all_gotten None words none is empty = ap (λ (w : Bor (List (Bor (List ℕ)))). map (λ v. v.now) w.now) is ∙ ap (map (λ (v : Bor (List ℕ)). v.now)) empty
    all_gotten (Some got) words none is empty = ap (λ (w : Bor (List (Bor (List ℕ)))). map (λ v. v.now) w.now) is

-- one word is not two
pub none_some : {A : Type 0} (o : Option A) (a : A) → o ≡ None → o ≡ Some a → ⊥
none_some o a none some = absurd (cc (none, some))

-- the fuel that a word says
pub fuel_is_said : (o : Option (List ℕ)) (word : List ℕ) (n : ℕ) → o ≡ Some word → IsFuel word n → IsSaidFuel o (Some n)
fuel_is_said o word n is fuel = subst (λ (o : Option (List ℕ)). IsSaidFuel o (Some n)) (sym is) fuel

pub no_fuel_said : (o : Option (List ℕ)) → o ≡ None → IsSaidFuel o None
no_fuel_said o is = subst (λ (o : Option (List ℕ)). IsSaidFuel o None) (sym is) refl

-- a word that says no fuel
pub says_no_fuel : (o : Option (List ℕ)) (word : List ℕ) → o ≡ Some word → ((n : ℕ) → IsFuel word n → ⊥) → (fuel : Option ℕ) → IsSaidFuel o fuel → ⊥
says_no_fuel o word is not fuel holds = told fuel (subst (λ (o : Option (List ℕ)). IsSaidFuel o fuel) is holds)
  where
    told : (fuel : Option ℕ) → IsSaidFuel (Some word) fuel → ⊥
    told None h = h
    told (Some n) h = not n h
