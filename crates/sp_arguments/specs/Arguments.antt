-- What words stand for that spell arguments of a method. (This project's own.)
use Rattle.std.specs.Prelude.{◌≡◌, ◌≢◌, ℕ, ℤ, Bool, ◌==◌, List, [], ◌∷◌, ◌++◌, slice_index, FitsSigned, codes, ⊤}
use Rattle.std.specs.Str.Parse.{IsNumeral, without_leading_sign, signed_digits_value}
use Rattle.std.specs.List.{slice_split}
use mir.Syntax.{w32}
use Rattle.space_ids.specs.declared.value.Value.{Value}
use Rattle.space_ids.specs.declared.value.Value.TheVariants.{Null, Int, Ints, Ref}

-- a whole number: digits after at most a '-', which 32 bits hold
abbrev pub IsNumber : List ℕ → ℤ → Type 0
IsNumber word n = (slice_index word 0 ≢ 43)
    × IsNumeral 10 (without_leading_sign word)
    × FitsSigned w32 (signed_digits_value 10 word)
    × (n ≡ signed_digits_value 10 word)

-- the words and the numbers have one length, and each word spells the number at its index
abbrev pub AreNumbers : List (List ℕ) → List ℤ → Type 0
AreNumbers [] [] = ⊤
AreNumbers (word ∷ words) (n ∷ ns) = IsNumber word n × AreNumbers words ns
AreNumbers _ _ = ⊥

abbrev pub is_comma : ℕ → Bool
is_comma byte = byte == 44

-- what stands between the brackets of an array: nothing, or numbers that commas part
abbrev pub IsList : List ℕ → List ℤ → Type 0
IsList [] ns = ns ≡ []
IsList (c ∷ cs) ns = AreNumbers (slice_split is_comma (c ∷ cs)) ns

-- a word is another between '[' and ']'
abbrev pub IsBracketed : List ℕ → List ℕ → Type 0
IsBracketed word inside = word ≡ 91 ∷ (inside ++ (93 ∷ []))

-- a word stands for a value
abbrev pub Spells : List ℕ → Value → Type 0
Spells word Null = word ≡ codes "null"
Spells word (Int n) = IsNumber word n
Spells word (Ints ns) = (inside : List ℕ) × IsBracketed word inside × IsList inside ns
Spells word (Ref _) = ⊥
