-- Words between brackets and commas.
use Rattle.std.proofs.Common.{◌≡◌, ◌≢◌, ◌<◌, ◌++◌, ◌∷◌, [], List, ℕ, ℤ, Bool, Option, Some, None, MatchOption, Bor, ◌==◌, true, false, length, FitsSigned, to_z, of_z, ap, sym, subst, ◌∙◌, append_assoc, arith}
use Rattle.std.specs.List.{slice_split, position_or_len, before_first, after_first}
use Rattle.std.proofs.lemmas.Int.{to_z-of_z}
use mir.Syntax.{w32}
use Rattle.std.proofs.lemmas.List.{append_cancel_right}
use Rattle.std.proofs.lemmas.List.Sums.{fails_before_first}
use Rattle.std.proofs.lemmas.List.Splits.{slice_split_first, slice_split_none}
use Rattle.sp_arguments.specs.Arguments.{IsNumber, AreNumbers, IsList, is_comma, IsBracketed}

-- what follows '[' is bracketed if it ends in ']'
pub bracketed : (word rest : List ℕ) (r : Option (Bor (List ℕ))) → word ≡ 91 ∷ rest
    → MatchOption r ((front : List ℕ) → rest ≢ front ++ (93 ∷ [])) (λ x. rest ≡ x.now ++ (93 ∷ []))
    → MatchOption r ((inside : List ℕ) → IsBracketed word inside → ⊥) (λ x. IsBracketed word x.now)
bracketed word rest None is h = λ inside e. h inside (cc (is, e))
bracketed word rest (Some x) is h = is ∙ ap (λ l. 91 ∷ l) h

-- a word is bracketed in one way
pub one_inside : (word a b : List ℕ) → IsBracketed word a → IsBracketed word b → a ≡ b
one_inside word a b x y = let e : a ++ (93 ∷ []) ≡ b ++ (93 ∷ []) = cc (x, y) in append_cancel_right a b (93 ∷ []) e

-- a bracketed word is no number
pub bracket_is_no_number : (word inside : List ℕ) (n : ℤ) → IsBracketed word inside → IsNumber word n → ⊥
bracket_is_no_number word inside n is number =
    let moved : IsNumber (91 ∷ (inside ++ (93 ∷ []))) n = subst (λ w. IsNumber w n) is number in
    let large : 36 < 10 = moved.1.1.0 in
    absurd (omega (arith, large))

-- numbers one after the other
pub more_numbers : (words : List (List ℕ)) (ns : List ℤ) (word : List ℕ) (n : ℤ)
    → AreNumbers words ns → IsNumber word n → AreNumbers (words ++ (word ∷ [])) (ns ++ (n ∷ []))
more_numbers [] [] word n are is = (is, tt)
more_numbers [] (m ∷ ms) word n are is = absurd are
more_numbers (w ∷ ws) [] word n are is = absurd are
more_numbers (w ∷ ws) (m ∷ ms) word n are is = (are.0, more_numbers ws ms word n are.1 is)

-- one word that is no number
pub no_numbers : (words after : List (List ℕ)) (word : List ℕ)
    → ((n : ℤ) → IsNumber word n → ⊥) → (ns : List ℤ) → AreNumbers (words ++ (word ∷ after)) ns → ⊥
no_numbers [] after word not [] are = are
no_numbers [] after word not (n ∷ ns) are = not n are.0
no_numbers (w ∷ ws) after word not [] are = are
no_numbers (w ∷ ws) after word not (n ∷ ns) are = no_numbers ws after word not ns are.1

-- a list that is not empty is that of its words
pub list_of_words : (inside : List ℕ) (ns : List ℤ) → 0 < length inside
    → AreNumbers (slice_split is_comma inside) ns → IsList inside ns
list_of_words [] ns long are = absurd (omega (arith, long))
list_of_words (c ∷ cs) ns long are = are

pub words_of_list : (inside : List ℕ) (ns : List ℤ) → 0 < length inside
    → IsList inside ns → AreNumbers (slice_split is_comma inside) ns
words_of_list [] ns long is = absurd (omega (arith, long))
words_of_list (c ∷ cs) ns long is = is

-- the words of a text are its first one and those after the comma
pub first_word : (text item following : List ℕ) → position_or_len is_comma text < length text
    → item ≡ before_first is_comma text → following ≡ after_first is_comma text
    → slice_split is_comma text ≡ item ∷ slice_split is_comma following
first_word text item following small is after = let parts = slice_split_first is_comma text 0 small in cc (parts, is, after)

-- a text with no comma is its one word
pub last_word : (text : List ℕ) → position_or_len is_comma text ≡ length text → slice_split is_comma text ≡ text ∷ []
last_word text none = slice_split_none is_comma text (λ k d small. fails_before_first is_comma text k d (omega (arith, none, small)))

-- a word moves from those that are left to those that are done
pub word_done : (all done words following : List (List ℕ)) (item : List ℕ) → all ≡ done ++ words → words ≡ item ∷ following
    → all ≡ (done ++ (item ∷ [])) ++ following
word_done all done words following item is first =
    is ∙ ap (λ l. done ++ l) first ∙ sym (append_assoc done (item ∷ []) following)

-- a list in which one word is no number
pub no_list : (inside : List ℕ) (done after : List (List ℕ)) (word : List ℕ) → 0 < length inside
    → slice_split is_comma inside ≡ done ++ (word ∷ after) → ((n : ℤ) → IsNumber word n → ⊥)
    → (ns : List ℤ) → IsList inside ns → ⊥
no_list inside done after word long is not ns list =
    no_numbers done after word not ns (subst (λ l. AreNumbers l ns) is (words_of_list inside ns long list))

-- a list of which all words are numbers
pub whole_list : (inside : List ℕ) (done : List (List ℕ)) (word : List ℕ) (ns : List ℤ) (n : ℤ) → 0 < length inside
    → slice_split is_comma inside ≡ done ++ (word ∷ []) → AreNumbers done ns → IsNumber word n
    → IsList inside (ns ++ (n ∷ []))
whole_list inside done word ns n long is are number =
    list_of_words inside (ns ++ (n ∷ [])) long
    (subst (λ l. AreNumbers l (ns ++ (n ∷ []))) (sym is) (more_numbers done ns word n are number))

-- a text that is not empty
pub nonempty : (text : List ℕ) (b : Bool) → b ≡ (length text == 0) → b ≡ false → 0 < length text
nonempty [] b is holds = let bad : true ≡ false = sym is ∙ holds in absurd (cc bad)
nonempty (c ∷ cs) b is holds = omega arith

-- the number of a word keeps its value in 32 bits
pub pushed : (ints after : List ℤ) (word : List ℕ) (n : ℤ) → IsNumber word n
    → after ≡ ints ++ (to_z w32 (of_z w32 n) ∷ []) → after ≡ ints ++ (n ∷ [])
pushed ints after word n is e =
    let fits : FitsSigned w32 n = subst (λ m. FitsSigned w32 m) (sym is.3) is.2 in
    e ∙ ap (λ m. ints ++ (m ∷ [])) (to_z-of_z w32 n fits)
