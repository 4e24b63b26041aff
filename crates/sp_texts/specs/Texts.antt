-- What is printed of how a method ended, and of a class set that is accepted. (This project's own.)
use Rattle.std.specs.Prelude.{◌++◌, ◌∷◌, [], ℕ, ℤ, Some, None, List, codes}
use Rattle.std.specs.Fmt.{decimal, signed_decimal}
use Rattle.sp_files.specs.declared.outcome.RunOutcome.{RunOutcome}
use Rattle.sp_files.specs.declared.outcome.RunOutcome.TheVariants.{Returned, Threw, Spent}
use Rattle.space_ids.specs.declared.value.Value.{Value}
use Rattle.space_ids.specs.declared.value.Value.TheVariants.{Null, Int, Ints, Ref}

-- numbers, each after a comma
abbrev pub after_commas : List ℤ → List ℕ
after_commas [] = []
after_commas (n ∷ ns) = 44 ∷ (signed_decimal n ++ after_commas ns)

-- numbers, with commas between them
abbrev pub between_commas : List ℤ → List ℕ
between_commas [] = []
between_commas (n ∷ ns) = signed_decimal n ++ after_commas ns

-- numbers between brackets, with commas between them
abbrev pub ints_text : List ℤ → List ℕ
ints_text ns = 91 ∷ (between_commas ns ++ (93 ∷ []))

-- a value, as it is written for the command line; the space of a method that runs alone is named 0
abbrev pub value_text : Value → List ℕ
value_text Null = codes "null"
value_text (Int n) = signed_decimal n
value_text (Ints ns) = ints_text ns
value_text (Ref r) = codes "ref 0 " ++ decimal r.id.0

-- a class set that is accepted, by how many files there are
abbrev pub accepted_text : ℕ → List ℕ
accepted_text files = codes "accepted " ++ decimal files ++ codes " classes"

-- a line of a script that is bad, by its number
abbrev pub bad_line_text : ℕ → List ℕ
bad_line_text number = codes "line " ++ (decimal number ++ codes ": bad")

-- how a method ended
abbrev pub outcome_text : RunOutcome → List ℕ
outcome_text (Returned None) = codes "returned"
outcome_text (Returned (Some value)) = codes "returned " ++ value_text value
outcome_text (Threw class) = codes "threw " ++ class
outcome_text Spent = codes "spent"
