-- What a report leaves on the two outputs. (This project's own.)
use Rattle.std.specs.Prelude.{◌≡◌, ◌⊎◌, ◌<◌, ◌++◌, ◌∷◌, [], ℕ, List, Option, length, take}
use Rattle.std.specs.Io.KnownBytes.{Appends}
use Rattle.sp_texts.specs.declared.status.Status.{Status}
use Rattle.sp_texts.specs.declared.status.Status.TheVariants.{Done, Ended, Refused, Failed}

-- a text went to the output of its status; what the outputs hold is named before and after, if it is known
abbrev pub Tells : Status → List ℕ → (out out' err err' : Option (List ℕ)) → Type 0
Tells Done text out out' err err' = Appends out out' text
Tells Ended text out out' err err' = Appends out out' text
Tells Refused text out out' err err' = Appends err err' text
Tells Failed text out out' err err' = Appends err err' text

-- the other output is left alone
abbrev pub LeavesOther : Status → (out out' err err' : Option (List ℕ)) → Type 0
LeavesOther Done out out' err err' = err' ≡ err
LeavesOther Ended out out' err err' = err' ≡ err
LeavesOther Refused out out' err err' = out' ≡ out
LeavesOther Failed out out' err err' = out' ≡ out

-- an output that failed took a front part of a text, and not all of it
abbrev pub IsCutOff : (before after : Option (List ℕ)) → List ℕ → Type 0
IsCutOff before after text = (taken : ℕ) × (taken < length text) × Appends before after (take taken text)

-- the output of a status failed in the middle of a text
abbrev pub CutsOff : Status → List ℕ → (out out' err err' : Option (List ℕ)) → Type 0
CutsOff Done text out out' err err' = IsCutOff out out' text
CutsOff Ended text out out' err err' = IsCutOff out out' text
CutsOff Refused text out out' err err' = IsCutOff err err' text
CutsOff Failed text out out' err err' = IsCutOff err err' text

-- The program ends with a text's own status if its output took all of it, and else as failed
abbrev pub IsTold : (due : Status) → List ℕ → (ends : Status) → (out out' err err' : Option (List ℕ)) → Type 0
IsTold due text ends out out' err err' =
    ((ends ≡ due) × Tells due text out out' err err') ⊎ ((ends ≡ Failed) × CutsOff due text out out' err err')

-- a line: what stands in it, and the newline that ends it
abbrev pub line_of : List ℕ → List ℕ
line_of text = text ++ (10 ∷ [])

-- a text is a line
abbrev pub IsLine : List ℕ → Type 0
IsLine text = (line : List ℕ) × (text ≡ line_of line)
