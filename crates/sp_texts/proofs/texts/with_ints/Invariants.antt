use Rattle.std.proofs.Common.{◌≡◌, ◌++◌, ◌∷◌}
use Rattle.sp_texts.specs.Texts.{between_commas}
use Rattle.sp_texts.proofs.Written.{left_text}
use Rattle.sp_texts.proofs.texts.with_ints.Given as goal

-- the line so far and what is left are all of it but the closing bracket
abbrev pub invariant-loop-index : goal.invariant-loop-index
invariant-loop-index l = l.line ++ left_text l.index l.ints ≡ l.fn.line ++ (91 ∷ between_commas l.ints)
