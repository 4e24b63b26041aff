-- What is still to be written of an array.
use Rattle.std.proofs.Common.{ℕ, ℤ, zero, suc, List, drop}
use Rattle.sp_texts.specs.Texts.{after_commas, between_commas}

-- the numbers from an index on; those before stand there already
abbrev pub left_text : ℕ → List ℤ → List ℕ
left_text zero ns = between_commas ns
left_text (suc index) ns = after_commas (drop (suc index) ns)
