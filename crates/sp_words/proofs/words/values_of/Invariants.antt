use Rattle.std.proofs.Common.{take}
use Rattle.sp_words.proofs.Spelled.{AreValues}
use Rattle.sp_words.proofs.words.values_of.Given as goal

-- the words so far spell the values so far
abbrev pub invariant-loop-word : goal.invariant-loop-word
invariant-loop-word l = AreValues (take l.word-index l.words) l.values.items
