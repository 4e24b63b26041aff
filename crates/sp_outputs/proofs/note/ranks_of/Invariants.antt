use Rattle.std.proofs.Common.{◌≡◌, ◌<◌, ℕ, false, get_or, take}
use Rattle.sp_outputs.specs.Notes.{noted}
use Rattle.sp_outputs.specs.Ranks.{has_rank}
use Rattle.sp_outputs.proofs.note.ranks_of.Given as goal

-- the ranks of the notes so far
abbrev pub invariant-loop-slot : goal.invariant-loop-slot
invariant-loop-slot l = (k : ℕ) → k < 14 → get_or l.ranks k false ≡ has_rank (noted (take l.slot-index l.slots)) k
