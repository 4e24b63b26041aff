use Rattle.std.proofs.Common.{◌≡◌, ◌+◌, length, vec_len, vec_capacity}
use Rattle.sp_outputs.specs.Notes.{noted}
use Rattle.sp_outputs.proofs.SlotLemmas.{ArePassed}
use Rattle.sp_outputs.proofs.note.tell_rank.Given as goal

abbrev pub invariant-loop-slot : goal.invariant-loop-slot
invariant-loop-slot l = record {
  passed : ArePassed l.rank l.slot-index l.initial.slots l.slots l.initial.told.items l.told.items;
  count : vec_len l.told + length (noted l.slots) ≡ vec_len l.initial.told + length (noted l.initial.slots);
  capacity : vec_capacity l.told ≡ vec_capacity l.initial.told;
}
