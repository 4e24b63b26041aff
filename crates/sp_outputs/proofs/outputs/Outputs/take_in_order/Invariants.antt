use Rattle.std.proofs.Common.{◌≡◌, ◌+◌, ◌≤◌, length, map, vec_len, vec_capacity}
use Rattle.sp_rules.specs.Events as rules
use Rattle.sp_outputs.specs.Notes.{noted, output_of}
use Rattle.sp_outputs.proofs.OrderLemmas.{from_rank}
use Rattle.sp_outputs.proofs.outputs.Outputs.take_in_order.Given as goal

abbrev pub invariant-loop-rank : goal.invariant-loop-rank
invariant-loop-rank l = record {
  told : map output_of l.told.items ≡ rules.of_ranks l.rank (noted l.initial.notes.items);
  left : noted l.notes.items ≡ from_rank l.rank (noted l.initial.notes.items);
  count : vec_len l.told + length (noted l.notes.items) ≡ length (noted l.initial.notes.items);
  room : length (noted l.initial.notes.items) ≤ vec_capacity l.told;
}
