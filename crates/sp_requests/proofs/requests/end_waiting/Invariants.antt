use Rattle.std.proofs.Common.{◌≡◌, ◌+◌, ◌≤◌, ◌++◌, length, vec_len, vec_capacity}
use Rattle.std.specs.List.{flat_map}
use Rattle.sp_requests.specs.Ends.{waiting_group}
use Rattle.sp_requests.proofs.requests.end_waiting.Given as goal

abbrev pub invariant-loop-asked : goal.invariant-loop-asked
invariant-loop-asked l = record {
  room : vec_len l.groups + length l.asked-iterator.rest.items ≤ vec_capacity l.groups;
  items : l.groups.items ≡ l.fn.groups.items ++ flat_map waiting_group l.yielded;
  whole : l.fn.waiting.items ≡ l.yielded ++ l.asked-iterator.rest.items;
}
