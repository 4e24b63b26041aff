use Rattle.std.proofs.Common.{◌≡◌, ◌-◌, ◌+◌, ◌≤◌}
use Rattle.ver_frames.specs.Chains.{Keeps, Stands, types_of}
use Rattle.ver_frames.specs.StackMap.{items, with_front}
use Rattle.ver_frames.proofs.items.append_items.Given as goal

abbrev pub invariant-loop : goal.invariant-loop
invariant-loop l = record {
  read : with_front (types_of l.nodes l.longer) (items l.method (l.count - l.counter) l.rest) ≡ with_front (types_of l.fn.nodes l.fn.chain) (items l.method l.count l.bytes);
  stands : Stands l.nodes l.longer;
  few : l.longer.count ≤ 65535 + l.counter;
  kept : Keeps l.fn.nodes l.nodes;
}
